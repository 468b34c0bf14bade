-- The numbers of a result go by the two types and by what tables describe, not by how the types were found to differ in widths alone.
-- Assumes nothing.
use mathlib.Core.Path.{◌≡◌, refl, sym, ap, ap₂, ◌∙◌}
use mathlib.Core.List.{List, [], ◌∷◌, ◌++◌, Memᴰ}
use Prim.Native.Nat.{ℕ, zero, suc, ◌+◌, ◌-◌}
use Rattle.columnar.specs.Row.{seg}
use Rattle.columnar.specs.Types.{Number, int, w1, half, limit, Plain, fixed, string, Ty, t_plain, t_view, t_list_view, t_list, t_sparse, t_dense, t_run_end, t_dictionary}
use Rattle.columnar.specs.Array.{Array, item}
use Rattle.columnar.specs.Plain.{PlainBody}
use Rattle.columnar.specs.RunEnd.{RunEnd}
use Rattle.columnar.specs.Reading.{Body, Column}
use Rattle.columnar.specs.Test.{member}
use Rattle.columnar.proofs.WiderKinds.{declares}
use Rattle.array_data.specs.Tables.{Tables, first_buffer, array_with}
use Rattle.array_data.specs.Typed.{Tree, node_of, plain_body, body_of, column_of}
use Rattle.refinement.specs.finishing.Shows.{ShowsNode, ShowsPlain, ShowsData, Shows}
use Rattle.anew.specs.widths.Widths.{PlainWidths, s_fixed, s_string, Widths, s_plain, s_view, s_list_view, s_list, s_sparse, s_dense, s_run_end, s_dictionary}
use Rattle.anew.specs.widths.Converted.{span_of, offsets_of, first_of, many_of, ends_of, pick}
use Rattle.anew.specs.widths.Fitting.{Demand, needs, gather, numbers_of, plain_numbers, numbers_in, numbers}
use Rattle.anew.proofs.widths.Fits.{picked}

-- ---- what a type has

abbrev width_of : Ty → ℕ
width_of (t_plain p) = 0
width_of t_view = 0
width_of (t_list_view w t) = w
width_of (t_list w t) = w
width_of (t_sparse ids nullable f) = 0
width_of (t_dense ids nullable f) = 0
width_of (t_run_end w t) = w
width_of (t_dictionary k p) = 0

abbrev below : Ty → Ty
below (t_plain p) = t_view
below t_view = t_view
below (t_list_view w t) = t
below (t_list w t) = t
below (t_sparse ids nullable f) = t_view
below (t_dense ids nullable f) = t_view
below (t_run_end w t) = t
below (t_dictionary k p) = t_view

abbrev field : Ty → ℕ → Ty
field (t_plain p) c = t_view
field t_view c = t_view
field (t_list_view w t) c = t_view
field (t_list w t) c = t_view
field (t_sparse ids nullable f) c = f c
field (t_dense ids nullable f) c = f c
field (t_run_end w t) c = t_view
field (t_dictionary k p) c = t_view

abbrev key_of : Ty → Number
key_of (t_plain p) = (int w1)
key_of t_view = (int w1)
key_of (t_list_view w t) = (int w1)
key_of (t_list w t) = (int w1)
key_of (t_sparse ids nullable f) = (int w1)
key_of (t_dense ids nullable f) = (int w1)
key_of (t_run_end w t) = (int w1)
key_of (t_dictionary k p) = k

abbrev plain_of : Ty → Plain
plain_of (t_plain p) = p
plain_of t_view = fixed (int w1)
plain_of (t_list_view w t) = fixed (int w1)
plain_of (t_list w t) = fixed (int w1)
plain_of (t_sparse ids nullable f) = fixed (int w1)
plain_of (t_dense ids nullable f) = fixed (int w1)
plain_of (t_run_end w t) = fixed (int w1)
plain_of (t_dictionary k p) = p

abbrev text_of : Plain → ℕ
text_of (fixed n) = 0
text_of (string w) = w

-- ---- the numbers by the types

abbrev plain_by : (p p' : Plain) → PlainBody p → ℕ → ℕ → List Demand
plain_by (fixed k) p' b s n = []
plain_by (string w) p' b s n = needs 6 (half (text_of p')) (offsets_of w b.offsets s n)

abbrev numbers_by : (t t' : Ty) → Body t → ℕ → ℕ → List Demand
numbers_by (t_plain p) t' b s n = plain_by p (plain_of t') b s n
numbers_by t_view t' b s n = []
numbers_by (t_list_view w t) t' b s n =
    needs 6 (half (width_of t')) (seg (item w b.offsets) s n)
    ++ (needs 6 (half (width_of t')) (seg (item w b.sizes) s n) ++ numbers_of (numbers_by t (below t')) b.child 0 b.child.len)
numbers_by (t_list w t) t' b s n =
    needs 6 (half (width_of t')) (offsets_of w b.offsets s n) ++ numbers_of (numbers_by t (below t')) b.child (item w b.offsets s) (span_of w b.offsets s n)
numbers_by (t_sparse ids nullable f) t' b s n = gather ids (λ c. numbers_of (numbers_by (f c) (field t' c)) (b.children c) s n)
numbers_by (t_dense ids nullable f) t' b s n = gather ids (λ c. numbers_of (numbers_by (f c) (field t' c)) (b.children c) 0 (b.children c).len)
numbers_by (t_run_end w t) t' b s n =
    needs 7 (half (width_of t')) (ends_of w b s n) ++ numbers_of (numbers_by t (below t')) b.values (first_of w b s n) (many_of w b s n)
numbers_by (t_dictionary k p) t' b s n = needs 8 (limit (key_of t')) ((b.values.len - 1) ∷ []) ++ numbers_of (plain_by p (plain_of t')) b.values 0 b.values.len

gather_same : (cs : List ℕ) (f g : ℕ → List Demand) → ((c : ℕ) → Memᴰ c cs → f c ≡ g c) → gather cs f ≡ gather cs g
gather_same [] f g h = refl
gather_same (c ∷ cs) f g h = ap₂ ◌++◌ (h c (Memᴰ.head refl)) (gather_same cs f g (λ e m. h e (Memᴰ.tail m)))

plain_by_lem : {p p' : Plain} (d : PlainWidths p p') (b : PlainBody p) (s n : ℕ) → plain_numbers d b s n ≡ plain_by p p' b s n
plain_by_lem (s_fixed k) b s n = refl
plain_by_lem (s_string w w') b s n = refl

-- NO DERIVATION MATTERS
pub numbers_by_lem : {t t' : Ty} (d : Widths t t') (b : Body t) (s n : ℕ) → numbers_in d b s n ≡ numbers_by t t' b s n
numbers_by_lem (s_plain p p' d) b s n = plain_by_lem d b s n
numbers_by_lem s_view b s n = refl
numbers_by_lem (s_list_view w w' t t' d) b s n =
    ap (λ l. needs 6 (half w') (seg (item w b.offsets) s n) ++ (needs 6 (half w') (seg (item w b.sizes) s n) ++ l)) (numbers_by_lem d b.child.body (b.child.off + 0) b.child.len)
numbers_by_lem (s_list w w' t t' d) b s n =
    ap (λ l. needs 6 (half w') (offsets_of w b.offsets s n) ++ l) (numbers_by_lem d b.child.body (b.child.off + item w b.offsets s) (span_of w b.offsets s n))
numbers_by_lem (s_sparse ids nullable nullable' f f' e d) b s n =
    gather_same ids (λ c. pick (member c ids) (λ m. numbers_of (numbers_in (d c m)) (b.children c) s n) []) (λ c. numbers_of (numbers_by (f c) (f' c)) (b.children c) s n)
    (λ c q. let m = declares c ids q in
    picked (member c ids) (λ m. numbers_of (numbers_in (d c m)) (b.children c) s n) [] m ∙ numbers_by_lem (d c m) (b.children c).body ((b.children c).off + s) n)
numbers_by_lem (s_dense ids nullable nullable' f f' e d) b s n =
    gather_same ids (λ c. pick (member c ids) (λ m. numbers_of (numbers_in (d c m)) (b.children c) 0 (b.children c).len) []) (λ c. numbers_of (numbers_by (f c) (f' c)) (b.children c) 0 (b.children c).len)
    (λ c q. let m = declares c ids q in
    picked (member c ids) (λ m. numbers_of (numbers_in (d c m)) (b.children c) 0 (b.children c).len) [] m ∙ numbers_by_lem (d c m) (b.children c).body ((b.children c).off + 0) (b.children c).len)
numbers_by_lem (s_run_end w w' t t' d) b s n =
    ap (λ l. needs 7 (half w') (ends_of w b s n) ++ l) (numbers_by_lem d b.values.body (b.values.off + first_of w b s n) (many_of w b s n))
numbers_by_lem (s_dictionary k k' p p' i i' d) b s n =
    ap (λ l. needs 8 (limit k') ((b.values.len - 1) ∷ []) ++ l) (plain_by_lem d b.values.body (b.values.off + 0) b.values.len)

-- ---- the numbers of what tables describe

module _ (tree : Tree) (y : Tables) where
  plain_shown : (p p' : Plain) (i : ℕ) (b : PlainBody p) → ShowsPlain tree y p i b → (s n : ℕ) → plain_by p p' (plain_body tree y p i) s n ≡ plain_by p p' b s n
  plain_shown (fixed k) p' i b h s n = refl
  plain_shown (string w) p' i b h s n = ap (λ o. needs 6 (half (text_of p')) (offsets_of w o s n)) h.0

  -- an array's numbers, where its body's are the same
  node_shown : {B : Type 0} (i : ℕ) (inner : B → Type 0) (a : Array B) (f : B → ℕ → ℕ → List Demand) (b : B) → ShowsNode y i inner a → ((s n : ℕ) → f b s n ≡ f a.body s n)
      → (s n : ℕ) → numbers_of f (array_with y b i) s n ≡ numbers_of f a s n
  node_shown i inner a f b h e s n = ap (λ o. f b (o + s) n) h.off_is ∙ e (a.off + s) n

  -- .. and all its rows
  whole_shown : {B : Type 0} (i : ℕ) (inner : B → Type 0) (a : Array B) (f : B → ℕ → ℕ → List Demand) (b : B) → ShowsNode y i inner a → ((s n : ℕ) → f b s n ≡ f a.body s n)
      → numbers_of f (array_with y b i) 0 (array_with y b i).len ≡ numbers_of f a 0 a.len
  whole_shown i inner a f b h e = ap (λ l. numbers_of f (array_with y b i) 0 l) h.len_is ∙ node_shown i inner a f b h e 0 a.len

  ends_same : (i : ℕ) (a : Array (List ℕ)) → ShowsNode y i (λ s. first_buffer y i ≡ s) a → array_with y (first_buffer y i) i ≡ a
  ends_same i a h = rw (h.len_is, h.off_is, h.valid_is, h.body_is)

  pub numbers_shown : (t t' : Ty) (i : ℕ) (b : Body t) → ShowsData tree y t i b → (s n : ℕ) → numbers_by t t' (body_of tree y t i) s n ≡ numbers_by t t' b s n
  numbers_shown (t_plain p) t' i b h s n = plain_shown p (plain_of t') i b h s n
  numbers_shown t_view t' i b h s n = refl
  numbers_shown (t_list_view w t) t' i b h s n =
      let f = numbers_by t (below t') in
      ap₂ (λ o z. needs 6 (half (width_of t')) (seg (item w o) s n) ++ (needs 6 (half (width_of t')) (seg (item w z) s n) ++ numbers_of f (column_of tree y t (suc i)) 0 (column_of tree y t (suc i)).len)) h.0 h.1
      ∙ ap (λ l. needs 6 (half (width_of t')) (seg (item w b.offsets) s n) ++ (needs 6 (half (width_of t')) (seg (item w b.sizes) s n) ++ l))
      (whole_shown (suc i) (ShowsData tree y t (suc i)) b.child f (body_of tree y t (suc i)) h.2 (numbers_shown t (below t') (suc i) b.child.body h.2.body_is))
  numbers_shown (t_list w t) t' i b h s n =
      let f = numbers_by t (below t') in
      ap (λ o. needs 6 (half (width_of t')) (offsets_of w o s n) ++ numbers_of f (column_of tree y t (suc i)) (item w o s) (span_of w o s n)) h.0
      ∙ ap (λ l. needs 6 (half (width_of t')) (offsets_of w b.offsets s n) ++ l)
      (node_shown (suc i) (ShowsData tree y t (suc i)) b.child f (body_of tree y t (suc i)) h.1 (numbers_shown t (below t') (suc i) b.child.body h.1.body_is) (item w b.offsets s) (span_of w b.offsets s n))
  numbers_shown (t_sparse ids nullable f) t' i b h s n =
      gather_same ids _ _
      (λ c m. node_shown (node_of tree i ids c) (ShowsData tree y (f c) (node_of tree i ids c)) (b.children c) (numbers_by (f c) (field t' c)) (body_of tree y (f c) (node_of tree i ids c)) (h.1 c m)
      (numbers_shown (f c) (field t' c) (node_of tree i ids c) (b.children c).body (h.1 c m).body_is) s n)
  numbers_shown (t_dense ids nullable f) t' i b h s n =
      gather_same ids _ _
      (λ c m. whole_shown (node_of tree i ids c) (ShowsData tree y (f c) (node_of tree i ids c)) (b.children c) (numbers_by (f c) (field t' c)) (body_of tree y (f c) (node_of tree i ids c)) (h.2 c m)
      (numbers_shown (f c) (field t' c) (node_of tree i ids c) (b.children c).body (h.2 c m).body_is))
  numbers_shown (t_run_end w t) t' i b h s n = runs (numbers_shown t (below t') (suc (suc i)) b.values.body h.1.body_is) n
    where
      kid : Column t
      kid = column_of tree y t (suc (suc i))

      f : Body t → ℕ → ℕ → List Demand
      f = numbers_by t (below t')

      made : Array (List ℕ) → RunEnd (Body t)
      made e = record { ends = e; values = kid }

      Same : Type 0
      Same = (s n : ℕ) → f (body_of tree y t (suc (suc i))) s n ≡ f b.values.body s n

      under : Same → (a n : ℕ) → numbers_of f kid a n ≡ numbers_of f b.values a n
      under e = node_shown (suc (suc i)) (ShowsData tree y t (suc (suc i))) b.values f (body_of tree y t (suc (suc i))) h.1 e

      by_ends : (n : ℕ) → numbers_by (t_run_end w t) t' (body_of tree y (t_run_end w t) i) s n ≡ numbers_by (t_run_end w t) t' (made b.ends) s n
      by_ends n = ap (λ e. numbers_by (t_run_end w t) t' (made e) s n) (ends_same (suc i) b.ends h.0)

      runs : Same → (n : ℕ) → numbers_by (t_run_end w t) t' (body_of tree y (t_run_end w t) i) s n ≡ numbers_by (t_run_end w t) t' b s n
      runs e zero = by_ends zero ∙ under e 0 0
      runs e (suc n) = by_ends (suc n) ∙ ap (λ l. needs 7 (half (width_of t')) (ends_of w b s (suc n)) ++ l) (under e (first_of w b s (suc n)) (many_of w b s (suc n)))
  numbers_shown (t_dictionary k p) t' i b h s n =
      ap (λ l. needs 8 (limit (key_of t')) ((l - 1) ∷ []) ++ numbers_of (plain_by p (plain_of t')) (array_with y (plain_body tree y p (suc i)) (suc i)) 0 (array_with y (plain_body tree y p (suc i)) (suc i)).len) h.1.len_is
      ∙ ap (λ l. needs 8 (limit (key_of t')) ((b.values.len - 1) ∷ []) ++ l)
      (whole_shown (suc i) (ShowsPlain tree y p (suc i)) b.values (plain_by p (plain_of t')) (plain_body tree y p (suc i)) h.1 (plain_shown p (plain_of t') (suc i) b.values.body h.1.body_is))

  -- THE NUMBERS OF WHAT THE TABLES DESCRIBE are the column's, however the types were found to differ
  pub same_numbers : (t t' : Ty) (d e : Widths t t') (a : Column t) → Shows tree y t 0 a → numbers t t' d (column_of tree y t 0) ≡ numbers t t' e a
  same_numbers t t' d e a h =
      numbers_by_lem d (body_of tree y t 0) ((column_of tree y t 0).off + 0) (column_of tree y t 0).len
      ∙ whole_shown 0 (ShowsData tree y t 0) a (numbers_by t t') (body_of tree y t 0) h (numbers_shown t t' 0 a.body h.body_is)
      ∙ sym (numbers_by_lem e a.body (a.off + 0) a.len)
