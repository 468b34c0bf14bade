-- Tables that describe the same columns are read as the same columns. Assumes nothing.
use mathlib.Core.Path.{◌≡◌, refl, sym, ap, ap₂, ◌∙◌, subst}
use mathlib.Core.List.{List, Memᴰ}
use Prim.Native.Nat.{ℕ, suc}
use Rattle.columnar.specs.Types.{Plain, fixed, string, Ty, t_plain, t_view, t_list_view, t_list, t_sparse, t_dense, t_run_end, t_dictionary}
use Rattle.columnar.specs.Array.{Array}
use Rattle.columnar.specs.Plain.{Text, PlainBody}
use Rattle.columnar.specs.View.{Views}
use Rattle.columnar.specs.Reading.{Body, Column}
use Rattle.model.specs.Cut.{Under, under_runs, under_list, OneRunMore, RunsCut, SameArray, SameBody, SameColumn}
use Rattle.array_data.specs.Tables.{Tables, length_of, array_with}
use Rattle.array_data.specs.Typed.{Tree, node_of, plain_body, body_of, column_of}
use Rattle.refinement.specs.finishing.Shows.{ShowsNode, ShowsPlain, ShowsData, Shows}

array_is : {B : Type 0} (x y : Array B) → x.len ≡ y.len → x.off ≡ y.off → x.valid ≡ y.valid → x.body ≡ y.body → x ≡ y
array_is x y e f g h =
    ap (λ n. record { len = n; off = x.off; valid = x.valid; body = x.body }) e
    ∙ ap (λ n. record { len = y.len; off = n; valid = x.valid; body = x.body }) f
    ∙ ap (λ n. record { len = y.len; off = y.off; valid = n; body = x.body }) g
    ∙ ap (λ n. record { len = y.len; off = y.off; valid = y.valid; body = n }) h

module _ (tree : Tree) (x y : Tables) where
  plain_is : (z : Tables) (p : Plain) (i : ℕ) (b : PlainBody p) → ShowsPlain tree z p i b → plain_body tree z p i ≡ b
  plain_is z (fixed n) i b h = h
  plain_is z (string w) i b h = ap₂ (λ (o c : List ℕ). record { offsets = o; chars = c }) h.0 h.1

  -- two nodes that show arrays that are the same
  node_same : {B : Type 0} (R : B → B → Type 0) (i : ℕ) (inner inner' : B → Type 0) (a a' : Array B) (b b' : B) → ShowsNode x i inner a → ShowsNode y i inner' a'
      → SameArray R a a' → R b b' → SameArray R (array_with x b i) (array_with y b' i)
  node_same R i inner inner' a a' b b' h k s r =
      record {
        len_same = h.len_is ∙ s.len_same ∙ sym k.len_is;
        off_same = h.off_is ∙ s.off_same ∙ sym k.off_is;
        valid_same = h.valid_is ∙ s.valid_same ∙ sym k.valid_is;
        body_same = r;
      }

  -- two nodes that show one array
  node_equal : {B : Type 0} (i : ℕ) (inner inner' : B → Type 0) (a a' : Array B) (b b' : B) → ShowsNode x i inner a → ShowsNode y i inner' a' → a ≡ a' → b ≡ a.body → b' ≡ a'.body
      → array_with x b i ≡ array_with y b' i
  node_equal i inner inner' a a' b b' h k e p q =
      array_is _ _ (h.len_is ∙ ap (λ v. v.len) e ∙ sym k.len_is) (h.off_is ∙ ap (λ v. v.off) e ∙ sym k.off_is) (h.valid_is ∙ ap (λ v. v.valid) e ∙ sym k.valid_is)
      (p ∙ ap (λ v. v.body) e ∙ sym q)

  body_shown : (t : Ty) (i : ℕ) (a b : Body t) → ShowsData tree x t i a → ShowsData tree y t i b → SameBody t a b → SameBody t (body_of tree x t i) (body_of tree y t i)
  body_shown (t_plain p) i a b h k s = plain_is x p i a h ∙ s ∙ sym (plain_is y p i b k)
  body_shown t_view i a b h k s =
      ap₂ (λ (v : List ℕ) (u : List (List ℕ)). record { views = v; buffers = u }) (h.0 ∙ ap (λ (v : Views). v.views) s ∙ sym k.0) (h.1 ∙ ap (λ (v : Views). v.buffers) s ∙ sym k.1)
  body_shown (t_list_view w t) i a b h k s = (
    h.0 ∙ s.0 ∙ sym k.0,
    h.1 ∙ s.1 ∙ sym k.1,
    node_same (SameBody t) (suc i) _ _ a.child b.child _ _ h.2 k.2 s.2 (body_shown t (suc i) a.child.body b.child.body h.2.body_is k.2.body_is s.2.body_same),
  )
  body_shown (t_list w t) i a b h k s = (
    h.0 ∙ s.0 ∙ sym k.0,
    node_same (SameBody t) (suc i) _ _ a.child b.child _ _ h.1 k.1 s.1 (body_shown t (suc i) a.child.body b.child.body h.1.body_is k.1.body_is s.1.body_same),
  )
  body_shown (t_sparse ids nullable f) i a b h k s = (
    h.0 ∙ s.0 ∙ sym k.0,
    λ e m.
        node_same (SameBody (f e)) (node_of tree i ids e) _ _ (a.children e) (b.children e) _ _ (h.1 e m) (k.1 e m) (s.1 e m)
        (body_shown (f e) (node_of tree i ids e) (a.children e).body (b.children e).body (h.1 e m).body_is (k.1 e m).body_is (s.1 e m).body_same),
  )
  body_shown (t_dense ids nullable f) i a b h k s = (
    h.0 ∙ s.0 ∙ sym k.0,
    h.1 ∙ s.1 ∙ sym k.1,
    λ e m.
        node_same (SameBody (f e)) (node_of tree i ids e) _ _ (a.children e) (b.children e) _ _ (h.2 e m) (k.2 e m) (s.2 e m)
        (body_shown (f e) (node_of tree i ids e) (a.children e).body (b.children e).body (h.2 e m).body_is (k.2 e m).body_is (s.2 e m).body_same),
  )
  body_shown (t_run_end w t) i a b h k s = (
    node_equal (suc i) _ _ a.ends b.ends _ _ h.0 k.0 s.0 h.0.body_is k.0.body_is,
    node_same (SameBody t) (suc (suc i)) _ _ a.values b.values _ _ h.1 k.1 s.1
        (body_shown t (suc (suc i)) a.values.body b.values.body h.1.body_is k.1.body_is s.1.body_same),
  )
  body_shown (t_dictionary n p) i a b h k s = (
    h.0 ∙ s.0 ∙ sym k.0,
    node_equal (suc i) _ _ a.values b.values _ _ h.1 k.1 s.1 (plain_is x p (suc i) a.values.body h.1.body_is) (plain_is y p (suc i) b.values.body k.1.body_is),
  )

  -- THE SAME COLUMNS are described
  pub column_shown : (t : Ty) (i : ℕ) (a b : Column t) → Shows tree x t i a → Shows tree y t i b → SameColumn t a b → SameColumn t (column_of tree x t i) (column_of tree y t i)
  column_shown t i a b h k s = node_same (SameBody t) i _ _ a b _ _ h k s (body_shown t i a.body b.body h.body_is k.body_is s.body_same)

  -- .. AND AS MANY RUNS
  pub runs_shown_lem : (t : Ty) (u : Under) (i : ℕ) (a b : Body t) → ShowsData tree x t i a → ShowsData tree y t i b → RunsCut t u a b → RunsCut t u (body_of tree x t i) (body_of tree y t i)
  runs_shown_lem (t_plain p) u i a b h k s = tt
  runs_shown_lem t_view u i a b h k s = tt
  runs_shown_lem (t_list_view w t) u i a b h k s = runs_shown_lem t (under_list u) (suc i) a.child.body b.child.body h.2.body_is k.2.body_is s
  runs_shown_lem (t_list w t) u i a b h k s = runs_shown_lem t (under_list u) (suc i) a.child.body b.child.body h.1.body_is k.1.body_is s
  runs_shown_lem (t_sparse ids nullable f) u i a b h k s = λ e m. runs_shown_lem (f e) u (node_of tree i ids e) (a.children e).body (b.children e).body (h.1 e m).body_is (k.1 e m).body_is (s e m)
  runs_shown_lem (t_dense ids nullable f) u i a b h k s = λ e m. runs_shown_lem (f e) u (node_of tree i ids e) (a.children e).body (b.children e).body (h.2 e m).body_is (k.2 e m).body_is (s e m)
  runs_shown_lem (t_run_end w t) u i a b h k s = (
    subst (λ n. OneRunMore u n (length_of y (suc i))) (sym h.0.len_is) (subst (OneRunMore u a.ends.len) (sym k.0.len_is) s.0),
    runs_shown_lem t (under_runs u) (suc (suc i)) a.values.body b.values.body h.1.body_is k.1.body_is s.1,
  )
  runs_shown_lem (t_dictionary n p) u i a b h k s = tt
