-- The rows of a node are what its rule asks of them, once its buffers lie in the body and its validity has a bit for each slot.
-- Assumes nothing.
use mathlib.Core.Path.{◌≡◌, refl, sym, ap, ap₂, subst, ◌∙◌}
use mathlib.Core.Bool.{Bool, true, false, cond, ◌&&◌, and-true}
use mathlib.Core.List.{List, [], ◌∷◌, Memᴰ}
use Prim.Native.Nat.{ℕ, zero, suc, ◌+◌, ◌*◌, min, ◌≤◌, ◌<◌}
use native.Mathlib.Nat.{add-zero}
use native.Mathlib.Omega.{arith}
use lib.ListN.{length, get_or}
use lib.Dec.{T, leb, eqb}
use borrow.Author.Tests.{leb-true}
use Rattle.columnar.specs.Types.{Number, width, limit}
use Rattle.columnar.specs.Row.{seg}
use Rattle.columnar.specs.Array.{ok}
use Rattle.columnar.specs.Test.{each, view_test, dictionary_test, sparse_test, dense_test}
use Rattle.columnar.proofs.Test.{every_out, member_agrees}
use Rattle.row_rules.specs.slots.Slots.{ids_declared, start_at, bytes_at}
use Rattle.row_rules.proofs.slots.Tests.{Named}
use Rattle.row_rules.proofs.slots.Whole.{length_part, view_array_test, valid_view_array_test, dictionary_test_lem, valid_dictionary_test, sparse_test_lem, dense_test_lem}
use Rattle.array_data.specs.Tables.{Tables, length_of, offset_of, valid_of, place, held, valid_in, in_body, first_buffer, second_buffer, data_buffer, data_buffers, part}
use Rattle.array_data.specs.Rules.{child_of, one_in, two_in, buffers_in}
use Rattle.array_data.specs.Typed.{field_of}
use Rattle.array_data.specs.lent_tables.Lent.{mask_of}
use Rattle.array_data.proofs.lent_tables.Laws.{and_left, and_right, first_in, two_one, second_in}
use Rattle.source_rules.specs.kinds.Rows.{Ready, reach, view_rows, key_rows, sparse_rows, dense_rows}

-- ---- data buffers

length_seg : {A : Type 0} (f : ℕ → A) (a n : ℕ) → length (seg f a n) ≡ n
length_seg f a zero = refl
length_seg f a (suc n) = ap suc (length_seg f (suc a) n)

get_d_seg : {A : Type 0} (f : ℕ → A) (a n i : ℕ) (z : A) → i < n → get_or (seg f a n) i z ≡ f (a + i)
get_d_seg f a zero i z h = absurd (omega arith)
get_d_seg f a (suc n) zero z h = sym (ap f (add-zero a))
get_d_seg f a (suc n) (suc i) z h = get_d_seg f (suc a) n i z (omega arith) ∙ (let e : suc a + i ≡ a + suc i = omega arith in ap f e)

module _ (x : Tables) (k : ℕ) where
  abbrev lying : ℕ → Bool
  lying i = in_body x (get_or x.buffers (2 * (place x k 7 + i)) 0) (get_or x.buffers (2 * (place x k 7 + i) + 1) 0)

  buffer_in : buffers_in x k ≡ true → (i : ℕ) → i < place x k 8 → start_at x.buffers (place x k 7) i + bytes_at x.buffers (place x k 7) i ≤ length x.body
  buffer_in h i q = leb-true _ _ (go (lying i) (every_out lying (place x k 8) (subst T (sym (and_right (leb (2 * (place x k 7 + place x k 8)) (length x.buffers)) _ h)) tt) i q))
    where
      go : (b : Bool) → T b → b ≡ true
      go true t = refl
      go false t = absurd t

  -- they are those that the table names
  buffers_named : buffers_in x k ≡ true → Named x.body x.buffers (place x k 7) (place x k 8) (data_buffers x k)
  buffers_named h =
      record {
        many = length_seg (data_buffer x) (place x k 7) (place x k 8);
        part = λ i q. get_d_seg (data_buffer x) (place x k 7) (place x k 8) i [] q;
        inside = buffer_in h;
      }

  -- ---- validity

  pub valid_inside : one_in x k ≡ true → eqb (place x k 0) 0 ≡ false → place x k 1 + place x k 2 ≤ length x.body
  valid_inside h z = leb-true _ _ (rw z at (and_right (held x k) (valid_in x k) (and_left (held x k && valid_in x k) _ h)))

  pub valid_fits : one_in x k ≡ true → mask_of x k true ≡ true → eqb (place x k 0) 0 ≡ false → offset_of x k + length_of x k ≤ 8 * place x k 2
  valid_fits h m z =
      let t : leb (offset_of x k + length_of x k) (8 * length (part x.body (place x k 1) (place x k 2))) ≡ true = rw z at m in
      let u : offset_of x k + length_of x k ≤ 8 * length (part x.body (place x k 1) (place x k 2)) = leb-true _ _ t in
      rw (length_part x.body (place x k 1) (place x k 2) (valid_inside h z)) at u

  -- ---- views

  module _ (small : (i : ℕ) → get_or x.body i 0 < 256) (ready : Ready x k) (h : buffers_in x k ≡ true) where
    pub view_is : view_rows x k ≡ view_test (ok (valid_of x k)) (record { views = first_buffer x k; buffers = data_buffers x k }) (offset_of x k) (length_of x k)
    unfolding view_rows
    view_is = go (leb ((offset_of x k + length_of x k) * 16) (place x k 4)) refl (eqb (place x k 0) 0) refl
      where
        inside : place x k 3 + place x k 4 ≤ length x.body
        inside = first_in x k ready.inside

        go : (b : Bool) → leb ((offset_of x k + length_of x k) * 16) (place x k 4) ≡ b → (z : Bool) → eqb (place x k 0) 0 ≡ z
            → view_rows x k ≡ view_test (ok (valid_of x k)) (record { views = first_buffer x k; buffers = data_buffers x k }) (offset_of x k) (length_of x k)
        go false e z f = rw (e, length_part x.body (place x k 3) (place x k 4) inside, e)
        go true e true f =
            rw (e, f)
            (sym (view_array_test x.body (offset_of x k) (length_of x k) small (record { views = first_buffer x k; buffers = data_buffers x k }) (place x k 3) (place x k 4) refl inside (leb-true _ _ e) x.buffers (place x k 7) (place x k 8) (buffers_named h)))
        go true e false f =
            rw (e, f)
            (sym (valid_view_array_test x.body (offset_of x k) (length_of x k) small (record { views = first_buffer x k; buffers = data_buffers x k }) (place x k 3) (place x k 4) refl inside (leb-true _ _ e) x.buffers (place x k 7) (place x k 8) (buffers_named h)
            (place x k 1) (place x k 2) (valid_fits ready.inside ready.masked f)))

  -- ---- dictionaries; the values are the next node

  module _ (ready : Ready x k) (n : Number) where
    pub keys_are : key_rows x k (width n) (min (limit n) (length_of x (suc k)))
        ≡ dictionary_test n (λ a. true) (ok (valid_of x k)) (record { keys = first_buffer x k; values = child_of x (suc k); starts = [] }) (offset_of x k) (length_of x k)
    unfolding key_rows
    keys_are = go (leb ((offset_of x k + length_of x k) * width n) (place x k 4)) refl (eqb (place x k 0) 0) refl
      where
        inside : place x k 3 + place x k 4 ≤ length x.body
        inside = first_in x k ready.inside

        go : (b : Bool) → leb ((offset_of x k + length_of x k) * width n) (place x k 4) ≡ b → (z : Bool) → eqb (place x k 0) 0 ≡ z
            → key_rows x k (width n) (min (limit n) (length_of x (suc k)))
            ≡ dictionary_test n (λ a. true) (ok (valid_of x k)) (record { keys = first_buffer x k; values = child_of x (suc k); starts = [] }) (offset_of x k) (length_of x k)
        go false e z f = rw (e, length_part x.body (place x k 3) (place x k 4) inside, e)
        go true e true f =
            rw (e, f)
            (sym (dictionary_test_lem x.body (offset_of x k) (length_of x k) n (λ a. true) (record { keys = first_buffer x k; values = child_of x (suc k); starts = [] }) (place x k 3) (place x k 4) refl inside (leb-true _ _ e) ∙ and-true _))
        go true e false f =
            rw (e, f)
            (sym (valid_dictionary_test x.body (offset_of x k) (length_of x k) n (λ a. true) (record { keys = first_buffer x k; values = child_of x (suc k); starts = [] }) (place x k 3) (place x k 4) refl inside (leb-true _ _ e)
            (place x k 1) (place x k 2) (valid_fits ready.inside ready.masked f) ∙ and-true _))

-- ---- unions

each_true : (ids : List ℕ) → each (λ c. true) ids ≡ true
each_true [] = refl
each_true (c ∷ ids) = each_true ids

each_same : (p q : ℕ → Bool) (ids : List ℕ) → ((c : ℕ) → Memᴰ c ids → p c ≡ q c) → each p ids ≡ each q ids
each_same p q [] f = refl
each_same p q (d ∷ ids) f = ap₂ ◌&&◌ (f d (Memᴰ.head refl)) (each_same p q ids (λ c m. f c (Memᴰ.tail m)))

-- the field of an id is the same to `row_rules::slots` and to `array_data`
pub same_field : (ids : List ℕ) (c : ℕ) → Rattle.row_rules.specs.slots.Slots.field_of ids c ≡ field_of ids c
unfolding Rattle.row_rules.specs.slots.Slots.field_of
same_field [] c = refl
same_field (d ∷ ids) c = ap (λ (f : ℕ). cond (eqb c d) 0 (suc f)) (same_field ids c)

module _ (x : Tables) (k : ℕ) (ids lens : List ℕ) (node : ℕ → ℕ)
    (sizes : (c : ℕ) → Memᴰ c ids → length_of x (node c) ≡ get_or lens (field_of ids c) 0) where
  pub sparse_is : one_in x k ≡ true
      → sparse_rows x k ids lens
      ≡ sparse_test ids (λ c a. true) (ok (valid_of x k)) (record { ids = first_buffer x k; children = λ c. child_of x (node c) }) (offset_of x k) (length_of x k)
  unfolding sparse_rows reach
  sparse_is h = go (leb (offset_of x k + length_of x k) (place x k 4)) refl
    where
      inside : place x k 3 + place x k 4 ≤ length x.body
      inside = first_in x k h

      go : (b : Bool) → leb (offset_of x k + length_of x k) (place x k 4) ≡ b
          → sparse_rows x k ids lens
          ≡ sparse_test ids (λ c a. true) (ok (valid_of x k)) (record { ids = first_buffer x k; children = λ c. child_of x (node c) }) (offset_of x k) (length_of x k)
      go false e = rw (e, length_part x.body (place x k 3) (place x k 4) inside, e)
      go true e =
          let t = sparse_test_lem x.body (offset_of x k) (length_of x k) ids (λ c a. true) (ok (valid_of x k)) (record { ids = first_buffer x k; children = λ c. child_of x (node c) }) (place x k 3) (place x k 4) refl inside (leb-true _ _ e) in
          rw (e)
          (sym (t ∙ rw (each_true ids) (and-true _
          ∙ ap (λ b. ids_declared x.body (place x k 3 + offset_of x k) ids (length_of x k) && b)
          (each_same _ _ ids (λ c m. ap (leb (offset_of x k + length_of x k)) (sizes c m))))))

  pub dense_is : two_in x k ≡ true
      → dense_rows x k ids lens
      ≡ dense_test ids (λ c a. true) (ok (valid_of x k)) (record { ids = first_buffer x k; positions = second_buffer x k; children = λ c. child_of x (node c) }) (offset_of x k) (length_of x k)
  unfolding dense_rows
  dense_is h = go (leb (offset_of x k + length_of x k) (place x k 4)) refl (leb ((offset_of x k + length_of x k) * 4) (place x k 6)) refl
    where
      inside : place x k 3 + place x k 4 ≤ length x.body
      inside = first_in x k (two_one x k h)

      within : place x k 5 + place x k 6 ≤ length x.body
      within = second_in x k h

      go : (b : Bool) → leb (offset_of x k + length_of x k) (place x k 4) ≡ b → (d : Bool) → leb ((offset_of x k + length_of x k) * 4) (place x k 6) ≡ d
          → dense_rows x k ids lens
          ≡ dense_test ids (λ c a. true) (ok (valid_of x k)) (record { ids = first_buffer x k; positions = second_buffer x k; children = λ c. child_of x (node c) }) (offset_of x k) (length_of x k)
      go false e d f = rw (e, length_part x.body (place x k 3) (place x k 4) inside, e)
      go true e false f =
          rw (e, f, length_part x.body (place x k 3) (place x k 4) inside, e, length_part x.body (place x k 5) (place x k 6) within, f)
      go true e true f =
          let t = dense_test_lem x.body (offset_of x k) (length_of x k) ids (λ c a. true) (ok (valid_of x k)) (record { ids = first_buffer x k; positions = second_buffer x k; children = λ c. child_of x (node c) }) (place x k 3) (place x k 4) (place x k 5) (place x k 6) lens
          refl inside (leb-true _ _ e) refl within (leb-true _ _ f)
          (λ c m. ap (λ (i : ℕ). get_or lens i 0) (same_field ids c) ∙ sym (sizes c ((member_agrees c ids).sound (subst T (sym m) tt)))) in
          rw (e, f) (sym (t ∙ rw (each_true ids) (and-true _)))
