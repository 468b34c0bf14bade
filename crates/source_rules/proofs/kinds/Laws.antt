-- What the rows of a node go by: data buffers, the bound of keys, children by id, and each kind's tests one after the other. Assumes nothing.
use mathlib.Core.Path.{◌≡◌, refl, sym, ap, ◌∙◌}
use mathlib.Core.Bool.{Bool, true, false, ◌&&◌}
use mathlib.Core.List.{List, [], ◌∷◌, Memᴰ}
use mathlib.Core.Option.{some, some-injective, none-ne-some}
use Prim.Native.Nat.{ℕ, zero, suc, ◌+◌, ◌*◌, ◌/◌, ◌^◌, min, ◌≤◌, ◌<◌}
use native.Mathlib.Nat.{mul_comm, mul-add}
use native.Mathlib.Numerals.{add-one}
use native.Mathlib.Omega.{arith}
use lib.ListN.{length, drop, get_or}
use lib.Seq.{drop-cons, drop-length}
use lib.Dec.{leb, eqb}
use borrow.Author.Tests.{le-leb, lt-leb, leb-true, leb-false}
use Rattle.columnar.specs.Types.{Number, int, uint, w1, w2, w4, w8, f32, f64, width, limit}
use Rattle.columnar.specs.Test.{every, each}
use Rattle.schema.specs.formats.Types.{number_of}
use Rattle.row_rules.specs.slots.Slots.{start_at, bytes_at, views_good, valid_views_good, keys_below, valid_keys_below, ids_declared, positions_within}
use Rattle.row_rules.proofs.slots.Laws.{fail}
use Rattle.array_data.specs.Tables.{Tables, length_of, offset_of, place}
use Rattle.array_data.specs.Rules.{one_in, two_in, buffers_in, view_rule, dictionary_rule, sparse_rule, dense_rule}
use Rattle.array_data.specs.Typed.{field_of}
use Rattle.array_data.specs.lent_tables.Lent.{mask_of}
use Rattle.array_data.proofs.lent_tables.Laws.{and_left}
use Rattle.source_rules.specs.kinds.Rows.{Ready, reach, view_rows, key_rows, sparse_rows, dense_rows}
use Rattle.source_rules.proofs.kinds.Links.{same_field, view_is, keys_are, sparse_is, dense_is}

-- ---- data buffers

-- two numbers each, by half the table's length
module _ {r : Bool} (first count : ℕ) (t : List ℕ) (e : r ≡ leb (first + count) (length t / 2)) where
  pub pairs_past : r ≡ false → length t < 2 * (first + count)
  pairs_past h = omega (arith, leb-false (first + count) (length t / 2) (sym e ∙ h))

  pub pairs_in : r ≡ true → 2 * (first + count) ≤ length t
  pairs_in h = omega (arith, leb-true (first + count) (length t / 2) (sym e ∙ h))

-- data buffer i behind the first lies in the body
abbrev pub lies : List ℕ → List ℕ → ℕ → ℕ → Bool
lies t s first i = leb (start_at t first i + bytes_at t first i) (length s)

module _ (x : Tables) (k : ℕ) {first count : ℕ} (e : first ≡ place x k 7) (f : count ≡ place x k 8) where
  pub buffers_short : length x.buffers < 2 * (first + count) → false ≡ buffers_in x k
  buffers_short h = sym (rw (lt-leb (2 * (place x k 7 + place x k 8)) (length x.buffers) (omega arith)))

  module _ (h : 2 * (first + count) ≤ length x.buffers) where
    pub buffers_are : {r : Bool} → r ≡ every (lies x.buffers x.body first) count → r ≡ buffers_in x k
    buffers_are {r} g =
        let t : r ≡ every (lies x.buffers x.body (place x k 7)) (place x k 8) = rw (e, f) at g in
        rw (le-leb (2 * (place x k 7 + place x k 8)) (length x.buffers) (omega arith)) t

    pub buffers_fail : (i : ℕ) → i < count → lies x.buffers x.body first i ≡ false → false ≡ buffers_in x k
    buffers_fail i l g = buffers_are (fail (lies x.buffers x.body first) i count l g)

-- ---- entries that fit

module _ {r : Bool} {count size n p : ℕ} (w : ℕ) (h : r ≡ leb (count * w) size) (c : count ≡ n) (s : size ≡ p) where
  pub fit_is : {b : Bool} → r ≡ b → leb (n * w) p ≡ b
  fit_is t = sym (rw (c, s) at h) ∙ t

-- the bytes of the slots before an array's rows, and of its rows
pub entries_in : (w off len : ℕ) → (off + len) * w ≡ w * off + w * len
entries_in w off len = mul_comm (off + len) w ∙ mul-add w off len

-- ---- keys

-- the limits as the code has them
abbrev pub limits : List ℕ
limits = 0 ∷ 128 ∷ 256 ∷ 32768 ∷ 65536 ∷ 2147483648 ∷ 4294967296 ∷ 9223372036854775808 ∷ 18446744073709551615 ∷ 0 ∷ 0 ∷ []

pub bound_is : (code : ℕ) (n : Number) (values : ℕ) → values < 2 ^ 64 → number_of code ≡ some n → min (get_or limits code 0) values ≡ min (limit n) values
unfolding number_of
bound_is zero n values h e = absurd (none-ne-some n e)
bound_is (suc zero) n values h e = ap (λ m. min (limit m) values) (some-injective (int w1) n e)
bound_is (suc (suc zero)) n values h e = ap (λ m. min (limit m) values) (some-injective (uint w1) n e)
bound_is (suc (suc (suc zero))) n values h e = ap (λ m. min (limit m) values) (some-injective (int w2) n e)
bound_is (suc (suc (suc (suc zero)))) n values h e = ap (λ m. min (limit m) values) (some-injective (uint w2) n e)
bound_is (suc (suc (suc (suc (suc zero))))) n values h e = ap (λ m. min (limit m) values) (some-injective (int w4) n e)
bound_is (suc (suc (suc (suc (suc (suc zero)))))) n values h e = ap (λ m. min (limit m) values) (some-injective (uint w4) n e)
bound_is (suc (suc (suc (suc (suc (suc (suc zero))))))) n values h e = ap (λ m. min (limit m) values) (some-injective (int w8) n e)
bound_is (suc (suc (suc (suc (suc (suc (suc (suc zero)))))))) n values h e =
    let t : min 18446744073709551615 values ≡ min 18446744073709551616 values = omega arith in
    t ∙ ap (λ m. min (limit m) values) (some-injective (uint w8) n e)
bound_is (suc (suc (suc (suc (suc (suc (suc (suc (suc zero))))))))) n values h e = ap (λ m. min (limit m) values) (some-injective f32 n e)
bound_is (suc (suc (suc (suc (suc (suc (suc (suc (suc (suc zero)))))))))) n values h e = ap (λ m. min (limit m) values) (some-injective f64 n e)
bound_is (suc (suc (suc (suc (suc (suc (suc (suc (suc (suc (suc code))))))))))) n values h e = absurd (none-ne-some n e)

-- a number has 1, 2, 4 or 8 bytes
pub widths_all : (m : Number) (w : ℕ) → width m ≡ w → (w ≡ 1 → ⊥) → (w ≡ 2 → ⊥) → (w ≡ 4 → ⊥) → (w ≡ 8 → ⊥) → ⊥
widths_all (int w1) w e a b c d = a (sym e)
widths_all (uint w1) w e a b c d = a (sym e)
widths_all (int w2) w e a b c d = b (sym e)
widths_all (uint w2) w e a b c d = b (sym e)
widths_all (int w4) w e a b c d = c (sym e)
widths_all (uint w4) w e a b c d = c (sym e)
widths_all (int w8) w e a b c d = d (sym e)
widths_all (uint w8) w e a b c d = d (sym e)
widths_all f32 w e a b c d = c (sym e)
widths_all f64 w e a b c d = d (sym e)

-- ---- children

-- the ids from number i on
abbrev pub rest : List ℕ → List ℕ → ℕ → ℕ → Bool
rest ids lens count i = each (λ c. leb count (get_or lens (field_of ids c) 0)) (drop i ids)

module _ (ids lens : List ℕ) (count : ℕ) where
  pub reach_start : rest ids lens count 0 ≡ reach ids lens count
  unfolding reach
  reach_start = refl

  pub reach_end : {i : ℕ} → i ≡ length ids → rest ids lens count i ≡ reach ids lens count → true ≡ reach ids lens count
  reach_end e h = sym (rw (e, drop-length)) ∙ h

  module _ (i : ℕ) {f n : ℕ} (l : i < length ids) (h : rest ids lens count i ≡ reach ids lens count)
      (e : f ≡ Rattle.row_rules.specs.slots.Slots.field_of ids (get_or ids i 0)) (g : n ≡ get_or lens f 0) where
    child_is : n ≡ get_or lens (field_of ids (get_or ids i 0)) 0
    child_is = g ∙ ap (λ (j : ℕ). get_or lens j 0) (e ∙ same_field ids (get_or ids i 0))

    rest_is : rest ids lens count i ≡ leb count n && rest ids lens count (suc i)
    rest_is = rw (drop-cons ids i 0 l, child_is)

    pub reach_fail : n < count → false ≡ reach ids lens count
    reach_fail q = sym (rest_is ∙ rw (lt-leb count n q)) ∙ h

    pub reach_pass : count ≤ n → rest ids lens count (i + 1) ≡ reach ids lens count
    reach_pass q = rw add-one (sym (rest_is ∙ rw (le-leb count n q)) ∙ h)

-- ---- node k

module _ (x : Tables) (k : ℕ) where
  module _ {r : Bool} {start off len : ℕ} (a : start ≡ place x k 3) (o : off ≡ offset_of x k) (l : len ≡ length_of x k) where
    module _ {first many : ℕ} (b : first ≡ place x k 7) (c : many ≡ place x k 8) (h : leb ((offset_of x k + length_of x k) * 16) (place x k 4) ≡ true) where
      pub views_all : eqb (place x k 0) 0 ≡ true → r ≡ views_good x.body (start + 16 * off) x.buffers first many len → r ≡ view_rows x k
      unfolding view_rows
      views_all z e =
          let t : r ≡ views_good x.body (place x k 3 + 16 * offset_of x k) x.buffers (place x k 7) (place x k 8) (length_of x k) = rw (a, o, l, b, c) at e in
          rw (h, z) t

      pub views_valid : {from : ℕ} → eqb (place x k 0) 0 ≡ false → from ≡ place x k 1
          → r ≡ valid_views_good x.body (start + 16 * off) x.buffers first many from off len → r ≡ view_rows x k
      unfolding view_rows
      views_valid z d e =
          let t : r ≡ valid_views_good x.body (place x k 3 + 16 * offset_of x k) x.buffers (place x k 7) (place x k 8) (place x k 1) (offset_of x k) (length_of x k) = rw (a, o, l, b, c, d) at e in
          rw (h, z) t

    module _ (w bound : ℕ) (h : leb ((offset_of x k + length_of x k) * w) (place x k 4) ≡ true) where
      pub keys_all : eqb (place x k 0) 0 ≡ true → r ≡ keys_below w x.body (start + w * off) bound len → r ≡ key_rows x k w bound
      unfolding key_rows
      keys_all z e =
          let t : r ≡ keys_below w x.body (place x k 3 + w * offset_of x k) bound (length_of x k) = rw (a, o, l) at e in
          rw (h, z) t

      pub keys_valid : {from : ℕ} → eqb (place x k 0) 0 ≡ false → from ≡ place x k 1
          → r ≡ valid_keys_below w x.body (start + w * off) bound from off len → r ≡ key_rows x k w bound
      unfolding key_rows
      keys_valid z d e =
          let t : r ≡ valid_keys_below w x.body (place x k 3 + w * offset_of x k) bound (place x k 1) (offset_of x k) (length_of x k) = rw (a, o, l, d) at e in
          rw (h, z) t

    -- the type ids of a union
    pub ids_are : (ids : List ℕ) → r ≡ ids_declared x.body (start + off) ids len → r ≡ ids_declared x.body (place x k 3 + offset_of x k) ids (length_of x k)
    ids_are ids e = rw (a, o, l) at e

    -- the type ids and positions of a dense union
    pub slots_are : (ids lens : List ℕ) {begin : ℕ} → begin ≡ place x k 5
        → r ≡ ids_declared x.body (start + off) ids len && positions_within x.body (start + off) (begin + 4 * off) ids lens len
        → r ≡ ids_declared x.body (place x k 3 + offset_of x k) ids (length_of x k) && positions_within x.body (place x k 3 + offset_of x k) (place x k 5 + 4 * offset_of x k) ids lens (length_of x k)
    slots_are ids lens b e = rw (a, o, l, b) at e

  module _ {count size : ℕ} (c : count ≡ offset_of x k + length_of x k) (s : size ≡ place x k 4) where
    pub ids_short : size < count → leb (offset_of x k + length_of x k) (place x k 4) ≡ false
    ids_short h = lt-leb (offset_of x k + length_of x k) (place x k 4) (omega arith)

    pub ids_fit : count ≤ size → leb (offset_of x k + length_of x k) (place x k 4) ≡ true
    ids_fit h = le-leb (offset_of x k + length_of x k) (place x k 4) (omega arith)

    -- the children of a sparse union
    pub children_are : (ids lens : List ℕ) {r : Bool} → r ≡ reach ids lens count → r ≡ reach ids lens (offset_of x k + length_of x k)
    children_are ids lens e = rw c at e

  -- ---- the rule, once all that stands before the rows holds

  pub table_holds : buffers_in x k ≡ true → 2 * (place x k 7 + place x k 8) ≤ length x.buffers
  table_holds h = leb-true _ _ (and_left (leb (2 * (place x k 7 + place x k 8)) (length x.buffers)) _ h)

  pub view_last : {r : Bool} → ((i : ℕ) → get_or x.body i 0 < 256) → Ready x k → buffers_in x k ≡ true → r ≡ view_rows x k → r ≡ view_rule x k
  view_last small ready h e = rw (ready.inside, h, ready.masked) (e ∙ view_is x k small ready h)

  -- the values of a dictionary are the next node
  pub dictionary_last : {r : Bool} (n : Number) {w bound values : ℕ} → Ready x k → width n ≡ w → bound ≡ min (limit n) values → values ≡ length_of x (k + 1)
      → r ≡ key_rows x k w bound → r ≡ dictionary_rule x k n
  dictionary_last {r} n ready a b c e =
      let t : r ≡ key_rows x k (width n) (min (limit n) (length_of x (suc k))) = rw (← a, b, c, add-one k) at e in
      rw (ready.inside, ready.masked) (t ∙ keys_are x k ready n)

  module _ {r : Bool} (ids lens : List ℕ) (m : mask_of x k false ≡ true) (node : ℕ → ℕ)
      (sizes : (c : ℕ) → Memᴰ c ids → length_of x (node c) ≡ get_or lens (field_of ids c) 0) where
    pub sparse_last : one_in x k ≡ true → r ≡ sparse_rows x k ids lens → r ≡ sparse_rule x k ids node
    sparse_last h e = rw (h, m) (e ∙ sparse_is x k ids lens node sizes h)

    pub dense_last : two_in x k ≡ true → r ≡ dense_rows x k ids lens → r ≡ dense_rule x k ids node
    dense_last h e = rw (h, m) (e ∙ dense_is x k ids lens node sizes h)
