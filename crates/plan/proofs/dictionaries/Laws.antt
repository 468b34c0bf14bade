-- What the tests of an opening go by: a source's node in the tables, nulls as zero bits, one source after the other. Assumes nothing.
use mathlib.Core.Path.{◌≡◌, refl, sym, ap, ap₂, ◌∙◌}
use mathlib.Core.Bool.{Bool, true, false, cond, not, ◌&&◌, ◌||◌, and-false}
use mathlib.Core.List.{List}
use Prim.Native.Nat.{ℕ, zero, suc, ◌+◌, ◌*◌, ◌-◌, ◌/◌, ◌^◌, min, ◌≤◌, ◌<◌}
use native.Mathlib.Nat.{add-zero, zero-div}
use native.Mathlib.Omega.{arith}
use lib.ListN.{length, drop, get_or, length-take, length-drop, get_or-eq_default}
use lib.Seq.{drop-cons, get_or-take, get_or-drop}
use lib.Dec.{leb, eqb, eqb-zero-suc, eqb-suc-zero, eqb-suc-suc}
use borrow.Author.Tests.{le-leb, leb-true, leb-false, eq-eqb, ne_eqb, eqb-true, eqb-false}
use Rattle.columnar.specs.Array.{Array, bit, nulls_in, null_count_of}
use Rattle.columnar.specs.Dictionary.{Dictionary}
use Rattle.columnar.specs.Test.{every, same as same_list}
use Rattle.columnar.proofs.Test.{every_false}
use Rattle.model.specs.Opening.{keeps, ptr_eq, shared}
use Rattle.bits.specs.Bits.{bits, bits_at, zeros}
use Rattle.bits.proofs.Laws.{bit_at, take_bits, drop_bits, length_bits, below_at_lem, below_bits}
use Rattle.bits.proofs.Puts.{zeros_add}
use Rattle.bits.proofs.Steps.{zeros_none}
use Rattle.array_data.specs.Tables.{Tables, length_of, offset_of, place, part}
use Rattle.array_data.specs.Typed.{tables_from, valid_start}
use Rattle.array_data.specs.lent_tables.Lent.{mask_of}
use Rattle.array_data.proofs.lent_tables.Laws.{no, yes}
use Rattle.plan.specs.dictionaries.Sources.{array_of, array_at, starts_of, dict_with, dict_at, Countable}
use Rattle.array_data.specs.Sources.{first_of}

-- ---- node i of the source whose first node is f

module _ (x : Tables) (f i : ℕ) where
  pub length_from : length_of (tables_from x f) i ≡ length_of x (f + i)
  length_from = get_or-drop (2 * f) x.lengths (2 * i) 0 ∙ ap (λ k. get_or x.lengths k 0) (omega arith)

  pub offset_from : offset_of (tables_from x f) i ≡ offset_of x (f + i)
  offset_from = get_or-drop (2 * f) x.lengths (2 * i + 1) 0 ∙ ap (λ k. get_or x.lengths k 0) (omega arith)

  pub place_from : (j : ℕ) → place (tables_from x f) i j ≡ place x (f + i) j
  place_from j = get_or-drop (9 * f) x.places (9 * i + j) 0 ∙ ap (λ k. get_or x.places k 0) (omega arith)

  pub array_from : array_of (tables_from x f) i ≡ array_of x (f + i)
  array_from = rw (length_from, offset_from, place_from 0, place_from 1, place_from 2)

  valid_from : valid_start (tables_from x f) i ≡ valid_start x (f + i)
  valid_from = ap₂ (λ n p. cond (eqb n 0) 0 (suc p)) (ap null_count_of array_from) (place_from 1)

  starts_from : (string : Bool) → starts_of (tables_from x f) string i ≡ starts_of x string (f + i)
  starts_from string = rw (valid_from, place_from 3, place_from 5)

  pub dict_from : (string : Bool) → dict_with (tables_from x f) string i ≡ dict_with x string (f + i)
  dict_from string = rw (starts_from string, array_from)

-- ---- nulls are the zeros of the validity

part_length : (s : List ℕ) (at size : ℕ) → length (part s at size) ≡ min size (length s - at)
part_length s at size = simp (length-take, length-drop)

zero_bit : (b : ℕ) → b < 2 → 1 - b ≡ cond (eqb b 1) 0 1
zero_bit zero h = refl
zero_bit (suc zero) h = refl
zero_bit (suc (suc b)) h = absurd (omega arith)

module _ (s : List ℕ) (at size : ℕ) where
  bits_inside : (n : ℕ) → n ≤ 8 * length (part s at size) → 0 < n → 8 * at + n ≤ 8 * length s
  bits_inside n h p = omega (arith, part_length s at size)

  part_bit : (i : ℕ) → i < 8 * length (part s at size) → bit (part s at size) i ≡ eqb (get_or (bits s) (8 * at + i) 0) 1
  unfolding bit
  part_bit i h =
      let l : i < 8 * size = omega (arith, part_length s at size) in
      rw (← bit_at (part s at size) i, ← take_bits size (drop at s), get_or-take (8 * size) (bits (drop at s)) i 0 l, ← drop_bits at s, get_or-drop (8 * at) (bits s) i 0)

  one_bit : (p : ℕ) → p < 8 * length s → zeros (bits_at p 1 s) ≡ 1 - get_or (bits s) p 0
  unfolding zeros bits_at
  one_bit p h = rw (drop-cons (bits s) p 0 (rw length_bits h)) (add-zero (1 - get_or (bits s) p 0))

  zeros_nulls : (off n : ℕ) → off + n ≤ 8 * length (part s at size) → zeros (bits_at (8 * at + off) n s) ≡ nulls_in (bit (part s at size)) off n
  zeros_nulls off zero h = sym (zeros_none (8 * at + off) s)
  zeros_nulls off (suc n) h =
      let b = get_or (bits s) (8 * at + off) 0 in
      let small : b < 2 = below_at_lem 2 (bits s) (omega arith) (below_bits s) (8 * at + off) in
      let first : zeros (bits_at (8 * at + off) 1 s) ≡ cond (bit (part s at size) off) 0 1 =
      rw (one_bit (8 * at + off) (omega (arith, bits_inside (off + suc n) h (omega arith))), part_bit off (omega arith)) (zero_bit b small) in
      let l : suc n ≡ 1 + n = omega arith in
      let q : 8 * at + off + 1 ≡ 8 * at + suc off = omega arith in
      ap (λ k. zeros (bits_at (8 * at + off) k s)) l ∙ rw (zeros_add (8 * at + off) 1 n s, first, q, zeros_nulls (suc off) n (omega arith))

nulls_none : (a n : ℕ) → nulls_in (λ i. true) a n ≡ 0
nulls_none a zero = refl
nulls_none a (suc n) = rw (nulls_none (suc a) n)

module _ (x : Tables) (k : ℕ) where
  -- without validity
  pub count_none : eqb (place x k 0) 0 ≡ true → 0 ≡ null_count_of (array_of x k)
  count_none z = rw z (sym (nulls_none (offset_of x k) (length_of x k)))

  -- of no rows
  pub count_empty : length_of x k ≡ 0 → 0 ≡ null_count_of (array_of x k)
  count_empty e = rw e

  slots : eqb (place x k 0) 0 ≡ false → mask_of x k true ≡ true → offset_of x k + length_of x k ≤ 8 * length (part x.body (place x k 1) (place x k 2))
  slots z m = leb-true _ _ (rw z at m)

  pub slots_inside : eqb (place x k 0) 0 ≡ false → mask_of x k true ≡ true → 0 < length_of x k
      → 8 * place x k 1 + (offset_of x k + length_of x k) ≤ 8 * length x.body
  slots_inside z m p = bits_inside x.body (place x k 1) (place x k 2) (offset_of x k + length_of x k) (slots z m) (omega arith)

  pub count_some : {r from off n : ℕ} → eqb (place x k 0) 0 ≡ false → mask_of x k true ≡ true → r ≡ zeros (bits_at (8 * from + off) n x.body)
      → from ≡ place x k 1 → off ≡ offset_of x k → n ≡ length_of x k → r ≡ null_count_of (array_of x k)
  count_some z m e f o l =
      rw (z, e, f, o, l) (zeros_nulls x.body (place x k 1) (place x k 2) (offset_of x k) (length_of x k) (slots z m))

-- ---- whether there is a null at all: a bit that the body does not have is a zero

past_bit : (s : List ℕ) (i : ℕ) → 8 * length s ≤ i → bit s i ≡ false
unfolding bit
past_bit s i h =
    let q : length s ≤ i / 8 = omega arith in
    rw (get_or-eq_default s 0 q, zero-div)

past_null : (s : List ℕ) (a n : ℕ) → 0 < n → 8 * length s < a + n → 0 < nulls_in (bit s) a n
past_null s a zero p h = absurd (omega arith)
past_null s a (suc zero) p h = rw (past_bit s a (omega arith)) (omega arith)
past_null s a (suc (suc n)) p h = omega (arith, past_null s (suc a) (suc n) (omega arith) (omega arith))

module _ (x : Tables) (k : ℕ) where
  pub absent_by : {r : ℕ} → r ≡ null_count_of (array_of x k) → eqb r 0 ≡ eqb (null_count_of (array_of x k)) 0
  absent_by e = ap (λ n. eqb n 0) e

  pub bytes_are : {r from size : ℕ} → r ≡ length (part x.body from size) → from ≡ place x k 1 → size ≡ place x k 2
      → r ≡ length (part x.body (place x k 1) (place x k 2))
  bytes_are e f g = e ∙ ap₂ (λ p q. length (part x.body p q)) f g

  pub absent : 0 ≡ null_count_of (array_of x k) → true ≡ eqb (null_count_of (array_of x k)) 0
  absent e = absent_by e

  -- r is whether the slots up to off + n have a bit each
  module _ {r : Bool} {off n bytes : ℕ} (z : eqb (place x k 0) 0 ≡ false) (e : r ≡ leb (off + n) (8 * bytes)) (o : off ≡ offset_of x k) (l : n ≡ length_of x k)
      (b : bytes ≡ length (part x.body (place x k 1) (place x k 2))) where
    pub past_present : (n ≡ 0 → ⊥) → not r ≡ true → false ≡ eqb (null_count_of (array_of x k)) 0
    past_present p h =
        let v = part x.body (place x k 1) (place x k 2) in
        let q = past_null v (offset_of x k) (length_of x k) (omega (arith, p)) (omega (arith, leb-false (off + n) (8 * bytes) (no e h))) in
        rw z (sym (ne_eqb (nulls_in (bit v) (offset_of x k) (length_of x k)) 0 (omega (arith, q))))

    pub countable_by : k < 2 ^ 33 → not r ≡ false → Countable x k
    countable_by s h =
        let q = leb-true (off + n) (8 * bytes) (yes e h) in
        record {
          small = s;
          bits = rw z (le-leb (offset_of x k + length_of x k) (8 * length (part x.body (place x k 1) (place x k 2))) (omega (arith, q)));
        }

-- ---- where two dictionaries begin

tests : (v f g string : Bool) → v && f && (g || not string) ≡ cond string (g && f && v) (f && v)
tests true true true true = refl
tests true true true false = refl
tests true true false true = refl
tests true true false false = refl
tests true false true true = refl
tests true false true false = refl
tests true false false true = refl
tests true false false false = refl
tests false true true true = refl
tests false true true false = refl
tests false true false true = refl
tests false true false false = refl
tests false false true true = refl
tests false false true false = refl
tests false false false true = refl
tests false false false false = refl

-- a validity without a zero begins nowhere
module _ (x : Tables) (a b : ℕ) where
  pub begin_none : {r : Bool} → eqb (null_count_of (array_of x a)) 0 ≡ true → r ≡ eqb (null_count_of (array_of x b)) 0 → r ≡ eqb (valid_start x a) (valid_start x b)
  begin_none {r} h e = rw h (e ∙ go (eqb (null_count_of (array_of x b)) 0))
    where
      go : (z : Bool) → z ≡ eqb 0 (cond z 0 (suc (place x b 1)))
      go true = refl
      go false = sym (eqb-zero-suc (place x b 1))

  module _ (h : eqb (null_count_of (array_of x a)) 0 ≡ false) where
    pub begin_one : eqb (null_count_of (array_of x b)) 0 ≡ true → false ≡ eqb (valid_start x a) (valid_start x b)
    begin_one e = rw (h, e) (sym (eqb-suc-zero (place x a 1)))

    pub begin_both : {p q : ℕ} → eqb (null_count_of (array_of x b)) 0 ≡ false → p ≡ place x a 1 → q ≡ place x b 1 → eqb p q ≡ eqb (valid_start x a) (valid_start x b)
    begin_both e f g = rw (h, e, f, g) (sym (eqb-suc-suc (place x a 1) (place x b 1)))

module _ (x : Tables) where
  same_starts : (string : Bool) (a b : ℕ) → eqb (valid_start x a) (valid_start x b) && eqb (place x a 3) (place x b 3) && (eqb (place x a 5) (place x b 5) || not string)
      ≡ same_list (starts_of x string a) (starts_of x string b)
  same_starts true a b = tests (eqb (valid_start x a) (valid_start x b)) (eqb (place x a 3) (place x b 3)) (eqb (place x a 5) (place x b 5)) true
  same_starts false a b = tests (eqb (valid_start x a) (valid_start x b)) (eqb (place x a 3) (place x b 3)) (eqb (place x a 5) (place x b 5)) false

  pub starts_are : (string : Bool) (a b : ℕ) {v : Bool} {p q o r : ℕ} → v ≡ eqb (valid_start x a) (valid_start x b) → p ≡ place x a 3 → q ≡ place x b 3
      → o ≡ place x a 5 → r ≡ place x b 5 → v && eqb p q && (eqb o r || not string) ≡ same_list (starts_of x string a) (starts_of x string b)
  starts_are string a b e g h k l = rw (e, g, h, k, l) (same_starts string a b)

  pub ptr_is : (string : Bool) (a b : ℕ) {o p l q : ℕ} {t : Bool} → o ≡ offset_of x a → p ≡ offset_of x b → l ≡ length_of x a → q ≡ length_of x b
      → t ≡ same_list (starts_of x string a) (starts_of x string b) → eqb o p && eqb l q && t ≡ ptr_eq (dict_with x string a) (dict_with x string b)
  ptr_is string a b e f g h k = rw (e, f, g, h, k)

-- ---- one source after the other

module _ {B : Type 0} (xs : ℕ → Array B) where
  abbrev NoNull : ℕ → Bool
  NoNull i = eqb (null_count_of (xs i)) 0

  pub nulls_no : (s : ℕ) {r : ℕ} → keeps false s xs ≡ false → r ≡ null_count_of (xs s) → r ≡ 0 → keeps false (suc s) xs ≡ false
  nulls_no s {r} h e z = go (every NoNull s) (NoNull s) h (eq-eqb (null_count_of (xs s)) 0 (sym e ∙ z))
    where
      go : (a b : Bool) → not a ≡ false → b ≡ true → not (a && b) ≡ false
      go true b f g = ap not g
      go false b f g = f

  pub nulls_yes : (s m : ℕ) {r : ℕ} → s < m → r ≡ null_count_of (xs s) → (r ≡ 0 → ⊥) → keeps false m xs ≡ true
  nulls_yes s m l e z = ap not (every_false NoNull m s l (ne_eqb (null_count_of (xs s)) 0 (λ q. z (e ∙ q))))

module _ {P : Type 0} (ds : ℕ → Dictionary P) where
  pub share_more : (s : ℕ) → shared (suc s) ds ≡ true → ptr_eq (ds s) (ds (suc s)) ≡ true → shared (suc (suc s)) ds ≡ true
  share_more s h e = rw (h, e)

  pub share_not : (s m : ℕ) → suc s < m → ptr_eq (ds s) (ds (suc s)) ≡ false → shared m ds ≡ false
  share_not s zero l e = absurd (omega arith)
  share_not s (suc zero) l e = absurd (omega arith)
  share_not s (suc (suc m)) l e = go (eqb s m) refl (λ p. share_not s (suc m) p e)
    where
      go : (b : Bool) → eqb s m ≡ b → (suc s < suc m → shared (suc m) ds ≡ false) → shared (suc (suc m)) ds ≡ false
      go true q f =
          let p : s ≡ m = eqb-true s m q in
          let g : ptr_eq (ds m) (ds (suc m)) ≡ false = rw p at e in
          rw g (and-false (shared (suc m) ds))
      go false q f = rw (f (omega (arith, eqb-false s m q)))

  pub share_all : (s m : ℕ) → (1 ≤ m → s ≤ m) → m ≤ s → shared s ds ≡ true → shared m ds ≡ true
  share_all s zero l h e = refl
  share_all s (suc m) l h e = let q : s ≡ suc m = omega (arith, l (omega arith)) in rw q at e

-- ---- what was read of a source's node

module _ (x : Tables) (sources : List ℕ) (i : ℕ) where
  pub count_at_lem : (s : ℕ) {r k : ℕ} → r ≡ null_count_of (array_of x k) → k ≡ first_of sources s + i → r ≡ null_count_of (array_at x sources i s)
  count_at_lem s e f = e ∙ ap (λ a. null_count_of (array_of x a)) f ∙ sym (ap null_count_of (array_from x (first_of sources s) i))

  pub pair_at : (string : Bool) (s : ℕ) {t a b : ℕ} {r : Bool} → r ≡ ptr_eq (dict_with x string a) (dict_with x string b) → t ≡ suc s
      → a ≡ first_of sources s + i → b ≡ first_of sources t + i → r ≡ ptr_eq (dict_at x sources string i s) (dict_at x sources string i (suc s))
  pair_at string s e t f g =
      e ∙ ap₂ ptr_eq (ap (dict_with x string) f ∙ sym (dict_from x (first_of sources s) i string))
      (ap (dict_with x string) (g ∙ ap (λ k. first_of sources k + i) t) ∙ sym (dict_from x (first_of sources (suc s)) i string))

  pub length_at_lem : (s : ℕ) {r k : ℕ} → r ≡ length_of x k → k ≡ first_of sources s + i → r ≡ (array_at x sources i s).len
  length_at_lem s e f = e ∙ ap (length_of x) f ∙ sym (length_from x (first_of sources s) i)
