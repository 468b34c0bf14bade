-- Entries of a part of the body. Assumes nothing.
use mathlib.Core.Path.{◌≡◌, refl, ap, sym, subst, ◌∙◌}
use mathlib.Core.Bool.{Bool, true, false, cond, and-false}
use mathlib.Core.Option.{some}
use mathlib.Core.List.{List, [], ◌∷◌}
use Prim.Native.Nat.{ℕ, zero, suc, ◌+◌, ◌*◌, ◌/◌, ◌%◌, ◌^◌, ◌≤◌, ◌<◌}
use native.Mathlib.Nat.{suc-mul, mul-one}
use native.Mathlib.Omega.{arith}
use lib.ListN.{length, take, drop, get_or, length-take, length-drop}
use lib.Seq.{get_or-drop, drop-drop, take-take}
use lib.Dec.{leb, ltb}
use borrow.Author.Tests.{le-leb, lt-leb, leb-true, ltb-true, ltb-false, eq-eqb, ne_eqb}
use Rattle.number.specs.Number.{number}
use Rattle.columnar.specs.Array.{item, bit}
use Rattle.columnar.proofs.Items.{number_take, item_one}
use Rattle.array_data.specs.Tables.{part}
use Rattle.array_data.proofs.lent_tables.Laws.{and_left, and_right, fits_more}
use Rattle.std.specs.Prelude.{Some, None}
use Rattle.std.proofs.lemmas.Option.{same_Some}
use Rattle.std.specs.declared.option.Option as answer
use Rattle.array_data.specs.declared.entries.Validity.TheVariants as validity
use Rattle.array_data.specs.entries.Entries.{holds, spot_in, sized, entry_in, valid_bit, valid_in}

-- a table from a later number on
pub shifted : (t : List ℕ) (d a b : ℕ) → a ≡ d + b → get_or t a 0 ≡ get_or (drop d t) b 0
shifted t d a b e = ap (λ k. get_or t k 0) e ∙ sym (get_or-drop d t b 0)

-- ---- parts of a list that is cut

pub cut : (o l n : ℕ) (x : List ℕ) → o + l ≤ n → take l (drop o (take n x)) ≡ take l (drop o x)
cut zero l n x h = take-take l n x (omega arith)
cut (suc o) l zero x h = absurd (omega arith)
cut (suc o) l (suc n) [] h = refl
cut (suc o) l (suc n) (a ∷ x) h = cut o l n x (omega arith)

pub number_cut : (w o n : ℕ) (x : List ℕ) → o + w ≤ n → number w (drop o (take n x)) ≡ number w (drop o x)
number_cut w o n x h =
    sym (number_take w w (drop o (take n x)) (omega arith)) ∙ ap (number w) (cut o w n x h) ∙ number_take w w (drop o x) (omega arith)

-- ---- whether a buffer holds an entry

module _ (w : ℕ) (s : List ℕ) (i : ℕ) where
  pub holds_wide : holds w s i ≡ true → 1 ≤ w
  holds_wide h = leb-true 1 w (and_left (leb 1 w) _ h)

  pub holds_end : holds w s i ≡ true → i * w + w ≤ length s
  holds_end h = omega (arith, leb-true (suc i * w) (length s) (and_right (leb 1 w) _ h), suc-mul i w)

  pub holds_in : 1 ≤ w → i * w + w ≤ length s → holds w s i ≡ true
  holds_in a h =
      let e : suc i * w ≤ length s = omega (arith, suc-mul i w) in
      rw (le-leb 1 w a, le-leb (suc i * w) (length s) e)

  -- by a quotient
  pub no_width : w ≡ 0 → holds w s i ≡ false
  no_width e = rw (lt-leb 1 w (omega arith))

  pub past_end : (n : ℕ) → n ≡ length s → (w ≡ 0 → ⊥) → n / w ≤ i → holds w s i ≡ false
  past_end n e z h =
      let f : leb (suc i * w) (length s) ≡ false = sym (fits_more (suc i) w (length s) (omega (arith, z))) ∙ lt-leb (suc i) (length s / w) (subst (λ x. x / w < suc i) e (omega arith)) in
      rw (f, and-false)

  pub before_end : (n : ℕ) → n ≡ length s → (w ≡ 0 → ⊥) → i < n / w → holds w s i ≡ true
  before_end n e z h =
      let f : leb (suc i * w) (length s) ≡ true = sym (fits_more (suc i) w (length s) (omega (arith, z))) ∙ le-leb (suc i) (length s / w) (subst (λ x. suc i ≤ x / w) e (omega arith)) in
      rw (le-leb 1 w (omega (arith, z)), f)

  pub spot_no : (start : ℕ) → holds w s i ≡ false → None ≡ spot_in start w s i
  unfolding spot_in
  spot_no start h = rw h

  pub spot_yes : (start : ℕ) → holds w s i ≡ true → Some (start + i * w) ≡ spot_in start w s i
  unfolding spot_in
  spot_yes start h = rw h

  spot_by : (start at : ℕ) (b : Bool) → cond b (Some (start + i * w)) None ≡ Some at → (b ≡ true) × (at ≡ start + i * w)
  spot_by start at true e = (refl, sym (same_Some _ _ e))
  spot_by start at false e = absurd (cc)

  pub spot_at : (start at : ℕ) (r : answer.Option ℕ) → r ≡ spot_in start w s i → r ≡ Some at → (holds w s i ≡ true) × (at ≡ start + i * w)
  unfolding spot_in
  spot_at start at r e a = spot_by start at (holds w s i) (sym e ∙ a)

  spot_out_by : (start : ℕ) (b : Bool) → cond b (Some (start + i * w)) None ≡ None → b ≡ false
  spot_out_by start true e = absurd (cc)
  spot_out_by start false e = refl

  pub spot_outside : (start : ℕ) (r : answer.Option ℕ) → r ≡ spot_in start w s i → r ≡ None → holds w s i ≡ false
  unfolding spot_in
  spot_outside start r e a = spot_out_by start (holds w s i) (sym e ∙ a)

  pub entry_no : holds w s i ≡ false → None ≡ entry_in w s i
  unfolding entry_in
  entry_no h = rw (h, and-false)

  pub entry_yes : sized w ≡ true → holds w s i ≡ true → Some (item w s i) ≡ entry_in w s i
  unfolding entry_in
  entry_yes z h = rw (z, h)

  pub entry_sized : sized w ≡ false → None ≡ entry_in w s i
  unfolding entry_in
  entry_sized z = rw z

  pub no_size : (w ≡ 1 → ⊥) → (w ≡ 2 → ⊥) → (w ≡ 4 → ⊥) → (w ≡ 8 → ⊥) → None ≡ entry_in w s i
  no_size a b c d = entry_sized (rw (ne_eqb w 1 a, ne_eqb w 2 b, ne_eqb w 4 c, ne_eqb w 8 d))

-- ---- a part of the body

module _ (body : List ℕ) (start size w i : ℕ) (h : holds w (part body start size) i ≡ true) where
  pub part_end : i * w + w ≤ size
  part_end = omega (arith, holds_end w (part body start size) i h, length-take size (drop start body))

  pub inside : start + i * w + w ≤ length body
  inside =
      omega (arith, holds_end w (part body start size) i h, holds_wide w (part body start size) i h, length-take size (drop start body), length-drop start body)

  pub item_at : number w (drop (start + i * w) body) ≡ item w (part body start size) i
  unfolding item
  item_at = ap (number w) (sym (drop-drop (i * w) start body)) ∙ sym (number_cut w (i * w) size (drop start body) part_end)

module _ (body : List ℕ) (start size w i at : ℕ) (r : answer.Option ℕ) (e : r ≡ spot_in start w (part body start size) i) (a : r ≡ Some at) where
  pub room : at + w ≤ length body
  room =
      let p = spot_at w (part body start size) i start at r e a in
      omega (arith, p.1, inside body start size w i p.0)

  pub value_is : (k x : ℕ) → w ≡ k → sized k ≡ true → x ≡ number k (drop at body) → Some x ≡ entry_in w (part body start size) i
  value_is k x q z f =
      let p = spot_at w (part body start size) i start at r e a in
      let v : x ≡ item w (part body start size) i = f ∙ ap (λ n. number n (drop at body)) (sym q) ∙ ap (λ n. number w (drop n body)) p.1 ∙ item_at body start size w i p.0 in
      ap Some v ∙ entry_yes w (part body start size) i (ap sized q ∙ z) p.0

-- ---- a bit of a validity map

entry_one : (m : List ℕ) (j : ℕ) → entry_in 1 m j ≡ cond (ltb j (length m)) (Some (get_or m j 0)) None
entry_one m j = go (ltb j (length m)) refl
  where
    go : (b : Bool) → ltb j (length m) ≡ b → entry_in 1 m j ≡ cond b (Some (get_or m j 0)) None
    go true e =
        let l = ltb-true j (length m) e in
        sym (entry_yes 1 m j refl (holds_in 1 m j (omega arith) (omega (arith, mul-one j)))) ∙ ap Some (item_one m j l)
    go false e =
        let l = ltb-false j (length m) e in
        let f : leb (suc j * 1) (length m) ≡ false = lt-leb (suc j * 1) (length m) (omega (arith, mul-one (suc j))) in
        sym (entry_no 1 m j (rw f))

module _ (m : List ℕ) (slot : ℕ) (r : answer.Option ℕ) (e : r ≡ entry_in 1 m (slot / 8)) where
  pub bit_outside : r ≡ None → validity.Outside ≡ valid_in (some m) slot
  bit_outside o = go (ltb (slot / 8) (length m)) (sym (entry_one m (slot / 8)) ∙ sym e ∙ o)
    where
      go : (b : Bool) → cond b (Some (get_or m (slot / 8) 0)) None ≡ None → validity.Outside ≡ cond b (valid_bit (bit m slot)) validity.Outside
      go true q = absurd (cc)
      go false q = refl

  module _ (byte : ℕ) (v : r ≡ Some byte) where
    known : (valid_bit (bit m slot) ≡ valid_in (some m) slot) × (byte ≡ get_or m (slot / 8) 0)
    known = go (ltb (slot / 8) (length m)) (sym (entry_one m (slot / 8)) ∙ sym e ∙ v)
      where
        go : (b : Bool) → cond b (Some (get_or m (slot / 8) 0)) None ≡ Some byte
            → (valid_bit (bit m slot) ≡ cond b (valid_bit (bit m slot)) validity.Outside) × (byte ≡ get_or m (slot / 8) 0)
        go true q = (refl, sym (same_Some _ _ q))
        go false q = absurd (cc)

    pub bit_one : byte / 2 ^ (slot % 8) % 2 ≡ 1 → validity.Valid ≡ valid_in (some m) slot
    unfolding bit
    bit_one h = ap valid_bit (sym (eq-eqb (get_or m (slot / 8) 0 / 2 ^ (slot % 8) % 2) 1 (subst (λ x. x / 2 ^ (slot % 8) % 2 ≡ 1) known.1 h))) ∙ known.0

    pub bit_zero : (byte / 2 ^ (slot % 8) % 2 ≡ 1 → ⊥) → validity.Null ≡ valid_in (some m) slot
    unfolding bit
    bit_zero h =
        ap valid_bit (sym (ne_eqb (get_or m (slot / 8) 0 / 2 ^ (slot % 8) % 2) 1 (subst (λ x. x / 2 ^ (slot % 8) % 2 ≡ 1 → ⊥) known.1 h))) ∙ known.0
