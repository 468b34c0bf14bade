-- Laws of the row tests: one more row passed, a row that fails. Assumes nothing.
use Rattle.std.proofs.Common.{◌≡◌, ℕ, zero, suc, ◌+◌, ◌*◌, ◌^◌, ◌<◌, ◌≤◌, Bool, true, false, ◌&&◌, List, length, get_or, drop, sym, refl, ◌∙◌, subst, lt_of_lt_of_le, add-one, get_or-drop, drop-cons, le-ltb, lt-ltb, eq-eqb, ne_eqb}
use lib.Seq.{drop-length}
use Rattle.columnar.specs.Test.{every, only_if}
use Rattle.columnar.proofs.Test.{every_false}
use Rattle.number.specs.Number.{entry}
use Rattle.number.proofs.Laws.{number_lt}
use Rattle.bits.specs.Bits.{bits}
use Rattle.row_rules.specs.slots.Slots.{field_of, keys_below, valid_keys_below}

pub and_true : (b : Bool) → b && true ≡ b
and_true true = refl
and_true false = refl

pub and_false : (b : Bool) → b && false ≡ false
and_false true = refl
and_false false = refl

module _ (p : ℕ → Bool) where
  -- one more row passed
  pub pass : (i : ℕ) {g : Bool} → g ≡ every p i → p i ≡ true → g ≡ every p (i + 1)
  pass i {g} e h = e ∙ sym (rw (add-one, h, and_true))

  -- one more row, which fails
  pub spoil : (i : ℕ) → p i ≡ false → false ≡ every p (i + 1)
  spoil i h = sym (rw (add-one, h, and_false))

  -- a row below n that fails
  pub fail : (i n : ℕ) → i < n → p i ≡ false → false ≡ every p n
  fail i n l h = sym (every_false p n i l h)

-- ---- rows asked only where they are valid

pub null_row_lem : (v b : Bool) → v ≡ false → only_if v b ≡ true
null_row_lem v b e = rw e

pub valid_row : (v b x : Bool) → v ≡ true → b ≡ x → only_if v b ≡ x
valid_row v b x e h = rw (e, h)

pub any_row : (v b : Bool) → b ≡ true → only_if v b ≡ true
any_row true b h = h
any_row false b h = refl

-- ---- fields

pub field_here : (ids : List ℕ) (c i : ℕ) → i < length ids → get_or ids i 0 ≡ c → field_of (drop i ids) c ≡ 0
unfolding field_of
field_here ids c i h e = rw (drop-cons ids i 0 h, e, eq-eqb c c refl)

pub field_later : (ids : List ℕ) (c i : ℕ) → i < length ids → (get_or ids i 0 ≡ c → ⊥) → field_of (drop i ids) c ≡ suc (field_of (drop (i + 1) ids) c)
unfolding field_of
field_later ids c i h e = rw (drop-cons ids i 0 h, ne_eqb c (get_or ids i 0) (λ g. e (sym g)), add-one)

pub field_none : (ids : List ℕ) (c : ℕ) → field_of (drop (length ids) ids) c ≡ 0
unfolding field_of
field_none ids c = rw drop-length

-- ---- keys of w bytes

module _ (w : ℕ) (s : List ℕ) (at bound : ℕ) where
  pub keys_pass : (i : ℕ) {g : Bool} → g ≡ keys_below w s at bound i → entry w s at i < bound → g ≡ keys_below w s at bound (i + 1)
  keys_pass i e h = pass _ i e (lt-ltb _ _ h)

  -- a bound above every number of w bytes
  pub keys_all : ((j : ℕ) → get_or s j 0 < 256) → 256 ^ w ≤ bound → (n : ℕ) → true ≡ keys_below w s at bound n
  keys_all small h zero = refl
  keys_all small h (suc n) =
      let l : entry w s at n < 256 ^ w = number_lt w (drop (at + w * n) s) (λ j. rw get_or-drop (small (at + w * n + j))) in
      subst (λ k. true ≡ keys_below w s at bound k) (add-one n) (keys_pass n (keys_all small h n) (lt_of_lt_of_le l h))

  pub keys_spoil : (i : ℕ) → bound ≤ entry w s at i → false ≡ keys_below w s at bound (i + 1)
  keys_spoil i h = spoil _ i (le-ltb _ _ h)

  module _ (from a : ℕ) where
    -- a valid key that is not below bound
    pub valid_keys_fail : (i n : ℕ) → i < n → get_or (bits s) (8 * from + (a + i)) 0 ≡ 1 → bound ≤ entry w s at i → false ≡ valid_keys_below w s at bound from a n
    valid_keys_fail i n l e h = fail _ i n l (valid_row _ _ _ (eq-eqb _ _ e) (le-ltb _ _ h))
