-- What the table says of an answer: zeros, rows, and numbers that clash. Assumes nothing.
use mathlib.Core.Path.{◌≡◌, refl, subst}
use Prim.Native.Nat.{ℕ, ◌<◌, min}
use native.Mathlib.Omega.{arith}
use Rattle.walk.specs.State.{top}
use Rattle.explain.specs.declared.stops.Why.{Why}
use Rattle.explain.specs.stops.Why.{only, nothing, named, clash}
use Rattle.explain.specs.stops.Table.{Blank, accepted, no_source, no_rows, keeps_no_nulls, too_long, not_lent, not_placed, Homeless, no_fields, no_nullable, Numbered, offset, run_end, part, RowOf, Stated, blank, homeless, above}

-- 6, 7 or 13
abbrev pub HasNumbers : ℕ → Type 0
HasNumbers g = (g ≡ 6 → ⊥) → (g ≡ 7 → ⊥) → g ≡ 13

blank_none : (g : ℕ) → Blank g → HasNumbers g → ⊥
blank_none _ accepted h = absurd (omega (arith, h (λ z. omega arith) (λ z. omega arith)))
blank_none _ no_source h = absurd (omega (arith, h (λ z. omega arith) (λ z. omega arith)))
blank_none _ no_rows h = absurd (omega (arith, h (λ z. omega arith) (λ z. omega arith)))
blank_none _ keeps_no_nulls h = absurd (omega (arith, h (λ z. omega arith) (λ z. omega arith)))
blank_none _ too_long h = absurd (omega (arith, h (λ z. omega arith) (λ z. omega arith)))
blank_none _ not_lent h = absurd (omega (arith, h (λ z. omega arith) (λ z. omega arith)))
blank_none _ not_placed h = absurd (omega (arith, h (λ z. omega arith) (λ z. omega arith)))

homeless_none : (g : ℕ) → Homeless g → HasNumbers g → ⊥
homeless_none _ no_fields h = absurd (omega (arith, h (λ z. omega arith) (λ z. omega arith)))
homeless_none _ no_nullable h = absurd (omega (arith, h (λ z. omega arith) (λ z. omega arith)))

numbered_has : (g : ℕ) → Numbered g → HasNumbers g
numbered_has _ offset a b = absurd (a refl)
numbered_has _ run_end a b = absurd (b refl)
numbered_has _ part a b = refl

-- "The needed number .. is the first that clashes and above the allowed one"
pub needed_above : (w : Why) → Stated w → HasNumbers w.refusal → w.allowed < w.needed
needed_above _ (blank g b) h = absurd (blank_none g b h)
needed_above _ (homeless g i b) h = absurd (homeless_none g b h)
needed_above _ (above g i r n m s q l) h = l

-- ".. else two zeros", and row 0
pub other_zeros : (w : Why) → Stated w → (HasNumbers w.refusal → ⊥) → (w.row ≡ 0) × (w.needed ≡ 0) × (w.allowed ≡ 0)
other_zeros _ (blank g b) h = (refl, refl, refl)
other_zeros _ (homeless g i b) h = (refl, refl, refl)
other_zeros _ (above g i r n m s q l) h = absurd (h (numbered_has g s))

-- "for 7 .. , for 13 .. , both at row 0"
pub row_zero : (w : Why) → Stated w → (w.refusal ≡ 6 → ⊥) → w.row ≡ 0
row_zero _ (blank g b) h = refl
row_zero _ (homeless g i b) h = refl
row_zero _ (above _ i r n m offset q l) h = absurd (h refl)
row_zero _ (above _ i r n m run_end q l) h = q
row_zero _ (above _ i r n m part q l) h = q

-- 1, 2, 3, 9, 12 and 14 name no node
pub no_node : (w : Why) → Stated w → (HasNumbers w.refusal → ⊥) → (w.refusal ≡ 4 → ⊥) → (w.refusal ≡ 5 → ⊥) → w ≡ only w.refusal
no_node _ (blank g b) h p q = refl
no_node _ (homeless _ i no_fields) h p q = absurd (p refl)
no_node _ (homeless _ i no_nullable) h p q = absurd (q refl)
no_node _ (above g i r n m s k l) h p q = absurd (h (numbered_has g s))

-- "For an accepted order it says that nothing stopped it"
pub accepted_nothing : (w : Why) → Stated w → w.refusal ≡ 0 → w ≡ nothing
accepted_nothing w t e =
    subst (λ g. w ≡ only g) e
    (no_node w t (λ h. absurd (omega (arith, e, h (λ z. absurd (omega (arith, z, e))) (λ z. absurd (omega (arith, z, e)))))) (λ z. absurd (omega (arith, z, e))) (λ z. absurd (omega (arith, z, e))))
