-- The run that the lookup answers is the one that the Columnar Format reads. Assumes nothing.
use mathlib.Core.Path.{◌≡◌, refl, ap, ◌∙◌}
use mathlib.Core.Bool.{Bool, true, false, cond}
use mathlib.Core.List.{List}
use Prim.Native.Nat.{ℕ, zero, suc, ◌*◌}
use native.Mathlib.Nat.{zero-add, mul_comm}
use lib.ListN.{drop}
use lib.Dec.{ltb}
use Rattle.number.specs.Number.{number, entry}
use Rattle.run_ends.specs.Lookup as lookup
use Rattle.run_ends.specs.Lookup.{scan}
use Rattle.columnar.specs.Array.{item}
use Rattle.columnar.specs.RunEnd.{first_above}

-- the two definitions of the first run above a row agree, where the ends do
module _ (e f : ℕ → ℕ) (same : (k : ℕ) → e k ≡ f k) (x : ℕ) where
  scanned : (n i : ℕ) → scan e x n i ≡ first_above f x i n
  unfolding scan
  scanned zero i = refl
  scanned (suc n) i = rw (same i) (go (ltb x (f i)) (scanned n (suc i)))
    where
      go : (b : Bool) → scan e x n (suc i) ≡ first_above f x (suc i) n
          → cond b i (scan e x n (suc i)) ≡ elim b [ true ↦ i | false ↦ first_above f x (suc i) n ]
      go true p = refl
      go false p = p

-- run end k of a buffer
end_is : (w : ℕ) (s : List ℕ) (k : ℕ) → entry w s 0 k ≡ item w s k
unfolding item
end_is w s k = ap (λ (n : ℕ). number w (drop n s)) (zero-add (w * k) ∙ mul_comm w k)

-- the first of n run ends of w bytes above row x
pub format_run_lem : (w : ℕ) (s : List ℕ) (n x : ℕ) → lookup.first_above w s 0 n x ≡ first_above (item w s) x 0 n
format_run_lem w s n x = scanned (entry w s 0) (item w s) (end_is w s) x n 0
