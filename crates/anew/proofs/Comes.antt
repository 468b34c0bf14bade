-- A column that meets none of the grounds 9, 10 and 12: its nulls can be counted at every node. Assumes nothing.
use mathlib.Core.Path.{◌≡◌, refl, sym, subst, ◌∙◌}
use mathlib.Core.Bool.{Bool, true, false, cond, ◌&&◌}
use mathlib.Core.List.{List, [], ◌∷◌}
use Prim.Native.Nat.{ℕ, zero, suc, ◌+◌, ◌*◌, ◌-◌, ◌≤◌, ◌<◌, ◌^◌}
use native.Mathlib.Omega.{arith}
use lib.ListN.{get_or}
use lib.Dec.{ltb}
use borrow.Author.Tests.{le-ltb}
use Rattle.array_data.specs.Tables.{Tables}
use Rattle.array_data.specs.lent_tables.Lent.{tables}
use Rattle.plan.specs.dictionaries.Sources.{Countable}
use Rattle.columns.specs.Grounds.{column_ground, sources_ground}
use Rattle.columns.proofs.Itself.{one_source}
use Rattle.refinement.proofs.opening.Plannable.{plannable}
use Rattle.anew.specs.ResultPlan.{keeps_from, Comes}

module _ (formats schema : List ℕ) (x : Tables) (first n : ℕ) (low : first < 2 ^ 32) (ok : column_ground formats schema x first n ≡ 0) where
  -- the column is a join of one source
  abbrev pub source_of : List ℕ
  source_of = first ∷ n ∷ []

  pub source_good : sources_ground formats schema x source_of ≡ 0
  source_good = one_source formats schema x source_of refl ∙ ok

  low_at : (s : ℕ) → get_or source_of (2 * s) 0 < 2 ^ 32
  low_at zero = low
  low_at (suc s) = go (2 * suc s) (omega arith)
    where
      go : (k : ℕ) → 2 ≤ k → get_or source_of k 0 < 2 ^ 32
      go zero l = absurd (omega arith)
      go (suc zero) l = absurd (omega arith)
      go (suc (suc k)) l = omega arith

  pub column_countable : (j : ℕ) → j < n → Countable (tables x.lengths x.places x.body) (first + j)
  column_countable j l = (plannable formats schema x source_of low_at source_good).countable 0 j (omega arith) l

  -- A RESULT WHOSE NODES COME FROM THE COLUMN'S
  pub comes : (tn : ℕ) (from : List ℕ) → n ≤ 32 → ((i : ℕ) → i < tn → get_or from i 0 ≤ n) → Comes (tables x.lengths x.places x.body) first tn from
  comes tn from few h =
      record { low = λ i l. omega (arith, h i l); countable = λ i l p. column_countable (get_or from i 0 - 1) (omega (arith, h i l)) }

-- a node that comes from none keeps no nulls
pub new_keeps : (x : Tables) (first : ℕ) (from : List ℕ) (i : ℕ) → get_or from i 0 ≡ 0 → keeps_from x first from i ≡ false
unfolding keeps_from
new_keeps x first from i e = rw e
