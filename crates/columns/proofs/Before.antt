-- BODIES UP TO FOUR GIGABYTES are answered as they were before positions had 64 bits: the grounds differ from those only in the ceiling of a
-- body. Assumes nothing.
use mathlib.Core.Path.{◌≡◌, refl, ◌∙◌}
use mathlib.Core.Bool.{cond, ◌&&◌}
use mathlib.Core.List.{List}
use Prim.Native.Nat.{ℕ, ◌≤◌}
use native.Mathlib.Omega.{arith}
use lib.ListN.{length}
use lib.Dec.{leb}
use borrow.Author.Tests.{le-leb}
use Rattle.schema.specs.Tree.{typed}
use Rattle.array_data.specs.Tables.{Tables}
use Rattle.columns.specs.Grounds.{ceiling, small_body, within_ceilings, obeys, column_ground, few_sources, all_within, all_typed, all_same, all_obey, sources_ground}
use Rattle.columns.proofs.Grounds.{by_nodes}

-- the most bytes that a body had
abbrev pub before : ℕ
before = 4294967295

module _ (formats schema : List ℕ) (x : Tables) where
  -- the grounds where a body has at most so many bytes
  abbrev pub column_under : ℕ → ℕ → ℕ → ℕ
  column_under most first n =
      cond (leb (length x.body) most && within_ceilings formats schema x first n) (cond (typed formats schema first n) (cond (obeys formats schema x first n) 0 12) 10) 9

  abbrev pub sources_under : ℕ → List ℕ → ℕ
  sources_under most sources =
      cond (leb (length x.body) most && few_sources sources && all_within formats schema x sources)
      (cond (all_typed formats schema sources) (cond (all_same formats schema sources) (cond (all_obey formats schema x sources) 0 12) 11) 10)
      9

  module _ (low : length x.body ≤ before) where
    pub column_before : (first n : ℕ) → column_ground formats schema x first n ≡ column_under before first n
    unfolding column_ground small_body
    column_before first n = rw (le-leb (length x.body) before low, le-leb (length x.body) ceiling (omega arith))

    pub sources_before : (sources : List ℕ) → sources_ground formats schema x sources ≡ sources_under before sources
    unfolding small_body
    sources_before sources = by_nodes formats schema x sources ∙ rw (le-leb (length x.body) before low, le-leb (length x.body) ceiling (omega arith)) refl
