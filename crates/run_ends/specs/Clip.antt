-- Run ends of a copied range. Assumes nothing.
use Rattle.std.specs.Prelude.{◌≡◌, ℕ, zero, suc, ◌+◌, ◌-◌, ◌<◌, min, cond, List, [], ◌++◌, ltb}
use Rattle.number.specs.Number.{entry, encode}
use Rattle.run_ends.specs.Lookup.{Climbs}

-- how many rows of start .. end - 1 stand before the run end x
abbrev pub clip : ℕ → ℕ → ℕ → ℕ
clip x start end = min x end - start

-- the end of the copy of run a + k: e k is the end of run k
abbrev pub clipped_end : (ℕ → ℕ) → ℕ → ℕ → ℕ → ℕ → ℕ → ℕ
clipped_end e a start end last k = last + clip (e (a + k)) start end

-- the p run ends d, and behind them those of g
abbrev pub followed : (ℕ → ℕ) → ℕ → (ℕ → ℕ) → ℕ → ℕ
followed d p g k = cond (ltb k p) (d k) (g (k - p))

-- p rising run ends, the last of which is `last`; 0 where there is none
pub record Ending (d : ℕ → ℕ) (p last : ℕ) : Type 0 where
  pub climbs : Climbs d p
  pub none : p ≡ 0 → last ≡ 0
  pub ends : 0 < p → d (p - 1) ≡ last

-- the m run ends from `from` on, clipped to the rows start .. end - 1, after the run end `last`
unfoldable pub clipped : ℕ → List ℕ → ℕ → ℕ → ℕ → ℕ → ℕ → List ℕ
clipped w s from zero start end last = []
clipped w s from (suc m) start end last =
    clipped w s from m start end last ++ encode w (last + clip (entry w s from m) start end)
