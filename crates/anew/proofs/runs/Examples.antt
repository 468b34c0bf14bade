-- The encoder's and the expansion's tables, by computation.
use mathlib.Core.Path.{◌≡◌, refl}
use mathlib.Core.Bool.{true}
use mathlib.Core.List.{List, map}
use Prim.Native.Nat.{ℕ}
use Rattle.number.specs.Number.{number, encode}
use Rattle.columnar.specs.Types.{fixed, t_plain, t_run_end}
use Rattle.columnar.specs.Array.{Array, item, bit}
use Rattle.columnar.specs.RunEnd.{RunEnd}
use Rattle.columnar.specs.Test.{test}
use Rattle.model.specs.Mutable.{pack}
use Rattle.anew.specs.runs.Coding.{encoded, expanded}
use Rattle.anew.specs.runs.Examples.{to_runs, to_rows}

-- A SLICED IGNITION STATE FIRST, all equal, all different, floats by their bits
pub runs_are : ◌≡◌ {A = List (Array (RunEnd (List ℕ)))} (map (λ e. encoded e.number e.w e.column e.a e.m) to_runs) (map (λ e. e.runs) to_runs)
unfolding number encode item bit pack
runs_are = refl

pub rows_are : ◌≡◌ {A = List (Array (List ℕ))} (map (λ e. expanded e.number e.w e.column e.a e.m) to_rows) (map (λ e. e.rows) to_rows)
unfolding number encode item bit pack
rows_are = refl

-- each of the columns is a source, and each of the results
pub sources_pass : map (λ e. test (t_plain (fixed e.number)) e.column) to_runs ≡ map (λ e. true) to_runs
unfolding number encode item bit
sources_pass = refl

pub run_sources_pass : map (λ e. test (t_run_end e.w (t_plain (fixed e.number))) e.column) to_rows ≡ map (λ e. true) to_rows
unfolding number encode item bit
run_sources_pass = refl
