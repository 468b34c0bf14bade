-- The encoder's result and the expansion's (W1). Assumes nothing.
use Rattle.std.proofs.Math.Option.{none}
use Rattle.std.specs.Prelude.{List, ℕ, ◌+◌, length}
use Rattle.columnar.specs.Row.{seg}
use Rattle.columnar.specs.Types.{Number, fixed, t_plain, t_run_end}
use Rattle.columnar.specs.Array.{Array}
use Rattle.columnar.specs.Entries.{encodes}
use Rattle.columnar.specs.RunEnd.{RunEnd, end_of, first_above}
use Rattle.columnar.specs.Reading.{Column}
use Rattle.anew.specs.runs.Runs.{run_ends, run_rows}
use Rattle.anew.specs.runs.Picked.{picked}

-- run ends of w bytes
abbrev pub ends_of : ℕ → List ℕ → Array (List ℕ)
ends_of w es = record { len = length es; off = 0; valid = none; body = encodes w es }

-- "an encoder from any fixed-width column to a run-end column": the m rows from a on, with run ends of w bytes
abbrev pub encoded : (k : Number) (w : ℕ) → Column (t_plain (fixed k)) → ℕ → ℕ → Column (t_run_end w (t_plain (fixed k)))
encoded k w x a m =
    record { len = m; off = 0; valid = none; body = record { ends = ends_of w (run_ends k x a m); values = picked k x (run_rows k x a m) } }

-- the run of row i, "the first run whose end is above offset + row"
abbrev pub run_at : {P : Type 0} → ℕ → Array (RunEnd P) → ℕ → ℕ
run_at w x i = first_above (end_of w x.body.ends) (x.off + i) 0 x.body.ends.len

-- "and the expansion back": the m rows from a on, each its run's value
abbrev pub expanded : (k : Number) (w : ℕ) → Column (t_run_end w (t_plain (fixed k))) → ℕ → ℕ → Column (t_plain (fixed k))
expanded k w x a m = picked k x.body.values (seg (run_at w x) a m)
