-- `run_ends::find_run` meets its contract. Assumes nothing.
use native.Mathlib.Omega.{arith}
use borrow.Author.Tests.{lt-ltb, le-ltb}
use Rattle.run_ends.proofs.Laws.{bisect_first}
use Rattle.run_ends.proofs.find_run.Goals as goal

pub returns-then-n-run-clause-value_2 : goal.returns-then-n-run-clause-value_2
returns-then-n-run-clause-value_2 g c =
    λ h. rw (← bisect_first _ _ _ _ c.args.row.0 h, ← c.bisect-run.ensures, le-ltb c.bisect-run.result.0 c.args.n (omega arith))

pub returns-clause-value_2 : goal.returns-clause-value_2
returns-clause-value_2 g c =
    λ h. rw (← bisect_first _ _ _ _ c.args.row.0 h, ← c.bisect-run.ensures, lt-ltb c.bisect-run.result.0 c.args.n (omega arith), ← c.run_end.ensures) c.found_at.ensures
