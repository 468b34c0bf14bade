-- `run_ends::runs_of_range` meets its contract. Assumes nothing.
use mathlib.Core.Path.{◌≡◌, ◌∙◌}
use Prim.Native.Nat.{◌-◌}
use native.Mathlib.Omega.{arith}
use borrow.Author.Tests.{lt-ltb, le-leb}
use Rattle.std.specs.Prelude.{Some}
use Rattle.run_ends.specs.Lookup.{found_run, runs_of}
use Rattle.run_ends.proofs.Laws.{runs_format}
use Rattle.run_ends.proofs.runs_of_range.Goals as goal

pub returns-then-last-start-clause-value_2 : goal.returns-then-last-start-clause-value_2
returns-then-last-start-clause-value_2 g c =
    let z = c.args in
    let short : Some (record { first = c.in_ok-a.a.run; count = 1 }) ≡ runs_of (found_run g.N.Unsigned.SIZE z.body.now z.from z.n z.end.0) z.start.0 z.end.0
    = rw (lt-ltb z.start.0 z.end.0 (omega arith), ← c.find_run.ensures.value, c.in_ok-a.was, le-leb (z.end.0 - z.start.0) c.in_ok-a.a.left (omega arith)) in
    λ h. short ∙ runs_format _ _ _ _ z.start.0 z.end.0 h
