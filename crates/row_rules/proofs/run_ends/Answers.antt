-- `row_rules::run_ends` meets its contract: up to run k, whether every end is above the one before. Assumes nothing.
use Rattle.std.proofs.Common.{◌≡◌, ltb, arith, le-ltb, lt-ltb}
use Rattle.number.specs.Number.{entry}
use Rattle.columnar.specs.RunEnd.{start_of}
use Rattle.row_rules.proofs.Sizes.{none_is, half_some}
use Rattle.row_rules.proofs.Laws.{steps_none, step_good, step_bad, ends_end, ends_over}
use Rattle.row_rules.proofs.run_ends.Goals as goal
use Rattle.row_rules.proofs.run_ends.Goals.{then-to_u64, else-to_u64}

pub loop-k-init : goal.loop-k-init
loop-k-init g c = steps_none ltb (start_of (entry g.N.Unsigned.SIZE c.args.body.now c.args.at)) (none_is g.met.N.Unsigned.sized c.truncate-before.ensures)

pub loop-k-preserved : goal.loop-k-preserved
loop-k-preserved g c =
    let f = start_of (entry g.N.Unsigned.SIZE c.args.body.now c.args.at) in
    let l = c.loop-k in
    let before = g.N.Unsigned.amount l.before in
    let end = g.N.Unsigned.amount c.read-end.result in
    elim c.if-to_u64.branch [
      | then-to_u64 w ↦ step_bad ltb f l.invariant (rw c.SIZE.ensures at c.read-end.ensures) (le-ltb before end (omega arith)) w.good-is
      | else-to_u64 w ↦ step_good ltb f l.invariant (rw c.SIZE.ensures at c.read-end.ensures) (lt-ltb before end (omega arith)) w.good-is
    ]

pub returns-then-half-to_u64 : goal.returns-then-half-to_u64
returns-then-half-to_u64 g c =
    let e : c.loop-k.k ≡ c.args.n = omega arith in
    ends_over (entry g.N.Unsigned.SIZE c.args.body.now c.args.at) g.N.Unsigned.SIZE c.args.n (rw e at c.loop-k.invariant) (omega arith) (half_some g.met.N.Unsigned.sized)

pub returns : goal.returns
returns g c =
    let e : c.loop-k.k ≡ c.args.n = omega arith in
    ends_end (entry g.N.Unsigned.SIZE c.args.body.now c.args.at) g.N.Unsigned.SIZE c.args.n (rw e at c.loop-k.invariant) (omega arith)
