-- `schema::is_whole` meets its contract. The invariant: what is due from k on ends where the root's subtree ends, and leaves as many due. Assumes nothing.
use Prim.Native.Nat.{◌-◌}
use mathlib.Core.Path.{◌≡◌, sym, ◌∙◌}
use Rattle.schema.specs.Tree.{below}
use Rattle.schema.proofs.Laws.{end_step, due_step, not_none, not_early, by_due}
use native.Mathlib.Omega.{arith}
use Rattle.schema.proofs.is_whole.Goals as goal

pub returns-then-n-eq0 : goal.returns-then-n-eq0
returns-then-n-eq0 c =
    let z = c.args in
    sym (not_none z.schema.now z.first z.n c.if-n-eq0.true)

pub loop-k-init : goal.loop-k-init
loop-k-init c =
    let e : c.args.n - 0 ≡ c.args.n = omega arith in
    (omega arith, rw e, rw e)

pub returns-then-due-eq0 : goal.returns-then-due-eq0
returns-then-due-eq0 c =
    let z = c.args in
    let l = c.loop-k in
    sym (not_early z.schema.now z.first z.n l.due l.k (omega arith) c.if-due-eq0.true l.invariant.1)

pub loop-k-preserved : goal.loop-k-preserved
loop-k-preserved c =
    let z = c.args in
    let l = c.loop-k in
    let b : below z.schema.now z.first l.k ≡ c.below_of.result = sym c.below_of.ensures.value in (
      omega arith,
      sym (rw b at (end_step z.schema.now z.first z.n l.due l.k (omega arith) c.if-due-eq0.false)) ∙ l.invariant.1,
      sym (rw b at (due_step z.schema.now z.first z.n l.due l.k (omega arith) c.if-due-eq0.false)) ∙ l.invariant.2,
    )

pub returns : goal.returns
returns c =
    let z = c.args in
    let l = c.loop-k in
    sym (by_due z.schema.now z.first z.n l.due l.k (omega arith) c.if-n-eq0.false l.invariant.1 l.invariant.2)
