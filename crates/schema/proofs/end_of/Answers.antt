-- `schema::end_of` meets its contract. The invariant: what is due from k on ends where node i's subtree ends. Assumes nothing.
use mathlib.Core.Path.{◌≡◌, sym, ◌∙◌}
use Rattle.schema.specs.Tree.{below, end_of}
use Rattle.schema.proofs.Laws.{end_step, end_none, end_last}
use native.Mathlib.Omega.{arith}
use Rattle.schema.proofs.end_of.Goals as goal

pub returns-then-due-eq0 : goal.returns-then-due-eq0
unfolding end_of
returns-then-due-eq0 c =
    let z = c.args in
    let l = c.loop-k in
    sym (end_none z.schema.now z.first z.n l.due l.k (omega arith) c.if-due-eq0.true) ∙ l.invariant.1

pub loop-k-preserved : goal.loop-k-preserved
loop-k-preserved c =
    let z = c.args in
    let l = c.loop-k in
    let b : below z.schema.now z.first l.k ≡ c.below_of.result = sym c.below_of.ensures.value in
    (omega arith, sym (rw b at (end_step z.schema.now z.first z.n l.due l.k (omega arith) c.if-due-eq0.false)) ∙ l.invariant.1, λ h. absurd (omega arith))

pub returns : goal.returns
unfolding end_of
returns c =
    let z = c.args in
    let l = c.loop-k in
    let e : c.max.result ≡ l.k = grind arith in
    e ∙ sym (end_last z.schema.now z.first z.n l.due l.k (omega arith)) ∙ l.invariant.1
