-- `target_rules::has_same_flag` meets its contract. Assumes nothing.
use mathlib.Core.Path.{sym}
use Rattle.schema.proofs.Laws.{flag_root, flag_other}
use Rattle.width_walks.proofs.target_rules.has_same_flag.Goals as goal

pub returns-then-i-eq0 : goal.returns-then-i-eq0
returns-then-i-eq0 c =
    let z = c.args in
    sym (flag_root z.schema.now z.first z.first2 z.i c.if-i-eq0.true)

pub returns : goal.returns
returns c =
    let z = c.args in
    cc (flag_other z.schema.now z.first z.first2 z.i c.if-i-eq0.false)
