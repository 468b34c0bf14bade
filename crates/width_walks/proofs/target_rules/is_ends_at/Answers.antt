-- `target_rules::is_ends_at` meets its contract. Assumes nothing.
use mathlib.Core.Path.{sym, ap, ◌∙◌}
use Rattle.schema.specs.formats.Code.{is_run_end}
use Rattle.width_walks.proofs.target_rules.Rules.{ends_first, ends_later}
use Rattle.width_walks.proofs.target_rules.is_ends_at.Goals as goal

pub returns-then-i-eq0 : goal.returns-then-i-eq0
returns-then-i-eq0 c =
    let z = c.args in
    sym (ends_first z.formats.now z.schema.now z.first z.i c.if-i-eq0.true)

pub returns : goal.returns
returns c =
    let z = c.args in
    c.is_run_end.ensures ∙ ap is_run_end c.code_of.ensures ∙ sym (ends_later z.formats.now z.schema.now z.first z.i c.if-i-eq0.false)
