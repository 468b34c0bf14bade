-- `target_rules::is_like_format` meets its contract. Assumes nothing.
use mathlib.Core.Path.{sym, ◌∙◌}
use Rattle.width_walks.specs.target_rules.Target.{like_formats}
use Rattle.width_walks.proofs.target_rules.is_like_format.Goals as goal

pub returns-then-has_same_format : goal.returns-then-has_same_format
unfolding like_formats
returns-then-has_same_format c = rw (sym c.has_same_format.ensures ∙ c.if-has_same_format.true)

pub returns : goal.returns
unfolding like_formats
returns c =
    rw (sym c.has_same_format.ensures ∙ c.if-has_same_format.false) cc
