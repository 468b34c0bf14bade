-- `reclaim::make` meets its contract. Assumes nothing.
use mathlib.Core.Path.{◌∙◌}
use borrow.Author.Rules.{rules}
use Rattle.reclaim.proofs.make.Goals as goal

pub reclaim_walk-g-requires : goal.reclaim_walk-g-requires
reclaim_walk-g-requires c = record { first_bound = search rules; fact = c.requires.fact }

pub returns : goal.returns
returns c =
    let a = c.args in
    let w = c.reclaim_walk-g in (
      c.keep_result.ensures.plan_after,
      record { answer = w.ensures.answer; counters = c.keep_result.ensures.counters_after ∙ c.copied-made.ensures ∙ w.ensures.counters; bytes = w.ensures.bytes },
    )
