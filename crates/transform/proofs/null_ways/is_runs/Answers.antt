-- `transform::null_ways::is_runs` meets its contract. Assumes nothing.
use mathlib.Core.Path.{sym, ap, ◌∙◌}
use lib.Dec.{ltb}
use borrow.Author.Tests.{eq-eqb}
use Rattle.walk.specs.State.{code_of, dictionary_of, end_of}
use Rattle.plan.specs.parts.Parts.{nodes_of}
use Rattle.transform.proofs.null_ways.Laws.{never, sure}
use Rattle.transform.proofs.null_ways.is_runs.Goals as goal

pub returns : goal.returns
returns c =
    let p = c.args.plan.now in
    λ z. rw (eq-eqb (nodes_of p) 3 (sym c.node_count.ensures.value ∙ c.if-node_count-ne3.false), eq-eqb (code_of p 0) 23 (sym c.code_of.ensures ∙ c.if-code_of-ne-RUN_END.false), eq-eqb (dictionary_of p 0) 0 (sym c.dictionary_of.ensures ∙ c.if-dictionary_of-ne0.false), eq-eqb (end_of p 0) 3 (sym c.end_of.ensures.value ∙ c.if-end_of-ne3.false), c.is_numbers_at.ensures (sure c.if-not-is_numbers_at.false-raw), c.is_numbers_at-2.ensures (sure c.if-not-is_numbers_at-2.false-raw)) (ap (ltb 2) (sym c.code_of-2.ensures) ∙ z)
