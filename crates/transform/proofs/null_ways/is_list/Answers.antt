-- `transform::null_ways::is_list` meets its contract. Assumes nothing.
use mathlib.Core.Path.{sym, ◌∙◌}
use borrow.Author.Tests.{eq-eqb}
use Rattle.schema.specs.formats.Code.{is_list}
use Rattle.walk.specs.State.{dictionary_of, end_of}
use Rattle.plan.specs.parts.Parts.{nodes_of}
use Rattle.transform.proofs.leaf_rows.Entries.{told}
use Rattle.transform.proofs.null_ways.Laws.{never, sure}
use Rattle.transform.proofs.null_ways.is_list.Goals as goal

pub returns : goal.returns
returns c =
    let p = c.args.plan.now in
    λ z. rw (eq-eqb (nodes_of p) 2 (sym c.node_count.ensures.value ∙ c.if-node_count-ne2.false), told is_list c.code_of.ensures c.is_list.ensures (sure c.if-not-is_list.false-raw), eq-eqb (dictionary_of p 0) 0 (sym c.dictionary_of.ensures ∙ c.if-dictionary_of-ne0.false), eq-eqb (end_of p 0) 2 (sym c.end_of.ensures.value ∙ c.if-end_of-ne2.false)) (c.is_numbers_at.ensures z)
