-- `transform::numbers::is_numbers` meets its contract. Assumes nothing.
use mathlib.Core.Path.{sym, ap, ◌∙◌}
use borrow.Author.Tests.{eq-eqb, ne_eqb}
use Rattle.schema.specs.formats.Code.{is_fixed}
use Rattle.walk.specs.State.{dictionary_of, end_of}
use Rattle.plan.specs.parts.Parts.{nodes_of}
use Rattle.transform.proofs.numbers.is_numbers.Goals as goal

pub returns-then-node_count-ne1 : goal.returns-then-node_count-ne1
returns-then-node_count-ne1 c =
    let p = c.args.plan.now in
    rw (ne_eqb (nodes_of p) 1 (λ z. c.if-node_count-ne1.true (c.node_count.ensures.value ∙ z)))

pub returns-then-end_of-ne1 : goal.returns-then-end_of-ne1
returns-then-end_of-ne1 c =
    let p = c.args.plan.now in
    rw (eq-eqb (nodes_of p) 1 (sym c.node_count.ensures.value ∙ c.if-node_count-ne1.false), ne_eqb (end_of p 0) 1 (λ z. c.if-end_of-ne1.true (c.end_of.ensures.value ∙ z)))

pub returns-then-dictionary_of-ne0 : goal.returns-then-dictionary_of-ne0
returns-then-dictionary_of-ne0 c =
    let p = c.args.plan.now in
    rw (eq-eqb (nodes_of p) 1 (sym c.node_count.ensures.value ∙ c.if-node_count-ne1.false), eq-eqb (end_of p 0) 1 (sym c.end_of.ensures.value ∙ c.if-end_of-ne1.false), ne_eqb (dictionary_of p 0) 0 (λ z. c.if-dictionary_of-ne0.true (c.dictionary_of.ensures ∙ z)))

pub returns : goal.returns
returns c =
    let p = c.args.plan.now in
    rw (eq-eqb (nodes_of p) 1 (sym c.node_count.ensures.value ∙ c.if-node_count-ne1.false), eq-eqb (end_of p 0) 1 (sym c.end_of.ensures.value ∙ c.if-end_of-ne1.false), eq-eqb (dictionary_of p 0) 0 (sym c.dictionary_of.ensures ∙ c.if-dictionary_of-ne0.false)) (c.is_fixed.ensures ∙ ap is_fixed c.code_of.ensures)
