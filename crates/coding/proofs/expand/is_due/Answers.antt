-- `coding::expand::is_due` meets its contract. Assumes nothing.
use mathlib.Core.Path.{sym, ap, ◌∙◌}
use Rattle.schema.specs.formats.Code.{is_fixed}
use Rattle.coding.proofs.Tests.{no_by, yes_by}
use Rattle.coding.proofs.OneNode.{due_children, due_dictionary, due_code, due_same}
use Rattle.coding.proofs.expand.is_due.Goals as goal

pub returns-then-children_of-ne0 : goal.returns-then-children_of-ne0
returns-then-children_of-ne0 c =
    let z = c.args in
    due_children z.formats.now z.schema.now z.first z.target (λ e. c.if-children_of-ne0.true (c.children_of.ensures ∙ e))

pub returns-then-dictionary_of-ne0 : goal.returns-then-dictionary_of-ne0
returns-then-dictionary_of-ne0 c =
    let z = c.args in
    due_dictionary z.formats.now z.schema.now z.first z.target (λ e. c.if-dictionary_of-ne0.true (c.dictionary_of.ensures ∙ e))

pub returns-then-not-is_fixed : goal.returns-then-not-is_fixed
returns-then-not-is_fixed c =
    let z = c.args in
    due_code z.formats.now z.schema.now z.first z.target (no_by (c.is_fixed.ensures ∙ ap is_fixed c.code_of-code.ensures) c.if-not-is_fixed.true-raw)

pub returns : goal.returns
returns c =
    let z = c.args in
    let code = c.code_of-code.ensures in
    due_same z.formats.now z.schema.now z.first z.target (yes_by (c.is_fixed.ensures ∙ ap is_fixed code) c.if-not-is_fixed.false-raw)
    (sym c.children_of.ensures ∙ c.if-children_of-ne0.false) (sym c.dictionary_of.ensures ∙ c.if-dictionary_of-ne0.false) code c.code_of.ensures
