-- `transform::null_ways::is_kept_keys` meets its contract. Assumes nothing.
use mathlib.Core.Path.{sym, ap, ◌∙◌}
use native.Mathlib.Omega.{arith}
use borrow.Author.Tests.{eq-eqb, le-leb}
use Rattle.schema.specs.formats.Code.{is_fixed}
use Rattle.walk.specs.State.{code_of, dictionary_of, end_of}
use Rattle.plan.specs.parts.Parts.{nodes_of}
use Rattle.transform.proofs.null_ways.Laws.{never}
use Rattle.transform.proofs.null_ways.is_kept_keys.Goals as goal

pub returns : goal.returns
returns c =
    let p = c.args.plan.now in
    λ z. rw (eq-eqb (nodes_of p) 2 (sym c.node_count.ensures.value ∙ c.if-node_count-ne2.false), eq-eqb (end_of p 0) 2 (sym c.end_of.ensures.value ∙ c.if-end_of-ne2.false), eq-eqb (end_of p 1) 2 (sym c.end_of-2.ensures.value ∙ c.if-end_of-ne2-2.false), eq-eqb (dictionary_of p 1) 0 (sym c.dictionary_of.ensures ∙ c.if-dictionary_of-ne0.false), le-leb (code_of p 1) 16 (omega (arith, c.code_of.ensures, c.if-code_of-gt-LAST_LEAF.false)), sym c.is_copied.ensures ∙ c.if-is_copied.false) (sym (c.is_fixed.ensures ∙ ap is_fixed c.code_of-2.ensures) ∙ z)
