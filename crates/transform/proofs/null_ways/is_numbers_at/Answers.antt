-- `transform::null_ways::is_numbers_at` meets its contract. Assumes nothing.
use mathlib.Core.Path.{sym, ap, ◌∙◌}
use Prim.Native.Nat.{suc}
use native.Mathlib.Numerals.{add-one}
use borrow.Author.Tests.{eq-eqb}
use Rattle.schema.specs.formats.Code.{is_fixed}
use Rattle.walk.specs.State.{dictionary_of, end_of}
use Rattle.transform.proofs.null_ways.Laws.{never}
use Rattle.transform.proofs.null_ways.is_numbers_at.Goals as goal

pub returns : goal.returns
returns c =
    let a = c.args in
    let p = a.plan.now in
    λ z. rw (eq-eqb (end_of p a.i) (suc a.i) (sym c.end_of.ensures.value ∙ c.if-end_of-i.false ∙ add-one a.i), eq-eqb (dictionary_of p a.i) 0 (sym c.dictionary_of.ensures ∙ c.if-dictionary_of-ne0.false)) (sym (c.is_fixed.ensures ∙ ap is_fixed c.code_of.ensures) ∙ z)
