-- `formats::code_of` meets its contract. Assumes nothing.
use mathlib.Core.Path.{ap, sym, ◌∙◌}
use native.Mathlib.Omega.{arith}
use Rattle.schema.specs.formats.Code.{code_of}
use Rattle.schema.proofs.formats.Laws.{code_0, text_1, text_2, text_3, code_4}
use Rattle.schema.proofs.formats.code_of.Goals as goal

pub returns-then-n-eq0 : goal.returns-then-n-eq0
returns-then-n-eq0 c = sym (code_0 _ c.if-n-eq0.true)

pub returns-then-n-eq1 : goal.returns-then-n-eq1
returns-then-n-eq1 c = c.code_of_1.ensures ∙ sym (ap code_of (text_1 _ c.if-n-eq1.true))

pub returns-then-n-eq2 : goal.returns-then-n-eq2
returns-then-n-eq2 c = c.code_of_2.ensures ∙ sym (ap code_of (text_2 _ c.if-n-eq2.true))

pub returns-then-n-eq3 : goal.returns-then-n-eq3
returns-then-n-eq3 c = c.code_of_3.ensures ∙ sym (ap code_of (text_3 _ c.if-n-eq3.true))

pub returns : goal.returns
returns c = c.code_of_4.ensures ∙ sym (code_4 c.args.t.now (omega arith))
