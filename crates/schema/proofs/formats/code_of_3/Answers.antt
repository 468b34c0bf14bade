-- `formats::code_of_3` meets its contract. Assumes nothing.
use mathlib.Core.Bool.{and-false}
use borrow.Author.Tests.{ne_eqb}
use Rattle.schema.specs.formats.Code.{code_of}
use Rattle.schema.proofs.formats.code_of_3.Goals as goal

pub returns-then-a-ne43 : goal.returns-then-a-ne43
unfolding code_of
returns-then-a-ne43 c = simp (ne_eqb _ 43 c.if-a-ne43.true, and-false)

pub returns-then-b-ne118 : goal.returns-then-b-ne118
unfolding code_of
returns-then-b-ne118 c = simp (ne_eqb _ 118 c.if-b-ne118.true, and-false)

pub returns-in-108 : goal.returns-in-108
unfolding code_of
returns-in-108 c = rw (c.if-a-ne43.false, c.if-b-ne118.false, c.in-108.is)

pub returns-in-76 : goal.returns-in-76
unfolding code_of
returns-in-76 c = rw (c.if-a-ne43.false, c.if-b-ne118.false, c.in-76.is)

pub returns-in_default : goal.returns-in_default
unfolding code_of
returns-in_default c = simp (c.if-a-ne43.false, c.if-b-ne118.false, ne_eqb _ 108 c.in_default.in_default-own.rest.0.1, ne_eqb _ 76 c.in_default.in_default-own.rest.1)
