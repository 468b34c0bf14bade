-- `formats::code_of_4` meets its contract. Assumes nothing.
use mathlib.Core.Bool.{and-false}
use borrow.Author.Tests.{ne_eqb}
use Rattle.schema.specs.formats.Code.{code_of}
use Rattle.schema.proofs.formats.code_of_4.Goals as goal

pub returns-then-a-ne43 : goal.returns-then-a-ne43
unfolding code_of
returns-then-a-ne43 c = simp (ne_eqb _ 43 c.if-a-ne43.true, and-false)

pub returns-then-b-ne117 : goal.returns-then-b-ne117
unfolding code_of
returns-then-b-ne117 c = simp (ne_eqb _ 117 c.if-b-ne117.true, and-false)

pub returns-then-d-ne58 : goal.returns-then-d-ne58
unfolding code_of
returns-then-d-ne58 c = simp (ne_eqb _ 58 c.if-d-ne58.true)

pub returns-in-115 : goal.returns-in-115
unfolding code_of
returns-in-115 c = rw (c.if-a-ne43.false, c.if-b-ne117.false, c.if-d-ne58.false, c.in-115.is)

pub returns-in-100 : goal.returns-in-100
unfolding code_of
returns-in-100 c = rw (c.if-a-ne43.false, c.if-b-ne117.false, c.if-d-ne58.false, c.in-100.is)

pub returns-in_default : goal.returns-in_default
unfolding code_of
returns-in_default c = simp (c.if-a-ne43.false, c.if-b-ne117.false, c.if-d-ne58.false, ne_eqb _ 115 c.in_default.in_default-own.rest.0.1, ne_eqb _ 100 c.in_default.in_default-own.rest.1)
