-- `formats::code_of_2` meets its contract. Assumes nothing.
use mathlib.Core.Bool.{and-false}
use borrow.Author.Tests.{ne_eqb}
use Rattle.schema.specs.formats.Code.{code_of}
use Rattle.schema.proofs.formats.code_of_2.Goals as goal

pub returns-in-122 : goal.returns-in-122
unfolding code_of
returns-in-122 c = rw (c.if-a-eq118.true, c.in-122.is)

pub returns-in-117 : goal.returns-in-117
unfolding code_of
returns-in-117 c = rw (c.if-a-eq118.true, c.in-117.is)

pub returns-in_default : goal.returns-in_default
unfolding code_of
returns-in_default c = simp (c.if-a-eq118.true, ne_eqb _ 122 c.in_default.in_default-own.rest.0.1, ne_eqb _ 117 c.in_default.in_default-own.rest.1, and-false)

pub returns-then-a-ne43 : goal.returns-then-a-ne43
unfolding code_of
returns-then-a-ne43 c = simp (ne_eqb _ 118 c.if-a-eq118.false, ne_eqb _ 43 c.if-a-ne43.true, and-false)

pub returns-in-108 : goal.returns-in-108
unfolding code_of
returns-in-108 c = rw (c.if-a-ne43.false, c.in-108.is)

pub returns-in-76 : goal.returns-in-76
unfolding code_of
returns-in-76 c = rw (c.if-a-ne43.false, c.in-76.is)

pub returns-in-114 : goal.returns-in-114
unfolding code_of
returns-in-114 c = rw (c.if-a-ne43.false, c.in-114.is)

pub returns-in_default-b : goal.returns-in_default-b
unfolding code_of
returns-in_default-b c = simp (c.if-a-ne43.false, ne_eqb _ 108 c.in_default-b.in_default-b-own.rest.0.0.1, ne_eqb _ 76 c.in_default-b.in_default-b-own.rest.0.1, ne_eqb _ 114 c.in_default-b.in_default-b-own.rest.1, and-false)
