-- `formats::code_of_1` meets its contract. Assumes nothing.
use borrow.Author.Tests.{ne_eqb}
use Rattle.schema.specs.formats.Code.{code_of}
use Rattle.schema.proofs.formats.code_of_1.Goals as goal

pub returns-in-99 : goal.returns-in-99
unfolding code_of
returns-in-99 c = rw c.in-99.is

pub returns-in-67 : goal.returns-in-67
unfolding code_of
returns-in-67 c = rw c.in-67.is

pub returns-in-115 : goal.returns-in-115
unfolding code_of
returns-in-115 c = rw c.in-115.is

pub returns-in-83 : goal.returns-in-83
unfolding code_of
returns-in-83 c = rw c.in-83.is

pub returns-in-105 : goal.returns-in-105
unfolding code_of
returns-in-105 c = rw c.in-105.is

pub returns-in-73 : goal.returns-in-73
unfolding code_of
returns-in-73 c = rw c.in-73.is

pub returns-in-108 : goal.returns-in-108
unfolding code_of
returns-in-108 c = rw c.in-108.is

pub returns-in-76 : goal.returns-in-76
unfolding code_of
returns-in-76 c = rw c.in-76.is

pub returns-in-102 : goal.returns-in-102
unfolding code_of
returns-in-102 c = rw c.in-102.is

pub returns-in-103 : goal.returns-in-103
unfolding code_of
returns-in-103 c = rw c.in-103.is

pub returns-in-122 : goal.returns-in-122
unfolding code_of
returns-in-122 c = rw c.in-122.is

pub returns-in-117 : goal.returns-in-117
unfolding code_of
returns-in-117 c = rw c.in-117.is

pub returns-in-90 : goal.returns-in-90
unfolding code_of
returns-in-90 c = rw c.in-90.is

pub returns-in-85 : goal.returns-in-85
unfolding code_of
returns-in-85 c = rw c.in-85.is

pub returns-in_default : goal.returns-in_default
unfolding code_of
returns-in_default c =
    simp (
      ne_eqb _ 99 c.in_default.in_default-own.rest.0.0.0.0.0.0.0.0.0.0.0.0.0.1,
      ne_eqb _ 67 c.in_default.in_default-own.rest.0.0.0.0.0.0.0.0.0.0.0.0.1,
      ne_eqb _ 115 c.in_default.in_default-own.rest.0.0.0.0.0.0.0.0.0.0.0.1,
      ne_eqb _ 83 c.in_default.in_default-own.rest.0.0.0.0.0.0.0.0.0.0.1,
      ne_eqb _ 105 c.in_default.in_default-own.rest.0.0.0.0.0.0.0.0.0.1,
      ne_eqb _ 73 c.in_default.in_default-own.rest.0.0.0.0.0.0.0.0.1,
      ne_eqb _ 108 c.in_default.in_default-own.rest.0.0.0.0.0.0.0.1,
      ne_eqb _ 76 c.in_default.in_default-own.rest.0.0.0.0.0.0.1,
      ne_eqb _ 102 c.in_default.in_default-own.rest.0.0.0.0.0.1,
      ne_eqb _ 103 c.in_default.in_default-own.rest.0.0.0.0.1,
      ne_eqb _ 122 c.in_default.in_default-own.rest.0.0.0.1,
      ne_eqb _ 117 c.in_default.in_default-own.rest.0.0.1,
      ne_eqb _ 90 c.in_default.in_default-own.rest.0.1,
      ne_eqb _ 85 c.in_default.in_default-own.rest.1,
    )
