-- `coding::expand::own_ground` meets its contract. Assumes nothing.
use mathlib.Core.List.{[]}
use Rattle.array_data.specs.lent_tables.Lent.{tables}
use Rattle.coding.proofs.Runs.{own_taken, own_due, own_range, own_free}
use Rattle.coding.proofs.expand.own_ground.Goals as goal

pub returns-then-not-is_taken : goal.returns-then-not-is_taken
returns-then-not-is_taken c = let z = c.args in own_taken z.formats.now z.schema.now (tables z.lengths.now [] []) z.first 0 z.target z.start z.end c.is_taken.ensures c.if-not-is_taken.true-raw

pub returns-then-not-is_due : goal.returns-then-not-is_due
returns-then-not-is_due c =
    let z = c.args in
    own_due z.formats.now z.schema.now (tables z.lengths.now [] []) z.first 0 z.target z.start z.end c.is_taken.ensures c.if-not-is_taken.false-raw c.is_due.ensures c.if-not-is_due.true-raw

pub returns-then-not-is_range : goal.returns-then-not-is_range
returns-then-not-is_range c =
    let z = c.args in
    own_range z.formats.now z.schema.now (tables z.lengths.now [] []) z.first 0 z.target z.start z.end c.is_taken.ensures c.if-not-is_taken.false-raw c.is_due.ensures c.if-not-is_due.false-raw c.is_range.ensures c.if-not-is_range.true-raw

pub returns : goal.returns
returns c =
    let z = c.args in
    own_free z.formats.now z.schema.now (tables z.lengths.now [] []) z.first 0 z.target z.start z.end c.is_taken.ensures c.if-not-is_taken.false-raw c.is_due.ensures c.if-not-is_due.false-raw c.is_range.ensures c.if-not-is_range.false-raw
