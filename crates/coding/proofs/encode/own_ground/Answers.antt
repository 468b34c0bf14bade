-- `coding::encode::own_ground` meets its contract. Assumes nothing.
use mathlib.Core.Path.{ap, ◌∙◌}
use mathlib.Core.List.{[]}
use Prim.Native.Nat.{◌≤◌}
use native.Mathlib.Omega.{arith}
use Rattle.schema.specs.formats.Code.{width_of}
use Rattle.array_data.specs.lent_tables.Lent.{tables}
use Rattle.coding.proofs.Codes.{three_as}
use Rattle.coding.proofs.Tests.{yes_by}
use Rattle.coding.proofs.Accepted.{due_is, due_width, range_is}
use Rattle.coding.proofs.Grounds.{own_plain, own_due, own_range, own_long, own_free}
use Rattle.coding.proofs.encode.own_ground.Goals as goal

pub returns-then-not-is_plain : goal.returns-then-not-is_plain
returns-then-not-is_plain c = let z = c.args in own_plain z.formats.now z.schema.now (tables z.lengths.now [] []) z.first 0 z.target z.start z.end c.is_plain.ensures c.if-not-is_plain.true-raw

pub returns-then-not-is_due : goal.returns-then-not-is_due
returns-then-not-is_due c =
    let z = c.args in
    own_due z.formats.now z.schema.now (tables z.lengths.now [] []) z.first 0 z.target z.start z.end c.is_plain.ensures c.if-not-is_plain.false-raw c.is_due.ensures c.if-not-is_due.true-raw

pub returns-then-not-is_range : goal.returns-then-not-is_range
returns-then-not-is_range c =
    let z = c.args in
    own_range z.formats.now z.schema.now (tables z.lengths.now [] []) z.first 0 z.target z.start z.end c.is_plain.ensures c.if-not-is_plain.false-raw c.is_due.ensures c.if-not-is_due.false-raw c.is_range.ensures c.if-not-is_range.true-raw

pub overflow_sub-end : goal.overflow_sub-end
overflow_sub-end c = let z = (let fact : c.args.start ≤ c.args.end = let z = c.args in (range_is (tables z.lengths.now [] []) z.first z.start z.end (yes_by c.is_range.ensures c.if-not-is_range.false-raw)).0 in fact) in omega (arith, z)

pub ends_hold-requires : goal.ends_hold-requires
ends_hold-requires c =
    let z = c.args in
    let d = due_is z.formats.now z.schema.now z.first z.target (yes_by c.is_due.ensures c.if-not-is_due.false-raw) in
    three_as (c.width_of-w.ensures ∙ ap width_of c.code_of.ensures) (due_width z.formats.now z.schema.now z.first z.target d)

pub returns-then-not-ends_hold : goal.returns-then-not-ends_hold
returns-then-not-ends_hold c =
    let z = c.args in
    own_long z.formats.now z.schema.now (tables z.lengths.now [] []) z.first 0 z.target z.start z.end c.is_plain.ensures c.if-not-is_plain.false-raw c.is_due.ensures c.if-not-is_due.false-raw c.is_range.ensures c.if-not-is_range.false-raw c.code_of.ensures c.width_of-w.ensures c.ends_hold.ensures c.if-not-ends_hold.true-raw

pub returns : goal.returns
returns c =
    let z = c.args in
    own_free z.formats.now z.schema.now (tables z.lengths.now [] []) z.first 0 z.target z.start z.end c.is_plain.ensures c.if-not-is_plain.false-raw c.is_due.ensures c.if-not-is_due.false-raw c.is_range.ensures c.if-not-is_range.false-raw c.code_of.ensures c.width_of-w.ensures c.ends_hold.ensures c.if-not-ends_hold.false-raw
