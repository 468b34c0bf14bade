-- `stop_walks::lists::step_list` meets its contract. Assumes nothing.
use mathlib.Core.Path.{sym, ◌∙◌}
use mathlib.Core.Bool.{false}
use mathlib.Core.List.{[]}
use native.Mathlib.Omega.{arith}
use native.Mathlib.Numerals.{add-one}
use Rattle.leaf_walk.specs.Join.{join}
use Rattle.walk.specs.Copy.{copy_walk}
use Rattle.extend.proofs.Listed.{lists_less}
use Rattle.explain.proofs.stop_walks.Nodes.{list_none, list_out, list_stretch, list_clash, list_falls}
use Rattle.explain.proofs.lists.step_list.Goals as goal

pub returns-then-n-eq0 : goal.returns-then-n-eq0
returns-then-n-eq0 c =
    let a = c.args in
    λ lengths source depth. list_none (join a.plan.now a.parts.now lengths a.places.now a.body.now a.first source) depth a.w a.i a.slot a.n a.counters.now c.if-n-eq0.true

pub returns-then-i-ge32 : goal.returns-then-i-ge32
returns-then-i-ge32 c =
    let a = c.args in
    λ lengths source depth. list_out (join a.plan.now a.parts.now lengths a.places.now a.body.now a.first source) depth a.w a.i a.slot a.n a.counters.now c.if-n-eq0.false (add-one a.i) c.if-i-ge32.true ∙ sym c.plain.ensures

pub copy_offsets-requires : goal.copy_offsets-requires
copy_offsets-requires c = record { first_bound = (c.requires.first_bound.0, omega arith, c.requires.first_bound.2); w_value = c.requires.w_value }

pub overflow_sub-result : goal.overflow_sub-result
overflow_sub-result c =
    let a = c.args in
    let y = join a.plan.now a.parts.now [] a.places.now a.body.now a.first 0 in omega (arith, lists_less y (copy_walk y 0) false a.w a.i a.slot a.n a.counters.now [] c.if-n-eq0.false (add-one a.i) c.if-i-ge32.false (c.copy_offsets.ensures.any_lengths [] 0) (c.copy_offsets.ensures.any_lengths_2 [] 0) c.in-Fits.is c.rows_of.ensures)

pub largest-requires : goal.largest-requires
largest-requires c = λ p q. c.requires.w_value q

pub returns-in-Fits : goal.returns-in-Fits
returns-in-Fits c =
    let a = c.args in
    λ lengths source depth. list_stretch (join a.plan.now a.parts.now lengths a.places.now a.body.now a.first source) depth a.w a.i a.slot a.n a.counters.now c.if-n-eq0.false (add-one a.i) c.if-i-ge32.false (c.copy_offsets.ensures.any_lengths lengths source) c.in-Fits.is c.rows_of.ensures

pub returns-in-Over : goal.returns-in-Over
returns-in-Over c =
    let a = c.args in
    λ lengths source depth. list_clash (join a.plan.now a.parts.now lengths a.places.now a.body.now a.first source) depth a.w a.i a.slot a.n a.counters.now c.if-n-eq0.false (add-one a.i) c.if-i-ge32.false (c.copy_offsets.ensures.any_lengths lengths source) c.in-Over.is c.largest.ensures

pub returns-in-Falls : goal.returns-in-Falls
returns-in-Falls c =
    let a = c.args in
    λ lengths source depth. list_falls (join a.plan.now a.parts.now lengths a.places.now a.body.now a.first source) depth a.w a.i a.slot a.n a.counters.now c.if-n-eq0.false (add-one a.i) c.if-i-ge32.false (c.copy_offsets.ensures.any_lengths lengths source) c.in-Falls.is ∙ sym c.plain-in-Falls.ensures
