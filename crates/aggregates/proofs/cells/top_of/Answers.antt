-- `whole_cells::top_of` meets its contract. Assumes nothing.
use Rattle.std.proofs.Common.{◌-◌, sym, ap}
use Rattle.columnar.specs.Types.{limit}
use Rattle.schema.specs.formats.Types.{number_of}
use Rattle.aggregates.specs.cells.Cells.{number_at}
use Rattle.aggregates.proofs.cells.Codes.{the_last}
use Rattle.aggregates.proofs.cells.top_of.Goals as goal

pub returns-in-1 : goal.returns-in-1
unfolding number_of
returns-in-1 c = sym (ap (λ k. limit (number_at k) - 1) c.in-1.is)

pub returns-in-2 : goal.returns-in-2
unfolding number_of
returns-in-2 c = sym (ap (λ k. limit (number_at k) - 1) c.in-2.is)

pub returns-in-3 : goal.returns-in-3
unfolding number_of
returns-in-3 c = sym (ap (λ k. limit (number_at k) - 1) c.in-3.is)

pub returns-in-4 : goal.returns-in-4
unfolding number_of
returns-in-4 c = sym (ap (λ k. limit (number_at k) - 1) c.in-4.is)

pub returns-in-5 : goal.returns-in-5
unfolding number_of
returns-in-5 c = sym (ap (λ k. limit (number_at k) - 1) c.in-5.is)

pub returns-in-6 : goal.returns-in-6
unfolding number_of
returns-in-6 c = sym (ap (λ k. limit (number_at k) - 1) c.in-6.is)

pub returns-in-7 : goal.returns-in-7
unfolding number_of
returns-in-7 c = sym (ap (λ k. limit (number_at k) - 1) c.in-7.is)

pub returns-in_default : goal.returns-in_default
unfolding number_of
returns-in_default c =
    let r = c.in_default.in_default-own.rest in
    sym (ap (λ k. limit (number_at k) - 1) (the_last c.args.code c.requires r.0.0.0.0.0.0.1 r.0.0.0.0.0.1 r.0.0.0.0.1 r.0.0.0.1 r.0.0.1 r.0.1 r.1))
