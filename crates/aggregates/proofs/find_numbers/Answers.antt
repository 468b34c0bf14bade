-- `aggregates::find_numbers` meets its contract. Assumes nothing.
use Rattle.std.proofs.Common.{◌∙◌}
use Rattle.aggregates.proofs.Tallies.{runs_numbers, rows_numbers}
use Rattle.aggregates.proofs.find_numbers.Goals as goal

pub find_runs-requires : goal.find_runs-requires
find_runs-requires c =
    record { code_value = c.requires.code_value; first_bound = c.requires.first_bound c.if-s.true; fact = c.requires.fact c.if-s.true }

pub returns-then-s : goal.returns-then-s
returns-then-s c =
    c.find_runs.ensures ∙ runs_numbers _ c.args.s c.if-s.true

pub returns : goal.returns
returns c =
    c.find_plain.ensures ∙ rows_numbers _ c.args.s c.if-s.false
