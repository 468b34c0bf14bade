-- `cell_sums::sum_word` meets its contract. Assumes nothing.
use Rattle.std.proofs.Common.{ℕ, ◌+◌, ◌<◌, arith}
use Rattle.aggregates.proofs.tally.Sums.{alike}
use Rattle.aggregates.specs.cell_sums.Numbers.{cell_in, both_cells}
use Rattle.aggregates.proofs.cell_sums.Plain.{first_low, word_held, word_in}
use Rattle.aggregates.proofs.cell_sums.sum_word.Goals as goal

some_rows : (row : ℕ) → row < row + 64
some_rows row = omega arith

pub overflow_add-i : goal.overflow_add-i
overflow_add-i c =
    record { fits = first_low c.args.body.now c.args.a c.requires.runs_value.0 c.args.row (c.args.row + 64) c.requires.all_ready.0 (some_rows _) }

pub overflow_add-j : goal.overflow_add-j
overflow_add-j c =
    record { fits = first_low c.args.body.now c.args.b c.requires.runs_value.1 c.args.row (c.args.row + 64) c.requires.all_ready.1 (some_rows _) }

pub both_bits-requires : goal.both_bits-requires
both_bits-requires c =
    ((word_held c.args.body.now c.args.a c.requires.runs_value.0 c.args.row c.requires.all_ready.0).holds_bit, (word_held c.args.body.now c.args.b c.requires.runs_value.1 c.args.row c.requires.all_ready.1).holds_bit)

pub sum_kept-requires : goal.sum_kept-requires
sum_kept-requires c =
    word_held c.args.body.now c.args.a c.requires.runs_value.0 c.args.row c.requires.all_ready.0

pub returns : goal.returns
returns c =
    alike (both_cells (cell_in c.args.body.now c.args.a) (cell_in c.args.body.now c.args.b)) _ c.args.row 0 64 _ c.sum_kept.ensures
    (word_in c.args.body.now c.args.a c.requires.runs_value.0 c.args.b c.requires.runs_value.1 c.args.row c.both_bits.result c.both_bits.ensures)
