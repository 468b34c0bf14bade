-- `finished_places::first_size` meets its contract. Assumes nothing.
use Rattle.into_builder.proofs.places.Spots.{offsets_size, first_size}
use mathlib.Core.Path.{ap₂}
use mathlib.Core.Bool.{◌||◌}
use native.Mathlib.Omega.{arith}
use Rattle.into_builder.proofs.places.first_size.Goals as goal

pub overflow_mul-result : goal.overflow_mul-result
overflow_mul-result c = omega (arith, offsets_size c.args.code c.args.r 0 (ap₂ ◌||◌ c.is_string.ensures c.is_list.ensures) c.if-is_string-is_list.true c.width_of-w.ensures)

pub overflow_add-result : goal.overflow_add-result
overflow_add-result c = omega (arith, offsets_size c.args.code c.args.r 0 (ap₂ ◌||◌ c.is_string.ensures c.is_list.ensures) c.if-is_string-is_list.true c.width_of-w.ensures)

pub returns-then-is_string-is_list : goal.returns-then-is_string-is_list
returns-then-is_string-is_list c = offsets_size c.args.code c.args.r 0 (ap₂ ◌||◌ c.is_string.ensures c.is_list.ensures) c.if-is_string-is_list.true c.width_of-w.ensures

pub overflow_mul-result-2 : goal.overflow_mul-result-2
overflow_mul-result-2 c = omega (arith, first_size c.args.code c.args.r 0 (ap₂ ◌||◌ c.is_string.ensures c.is_list.ensures) c.if-is_string-is_list.false c.entry_size.ensures)

pub returns : goal.returns
returns c = first_size c.args.code c.args.r 0 (ap₂ ◌||◌ c.is_string.ensures c.is_list.ensures) c.if-is_string-is_list.false c.entry_size.ensures
