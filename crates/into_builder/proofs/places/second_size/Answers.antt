-- `finished_places::second_size` meets its contract. Assumes nothing.
use Rattle.into_builder.proofs.places.Spots.{data_size, sizes_size, dense_size}
use native.Mathlib.Omega.{arith}
use Rattle.into_builder.proofs.places.second_size.Goals as goal

pub returns-then-is_string : goal.returns-then-is_string
returns-then-is_string c = data_size c.args.code c.args.r c.args.n c.is_string.ensures c.if-is_string.true

pub overflow_mul-result : goal.overflow_mul-result
overflow_mul-result c = omega (arith, sizes_size c.args.code c.args.r c.args.n c.is_string.ensures c.if-is_string.false c.is_list_view.ensures c.if-is_list_view.true c.width_of.ensures)

pub returns-then-is_list_view : goal.returns-then-is_list_view
returns-then-is_list_view c = sizes_size c.args.code c.args.r c.args.n c.is_string.ensures c.if-is_string.false c.is_list_view.ensures c.if-is_list_view.true c.width_of.ensures

pub overflow_mul-result-2 : goal.overflow_mul-result-2
overflow_mul-result-2 c = omega (arith, dense_size c.args.code c.args.r c.args.n c.is_string.ensures c.if-is_string.false c.is_list_view.ensures c.if-is_list_view.false)

pub returns : goal.returns
returns c = dense_size c.args.code c.args.r c.args.n c.is_string.ensures c.if-is_string.false c.is_list_view.ensures c.if-is_list_view.false
