-- `explain::small_parts::second_bytes` meets its contract. Assumes nothing.
use native.Mathlib.Omega.{arith}
use Rattle.measure.proofs.Bytes.{second_string, second_list, second_other}
use Rattle.explain.proofs.small_parts.second_bytes.Goals as goal

pub returns-then-is_string : goal.returns-then-is_string
returns-then-is_string c =
    let z = c.args in
    second_string z.code z.r z.n 0 c.is_string.ensures c.if-is_string.true (omega arith)

pub returns-then-is_list_view : goal.returns-then-is_list_view
returns-then-is_list_view c =
    let z = c.args in
    second_list z.code z.r z.n _ c.is_string.ensures c.if-is_string.false c.is_list_view.ensures c.if-is_list_view.true c.width_of.ensures c.times.ensures

pub returns : goal.returns
returns c =
    let z = c.args in
    second_other z.code z.r z.n _ c.is_string.ensures c.if-is_string.false c.is_list_view.ensures c.if-is_list_view.false c.times-2.ensures
