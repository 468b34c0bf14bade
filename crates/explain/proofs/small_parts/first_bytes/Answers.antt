-- `explain::small_parts::first_bytes` meets its contract. Assumes nothing.
use Rattle.measure.proofs.Bytes.{first_offsets, first_other}
use mathlib.Core.Path.{ap₂}
use mathlib.Core.Bool.{◌||◌}
use Rattle.explain.proofs.small_parts.first_bytes.Goals as goal

pub returns-then-is_string-is_list : goal.returns-then-is_string-is_list
returns-then-is_string-is_list c =
    let z = c.args in
    first_offsets z.code z.r z.n _ (ap₂ ◌||◌ c.is_string.ensures c.is_list.ensures) c.if-is_string-is_list.true c.width_of.ensures c.times_more.ensures

pub returns : goal.returns
returns c =
    let z = c.args in
    first_other z.code z.r z.n _ (ap₂ ◌||◌ c.is_string.ensures c.is_list.ensures) c.if-is_string-is_list.false c.entry_size.ensures c.times.ensures
