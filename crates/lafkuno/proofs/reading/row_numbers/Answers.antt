-- `lafkuno::reading::row_numbers` meets its contract. Assumes nothing.
use mathlib.Core.Path.{sym, ap, ◌∙◌}
use mathlib.Core.List.{[], ◌∷◌}
use Rattle.lafkuno.specs.Calls.{row_numbers}
use Rattle.lafkuno.proofs.reading.row_numbers.Goals as goal

pub returns-in-Null : goal.returns-in-Null
returns-in-Null c = ap row_numbers (sym c.in-Null.is)

pub returns-in-Number : goal.returns-in-Number
returns-in-Number c = ap (λ n. n ∷ 0 ∷ 0 ∷ []) c.leaf_number.ensures ∙ ap row_numbers (sym c.in-Number.is)

pub returns-in-Bytes : goal.returns-in-Bytes
returns-in-Bytes c = ap row_numbers (sym c.in-Bytes.is)

pub returns-in-List : goal.returns-in-List
returns-in-List c = ap row_numbers (sym c.in-List.is)

pub returns-in-Refused : goal.returns-in-Refused
returns-in-Refused c = ap row_numbers (sym c.in-Refused.is)
