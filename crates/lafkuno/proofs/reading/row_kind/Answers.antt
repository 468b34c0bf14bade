-- `lafkuno::reading::row_kind` meets its contract. Assumes nothing.
use mathlib.Core.Path.{sym, ap}
use Rattle.lafkuno.specs.Calls.{row_kind}
use Rattle.lafkuno.proofs.reading.row_kind.Goals as goal

pub returns-in-Refused : goal.returns-in-Refused
returns-in-Refused c = ap row_kind (sym c.in-Refused.is)
