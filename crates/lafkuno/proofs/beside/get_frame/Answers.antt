-- `lafkuno::beside::get_frame` meets its contract. Assumes nothing.
use mathlib.Core.Path.{refl}
use native.Mathlib.Omega.{arith}
use Rattle.lafkuno.proofs.beside.get_frame.Goals as goal

pub bounds-s-0 : goal.bounds-s-0
bounds-s-0 c = omega arith

pub bounds-s-1 : goal.bounds-s-1
bounds-s-1 c = omega arith

pub bounds-s-2 : goal.bounds-s-2
bounds-s-2 c = omega arith

pub bounds-s-3 : goal.bounds-s-3
bounds-s-3 c = omega arith

pub returns : goal.returns
returns c = refl
