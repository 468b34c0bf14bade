-- `row_reader::unions::step_into` meets its contract. Assumes nothing.
use mathlib.Core.Path.{sym, ap, ◌∙◌}
use native.Mathlib.Omega.{arith}
use Rattle.row_reader.specs.Walk.{chosen}
use Rattle.row_reader.proofs.Laws.{into_big, into_child}
use Rattle.row_reader.proofs.unions.step_into.Goals as goal

pub returns-then-id-gt127 : goal.returns-then-id-gt127
returns-then-id-gt127 c = into_big c.args.tree.now c.args.i c.args.id c.args.row (omega arith)

pub returns-in-Some : goal.returns-in-Some
returns-in-Some c =
    let z = c.args in
    ap (chosen z.tree.now z.id z.row) (sym c.in-Some.is) ∙ into_child z.tree.now z.i z.id z.row _ c.find_child.ensures (omega arith)

pub returns-in-None : goal.returns-in-None
returns-in-None c =
    let z = c.args in
    ap (chosen z.tree.now z.id z.row) (sym c.in-None.is) ∙ into_child z.tree.now z.i z.id z.row _ c.find_child.ensures (omega arith)
