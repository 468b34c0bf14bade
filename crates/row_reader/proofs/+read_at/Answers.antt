use mathlib.Core.Path.{sym, ap, subst, ◌∙◌}
use Prim.Native.Nat.{◌-◌}
use native.Mathlib.Omega.{arith}
use lib.ListN.{length-set}
use Rattle.array_data.specs.entries.Entries.{column}
use Rattle.row_reader.specs.Walk.{walk, follow}
use Rattle.row_reader.proofs.Laws.{no_deeper, deeper, walk_short, Read, read_done, read_under}
use Rattle.row_reader.proofs.+read_at.Goals as goal

pub returns-then-depth-eq0 : goal.returns-then-depth-eq0
returns-then-depth-eq0 t c =
    let z = c.args in
    let y = column z.lengths.now z.places.now z.buffers.now z.body.now z.first in
    let d = read_done _ _ z.ids z.count (no_deeper z.tree.now y z.depth z.i z.row c.if-depth-eq0.true) in
    (d.row_is, d.count_is, d.ids_are)

pub overflow_sub-depth : goal.overflow_sub-depth
overflow_sub-depth t c = omega arith

pub read_at-requires : goal.read_at-requires
read_at-requires t c = (omega (arith, c.decreases), (omega (arith, c.requires.0), c.requires.1))

pub bounds-more-count : goal.bounds-more-count
bounds-more-count t c = omega (arith, c.requires.0, c.requires.1)

pub overflow_add-count : goal.overflow_add-count
overflow_add-count t c = omega (arith, c.requires.0, c.requires.1)

pub overflow_sub-depth-in-Choose : goal.overflow_sub-depth-in-Choose
overflow_sub-depth-in-Choose t c = omega arith

pub read_at-requires-in-Choose : goal.read_at-requires-in-Choose
read_at-requires-in-Choose t c = (omega (arith, c.decreases), (omega (arith, c.requires.0), length-set c.args.ids _ _ ∙ c.requires.1))

pub returns-in-Done : goal.returns-in-Done
returns-in-Done t c =
    let z = c.args in
    let y = column z.lengths.now z.places.now z.buffers.now z.body.now z.first in
    let w = deeper z.tree.now y z.depth z.i z.row c.if-depth-eq0.false _ c.next_step.ensures ∙ ap (follow (walk z.tree.now y (z.depth - 1))) c.in-Done.is in
    let d = read_done _ _ z.ids z.count w in
    (d.row_is, d.count_is, d.ids_are)

pub returns-in-Go : goal.returns-in-Go
returns-in-Go t c =
    let z = c.args in
    let y = column z.lengths.now z.places.now z.buffers.now z.body.now z.first in
    let w = deeper z.tree.now y z.depth z.i z.row c.if-depth-eq0.false _ c.next_step.ensures ∙ ap (follow (walk z.tree.now y (z.depth - 1))) c.in-Go.is in
    let e = c.read_at.ensures in
    let d : Read (walk z.tree.now y z.depth z.i z.row) z.ids z.count _ _ _ = subst (λ v. Read v z.ids z.count c.read_at.result.read c.read_at.result.ids c.read_at.result.count) (sym w) (record { row_is = e.0; count_is = e.1; ids_are = e.2 }) in
    (d.row_is, d.count_is, d.ids_are)

pub returns-in-Choose : goal.returns-in-Choose
returns-in-Choose t c =
    let z = c.args in
    let y = column z.lengths.now z.places.now z.buffers.now z.body.now z.first in
    let w = deeper z.tree.now y z.depth z.i z.row c.if-depth-eq0.false _ c.next_step.ensures ∙ ap (follow (walk z.tree.now y (z.depth - 1))) c.in-Choose.is in
    let e = c.read_at-in-Choose.ensures in
    let d = read_under _ _ _ z.ids z.count c.read_at-in-Choose.result.read c.read_at-in-Choose.result.ids c.read_at-in-Choose.result.count w (omega (arith, c.requires.1, c.requires.0, walk_short z.tree.now y (z.depth - 1) c.in-Choose.node c.in-Choose.r)) (record { row_is = e.0; count_is = e.1; ids_are = e.2 }) in
    (d.row_is, d.count_is, d.ids_are)
