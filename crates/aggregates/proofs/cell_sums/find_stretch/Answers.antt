-- `cell_sums::find_stretch` meets its contract. Assumes nothing.
use Rattle.std.proofs.Common.{◌≡◌, ◌+◌, true, sym, ◌∙◌, arith}
use Rattle.aggregates.specs.cell_sums.Numbers.{Found}
use Rattle.aggregates.specs.cell_sums.Steps.{until_of}
use Rattle.aggregates.proofs.cell_sums.Laws.{bounded_by, run_flat, one_flat, flip, until_plain, until_run}
use Rattle.aggregates.proofs.cell_sums.find_stretch.Goals as goal

pub plain_cell-requires : goal.plain_cell-requires
plain_cell-requires c = (flip _ _ c.if-not-n.true, c.requires.1)

pub returns-then-not-n : goal.returns-then-not-n
returns-then-not-n c =
    (omega arith, one_flat _ c.args.row _ c.plain_cell.ensures.0 c.plain_cell.ensures.1, until_plain _ c.args.n c.args.row (flip _ _ c.if-not-n.true))

pub stretch_at-requires : goal.stretch_at-requires
stretch_at-requires c = c.requires.1.ends_held ((let fact : c.args.n.runs ≡ true = flip _ _ c.if-not-n.false in fact))

pub overflow_add-n : goal.overflow_add-n
overflow_add-n c = record { fits = ((let fact : Found c.args.body.now c.args.n c.args.row c.in-Ok.found.run c.in-Ok.found.left = c.requires.1.found ((let fact : c.args.n.runs ≡ true = flip _ _ c.if-not-n.false in fact)) _ _ (sym c.stretch_at.ensures ∙ c.in-Ok.is) in fact)).low.1 }

pub cell_at-requires : goal.cell_at-requires
cell_at-requires c = ((let fact : Found c.args.body.now c.args.n c.args.row c.in-Ok.found.run c.in-Ok.found.left = c.requires.1.found ((let fact : c.args.n.runs ≡ true = flip _ _ c.if-not-n.false in fact)) _ _ (sym c.stretch_at.ensures ∙ c.in-Ok.is) in fact)).held

pub overflow_add-result-in-Ok : goal.overflow_add-result-in-Ok
overflow_add-result-in-Ok c = record { fits = omega (arith, ((let fact : Found c.args.body.now c.args.n c.args.row c.in-Ok.found.run c.in-Ok.found.left = c.requires.1.found ((let fact : c.args.n.runs ≡ true = flip _ _ c.if-not-n.false in fact)) _ _ (sym c.stretch_at.ensures ∙ c.in-Ok.is) in fact)).low.0) }

pub returns-in-Ok : goal.returns-in-Ok
returns-in-Ok c =
    let f = (let fact : Found c.args.body.now c.args.n c.args.row c.in-Ok.found.run c.in-Ok.found.left = c.requires.1.found ((let fact : c.args.n.runs ≡ true = flip _ _ c.if-not-n.false in fact)) _ _ (sym c.stretch_at.ensures ∙ c.in-Ok.is) in fact) in
    (omega (arith, f.some_left), run_flat _ _ _ _ _ f.same c.cell_at.ensures.value (bounded_by _ c.cell_at.ensures.count_bound), (let fact : c.args.row + c.in-Ok.found.left ≡ until_of c.args.body.now c.args.n c.args.row = until_run _ c.args.n c.args.row _ _ ((let fact : c.args.n.runs ≡ true = flip _ _ c.if-not-n.false in fact)) (sym c.stretch_at.ensures ∙ c.in-Ok.is) in fact))

pub returns-in-Err : goal.returns-in-Err
returns-in-Err c =
    absurd (c.requires.1.some_run ((let fact : c.args.n.runs ≡ true = flip _ _ c.if-not-n.false in fact)) _ (sym c.stretch_at.ensures ∙ c.in-Err.is))
