-- `utils::try_offsets` meets its contract. Assumes nothing.
use Rattle.std.proofs.Common.{◌∙◌, arith}
use Rattle.utils.proofs.Laws.{answer_low, answer_last, answer_over, answer_fits, below_cut}
use Rattle.utils.proofs.try_offsets.Goals.{then-end-first-via-then-end-first, then-end-first-via-else-end-first+then-largest_offset-last}
use Rattle.utils.proofs.try_offsets.Goals as goal

pub returns-then-end-first : goal.returns-then-end-first
returns-then-end-first g c =
    let a = c.args in
    let w = g.N.Unsigned.SIZE in
    elim c.then-end-first.branch [
      | then-end-first-via-then-end-first b ↦ answer_low w a.body.now a.from a.n a.last _ _ c.offset-first.ensures c.offset-end.ensures b.if-end-first.true
      | then-end-first-via-else-end-first+then-largest_offset-last b ↦ answer_last w a.body.now a.from a.n a.last _ _ c.offset-first.ensures c.offset-end.ensures b.if-end-first.false (omega arith)
    ]

pub returns-then-largest_offset-next : goal.returns-then-largest_offset-next
returns-then-largest_offset-next g c =
    let a = c.args in
    let w = g.N.Unsigned.SIZE in
    c.over.ensures ∙ answer_over w a.body.now a.from a.n a.last _ _ c.offset-first.ensures c.offset-end.ensures _ c.moved_to-next.ensures c.if-end-first.false (omega arith) (omega arith)

pub returns : goal.returns
returns g c =
    let a = c.args in
    let w = g.N.Unsigned.SIZE in
    answer_fits w a.body.now a.from a.n a.last _ _ c.offset-first.ensures c.offset-end.ensures _ c.moved_to-next.ensures c.if-end-first.false (omega arith) (omega arith) (below_cut w g.met.N.Unsigned.sized)
