-- `pattern_sums::add_all` meets its contract. Assumes nothing.
use Rattle.std.proofs.Common.{◌≡◌, ◌+◌, ◌*◌, ◌/◌, ◌%◌, ◌^◌, ap, ◌∙◌, arith}
use Rattle.aggregates.specs.patterns.Parts.{top_bit, up_to}
use Rattle.aggregates.proofs.patterns.Laws.{up_none, up_more, up_ones, one_top, read_lt, within, low_room, high_room, one_room, low_most, high_most, one_most}
use Rattle.aggregates.proofs.patterns.add_all.Goals as goal

pub loop-i-init : goal.loop-i-init
loop-i-init g c = (up_none _, up_none _, up_none _, omega arith, omega arith, omega arith)

pub number_at-x-requires : goal.number_at-x-requires
number_at-x-requires g c =
    within c.args.at g.N.Unsigned.SIZE c.args.n _ c.loop-i.i c.loop-i-test.true c.requires.1

pub overflow_add-low : goal.overflow_add-low
overflow_add-low g c =
    let l = c.loop-i in
    record { fits = low_room _ c.number_at-x.result l.i c.args.n l.invariant.3 c.loop-i-test.true c.requires.0 }

pub overflow_add-high : goal.overflow_add-high
overflow_add-high g c =
    let l = c.loop-i in
    record { fits = high_room _ c.number_at-x.result l.i c.args.n l.invariant.4 c.loop-i-test.true c.requires.0 (omega arith) }

pub overflow_add-below : goal.overflow_add-below
overflow_add-below g c =
    let l = c.loop-i in
    record { fits = one_room _ _ l.i c.args.n l.invariant.5 c.loop-i-test.true c.requires.0 (rw c.top_bit-below.ensures (one_top _ g.N.Unsigned.SIZE g.met.N.Unsigned.sized (read_lt c.args.body.now (λ j. (c.shared_slice_known-1.given j).fits) (c.args.at + c.loop-i.i * g.N.Unsigned.SIZE) g.N.Unsigned.SIZE _ c.number_at-x.ensures))) }

pub loop-i-preserved : goal.loop-i-preserved
loop-i-preserved g c =
    let l = c.loop-i in
    let x = c.number_at-x in (
      up_more _ l.i _ _ l.invariant.0 (ap (λ v. v % 4294967296) x.ensures),
      up_more _ l.i _ _ l.invariant.1 (ap (λ v. v / 4294967296) x.ensures),
      up_more _ l.i _ _ l.invariant.2 (c.top_bit-below.ensures ∙ ap (λ v. v / 2 ^ top_bit g.N.Unsigned.SIZE) x.ensures),
      low_most _ x.result l.i l.invariant.3,
      high_most _ x.result l.i l.invariant.4 (omega arith),
      one_most _ _ l.i l.invariant.5 (rw c.top_bit-below.ensures (one_top _ g.N.Unsigned.SIZE g.met.N.Unsigned.sized (read_lt c.args.body.now (λ j. (c.shared_slice_known-1.given j).fits) (c.args.at + c.loop-i.i * g.N.Unsigned.SIZE) g.N.Unsigned.SIZE _ c.number_at-x.ensures))),
    )

pub returns : goal.returns
returns g c =
    let l = c.loop-i in
    let e : l.i ≡ c.args.n = omega arith in
    record { count = up_ones c.args.n; low = l.invariant.0 ∙ ap (up_to _) e; high = l.invariant.1 ∙ ap (up_to _) e; below = l.invariant.2 ∙ ap (up_to _) e }
