-- `pattern_sums::add_some` meets its contract. Assumes nothing.
use Rattle.std.proofs.Common.{◌≡◌, ◌+◌, ◌*◌, ◌/◌, ◌%◌, ◌^◌, ap, ◌∙◌, ap₂, lt_of_le_of_lt, arith}
use Rattle.aggregates.specs.patterns.Parts.{top_bit, up_to}
use Rattle.aggregates.proofs.patterns.Laws.{up_none, up_more, one_top, read_lt, within, times_bit, low_room, high_room, one_room, low_most, high_most, one_most, first_bits, next_bits}
use Rattle.aggregates.proofs.patterns.add_some.Goals as goal

pub loop-i-init : goal.loop-i-init
loop-i-init g c =
    (up_none _, up_none _, up_none _, up_none _, first_bits _, omega arith, omega arith, omega arith, omega arith)

pub number_at-requires : goal.number_at-requires
number_at-requires g c =
    within c.args.at g.N.Unsigned.SIZE 64 _ c.loop-i.i c.loop-i-test.true c.requires

pub overflow_mul-x : goal.overflow_mul-x
overflow_mul-x g c = omega (arith, times_bit c.number_at.result (c.loop-i.bits % 2) (omega arith))

pub overflow_add-count : goal.overflow_add-count
overflow_add-count g c = omega arith

pub overflow_add-low : goal.overflow_add-low
overflow_add-low g c =
    let l = c.loop-i in
    record { fits = low_room _ _ l.i 64 l.invariant.6 c.loop-i-test.true (omega arith) }

pub overflow_add-high : goal.overflow_add-high
overflow_add-high g c =
    let l = c.loop-i in
    record { fits = high_room _ _ l.i 64 l.invariant.7 c.loop-i-test.true (omega arith) (omega (arith, times_bit c.number_at.result (c.loop-i.bits % 2) (omega arith))) }

pub overflow_add-below : goal.overflow_add-below
overflow_add-below g c =
    let l = c.loop-i in
    record { fits = one_room _ _ l.i 64 l.invariant.8 c.loop-i-test.true (omega arith) (rw c.top_bit-below.ensures (one_top _ g.N.Unsigned.SIZE g.met.N.Unsigned.sized (lt_of_le_of_lt (times_bit c.number_at.result (c.loop-i.bits % 2) (omega arith)) (read_lt c.args.body.now (λ j. (c.shared_slice_known-1.given j).fits) (c.args.at + c.loop-i.i * g.N.Unsigned.SIZE) g.N.Unsigned.SIZE _ c.number_at.ensures)))) }

pub loop-i-preserved : goal.loop-i-preserved
loop-i-preserved g c =
    let l = c.loop-i in
    let x = c.number_at in
    let b = ap (λ k. k % 2) l.invariant.4 in
    let e = ap₂ ◌*◌ x.ensures b in (
      up_more _ l.i _ _ l.invariant.0 b,
      up_more _ l.i _ _ l.invariant.1 (ap (λ v. v % 4294967296) e),
      up_more _ l.i _ _ l.invariant.2 (ap (λ v. v / 4294967296) e),
      up_more _ l.i _ _ l.invariant.3 (c.top_bit-below.ensures ∙ ap (λ v. v / 2 ^ top_bit g.N.Unsigned.SIZE) e),
      next_bits _ l.i _ l.invariant.4,
      omega arith,
      low_most _ _ l.i l.invariant.6,
      high_most _ _ l.i l.invariant.7 (omega (arith, times_bit c.number_at.result (c.loop-i.bits % 2) (omega arith))),
      one_most _ _ l.i l.invariant.8 (rw c.top_bit-below.ensures (one_top _ g.N.Unsigned.SIZE g.met.N.Unsigned.sized (lt_of_le_of_lt (times_bit c.number_at.result (c.loop-i.bits % 2) (omega arith)) (read_lt c.args.body.now (λ j. (c.shared_slice_known-1.given j).fits) (c.args.at + c.loop-i.i * g.N.Unsigned.SIZE) g.N.Unsigned.SIZE _ c.number_at.ensures)))),
    )

pub returns : goal.returns
returns g c =
    let l = c.loop-i in
    let e : l.i ≡ 64 = omega arith in
    record { count = l.invariant.0 ∙ ap (up_to _) e; low = l.invariant.1 ∙ ap (up_to _) e; high = l.invariant.2 ∙ ap (up_to _) e; below = l.invariant.3 ∙ ap (up_to _) e }
