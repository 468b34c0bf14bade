-- `fractions::magnitude` meets its contract. Assumes nothing.
use Rattle.std.proofs.Common.{nat_abs, sym, ap, ◌∙◌, add-one, arith, w64}
use Rattle.number.proofs.Signs.{below, from, flipped, flipped_read, from_read}
use Rattle.aggregates.proofs.fractions.magnitude.Goals as goal

pub overflow_sub-result : goal.overflow_sub-result
overflow_sub-result c = let f = c.ranges.z in let b = below w64 c.args.z f c.if-z-lt0.true in rw (flipped f b) (record { sfits = b.fits })

pub overflow_cast-result : goal.overflow_cast-result
overflow_cast-result c = let f = c.ranges.z in let b = below w64 c.args.z f c.if-z-lt0.true in rw (flipped_read f b) (tt, record { fits = omega (arith, b.fits) })

pub overflow_add-result : goal.overflow_add-result
overflow_add-result c = let f = c.ranges.z in let b = below w64 c.args.z f c.if-z-lt0.true in rw (flipped_read f b) (record { fits = omega (arith, b.fits) })

pub returns-then-z-lt0 : goal.returns-then-z-lt0
returns-then-z-lt0 c =
    let f = c.ranges.z in
    let b = below w64 c.args.z f c.if-z-lt0.true in
    rw (flipped_read f b) (add-one b.k ∙ sym (ap nat_abs b.is), omega (arith, b.fits))

pub overflow_cast-result-2 : goal.overflow_cast-result-2
overflow_cast-result-2 c = let f = c.ranges.z in let b = from w64 c.args.z f c.if-z-lt0.false in rw (from_read f b) (tt, record { fits = omega (arith, b.fits) })

pub returns : goal.returns
returns c =
    let f = c.ranges.z in
    let b = from w64 c.args.z f c.if-z-lt0.false in
    rw (from_read f b) (sym (ap nat_abs b.is), omega (arith, b.fits))
