-- `tally::exact_sum` meets its contract. Assumes nothing.
use Rattle.std.specs.Prelude.{Some}
use Rattle.std.proofs.Common.{◌≡◌, ℕ, suc, ◌+◌, ◌-◌, ◌*◌, ◌<◌, ◌≤◌, ℤ, pos, ◌+ℤ◌, sym, refl, ap, ◌∙◌, mul_comm, mul-add, arith, w64, Fits, to_z, of_z}
use lib.IntN.{+ℤ_assoc, pos-+ℤ-pos}
use Rattle.number.specs.Number.{signed}
use Rattle.number.proofs.Signs.{read_value}
use Rattle.aggregates.specs.declared.tally.Tally.{Tally}
use Rattle.aggregates.specs.tally.Cells.{value_of, tallied_by}
use Rattle.aggregates.proofs.tally.Integers.{more}
use Rattle.aggregates.proofs.tally.Totals.{level, level_outside, under, under_outside, far}
use Rattle.aggregates.proofs.tally.Sums.{hi_most}
use Rattle.aggregates.proofs.tally.exact_sum.Goals as goal

-- the patterns lifted to 64 bits
lifted : (t : Tally) (lift p s : ℕ) → lift ≤ 18446744073709551616 → p ≡ lift * t.below → s ≡ value_of t + p
    → pos s ≡ tallied_by lift t +ℤ pos (t.below * 18446744073709551616)
lifted t lift p s l e f =
    let b = t.below in
    let k = 18446744073709551616 - lift in
    let split : b * 18446744073709551616 ≡ b * k + p = ap (λ q. b * q) (let z : 18446744073709551616 ≡ k + lift = omega arith in z) ∙ mul-add b k lift ∙ ap (λ q. b * k + q) (mul_comm b lift ∙ sym e) in
    ap pos f ∙ sym (pos-+ℤ-pos (value_of t) p)
    ∙ ap (λ z. z +ℤ pos p) (more (tallied_by lift t) (value_of t) (b * k) refl)
    ∙ +ℤ_assoc (tallied_by lift t) (pos (b * k)) (pos p)
    ∙ ap (λ z. tallied_by lift t +ℤ z) (pos-+ℤ-pos (b * k) p ∙ ap pos (sym split))

none : (h b : ℕ) → suc h ≡ b → b ≡ 0 → ⊥
none h b p q = omega arith

one_less : (h b : ℕ) → h ≡ b - 1 → (b ≡ 0 → ⊥) → suc h ≡ b
one_less h b p q = omega (arith, q)

less_one : (h b : ℕ) → suc h ≡ b → h ≡ b - 1
less_one h b p = omega arith

back : (z : ℤ) (p : ℕ) → z ≡ signed 8 p → Fits w64 p → to_z w64 (of_z w64 z) ≡ signed 8 p
back z p e f = read_value w64 z p p f e refl

pub sum-sum-requires : goal.sum-sum-requires
sum-sum-requires c =
    omega (arith, hi_most c.product-more.result.hi c.product-more.result.lo c.args.lift c.args.t.below c.product-more.ensures (let z : c.args.lift ≤ 18446744073709551615 = omega (arith, c.ranges.lift.fits) in z), c.requires)

pub returns-then-sum-lt9223372036854775808 : goal.returns-then-sum-lt9223372036854775808
returns-then-sum-lt9223372036854775808 c =
    ap Some (back _ _ c.from_pattern.ensures (record { fits = (let fact : c.sum-sum.result.lo < 18446744073709551616 = omega (arith, c.sum-sum.type_inv) in fact) }))
    ∙ level c.sum-sum.result.hi c.sum-sum.result.lo c.args.t.below ((let fact : c.sum-sum.result.lo < 18446744073709551616 = omega (arith, c.sum-sum.type_inv) in fact)) _ ((let fact : pos (c.sum-sum.result.hi * 18446744073709551616 + c.sum-sum.result.lo) ≡ tallied_by c.args.lift c.args.t +ℤ pos (c.args.t.below * 18446744073709551616) = lifted c.args.t c.args.lift _ _ (omega (arith, c.ranges.lift.fits)) c.product-more.ensures c.sum-sum.ensures in fact)) c.if-sum-t.true c.if-sum-lt9223372036854775808.true

pub returns-then-sum-t : goal.returns-then-sum-t
returns-then-sum-t c =
    level_outside c.sum-sum.result.hi c.sum-sum.result.lo c.args.t.below ((let fact : c.sum-sum.result.lo < 18446744073709551616 = omega (arith, c.sum-sum.type_inv) in fact)) _ ((let fact : pos (c.sum-sum.result.hi * 18446744073709551616 + c.sum-sum.result.lo) ≡ tallied_by c.args.lift c.args.t +ℤ pos (c.args.t.below * 18446744073709551616) = lifted c.args.t c.args.lift _ _ (omega (arith, c.ranges.lift.fits)) c.product-more.ensures c.sum-sum.ensures in fact)) c.if-sum-t.true c.if-sum-lt9223372036854775808.false

pub returns-then-t-eq0 : goal.returns-then-t-eq0
returns-then-t-eq0 c =
    far c.sum-sum.result.hi c.sum-sum.result.lo c.args.t.below ((let fact : c.sum-sum.result.lo < 18446744073709551616 = omega (arith, c.sum-sum.type_inv) in fact)) _ ((let fact : pos (c.sum-sum.result.hi * 18446744073709551616 + c.sum-sum.result.lo) ≡ tallied_by c.args.lift c.args.t +ℤ pos (c.args.t.below * 18446744073709551616) = lifted c.args.t c.args.lift _ _ (omega (arith, c.ranges.lift.fits)) c.product-more.ensures c.sum-sum.ensures in fact)) c.if-sum-t.false (λ q. none _ _ q c.if-t-eq0.true)

pub returns-then-sum-ge9223372036854775808 : goal.returns-then-sum-ge9223372036854775808
returns-then-sum-ge9223372036854775808 c =
    ap Some (back _ _ c.from_pattern-then-sum-ge9223372036854775808.ensures (record { fits = (let fact : c.sum-sum.result.lo < 18446744073709551616 = omega (arith, c.sum-sum.type_inv) in fact) }))
    ∙ under c.sum-sum.result.hi c.sum-sum.result.lo c.args.t.below ((let fact : c.sum-sum.result.lo < 18446744073709551616 = omega (arith, c.sum-sum.type_inv) in fact)) _ ((let fact : pos (c.sum-sum.result.hi * 18446744073709551616 + c.sum-sum.result.lo) ≡ tallied_by c.args.lift c.args.t +ℤ pos (c.args.t.below * 18446744073709551616) = lifted c.args.t c.args.lift _ _ (omega (arith, c.ranges.lift.fits)) c.product-more.ensures c.sum-sum.ensures in fact)) (one_less _ _ c.if-sum-t-2.true c.if-t-eq0.false) c.if-sum-ge9223372036854775808.true

pub returns-else-sum-ge9223372036854775808 : goal.returns-else-sum-ge9223372036854775808
returns-else-sum-ge9223372036854775808 c =
    under_outside c.sum-sum.result.hi c.sum-sum.result.lo c.args.t.below ((let fact : c.sum-sum.result.lo < 18446744073709551616 = omega (arith, c.sum-sum.type_inv) in fact)) _ ((let fact : pos (c.sum-sum.result.hi * 18446744073709551616 + c.sum-sum.result.lo) ≡ tallied_by c.args.lift c.args.t +ℤ pos (c.args.t.below * 18446744073709551616) = lifted c.args.t c.args.lift _ _ (omega (arith, c.ranges.lift.fits)) c.product-more.ensures c.sum-sum.ensures in fact)) (one_less _ _ c.if-sum-t-2.true c.if-t-eq0.false) c.if-sum-ge9223372036854775808.false

pub returns-else-sum-t-2 : goal.returns-else-sum-t-2
returns-else-sum-t-2 c =
    far c.sum-sum.result.hi c.sum-sum.result.lo c.args.t.below ((let fact : c.sum-sum.result.lo < 18446744073709551616 = omega (arith, c.sum-sum.type_inv) in fact)) _ ((let fact : pos (c.sum-sum.result.hi * 18446744073709551616 + c.sum-sum.result.lo) ≡ tallied_by c.args.lift c.args.t +ℤ pos (c.args.t.below * 18446744073709551616) = lifted c.args.t c.args.lift _ _ (omega (arith, c.ranges.lift.fits)) c.product-more.ensures c.sum-sum.ensures in fact)) c.if-sum-t.false (λ q. c.if-sum-t-2.false (less_one _ _ q))
