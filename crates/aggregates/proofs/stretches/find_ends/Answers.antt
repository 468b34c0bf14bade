-- `stretches::find_ends` meets its contract. Assumes nothing.
use Rattle.std.proofs.Common.{◌≡◌, ℕ, ◌+◌, ◌*◌, ◌^◌, ◌<◌, Bool, true, false, ltb, refl, mul-add, arith, ltb-false, ltb-true}
use Rattle.aggregates.proofs.stretches.find_ends.Goals as goal

-- what was read, and what was asked of it
module _ (w f o n d a b : ℕ) (small : f < 2 ^ 64) (e : f ≡ d) (p : o ≡ a) (q : n ≡ b) (k : a + b < 9223372036854775808) (h : 0 < w * (a + b) → d + w * (a + b) < 2 ^ 64) where
  both : o + n < 9223372036854775808
  both = omega arith

  wide_both : f + w * (o + n) < 18446744073709551616
  wide_both = rw (p, q) (go (ltb 0 (w * (a + b))) refl)
    where
      go : (t : Bool) → ltb 0 (w * (a + b)) ≡ t → f + w * (a + b) < 18446744073709551616
      go true z = omega (arith, h (ltb-true 0 (w * (a + b)) z))
      go false z = omega (arith, ltb-false 0 (w * (a + b)) z)

  wide_one : f + w * o < 18446744073709551616
  wide_one = omega (arith, wide_both, mul-add w o n)

pub overflow_mul-result : goal.overflow_mul-result
overflow_mul-result c =
    record { fits = omega (arith, wide_one c.args.width _ _ _ _ _ _ (omega (arith, c.place_at-from.type_inv)) c.place_at-from.ensures c.offset_at-skipped.ensures c.length_at-count.ensures c.requires.first_bound c.requires.fact) }

pub overflow_add-result : goal.overflow_add-result
overflow_add-result c =
    record { fits = omega (arith, wide_one c.args.width _ _ _ _ _ _ (omega (arith, c.place_at-from.type_inv)) c.place_at-from.ensures c.offset_at-skipped.ensures c.length_at-count.ensures c.requires.first_bound c.requires.fact) }

pub overflow_add-result-2 : goal.overflow_add-result-2
overflow_add-result-2 c =
    record { fits = omega (arith, both c.args.width _ _ _ _ _ _ (omega (arith, c.place_at-from.type_inv)) c.place_at-from.ensures c.offset_at-skipped.ensures c.length_at-count.ensures c.requires.first_bound c.requires.fact) }

pub overflow_mul-result-2 : goal.overflow_mul-result-2
overflow_mul-result-2 c =
    record { fits = omega (arith, wide_both c.args.width _ _ _ _ _ _ (omega (arith, c.place_at-from.type_inv)) c.place_at-from.ensures c.offset_at-skipped.ensures c.length_at-count.ensures c.requires.first_bound c.requires.fact) }

pub overflow_add-result-3 : goal.overflow_add-result-3
overflow_add-result-3 c =
    record { fits = omega (arith, wide_both c.args.width _ _ _ _ _ _ (omega (arith, c.place_at-from.type_inv)) c.place_at-from.ensures c.offset_at-skipped.ensures c.length_at-count.ensures c.requires.first_bound c.requires.fact) }

pub returns : goal.returns
returns c =
    rw (c.place_at-from.ensures, c.offset_at-skipped.ensures, c.length_at-count.ensures, c.offset_at.ensures, c.length_at.ensures)
