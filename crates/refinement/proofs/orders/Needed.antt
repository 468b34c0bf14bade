-- The bytes that a buffer needs, by the rows and bytes of its node. Assumes nothing.
use mathlib.Core.Path.{◌≡◌, refl, sym, ap, subst}
use mathlib.Core.Bool.{Bool, true, false, cond}
use Prim.Native.Nat.{ℕ, zero, suc, ◌+◌, ◌*◌, ◌≤◌, ◌<◌, min}
use native.Mathlib.Nat.{mul-zero, min-eq_left, min-eq_right, mul-le-mul_right, le-mul_of_pos_right}
use native.Mathlib.Decide.{dec_lt}
use native.Mathlib.Omega.{arith}
use Rattle.schema.specs.formats.Code.{is_string, is_list_view, width_of}
use Rattle.walk.specs.State.{top}
use Rattle.plan.specs.parts.Parts.{has_offsets, entry_size, needed_by}
use Rattle.refinement.specs.orders.Written.{Ends}

pub needed_more : (z r s m n b : ℕ) → r ≤ s → (is_string z ≡ true → m ≤ n) → needed_by z r m b ≤ needed_by z s n b
needed_more z r s m n zero h k = omega arith
needed_more z r s m n (suc zero) h k = go (has_offsets z)
  where
    go : (t : Bool) → cond t ((r + 1) * width_of z) (r * entry_size z) ≤ cond t ((s + 1) * width_of z) (s * entry_size z)
    go true = mul-le-mul_right (width_of z) (omega arith)
    go false = mul-le-mul_right (entry_size z) h
needed_more z r s m n (suc (suc b)) h k = go (is_string z) (is_list_view z) k
  where
    go : (t u : Bool) → (t ≡ true → m ≤ n) → cond t m (cond u (r * width_of z) (r * 4)) ≤ cond t n (cond u (s * width_of z) (s * 4))
    go true u k = k refl
    go false true k = mul-le-mul_right (width_of z) h
    go false false k = omega arith

-- what is short of the largest number is of no width or of few rows
no_width : (k w : ℕ) → top ≤ k → k * w < top → w ≡ 0
no_width k zero l h = refl
no_width k (suc w) l h = absurd (let p : 0 < suc w = omega arith in let g = le-mul_of_pos_right k p in omega arith)

same_times : (k l w : ℕ) → top ≤ k → k * w < top → l * w ≡ k * w
same_times k l w p h = let e = no_width k w p h in rw (e, mul-zero k, mul-zero l)

-- a counter that stays at the largest number needs more bytes than any room has, or as many as any other; bits are not asked
pub needed_cut : (z r m b : ℕ) → 1 ≤ b → needed_by z (min r top) m b < top → needed_by z r m b ≡ needed_by z (min r top) m b
needed_cut z r m b one h = go (dec_lt top r)
  where
    at_top : (b : ℕ) → 1 ≤ b → needed_by z top m b < top → needed_by z r m b ≡ needed_by z top m b
    at_top zero l g = absurd (omega arith)
    at_top (suc zero) l g = by (has_offsets z) g
      where
        by : (t : Bool) → cond t ((top + 1) * width_of z) (top * entry_size z) < top → cond t ((r + 1) * width_of z) (r * entry_size z) ≡ cond t ((top + 1) * width_of z) (top * entry_size z)
        by true g = same_times (top + 1) (r + 1) (width_of z) (omega arith) g
        by false g = same_times top r (entry_size z) (omega arith) g
    at_top (suc (suc b)) l g = by (is_string z) (is_list_view z) g
      where
        by : (t u : Bool) → cond t m (cond u (top * width_of z) (top * 4)) < top → cond t m (cond u (r * width_of z) (r * 4)) ≡ cond t m (cond u (top * width_of z) (top * 4))
        by true u g = refl
        by false true g = same_times top r (width_of z) (omega arith) g
        by false false g = absurd (omega arith)

    go : Dec (top < r) → needed_by z r m b ≡ needed_by z (min r top) m b
    go (yes y) =
        let e : min r top ≡ top = min-eq_right (omega arith) in
        let g : needed_by z top m b < top = subst (λ v. needed_by z v m b < top) e h in
        subst (λ v. needed_by z r m b ≡ needed_by z v m b) (sym e) (at_top b one g)
    go (no y) = let e : min r top ≡ r = min-eq_left (omega arith) in ap (λ v. needed_by z v m b) (sym e)

pub ends_up : {n v w : ℕ} → Ends n v → v ≤ w → Ends n w
ends_up f l h = let g = f (omega arith) in omega arith
