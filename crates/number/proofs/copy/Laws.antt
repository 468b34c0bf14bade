-- What a write to the part at .. at + n of a slice leaves; a turn of a loop that copies or fills, and a copy by way of another list.
-- Assumes nothing.
use mathlib.Core.Path.{◌≡◌, ap, sym, ◌∙◌}
use Prim.Native.Nat.{ℕ, ◌+◌, ◌-◌, ◌≤◌, ◌<◌}
use native.Mathlib.Numerals.{add-one}
use native.Mathlib.Nat.{zero-add}
use native.Mathlib.Omega.{arith}
use mathlib.Core.List.{List, ◌++◌, append-nil}
use lib.ListN.{length, take, drop, get_or, set, replicate, length-drop, length-replicate, replicate-append-replicate}
use lib.Seq.{take-suc, take_all, get_or-drop, drop-drop, drop-length, length-take-le}
use Rattle.std.proofs.Common.{append_assoc}
use borrow.Rule.Slice.PartMut.{put_mid}
use Rattle.number.specs.Number.{splice}
use Rattle.number.proofs.Laws.{splice_snoc}

pub part_written : (s bs new : List ℕ) (at n : ℕ) → length bs ≡ n → new ≡ bs → put_mid at (at + n - at) s new ≡ splice at bs s
unfolding splice
part_written s bs new at n h e =
    let k : at + n - at ≡ length bs = omega (arith, h) in
    rw (e, k) (ap (λ r. take at s ++ (bs ++ r)) (drop-drop (length bs) at s) ∙ sym (append_assoc (take at s) bs _))

pub copy_step : (d b : List ℕ) (at from i : ℕ) → at + i < length d → from + i < length b
    → set (splice at (take i (drop from b)) d) (at + i) (get_or b (from + i) 0) ≡ splice at (take (i + 1) (drop from b)) d
copy_step d b at from i h k =
    let k' : i < length (drop from b) = simp length-drop (omega arith) in
    let e : length (take i (drop from b)) ≡ i = length-take-le i (drop from b) (omega arith) in
    rw (add-one, take-suc (drop from b) i 0, get_or-drop)
    (rw e at (splice_snoc at (take i (drop from b)) d (get_or b (from + i) 0) (rw e h)))

pub fill_step : (d : List ℕ) (at i v : ℕ) → at + i < length d → set (splice at (replicate i v) d) (at + i) v ≡ splice at (replicate (i + 1) v) d
fill_step d at i v h =
    let e : length (replicate i v) ≡ i = length-replicate i v in
    rw (← replicate-append-replicate i 1 v) (rw e at (splice_snoc at (replicate i v) d v (rw e h)))

pub through : (t u body room new : List ℕ) (at from n : ℕ) → length t ≡ n → from + n ≤ length body
    → u ≡ splice 0 (take n (drop from body)) t → new ≡ splice at (take n (drop 0 u)) room → new ≡ splice at (take n (drop from body)) room
unfolding splice
through t u body room new at from n h g e f =
    let p = take n (drop from body) in
    let l : length p ≡ length t = length-take-le n (drop from body) (simp length-drop (omega arith)) ∙ sym h in
    let w : u ≡ p = e ∙ rw (zero-add, l, drop-length, append-nil) in
    f ∙ rw (w, take_all n p (omega arith))
