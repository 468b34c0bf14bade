-- What a walk writes is bytes. Assumes nothing.
use mathlib.Core.Bool.{Bool, true, false, cond}
use mathlib.Core.List.{List, [], ◌∷◌, ◌++◌}
use Prim.Native.Nat.{ℕ, zero, suc, ◌+◌, ◌*◌, ◌/◌, ◌%◌, ◌^◌, ◌<◌}
use native.Mathlib.Omega.{arith}
use lib.ListN.{take, drop, replicate}
use lib.Dec.{ltb}
use Rattle.number.specs.Number.{number, encode, entry}
use Rattle.bits.specs.Bits.{bits_at}
use Rattle.bits.proofs.Laws.{Below, none, more, below_of_lem, below_at_lem, below_append, below_take, below_drop, below_replicate, below_bits_at}
use Rattle.utils.specs.Pieces.{pieces}
use Rattle.utils.specs.Offsets.{moved_offsets, repeated, counted_up}
use Rattle.utils.specs.primitive.Primitive.{rebased}
use Rattle.utils.specs.byte_view.View.{reviewed_one, reviewed}
use Rattle.run_ends.specs.Clip.{clip, clipped}
use Rattle.refinement.specs.log_in_room.Room.{AllBelow}

below_encode : (w n : ℕ) → Below 256 (encode w n)
unfolding encode
below_encode zero n = none
below_encode (suc w) n = let h : n % 256 < 256 = omega arith in more h (below_encode w (n / 256))

below_pieces : (f : ℕ → List ℕ) → ((k : ℕ) → Below 256 (f k)) → (n : ℕ) → Below 256 (pieces f n)
unfolding pieces
below_pieces f h zero = none
below_pieces f h (suc n) = below_append 256 (pieces f n) (f n) (below_pieces f h n) (h n)

below_clipped : (w : ℕ) (s : List ℕ) (from m start end last : ℕ) → Below 256 (clipped w s from m start end last)
unfolding clipped
below_clipped w s from zero start end last = none
below_clipped w s from (suc m) start end last =
    below_append 256 (clipped w s from m start end last) _ (below_clipped w s from m start end last) (below_encode w (last + clip (entry w s from m) start end))

below_view : (s : List ℕ) (base : ℕ) → Below 256 s → Below 256 (reviewed_one s base)
unfolding reviewed_one
below_view s base b = go (ltb 12 (number 4 s))
  where
    go : (t : Bool) → Below 256 (cond t (take 8 s ++ encode 4 ((number 4 (drop 8 s) + base) % 256 ^ 4) ++ take 4 (drop 12 s)) (take 16 s))
    go true =
        below_append 256 _ (take 4 (drop 12 s)) (below_append 256 (take 8 s) _ (below_take 256 8 s b) (below_encode 4 _)) (below_take 256 4 (drop 12 s) (below_drop 256 12 s b))
    go false = below_take 256 16 s b

are_bytes : (l : List ℕ) → Below 256 l → AllBelow 256 l
are_bytes l b = below_at_lem 256 l (omega arith) b

pub bytes_encode : (w n : ℕ) → AllBelow 256 (encode w n)
bytes_encode w n = are_bytes (encode w n) (below_encode w n)

pub bytes_same : (n x : ℕ) → x < 256 → AllBelow 256 (replicate n x)
bytes_same n x h = are_bytes (replicate n x) (below_replicate 256 n x h)

pub bytes_one : (x : ℕ) → x < 256 → AllBelow 256 (x ∷ [])
bytes_one x h = are_bytes (x ∷ []) (more h none)

pub bytes_part : (at n : ℕ) (s : List ℕ) → AllBelow 256 s → AllBelow 256 (take n (drop at s))
bytes_part at n s h = are_bytes (take n (drop at s)) (below_take 256 n (drop at s) (below_drop 256 at s (below_of_lem 256 s h)))

pub bytes_moved : (w : ℕ) (s : List ℕ) (from last n : ℕ) → AllBelow 256 (moved_offsets w s from last n)
unfolding moved_offsets
bytes_moved w s from last n = are_bytes _ (below_pieces _ (λ k. below_encode w _) n)

pub bytes_repeated : (w v n : ℕ) → AllBelow 256 (repeated w v n)
unfolding repeated
bytes_repeated w v n = are_bytes _ (below_pieces _ (λ k. below_encode w _) n)

pub bytes_counted : (w first n : ℕ) → AllBelow 256 (counted_up w first n)
unfolding counted_up
bytes_counted w first n = are_bytes _ (below_pieces _ (λ k. below_encode w _) n)

pub bytes_rebased : (w : ℕ) (s : List ℕ) (from base n : ℕ) → AllBelow 256 (rebased w s from base n)
unfolding rebased
bytes_rebased w s from base n = are_bytes _ (below_pieces _ (λ k. below_encode w _) n)

pub bytes_reviewed : (s : List ℕ) (from base n : ℕ) → AllBelow 256 s → AllBelow 256 (reviewed s from base n)
unfolding reviewed
bytes_reviewed s from base n h =
    are_bytes _ (below_pieces (λ k. reviewed_one (drop (from + 16 * k) s) base) (λ k. below_view (drop (from + 16 * k) s) base (below_drop 256 (from + 16 * k) s (below_of_lem 256 s h))) n)

pub bytes_clipped : (w : ℕ) (s : List ℕ) (from m start end last : ℕ) → AllBelow 256 (clipped w s from m start end last)
bytes_clipped w s from m start end last = are_bytes (clipped w s from m start end last) (below_clipped w s from m start end last)

pub bits_part : (p n : ℕ) (s : List ℕ) → AllBelow 2 (bits_at p n s)
bits_part p n s = below_at_lem 2 (bits_at p n s) (omega arith) (below_bits_at p n s)

pub bits_same : (n v : ℕ) → v < 2 → AllBelow 2 (replicate n v)
bits_same n v h = below_at_lem 2 (replicate n v) (omega arith) (below_replicate 2 n v h)
