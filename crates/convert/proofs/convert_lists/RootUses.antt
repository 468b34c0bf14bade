-- The root's validity is written into a part that there is. Assumes nothing.
use mathlib.Core.List.{List}
use Prim.Native.Nat.{ℕ, ◌+◌, ◌*◌, ◌<◌}
use native.Mathlib.Omega.{arith}
use lib.ListN.{replicate}
use lib.Dec.{eqb}
use borrow.Author.Tests.{eqb-false}
use Rattle.bits.specs.Bits.{bits_at}
use Rattle.walk.specs.State.{Join, code_of, keeps_of, rows, place}
use Rattle.walk.specs.Log.{mask}
use Rattle.walk.specs.Leaves.{copy_bits, copy_mask}
use Rattle.refinement.proofs.log_in_room.Bytes.{bits_part, bits_same}
use Rattle.refinement.proofs.log_in_room.Uses.{Uses, uses_done, uses_wrote, uses_cond, uses_need, uses_next}
use Rattle.plan.specs.parts.Parts.{nodes_of, Used}
use Rattle.refinement.proofs.orders.Buffers.{copied_free, bits_copied}

pub mask_uses : (x : Join) → 0 < nodes_of x.plan → code_of x.plan 0 < 21 → (slot n : ℕ) (c : List ℕ) → Uses (Used x.plan) (copy_mask x 0 slot n c)
unfolding copy_mask copy_bits
mask_uses x l code slot n c =
    let U = Used x.plan in
    uses_cond U (eqb (keeps_of x.plan 0) 0) _ _ (λ e. uses_done U c)
    (λ e.
    let u : Used x.plan 0 0 = record { node = l; part = bits_copied x.plan 0 (copied_free x.plan 0 tt) (eqb-false (keeps_of x.plan 0) 0 e) code } in
    uses_cond U (eqb (place x 0 0) 0) _ _ (λ f. uses_wrote U (mask 0 (rows c 0) (replicate n 1)) c (u, bits_same n 1 (omega arith)))
    (λ f. uses_need U _ 12 c _
    (λ g. uses_next U _ _ (uses_wrote U (mask 0 (rows c 0) (bits_at (8 * place x 0 1 + slot) n x.body)) c (u, bits_part (8 * place x 0 1 + slot) n x.body)) (λ c2. uses_done U _))))
