-- A buffer is a part of the body: what is read of it is read there, and the rows' entries stand in it. Assumes nothing.
use mathlib.Core.Path.{◌≡◌, sym, ap, ◌∙◌}
use mathlib.Core.Bool.{true}
use mathlib.Core.List.{List}
use Prim.Native.Nat.{ℕ, ◌+◌, ◌*◌, ◌≤◌, ◌<◌}
use native.Mathlib.Nat.{mul_comm, add-mul, add_assoc}
use native.Mathlib.Omega.{arith}
use lib.ListN.{length, take, drop, length-drop}
use lib.Seq.{length-take-le, drop-drop}
use borrow.Author.Tests.{le-leb}
use Rattle.number.specs.Number.{number, entry}
use Rattle.columnar.specs.Types.{Number, width, int, uint, w1, w2, w4, w8, f32, f64}
use Rattle.columnar.specs.Array.{item}
use Rattle.columnar.proofs.Items.{number_take}
use Rattle.model.proofs.Pieces.{cut_cut}
use Rattle.walk.specs.State.{Join, rows_in}
use Rattle.refinement.specs.walk_is_model.Lent.{Part}

module _ {body : List ℕ} {at size : ℕ} {s : List ℕ} (p : Part body at size s) where
  pub part_length : length s ≡ size
  part_length = ap length p.bytes_are ∙ length-take-le size (drop at body) (rw length-drop (omega (arith, p.inside)))

  -- n bytes from a on
  pub part_cut : (n a : ℕ) → a + n ≤ size → take n (drop a s) ≡ take n (drop (at + a) body)
  part_cut n a h = ap (λ z. take n (drop a z)) p.bytes_are ∙ cut_cut n a size (drop at body) h ∙ ap (take n) (drop-drop a at body)

  pub part_number : (w a : ℕ) → a + w ≤ size → number w (drop a s) ≡ number w (drop (at + a) body)
  part_number w a h =
      sym (number_take w w (drop a s) (omega arith)) ∙ ap (number w) (part_cut w a h) ∙ number_take w w (drop (at + a) body) (omega arith)

  -- entry k of those from entry `slot` on
  pub part_entry : (w slot k : ℕ) → (slot + k) * w + w ≤ size → entry w body (at + w * slot) k ≡ item w s (slot + k)
  unfolding item
  part_entry w slot k h =
      let e : at + w * slot + w * k ≡ at + (slot + k) * w = rw (add-mul, mul_comm w slot, mul_comm w k, add_assoc) in
      ap (λ z. number w (drop z body)) e ∙ sym (part_number w ((slot + k) * w) h)

-- the walk's own test of a source's rows, which holds
pub rows_in_lem : (x : Join) (at size : ℕ) (s : List ℕ) (w slot n : ℕ) → Part x.body at size s → (slot + n) * w ≤ length s → rows_in x at w slot n ≡ true
unfolding rows_in
rows_in_lem x at size s w slot n p g =
    let l = part_length p in
    let y : w * (slot + n) ≡ (slot + n) * w = mul_comm w (slot + n) in
    le-leb (at + w * (slot + n)) (length x.body) (omega (arith, p.inside))

pub width_above : (n : Number) → 0 < width n
width_above (int w1) = omega arith
width_above (uint w1) = omega arith
width_above (int w2) = omega arith
width_above (uint w2) = omega arith
width_above (int w4) = omega arith
width_above (uint w4) = omega arith
width_above (int w8) = omega arith
width_above (uint w8) = omega arith
width_above f32 = omega arith
width_above f64 = omega arith
