-- The walks of the encoder and of the expansion write only buffers of their nodes, and fill the encoded and the expanded column: all that
-- `anew-result` asks of them. Assumes nothing.
use mathlib.Core.Path.{◌≡◌}
use mathlib.Core.Bool.{Bool, true, false, cond}
use mathlib.Core.List.{List, [], ◌∷◌, ◌++◌}
use Prim.Native.Nat.{ℕ, zero, suc, ◌+◌, ◌*◌, ◌≤◌, ◌<◌}
use native.Mathlib.Omega.{arith}
use lib.ListN.{replicate}
use lib.Dec.{ltb}
use Rattle.number.specs.Number.{encode}
use Rattle.columnar.specs.Types.{Number, width, half, fixed, t_plain, t_run_end}
use Rattle.columnar.specs.Array.{null_count_of}
use Rattle.columnar.specs.Plain.{stored}
use Rattle.columnar.specs.Reading.{Column, Source}
use Rattle.walk.specs.State.{keeps_of, rows, add_rows, far}
use Rattle.walk.specs.Log.{put, mask}
use Rattle.refinement.specs.walk_is_model.Holds.{flag}
use Rattle.refinement.specs.log_in_room.Room.{AllBelow}
use Rattle.refinement.proofs.log_in_room.Uses.{Uses, uses_done, uses_wrote, uses_cond, uses_next, uses_each}
use Rattle.refinement.proofs.log_in_room.Bytes.{bytes_encode, bytes_same, bytes_part, bits_same}
use Rattle.plan.specs.parts.Parts.{Used}
use Rattle.refinement.specs.orders.Order.{Lent}
use Rattle.anew.specs.runs.Runs.{ok_at, edge}
use Rattle.anew.specs.runs.Picked.{cell, cells}
use Rattle.anew.specs.runs.Coding.{encoded, run_at, expanded}
use Rattle.anew.proofs.runs.Encode.{encode_source}
use Rattle.anew.proofs.runs.Expand.{expand_source}
use Rattle.anew.proofs.Coded.{encoded_stands, expanded_stands}
use Rattle.anew.proofs.Result.{Filled, filled_by}
use Rattle.coding.specs.run_walks.Encode.{emit_bit, emit, encode_row, encode_walk}
use Rattle.coding.specs.run_walks.Expand.{stretch, fill_bits, fill, expand_from, expand_walk}
use Rattle.coding.proofs.run_walks.Encode.{encode_leaves}
use Rattle.coding.proofs.run_walks.Expand.{expand_leaves}

one_bit : (b : Bool) → AllBelow 2 (flag b ∷ [])
one_bit true zero = omega arith
one_bit false zero = omega arith
one_bit true (suc k) = omega arith
one_bit false (suc k) = omega arith

two_bits : (b : Bool) → flag b < 2
two_bits true = omega arith
two_bits false = omega arith

all_append : (s t : List ℕ) → AllBelow 256 s → AllBelow 256 t → AllBelow 256 (s ++ t)
all_append [] t h g k = g k
all_append (x ∷ s) t h g zero = h 0
all_append (x ∷ s) t h g (suc k) = all_append s t (λ j. h (suc j)) g k

-- the bytes that are written are bytes
module _ (k : Number) (v : Column (t_plain (fixed k))) (bytes : AllBelow 256 v.body) where
  cell_bytes : (r : ℕ) → AllBelow 256 (cell k v r)
  cell_bytes r = go (ok_at v r)
    where
      go : (b : Bool) → AllBelow 256 (cond b (stored (fixed k) v.body (v.off + r)) (replicate (width k) 0))
      go true = bytes_part ((v.off + r) * width k) (width k) v.body bytes
      go false = bytes_same (width k) 0 (omega arith)

  cells_bytes : (rs : List ℕ) → AllBelow 256 (cells k v rs)
  cells_bytes [] = λ j. omega arith
  cells_bytes (r ∷ rs) = all_append (cell k v r) (cells k v rs) (cell_bytes r) (cells_bytes rs)

-- ---- the encoder

module _ (k : Number) (w : ℕ) (v : Column (t_plain (fixed k))) (a m : ℕ) (keep : Bool) (bytes : AllBelow 256 v.body) where
  module _ (U : ℕ → ℕ → Type 0) (ends : U 1 1) (values : U 2 1) (bits : keep ≡ true → U 2 0) where
    bit_uses : (r : ℕ) (c : List ℕ) → Uses U (emit_bit k w v a m keep r c)
    unfolding emit_bit
    bit_uses r c = uses_cond U keep _ _ (λ e. uses_wrote U (mask 2 (rows c 2) (flag (ok_at v (a + r)) ∷ [])) c (bits e, one_bit (ok_at v (a + r)))) (λ e. uses_done U c)

    emit_uses : (r : ℕ) (c : List ℕ) → Uses U (emit k w v a m keep r c)
    unfolding emit
    emit_uses r c =
        uses_next U _ _ (uses_wrote U (put 1 1 (rows c 1 * w) (encode w (suc r))) c (ends, omega arith, bytes_encode w (suc r)))
        (λ c1. uses_next U _ _ (uses_wrote U (put 2 1 (rows c1 2 * width k) (cell k v (a + r))) c1 (values, omega arith, cell_bytes k v bytes (a + r)))
        (λ c2. uses_next U _ _ (bit_uses r c2) (λ c3. uses_done U (add_rows 2 1 (add_rows 1 1 c3)))))

    row_uses : (r : ℕ) (c : List ℕ) → Uses U (encode_row k w v a m keep r c)
    unfolding encode_row
    row_uses r c = uses_cond U (edge k v a m r) _ _ (λ e. emit_uses r c) (λ e. uses_done U c)

    pub encode_uses : (c : List ℕ) → Uses U (encode_walk k w v a m keep c)
    unfolding encode_walk
    encode_uses c = uses_next U _ _ (uses_each U (encode_row k w v a m keep) row_uses m 0 c) (λ c2. uses_done U (add_rows 0 m c2))

  -- THE WALK FILLS THE ENCODED COLUMN, by a plan with parts for run ends and values, whose values keep nulls exactly where the column has one
  pub encode_fills : (x : Lent) (buffers : List ℕ) → Source (t_plain (fixed k)) v → a + m ≤ v.len → m < half w → m < far → keeps_of x.plan 0 ≡ 0 → keeps_of x.plan 1 ≡ 0 → keeps_of x.plan 2 ≡ flag keep
      → keep ≡ ltb 0 (null_count_of v) → Used x.plan 1 1 → Used x.plan 2 1 → (keep ≡ true → Used x.plan 2 0)
      → Filled x buffers (t_run_end w (t_plain (fixed k))) (encode_walk k w v a m keep (replicate 96 0)) (encoded k w v a m)
  encode_fills x buffers s within fits short k0 k1 k2 exact u1 u2 u0 =
      let q = encode_leaves k w v a m keep s within short x k0 k1 k2 exact buffers in
      filled_by x buffers (t_run_end w (t_plain (fixed k))) (encode_walk k w v a m keep (replicate 96 0)) (encoded k w v a m)
      (record { is_done = q.is_done; in_place = q.in_place; leaves = (q.leaves.0, encoded_stands x buffers _ _ k w v a m s within q.leaves.1) })
      (encode_uses (Used x.plan) u1 u2 u0 (replicate 96 0)).log_used (encode_source k v a m w fits s within)

-- ---- the expansion

module _ (k : Number) (w : ℕ) (v : Column (t_run_end w (t_plain (fixed k)))) (a m : ℕ) (keep : Bool) (bytes : AllBelow 256 v.body.values.body) where
  module _ (U : ℕ → ℕ → Type 0) (values : U 0 1) (bits : keep ≡ true → U 0 0) where
    fill_uses : (q n : ℕ) (c : List ℕ) → Uses U (fill k w v a m keep q n c)
    unfolding fill fill_bits
    fill_uses q n c =
        uses_next U _ _ (uses_wrote U (put 0 1 (rows c 0 * width k) (cells k v.body.values (replicate n q))) c (values, omega arith, cells_bytes k v.body.values bytes (replicate n q)))
        (λ c1. uses_next U _ _
        (uses_cond U keep _ _
        (λ e. uses_wrote U (mask 0 (rows c1 0) (replicate n (flag (ok_at v.body.values q)))) c1 (bits e, bits_same n (flag (ok_at v.body.values q)) (two_bits (ok_at v.body.values q)))) (λ e. uses_done U c1))
        (λ c2. uses_done U (add_rows 0 n c2)))

    from_uses : (f r : ℕ) (c : List ℕ) → Uses U (expand_from k w v a m keep f r c)
    unfolding expand_from
    from_uses zero r c = uses_done U c
    from_uses (suc f) r c =
        uses_cond U (ltb r m) _ _ (λ e. uses_next U _ _ (fill_uses (run_at w v (a + r)) (stretch k w v a m keep r) c) (λ c2. from_uses f (r + stretch k w v a m keep r) c2)) (λ e. uses_done U c)

    pub expand_uses : (c : List ℕ) → Uses U (expand_walk k w v a m keep c)
    unfolding expand_walk
    expand_uses c = from_uses m 0 c

  -- THE WALK FILLS THE EXPANDED COLUMN, by a plan whose node keeps nulls exactly where the values have one
  pub expand_fills : (x : Lent) (buffers : List ℕ) → Source (t_run_end w (t_plain (fixed k))) v → a + m ≤ v.len → m < far → keeps_of x.plan 0 ≡ flag keep → keep ≡ ltb 0 (null_count_of v.body.values)
      → Used x.plan 0 1 → (keep ≡ true → Used x.plan 0 0) → Filled x buffers (t_plain (fixed k)) (expand_walk k w v a m keep (replicate 96 0)) (expanded k w v a m)
  expand_fills x buffers s within short keeps exact u1 u0 =
      let q = expand_leaves k w v a m keep s within short x keeps exact buffers in
      filled_by x buffers (t_plain (fixed k)) (expand_walk k w v a m keep (replicate 96 0)) (expanded k w v a m)
      (record { is_done = q.is_done; in_place = q.in_place; leaves = (q.leaves.0, expanded_stands x buffers _ _ k w v a m s within q.leaves.1) })
      (expand_uses (Used x.plan) u1 u0 (replicate 96 0)).log_used (expand_source k w v s a m within)
