-- What the encoder's loop writes is what its walk writes: for a room in which the runs fit. Assumes nothing.
use mathlib.Core.Path.{◌≡◌, refl, sym, ap, subst, ◌∙◌}
use mathlib.Core.Bool.{Bool, true, false, cond}
use mathlib.Core.List.{List, [], ◌∷◌}
use Prim.Native.Nat.{ℕ, zero, suc, ◌+◌, ◌*◌, ◌≤◌, ◌<◌}
use native.Mathlib.Nat.{add-zero, zero-add}
use native.Mathlib.Numerals.{add-one}
use native.Mathlib.Omega.{arith}
use lib.ListN.{length, replicate}
use borrow.Author.Tests.{le-leb}
use Rattle.number.specs.Number.{encode, splice}
use Rattle.number.proofs.Laws.{length_encode, length_splice}
use Rattle.bits.specs.Bits.{put_bits}
use Rattle.bits.proofs.Laws.{below_replicate}
use Rattle.bits.proofs.Puts.{length_put}
use Rattle.columnar.specs.Types.{Number, width, fixed, t_plain}
use Rattle.columnar.specs.Reading.{Column}
use Rattle.walk.specs.State.{rows, add_rows, far, grown}
use Rattle.walk.specs.Log.{put, mask, start_of, in_room, enter, apply, apply_if, done, wrote, each, Did}
use Rattle.walk.proofs.Laws.{done_did, wrote_did, next_ok, each_none, each_more}
use Rattle.refinement.specs.walk_is_model.Holds.{flag}
use Rattle.refinement.proofs.walk_is_model.Counters.{grown_is}
use Rattle.anew.specs.runs.Runs.{ok_at, those, edge}
use Rattle.anew.specs.runs.Picked.{cell}
use Rattle.anew.proofs.runs.Those.{those_few}
use Rattle.coding.specs.run_walks.Encode.{emit_bit, emit, encode_row, encode_walk}
use Rattle.coding.specs.run_coding.Rows.{cell_of, number_in, valid_in, last_in}
use Rattle.coding.specs.run_coding.Writes.{Fits, bits_written, run_written, runs_written}
use Rattle.coding.proofs.run_coding.Laws.{fewer_fit}
use Rattle.coding.specs.Counted.{run_counts, all_counts}

-- ---- one write that stays in the room

module _ (plan parts : List ℕ) where
  pub put_in : (i b o : ℕ) (bs room : List ℕ) → start_of plan parts i b + o + length bs ≤ length room → splice (start_of plan parts i b + o) bs room ≡ apply_if plan parts true (put i b o bs ∷ []) room
  unfolding apply_if apply enter in_room
  put_in i b o bs room h = rw (le-leb _ _ h) refl

  pub mask_in_lem : (i p : ℕ) (vs room : List ℕ) → 8 * start_of plan parts i 0 + p + length vs ≤ 8 * length room → put_bits (8 * start_of plan parts i 0 + p) vs room ≡ apply_if plan parts true (mask i p vs ∷ []) room
  unfolding apply_if apply enter in_room
  mask_in_lem i p vs room h = rw (le-leb _ _ h) refl

-- ---- a run

module _ (plan parts : List ℕ) (k : Number) (w : ℕ) (v : Column (t_plain (fixed k))) (a m : ℕ) (keep : Bool) (body : List ℕ) (wk start at bit : ℕ) (wide : wk ≡ width k)
    (valid : (r : ℕ) → r < m → valid_in body keep at bit r ≡ ok_at v (a + r))
    (bytes : (r : ℕ) → r < m → encode wk (cell_of (ok_at v (a + r)) (number_in body wk start r)) ≡ cell k v (a + r))
    (edges : (r : ℕ) → r < m → last_in body wk keep start at bit m r ≡ edge k v a m r) where
  abbrev ends : ℕ
  ends = start_of plan parts 1 1

  abbrev values : ℕ
  values = start_of plan parts 2 1

  abbrev goal : ℕ
  goal = start_of plan parts 2 0

  abbrev Room : ℕ → ℕ → Type 0
  Room = Fits wk keep w ends values goal

  abbrev one : ℕ → ℕ → List ℕ → List ℕ
  one j r room = run_written wk keep w ends values goal j r (valid_in body keep at bit r) (number_in body wk start r) room

  -- its end and its value
  abbrev with_end : ℕ → ℕ → List ℕ → List ℕ
  with_end j r room = splice (ends + j * w) (encode w (suc r)) room

  abbrev with_value : ℕ → ℕ → List ℕ → List ℕ
  with_value j r room = splice (values + j * width k) (cell k v (a + r)) (with_end j r room)

  cell_long : (r : ℕ) → r < m → length (cell k v (a + r)) ≡ width k
  cell_long r l = ap length (sym (bytes r l)) ∙ length_encode wk _ ∙ wide

  module _ (r j : ℕ) (room : List ℕ) (l : r < m) (few : j < far) (fits : Room (length room) (suc j)) where
    end_in_lem : ends + j * w + w ≤ length room
    end_in_lem = let z : suc j * w ≡ j * w + w = omega arith in omega (arith, z, fits.of_ends)

    value_in : values + j * width k + width k ≤ length room
    value_in =
        let z : suc j * wk ≡ j * wk + wk = omega arith in
        let y : j * wk ≡ j * width k = ap (λ n. j * n) wide in
        omega (arith, z, y, wide, fits.of_values)

    end_long : length (with_end j r room) ≡ length room
    end_long = length_splice (ends + j * w) (encode w (suc r)) room (omega (arith, length_encode w (suc r), end_in_lem))

    value_long : length (with_value j r room) ≡ length room
    value_long = length_splice (values + j * width k) (cell k v (a + r)) (with_end j r room) (omega (arith, cell_long r l, value_in, end_long)) ∙ end_long

    one_is : one j r room ≡ cond keep (put_bits (8 * goal + j) (flag (ok_at v (a + r)) ∷ []) (with_value j r room)) (with_value j r room)
    unfolding run_written bits_written
    one_is = rw (valid r l, bytes r l, wide) refl

    counted : add_rows 2 1 (add_rows 1 1 (run_counts j)) ≡ run_counts (suc j)
    counted = ap run_counts (grown_is j 1 (omega arith) ∙ add-one j)

    bit_did : Did plan parts true (emit_bit k w v a m keep r (run_counts j)) (with_value j r room) 0 (run_counts j) (one j r room)
    unfolding emit_bit
    bit_did = subst (Did plan parts true (emit_bit k w v a m keep r (run_counts j)) (with_value j r room) 0 (run_counts j)) (sym one_is) (go keep refl)
      where
        go : (b : Bool) → keep ≡ b
            → Did plan parts true (cond b (wrote (mask 2 (rows (run_counts j) 2) (flag (ok_at v (a + r)) ∷ [])) (run_counts j)) (done (run_counts j))) (with_value j r room) 0 (run_counts j)
            (cond b (put_bits (8 * goal + j) (flag (ok_at v (a + r)) ∷ []) (with_value j r room)) (with_value j r room))
        go true e =
            wrote_did true (mask 2 j (flag (ok_at v (a + r)) ∷ [])) (run_counts j) (with_value j r room) _
            (mask_in_lem plan parts 2 j (flag (ok_at v (a + r)) ∷ []) (with_value j r room) (omega (arith, fits.of_bits e, value_long)))
        go false e = done_did true (run_counts j) (with_value j r room)

    -- A RUN IS WRITTEN
    emit_did : Did plan parts true (emit k w v a m keep r (run_counts j)) room 0 (run_counts (suc j)) (one j r room)
    unfolding emit
    emit_did =
        next_ok _ (wrote_did true (put 1 1 (j * w) (encode w (suc r))) (run_counts j) room (with_end j r room) (put_in plan parts 1 1 (j * w) (encode w (suc r)) room (omega (arith, length_encode w (suc r), end_in_lem)))) refl
        (next_ok _ (wrote_did true (put 2 1 (j * width k) (cell k v (a + r))) (run_counts j) (with_end j r room) (with_value j r room) (put_in plan parts 2 1 (j * width k) (cell k v (a + r)) (with_end j r room) (omega (arith, cell_long r l, value_in, end_long)))) refl
        (next_ok _ bit_did refl (subst (λ c. Did plan parts true (done (add_rows 2 1 (add_rows 1 1 (run_counts j)))) (one j r room) 0 c (one j r room)) counted (done_did true (add_rows 2 1 (add_rows 1 1 (run_counts j))) (one j r room)))))

  -- ---- row by row

  one_long : (r j : ℕ) (room : List ℕ) → r < m → j < far → Room (length room) (suc j) → length (one j r room) ≡ length room
  one_long r j room l few fits = ap length (one_is r j room l few fits) ∙ go keep refl
    where
      low_bit : (b : Bool) → flag b < 2
      low_bit true = omega arith
      low_bit false = omega arith

      go : (b : Bool) → keep ≡ b → length (cond b (put_bits (8 * goal + j) (flag (ok_at v (a + r)) ∷ []) (with_value j r room)) (with_value j r room)) ≡ length room
      go true e =
          length_put (8 * goal + j) (flag (ok_at v (a + r)) ∷ []) (with_value j r room) (below_replicate 2 1 (flag (ok_at v (a + r))) (low_bit (ok_at v (a + r)))) (omega (arith, fits.of_bits e, value_long r j room l few fits))
          ∙ value_long r j room l few fits
      go false e = value_long r j room l few fits

  abbrev ends_run_lem : ℕ → Bool
  ends_run_lem = last_in body wk keep start at bit m

  abbrev written : ℕ → List ℕ → List ℕ → List ℕ
  written = runs_written body wk keep start at bit w ends values goal

  row_did : (r j : ℕ) (room : List ℕ) (b : Bool) → r < m → ends_run_lem r ≡ b → {c : List ℕ} {room2 : List ℕ} → Did plan parts true (cond b (emit k w v a m keep r (run_counts j)) (done (run_counts j))) room 0 c room2
      → Did plan parts true (encode_row k w v a m keep r (run_counts j)) room 0 c room2
  unfolding encode_row
  row_did r j room b l e d = rw (sym (edges r l) ∙ e) d

  rows_did : (n r j : ℕ) (room : List ℕ) → r + n ≡ m → j + length (those ends_run_lem r n) < far → Room (length room) (j + length (those ends_run_lem r n))
      → Did plan parts true (each (encode_row k w v a m keep) n r (run_counts j)) room 0 (run_counts (j + length (those ends_run_lem r n))) (written j (those ends_run_lem r n) room)
  unfolding runs_written
  rows_did zero r j room e f h = subst (λ z. Did plan parts true (each (encode_row k w v a m keep) 0 r (run_counts j)) room 0 (run_counts z) room) (sym (add-zero j)) (each_none true (encode_row k w v a m keep) 0 r (run_counts j) room refl)
  rows_did (suc n) r j room e f h = go (ends_run_lem r) refl (λ i other. rows_did n (suc r) i other) f h
    where
      rest : List ℕ
      rest = those ends_run_lem (suc r) n

      here : r < m
      here = omega arith

      go : (b : Bool) → ends_run_lem r ≡ b
          → ((i : ℕ) (other : List ℕ) → suc r + n ≡ m → i + length rest < far → Room (length other) (i + length rest)
          → Did plan parts true (each (encode_row k w v a m keep) n (suc r) (run_counts i)) other 0 (run_counts (i + length rest)) (written i rest other))
          → j + length (cond b (r ∷ rest) rest) < far → Room (length room) (j + length (cond b (r ∷ rest) rest))
          → Did plan parts true (each (encode_row k w v a m keep) (suc n) r (run_counts j)) room 0 (run_counts (j + length (cond b (r ∷ rest) rest))) (written j (cond b (r ∷ rest) rest) room)
      go true q ih f h =
          let few : j < far = omega arith in
          let one_fits : Room (length room) (suc j) = subst (Room (length room)) (add-one j) (fewer_fit wk keep w ends values goal (length room) (j + suc (length rest)) j h (omega arith)) in
          let z : suc j + length rest ≡ j + suc (length rest) = omega arith in
          let more = ih (suc j) (one j r room) (omega arith) (omega arith) (rw (one_long r j room here few one_fits) (subst (Room (length room)) (sym z) h)) in
          subst (λ y. Did plan parts true (each (encode_row k w v a m keep) (suc n) r (run_counts j)) room 0 (run_counts y) (written (suc j) rest (one j r room))) z
          (each_more true (encode_row k w v a m keep) (suc n) n r (suc r) (run_counts j) room refl (sym (add-one r)) (row_did r j room true here q (emit_did r j room here few one_fits)) refl more)
      go false q ih f h =
          each_more true (encode_row k w v a m keep) (suc n) n r (suc r) (run_counts j) room refl (sym (add-one r)) (row_did r j room false here q (done_did true (run_counts j) room)) refl
          (ih j room (omega arith) f h)

  abbrev runs : ℕ
  runs = length (those ends_run_lem 0 m)

  -- ALL ROWS
  pub encode_did : (room : List ℕ) → m < far → Room (length room) runs
      → Did plan parts true (encode_walk k w v a m keep (replicate 96 0)) room 0 (all_counts m runs) (written 0 (those ends_run_lem 0 m) room)
  unfolding encode_walk
  encode_did room short h =
      let few = those_few ends_run_lem m 0 in
      let g : grown 0 m ≡ m = grown_is 0 m (omega arith) ∙ zero-add m in
      let z : 0 + runs ≡ runs = zero-add runs in
      next_ok _ (subst (λ y. Did plan parts true (each (encode_row k w v a m keep) m 0 (run_counts 0)) room 0 (run_counts y) (written 0 (those ends_run_lem 0 m) room)) z (rows_did m 0 0 room (zero-add m) (omega (arith, few)) (subst (Room (length room)) (sym z) h))) refl
      (subst (λ y. Did plan parts true (done (add_rows 0 m (run_counts runs))) (written 0 (those ends_run_lem 0 m) room) 0 (all_counts y runs) (written 0 (those ends_run_lem 0 m) room)) g (done_did true (add_rows 0 m (run_counts runs)) (written 0 (those ends_run_lem 0 m) room)))
