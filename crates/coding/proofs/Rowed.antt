-- What the expansion's loop writes is what its walk writes: for a room in which the rows fit. Assumes nothing.
use mathlib.Core.Path.{◌≡◌, refl, sym, ap, ap₂, subst, ◌∙◌}
use mathlib.Core.Bool.{Bool, true, false, cond}
use mathlib.Core.List.{List, ◌++◌, append-nil, append_assoc}
use Prim.Native.Nat.{ℕ, zero, suc, ◌+◌, ◌*◌, ◌-◌, ◌≤◌, ◌<◌, min}
use native.Mathlib.Nat.{add-zero, mul_comm, mul-le-mul_right, add-mul}
use native.Mathlib.Omega.{arith}
use lib.ListN.{length, replicate, length-replicate}
use lib.Dec.{ltb}
use borrow.Author.Tests.{lt-ltb, le-ltb, ltb-true, ltb-false}
use Rattle.number.specs.Number.{encode, splice}
use Rattle.number.proofs.Laws.{length_splice}
use Rattle.bits.specs.Bits.{put_bits}
use Rattle.bits.proofs.Laws.{below_replicate}
use Rattle.bits.proofs.Puts.{length_put}
use Rattle.utils.specs.Pieces.{pieces}
use Rattle.utils.specs.Offsets.{repeated}
use Rattle.utils.proofs.Pieces.{length_numbers}
use Rattle.columnar.specs.Types.{Number, width, fixed, t_plain, t_run_end}
use Rattle.columnar.specs.RunEnd.{end_of, first_above}
use Rattle.columnar.specs.Reading.{Column, Source}
use Rattle.walk.specs.State.{rows, add_rows, far}
use Rattle.walk.specs.Log.{put, mask, start_of, done, wrote, next, Did}
use Rattle.walk.proofs.Laws.{done_did, wrote_did, next_ok}
use Rattle.refinement.specs.walk_is_model.Holds.{flag}
use Rattle.refinement.proofs.walk_is_model.Counters.{grown_is}
use Rattle.aggregates.proofs.stretches.FirstAbove.{first_above_lem}
use Rattle.anew.specs.runs.Runs.{ok_at}
use Rattle.anew.specs.runs.Picked.{cell, cells}
use Rattle.anew.specs.runs.Coding.{run_at}
use Rattle.anew.proofs.runs.Fewest.{run_there}
use Rattle.coding.specs.run_walks.Expand.{stretch, fill_bits, fill, expand_from, expand_walk}
use Rattle.coding.specs.run_coding.Rows.{cell_of, number_in, valid_in}
use Rattle.coding.specs.run_coding.Writes.{Holds, bits_written, rows_written, end_in, left, rows_from}
use Rattle.coding.specs.Counted.{row_counts}
use Rattle.coding.proofs.Walked.{put_in, mask_in_lem}

-- ---- the run behind a run

step_no : (e : ℕ → ℕ) (i a n : ℕ) → ltb i (e a) ≡ false → first_above e i a (suc n) ≡ first_above e i (suc a) n
step_no e i a n p = ap (λ b. elim b as (λ z. ℕ) [ true ↦ a | false ↦ first_above e i (suc a) n ]) p

step_yes : (e : ℕ → ℕ) (i a n : ℕ) → ltb i (e a) ≡ true → first_above e i a (suc n) ≡ a
step_yes e i a n p = ap (λ b. elim b as (λ z. ℕ) [ true ↦ a | false ↦ first_above e i (suc a) n ]) p

pub next_above : (e : ℕ → ℕ) (i j a n : ℕ) → ((k : ℕ) → suc k < a + n → e k < e (suc k)) → suc (first_above e i a n) < a + n → j ≡ e (first_above e i a n) → first_above e j a n ≡ suc (first_above e i a n)
next_above e i j a zero rise h q = absurd (omega arith)
next_above e i j a (suc n) rise h q = go (ltb i (e a)) refl h q (λ g d. next_above e i j (suc a) n (λ k l. rise k (omega arith)) g d)
  where
    go : (b : Bool) → ltb i (e a) ≡ b → suc (elim b as (λ z. ℕ) [ true ↦ a | false ↦ first_above e i (suc a) n ]) < a + suc n → j ≡ e (elim b as (λ z. ℕ) [ true ↦ a | false ↦ first_above e i (suc a) n ])
        → (suc (first_above e i (suc a) n) < suc a + n → j ≡ e (first_above e i (suc a) n) → first_above e j (suc a) n ≡ suc (first_above e i (suc a) n))
        → first_above e j a (suc n) ≡ suc (elim b as (λ z. ℕ) [ true ↦ a | false ↦ first_above e i (suc a) n ])
    go true p h q ih = step_no e j a n (le-ltb j (e a) (omega (arith, q))) ∙ here n h
      where
        later : suc a < a + suc n
        later = h

        here : (n : ℕ) → suc a < a + suc n → first_above e j (suc a) n ≡ suc a
        here zero h = absurd (omega arith)
        here (suc n) h = step_yes e j (suc a) n (lt-ltb j (e (suc a)) (omega (arith, q, rise a later)))
    go false p h q ih =
        let k = first_above_lem e i (suc a) n (omega arith) in
        step_no e j a n (le-ltb j (e a) (omega (arith, q, k, ltb-false i (e a) p))) ∙ ih (omega arith) q

turned : (b : List ℕ) (n : ℕ) → b ++ pieces (λ k. b) n ≡ pieces (λ k. b) n ++ b
unfolding pieces
turned b zero = append-nil b
turned b (suc n) = sym (append_assoc b (pieces (λ k. b) n) b) ∙ ap (λ z. z ++ b) (turned b n)

module _ (plan parts : List ℕ) (k : Number) (w : ℕ) (v : Column (t_run_end w (t_plain (fixed k)))) (a m : ℕ) (keep : Bool) (body : List ℕ) (wk start at bit ends_at x : ℕ) (wide : wk ≡ width k)
    (valid : (q : ℕ) → q < v.body.ends.len → valid_in body keep at bit q ≡ ok_at v.body.values q)
    (bytes : (q : ℕ) → q < v.body.ends.len → encode wk (cell_of (ok_at v.body.values q) (number_in body wk start q)) ≡ cell k v.body.values q)
    (ends : (q : ℕ) → q < v.body.ends.len → end_in body w ends_at q ≡ end_of w v.body.ends q)
    (row_is : x ≡ v.off + a) (source : Source (t_run_end w (t_plain (fixed k))) v) (within : a + m ≤ v.len) (short : m < far) where
  abbrev vals : Column (t_plain (fixed k))
  vals = v.body.values

  abbrev count : ℕ
  count = v.body.ends.len

  abbrev values : ℕ
  values = start_of plan parts 0 1

  abbrev goal : ℕ
  goal = start_of plan parts 0 0

  there : (r : ℕ) → r < m → run_at w v (a + r) < count
  there r l = run_there w (t_plain (fixed k)) v source (a + r) (omega arith)

  repeat_is : (q n : ℕ) → q < count → cells k vals (replicate n q) ≡ repeated wk (cell_of (ok_at vals q) (number_in body wk start q)) n
  unfolding repeated pieces
  repeat_is q zero l = refl
  repeat_is q (suc n) l =
      ap₂ ◌++◌ (sym (bytes q l)) (repeat_is q n l) ∙ turned (encode wk (cell_of (ok_at vals q) (number_in body wk start q))) n

  abbrev some : ℕ → ℕ → ℕ → List ℕ → List ℕ
  some r n q room = rows_written wk keep values goal r n (valid_in body keep at bit q) (number_in body wk start q) room

  abbrev with_values : ℕ → ℕ → ℕ → List ℕ → List ℕ
  with_values r n q room = splice (values + r * width k) (cells k vals (replicate n q)) room

  cells_length : (q n : ℕ) → q < count → length (cells k vals (replicate n q)) ≡ width k * n
  unfolding repeated
  cells_length q n l = ap length (repeat_is q n l) ∙ length_numbers wk _ n ∙ ap (λ z. z * n) wide

  module _ (r n q : ℕ) (room : List ℕ) (le : r + n ≤ m) (l : q < count) (fits : Holds wk keep values goal (length room) m) where
    values_in : values + r * width k + width k * n ≤ length room
    values_in =
        let a1 : (r + n) * wk ≤ m * wk = mul-le-mul_right wk le in
        let a2 : (r + n) * wk ≡ r * wk + n * wk = add-mul r n wk in
        let a3 : r * wk ≡ r * width k = ap (λ z. r * z) wide in
        let a4 : n * wk ≡ width k * n = mul_comm n wk ∙ ap (λ z. z * n) wide in
        omega (arith, a1, a2, a3, a4, fits.of_values)

    values_long : length (with_values r n q room) ≡ length room
    values_long = length_splice (values + r * width k) (cells k vals (replicate n q)) room (omega (arith, cells_length q n l, values_in))

    some_is : some r n q room ≡ cond keep (put_bits (8 * goal + r) (replicate n (flag (ok_at vals q))) (with_values r n q room)) (with_values r n q room)
    unfolding rows_written bits_written
    some_is = rw (valid q l, sym (repeat_is q n l), wide) refl

    low_bit : (b : Bool) → flag b < 2
    low_bit true = omega arith
    low_bit false = omega arith

    some_long : length (some r n q room) ≡ length room
    some_long = ap length some_is ∙ go keep refl
      where
        go : (b : Bool) → keep ≡ b → length (cond b (put_bits (8 * goal + r) (replicate n (flag (ok_at vals q))) (with_values r n q room)) (with_values r n q room)) ≡ length room
        go true e =
            length_put (8 * goal + r) (replicate n (flag (ok_at vals q))) (with_values r n q room) (below_replicate 2 n (flag (ok_at vals q)) (low_bit (ok_at vals q)))
            (omega (arith, fits.of_bits e, values_long, length-replicate n (flag (ok_at vals q))))
            ∙ values_long
        go false e = values_long

    bits_did : Did plan parts true (fill_bits k w v a m keep q n (row_counts r)) (with_values r n q room) 0 (row_counts r) (some r n q room)
    unfolding fill_bits
    bits_did = subst (Did plan parts true (fill_bits k w v a m keep q n (row_counts r)) (with_values r n q room) 0 (row_counts r)) (sym some_is) (go keep refl)
      where
        go : (b : Bool) → keep ≡ b
            → Did plan parts true (cond b (wrote (mask 0 (rows (row_counts r) 0) (replicate n (flag (ok_at vals q)))) (row_counts r)) (done (row_counts r))) (with_values r n q room) 0 (row_counts r)
            (cond b (put_bits (8 * goal + r) (replicate n (flag (ok_at vals q))) (with_values r n q room)) (with_values r n q room))
        go true e =
            wrote_did true (mask 0 r (replicate n (flag (ok_at vals q)))) (row_counts r) (with_values r n q room) _
            (mask_in_lem plan parts 0 r (replicate n (flag (ok_at vals q))) (with_values r n q room) (omega (arith, fits.of_bits e, values_long, length-replicate n (flag (ok_at vals q)))))
        go false e = done_did true (row_counts r) (with_values r n q room)

    counted : add_rows 0 n (row_counts r) ≡ row_counts (r + n)
    counted = ap row_counts (grown_is r n (omega arith))

    -- A STRETCH IS WRITTEN
    fill_did : Did plan parts true (fill k w v a m keep q n (row_counts r)) room 0 (row_counts (r + n)) (some r n q room)
    unfolding fill
    fill_did =
        next_ok _ (wrote_did true (put 0 1 (r * width k) (cells k vals (replicate n q))) (row_counts r) room (with_values r n q room) (put_in plan parts 0 1 (r * width k) (cells k vals (replicate n q)) room (omega (arith, cells_length q n l, values_in)))) refl
        (next_ok _ bits_did refl (subst (λ c. Did plan parts true (done (add_rows 0 n (row_counts r))) (some r n q room) 0 c (some r n q room)) counted (done_did true (add_rows 0 n (row_counts r)) (some r n q room))))

  -- ---- stretch by stretch

  abbrev far_end : ℕ → ℕ
  far_end = end_of w v.body.ends

  left_is : (r q : ℕ) → r < m → q ≡ run_at w v (a + r) → left body wk keep start at bit w ends_at x m values goal r q ≡ stretch k w v a m keep r
  left_is r q l e =
      let z : x + r ≡ v.off + (a + r) = omega (arith, row_is) in
      ap₂ (λ y s. min (y - s) (m - r)) (ends q (subst (λ y. y < count) (sym e) (there r l)) ∙ ap far_end e) z

  above : (r : ℕ) → r < m → v.off + (a + r) < far_end (run_at w v (a + r))
  above r l = first_above_lem far_end (v.off + (a + r)) 0 count (let h = there r l in omega (arith, h))

  next_run : (r : ℕ) → r < m → r + stretch k w v a m keep r < m → suc (run_at w v (a + r)) ≡ run_at w v (a + (r + stretch k w v a m keep r))
  next_run r l g =
      let n = stretch k w v a m keep r in
      let f = above r l in
      let e : v.off + (a + (r + n)) ≡ far_end (run_at w v (a + r)) = reached v.off a r (m - r) (far_end (run_at w v (a + r))) m (omega arith) f g in
      sym (next_above far_end (v.off + (a + r)) (v.off + (a + (r + n))) 0 count rise (enough (far_end (run_at w v (a + r))) e) e)
    where
      reached : (o a r d y m : ℕ) → d ≡ m - r → o + (a + r) < y → r + min (y - (o + (a + r))) d < m → o + (a + (r + min (y - (o + (a + r))) d)) ≡ y
      reached o a r d y m ed h g = omega arith

      rise : (j : ℕ) → suc j < 0 + count → far_end j < far_end (suc j)
      rise j h = source.slots.rises (suc j) (omega arith)

      enough : (y : ℕ) → v.off + (a + (r + stretch k w v a m keep r)) ≡ y → suc (run_at w v (a + r)) < 0 + count
      enough y e = go (ltb (suc (run_at w v (a + r))) (0 + count)) refl
        where
          go : (b : Bool) → ltb (suc (run_at w v (a + r))) (0 + count) ≡ b → suc (run_at w v (a + r)) < 0 + count
          go true p = ltb-true (suc (run_at w v (a + r))) (0 + count) p
          go false p =
              let o = ltb-false (suc (run_at w v (a + r))) (0 + count) p in
              let t = there r l in
              let z : count ≡ suc (run_at w v (a + r)) = omega (arith, o, t) in
              let c : v.off + v.len ≤ far_end (run_at w v (a + r)) = subst (λ n. v.off + v.len ≤ Rattle.columnar.specs.RunEnd.start_of far_end n) z source.slots.covers in
              absurd (past v.off a r (m - r) (far_end (run_at w v (a + r))) m v.len (omega arith) (above r l) g within c)
            where
              past : (o a r d y m n : ℕ) → d ≡ m - r → o + (a + r) < y → r + min (y - (o + (a + r))) d < m → a + m ≤ n → o + n ≤ y → ⊥
              past o a r d y m n ed h g u c = omega arith

  from_did : (f r q : ℕ) (room : List ℕ) → r ≤ m → m ≤ r + f → (r < m → q ≡ run_at w v (a + r)) → Holds wk keep values goal (length room) m
      → Did plan parts true (expand_from k w v a m keep f r (row_counts r)) room 0 (row_counts m) (rows_from body wk keep start at bit w ends_at x m values goal f r q room)
  unfolding expand_from rows_from
  from_did zero r q room le lf at_run fits = let e : r ≡ m = omega arith in subst (λ z. Did plan parts true (done (row_counts r)) room 0 (row_counts z) room) e (done_did true (row_counts r) room)
  from_did (suc f) r q room le lf at_run fits = go (ltb r m) refl (λ n q2 other a1 a2 a3 a4. from_did f (r + n) q2 other a1 a2 a3 a4)
    where
      n0 : ℕ
      n0 = left body wk keep start at bit w ends_at x m values goal r q

      go : (b : Bool) → ltb r m ≡ b
          → ((n q2 : ℕ) (other : List ℕ) → r + n ≤ m → m ≤ r + n + f → (r + n < m → q2 ≡ run_at w v (a + (r + n))) → Holds wk keep values goal (length other) m
          → Did plan parts true (expand_from k w v a m keep f (r + n) (row_counts (r + n))) other 0 (row_counts m) (rows_from body wk keep start at bit w ends_at x m values goal f (r + n) q2 other))
          → Did plan parts true (cond b (next (fill k w v a m keep (run_at w v (a + r)) (stretch k w v a m keep r) (row_counts r)) (λ c2. expand_from k w v a m keep f (r + stretch k w v a m keep r) c2)) (done (row_counts r))) room 0 (row_counts m)
          (cond b (rows_from body wk keep start at bit w ends_at x m values goal f (r + n0) (suc q) (some r n0 q room)) room)
      go false p ih = let e : r ≡ m = omega (arith, ltb-false r m p) in subst (λ z. Did plan parts true (done (row_counts r)) room 0 (row_counts z) room) e (done_did true (row_counts r) room)
      go true p ih =
          let l = ltb-true r m p in
          let n = stretch k w v a m keep r in
          let e = at_run l in
          let en : n0 ≡ n = left_is r q l e in
          let h = above r l in
          let le2 : r + n ≤ m = omega arith in
          let t = there r l in
          let pos : 0 < n = positive (far_end (run_at w v (a + r))) (v.off + (a + r)) (m - r) h (omega arith) in
          let d = fill_did r n (run_at w v (a + r)) room le2 t fits in
          let long = some_long r n (run_at w v (a + r)) room le2 t fits in
          subst (λ y. Did plan parts true (next (fill k w v a m keep (run_at w v (a + r)) n (row_counts r)) (λ c2. expand_from k w v a m keep f (r + n) c2)) room 0 (row_counts m) (rows_from body wk keep start at bit w ends_at x m values goal f (r + y) (suc q) (some r y q room))) (sym en)
          (subst (λ y. Did plan parts true (next (fill k w v a m keep (run_at w v (a + r)) n (row_counts r)) (λ c2. expand_from k w v a m keep f (r + n) c2)) room 0 (row_counts m) (rows_from body wk keep start at bit w ends_at x m values goal f (r + n) (suc y) (some r n y room))) (sym e)
          (next_ok _ d refl (ih n (suc (run_at w v (a + r))) (some r n (run_at w v (a + r)) room) le2 (omega arith) (λ g. next_run r l g) (subst (λ z. Holds wk keep values goal z m) (sym long) fits))))
        where
          positive : (y s d : ℕ) → s < y → 0 < d → 0 < min (y - s) d
          positive y s d h g = omega arith

  -- ALL ROWS
  pub expand_did : (q : ℕ) (room : List ℕ) → (0 < m → q ≡ run_at w v a) → Holds wk keep values goal (length room) m
      → Did plan parts true (expand_walk k w v a m keep (replicate 96 0)) room 0 (row_counts m) (rows_from body wk keep start at bit w ends_at x m values goal m 0 q room)
  unfolding expand_walk
  expand_did q room first fits = from_did m 0 q room (omega arith) (omega arith) (λ l. first l ∙ ap (run_at w v) (sym (add-zero a))) fits
