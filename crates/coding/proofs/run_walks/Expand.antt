-- What the walk of the expansion leaves: the expanded column stands, and only buffers of its node are written. Assumes nothing.
use mathlib.Core.Path.{◌≡◌, refl, sym, ap, ap₂, subst, ◌∙◌}
use mathlib.Core.Bool.{Bool, true, false, cond}
use mathlib.Core.List.{List, ◌∷◌, ◌++◌, map, map-append}
use Prim.Native.Nat.{ℕ, zero, suc, ◌+◌, ◌*◌, ◌≤◌, ◌<◌}
use native.Mathlib.Nat.{add-zero}
use native.Mathlib.Omega.{arith}
use lib.ListN.{length, replicate, length-append, length-map, length-replicate}
use lib.Dec.{ltb}
use borrow.Author.Tests.{lt-ltb, ltb-true, ltb-false}
use Rattle.columnar.specs.Row.{seg}
use Rattle.columnar.specs.Types.{Number, width, fixed, t_plain, t_run_end}
use Rattle.columnar.specs.Array.{null_count_of}
use Rattle.columnar.specs.RunEnd.{end_of}
use Rattle.columnar.specs.Reading.{Column, Source}
use Rattle.model.proofs.Bits.{length_seg}
use Rattle.model.proofs.Rows.{seg_append}
use Rattle.walk.specs.State.{keeps_of, rows, add_rows, far}
use Rattle.walk.specs.Log.{put, mask, done, wrote, next}
use Rattle.refinement.specs.walk_is_model.Memory.{Memory}
use Rattle.refinement.specs.walk_is_model.Holds.{flag}
use Rattle.refinement.proofs.walk_is_model.Counters.{grown_is, rows_added, long_rows}
use Rattle.refinement.proofs.walk_is_model.Goes.{Quiet, quiet_done, quiet_wrote, quiet_then}
use Rattle.refinement.specs.orders.Order.{Lent}
use Rattle.refinement.proofs.opening.Zeros.{empty}
use Rattle.aggregates.proofs.stretches.FirstAbove.{first_above_lem, stays}
use Rattle.anew.specs.runs.Runs.{ok_at}
use Rattle.anew.specs.runs.Picked.{cells}
use Rattle.anew.specs.runs.Coding.{run_at}
use Rattle.anew.proofs.runs.Picked.{cells_append, cells_long}
use Rattle.anew.proofs.runs.Fewest.{run_there}
use Rattle.anew.proofs.runs.Expand.{runs_inside}
use Rattle.anew.proofs.Coded.{PickedAt}
use Rattle.coding.specs.run_walks.Expand.{stretch, fill_bits, fill, expand_from, expand_walk}

-- entries that are all the same
seg_same_all : (f : ℕ → ℕ) (q s n : ℕ) → ((j : ℕ) → j < n → f (s + j) ≡ q) → seg f s n ≡ replicate n q
seg_same_all f q s zero h = refl
seg_same_all f q s (suc n) h =
    ap₂ ◌∷◌ (ap f (sym (add-zero s)) ∙ h 0 (omega arith)) (seg_same_all f q (suc s) n (λ j l. let e : suc s + j ≡ s + suc j = omega arith in ap f e ∙ h (suc j) (omega arith)))

map_replicate : {A B : Type 0} (f : A → B) (n : ℕ) (x : A) → map f (replicate n x) ≡ replicate n (f x)
map_replicate f zero x = refl
map_replicate f (suc n) x = ap (λ l. f x ∷ l) (map_replicate f n x)

module _ (k : Number) (w : ℕ) (v : Column (t_run_end w (t_plain (fixed k)))) (a m : ℕ) (keep : Bool) (s : Source (t_run_end w (t_plain (fixed k))) v) (within : a + m ≤ v.len) (short : m < far) where
  abbrev vals : Column (t_plain (fixed k))
  vals = v.body.values

  -- the runs of the first r rows
  abbrev up_to : ℕ → List ℕ
  up_to r = seg (run_at w v) a r

  -- ---- a stretch

  abbrev ends : ℕ → ℕ
  ends = end_of w v.body.ends

  above : (r : ℕ) → r < m → v.off + (a + r) < ends (run_at w v (a + r))
  above r l = first_above_lem ends (v.off + (a + r)) 0 v.body.ends.len (let h = run_there w (t_plain (fixed k)) v s (a + r) (omega arith) in omega (arith, h))

  same_run : (r : ℕ) → r < m → (j : ℕ) → j < stretch k w v a m keep r → run_at w v (a + r + j) ≡ run_at w v (a + r)
  same_run r l j q = stays ends (v.off + (a + r)) (v.off + (a + r + j)) 0 v.body.ends.len (omega arith) (omega (arith, above r l))

  more : (r : ℕ) → r < m → up_to (r + stretch k w v a m keep r) ≡ up_to r ++ replicate (stretch k w v a m keep r) (run_at w v (a + r))
  more r l =
      seg_append (run_at w v) a r (stretch k w v a m keep r)
      ∙ ap (λ l. up_to r ++ l) (seg_same_all (run_at w v) (run_at w v (a + r)) (a + r) (stretch k w v a m keep r) (same_run r l))

  -- ---- counters and memory with the rows of the runs qs

  record Rows (qs : List ℕ) (c : List ℕ) (μ : Memory) : Type 0 where
    long : length c ≡ 96
    rows_are : rows c 0 ≡ length qs
    bytes_are : μ.at 0 1 ≡ cells k vals qs
    bits_are : keep ≡ true → μ.bits 0 ≡ map flag (map (ok_at vals) qs)

  -- n rows of run q more, while they are written
  record Put (q n : ℕ) (qs : List ℕ) (c : List ℕ) (μ : Memory) : Type 0 where
    long : length c ≡ 96
    rows_are : rows c 0 ≡ length qs
    bytes_are : μ.at 0 1 ≡ cells k vals (qs ++ replicate n q)
    bits_are : keep ≡ true → μ.bits 0 ≡ map flag (map (ok_at vals) qs)

  record Masked (q n : ℕ) (qs : List ℕ) (c : List ℕ) (μ : Memory) : Type 0 where
    long : length c ≡ 96
    rows_are : rows c 0 ≡ length qs
    bytes_are : μ.at 0 1 ≡ cells k vals (qs ++ replicate n q)
    bits_are : keep ≡ true → μ.bits 0 ≡ map flag (map (ok_at vals) (qs ++ replicate n q))

  module _ (q n : ℕ) (qs : List ℕ) (long-cells : length (cells k vals qs) ≡ length qs * width k) (few : length qs + n ≤ m) where
    bytes_there : (c : List ℕ) (μ : Memory) → Rows qs c μ → Quiet μ (Put q n qs) (wrote (put 0 1 (rows c 0 * width k) (cells k vals (replicate n q))) c)
    bytes_there c μ h =
        quiet_wrote (put 0 1 (rows c 0 * width k) (cells k vals (replicate n q))) c (ap (λ z. z * width k) h.rows_are ∙ sym (ap length h.bytes_are ∙ long-cells))
        (record {
          long = h.long;
          rows_are = h.rows_are;
          bytes_are = ap (λ b. b ++ cells k vals (replicate n q)) h.bytes_are ∙ sym (cells_append k vals qs (replicate n q));
          bits_are = h.bits_are;
        })

    bits_there : (c : List ℕ) (μ : Memory) → Put q n qs c μ → Quiet μ (Masked q n qs) (fill_bits k w v a m keep q n c)
    unfolding fill_bits
    bits_there c μ h = go keep refl
      where
        bits : keep ≡ true → (μ.bits 0 ++ replicate n (flag (ok_at vals q))) ≡ map flag (map (ok_at vals) (qs ++ replicate n q))
        bits e =
            ap₂ ◌++◌ (h.bits_are e) (sym (ap (map flag) (map_replicate (ok_at vals) n q) ∙ map_replicate flag n (ok_at vals q)))
            ∙ sym (ap (map flag) (map-append (ok_at vals) qs (replicate n q)) ∙ map-append flag (map (ok_at vals) qs) (map (ok_at vals) (replicate n q)))

        go : (b : Bool) → keep ≡ b → Quiet μ (Masked q n qs) (cond b (wrote (mask 0 (rows c 0) (replicate n (flag (ok_at vals q)))) c) (done c))
        go true e =
            quiet_wrote (mask 0 (rows c 0) (replicate n (flag (ok_at vals q)))) c (h.rows_are ∙ sym (ap length (h.bits_are e) ∙ length-map (map (ok_at vals) qs) flag ∙ length-map qs (ok_at vals)))
            (record { long = h.long; rows_are = h.rows_are; bytes_are = h.bytes_are; bits_are = bits })
        go false e =
            quiet_done c
            (record {
              long = h.long;
              rows_are = h.rows_are;
              bytes_are = h.bytes_are;
              bits_are = λ z. absurd (let y : true ≡ false = sym z ∙ e in let u : ◌≡◌ {A = ℕ} 0 1 = cc y in omega arith);
            })

    fill_there : (c : List ℕ) (μ : Memory) → Rows qs c μ → Quiet μ (Rows (qs ++ replicate n q)) (fill k w v a m keep q n c)
    unfolding fill
    fill_there c μ h =
        quiet_then _ (bytes_there c μ h) (λ c1 μ1 h1. quiet_then _ (bits_there c1 μ1 h1) (λ c2 μ2 h2. quiet_done (add_rows 0 n c2) (counted c2 μ2 h2)))
      where
        counted : (c : List ℕ) (μ : Memory) → Masked q n qs c μ → Rows (qs ++ replicate n q) (add_rows 0 n c) μ
        counted c μ h =
            let e : rows (add_rows 0 n c) 0 ≡ rows c 0 + n = rows_added c h.long 0 (omega arith) n ∙ grown_is (rows c 0) n (omega (arith, h.rows_are)) in
            let l : length (qs ++ replicate n q) ≡ length qs + n = length-append qs (replicate n q) ∙ ap (λ z. length qs + z) (length-replicate n q) in
            record {
              long = long_rows 0 n c ∙ h.long;
              rows_are = omega (arith, h.rows_are);
              bytes_are = h.bytes_are;
              bits_are = h.bits_are;
            }

  -- ---- all stretches

  from_there : (f r : ℕ) → r ≤ m → m ≤ r + f → (c : List ℕ) (μ : Memory) → Rows (up_to r) c μ → Quiet μ (Rows (up_to m)) (expand_from k w v a m keep f r c)
  unfolding expand_from
  from_there zero r l g c μ h = let e : r ≡ m = omega arith in quiet_done c (subst (λ z. Rows (up_to z) c μ) e h)
  from_there (suc f) r l g c μ h = go (ltb r m) refl (λ p q. from_there f (r + stretch k w v a m keep r) p q)
    where
      go : (b : Bool) → ltb r m ≡ b
          → (r + stretch k w v a m keep r ≤ m → m ≤ r + stretch k w v a m keep r + f → (c : List ℕ) (μ : Memory) → Rows (up_to (r + stretch k w v a m keep r)) c μ → Quiet μ (Rows (up_to m)) (expand_from k w v a m keep f (r + stretch k w v a m keep r) c))
          → Quiet μ (Rows (up_to m)) (cond b (next (fill k w v a m keep (run_at w v (a + r)) (stretch k w v a m keep r) c) (λ c2. expand_from k w v a m keep f (r + stretch k w v a m keep r) c2)) (done c))
      go true e rest =
          let p = ltb-true r m e in
          let b = above r p in
          let n = length_seg (run_at w v) a r in
          quiet_then _
          (subst (λ qs. Quiet μ (Rows qs) (fill k w v a m keep (run_at w v (a + r)) (stretch k w v a m keep r) c)) (sym (more r p))
          (fill_there (run_at w v (a + r)) (stretch k w v a m keep r) (up_to r) (cells_long k vals s.slots.child_rule (up_to r) (runs_inside k w v s a r (omega arith))) (omega arith) c μ h))
          (λ c2 μ2 h2. rest (omega arith) (omega arith) c2 μ2 h2)
      go false e rest = let z : r ≡ m = omega (arith, ltb-false r m e) in quiet_done c (subst (λ z. Rows (up_to z) c μ) z h)

  begin : Rows (up_to 0) (replicate 96 0) empty
  begin = record { long = refl; rows_are = refl; bytes_are = refl; bits_are = λ e. refl }

  -- WHAT THE WALK LEAVES, by a plan whose node keeps nulls exactly where the values have one
  module _ (x : Lent) (keeps : keeps_of x.plan 0 ≡ flag keep) (exact : keep ≡ ltb 0 (null_count_of vals)) (buffers : List ℕ) where
    at_end : (c : List ℕ) (μ : Memory) → Rows (up_to m) c μ → PickedAt x buffers c μ k vals (up_to m) 0
    at_end c μ h =
        record {
          rows_are = h.rows_are;
          keeps_are = keeps ∙ ap flag exact;
          bytes_are = h.bytes_are;
          bits_are = λ q. h.bits_are (exact ∙ lt-ltb 0 (null_count_of vals) q);
        }

    pub expand_leaves : Quiet empty (λ c μ. (length c ≡ 96) × PickedAt x buffers c μ k vals (seg (run_at w v) a m) 0) (expand_walk k w v a m keep (replicate 96 0))
    unfolding expand_walk
    expand_leaves =
        let q = from_there m 0 (omega arith) (omega arith) (replicate 96 0) empty begin in
        record { is_done = q.is_done; in_place = q.in_place; leaves = (q.leaves.long, at_end _ _ q.leaves) }
