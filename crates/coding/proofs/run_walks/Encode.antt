-- What the walk of the encoder leaves: the encoded column stands. Assumes nothing.
use mathlib.Core.Path.{◌≡◌, refl, sym, ap, subst, ◌∙◌}
use mathlib.Core.Bool.{Bool, true, false, cond}
use mathlib.Core.List.{List, [], ◌∷◌, ◌++◌, map, map-append, append-nil}
use Prim.Native.Nat.{ℕ, zero, suc, ◌+◌, ◌*◌, ◌≤◌, ◌<◌}
use native.Mathlib.Nat.{zero-add, add-zero}
use native.Mathlib.Numerals.{add-one}
use native.Mathlib.Omega.{arith}
use lib.ListN.{length, replicate, length-append, length-map}
use lib.Dec.{ltb}
use borrow.Author.Tests.{lt-ltb}
use Rattle.number.specs.Number.{encode}
use Rattle.columnar.specs.Types.{Number, width, fixed, t_plain}
use Rattle.columnar.specs.Array.{null_count_of}
use Rattle.columnar.specs.Entries.{encodes}
use Rattle.columnar.specs.Reading.{Column, Source}
use Rattle.columnar.proofs.Items.{length_encodes, encodes_append}
use Rattle.walk.specs.State.{keeps_of, rows, add_rows, far}
use Rattle.walk.specs.Log.{put, mask, done, wrote, each}
use Rattle.refinement.specs.walk_is_model.Memory.{Memory}
use Rattle.refinement.specs.walk_is_model.Holds.{flag}
use Rattle.refinement.proofs.walk_is_model.Counters.{grown_is, rows_added, rows_other, long_rows}
use Rattle.refinement.proofs.walk_is_model.Goes.{Quiet, quiet_done, quiet_wrote, quiet_then}
use Rattle.refinement.specs.orders.Order.{Lent}
use Rattle.refinement.proofs.opening.Zeros.{empty}
use Rattle.anew.specs.runs.Runs.{ok_at, those, edge}
use Rattle.anew.specs.runs.Picked.{cell, cells}
use Rattle.anew.proofs.runs.Those.{those_split, those_few, those_are}
use Rattle.anew.proofs.runs.Picked.{Inside, get_d_map, cells_append, cells_long}
use Rattle.anew.proofs.Coded.{EncodedAt}
use Rattle.coding.specs.run_walks.Encode.{emit_bit, emit, encode_row, encode_walk}

module _ (k : Number) (w : ℕ) (v : Column (t_plain (fixed k))) (a m : ℕ) (keep : Bool) (s : Source (t_plain (fixed k)) v) (within : a + m ≤ v.len) (short : m < far) where
  -- counters and memory with a run for each of the last rows es
  record Runs (es : List ℕ) (c : List ℕ) (μ : Memory) : Type 0 where
    long : length c ≡ 96
    root_rows : rows c 0 ≡ 0
    ends_rows_lem : rows c 1 ≡ length es
    value_rows : rows c 2 ≡ length es
    ends_bytes : μ.at 1 1 ≡ encodes w (map suc es)
    value_bytes : μ.at 2 1 ≡ cells k v (map (a +◌) es)
    value_bits : keep ≡ true → μ.bits 2 ≡ map flag (map (ok_at v) (map (a +◌) es))

  -- one more, while it is written
  record Ended (r : ℕ) (es : List ℕ) (c : List ℕ) (μ : Memory) : Type 0 where
    long : length c ≡ 96
    root_rows : rows c 0 ≡ 0
    ends_rows_lem : rows c 1 ≡ length es
    value_rows : rows c 2 ≡ length es
    ends_bytes : μ.at 1 1 ≡ encodes w (map suc (es ++ (r ∷ [])))
    value_bytes : μ.at 2 1 ≡ cells k v (map (a +◌) es)
    value_bits : keep ≡ true → μ.bits 2 ≡ map flag (map (ok_at v) (map (a +◌) es))

  record Valued (r : ℕ) (es : List ℕ) (c : List ℕ) (μ : Memory) : Type 0 where
    long : length c ≡ 96
    root_rows : rows c 0 ≡ 0
    ends_rows_lem : rows c 1 ≡ length es
    value_rows : rows c 2 ≡ length es
    ends_bytes : μ.at 1 1 ≡ encodes w (map suc (es ++ (r ∷ [])))
    value_bytes : μ.at 2 1 ≡ cells k v (map (a +◌) (es ++ (r ∷ [])))
    value_bits : keep ≡ true → μ.bits 2 ≡ map flag (map (ok_at v) (map (a +◌) es))

  record Whole (r : ℕ) (es : List ℕ) (c : List ℕ) (μ : Memory) : Type 0 where
    long : length c ≡ 96
    root_rows : rows c 0 ≡ 0
    ends_rows_lem : rows c 1 ≡ length es
    value_rows : rows c 2 ≡ length es
    ends_bytes : μ.at 1 1 ≡ encodes w (map suc (es ++ (r ∷ [])))
    value_bytes : μ.at 2 1 ≡ cells k v (map (a +◌) (es ++ (r ∷ [])))
    value_bits : keep ≡ true → μ.bits 2 ≡ map flag (map (ok_at v) (map (a +◌) (es ++ (r ∷ []))))

  module _ (r : ℕ) (es : List ℕ) (inside : Inside (map (a +◌) es) v.len) (few : length es < m) where
    end_there : (c : List ℕ) (μ : Memory) → Runs es c μ → Quiet μ (Ended r es) (wrote (put 1 1 (rows c 1 * w) (encode w (suc r))) c)
    end_there c μ h =
        quiet_wrote (put 1 1 (rows c 1 * w) (encode w (suc r))) c
        (ap (λ n. n * w) h.ends_rows_lem ∙ sym (ap length h.ends_bytes ∙ length_encodes w (map suc es) ∙ ap (λ n. n * w) (length-map es suc)))
        (record {
          long = h.long;
          root_rows = h.root_rows;
          ends_rows_lem = h.ends_rows_lem;
          value_rows = h.value_rows;
          ends_bytes = ap (λ b. b ++ encode w (suc r)) h.ends_bytes
              ∙ sym (ap (encodes w) (map-append suc es (r ∷ [])) ∙ encodes_append w (map suc es) (suc r ∷ []) ∙ ap (λ b. encodes w (map suc es) ++ b) (append-nil (encode w (suc r))));
          value_bytes = h.value_bytes;
          value_bits = h.value_bits;
        })

    value_there : (c : List ℕ) (μ : Memory) → Ended r es c μ → Quiet μ (Valued r es) (wrote (put 2 1 (rows c 2 * width k) (cell k v (a + r))) c)
    value_there c μ h =
        quiet_wrote (put 2 1 (rows c 2 * width k) (cell k v (a + r))) c
        (ap (λ n. n * width k) h.value_rows ∙ sym (ap length h.value_bytes ∙ cells_long k v s (map (a +◌) es) inside ∙ ap (λ n. n * width k) (length-map es (a +◌))))
        (record {
          long = h.long;
          root_rows = h.root_rows;
          ends_rows_lem = h.ends_rows_lem;
          value_rows = h.value_rows;
          ends_bytes = h.ends_bytes;
          value_bytes = ap (λ b. b ++ cell k v (a + r)) h.value_bytes
              ∙ sym (ap (cells k v) (map-append (a +◌) es (r ∷ [])) ∙ cells_append k v (map (a +◌) es) ((a + r) ∷ []) ∙ ap (λ b. cells k v (map (a +◌) es) ++ b) (append-nil (cell k v (a + r))));
          value_bits = h.value_bits;
        })

    bit_there : (c : List ℕ) (μ : Memory) → Valued r es c μ → Quiet μ (Whole r es) (emit_bit k w v a m keep r c)
    unfolding emit_bit
    bit_there c μ h = go keep refl
      where
        bits : keep ≡ true → (μ.bits 2 ++ (flag (ok_at v (a + r)) ∷ [])) ≡ map flag (map (ok_at v) (map (a +◌) (es ++ (r ∷ []))))
        bits e =
            ap (λ b. b ++ (flag (ok_at v (a + r)) ∷ [])) (h.value_bits e)
            ∙ sym
            (ap (λ l. map flag (map (ok_at v) l)) (map-append (a +◌) es (r ∷ []))
            ∙ ap (map flag) (map-append (ok_at v) (map (a +◌) es) ((a + r) ∷ []))
            ∙ map-append flag (map (ok_at v) (map (a +◌) es)) (ok_at v (a + r) ∷ []))

        go : (b : Bool) → keep ≡ b → Quiet μ (Whole r es) (cond b (wrote (mask 2 (rows c 2) (flag (ok_at v (a + r)) ∷ [])) c) (done c))
        go true e =
            quiet_wrote (mask 2 (rows c 2) (flag (ok_at v (a + r)) ∷ [])) c
            (h.value_rows ∙ sym (ap length (h.value_bits e) ∙ length-map (map (ok_at v) (map (a +◌) es)) flag ∙ length-map (map (a +◌) es) (ok_at v) ∙ length-map es (a +◌)))
            (record {
              long = h.long;
              root_rows = h.root_rows;
              ends_rows_lem = h.ends_rows_lem;
              value_rows = h.value_rows;
              ends_bytes = h.ends_bytes;
              value_bytes = h.value_bytes;
              value_bits = bits;
            })
        go false e =
            quiet_done c
            (record {
              long = h.long;
              root_rows = h.root_rows;
              ends_rows_lem = h.ends_rows_lem;
              value_rows = h.value_rows;
              ends_bytes = h.ends_bytes;
              value_bytes = h.value_bytes;
              value_bits = λ q. absurd (let z : true ≡ false = sym q ∙ e in let y : ◌≡◌ {A = ℕ} 0 1 = cc z in omega arith);
            })

    counted : (c : List ℕ) (μ : Memory) → Whole r es c μ → Runs (es ++ (r ∷ [])) (add_rows 2 1 (add_rows 1 1 c)) μ
    counted c μ h =
        let one = add_rows 1 1 c in
        let l1 : length one ≡ 96 = long_rows 1 1 c ∙ h.long in
        let n : length (es ++ (r ∷ [])) ≡ length es + 1 = length-append es (r ∷ []) in
        let e1 : rows one 1 ≡ rows c 1 + 1 = rows_added c h.long 1 (omega arith) 1 ∙ grown_is (rows c 1) 1 (omega (arith, h.ends_rows_lem)) in
        let e2 : rows one 2 ≡ rows c 2 = rows_other c 1 1 2 (λ q. omega arith) in
        let f2 : rows (add_rows 2 1 one) 2 ≡ rows one 2 + 1 = rows_added one l1 2 (omega arith) 1 ∙ grown_is (rows one 2) 1 (omega (arith, h.value_rows)) in
        let f1 : rows (add_rows 2 1 one) 1 ≡ rows one 1 = rows_other one 2 1 1 (λ q. omega arith) in
        let f0 : rows (add_rows 2 1 one) 0 ≡ rows one 0 = rows_other one 2 1 0 (λ q. omega arith) in
        let e0 : rows one 0 ≡ rows c 0 = rows_other c 1 1 0 (λ q. omega arith) in
        record {
          long = long_rows 2 1 one ∙ l1;
          root_rows = f0 ∙ e0 ∙ h.root_rows;
          ends_rows_lem = omega (arith, h.ends_rows_lem);
          value_rows = omega (arith, h.value_rows);
          ends_bytes = h.ends_bytes;
          value_bytes = h.value_bytes;
          value_bits = h.value_bits;
        }

    -- A RUN IS WRITTEN
    emit_there : (c : List ℕ) (μ : Memory) → Runs es c μ → Quiet μ (Runs (es ++ (r ∷ []))) (emit k w v a m keep r c)
    unfolding emit
    emit_there c μ h =
        quiet_then _ (end_there c μ h)
        (λ c1 μ1 h1. quiet_then _ (value_there c1 μ1 h1) (λ c2 μ2 h2. quiet_then _ (bit_there c2 μ2 h2) (λ c3 μ3 h3. quiet_done (add_rows 2 1 (add_rows 1 1 c3)) (counted c3 μ3 h3))))

  -- ---- row by row

  -- the last rows of runs among the first r rows
  abbrev before : ℕ → List ℕ
  before r = those (edge k v a m) 0 r

  before_inside : (r : ℕ) → r ≤ m → Inside (map (a +◌) (before r)) v.len
  before_inside r l j q =
      let p : j < length (before r) = omega (arith, length-map (before r) (a +◌)) in
      rw (get_d_map (a +◌) (before r) j 0 0 p) (omega (arith, (those_are (edge k v a m) r 0 j p).below))

  before_more : (r : ℕ) (b : Bool) → edge k v a m r ≡ b → before (suc r) ≡ before r ++ cond b (r ∷ []) []
  before_more r b e =
      ap before (sym (add-one r)) ∙ those_split (edge k v a m) r 1 0 ∙ ap (λ z. before r ++ those (edge k v a m) z 1) (zero-add r)
      ∙ ap (λ z. before r ++ cond z (r ∷ []) []) e

  row_there : (r : ℕ) → r < m → (c : List ℕ) (μ : Memory) → Runs (before r) c μ → Quiet μ (Runs (before (suc r))) (encode_row k w v a m keep r c)
  unfolding encode_row
  row_there r l c μ h = go (edge k v a m r) refl
    where
      go : (b : Bool) → edge k v a m r ≡ b → Quiet μ (Runs (before (suc r))) (cond b (emit k w v a m keep r c) (done c))
      go true e =
          subst (λ es. Quiet μ (Runs es) (emit k w v a m keep r c)) (sym (before_more r true e))
          (emit_there r (before r) (before_inside r (omega arith)) (omega (arith, those_few (edge k v a m) r 0)) c μ h)
      go false e = quiet_done c (subst (λ es. Runs es c μ) (sym (append-nil (before r)) ∙ sym (before_more r false e)) h)

  rows_there : (n r : ℕ) → r + n ≤ m → (c : List ℕ) (μ : Memory) → Runs (before r) c μ → Quiet μ (Runs (before (r + n))) (each (encode_row k w v a m keep) n r c)
  unfolding each
  rows_there zero r l c μ h = quiet_done c (subst (λ z. Runs (before z) c μ) (sym (add-zero r)) h)
  rows_there (suc n) r l c μ h =
      let z : suc r + n ≡ r + suc n = omega arith in
      quiet_then _ (row_there r (omega arith) c μ h) (λ c2 μ2 h2. subst (λ q. Quiet μ2 (Runs (before q)) (each (encode_row k w v a m keep) n (suc r) c2)) z (rows_there n (suc r) (omega arith) c2 μ2 h2))

  begin : Runs [] (replicate 96 0) empty
  begin = record { long = refl; root_rows = refl; ends_rows_lem = refl; value_rows = refl; ends_bytes = refl; value_bytes = refl; value_bits = λ e. refl }

  -- WHAT THE WALK LEAVES, by a plan whose values keep nulls exactly where the column has one
  module _ (x : Lent) (root_keeps : keeps_of x.plan 0 ≡ 0) (ends_keep : keeps_of x.plan 1 ≡ 0) (values_keep : keeps_of x.plan 2 ≡ flag keep) (exact : keep ≡ ltb 0 (null_count_of v)) (buffers : List ℕ) where
    at_end : (c : List ℕ) (μ : Memory) → Runs (before m) c μ → EncodedAt x buffers (add_rows 0 m c) μ k w v a m
    at_end c μ h =
        let e : rows (add_rows 0 m c) 0 ≡ rows c 0 + m = rows_added c h.long 0 (omega arith) m ∙ grown_is (rows c 0) m (omega (arith, h.root_rows)) in
        record {
          root_rows = omega (arith, h.root_rows);
          root_keeps = root_keeps;
          ends_rows_lem = rows_other c 0 m 1 (λ q. omega arith) ∙ h.ends_rows_lem ∙ sym (length-map (before m) suc);
          ends_keep = ends_keep;
          ends_bytes = h.ends_bytes;
          values =
              record {
                rows_are = rows_other c 0 m 2 (λ q. omega arith) ∙ h.value_rows ∙ sym (length-map (before m) (a +◌));
                keeps_are = values_keep ∙ ap flag exact;
                bytes_are = h.value_bytes;
                bits_are = λ q. h.value_bits (exact ∙ lt-ltb 0 (null_count_of v) q);
              };
        }

    pub encode_leaves : Quiet empty (λ c μ. (length c ≡ 96) × EncodedAt x buffers c μ k w v a m) (encode_walk k w v a m keep (replicate 96 0))
    unfolding encode_walk
    encode_leaves =
        quiet_then _ (rows_there m 0 (omega arith) (replicate 96 0) empty begin)
        (λ c μ h. quiet_done (add_rows 0 m c) (long_rows 0 m c ∙ h.long, at_end c μ (subst (λ z. Runs (before z) c μ) (zero-add m) h)))
