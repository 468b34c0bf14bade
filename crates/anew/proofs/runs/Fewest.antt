-- No run-end column of the same rows has fewer runs than the encoder's, and its neighbouring runs read differently. Assumes nothing.
use mathlib.Core.Path.{◌≡◌, refl, sym, ap, subst, ◌∙◌}
use mathlib.Core.Bool.{Bool, true, false, ◌||◌, true≢false}
use mathlib.Core.Option.{Option, none, some}
use mathlib.Core.List.{List}
use mathlib.Core.Logic.{◌⊎◌, inl, inr}
use Prim.Native.Nat.{ℕ, zero, suc, ◌+◌, ◌≤◌, ◌<◌}
use native.Mathlib.Nat.{zero-add, eq-or-lt_of_le}
use native.Mathlib.Omega.{arith}
use lib.Dec.{T, ltb, eqb}
use lib.ListN.{length, get_or}
use borrow.Author.Tests.{ltb-true, ltb-false, ne_eqb, not-true}
use Rattle.columnar.specs.Row.{null, seg}
use Rattle.columnar.specs.Types.{Number, fixed, Ty, t_plain, t_run_end}
use Rattle.columnar.specs.Array.{ok, sight, Mask}
use Rattle.columnar.specs.RunEnd.{end_of, first_above}
use Rattle.columnar.specs.Reading.{Column, read, read_all, Source}
use Rattle.columnar.proofs.FirstAbove.{first_below}
use Rattle.model.proofs.Bits.{length_seg, get_d_seg}
use Rattle.anew.specs.runs.Runs.{same_at, edge, those, edges, Bytes}
use Rattle.anew.specs.runs.Coding.{encoded, run_at}
use Rattle.anew.proofs.runs.Those.{those_rise, those_few}
use Rattle.anew.proofs.runs.Parted.{next_row, counted}
use Rattle.anew.proofs.runs.Same.{same_read}
use Rattle.anew.proofs.runs.Encode.{row_from, edge_chain, edges_are, ends_length, value_row}

-- ---- the run of a later row is not an earlier one

above_ge : (e : ℕ → ℕ) (i k n : ℕ) → k ≤ first_above e i k n
above_ge e i k zero = omega arith
above_ge e i k (suc n) = go (ltb i (e k)) (above_ge e i (suc k) n)
  where
    go : (b : Bool) → suc k ≤ first_above e i (suc k) n → k ≤ elim b [ true ↦ k | false ↦ first_above e i (suc k) n ]
    go true h = omega arith
    go false h = omega arith

above_mono : (e : ℕ → ℕ) (i j k n : ℕ) → i ≤ j → first_above e i k n ≤ first_above e j k n
above_mono e i j k zero h = omega arith
above_mono e i j k (suc n) h = go (ltb i (e k)) refl (ltb j (e k)) refl (above_mono e i j (suc k) n h)
  where
    go : (b : Bool) → ltb i (e k) ≡ b → (c : Bool) → ltb j (e k) ≡ c → first_above e i (suc k) n ≤ first_above e j (suc k) n
        → elim b [ true ↦ k | false ↦ first_above e i (suc k) n ] ≤ elim c [ true ↦ k | false ↦ first_above e j (suc k) n ]
    go true p true q r = omega arith
    go true p false q r = omega (arith, above_ge e j (suc k) n)
    go false p true q r = absurd (omega (arith, ltb-false i (e k) p, ltb-true j (e k) q))
    go false p false q r = r

-- ---- a run-end column's rows

-- a run-end node has no validity
pub no_mask_lem : (v : Option (List ℕ)) (n i : ℕ) → Mask false v n → ok v i ≡ true
no_mask_lem none n i h = refl
no_mask_lem (some l) n i h = absurd h

module _ (w : ℕ) (t : Ty) (y : Column (t_run_end w t)) (s : Source (t_run_end w t) y) where
  -- a row reads as its run's value
  pub run_value : (i : ℕ) → read (t_run_end w t) y i ≡ read t y.body.values (run_at w y i)
  run_value i = ap (λ b. sight b (read t y.body.values (run_at w y i))) (no_mask_lem y.valid (y.off + y.len) (y.off + i) s.mask)

  pub run_there : (i : ℕ) → i < y.len → run_at w y i < y.body.ends.len
  run_there i q = first_below (end_of w y.body.ends) (y.off + i) y.body.ends.len (omega (arith, s.slots.covers))

-- ---- the fewest

or_right : (b c : Bool) → b ≡ false → b || c ≡ true → c ≡ true
or_right true c p e = absurd (true≢false p)
or_right false c p e = e

module _ (k : Number) (x : Column (t_plain (fixed k))) (h : Bytes x.body) (a m : ℕ) where
  -- a row that ends a run reads otherwise than the next
  edge_apart : (r : ℕ) → suc r < m → edge k x a m r ≡ true → row_from k x a m r ≡ row_from k x a m (suc r) → ⊥
  edge_apart r q e z =
      let d : same_at k x (a + r) (a + suc r) ≡ false = not-true _ (or_right (eqb (suc r) m) _ (ne_eqb (suc r) m (λ p. omega arith)) e) in
      subst T d ((same_read k x h (a + r) (a + suc r)).complete z)

  module _ (w : ℕ) (t : Ty) (y : Column (t_run_end w t)) (s : Source (t_run_end w t) y) (e : read_all (t_run_end w t) y ≡ seg (read (t_plain (fixed k)) x) a m) where
    as_long : y.len ≡ m
    as_long = sym (length_seg (read (t_run_end w t) y) 0 y.len) ∙ ap length e ∙ length_seg (read (t_plain (fixed k)) x) a m

    same_row_lem : (i : ℕ) → i < m → read t y.body.values (run_at w y i) ≡ row_from k x a m i
    same_row_lem i q =
        sym (run_value w t y s i)
        ∙ sym (get_d_seg (read (t_run_end w t) y) 0 y.len i null (omega (arith, as_long)) ∙ ap (read (t_run_end w t) y) (zero-add i))
        ∙ ap (λ l. get_or l i null) e
        ∙ get_d_seg (read (t_plain (fixed k)) x) a m i null q

    later : (i : ℕ) → run_at w y i ≤ run_at w y (suc i)
    later i = above_mono (end_of w y.body.ends) (y.off + i) (y.off + suc i) 0 y.body.ends.len (omega arith)

    -- rows that differ stand in different runs
    apart : (i : ℕ) → suc i < m → edge k x a m i ≡ true → run_at w y i < run_at w y (suc i)
    apart i q z = go (eq-or-lt_of_le (later i))
      where
        go : (run_at w y i ≡ run_at w y (suc i)) ⊎ (run_at w y i < run_at w y (suc i)) → run_at w y i < run_at w y (suc i)
        go (inl u) = absurd (edge_apart i q z (sym (same_row_lem i (omega arith)) ∙ ap (read t y.body.values) u ∙ same_row_lem (suc i) q))
        go (inr u) = u

    enough : (n : ℕ) → n ≡ m → length (edges k x a m) ≤ y.body.ends.len
    enough zero z = omega (arith, those_few (edge k x a m) m 0)
    enough (suc n) z =
        let c : length (edges k x a m) + run_at w y 0 ≤ run_at w y n + 1
        = subst (λ l. length (those (edge k x a m) 0 l) + run_at w y 0 ≤ run_at w y n + 1) z
        (rw (zero-add n) at (counted (edge k x a m) (run_at w y) m (λ i q. later i) apart n 0 (omega arith))) in
        omega (arith, c, run_there w t y s n (omega (arith, as_long)))

  -- NO RUN-END COLUMN THAT READS AS THESE ROWS HAS FEWER RUNS, whatever its width, its values' type and its offsets
  pub fewest : (w w' : ℕ) (t : Ty) (y : Column (t_run_end w' t)) → Source (t_run_end w' t) y → read_all (t_run_end w' t) y ≡ seg (read (t_plain (fixed k)) x) a m
      → (encoded k w x a m).body.ends.len ≤ y.body.ends.len
  fewest w w' t y s e = rw (ends_length k x a m) (enough w' t y s e m refl)

  -- NEIGHBOURING RUNS READ DIFFERENTLY
  pub maximal : (w : ℕ) → Source (t_plain (fixed k)) x → a + m ≤ x.len → (j : ℕ) → suc j < (encoded k w x a m).body.ends.len
      → read (t_plain (fixed k)) (encoded k w x a m).body.values j ≡ read (t_plain (fixed k)) (encoded k w x a m).body.values (suc j) → ⊥
  maximal w s within j q e =
      let p : suc j < length (edges k x a m) = omega (arith, ends_length k x a m) in
      let u = those_rise (edge k x a m) m 0 j p in
      let l = (edges_are k x a m (suc j) p).below in
      edge_apart (get_or (edges k x a m) j 0) (omega (arith, u, l)) (edges_are k x a m j (omega arith)).passes
      (sym (value_row k x a m s within j (omega arith))
      ∙ e
      ∙ value_row k x a m s within (suc j) p
      ∙ next_row (row_from k x a m) (edge k x a m) m (edge_chain k x a m) m 0 j (zero-add m) p)
