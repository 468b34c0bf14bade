-- The encoder: its column reads as the rows that it was given, can be lent again, and writes null slots as zeros. Assumes nothing.
use mathlib.Core.Path.{◌≡◌, refl, sym, ap, ◌∙◌}
use mathlib.Core.Bool.{Bool, true, false, ◌||◌, true≢false}
use mathlib.Core.Option.{none}
use mathlib.Core.List.{[], ◌∷◌}
use Prim.Native.Nat.{ℕ, zero, suc, ◌+◌, ◌≤◌, ◌<◌}
use native.Mathlib.Nat.{zero-add, add-zero}
use native.Mathlib.Omega.{arith}
use lib.Dec.{eqb}
use lib.ListN.{length, get_or, replicate, length-map}
use borrow.Author.Tests.{eq-eqb, not-false}
use Rattle.columnar.specs.Row.{Row, seg}
use Rattle.columnar.specs.Types.{Number, width, half, fixed, t_plain, t_run_end}
use Rattle.columnar.specs.Plain.{stored}
use Rattle.columnar.specs.RunEnd.{end_of, start_of}
use Rattle.columnar.specs.Reading.{Column, read, read_all, Source}
use Rattle.columnar.proofs.Items.{length_encodes, item_encodes_lt}
use Rattle.columnar.proofs.FirstAbove.{first_same, first_below}
use Rattle.columnar.proofs.Kept.{seg_same}
use Rattle.anew.specs.runs.Runs.{ok_at, edge, those, edges, run_ends, run_rows}
use Rattle.anew.specs.runs.Picked.{picked}
use Rattle.anew.specs.runs.Coding.{ends_of, encoded, run_at}
use Rattle.anew.proofs.runs.Those.{Among, those_are, those_rise, those_few, those_some, those_last}
use Rattle.anew.proofs.runs.Parted.{run_of, first_run_lem, run_row}
use Rattle.anew.proofs.runs.Same.{same_sound}
use Rattle.anew.proofs.runs.Picked.{get_d_map, Inside, picked_read, picked_zeros, picked_source}

or_false : (b c : Bool) → b || c ≡ false → c ≡ false
or_false true c e = absurd (true≢false e)
or_false false c e = e

or_left : (b c : Bool) → b ≡ true → b || c ≡ true
or_left true c e = refl
or_left false c e = absurd (true≢false (sym e))

-- a stretch from a on
pub seg_from : {A : Type 0} (f : ℕ → A) (a b n : ℕ) → seg (λ i. f (a + i)) b n ≡ seg f (a + b) n
seg_from f a b zero = refl
seg_from f a b (suc n) = let z : a + suc b ≡ suc (a + b) = omega arith in ap (f (a + b) ∷◌) (rw z at (seg_from f a (suc b) n))

-- the m runs of a column all start where the run before ends
starts_same : (e f : ℕ → ℕ) (n m : ℕ) → ((j : ℕ) → j < m → e j ≡ f j) → n ≤ m → start_of e n ≡ start_of f n
starts_same e f zero m h q = refl
starts_same e f (suc n) m h q = h n (omega arith)

-- the last row that passes ends the last run
pub ends_cover : (p : ℕ → Bool) (m : ℕ) → ((j : ℕ) → suc j ≡ m → p j ≡ true) → start_of (λ k. suc (get_or (those p 0 m) k 0)) (length (those p 0 m)) ≡ m
ends_cover p zero h = refl
ends_cover p (suc n) h =
    let e = ap p (zero-add n) ∙ h n refl in go (length (those p 0 (suc n))) (those_some p n 0 e) (λ k q. ap suc (those_last p n 0 e k q ∙ zero-add n)) refl
  where
    go : (c : ℕ) → 0 < c → ((k : ℕ) → length (those p 0 (suc n)) ≡ suc k → suc (get_or (those p 0 (suc n)) k 0) ≡ suc n) → length (those p 0 (suc n)) ≡ c
        → start_of (λ k. suc (get_or (those p 0 (suc n)) k 0)) c ≡ suc n
    go zero o f q = absurd (omega arith)
    go (suc k) o f q = f k q

module _ (k : Number) (x : Column (t_plain (fixed k))) (a m : ℕ) where
  -- the rows of the range
  abbrev pub row_from : ℕ → Row
  row_from i = read (t_plain (fixed k)) x (a + i)

  -- the last row ends a run
  edge_last : (r : ℕ) → suc r ≡ m → edge k x a m r ≡ true
  edge_last r e = or_left (eqb (suc r) m) _ (eq-eqb (suc r) m e)

  -- a row that ends none reads as the next
  pub edge_chain : (r : ℕ) → suc r < m → edge k x a m r ≡ false → row_from r ≡ row_from (suc r)
  edge_chain r q e = same_sound k x (a + r) (a + suc r) (not-false _ (or_false (eqb (suc r) m) _ e))

  pub edges_are : (j : ℕ) → j < length (edges k x a m) → Among (edge k x a m) 0 m (get_or (edges k x a m) j 0)
  edges_are j q = rw zero-add at (those_are (edge k x a m) m 0 j q)

  pub edges_cover : start_of (λ j. suc (get_or (edges k x a m) j 0)) (length (edges k x a m)) ≡ m
  edges_cover = ends_cover (edge k x a m) m edge_last

  edges_rise : (j : ℕ) → j < length (edges k x a m) → start_of (λ i. suc (get_or (edges k x a m) i 0)) j < suc (get_or (edges k x a m) j 0)
  edges_rise zero q = omega arith
  edges_rise (suc j) q = omega (arith, those_rise (edge k x a m) m 0 j q)

  pub ends_length : length (run_ends k x a m) ≡ length (edges k x a m)
  ends_length = length-map (edges k x a m) suc

  pub rows_length : length (run_rows k x a m) ≡ length (edges k x a m)
  rows_length = length-map (edges k x a m) (a +◌)

  pub rows_inside : a + m ≤ x.len → Inside (run_rows k x a m) x.len
  rows_inside h j q =
      let p : j < length (edges k x a m) = omega (arith, rows_length) in
      rw (get_d_map (a +◌) (edges k x a m) j 0 0 p) (omega (arith, (edges_are j p).below))

  module _ (s : Source (t_plain (fixed k)) x) (within : a + m ≤ x.len) where
    -- the value of a run
    pub value_row : (j : ℕ) → j < length (edges k x a m) → read (t_plain (fixed k)) (picked k x (run_rows k x a m)) j ≡ row_from (get_or (edges k x a m) j 0)
    value_row j q =
        picked_read k x s (run_rows k x a m) (rows_inside within) j (omega (arith, rows_length))
        ∙ ap (read (t_plain (fixed k)) x) (get_d_map (a +◌) (edges k x a m) j 0 0 q)

    -- "NULL SLOTS AS ZEROS"
    pub encode_zeros : (w j : ℕ) → j < length (run_rows k x a m) → ok_at (encoded k w x a m).body.values j ≡ false
        → stored (fixed k) (encoded k w x a m).body.values.body j ≡ replicate (width k) 0
    encode_zeros w j q e = picked_zeros k x s (run_rows k x a m) (rows_inside within) j q e

  module _ (w : ℕ) (fits : m < half w) where
    -- run j ends behind the row that it has its value of
    pub end_is : (j : ℕ) → j < length (edges k x a m) → end_of w (ends_of w (run_ends k x a m)) j ≡ suc (get_or (edges k x a m) j 0)
    end_is j q =
        let e : get_or (run_ends k x a m) j 0 ≡ suc (get_or (edges k x a m) j 0) = get_d_map suc (edges k x a m) j 0 0 q in
        rw zero-add (item_encodes_lt w (run_ends k x a m) j (omega (arith, ends_length)) (omega (arith, e, (edges_are j q).below))) ∙ e

    pub starts_are : (n : ℕ) → n ≤ length (edges k x a m) → start_of (end_of w (ends_of w (run_ends k x a m))) n ≡ start_of (λ j. suc (get_or (edges k x a m) j 0)) n
    starts_are n q = starts_same (end_of w (ends_of w (run_ends k x a m))) (λ j. suc (get_or (edges k x a m) j 0)) n (length (edges k x a m)) end_is q

    -- the run of a row
    pub run_is : (i : ℕ) → run_at w (encoded k w x a m) i ≡ run_of (edges k x a m) i
    run_is i =
        rw (zero-add i, ends_length)
        (first_same (end_of w (ends_of w (run_ends k x a m))) (λ j. suc (get_or (edges k x a m) j 0)) i 0 (length (edges k x a m)) (λ j q. rw (zero-add j) (end_is j q))
        ∙ first_run_lem (edges k x a m) i)

    -- there is one for each row of the range
    run_below : (i : ℕ) → i < m → run_of (edges k x a m) i < length (edges k x a m)
    run_below i q = rw first_run_lem at (first_below (λ j. suc (get_or (edges k x a m) j 0)) i (length (edges k x a m)) (rw edges_cover q))

    module _ (s : Source (t_plain (fixed k)) x) (within : a + m ≤ x.len) where
      pub encode_row_lem : (i : ℕ) → i < m → read (t_run_end w (t_plain (fixed k))) (encoded k w x a m) i ≡ row_from i
      encode_row_lem i q =
          ap (read (t_plain (fixed k)) (picked k x (run_rows k x a m))) (run_is i)
          ∙ value_row s within (run_of (edges k x a m) i) (run_below i q)
          ∙ run_row row_from (edge k x a m) m edge_chain edge_last m 0 i (zero-add m) (omega arith) q

      -- THE ENCODED COLUMN READS AS THE ROWS THAT IT IS MADE OF
      pub encode_rows : read_all (t_run_end w (t_plain (fixed k))) (encoded k w x a m) ≡ seg (read (t_plain (fixed k)) x) a m
      encode_rows =
          seg_same (read (t_run_end w (t_plain (fixed k))) (encoded k w x a m)) row_from 0 m (λ i q. rw (zero-add i) (encode_row_lem i q))
          ∙ seg_from (read (t_plain (fixed k)) x) a 0 m
          ∙ ap (λ b. seg (read (t_plain (fixed k)) x) b m) (add-zero a)

      -- IT OBEYS THE RULES, so that it can be lent again
      pub encode_source : Source (t_run_end w (t_plain (fixed k))) (encoded k w x a m)
      encode_source =
          record {
            mask = tt;
            slots =
                record {
                  ends_mask = tt;
                  hold = rw (zero-add, length_encodes) (omega arith);
                  no_nulls = λ j q. tt;
                  positive = λ j q. let p : j < length (edges k x a m) = omega (arith, ends_length) in rw (end_is j p) (omega (arith, (edges_are j p).below));
                  rises = λ j q. let p : j < length (edges k x a m) = omega (arith, ends_length) in rw (starts_are j (omega arith), end_is j p) (edges_rise j p);
                  covers = rw (ends_length, starts_are (length (edges k x a m)) (omega arith), edges_cover) (omega arith);
                  as_many = rows_length ∙ sym ends_length;
                  child_rule = picked_source k x s (run_rows k x a m) (rows_inside within);
                };
          }

-- AN EMPTY RANGE HAS NO RUN
pub no_run : (k : Number) (w : ℕ) (x : Column (t_plain (fixed k))) (a : ℕ)
    → encoded k w x a 0
    ≡ record { len = 0; off = 0; valid = none; body = record { ends = record { len = 0; off = 0; valid = none; body = [] }; values = record { len = 0; off = 0; valid = none; body = [] } } }
no_run k w x a = refl

-- there are at most as many runs as rows
pub runs_few : (k : Number) (x : Column (t_plain (fixed k))) (a m : ℕ) → length (run_ends k x a m) ≤ m
runs_few k x a m = rw (ends_length k x a m) (those_few (edge k x a m) m 0)
