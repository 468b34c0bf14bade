-- The run that the run reader answers for a row is the one that the Columnar Format reads, and the rows that it counts are those that fall in it.
-- Assumes nothing.
use mathlib.Core.Path.{◌≡◌, refl, ap, sym, subst, ◌∙◌}
use mathlib.Core.Bool.{Bool, true, false, cond}
use mathlib.Core.List.{List}
use Prim.Native.Nat.{ℕ, zero, suc, ◌+◌, ◌*◌, ◌-◌, ◌/◌, ◌^◌, ◌≤◌, ◌<◌}
use native.Mathlib.Nat.{zero-add, mul_comm}
use native.Mathlib.Numerals.{add-one}
use native.Mathlib.Omega.{arith}
use lib.ListN.{length, drop}
use lib.Dec.{ltb}
use borrow.Author.Tests.{le-leb, lt-ltb}
use Rattle.number.specs.Number.{number, entry}
use Rattle.columnar.specs.Types.{half}
use Rattle.columnar.specs.Formed.{RunWidth, two, four, eight}
use Rattle.columnar.specs.Array.{Array, item}
use Rattle.columnar.specs.RunEnd.{end_of, first_above, start_of}
use Rattle.columnar.proofs.FirstAbove.{first_same, first_below}
use Rattle.columnar.proofs.Items.{item_cut, length_cut}
use Rattle.run_ends.specs.Lookup as lookup
use Rattle.run_ends.specs.Lookup.{scan, left_of, Climbs, Covers, Rising}
use Rattle.run_ends.proofs.Left.{Left}
use Rattle.std.specs.Prelude.{Ok}
use Rattle.slot_reader.specs.run.Rows.{is_width, row_run}
use Rattle.slot_reader.proofs.run.Laws.{row_left}
use Rattle.row_reader.specs.Walk.{ends_in, run_in, ran}
use Rattle.row_reader.specs.declared.Step.TheVariants as step
use Rattle.row_reader.specs.meaning.RunRows.{FallIn}

scanned : (e : ℕ → ℕ) (x n i : ℕ) → scan e x n i ≡ first_above e x i n
unfolding scan
scanned e x zero i = refl
scanned e x (suc n) i = go (ltb x (e i)) (scanned e x n (suc i))
  where
    go : (b : Bool) → scan e x n (suc i) ≡ first_above e x (suc i) n → cond b i (scan e x n (suc i)) ≡ elim b [ true ↦ i | false ↦ first_above e x (suc i) n ]
    go true p = refl
    go false p = p

width_is : (w : ℕ) → RunWidth w → is_width w ≡ true
width_is w two = refl
width_is w four = refl
width_is w eight = refl

whole : (w n : ℕ) → RunWidth w → n * w / w ≡ n
whole w n two = omega arith
whole w n four = omega arith
whole w n eight = omega arith

-- n run ends that reach over m rows, of which there are some
reach : (e : ℕ → ℕ) (n m : ℕ) → 0 < m → m ≤ start_of e n → (0 < n) × (m ≤ e (n - 1))
reach e zero m h g = absurd (omega arith)
reach e (suc n) m h g = let z : suc n - 1 ≡ n = omega arith in (omega arith, rw z g)

first_entry_lem : (w : ℕ) (s : List ℕ) (k : ℕ) → entry w s 0 k ≡ item w s k
unfolding item
first_entry_lem w s k = ap (λ (n : ℕ). number w (drop n s)) (zero-add (w * k) ∙ mul_comm w k)

module _ (w : ℕ) (d : RunWidth w) (s : List ℕ) (ends : Array (List ℕ)) (same : ends.body ≡ s) where
  -- the bytes of the run ends
  abbrev bytes : List ℕ
  bytes = ends_in w s ends.off ends.len

  abbrev count : ℕ
  count = length bytes / w

  module _ (hold : (ends.off + ends.len) * w ≤ length ends.body)
      (positive : (k : ℕ) → k < ends.len → end_of w ends k < half w)
      (rises : (k : ℕ) → k < ends.len → start_of (end_of w ends) k < end_of w ends k)
      (offset rows : ℕ) (sum : offset + rows < 2 ^ 64) (covers : offset + rows ≤ start_of (end_of w ends) ends.len)
      (r : ℕ) (q : r < rows) where
    fits : (ends.off + ends.len) * w ≤ length s
    fits = subst (λ t. (ends.off + ends.len) * w ≤ length t) same hold

    many : count ≡ ends.len
    many = ap (λ (n : ℕ). n / w) (length_cut w ends.off ends.len s fits) ∙ whole w ends.len d

    end_is : (k : ℕ) → k < ends.len → entry w bytes 0 k ≡ end_of w ends k
    end_is k l = first_entry_lem w bytes k ∙ item_cut w ends.off ends.len s k l ∙ ap (λ t. item w t (ends.off + k)) (sym same)

    rising : Rising w bytes 0 ends.len
    rising =
        record {
          climbs = record {
            start = λ h. omega (arith, end_is 0 h, rises 0 h);
            rises = λ k h. subst (λ z. entry w bytes 0 k < entry w bytes 0 z) (sym (add-one k)) (omega (arith, end_is k (omega arith), end_is (suc k) (omega arith), rises (suc k) (omega arith)));
          };
          small = λ k h. omega (arith, end_is k h, positive k h);
        }

    covering : Covers (entry w bytes 0) ends.len (offset + rows)
    covering =
        let g = reach (end_of w ends) ends.len (offset + rows) (omega arith) covers in
        record { runs = g.0; last = omega (arith, g.1, end_is (ends.len - 1) (omega (arith, g.0))) }

    -- the format's run of a row
    abbrev run_of_lem : ℕ → ℕ
    run_of_lem x = first_above (end_of w ends) x 0 ends.len

    abbrev run : ℕ
    run = run_of_lem (offset + r)

    run_is : (x : ℕ) → lookup.first_above w bytes 0 count x ≡ run_of_lem x
    run_is x =
        ap (λ (n : ℕ). lookup.first_above w bytes 0 n x) many ∙ scanned (entry w bytes 0) x ends.len 0
        ∙ first_same (entry w bytes 0) (end_of w ends) x 0 ends.len (λ j l. let z : 0 + j ≡ j = omega arith in subst (λ y. entry w bytes 0 y ≡ end_of w ends y) (sym z) (end_is j l))

    pub ran_below : run < ends.len
    ran_below = first_below (end_of w ends) (offset + r) ends.len (omega (arith, covers))

    abbrev left : ℕ
    left = left_of (end_of w ends run) (offset + rows) (offset + r)

    found : (row_run bytes offset rows w r
        ≡ Ok (record { run = record { 0 = lookup.first_above w bytes 0 count (offset + r) }; left = left_of (entry w bytes 0 (lookup.first_above w bytes 0 count (offset + r))) (offset + rows) (offset + r) }))
        × Left (entry w bytes 0) count (offset + rows) (offset + r) (lookup.first_above w bytes 0 count (offset + r))
        (left_of (entry w bytes 0 (lookup.first_above w bytes 0 count (offset + r))) (offset + rows) (offset + r))
    found =
        row_left bytes offset rows w r (width_is w d) (subst (λ (n : ℕ). Rising w bytes 0 n) (sym many) rising)
        (subst (λ (n : ℕ). Covers (entry w bytes 0) n (offset + rows)) (sym many) covering) sum q

    end_of_lem : entry w bytes 0 (lookup.first_above w bytes 0 count (offset + r)) ≡ end_of w ends run
    end_of_lem = ap (entry w bytes 0) (run_is (offset + r)) ∙ end_is run ran_below

    left_of_lem : left_of (entry w bytes 0 (lookup.first_above w bytes 0 count (offset + r))) (offset + rows) (offset + r) ≡ left
    left_of_lem = ap (λ (y : ℕ). left_of y (offset + rows) (offset + r)) end_of_lem

    -- the run reader's answer
    pub answers : row_run bytes offset rows w r ≡ Ok (record { run = record { 0 = run }; left = left })
    answers =
        found.0 ∙ ap (λ (k : ℕ). Ok (record { run = record { 0 = k }; left = left_of (entry w bytes 0 (lookup.first_above w bytes 0 count (offset + r))) (offset + rows) (offset + r) })) (run_is (offset + r))
        ∙ ap (λ (m : ℕ). Ok (record { run = record { 0 = run }; left = m })) left_of_lem

    -- exactly the rows of the column that still fall in the run
    pub falls : FallIn (end_of w ends) ends.len offset rows r run left
    falls =
        let f : Left (entry w bytes 0) count (offset + rows) (offset + r) (lookup.first_above w bytes 0 count (offset + r)) left
        = subst (λ (m : ℕ). Left (entry w bytes 0) count (offset + rows) (offset + r) (lookup.first_above w bytes 0 count (offset + r)) m) left_of_lem found.1 in
        record {
          some = f.some;
          within = omega (arith, f.within);
          inside = λ i l. sym (run_is (offset + r + i)) ∙ f.inside i l ∙ run_is (offset + r);
          next = λ l. sym (run_is (offset + r + left)) ∙ f.next (omega arith) ∙ ap (λ (k : ℕ). k + 1) (run_is (offset + r));
        }

    module _ (small : ends.off + ends.len < 2 ^ 64) where
      pub read_is : run_in w s ends.off ends.len offset rows r ≡ Ok (record { run = record { 0 = run }; left = left })
      unfolding run_in
      read_is = rw (lt-ltb (ends.off + ends.len) (2 ^ 64) small, le-leb ((ends.off + ends.len) * w) (length s) fits) answers

      -- on to the run's value
      pub ran_is : (i : ℕ) → ran i (run_in w s ends.off ends.len offset rows r) ≡ step.Go (suc (suc i)) run
      ran_is i = ap (ran i) read_is
