-- THE STRETCH OF A ROW: the rows that are counted read as the value of the row's run. Assumes nothing.
use Rattle.std.proofs.Common.{◌≡◌, ℕ, suc, ◌+◌, ◌-◌, ◌*◌, ◌/◌, ◌^◌, ◌<◌, ◌≤◌, min, true, false, List, length, drop, sym, refl, ap, ◌∙◌, subst, le_trans, mul_comm, mul-le-mul_left, mul-one, mul-add, add-one, arith, length-drop, length-take, drop-drop, lt-ltb}
use mathlib.Core.Option.{Option, none, some}
use native.Mathlib.Nat.{mul-div_cancel_left}
use Rattle.number.specs.Number.{number, entry}
use Rattle.columnar.specs.Types.{half, Ty, t_run_end}
use Rattle.columnar.specs.Formed.{RunWidth, two, four, eight}
use Rattle.columnar.specs.Array.{Array, item, ok, sight, Mask}
use Rattle.columnar.specs.Reading.{slot_at, read, Source}
use Rattle.columnar.specs.RunEnd.{end_of, first_above, start_of}
use Rattle.columnar.proofs.FirstAbove.{first_same, first_below}
use Rattle.columnar.proofs.Items.{entry_end}
use Rattle.array_data.specs.Tables.{Tables, part, length_of, offset_of, place, valid_of, first_buffer, array_with}
use Rattle.array_data.specs.Typed.{Tree, column_of, body_of}
use Rattle.array_data.proofs.entries.Laws.{number_cut}
use Rattle.run_ends.specs.Lookup.{Rising, bisect}
use Rattle.std.specs.Prelude.{Result, Ok, Err}
use Rattle.run_ends.specs.declared.PhysicalRun.{PhysicalRun}
use Rattle.run_ends.specs.declared.RunRow.{RunRow}
use Rattle.run_ends.proofs.Laws.{bisect_first}
use Rattle.slot_reader.specs.run.Rows.{is_width, row_run}
use Rattle.aggregates.specs.declared.stretches.Ends.{Ends}
use Rattle.aggregates.specs.stretches.Ends.{ends_of}
use Rattle.aggregates.proofs.stretches.FirstAbove.{first_above_lem, stays, scanned}

width_is : (w : ℕ) → RunWidth w → is_width w ≡ true
width_is w two = refl
width_is w four = refl
width_is w eight = refl

wide : (w : ℕ) → RunWidth w → 0 < w
wide w two = omega arith
wide w four = omega arith
wide w eight = omega arith

-- ---- the run ends that are handed on

module _ (w : ℕ) (of_width : RunWidth w) (body : List ℕ) (from size : ℕ) (ends : Array (List ℕ)) (same : ends.body ≡ part body from size)
    (hold : (ends.off + ends.len) * w ≤ length ends.body)
    (positive : (k : ℕ) → k < ends.len → end_of w ends k < half w)
    (rises : (k : ℕ) → k < ends.len → start_of (end_of w ends) k < end_of w ends k) where
  abbrev at : ℕ
  at = from + w * ends.off

  abbrev handed : List ℕ
  handed = part body at (w * ends.len)

  fits : w * ends.off + w * ends.len ≤ length (part body from size)
  fits = omega (arith, hold, ap length same, mul_comm (ends.off + ends.len) w, mul-add w ends.off ends.len)

  long : length handed ≡ w * ends.len
  long = omega (arith, fits, wide w of_width, length-take (w * ends.len) (drop at body), length-drop at body, length-take size (drop from body), length-drop from body)

  many : length handed / w ≡ ends.len
  many = ap (λ k. k / w) long ∙ mul-div_cancel_left ends.len (wide w of_width)

  end_is : (k : ℕ) → k < ends.len → entry w handed 0 k ≡ end_of w ends k
  unfolding item
  end_is k l =
      let e : w * k + w ≤ w * ends.len = omega (arith, entry_end w {i = k} {n = ends.len} l, mul_comm k w, mul_comm ends.len w) in
      let p : 0 + w * k ≡ w * k = omega arith in
      let q : at + w * k ≡ from + (ends.off + k) * w = omega (arith, mul_comm (ends.off + k) w, mul-add w ends.off k) in
      let f : (ends.off + k) * w + w ≤ size = omega (arith, e, fits, length-take size (drop from body), mul_comm (ends.off + k) w, mul-add w ends.off k) in
      ap (λ n. number w (drop n handed)) p
      ∙ number_cut w (w * k) (w * ends.len) (drop at body) e
      ∙ ap (number w) (drop-drop (w * k) at body ∙ ap (λ n. drop n body) q ∙ sym (drop-drop ((ends.off + k) * w) from body))
      ∙ sym (number_cut w ((ends.off + k) * w) size (drop from body) f)
      ∙ ap (λ s. number w (drop ((ends.off + k) * w) s)) (sym same)

  rising : Rising w handed 0 ends.len
  rising =
      record {
        climbs = record {
          start = λ h. omega (arith, end_is 0 h, rises 0 h);
          rises = λ k h. subst (λ z. entry w handed 0 k < entry w handed 0 z) (sym (add-one k)) (omega (arith, end_is k (omega arith), end_is (suc k) (omega arith), rises (suc k) (omega arith)));
        };
        small = λ k h. omega (arith, end_is k h, positive k h);
      }

  abbrev run : ℕ → ℕ
  run x = first_above (end_of w ends) x 0 ends.len

  found_is : (x : ℕ) → bisect w handed 0 ends.len x ≡ run x
  found_is x =
      bisect_first w handed 0 ends.len x rising ∙ scanned (entry w handed 0) x ends.len 0
      ∙ first_same (entry w handed 0) (end_of w ends) x 0 ends.len (λ j l. let z : 0 + j ≡ j = omega arith in subst (λ q. entry w handed 0 q ≡ end_of w ends q) (sym z) (end_is j l))

  module _ (off len row : ℕ) (covers : off + len ≤ start_of (end_of w ends) ends.len) (low : off + len < 2 ^ 64) (inside : row < len) where
    abbrev left : ℕ
    left = min (end_of w ends (run (off + row))) (off + len) - (off + row)

    below : run (off + row) < ends.len
    below = first_below (end_of w ends) (off + row) ends.len (omega (arith, covers))

    above : off + row < end_of w ends (run (off + row))
    above = first_above_lem (end_of w ends) (off + row) 0 ends.len (let z : 0 + ends.len ≡ ends.len = omega arith in subst (λ q. run (off + row) < q) (sym z) below)

    looked : row_run handed off len w row ≡ Ok (record { run = record { 0 = run (off + row) }; left = left })
    looked =
        rw (lt-ltb row len inside, lt-ltb (off + len) (2 ^ 64) low, width_is w of_width, many, found_is (off + row), lt-ltb (run (off + row)) ends.len below, end_is (run (off + row)) below, lt-ltb (off + row) (end_of w ends (run (off + row))) above)

    some_left : 0 < left
    some_left = omega (arith, above)

    within : row + left ≤ len
    within = omega (arith, above)

    same_run : (j : ℕ) → j < left → run (off + (row + j)) ≡ run (off + row)
    same_run j l = stays (end_of w ends) (off + row) (off + (row + j)) 0 ends.len (omega arith) (omega (arith, above))

-- ---- a run-end column

no_mask_lem : (v : Option (List ℕ)) (n : ℕ) → Mask false v n → (i : ℕ) → ok v i ≡ true
no_mask_lem none n h i = refl
no_mask_lem (some m) n h i = absurd h

same_answer : {a b : RunRow} → ◌≡◌ {A = Result RunRow ℕ} (Ok a) (Ok b) → a ≡ b
same_answer q = cc

-- what an answer says: the rows from `row` on read as row `run` of the values
pub record Stretch (tree : Tree) (x : Tables) (w : ℕ) (u : Ty) (row run left : ℕ) : Type 0 where
  pub some_left : 0 < left
  pub within : row + left ≤ length_of x 0
  pub in_values : run < length_of x 2
  pub reads : (j : ℕ) → j < left → read (t_run_end w u) (column_of tree x (t_run_end w u) 0) (row + j) ≡ read u (column_of tree x u 2) run

module _ (tree : Tree) (x : Tables) (w : ℕ) (of_width : RunWidth w) (u : Ty) (src : Source (t_run_end w u) (column_of tree x (t_run_end w u) 0))
    (low : offset_of x 0 + length_of x 0 < 2 ^ 64) where
  abbrev ends : Array (List ℕ)
  ends = array_with x (first_buffer x 1) 1

  abbrev e : Ends
  e = ends_of x w

  -- how many bytes the run ends reach over, and where they end
  pub ends_fit : 0 < w * (offset_of x 1 + length_of x 1) → place x 1 3 + w * (offset_of x 1 + length_of x 1) ≤ length x.body
  ends_fit more =
      let rule = src.slots in
      let f = fits w of_width x.body (place x 1 3) (place x 1 4) ends refl rule.hold rule.positive rule.rises in
      omega (arith, f, mul-add w (offset_of x 1) (length_of x 1), length-take (place x 1 4) (drop (place x 1 3) x.body), length-drop (place x 1 3) x.body)

  abbrev asked : ℕ → Result RunRow ℕ
  asked row = row_run (part x.body e.start (e.stop - e.start)) e.offset e.len e.width row

  module _ (row : ℕ) (l : row < length_of x 0) where
    abbrev its_run : ℕ
    its_run = first_above (end_of w ends) (offset_of x 0 + row) 0 (length_of x 1)

    abbrev its_left : ℕ
    its_left = min (end_of w ends its_run) (offset_of x 0 + length_of x 0) - (offset_of x 0 + row)

    run_below : its_run < length_of x 1
    run_below =
        let rule = src.slots in
        below w of_width x.body (place x 1 3) (place x 1 4) ends refl rule.hold rule.positive rule.rises (offset_of x 0) (length_of x 0) row rule.covers low l

    -- the run ends lie in the body
    pub ends_held : (e.start ≤ e.stop) × (e.stop ≤ length x.body)
    ends_held =
        let rule = src.slots in
        let f = fits w of_width x.body (place x 1 3) (place x 1 4) ends refl rule.hold rule.positive rule.rises in
        let m = mul-add w (offset_of x 1) (length_of x 1) in
        let one : 1 ≤ length_of x 1 = omega (arith, run_below) in
        let some : 1 ≤ w * length_of x 1 = le_trans (wide w of_width) (omega (arith, mul-le-mul_left w one, mul-one w)) in
        (omega (arith, m), omega (arith, f, m, some, length-take (place x 1 4) (drop (place x 1 3) x.body), length-drop (place x 1 3) x.body))

    pub answered_is : asked row ≡ Ok (record { run = record { 0 = its_run }; left = its_left })
    answered_is =
        let rule = src.slots in
        let m : e.stop - e.start ≡ w * length_of x 1 = omega (arith, mul-add w (offset_of x 1) (length_of x 1)) in
        ap (λ n. row_run (part x.body e.start n) e.offset e.len e.width row) m
        ∙ looked w of_width x.body (place x 1 3) (place x 1 4) ends refl rule.hold rule.positive rule.rises (offset_of x 0) (length_of x 0) row rule.covers low l

    its_stretch : Stretch tree x w u row its_run its_left
    its_stretch =
        let rule = src.slots in
        record {
          some_left = some_left w of_width x.body (place x 1 3) (place x 1 4) ends refl rule.hold rule.positive rule.rises (offset_of x 0) (length_of x 0) row rule.covers low l;
          within = within w of_width x.body (place x 1 3) (place x 1 4) ends refl rule.hold rule.positive rule.rises (offset_of x 0) (length_of x 0) row rule.covers low l;
          in_values =
              subst (λ n. its_run < n) (sym rule.as_many) run_below;
          reads = λ j h.
              ap (λ b. sight b (slot_at (t_run_end w u) (body_of tree x (t_run_end w u) 0) (offset_of x 0 + (row + j)))) (no_mask_lem (valid_of x 0) (offset_of x 0 + length_of x 0) src.mask (offset_of x 0 + (row + j)))
              ∙ ap (λ k. read u (column_of tree x u 2) k)
              (same_run w of_width x.body (place x 1 3) (place x 1 4) ends refl rule.hold rule.positive rule.rises (offset_of x 0) (length_of x 0) row rule.covers low l j h);
        }

    -- AN ANSWERED RUN is a stretch of rows
    pub stretch_run : (k : PhysicalRun) (left : ℕ) → asked row ≡ Ok (record { run = k; left = left }) → Stretch tree x w u row k.0 left
    stretch_run k left q = go (sym answered_is ∙ q)
      where
        go : ◌≡◌ {A = Result RunRow ℕ} (Ok (record { run = record { 0 = its_run }; left = its_left })) (Ok (record { run = k; left = left })) → Stretch tree x w u row k.0 left
        go r = subst (λ (a : RunRow). Stretch tree x w u row a.run.0 a.left) (same_answer r) its_stretch

    -- .. and a row of the column is never refused
    pub stretch_some : (g : ℕ) → asked row ≡ Err g → ⊥
    stretch_some g q = let r = sym answered_is ∙ q in let z : ◌≡◌ {A = ℕ} 0 1 = cc in omega arith
