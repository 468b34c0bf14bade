-- Nulls of run ends over numbers, tried and made. Assumes nothing.
use mathlib.Core.Path.{◌≡◌, refl, sym, ap, ◌∙◌}
use mathlib.Core.Bool.{Bool, true, false, not, cond, ◌&&◌}
use mathlib.Core.List.{List, []}
use Prim.Native.Nat.{ℕ, ◌+◌, ◌*◌, ◌≤◌, ◌<◌}
use native.Mathlib.Omega.{arith}
use lib.ListN.{length, get_or, set, length-set}
use lib.Seq.{get_or-set_same, get_or-set_other}
use lib.Dec.{ltb, eqb}
use borrow.Author.Tests.{lt-ltb}
use Rattle.columnar.specs.Types.{half}
use Rattle.schema.specs.formats.Code.{is_fixed}
use Rattle.walk.specs.State.{Join, code_of, keeps_of, bytes_of, rows, nulls, gap, grown, add_rows, add_nulls, begin_gap, top}
use Rattle.walk.specs.Log.{Did, apply_if, done}
use Rattle.walk.specs.Leaves.{null_mask, count_nulls}
use Rattle.walk.specs.Copy.{is_width, masked}
use Rattle.walk.specs.Nulls.{null_data, null_walk}
use Rattle.leaf_walk.specs.Join.{join}
use Rattle.nested_rows.specs.Numbers.{null_end}
use Rattle.nested_rows.proofs.Laws.{ends_ready, end_no, end_yes}
use Rattle.nested_rows.proofs.node_data.Laws.{nulls_counted, nulls_masked}
use Rattle.extend.proofs.NullLaws.{at_data, at_done, to_runs, runs_go}
use Rattle.plan.specs.parts.Parts.{entry_size, parts_within, parts_hold}
use Rattle.sound.proofs.trying.Near.{near_same}
use Rattle.refinement.specs.orders.Order.{settled}
use Rattle.transform.specs.Answer.{lent, Answers}
use Rattle.transform.proofs.Laws.{settled_no, settled_parts, settled_made}
use Rattle.transform.proofs.leaf_nulls.Laws.{data_dry, mask_dry, mask_alike}
use Rattle.transform.proofs.leaf_rows.Entries.{fixed_size}
use Rattle.transform.proofs.numbers.Laws.{fixed_low}
use Rattle.transform.proofs.null_ways.Laws.{Runs, run_width_lem}

-- the widths of run ends
pub width_is : (w : ℕ) → is_width w ≡ true → (w ≡ 2 → ⊥) → (w ≡ 4 → ⊥) → w ≡ 8
width_is w h = (ends_ready 0 w {t = true} (sym h) refl).1

pub ends_size : (plan : List ℕ) → Runs plan → {w : ℕ} → w ≡ entry_size (code_of plan 1) → (w ≡ bytes_of plan 1) × (is_width w ≡ true)
ends_size plan r e =
    let q = e ∙ fixed_size (code_of plan 1) r.ends.fixed in
    (q, ap is_width q ∙ run_width_lem (code_of plan 1) r.ends.fixed r.wide)

-- where each order of nulls adds a run, it goes on to do so
pub gap_begun : (c : List ℕ) → gap c 0 ≡ 0 → {d : List ℕ} → d ≡ set c 3 (grown (get_or c 3 0) 1) → set d 2 0 ≡ begin_gap 0 (add_rows 1 1 c)
gap_begun c g e =
    ap (λ l. set l 2 0) e
    ∙ ap (λ (v : ℕ). set (add_rows 1 1 c) 2 (cond (eqb v 0) 0 2)) (sym (get_or-set_other c 3 2 (grown (rows c 1) 1) 0 (λ (q : 2 ≡ 3). omega arith) ∙ g))

module _ (plan parts : List ℕ) where
  abbrev x : Join
  x = join plan parts [] [] [] 0 0

  -- ---- one null value

  module _ (wr : Bool) (c room : List ℕ) (f : is_fixed (code_of plan 2) ≡ true) where
    masks : masked (code_of plan 2) ≡ true
    masks = lt-ltb (code_of plan 2) 21 (omega (arith, (fixed_low (code_of plan 2) f).1))

    pub value_did : {room1 c2 room2 c3 : List ℕ} → Did plan parts wr (null_data x (null_walk x 6) (code_of plan 2) 2 1 c) room 0 c room1
        → Did plan parts wr (null_mask x 2 1 c) room1 0 c2 room2 → c3 ≡ add_rows 2 1 c2 → Did plan parts wr (null_walk x 7 2 1 c) room 0 c3 room2
    value_did {room1} d m k =
        at_done x wr 7 2 1 c room (λ q. omega arith) (λ q. omega arith) (omega arith) d refl (nulls_masked x wr 2 1 c room1 refl refl (ap not masks) m) refl k

  -- ---- the order, as the code goes

  module _ (wr : Bool) (n : ℕ) (c room : List ℕ) (some : n ≡ 0 → ⊥) (g : gap c 0 ≡ 0) (r : Runs plan) {c1 room1 : List ℕ} (d : Did plan parts wr (null_walk x 7 2 1 c) room 0 c1 room1) where
    wide : true ≡ (ltb 2 32 && is_width (bytes_of plan 1))
    wide = sym (run_width_lem (code_of plan 1) r.ends.fixed r.wide)

    one_run : (v : ℕ) → v ≡ 0 → v ≡ 2 → ⊥
    one_run v e q = omega (arith, e, q)

    pub run_over : Did plan parts wr (null_end plan 0 n c1) room1 7 c1 room1 → Did plan parts wr (null_walk x 8 0 n c) room 7 c1 room1
    run_over e =
        at_data x wr 8 0 n c room (λ q. omega arith) some (omega arith)
        (to_runs x (null_walk x 7) wr 0 n c room refl r.code (runs_go x (null_walk x 7) wr 0 n c room wide refl refl (one_run (gap c 0) g) refl d refl e)) (λ q. omega arith)

    pub run_did : {c2 room2 c3 c4 : List ℕ} → Did plan parts wr (null_end plan 0 n c1) room1 0 c2 room2 → Did plan parts wr (count_nulls x 0 n c2) room2 0 c3 room2 → c4 ≡ add_rows 0 n c3
        → Did plan parts wr (null_walk x 8 0 n c) room 0 c4 room2
    run_did {c2} {room2} e m k =
        at_done x wr 8 0 n c room (λ q. omega arith) some (omega arith)
        (to_runs x (null_walk x 7) wr 0 n c room refl r.code (runs_go x (null_walk x 7) wr 0 n c room wide refl refl (one_run (gap c 0) g) refl d refl e)) refl
        (nulls_counted x wr 0 n c2 room2 refl refl unmasked m) refl k
      where
        unmasked : not (masked (code_of plan 0)) ≡ true
        unmasked = rw r.code

  -- ---- the order, tried

  module _ (n : ℕ) (c room : List ℕ) (some : n ≡ 0 → ⊥) (g : gap c 0 ≡ 0) (r : Runs plan) (l : length c ≡ 96) (z : length room < top) where
    abbrev valued : List ℕ
    valued = add_rows 2 1 (null_mask x 2 1 c).counters

    abbrev ended : List ℕ
    ended = begin_gap 0 (add_rows 1 1 valued)

    abbrev counted : List ℕ
    counted = (count_nulls x 0 n ended).counters

    abbrev tried : List ℕ
    tried = add_rows 0 n counted

    low : (1 ≤ code_of plan 2) × (code_of plan 2 < 17)
    low = let f = fixed_low (code_of plan 2) r.values.fixed in (f.0, omega (arith, f.1))

    value_dry : Did plan parts false (null_walk x 7 2 1 c) room 0 valued room
    value_dry = value_did false c room r.values.fixed (data_dry x (null_walk x 6) 2 1 c room low.0 low.1) (mask_dry x 2 1 c room) refl

    count_dry : Did plan parts false (count_nulls x 0 n ended) room 0 counted room
    unfolding count_nulls done apply_if
    count_dry = record { answer = go (eqb (keeps_of plan 0) 0); counters = refl; bytes = refl }
      where
        go : (t : Bool) → 0 ≡ (cond t (done ended) (done (add_nulls 0 n ended))).ans
        go true = refl
        go false = refl

    -- the value leaves the rows of the other nodes
    valued_rows : (j : ℕ) → (j ≡ 2 → ⊥) → rows valued j ≡ rows c j
    valued_rows j f =
        get_or-set_other (null_mask x 2 1 c).counters 6 (3 * j) (grown (rows (null_mask x 2 1 c).counters 2) 1) 0 (λ q. f (omega (arith, q)))
        ∙ (mask_alike x 2 1 c).rows_same j

    valued_long : length valued ≡ 96
    valued_long = length-set (null_mask x 2 1 c).counters 6 (grown (rows (null_mask x 2 1 c).counters 2) 1) ∙ (mask_alike x 2 1 c).size ∙ l

    -- what the value leaves
    pub value_left : {c1 room1 : List ℕ} → Did plan parts true (null_walk x 7 2 1 c) room 0 c1 room1 → (length c1 ≡ 96) × (gap c1 0 ≡ 0) × (rows c1 0 ≡ rows c 0)
    value_left {c1} d =
        let e : c1 ≡ valued = d.counters ∙ sym value_dry.counters in
        let h : gap valued 0 ≡ gap c 0 =
        get_or-set_other (null_mask x 2 1 c).counters 6 2 (grown (rows (null_mask x 2 1 c).counters 2) 1) 0 (λ (q : 2 ≡ 6). omega arith)
        ∙ (mask_alike x 2 1 c).bytes_same 0 in
        (ap length e ∙ valued_long, ap (λ y. gap y 0) e ∙ h ∙ g, ap (λ y. rows y 0) e ∙ valued_rows 0 (λ q. omega arith))

    -- and counting nulls leaves all rows
    counted_rows : (j : ℕ) → rows counted j ≡ rows ended j
    unfolding count_nulls done
    counted_rows j = go (eqb (keeps_of plan 0) 0)
      where
        go : (t : Bool) → rows (cond t (done ended) (done (add_nulls 0 n ended))).counters j ≡ rows ended j
        go true = refl
        go false = get_or-set_other ended 1 (3 * j) (grown (nulls ended 0) n) 0 (λ (q : 3 * j ≡ 1). omega arith)

    ended_rows : (j : ℕ) → rows ended j ≡ rows (add_rows 1 1 valued) j
    ended_rows j = get_or-set_other (add_rows 1 1 valued) 2 (3 * j) (cond (eqb (gap (add_rows 1 1 valued) 0) 0) 0 2) 0 (λ (q : 3 * j ≡ 2). omega arith)

    tried_rows : (j : ℕ) → (j ≡ 0 → ⊥) → rows tried j ≡ rows (add_rows 1 1 valued) j
    tried_rows j f = get_or-set_other counted 0 (3 * j) (grown (rows counted 0) n) 0 (λ q. f (omega (arith, q))) ∙ counted_rows j ∙ ended_rows j

    module _ {w : ℕ} (k : w ≡ bytes_of plan 1) where
      -- the sum is that of the rows before
      last_rows_lem : rows c 0 ≡ rows valued 0
      last_rows_lem = sym (valued_rows 0 (λ q. omega arith))

      module _ (sources lengths places body : List ℕ) where
        abbrev Settled : ℕ → List ℕ → List ℕ → Type 0
        Settled g c2 room2 = Answers (settled (lent plan parts sources lengths places body) c room (null_walk x 8 0 n c)) g c2 room2

        pub run_stopped : {t : Bool} {p : ℕ} → p ≡ rows c 0 → t ≡ ltb (p + n) (half w) → not t ≡ true → Settled 7 c room
        run_stopped e h q =
            settled_no (lent plan parts sources lengths places body) c room (λ d. null_walk x 8 0 n d) (near_same refl)
            (run_over false n c room some g r value_dry (end_no plan parts false 0 valued room n refl k (e ∙ last_rows_lem) h q)) (λ y. omega arith)

        module _ {t : Bool} {p : ℕ} (e : p ≡ rows c 0) (h : t ≡ ltb (p + n) (half w)) (q : not t ≡ false) where
          end_dry : Did plan parts false (null_end plan 0 n valued) room 0 ended room
          unfolding apply_if
          end_dry = end_yes plan parts false 0 valued room n refl k (e ∙ last_rows_lem) h q refl refl z refl refl

          dry : Did plan parts false (null_walk x 8 0 n c) room 0 tried room
          dry = run_did false n c room some g r value_dry end_dry count_dry refl

          module _ {v u ends values a : ℕ} (fv : v ≡ rows c 1) (gv : ends ≡ grown v 1) (fu : u ≡ rows c 2) (gu : values ≡ grown u 1)
              (ask : (counters : List ℕ) → rows counters 1 ≡ ends → rows counters 2 ≡ values → a ≡ cond (parts_within plan parts (length room)) (cond (parts_hold plan counters parts) 0 13) 14) where
            ends_are : rows tried 1 ≡ ends
            ends_are =
                tried_rows 1 (λ y. omega arith)
                ∙ get_or-set_same valued 3 (grown (rows valued 1) 1) 0 (omega (arith, valued_long))
                ∙ ap (λ (y : ℕ). grown y 1) (valued_rows 1 (λ y. omega arith) ∙ sym fv)
                ∙ sym gv

            values_are : rows tried 2 ≡ values
            values_are =
                tried_rows 2 (λ y. omega arith)
                ∙ get_or-set_other valued 3 6 (grown (rows valued 1) 1) 0 (λ (y : 6 ≡ 3). omega arith)
                ∙ get_or-set_same (null_mask x 2 1 c).counters 6 (grown (rows (null_mask x 2 1 c).counters 2) 1) 0 (omega (arith, (mask_alike x 2 1 c).size, l))
                ∙ ap (λ (y : ℕ). grown y 1) ((mask_alike x 2 1 c).rows_same 2 ∙ sym fu)
                ∙ sym gu

            asked : a ≡ cond (parts_within plan parts (length room)) (cond (parts_hold plan tried parts) 0 13) 14
            asked = ask tried ends_are values_are

            pub run_refused : (a ≡ 0 → ⊥) → Settled a c room
            run_refused y = settled_parts (lent plan parts sources lengths places body) c room (λ d. null_walk x 8 0 n d) (near_same refl) dry refl asked y

            pub run_made : {c1 room1 c2 room2 c3 c4 : List ℕ} → a ≡ 0 → Did plan parts true (null_walk x 7 2 1 c) room 0 c1 room1 → Did plan parts true (null_end plan 0 n c1) room1 0 c2 room2
                → Did plan parts true (count_nulls x 0 n c2) room2 0 c3 room2 → c4 ≡ add_rows 0 n c3 → Settled 0 c4 room2
            run_made y d1 d2 d3 s =
                settled_made (lent plan parts sources lengths places body) c room (λ d. null_walk x 8 0 n d) (near_same refl) dry refl asked y refl
                (run_did true n c room some g r d1 d2 d3 s) refl
