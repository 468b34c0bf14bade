-- THE WALK OF A LIST-VIEW COLUMN goes with the list that it is made into, row by row. Assumes nothing.
use mathlib.Core.Path.{◌≡◌, refl, sym, ap, subst, ◌∙◌}
use mathlib.Core.Bool.{Bool, true, false, cond, ◌&&◌}
use mathlib.Core.List.{List, ◌++◌, map}
use Prim.Native.Nat.{ℕ, suc, ◌+◌, ◌*◌, ◌≤◌, ◌<◌}
use native.Mathlib.Nat.{zero-add}
use native.Mathlib.Numerals.{add-one}
use native.Mathlib.Omega.{arith}
use lib.ListN.{length, get_or, replicate, length-replicate}
use lib.Dec.{ltb, eqb}
use borrow.Author.Tests.{ltb-true}
use Rattle.number.specs.Number.{encode}
use Rattle.columnar.specs.Row.{seg}
use Rattle.columnar.specs.Types.{half, Ty, t_list_view, t_list}
use Rattle.columnar.specs.Formed.{Formed}
use Rattle.columnar.specs.Array.{ok, null_count_of}
use Rattle.columnar.specs.Reading.{Column, Source}
use Rattle.schema.specs.formats.Code.{is_run_end}
use Rattle.model.specs.Try.{Try, done, stop, then}
use Rattle.model.specs.Lists.{Listings}
use Rattle.model.specs.Transform.{Grown, Destination}
use Rattle.model.proofs.Agree.{Agrees}
use Rattle.walk.specs.State.{Join, code_of, end_of, bytes_of, base_of, keeps_of, rows, add_rows, far, place, length_of, offset_of}
use Rattle.walk.specs.Log.{Out, put, next}
use Rattle.refinement.specs.walk_is_model.Memory.{Memory, put_in}
use Rattle.refinement.specs.walk_is_model.Holds.{flag, Worded, Holds}
use Rattle.refinement.specs.walk_is_model.Lent as tables
use Rattle.refinement.proofs.walk_is_model.Goes.{Goes, good, over, goes_done, goes_map, goes_guard, goes_need, goes_then, goes_quiet}
use Rattle.refinement.proofs.walk_is_model.Frame.{worded_span, held_same}
use Rattle.refinement.proofs.walk_is_model.Pairs.{agrees_done, goes_last, goes_rows}
use Rattle.refinement.proofs.walk_is_model.Places.{part_entry, rows_in_lem, put_here, put_other, small_of, width_small, half_far}
use Rattle.refinement.proofs.walk_is_model.Counters.{rows_added, rows_other, nulls_of_rows, bytes_of_rows, long_rows, grown_is}
use Rattle.refinement.specs.log_in_room.Reach.{typed}
use Rattle.refinement.proofs.log_in_room.Found.{between_wide}
use Rattle.plan.specs.parts.Parts.{nodes_of, copied}
use Rattle.refinement.specs.orders.Order.{Lent, join_of}
use Rattle.refinement.proofs.orders.Buffers.{copied_free}
use Rattle.refinement.proofs.orders.Cover.{Laid}
use Rattle.refinement.proofs.opening.Zeros.{empty, gap_of, Fresh, NoRows, no_counters, zeros_go}
use Rattle.refinement.proofs.opening.Starts.{Here, closed_here}
use Rattle.anew.specs.lists.Fresh.{fresh, FewBuffers}
use Rattle.anew.specs.lists.Listed.{behind, kid, valid_at, row_if, no_lists, listings}
use Rattle.anew.specs.lists.Listed as lists
use Rattle.anew.proofs.lists.Listed.{Fit, row_step, start_fit}
use Rattle.convert.specs.convert_lists.Exact.{Exact}
use Rattle.convert.specs.convert_lists.Listing.{end_row, copy_row, list_row, list_rows, list_walk}
use Rattle.convert.specs.convert_lists.Listing as walks
use Rattle.convert.proofs.convert_lists.OneCopies.{OneSource, one_copies}
use Rattle.convert.proofs.convert_lists.Fresh.{lists_offsets, fresh_held}
use Rattle.convert.proofs.convert_lists.Root.{ok_lent, RootBits, root_bits}

-- what the walk is given: the plan of the list, and the tables of a list-view that obeys the rules
pub record ListView (l : Lent) (w : ℕ) (t : Ty) (v : Column (t_list_view w t)) : Type 0 where
  pub worded : Worded l.plan 8 (t_list w t) 0
  pub formed : Formed (t_list_view w t)
  pub laid : Laid l.plan
  pub all_nodes_lem : nodes_of l.plan ≡ end_of l.plan 0
  pub no_gaps : get_or l.plan 867 0 ≡ 0
  pub based : (j : ℕ) → j < 32 → base_of l.plan 0 j ≡ 0
  pub lent : tables.Lent (join_of l 0) (t_list_view w t) 0 v
  pub obey : Source (t_list_view w t) v
  pub few : FewBuffers (t_list_view w t) v
  pub keeps_are : keeps_of l.plan 0 ≡ flag (ltb 0 (null_count_of v))
  pub exact : Exact l.plan t 1 (kid w t v)

-- where both are done, the model's theorem holds of what is done
goes_with : {A C : Type 0} {μ : Memory} {Q : A → List ℕ → Memory → Type 0} {t : Try A} {o : Out} {see : A → C} {P : A → Type 0} {s : Try C}
    → Goes μ Q t o → Agrees see P t s → Goes μ (λ x c ν. Q x c ν × P x) t o
goes_with (good x o e p q) a = good x o e p (q, agrees_done a x refl)
goes_with (over g o e p) a = over g o e p

-- a last step that only counts
goes_count : {A : Type 0} {μ : Memory} {Q R : A → List ℕ → Memory → Type 0} {t : Try A} {o : Out} (k : List ℕ → List ℕ) → Goes μ Q t o
    → ((x : A) (c : List ℕ) (ν : Memory) → Q x c ν → R x (k c) ν) → Goes μ R t (next o (λ c. Rattle.walk.specs.Log.done (k c)))
goes_count {μ = μ} {R = R} {t = t} {o = o} k h f =
    subst (λ z. Goes μ R z (next o (λ c. Rattle.walk.specs.Log.done (k c)))) (then_same t) (goes_then (λ x. done x) (λ c. Rattle.walk.specs.Log.done (k c)) h (λ x c ν q. goes_done x (k c) (f x c ν q)))
  where
    then_same : {A : Type 0} (t : Try A) → then t (λ x. done x) ≡ t
    then_same (done x) = refl
    then_same (stop n) = refl

module _ (l : Lent) (w : ℕ) (t : Ty) (v : Column (t_list_view w t)) (g : ListView l w t v) where
  abbrev x : Join
  x = join_of l 0

  abbrev plan : List ℕ
  plan = l.plan

  abbrev keep : Bool
  keep = ltb 0 (null_count_of v)

  abbrev bits_of : List Bool
  bits_of = seg (ok v.valid) v.off v.len

  child_source : OneSource x 7 t 1 (kid w t v)
  child_source =
      record {
        worded = g.worded.4;
        formed = g.formed.1;
        only = refl;
        based = g.based;
        lent = g.lent.body_is.2;
        obey = g.obey.slots.child_rule;
        few = g.few;
      }

  -- ---- one row: r of them are done

  pub record Going (bits : List ℕ) (r : ℕ) (d : Listings (Grown t)) (c : List ℕ) (μ : Memory) : Type 0 where
    pub fit : Fit w t v g.formed g.obey g.few d r
    pub long : length c ≡ 96
    pub no_rows : rows c 0 ≡ 0
    pub bits_are : μ.bits 0 ≡ bits
    pub offsets_are : μ.at 0 1 ≡ d.buffer1
    pub child_held : Holds plan t 1 d.child c μ

  module _ (r : ℕ) (q : r < v.len) where
    offset_is : walks.offset_at x w r ≡ lists.offset_at w t v r
    offset_is =
        rw g.lent.off_is
        (part_entry g.lent.body_is.0 w (v.off + r) (v.off + v.len) (omega arith) g.obey.slots.hold_offsets)

    size_is : walks.size_at x w r ≡ lists.size_at w t v r
    size_is =
        rw g.lent.off_is
        (part_entry g.lent.body_is.1 w (v.off + r) (v.off + v.len) (omega arith) g.obey.slots.hold_sizes)

    valid_is : ok (walks.validity x w) (offset_of x 0 + r) ≡ valid_at w t v r
    valid_is = ok_lent x v.valid g.lent.valid_is (offset_of x 0 + r) ∙ ap (λ o. ok v.valid (o + r)) g.lent.off_is

    abbrev Wrote : List ℕ → Listings (Grown t) → List ℕ → Memory → Type 0
    Wrote bits d c μ = (length c ≡ 96) × (rows c 0 ≡ 0) × (μ.bits 0 ≡ bits) × (μ.at 0 1 ≡ d.buffer1) × Holds plan t 1 d.child c μ

    -- the offset behind the row
    end_goes : (bits : List ℕ) (d : Listings (Grown t)) (y : Destination t) (c : List ℕ) (μ : Memory) → Fit w t v g.formed g.obey g.few d r → length c ≡ 96 → rows c 0 ≡ 0 → μ.bits 0 ≡ bits
        → μ.at 0 1 ≡ d.buffer1 → Holds plan t 1 y c μ → Goes μ (Wrote bits) (done (behind w d y)) (end_row x w r c)
    unfolding end_row
    end_goes bits d y c μ fit long none b o h =
        let bs = encode w (rows c 1) in
        goes_last (behind w d y) (put 0 1 (suc r * w) bs) c (sym (ap length o ∙ fit.offsets_fine.offsets_are)) (
          long,
          none,
          b,
          put_here 0 1 bs μ ∙ ap (◌++ bs) o ∙ ap (λ n. d.buffer1 ++ encode w n) h.rows_are,
          held_same plan c c μ (put_in 0 1 bs μ) 7 t 1 y g.worded.4 (λ j a e. put_other 0 1 bs μ c j (λ z. omega (arith, z))) h,
        )

    half_small : half w ≤ far
    half_small = rw (sym g.worded.3) (half_far (bytes_of plan 0) (width_small (code_of plan 0)))

    row_goes : (bits : List ℕ) (d : Listings (Grown t)) (c : List ℕ) (μ : Memory) → Going bits r d c μ → Goes μ (Wrote bits) (row_if w t v (valid_at w t v r) r d) (list_row x w r c)
    unfolding list_row copy_row
    row_goes bits d c μ h = rw valid_is (go (valid_at w t v r))
      where
        go : (b : Bool) → Goes μ (Wrote bits) (row_if w t v b r d) (cond b (copy_row x w r c) (end_row x w r c))
        go true =
            let z = lists.size_at w t v r in
            rw (size_is, offset_is, h.child_held.rows_are)
            (goes_guard (ltb (d.child.len + z) (half w)) (ltb (d.child.len + z) (half w)) 6 c (omega arith) refl
            (λ e.
            goes_then (λ y. done (behind w d y)) (λ c2. end_row x w r c2)
            (one_copies x 7 t 1 (kid w t v) child_source (lists.offset_at w t v r) z d.child c μ (g.obey.slots.entries r q).within h.fit.child_fine
            (small_of (d.child.len + z) (omega (arith, half_small, ltb-true (d.child.len + z) (half w) e))) h.long h.child_held)
            (λ y c2 ν p.
            let own = p.1.outside 0 (λ a b. omega arith) in
            end_goes bits d y c2 ν h.fit (p.1.long ∙ h.long) (own.rows_same ∙ h.no_rows) (own.bits_same ∙ h.bits_are) (own.at_same 1 ∙ h.offsets_are) p.0)))
        go false = end_goes bits d d.child c μ h.fit h.long h.no_rows h.bits_are h.offsets_are h.child_held

    step : (bits : List ℕ) (d : Listings (Grown t)) (c : List ℕ) (μ : Memory) → Going bits r d c μ
        → Goes μ (Going bits (suc r)) (row_if w t v (valid_at w t v r) r d) (list_row x w r c)
    step bits d c μ h =
        goes_map (λ d' c' ν u.
        record {
          fit = rw add-one at u.1.ends;
          long = u.0.0;
          no_rows = u.0.1;
          bits_are = u.0.2;
          offsets_are = u.0.3;
          child_held = u.0.4;
        })
        (goes_with (row_goes bits d c μ h) (row_step w t v g.formed g.obey g.few r r d (g.obey.slots.entries r q) h.fit))

  -- ---- all rows

  rows_go : (bits : List ℕ) (c : List ℕ) (μ : Memory) → Going bits 0 (no_lists w t v) c μ → Goes μ (Going bits v.len) (listings w t v) (list_rows x w (length_of x 0) c)
  unfolding list_rows
  rows_go bits c μ h =
      let s = g.obey.slots in
      rw (g.lent.len_is, g.lent.off_is)
      (goes_need _ 12 c (both_in_lem (rows_in_lem x (place x 0 3) (place x 0 4) v.body.offsets w v.off v.len g.lent.body_is.0 s.hold_offsets)
      (rows_in_lem x (place x 0 5) (place x 0 6) v.body.sizes w v.off v.len g.lent.body_is.1 s.hold_sizes))
      (rw (zero-add v.len) at
      (goes_rows 0 v.len (λ i. row_if w t v (valid_at w t v i) i) (list_row x w) (Going bits) (λ r d c' ν q i. rw (zero-add r) (step r q bits d c' ν i)) v.len 0 (no_lists w t v) c μ (omega arith) h)))
    where
      both_in_lem : {a b : Bool} → a ≡ true → b ≡ true → (a && b) ≡ true
      both_in_lem p q = rw (p, q)

  -- ---- the whole

  -- counters and memory at the end: the list's rows, bits and offsets, and the child that its copies made
  pub record Made (d : Listings (Grown t)) (c : List ℕ) (μ : Memory) : Type 0 where
    pub fit : Fit w t v g.formed g.obey g.few d v.len
    pub long : length c ≡ 96
    pub rows_are : rows c 0 ≡ v.len
    pub bits_are : keep ≡ true → μ.bits 0 ≡ map flag bits_of
    pub offsets_are : μ.at 0 1 ≡ d.buffer1
    pub child_held : Holds plan t 1 d.child c μ

  counted : (bits : List ℕ) → (keep ≡ true → bits ≡ map flag bits_of) → (d : Listings (Grown t)) (c : List ℕ) (μ : Memory) → Going bits v.len d c μ → Made d (add_rows 0 v.len c) μ
  counted bits e d c μ h =
      record {
        fit = h.fit;
        long = long_rows 0 v.len c ∙ h.long;
        rows_are = rows_added c h.long 0 (omega arith) v.len ∙ ap (λ n. Rattle.walk.specs.State.grown n v.len) h.no_rows ∙ grown_is 0 v.len (omega (arith, g.lent.sum)) ∙ zero-add v.len;
        bits_are = λ k. h.bits_are ∙ e k;
        offsets_are = h.offsets_are;
        child_held = held_same plan c (add_rows 0 v.len c) μ μ 7 t 1 d.child g.worded.4
            (λ j a b.
            record { rows_same = rows_other c 0 v.len j (λ z. omega (arith, z)); nulls_same = nulls_of_rows c 0 v.len j; bytes_same = bytes_of_rows c 0 v.len j; at_same = λ e. refl; bits_same = refl })
            h.child_held;
      }

  child_here : Here plan 1
  child_here =
      (closed_here plan g.laid).item 0 (typed 8 (t_list w t) g.worded (omega arith) (omega arith), tt) (between_wide 19 20 17 20 (code_of plan 0) (omega arith) (omega arith) g.worded.2)

  no_rows_yet : (j : ℕ) → NoRows plan (replicate 96 0) j
  no_rows_yet j = record { rows_none = no_counters 96 (3 * j); nulls_none = no_counters 96 (3 * j + 1); gap_first = no_counters 96 (3 * j + 2) ∙ sym no_gap }
    where
      no_gap : gap_of plan j ≡ 0
      no_gap = ap (λ z. cond (is_run_end (code_of plan j) && eqb z 1) 1 0) g.no_gaps ∙ go (is_run_end (code_of plan j))
        where
          go : (b : Bool) → ◌≡◌ {A = ℕ} (cond (b && false) 1 0) 0
          go true = refl
          go false = refl

  root_in : 0 < nodes_of plan
  root_in = omega (arith, g.all_nodes_lem, worded_span plan 8 (t_list w t) 0 g.worded)

  abbrev NoneYet : List ℕ → Memory → Type 0
  NoneYet c μ = (j : ℕ) → j < nodes_of plan → copied plan j ≡ true → Fresh plan c μ j

  -- no row is written, and the root has its bits
  begun : (c c2 : List ℕ) (μ μ2 : Memory) → NoneYet c μ → RootBits v keep c c2 μ μ2 → Going (μ2.bits 0) 0 (no_lists w t v) c2 μ2
  begun c c2 μ μ2 new h =
      let root = new 0 root_in (copied_free plan 0 tt) in
      record {
        fit = start_fit w t v g.formed g.obey g.few;
        long = h.long;
        no_rows = h.no_rows;
        bits_are = refl;
        offsets_are = h.bytes_same 1 ∙ root.zero_offset (lists_offsets (code_of plan 0) g.worded.2) ∙ ap (λ n. encode n 0) g.worded.3;
        child_held = held_same plan c c2 μ μ2 7 t 1 (fresh t (kid w t v)) g.worded.4 (λ j a b. h.others j (λ z. omega (arith, z)))
            (fresh_held plan c μ g.no_gaps g.laid (λ j q. new j (omega (arith, q.0.1, g.all_nodes_lem)) (copied_free plan j q.1)) 7 t 1 (kid w t v) g.worded.4 child_here g.exact);
      }

  -- THE WALK GOES WITH THE LISTS THAT THE COLUMN IS MADE INTO: both are done, or both stop by the same ground
  pub list_goes : Goes empty Made (listings w t v) (list_walk l (replicate 96 0))
  unfolding list_walk
  list_goes =
      goes_quiet _ (zeros_go l (replicate 96 0) (nodes_of plan) (λ j q. no_rows_yet j))
      (λ c μ z.
      let root = z.1 0 root_in (copied_free plan 0 tt) in
      goes_quiet _ (root_bits x (tables.LentData x (t_list_view w t) 0) v keep g.lent g.obey.mask g.keeps_are c μ (ap length z.0 ∙ length-replicate {A = ℕ} 96 0) root.no_rows root.no_nulls root.no_bits)
      (λ c2 μ2 h.
      subst (λ n. Goes μ2 Made (listings w t v) (next (list_rows x n (length_of x 0) c2) (λ c3. Rattle.walk.specs.Log.done (add_rows 0 (length_of x 0) c3)))) (sym g.worded.3)
      (goes_count (add_rows 0 (length_of x 0)) (rows_go (μ2.bits 0) c2 μ2 (begun c c2 μ μ2 z.1 h))
      (λ d c3 ν i. rw g.lent.len_is (counted (μ2.bits 0) h.bits_are d c3 ν i)))))
