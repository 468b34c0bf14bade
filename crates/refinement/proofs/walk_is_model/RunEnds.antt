-- Run-end nodes: a copy of runs, and nulls. Assumes nothing.
use mathlib.Core.Path.{◌≡◌, refl, sym, ap, ap₂, ◌∙◌}
use mathlib.Core.Bool.{and-true, cond}
use mathlib.Core.List.{List, ◌++◌}
use Prim.Native.Nat.{ℕ, zero, suc, ◌+◌, ◌-◌, ◌*◌, ◌≤◌, ◌<◌, min}
use native.Mathlib.Nat.{mul-add, suc-mul}
use native.Mathlib.Omega.{arith}
use lib.ListN.{length, take, drop}
use lib.Dec.{ltb, leb, eqb}
use borrow.Author.Tests.{ltb-true, lt-ltb, le-leb, eqb-true, ne_eqb}
use Rattle.number.specs.Number.{number, entry, encode}
use Rattle.columnar.specs.Types.{half, Ty, t_run_end}
use Rattle.number.proofs.Laws.{length_encode}
use Rattle.columnar.specs.Array.{item, read_with}
use Rattle.columnar.specs.RunEnd.{RunEnd, start_of}
use Rattle.columnar.specs.Reading.{Column, masks, slot_at}
use Rattle.std.specs.Prelude.{Some}
use Rattle.model.specs.Try.{done, then, guard}
use Rattle.model.specs.Mutable.{freeze_node, nulls_node}
use Rattle.model.specs.Ordered.{null_row}
use Rattle.model.specs.Grounds.{first_run, run_count}
use Rattle.model.specs.Runs.{Runs, last_end, more_ends, over_end}
use Rattle.model.specs.Transform.{Grown, Destination, extend_data, freeze_data}
use Rattle.model.proofs.Law.{FineNode, KeepNode}
use Rattle.model.proofs.Nodes.{RunsFine, FineOf, KeepOf}
use Rattle.model.proofs.Ends.{clip, clip_ends, in_order_lem, last_run}
use Rattle.walk.specs.State.{Join, far, code_of, bytes_of, end_of, rows, bytes, gap, add_rows, set_bytes, end_gap, begin_gap, top, place, length_of, offset_of, rows_in}
use Rattle.walk.specs.Log.{put, amend, wrote, need, next}
use Rattle.walk.specs.Copy.{Walk, copy_data, copy_runs, put_runs, runs_at}
use Rattle.walk.specs.Nulls.{NullWalk, null_data, add_run, grow_run, null_runs}
use Rattle.refinement.specs.walk_is_model.Memory.{Memory, put_in, amend_in}
use Rattle.refinement.specs.walk_is_model.Holds.{Worded, HoldsData, Holds}
use Rattle.refinement.proofs.walk_is_model.Goes.{Goes, goes_done, goes_guard, goes_cond, goes_need, goes_wrote, goes_then}
use Rattle.refinement.proofs.walk_is_model.Frame.{SameAt, same_then, Kept, worded_span, held_same}
use Rattle.refinement.proofs.walk_is_model.Counters.{grown_is, rows_added, rows_other, nulls_of_rows, bytes_of_rows, bytes_set, bytes_other, rows_of_bytes, nulls_of_bytes, long_rows, long_bytes}
use Rattle.refinement.proofs.walk_is_model.Owed.{DataKept, Given, Copies, CopiesData, Fills, FillsData}
use Rattle.refinement.proofs.walk_is_model.Kids.{worded_small}
use Rattle.refinement.proofs.walk_is_model.Places.{data_kept_refl, part_entry, rows_in_lem, put_here, put_other, amend_here, amend_other, small_of, width_small, half_far}
use Rattle.refinement.proofs.walk_is_model.Writes.{goes_write}
use Rattle.refinement.proofs.walk_is_model.RunLookups.{many_rows, runs_are, clipped_is}
use Rattle.model.proofs.Names.{clipped, nulls_data}

-- entries a on
entry_from : (w : ℕ) (s : List ℕ) (from a k : ℕ) → entry w s (from + w * a) k ≡ entry w s from (a + k)
entry_from w s from a k = ap (λ z. number w (drop z s)) (let e : w * (a + k) ≡ w * a + w * k = mul-add w a k in let z : from + w * a + w * k ≡ from + w * (a + k) = omega arith in z)

-- ---- `count` ends written behind those of node i + 1, where the values are done; y: the gap from then on

module _ (plan : List ℕ) (k w : ℕ) (t : Ty) (i : ℕ) (wd : Worded plan (suc k) (t_run_end w t) i) (c c2 : List ℕ) (μ ν : Memory)
    (p : Kept (suc (suc i)) (end_of plan (suc (suc i))) c c2 μ ν) (new : List ℕ) (count y : ℕ) where
  abbrev Added : List ℕ
  Added = add_rows (suc i) count c2

  abbrev Counted : List ℕ
  Counted = set_bytes i y Added

  abbrev Behind : Memory
  Behind = put_in (suc i) 1 new ν

  ends_other : (j : ℕ) → (j ≡ suc i → ⊥) → (j ≡ i → ⊥) → SameAt c2 Counted ν Behind j
  ends_other j h g =
      let s = put_other (suc i) 1 new ν c2 j h in
      record {
        rows_same = rows_of_bytes Added i y j ∙ rows_other c2 (suc i) count j h;
        nulls_same = nulls_of_bytes Added i y j ∙ nulls_of_rows c2 (suc i) count j;
        bytes_same = bytes_other Added i y j g ∙ bytes_of_rows c2 (suc i) count j;
        at_same = s.at_same;
        bits_same = s.bits_same;
      }

  ends_kept : DataKept i (end_of plan i) c Counted μ Behind
  ends_kept =
      let own = p.outside i (λ a b. omega arith) in
      let e : end_of plan i ≡ end_of plan (suc (suc i)) = wd.1 in
      let z = worded_span plan k t (suc (suc i)) wd.4 in
      record {
        long = long_bytes i y Added ∙ long_rows (suc i) count c2 ∙ p.long;
        rows_own = rows_of_bytes Added i y i ∙ rows_other c2 (suc i) count i (λ z. omega (arith, z)) ∙ own.rows_same;
        nulls_own = nulls_of_bytes Added i y i ∙ nulls_of_rows c2 (suc i) count i ∙ own.nulls_same;
        bits_own = own.bits_same;
        outside = λ j h.
            same_then (p.outside j (λ a b. h (omega arith) (omega arith)))
            (ends_other j (λ y. h (omega (arith, y)) (omega (arith, y))) (λ y. h (omega (arith, y)) (omega (arith, y))));
      }

  -- the gap before
  gap_was : bytes Added i ≡ bytes c i
  gap_was = bytes_of_rows c2 (suc i) count i ∙ (p.outside i (λ a b. omega arith)).bytes_same

  -- the ends as they were before
  ends_rows_lem : rows c2 (suc i) ≡ rows c (suc i)
  ends_rows_lem = (p.outside (suc i) (λ a b. omega arith)).rows_same

  ends_at : ν.at (suc i) 1 ≡ μ.at (suc i) 1
  ends_at = (p.outside (suc i) (λ a b. omega arith)).at_same 1

  ends_held : (d : Runs (Grown t)) (v : Destination t) (z : ℕ) → y ≡ z → length c ≡ 96 → rows c (suc i) ≡ d.ends.len → μ.at (suc i) 1 ≡ d.ends.«data» → d.ends.len + count ≤ top
      → Holds plan t (suc (suc i)) v c2 ν → HoldsData plan (t_run_end w t) i (record { ends = more_ends new count d.ends; values = v; gap = z }) Counted Behind
  ends_held d v z f long r b fits h =
      let small : suc (suc i) < 32 = worded_small plan k t (suc (suc i)) wd.4 in
      let q : rows c2 (suc i) ≡ d.ends.len = ends_rows_lem ∙ r in (
        rows_of_bytes Added i y (suc i) ∙ rows_added c2 (p.long ∙ long) (suc i) (omega arith) count ∙ grown_is (rows c2 (suc i)) count (omega arith) ∙ ap (◌+ count) q,
        put_here (suc i) 1 new ν ∙ ap (◌++ new) (ends_at ∙ b),
        held_same plan c2 Counted ν Behind k t (suc (suc i)) v wd.4 (λ j a b. ends_other j (λ y. omega (arith, y)) (λ y. omega (arith, y))) h,
        bytes_set Added (long_rows (suc i) count c2 ∙ p.long ∙ long) i (omega arith) y ∙ f,
      )

module _ (x : Join) (k w : ℕ) (t : Ty) (i m : ℕ) (ss : ℕ → Column (t_run_end w t)) (g : Given x (suc k) (t_run_end w t) i m ss) where
  abbrev Src : Column (t_run_end w t)
  Src = ss x.source

  abbrev kids : ℕ → Column t
  kids j = (ss j).body.values

  abbrev FineRuns : Runs (Grown t) → ℕ → Type 0
  FineRuns =
      RunsFine w (FineNode (masks t) (FineOf t m (λ j. (kids j).body)) m kids)
      (λ v. read_with (slot_at t) (freeze_node (masks t) (freeze_data t m (λ j. (kids j).body)) v)) (null_row t)

  below : suc (suc i) < 32
  below = worded_small x.plan k t (suc (suc i)) g.worded.4

  half_small : half w ≤ far
  half_small = rw (sym g.worded.3) (half_far (bytes_of x.plan (suc i)) (width_small (code_of x.plan (suc i))))

  -- the walk of a run-end node's code
  copy_code : (inner : Walk) (code slot n : ℕ) (c : List ℕ) → code ≡ 23 → copy_data x inner code i slot n c ≡ copy_runs x inner i slot n c
  unfolding copy_data
  copy_code inner code slot n c e = rw e

  none_is : (inner : Walk) (slot : ℕ) (c : List ℕ) → copy_runs x inner i slot 0 c ≡ Rattle.walk.specs.Log.done c
  unfolding copy_runs
  none_is inner slot c = refl

  some_is : (inner : Walk) (slot n : ℕ) (c : List ℕ)
      → copy_runs x inner i slot (suc n) c
      ≡ need (ltb (suc (suc i)) 32) 12 c
      (need (ltb (rows c i + suc n) (half w)) 7 c
      (need (rows_in x (place x (suc i) 3) w (offset_of x (suc i)) (length_of x (suc i))) 12 c (put_runs x inner w i slot (suc n) (runs_at x inner w i slot (suc n)) c)))
  unfolding copy_runs
  some_is inner slot n c = rw (ne_eqb (suc n) 0 (λ e. omega (arith, e)), g.worded.3, g.worded.5, and-true (ltb (suc (suc i)) 32))

  null_code : (inner : NullWalk) (code n : ℕ) (c : List ℕ) → code ≡ 23 → null_data x inner code i n c ≡ null_runs x inner i n c
  unfolding null_data
  null_code inner code n c e = rw e

  null_is : (inner : NullWalk) (n : ℕ) (c : List ℕ)
      → null_runs x inner i n c
      ≡ need (ltb (suc (suc i)) 32) 12 c
      (cond (eqb (gap c i) 2) (grow_run x inner w i n c) (add_run x inner w i n c))
  unfolding null_runs
  null_is inner n c = rw (g.worded.3, g.worded.5, and-true (ltb (suc (suc i)) 32))

  -- no more ends than rows
  few_ends : (d : Runs (Grown t)) (l : ℕ) → FineRuns d l → d.ends.len ≤ l
  few_ends d l h = omega (arith, h.covers, many_rows (item w d.ends.«data») d.ends.len h.rises)

  -- ---- the source's runs

  abbrev ends : ℕ → ℕ
  ends = Rattle.columnar.specs.RunEnd.end_of w Src.body.ends

  abbrev many : ℕ
  many = Src.body.ends.len

  rises : (r : ℕ) → r < many → start_of ends r < ends r
  rises = (g.obey x.source g.known).slots.rises

  -- where the ends start in the body
  abbrev From : ℕ
  From = place x (suc i) 3 + w * offset_of x (suc i)

  end_is : (j : ℕ) → j < many → entry w x.body From j ≡ ends j
  end_is j q =
      let lent = g.lent.body_is.0 in
      rw lent.off_is
      (entry_from w x.body (place x (suc i) 3) Src.body.ends.off j
      ∙ part_entry lent.body_is w (Src.body.ends.off + j) (Src.body.ends.off + many) (omega arith) (g.obey x.source g.known).slots.hold)

  module _ (slot n : ℕ) (high : slot + suc n ≤ Src.off + Src.len) where
    abbrev first : ℕ
    first = first_run w Src.body slot

    abbrev count : ℕ
    count = run_count w Src.body slot (suc n)

    some : 0 < suc n
    some = omega arith

    within : slot + suc n ≤ start_of ends many
    within = omega (arith, (g.obey x.source g.known).slots.covers)

    runs_found : (inner : Walk) → runs_at x inner w i slot (suc n) ≡ Some (record { first = record { 0 = first }; count = count })
    runs_found inner = rw g.lent.body_is.0.len_is (runs_are w x.body From many ends slot (suc n) end_is rises some within)

    in_values : first + count ≤ (kids x.source).len
    in_values =
        rw (g.obey x.source g.known).slots.as_many
        (omega (arith, in_order_lem ends many slot (suc n) rises some within, last_run ends many slot (suc n) rises some within))

    few_runs : count ≤ suc n
    few_runs =
        let e = clip_ends ends many slot (suc n) rises some within in
        omega (arith, e.covers, many_rows (clip ends many slot (suc n)) count e.rises)

    ends_are : (last : ℕ) → Rattle.run_ends.specs.Clip.clipped w x.body (From + w * first) count slot (slot + suc n) last ≡ clipped w ends slot (slot + suc n) last first count
    ends_are last =
        clipped_is w ends slot (slot + suc n) last x.body (From + w * first) first count
        (λ j q. entry_from w x.body From first j
        ∙ end_is (first + j) (omega (arith, in_order_lem ends many slot (suc n) rises some within, last_run ends many slot (suc n) rises some within)))

    -- ---- a copy of rows

    abbrev more : Runs (Grown t) → List ℕ
    more d = clipped w ends slot (slot + suc n) (last_end w d.ends) first count

    copied : (inner : Walk) → Copies x inner t (suc (suc i)) m kids → (d : Destination (t_run_end w t)) (c : List ℕ) (μ : Memory) → FineRuns d.«data» d.len → length c ≡ 96
        → rows c i ≡ d.len → HoldsData x.plan (t_run_end w t) i d.«data» c μ
        → Goes μ (λ e c' μ'. HoldsData x.plan (t_run_end w t) i e c' μ' × DataKept i (end_of x.plan i) c c' μ μ')
        (extend_data (t_run_end w t) m (λ j. (ss j).body) x.source slot (suc n) d.len d.«data») (copy_runs x inner i slot (suc n) c)
    copied inner go_on_lem d c μ fine long rows_are h =
        let last : rows c i ≡ last_end w d.«data».ends = rows_are ∙ fine.covers in
        let bytes = more d.«data» in
        let lent = g.lent.body_is.0 in
        let few : d.«data».ends.len ≤ d.len = few_ends d.«data» d.len fine in
        rw (some_is inner slot n c, runs_found inner)
        (goes_need _ 12 c (lt-ltb (suc (suc i)) 32 below)
        (goes_guard (ltb (last_end w d.«data».ends + suc n) (half w)) (ltb (rows c i + suc n) (half w)) 7 c (omega arith) (ap (λ z. ltb (z + suc n) (half w)) last)
        (λ q.
        let fits : d.len + suc n < half w = omega (arith, ltb-true (last_end w d.«data».ends + suc n) (half w) q, fine.covers) in
        let room : d.«data».ends.len + count ≤ far = omega (arith, few, few_runs, half_small) in
        goes_need _ 12 c
        (rw (lent.off_is, lent.len_is) (rows_in_lem x (place x (suc i) 3) (place x (suc i) 4) Src.body.ends.body w Src.body.ends.off many lent.body_is (g.obey x.source g.known).slots.hold))
        (goes_then _ _ (go_on_lem first count d.«data».values c μ in_values fine.values_fine (small_of (d.«data».values.len + count) (rw fine.as_many room)) long h.2)
        (λ v c2 ν p.
        rw (last, ends_are (last_end w d.«data».ends))
        (goes_wrote (put (suc i) 1 (rows c2 (suc i) * w) bytes) c2 _
        (ap (◌* w) (ends_rows_lem x.plan k w t i g.worded c c2 μ ν p.1 bytes count 0 ∙ h.0) ∙ sym (ap length (ends_at x.plan k w t i g.worded c c2 μ ν p.1 bytes count 0 ∙ h.1) ∙ fine.ends_are))
        (goes_done _ (end_gap i (add_rows (suc i) count c2)) (
          ends_held x.plan k w t i g.worded c c2 μ ν p.1 bytes count _ d.«data» v _ (ap (λ z. min z 1) (gap_was x.plan k w t i g.worded c c2 μ ν p.1 bytes count 0 ∙ h.3)) long h.0 h.1 (omega arith) p.0,
          ends_kept x.plan k w t i g.worded c c2 μ ν p.1 bytes count _,
        ))))))))

  copies : (inner : Walk) → Copies x inner t (suc (suc i)) m kids → CopiesData x inner (t_run_end w t) i m ss
  copies inner go_on_lem slot zero d c μ low high fine small long rows_are h =
      rw (copy_code inner (code_of x.plan i) slot 0 c g.worded.2, none_is inner slot c) (goes_done d.«data» c (h, data_kept_refl i (end_of x.plan i) c μ))
  copies inner go_on_lem slot (suc n) d c μ low high fine small long rows_are h =
      rw (copy_code inner (code_of x.plan i) slot (suc n) c g.worded.2) (copied slot n high inner go_on_lem d c μ fine.data_fine long rows_are h)

  -- ---- nulls

  add_is : (inner : NullWalk) (n : ℕ) (c : List ℕ)
      → add_run x inner w i n c
      ≡ next (inner (suc (suc i)) 1 c)
      (λ c2. need (ltb (rows c2 i + n) (half w)) 7 c2
      (next (wrote (put (suc i) 1 (rows c2 (suc i) * w) (encode w (rows c2 i + n))) c2) (λ c3. Rattle.walk.specs.Log.done (begin_gap i (add_rows (suc i) 1 c3)))))
  unfolding add_run
  add_is inner n c = refl

  grow_is : (inner : NullWalk) (n : ℕ) (c : List ℕ)
      → grow_run x inner w i n c
      ≡ need (leb 1 (rows c (suc i))) 12 c
      (need (ltb (rows c i + n) (half w)) 7 c (wrote (amend (suc i) 1 ((rows c (suc i) - 1) * w) (encode w (rows c i + n))) c))
  unfolding grow_run
  grow_is inner n c = refl

  module _ (inner : NullWalk) (n : ℕ) (d : Destination (t_run_end w t)) (c : List ℕ) (μ : Memory) (f : FineRuns d.«data» d.len) (h : Holds x.plan (t_run_end w t) i d c μ) where
    abbrev Done : Runs (Grown t) → List ℕ → Memory → Type 0
    Done e c' μ' = HoldsData x.plan (t_run_end w t) i e c' μ' × DataKept i (end_of x.plan i) c c' μ μ'

    -- the end of the last run
    abbrev end : List ℕ
    end = encode w (last_end w d.«data».ends + n)

    last : rows c i ≡ last_end w d.«data».ends
    last = h.rows_are ∙ f.covers

    -- a run more
    added : Fills x inner t (suc (suc i)) m kids → KeepNode (KeepOf t) d.«data».values → length c ≡ 96
        → Goes μ Done
        (then (nulls_node (masks t) (nulls_data t) 1 d.«data».values)
        (λ v. guard (ltb (last_end w d.«data».ends + n) (half w)) 7 (done (record { ends = more_ends end 1 d.«data».ends; values = v; gap = cond (eqb d.«data».gap 0) 0 2 }))))
        (add_run x inner w i n c)
    added go_on_lem keep long =
        let few : d.«data».ends.len ≤ d.len = few_ends d.«data» d.len f in
        let room : d.«data».ends.len + 1 ≤ far = omega (arith, few, f.fits, half_small) in
        rw (add_is inner n c)
        (goes_then _ _ (go_on_lem 1 d.«data».values c μ f.values_fine keep (small_of (d.«data».values.len + 1) (rw f.as_many room)) long h.data_are.2)
        (λ v c2 ν p.
        rw ((p.1.outside i (λ a b. omega arith)).rows_same ∙ last)
        (goes_guard (ltb (last_end w d.«data».ends + n) (half w)) (ltb (last_end w d.«data».ends + n) (half w)) 7 c2 (omega arith) refl
        (λ q.
        goes_wrote (put (suc i) 1 (rows c2 (suc i) * w) end) c2 _
        (ap (◌* w) (ends_rows_lem x.plan k w t i g.worded c c2 μ ν p.1 end 1 0 ∙ h.data_are.0) ∙ sym (ap length (ends_at x.plan k w t i g.worded c c2 μ ν p.1 end 1 0 ∙ h.data_are.1) ∙ f.ends_are))
        (goes_done _ (begin_gap i (add_rows (suc i) 1 c2)) (
          ends_held x.plan k w t i g.worded c c2 μ ν p.1 end 1 _ d.«data» v _ (ap (λ z. cond (eqb z 0) 0 2) (gap_was x.plan k w t i g.worded c c2 μ ν p.1 end 1 0 ∙ h.data_are.3)) long h.data_are.0 h.data_are.1 (omega arith) p.0,
          ends_kept x.plan k w t i g.worded c c2 μ ν p.1 end 1 _,
        ))))))

    -- the last run longer
    module _ (on : d.«data».gap ≡ 2) where
      abbrev from : ℕ
      from = (rows c (suc i) - 1) * w

      abbrev Over : Memory
      Over = amend_in (suc i) 1 from end μ

      from_is : from ≡ (d.«data».ends.len - 1) * w
      from_is = ap (λ z. (z - 1) * w) h.data_are.0

      over_long : from + length end ≡ length (μ.at (suc i) 1)
      over_long =
          let z : suc (d.«data».ends.len - 1) ≡ d.«data».ends.len = omega (arith, f.some_run on) in
          let y : d.«data».ends.len * w ≡ (d.«data».ends.len - 1) * w + w = ap (◌* w) (sym z) ∙ suc-mul (d.«data».ends.len - 1) w in
          omega (arith, from_is, length_encode w (last_end w d.«data».ends + n), ap length h.data_are.1, f.ends_are, y)

      over_other : (j : ℕ) → (j ≡ suc i → ⊥) → SameAt c c μ Over j
      over_other = amend_other (suc i) 1 from end μ c

      over_held : HoldsData x.plan (t_run_end w t) i (record { ends = over_end w (last_end w d.«data».ends + n) d.«data».ends; values = d.«data».values; gap = 2 }) c Over
      over_held = (
        h.data_are.0,
        amend_here (suc i) 1 from end μ ∙ ap₂ (λ a s. take a s ++ end) from_is h.data_are.1,
        held_same x.plan c c μ Over k t (suc (suc i)) d.«data».values g.worded.4 (λ j a b. over_other j (λ y. omega (arith, y))) h.data_are.2,
        h.data_are.3 ∙ on,
      )

      over_kept : DataKept i (end_of x.plan i) c c μ Over
      over_kept =
          let e : end_of x.plan i ≡ end_of x.plan (suc (suc i)) = g.worded.1 in
          let z = worded_span x.plan k t (suc (suc i)) g.worded.4 in
          record { long = refl; rows_own = refl; nulls_own = refl; bits_own = refl; outside = λ j h. over_other j (λ y. h (omega (arith, y)) (omega (arith, y))) }

      grown : Goes μ Done
          (guard (ltb (last_end w d.«data».ends + n) (half w)) 7 (done (record { ends = over_end w (last_end w d.«data».ends + n) d.«data».ends; values = d.«data».values; gap = 2 })))
          (grow_run x inner w i n c)
      grown =
          rw (grow_is inner n c, last)
          (goes_need _ 12 c (le-leb 1 (rows c (suc i)) (omega (arith, h.data_are.0, f.some_run on)))
          (goes_guard (ltb (last_end w d.«data».ends + n) (half w)) (ltb (last_end w d.«data».ends + n) (half w)) 7 c (omega arith) refl
          (λ q. goes_write _ (amend (suc i) 1 from end) c over_long (over_held, over_kept))))

  fills : (inner : NullWalk) → Fills x inner t (suc (suc i)) m kids → FillsData x inner (t_run_end w t) i m ss
  fills inner go_on_lem n d c μ some fine keep small long h =
      rw (null_code inner (code_of x.plan i) n c g.worded.2, null_is inner n c, h.data_are.3)
      (goes_need _ 12 c (lt-ltb (suc (suc i)) 32 below)
      (goes_cond (eqb d.«data».gap 2) (λ b. grown inner n d c μ fine.data_fine h (eqb-true _ _ b)) (λ b. added inner n d c μ fine.data_fine h go_on_lem keep.below long)))

-- A RUN-END NODE'S COPY GOES WITH THE MODEL'S, where its values' does
pub run_copies : (x : Join) (inner : Walk) (k w : ℕ) (t : Ty) (i m : ℕ) (ss : ℕ → Column (t_run_end w t)) → Given x (suc k) (t_run_end w t) i m ss
    → Copies x inner t (suc (suc i)) m (λ j. (ss j).body.values) → CopiesData x inner (t_run_end w t) i m ss
run_copies x inner k w t i m ss g = copies x k w t i m ss g inner

-- .. and its nulls
pub run_fills : (x : Join) (inner : NullWalk) (k w : ℕ) (t : Ty) (i m : ℕ) (ss : ℕ → Column (t_run_end w t)) → Given x (suc k) (t_run_end w t) i m ss
    → Fills x inner t (suc (suc i)) m (λ j. (ss j).body.values) → FillsData x inner (t_run_end w t) i m ss
run_fills x inner k w t i m ss g = fills x k w t i m ss g inner
