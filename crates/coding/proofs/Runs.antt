-- What each return of the expansion's own tests, of its question and of its call answers. Assumes nothing.
use mathlib.Core.Path.{◌≡◌, refl, sym, ap, subst, ◌∙◌}
use mathlib.Core.Bool.{Bool, true, false, not}
use mathlib.Core.List.{List, []}
use Prim.Native.Nat.{ℕ, suc, ◌+◌, ◌*◌, ◌-◌, ◌≤◌, ◌<◌, ◌^◌}
use native.Mathlib.Omega.{arith}
use lib.ListN.{length, get_or}
use Rattle.schema.specs.formats.Code.{is_run_end, width_of}
use Rattle.schema.specs.Tree.{code_of}
use Rattle.array_data.specs.Tables.{Tables}
use Rattle.array_data.specs.lent_tables.Lent.{tables}
use Rattle.source_rules.specs.kinds.Rows.{tables_of}
use Rattle.columns.specs.Grounds.{small_body, column_ground}
use Rattle.columns.specs.column_pair.Pair.{range_in}
use Rattle.walk.specs.Log.{start_of}
use Rattle.walk.specs.State as words
use Rattle.anew.specs.Anew.{ahead, room_ground}
use Rattle.anew.proofs.result_plan.Answered.{before_walk}
use Rattle.coding.proofs.run_walks.Plans.{RowsPlan, rows_plan}
use Rattle.coding.specs.Counted.{row_counts}
use Rattle.coding.specs.Encode.{plain_at}
use Rattle.coding.specs.Expand.{value_number, runs_of_plain, plain_over, expand_own, expand_keeps, expand_plan, expand_out, RowsFit}
use Rattle.coding.proofs.Tests.{no_by, yes_by}
use Rattle.coding.proofs.Expanded.{own, type_is_lem, walk_done}
use Rattle.coding.proofs.Room.{room_free, numbers_fit, bits_fit}

-- ---- the column

module _ (formats schema : List ℕ) (first : ℕ) {c : ℕ} {d : Bool} (ec : c ≡ code_of formats schema first 0) (ed : d ≡ is_run_end c) where
  pub taken_no : not d ≡ true → false ≡ runs_of_plain formats schema first 0
  unfolding runs_of_plain
  taken_no h = rw (no_by (ed ∙ ap is_run_end ec) h)

  pub taken_yes : not d ≡ false → {p : Bool} → p ≡ plain_at formats schema first 2 → p ≡ runs_of_plain formats schema first 0
  unfolding runs_of_plain
  taken_yes h e = e ∙ rw (yes_by (ed ∙ ap is_run_end ec) h)

-- ---- 10, 2

runs_as : (formats schema : List ℕ) (first target : ℕ) → runs_of_plain formats schema first 0 ≡ runs_of_plain formats schema first target
unfolding runs_of_plain
runs_as formats schema first target = refl

module _ (formats schema : List ℕ) (x : Tables) (first n target start end : ℕ) {p : Bool} (ep : p ≡ runs_of_plain formats schema first 0) where
  taken : p ≡ runs_of_plain formats schema first target
  taken = ep ∙ runs_as formats schema first target

  pub own_taken : not p ≡ true → 10 ≡ expand_own formats schema x first n target start end
  unfolding expand_own
  own_taken h = rw (no_by taken h)

  module _ (hp : not p ≡ false) {d : Bool} (ed : d ≡ plain_over formats schema first target) where
    pub own_due : not d ≡ true → 10 ≡ expand_own formats schema x first n target start end
    unfolding expand_own
    own_due h = rw (yes_by taken hp, no_by ed h)

    module _ (hd : not d ≡ false) {r : Bool} (er : r ≡ range_in x first start end) where
      pub own_range : not r ≡ true → 2 ≡ expand_own formats schema x first n target start end
      unfolding expand_own
      own_range h = rw (yes_by taken hp, yes_by ed hd, no_by er h)

      pub own_free : not r ≡ false → 0 ≡ expand_own formats schema x first n target start end
      unfolding expand_own
      own_free h = rw (yes_by taken hp, yes_by ed hd, yes_by er h)

-- only the lengths are looked at
pub own_same : (formats schema lengths places buffers body : List ℕ) (first n target start end : ℕ)
    → expand_own formats schema (tables lengths [] []) first 0 target start end ≡ expand_own formats schema (tables_of lengths places buffers body) first n target start end
unfolding expand_own range_in
own_same formats schema lengths places buffers body first n target start end = refl

-- ---- on an accepted column

module _ (formats schema lengths places buffers body : List ℕ) (first n target start end : ℕ) (low : first < 2 ^ 32) (small : (j : ℕ) → get_or body j 0 < 256)
    (g : column_ground formats schema (tables_of lengths places buffers body) first n ≡ 0) (o : expand_own formats schema (tables_of lengths places buffers body) first n target start end ≡ 0) where
  abbrev x : Tables
  x = tables_of lengths places buffers body

  abbrev y : Tables
  y = tables lengths places body

  abbrev keeps : ℕ → Bool
  keeps = expand_keeps formats schema x first n target start end

  abbrev made : List ℕ
  made = expand_plan formats schema x first n target start end

  -- nothing stands before room is asked
  pub none_before : ahead formats schema x first n (expand_own formats schema x first n target start end) made (expand_out formats schema x first n target start end) ≡ 0
  none_before = sym (before_walk formats schema x first n _ made _ g o (walk_done formats schema lengths places buffers body first n target start end low small g o (keeps 0) refl))

  pub planned_rows : RowsPlan made (keeps 0)
  planned_rows =
      let d = own formats schema lengths places buffers body first n target start end low small g o in
      rows_plan formats schema target keeps d.of_type d.low (value_number formats schema first target) (type_is_lem formats schema lengths places buffers body first n target start end low small g o)

  pub no_ends_lem : (i : ℕ) → suc i < 1 → words.code_of made i ≡ 23 → keeps (suc i) ≡ false
  no_ends_lem i l e = absurd (omega arith)

  -- THE ROWS FIT
  pub rows_fit : (parts room : List ℕ) (plan counters : ℕ) (keep : Bool) → keep ≡ keeps 0 → small_body room ≡ true → room_ground made (row_counts (end - start)) parts plan counters (length room) ≡ 0
      → RowsFit formats schema y first start end made parts keep (length room)
  rows_fit parts room plan counters keep exact s h =
      let d = own formats schema lengths places buffers body first n target start end low small g o in
      let c = row_counts (end - start) in
      let f = room_free made c parts plan counters (length room) h in
      let p = planned_rows in
      let e1 = numbers_fit formats schema target 1 keeps d.of_type d.low no_ends_lem c parts room s f.placed f.holds 0 (omega arith) d.plain.is_fixed_lem p.values_part in
      record {
        of_values = subst (λ z. start_of made parts 0 1 + (end - start) * width_of z ≤ length room) d.same_code e1;
        of_bits = λ q. bits_fit formats schema target 1 keeps d.of_type d.low no_ends_lem c parts room s f.placed f.holds 0 (p.bits_there (sym exact ∙ q));
      }
