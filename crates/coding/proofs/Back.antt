-- THERE AND BACK on lent memory (02, W1: "expanding gives .., after the encoder those it started from"): what an accepted encoding leaves, finished and
-- lent again, is expanded to the rows that it was made of. Assumes nothing.
use mathlib.Core.Path.{◌≡◌, refl, sym, ap, subst, ◌∙◌}
use mathlib.Core.Bool.{true}
use mathlib.Core.List.{List}
use Prim.Native.Nat.{ℕ, ◌+◌, ◌-◌, ◌^◌, ◌≤◌, ◌<◌}
use native.Mathlib.Omega.{arith}
use lib.ListN.{length, get_or}
use borrow.Author.Tests.{le-leb}
use Rattle.columnar.specs.Row.{Row, seg}
use Rattle.columnar.specs.Types.{fixed, t_plain, t_run_end}
use Rattle.columnar.specs.Reading.{read, read_all}
use Rattle.schema.specs.formats.Types.{number_of, number_or}
use Rattle.schema.specs.Tree.{code_of}
use Rattle.array_data.specs.Tables.{Tables, length_of}
use Rattle.array_data.specs.Typed.{column_of, tables_from}
use Rattle.array_data.specs.type_tree.Lent.{tree_of, type_of}
use Rattle.source_rules.specs.kinds.Rows.{tables_of}
use Rattle.source_rules.proofs.From.{length_from}
use Rattle.columns.specs.Grounds.{ceiling, small_body, column_ground}
use Rattle.columns.specs.column_pair.Pair.{range_in}
use Rattle.refinement.specs.log_in_room.Room.{AllBelow}
use Rattle.refinement.specs.finishing.Shows.{finished_tables, Bodied}
use Rattle.anew.specs.Anew.{room_ground}
use Rattle.anew.proofs.Laws.{anew_accepted}
use Rattle.anew.proofs.Result.{lent_for}
use Rattle.coding.specs.Encode.{number, end_width, plain_column, encode_plan, encoding}
use Rattle.coding.specs.Expand.{value_number, plain_over, expand_plan, expand_out, expanding}
use Rattle.coding.proofs.Encoded as e
use Rattle.coding.proofs.Fitted as f
use Rattle.coding.proofs.Types.{runs_type}
use Rattle.coding.proofs.EncodeTheorems.{encode_finished, encode_lent, encode_reads}
use Rattle.coding.proofs.ExpandTheorems.{expand_back}
use Rattle.coding.proofs.InOrder.{expand_room}

-- an accepted encoding, and tables that hold the finished ones from the target's node on
module _ (formats schema lengths places buffers body : List ℕ) (first n target start end : ℕ) (low : first < 2 ^ 32) (small : (j : ℕ) → get_or body j 0 < 256) (parts plan counters room : List ℕ)
    (room_bytes : AllBelow 256 room) (ok : (encoding formats schema (tables_of lengths places buffers body) first n target start end parts plan counters room).refusal ≡ 0) (base : ℕ) (whole : List ℕ)
    (bodied : Bodied whole (lent_for (tables_of lengths places buffers body) (encode_plan formats schema (tables_of lengths places buffers body) first n target start end) parts first n)
    (encoding formats schema (tables_of lengths places buffers body) first n target start end parts plan counters room).room base)
    (short : length whole ≤ ceiling) (lengths' places' buffers' body' : List ℕ)
    (same : tables_from (tables_of lengths' places' buffers' body') target
    ≡ finished_tables (lent_for (tables_of lengths places buffers body) (encode_plan formats schema (tables_of lengths places buffers body) first n target start end) parts first n) buffers
    (encoding formats schema (tables_of lengths places buffers body) first n target start end parts plan counters room).counters
    (encoding formats schema (tables_of lengths places buffers body) first n target start end parts plan counters room).room base whole)
    (low' : target < 2 ^ 32) (small' : (j : ℕ) → get_or body' j 0 < 256) (target' : ℕ) (parts' plan' counters' room' : List ℕ) where
  abbrev x : Tables
  x = tables_of lengths places buffers body

  abbrev z : Tables
  z = tables_of lengths' places' buffers' body'

  abbrev w : ℕ
  w = end_width formats schema first target

  -- the rows that it was made of
  abbrev rows : List Row
  rows = seg (read (t_plain (fixed (number formats schema first target))) (plain_column formats schema x first n target start end)) start (end - start)

  passed : column_ground formats schema x first n ≡ 0
  passed = (anew_accepted formats schema x first n _ _ _ parts plan counters room ok).column_good

  good : column_ground formats schema z target 3 ≡ 0
  good = encode_lent formats schema lengths places buffers body first n target start end low small parts plan counters room room_bytes ok base whole bodied short z same

  long : length_of (tables_from z target) 0 ≡ end - start
  long = ap (λ y. length_of y 0) same ∙ (encode_finished formats schema lengths places buffers body first n target start end low small parts plan counters room room_bytes ok base whole bodied).shows.len_is

  inside : range_in z target 0 (end - start) ≡ true
  unfolding range_in
  inside =
      let q : target + 0 ≡ target = omega arith in
      let l : length_of z target ≡ end - start = ap (length_of z) (sym q) ∙ sym (length_from z target 0) ∙ long in
      rw (le-leb 0 (end - start) (omega arith)) (le-leb (end - start) (length_of z target) (omega (arith, l)))

  are_runs : runs_type (type_of formats schema target 3) ≡ true
  are_runs =
      let a = anew_accepted formats schema x first n _ _ _ parts plan counters room ok in
      ap runs_type (f.type_is_lem formats schema lengths places buffers body first n target start end low small a.column_good a.own_none)

  -- ALL OF IT IS EXPANDED where the room is enough: 14 and 13 of the room alone stand in the way
  pub back_grounds : small_body room' ≡ true → plain_over formats schema target target' ≡ true
      → (expanding formats schema z target 3 target' 0 (end - start) parts' plan' counters' room').refusal
      ≡ room_ground (expand_plan formats schema z target 3 target' 0 (end - start)) (expand_out formats schema z target 3 target' 0 (end - start)).counters parts' (length plan') (length counters') (length room')
  back_grounds s due = expand_room formats schema lengths' places' buffers' body' target 3 target' 0 (end - start) low' small' parts' plan' counters' room' s good are_runs due inside

  -- the runs as the expansion reads them
  reads_at : (c : ℕ) → code_of formats schema target 2 ≡ c
      → read_all (t_run_end w (t_plain (fixed (number_or (number_of c))))) (column_of (tree_of formats schema target 3) (tables_from z target) (t_run_end w (t_plain (fixed (number_or (number_of c))))) 0) ≡ rows
      → read_all (t_run_end w (t_plain (fixed (number_or (number_of (code_of formats schema target 2)))))) (column_of (tree_of formats schema target 3) (tables_from z target) (t_run_end w (t_plain (fixed (number_or (number_of (code_of formats schema target 2)))))) 0) ≡ rows
  reads_at c e = subst (λ c. read_all (t_run_end w (t_plain (fixed (number_or (number_of c))))) (column_of (tree_of formats schema target 3) (tables_from z target) (t_run_end w (t_plain (fixed (number_or (number_of c))))) 0) ≡ rows) (sym e)

  -- "AFTER THE ENCODER THOSE IT STARTED FROM": an accepted expansion of all of it, finished, reads as the rows of the column that was encoded
  pub back_rows : AllBelow 256 room' → (expanding formats schema z target 3 target' 0 (end - start) parts' plan' counters' room').refusal ≡ 0 → (base' : ℕ) (whole' : List ℕ)
      → Bodied whole' (lent_for z (expand_plan formats schema z target 3 target' 0 (end - start)) parts' target 3) (expanding formats schema z target 3 target' 0 (end - start) parts' plan' counters' room').room base'
      → read_all (t_plain (fixed (value_number formats schema target target')))
      (column_of (tree_of formats schema target' 1)
      (finished_tables (lent_for z (expand_plan formats schema z target 3 target' 0 (end - start)) parts' target 3) buffers' (expanding formats schema z target 3 target' 0 (end - start) parts' plan' counters' room').counters
      (expanding formats schema z target 3 target' 0 (end - start) parts' plan' counters' room').room base' whole')
      (t_plain (fixed (value_number formats schema target target'))) 0)
      ≡ rows
  back_rows room-bytes' ok' base' whole' bodied' =
      let a = anew_accepted formats schema x first n _ _ _ parts plan counters room ok in
      let d = e.due formats schema lengths places buffers body first n target start end low small a.column_good a.own_none in
      expand_back formats schema lengths' places' buffers' body' target 3 target' 0 (end - start) low' small' parts' plan' counters' room' room-bytes' ok'
      (reads_at (code_of formats schema first 0) d.same_code
      (ap (λ y. read_all (t_run_end w (t_plain (fixed (number formats schema first target)))) (column_of (tree_of formats schema target 3) y (t_run_end w (t_plain (fixed (number formats schema first target)))) 0)) same
      ∙ encode_reads formats schema lengths places buffers body first n target start end low small parts plan counters room room_bytes ok base whole bodied))
      refl (let q : end - start - 0 ≡ end - start = omega arith in q ∙ sym long) base' whole' bodied'
