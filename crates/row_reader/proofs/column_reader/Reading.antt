-- A ROW THAT IS READ IS THE COLUMNAR FORMAT'S, of every accepted column; every other column is refused by its ground. Assumes nothing.
use mathlib.Core.Path.{◌≡◌, refl, sym}
use mathlib.Core.Bool.{Bool, true, false, cond, ◌&&◌, false≢true}
use mathlib.Core.List.{List}
use Prim.Native.Nat.{ℕ, ◌+◌, ◌<◌, ◌^◌}
use native.Mathlib.Omega.{arith}
use lib.ListN.{get_or}
use Rattle.columnar.specs.Reading.{read}
use Rattle.schema.specs.Tree.{typed}
use Rattle.array_data.specs.Tables.{Tables, length_of, offset_of}
use Rattle.array_data.specs.Typed.{column_of, tables_from, source_rule}
use Rattle.array_data.specs.type_tree.Lent.{tree_of, type_of}
use Rattle.columns.specs.Grounds.{small_body, within_ceilings, obeys, column_ground}
use Rattle.columns.proofs.Grounds.{within_low}
use Rattle.columns.proofs.Answers.{ready}
use Rattle.source_rules.proofs.From.{length_from, offset_from}
use Rattle.row_reader.specs.Walk.{is_refused}
use Rattle.row_reader.specs.meaning.Meaning.{meaning}
use Rattle.row_reader.proofs.meaning.Rows.{lent_row}
use Rattle.row_reader.specs.column_reader.Column.{read_row}
use Rattle.row_reader.proofs.column_reader.Laws.{row_accepted}

chosen : (b : Bool) (a g : ℕ) → 0 < g → cond b a g ≡ 0 → (b ≡ true) × (a ≡ 0)
chosen true a g l h = (refl, h)
chosen false a g l h = absurd (omega arith)

both : (a b : Bool) → a && b ≡ true → (a ≡ true) × (b ≡ true)
both true b h = (refl, h)
both false b h = absurd (false≢true h)

-- what an accepted column has passed
record Passed (formats schema : List ℕ) (x : Tables) (first n : ℕ) : Type 0 where
  within : within_ceilings formats schema x first n ≡ true
  of_type : typed formats schema first n ≡ true
  obeying : obeys formats schema x first n ≡ true

module _ (formats schema : List ℕ) (x : Tables) (first n : ℕ) where
  passed : column_ground formats schema x first n ≡ 0 → Passed formats schema x first n
  unfolding column_ground
  passed h =
      let p = chosen (small_body x.body && within_ceilings formats schema x first n) _ 9 (omega arith) h in
      let q = chosen (typed formats schema first n) _ 10 (omega arith) p.1 in
      let r = chosen (obeys formats schema x first n) 0 12 (omega arith) q.1 in
      record { within = (both (small_body x.body) (within_ceilings formats schema x first n) p.0).1; of_type = q.0; obeying = r.0 }

  pub accepted_typed : column_ground formats schema x first n ≡ 0 → typed formats schema first n ≡ true
  accepted_typed h = (passed h).of_type

  rule_is : obeys formats schema x first n ≡ true → source_rule (tree_of formats schema first n) (tables_from x first) ≡ true
  unfolding obeys
  rule_is h = h

  -- EVERY ROW of an accepted column: no refusal, and its meaning is the row that crate `columnar` reads
  pub reads : first < 2 ^ 32 → column_ground formats schema x first n ≡ 0 → ((j : ℕ) → get_or x.body j 0 < 256) → (r : ℕ) → r < length_of (tables_from x first) 0
      → (is_refused (read_row formats schema x first n r).read ≡ false)
      × (meaning (tree_of formats schema first n) (tables_from x first) (type_of formats schema first n) (read_row formats schema x first n r).ids (read_row formats schema x first n r).read
      ≡ read (type_of formats schema first n) (column_of (tree_of formats schema first n) (tables_from x first) (type_of formats schema first n) 0) r)
  reads low h bytes r q =
      let p = passed h in
      let c = ready formats schema x first n low p.within p.of_type in
      let sums : (i : ℕ) → i < n → offset_of (tables_from x first) i + length_of (tables_from x first) i < 2 ^ 63
      = λ i l. rw (offset_from x first i, length_from x first i) (c.counted i l).sum in
      let s = lent_row formats schema first n x p.of_type (within_low formats schema x first n p.within) (rule_is p.obeying) bytes sums r q in
      let e = row_accepted formats schema x first n (column_ground formats schema x first n) refl h r in
      rw (sym e) s
