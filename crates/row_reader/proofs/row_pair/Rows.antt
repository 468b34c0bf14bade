-- Rows of columns of numbers are leaves, and the reader of a row finds them. Assumes nothing.
use mathlib.Core.Path.{◌≡◌, refl, sym, ap, ◌∙◌}
use mathlib.Core.Bool.{Bool, true, false, cond, false≢true}
use mathlib.Core.List.{List}
use Prim.Native.Nat.{ℕ, ◌+◌, ◌<◌, ◌^◌}
use lib.ListN.{get_or}
use Rattle.columnar.specs.Row.{Row, null}
use Rattle.columnar.specs.Types.{Number, int, uint, f32, f64, width, fixed, string, Ty, t_plain, t_view, t_list_view, t_list, t_sparse, t_dense, t_run_end, t_dictionary}
use Rattle.columnar.specs.Array.{Array, item, ok, read_with}
use Rattle.columnar.specs.Plain.{value, plain_at}
use Rattle.columnar.specs.RunEnd.{end_of, first_above, run_end_at}
use Rattle.columnar.specs.Reading.{Column, read}
use Rattle.array_data.specs.Tables.{Tables, length_of}
use Rattle.array_data.specs.Typed.{Tree, column_of, tables_from}
use Rattle.array_data.specs.type_tree.Lent.{tree_of, type_of}
use Rattle.array_data.specs.node_words.Words.{planted}
use Rattle.columns.specs.Grounds.{column_ground}
use Rattle.slot_reader.specs.declared.RowRead.{RowRead}
use Rattle.slot_reader.specs.declared.RowRead.TheVariants as row
use Rattle.slot_reader.specs.leaf_row.Reading.{leaf_row_of}
use Rattle.row_reader.specs.Walk.{row_at}
use Rattle.row_reader.specs.meaning.Meaning.{flat, meaning}
use Rattle.row_reader.specs.column_reader.Column.{read_row}
use Rattle.row_reader.specs.row_pair.Same.{leaf_in, number_plain, number_type, row_of}
use Rattle.row_reader.proofs.column_reader.Laws.{row_accepted}
use Rattle.row_reader.proofs.column_reader.Reading.{reads}
use Rattle.row_reader.proofs.row_pair.Leaves.{is_leaf}

-- ---- types of numbers

pub data Numeric : Ty → Type 0 where
  of_plain_lem : (m : Number) → Numeric (t_plain (fixed m))
  of_runs : (w : ℕ) (m : Number) → Numeric (t_run_end w (t_plain (fixed m)))

pub numeric : (u : Ty) → number_type u ≡ true → Numeric u
numeric (t_plain (fixed m)) h = of_plain_lem m
numeric (t_plain (string w)) h = absurd (false≢true h)
numeric t_view h = absurd (false≢true h)
numeric (t_list_view w u) h = absurd (false≢true h)
numeric (t_list w u) h = absurd (false≢true h)
numeric (t_sparse ids nullable f) h = absurd (false≢true h)
numeric (t_dense ids nullable f) h = absurd (false≢true h)
numeric (t_run_end w u) h = by u h
  where
    by : (u : Ty) → number_plain u ≡ true → Numeric (t_run_end w u)
    by (t_plain (fixed m)) h = of_runs w m
    by (t_plain (string v)) h = absurd (false≢true h)
    by t_view h = absurd (false≢true h)
    by (t_list_view v u) h = absurd (false≢true h)
    by (t_list v u) h = absurd (false≢true h)
    by (t_sparse ids nullable f) h = absurd (false≢true h)
    by (t_dense ids nullable f) h = absurd (false≢true h)
    by (t_run_end v u) h = absurd (false≢true h)
    by (t_dictionary k p) h = absurd (false≢true h)
numeric (t_dictionary k p) h = absurd (false≢true h)

-- ---- their rows

value_leaf : (m : Number) (p : ℕ) → is_leaf (value m p) ≡ true
value_leaf (int s) p = refl
value_leaf (uint s) p = refl
value_leaf f32 p = refl
value_leaf f64 p = refl

sight_leaf : (b : Bool) (r : Row) → is_leaf r ≡ true → is_leaf (cond b r null) ≡ true
sight_leaf true r h = h
sight_leaf false r h = refl

read_leaf : {B : Type 0} (at : B → ℕ → Row) → ((b : B) (i : ℕ) → is_leaf (at b i) ≡ true) → (y : Array B) (r : ℕ) → is_leaf (read_with at y r) ≡ true
read_leaf at h y r = sight_leaf (ok y.valid (y.off + r)) (at y.body (y.off + r)) (h y.body (y.off + r))

number_leaf : (m : Number) (b : List ℕ) (i : ℕ) → is_leaf (plain_at (fixed m) b i) ≡ true
number_leaf m b i = value_leaf m (item (width m) b i)

row_leaf : {u : Ty} → Numeric u → (y : Column u) (r : ℕ) → is_leaf (read u y r) ≡ true
row_leaf (of_plain_lem m) y r = read_leaf (plain_at (fixed m)) (number_leaf m) y r
row_leaf (of_runs w m) y r =
    read_leaf (run_end_at w (plain_at (fixed m)))
    (λ b i. read_leaf (plain_at (fixed m)) (number_leaf m) b.values (first_above (end_of w b.ends) i 0 b.ends.len)) y r

flat_meaning : (t : Tree) (x : Tables) {u : Ty} → Numeric u → (ids : List ℕ) (a : RowRead) → meaning t x u ids a ≡ flat x.body a
flat_meaning t x (of_plain_lem m) ids a = refl
flat_meaning t x (of_runs w m) ids a = refl

leaf_read : (body : List ℕ) (a : RowRead) (r : Row) → flat body a ≡ r → is_leaf r ≡ true → leaf_row_of (leaf_in a) ≡ r
leaf_read body row.Null r e h = e
leaf_read body (row.Number l) r e h = e
leaf_read body (row.Bytes at len) r e h = absurd (false≢true (ap is_leaf e ∙ h))
leaf_read body (row.List i a n) r e h = e
leaf_read body (row.Refused g) r e h = e

module _ (formats schema : List ℕ) (x : Tables) (first n : ℕ) where
  pub its_leaf : number_type (type_of formats schema first n) ≡ true → (r : ℕ) → is_leaf (row_of formats schema x first n r) ≡ true
  unfolding row_of
  its_leaf o r = row_leaf (numeric (type_of formats schema first n) o) (column_of (tree_of formats schema first n) (tables_from x first) (type_of formats schema first n) 0) r

  -- THE LEAF THAT IS READ has the row of the Columnar Format
  pub leaf_found : first < 2 ^ 32 → ((j : ℕ) → get_or x.body j 0 < 256) → column_ground formats schema x first n ≡ 0 → number_type (type_of formats schema first n) ≡ true
      → (r : ℕ) → r < length_of (tables_from x first) 0 → leaf_row_of (leaf_in (row_at (planted formats schema first n) (tables_from x first) r).read) ≡ row_of formats schema x first n r
  unfolding row_of
  leaf_found low bytes g o r l =
      let s = row_accepted formats schema x first n (column_ground formats schema x first n) refl g r in
      let f = flat_meaning (tree_of formats schema first n) (tables_from x first) (numeric (type_of formats schema first n) o) (read_row formats schema x first n r).ids (read_row formats schema x first n r).read in
      let e = (reads formats schema x first n low g bytes r l).1 in
      leaf_read x.body (row_at (planted formats schema first n) (tables_from x first) r).read _ (ap (λ w. flat x.body w.read) s ∙ sym f ∙ e) (its_leaf o r)
