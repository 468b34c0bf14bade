-- The answers of `column_reader` by the ground of the column. Assumes nothing.
use mathlib.Core.Path.{◌≡◌, refl, sym, ap, subst, ◌∙◌}
use mathlib.Core.List.{List}
use Prim.Native.Nat.{ℕ}
use lib.ListN.{length}
use borrow.Author.Tests.{eq-eqb, ne_eqb}
use Rattle.number.specs.Number.{splice}
use Rattle.number.proofs.Laws.{splice_nil}
use Rattle.array_data.specs.Tables.{Tables}
use Rattle.array_data.specs.Typed.{tables_from}
use Rattle.columns.specs.Grounds.{column_ground}
use Rattle.array_data.specs.node_words.Words.{planted}
use Rattle.slot_reader.specs.declared.RowRead.{RowRead}
use Rattle.slot_reader.specs.declared.RowRead.TheVariants as row
use Rattle.row_reader.specs.Walk.{Walked, walked_to, row_at}
use Rattle.row_reader.specs.column_reader.Column.{opened_tree, read_row}

module _ (formats schema : List ℕ) (x : Tables) (first n : ℕ) (g : ℕ) (e : g ≡ column_ground formats schema x first n) where
  pub tree_accepted : g ≡ 0 → (tree : List ℕ) → planted formats schema first n ≡ opened_tree formats schema x first n tree
  unfolding opened_tree
  tree_accepted h tree = rw (eq-eqb (column_ground formats schema x first n) 0 (sym e ∙ h))

  pub tree_refused : (g ≡ 0 → ⊥) → (tree : List ℕ) → tree ≡ opened_tree formats schema x first n tree
  unfolding opened_tree
  tree_refused h tree = rw (ne_eqb (column_ground formats schema x first n) 0 (λ z. h (e ∙ z)))

  pub row_accepted : g ≡ 0 → (r : ℕ) → row_at (planted formats schema first n) (tables_from x first) r ≡ read_row formats schema x first n r
  unfolding read_row
  row_accepted h r = rw (eq-eqb (column_ground formats schema x first n) 0 (sym e ∙ h))

  pub row_refused : (g ≡ 0 → ⊥) → (r : ℕ) → walked_to (row.Refused g) ≡ read_row formats schema x first n r
  unfolding read_row
  row_refused h r = rw (ne_eqb (column_ground formats schema x first n) 0 (λ z. h (e ∙ z)), e)

-- what a call answered, and the array of ids after it
pub record Answered (w : Walked) (old : List ℕ) (read : RowRead) (count : ℕ) (new : List ℕ) : Type 0 where
  pub row_is : read ≡ w.read
  pub count_is : count ≡ length w.ids
  pub ids_are : new ≡ splice 0 w.ids old

module _ (formats schema : List ℕ) (x : Tables) (first n g : ℕ) (e : g ≡ column_ground formats schema x first n) (r : ℕ) (old : List ℕ) where
  pub refused_answer : (g ≡ 0 → ⊥) → Answered (read_row formats schema x first n r) old (row.Refused g) 0 old
  refused_answer h =
      subst (λ w. Answered w old (row.Refused g) 0 old) (row_refused formats schema x first n g e h r)
      (record { row_is = refl; count_is = refl; ids_are = sym (splice_nil 0 old) })

  pub read_answer : g ≡ 0 → (start tree words : List ℕ) → tree ≡ opened_tree formats schema x first n start → words ≡ tree → {read : RowRead} {count : ℕ} {new : List ℕ}
      → Answered (row_at words (tables_from x first) r) old read count new → Answered (read_row formats schema x first n r) old read count new
  read_answer h start tree words t c {read} {count} {new} a =
      let p : words ≡ planted formats schema first n = c ∙ t ∙ sym (tree_accepted formats schema x first n g e h start) in
      subst (λ w. Answered w old read count new) (ap (λ y. row_at y (tables_from x first) r) p ∙ row_accepted formats schema x first n g e h r) a
