-- What the opening of a column and the reading of a row answer, and leave in what is lent for the answer, by its length. Assumes nothing.
use mathlib.Core.Path.{◌≡◌, refl, sym, ap, ◌∙◌}
use mathlib.Core.Bool.{Bool, true, false, cond}
use mathlib.Core.List.{List, [], ◌∷◌, ◌++◌, append-nil}
use Prim.Native.Nat.{ℕ, ◌+◌, ◌≤◌, ◌<◌}
use native.Mathlib.Nat.{zero-add}
use native.Mathlib.Omega.{arith}
use lib.ListN.{length, take, drop, get_or, set, replicate, drop_of_length-le}
use lib.Seq.{ext_get_or}
use lib.Dec.{leb, ltb, eqb}
use borrow.Author.Tests.{eq-eqb, ne_eqb, lt-leb, le-leb, lt-ltb, le-ltb}
use Rattle.number.specs.Number.{splice}
use Rattle.columnar.specs.Row.{seg}
use Rattle.model.proofs.Bits.{length_seg, get_d_seg}
use Rattle.array_data.specs.Tables.{Tables}
use Rattle.columns.specs.Grounds.{column_ground}
use Rattle.array_data.specs.node_words.Words.{planted}
use Rattle.row_reader.specs.column_reader.Column.{opened_tree}
use Rattle.slot_reader.specs.declared.RowRead.{RowRead}
use Rattle.row_reader.specs.Walk.{row_at}
use Rattle.lafkuno.specs.Calls.{open_ground, open_tree, row_kind, row_numbers, walked_numbers, read_kind, read_numbers}

module _ (formats schema : List ℕ) (x : Tables) (first n : ℕ) (room : List ℕ) where
  -- the column's ground, whatever the room
  pub column_refused : (g : ℕ) → g ≡ column_ground formats schema x first n → (g ≡ 0 → ⊥) → g ≡ open_ground formats schema x first n room
  unfolding open_ground
  column_refused g e h = rw (ne_eqb (column_ground formats schema x first n) 0 (λ q. h (e ∙ q))) e

  -- a room that is too short, or long enough
  pub short_ground : column_ground formats schema x first n ≡ 0 → length room < 256 → 14 ≡ open_ground formats schema x first n room
  unfolding open_ground
  short_ground e h = rw (eq-eqb (column_ground formats schema x first n) 0 e, lt-leb 256 (length room) h)

  pub no_ground : column_ground formats schema x first n ≡ 0 → 256 ≤ length room → 0 ≡ open_ground formats schema x first n room
  unfolding open_ground
  no_ground e h = rw (eq-eqb (column_ground formats schema x first n) 0 e, le-leb 256 (length room) h)

  -- a ground leaves the room as it was
  pub room_kept : (open_ground formats schema x first n room ≡ 0 → ⊥) → room ≡ open_tree formats schema x first n room
  unfolding open_tree
  room_kept h = rw (ne_eqb (open_ground formats schema x first n room) 0 h)

  -- no ground: the tree stands in front
  pub tree_put : open_ground formats schema x first n room ≡ 0 → splice 0 (planted formats schema first n) room ≡ open_tree formats schema x first n room
  unfolding open_tree
  tree_put h = rw (eq-eqb (open_ground formats schema x first n room) 0 h)

  -- the tree that the opening of an accepted column leaves
  pub tree_is : column_ground formats schema x first n ≡ 0 → (tree : List ℕ) → opened_tree formats schema x first n tree ≡ planted formats schema first n
  unfolding opened_tree
  tree_is h tree = rw (eq-eqb (column_ground formats schema x first n) 0 h)

-- ---- rows

-- a list of n numbers, one by one
one_by_one : (n : ℕ) (l : List ℕ) → length l ≡ n → seg (λ i. get_or l i 0) 0 n ≡ l
one_by_one n l h =
    let f : ℕ → ℕ = λ i. get_or l i 0 in
    ext_get_or 0 (seg f 0 n) l (length_seg f 0 n ∙ sym h) (λ i b. get_d_seg f 0 n i 0 (rw (length_seg f 0 n) at b) ∙ ap f (zero-add i))

-- the twelve numbers of an answer
pub words_are : (a b : List ℕ) (k : ℕ) → length a ≡ 3 → length b ≡ 8 → seg (λ i. get_or a i 0) 0 3 ++ (k ∷ seg (λ i. get_or b i 0) 0 8) ≡ a ++ (k ∷ b)
words_are a b k h g = ap (λ l. l ++ (k ∷ seg (λ i. get_or b i 0) 0 8)) (one_by_one 3 a h) ∙ ap (λ l. a ++ (k ∷ l)) (one_by_one 8 b g)

-- as many numbers are all of them
pub splice_whole : (w d : List ℕ) → length w ≡ length d → splice 0 w d ≡ w
unfolding splice
splice_whole w d h = rw (drop_of_length-le d {i = 0 + length w} (omega arith)) (append-nil w)

module _ (tree : List ℕ) (x : Tables) (r : ℕ) (answer : List ℕ) where
  -- the row's ground, an answer of another length, a row
  module _ (k : ℕ) (e : k ≡ row_kind (row_at tree x r).read) where
    pub kind_refused : 16 ≤ k → k ≡ read_kind tree x r answer
    unfolding read_kind
    kind_refused h = let g : 16 ≤ row_kind (row_at tree x r).read = omega arith in rw (le-ltb (row_kind (row_at tree x r).read) 16 g) e

    pub kind_short : k < 16 → (length answer ≡ 12 → ⊥) → 30 ≡ read_kind tree x r answer
    unfolding read_kind
    kind_short h q = let g : row_kind (row_at tree x r).read < 16 = omega arith in rw (lt-ltb (row_kind (row_at tree x r).read) 16 g, ne_eqb (length answer) 12 q)

    pub kind_read : k < 16 → length answer ≡ 12 → k ≡ read_kind tree x r answer
    unfolding read_kind
    kind_read h q = let g : row_kind (row_at tree x r).read < 16 = omega arith in rw (lt-ltb (row_kind (row_at tree x r).read) 16 g, eq-eqb (length answer) 12 q) e

  -- a refusal leaves the answer as it was
  pub answer_kept : (k : ℕ) → k ≡ read_kind tree x r answer → 16 ≤ k → answer ≡ read_numbers tree x r answer
  unfolding read_numbers
  answer_kept k e h = let g : 16 ≤ read_kind tree x r answer = omega arith in rw (le-ltb (read_kind tree x r answer) 16 g)

  numbers_read : (k : ℕ) → k ≡ read_kind tree x r answer → k < 16 → walked_numbers (row_at tree x r) ≡ read_numbers tree x r answer
  unfolding read_numbers
  numbers_read k e h = let g : read_kind tree x r answer < 16 = omega arith in rw (lt-ltb (read_kind tree x r answer) 16 g)

  -- the words of what was read, in place of the answer
  pub row_read : (k : ℕ) → k ≡ read_kind tree x r answer → k < 16 → (read : RowRead) (n : ℕ) (ids kept numbers words : List ℕ) → length answer ≡ 12 → length words ≡ 12
      → read ≡ (row_at tree x r).read → n ≡ length (row_at tree x r).ids → ids ≡ splice 0 (row_at tree x r).ids (replicate 8 0)
      → kept ≡ ids → numbers ≡ row_numbers read → words ≡ numbers ++ (n ∷ kept)
      → splice 0 words answer ≡ read_numbers tree x r answer
  row_read k ek hk read n ids kept numbers words h l e1 e2 e3 e4 e5 e6 =
      splice_whole words answer (l ∙ sym h)
      ∙ e6
      ∙ ap (λ a. a ++ (n ∷ kept)) (e5 ∙ ap row_numbers e1)
      ∙ ap (λ k. row_numbers (row_at tree x r).read ++ (k ∷ kept)) e2
      ∙ ap (λ a. row_numbers (row_at tree x r).read ++ (length (row_at tree x r).ids ∷ a)) (e4 ∙ e3)
      ∙ numbers_read k ek hk
