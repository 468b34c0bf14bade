-- DEMAND 3: one theorem on any list of calls: the finished array has exactly the rows of 01's book; and storing wider changes no row.
-- Assumes nothing.
use mathlib.Core.Path.{◌≡◌, sym, ap, ◌∙◌}
use mathlib.Core.List.{List}
use Prim.Native.Nat.{ℕ, ◌<◌}
use native.Mathlib.Nat.{zero-add}
use lib.ListN.{length, get_or}
use Rattle.columnar.specs.Row.{null}
use Rattle.columnar.specs.Reading.{read, read_all}
use Rattle.model.specs.Book.{Call}
use Rattle.model.proofs.Bits.{length_seg, get_d_seg}
use Rattle.walk.specs.State as walk
use Rattle.refinement.proofs.opening.Opened.{Opened}
use Rattle.refinement.specs.finishing.Shows.{Bodied}
use Rattle.refinement.proofs.finishing.Join.{join_rows}
use Rattle.join.specs.Join.{Lending, Bytes, type_in, opening_of, lent_of, after_calls, finished_at, finished_of, reached_by, book}
use Rattle.join.proofs.Opens.{runs}
use Rattle.join.proofs.Lengths.{book_is, in_book}
use Rattle.join.proofs.Demand2.{finished_built, behind_body}

-- after an accepted opening and any list of calls, refused ones included
module _ (l : Lending) (b : Bytes l) (accepted : (opening_of l).refusal ≡ 0) (os : List Call) where
  abbrev opens : Opened l.formats l.schema l.sources l.tables l.keep l.gaps l.parts (opening_of l)
  opens = runs l b accepted

  -- THE BOOK: the finished array has its rows, all of them and no others, over any body z in which the room stands from `base` on
  -- and the sources' body where it was
  pub book_at : (base : ℕ) (z : List ℕ) → Bodied z (lent_of l) (after_calls l os).room base → read_all (type_in l) (finished_at l os base z) ≡ book l os
  book_at base z laid =
      join_rows l.formats l.schema l.sources l.tables l.keep l.gaps l.parts (opening_of l) opens os base z laid ∙ in_book l b accepted os ∙ sym (book_is l b accepted os)

  -- .. and so over the sources' body with the room behind it
  pub the_book : read_all (type_in l) (finished_of l os) ≡ book l os
  the_book = book_at (length l.tables.body) _ (behind_body l b accepted os)

  -- the finished array has the book's length
  pub book_length : (finished_of l os).len ≡ length (book l os)
  book_length = sym (length_seg (read (type_in l) (finished_of l os)) 0 (finished_of l os).len) ∙ ap length the_book

  -- AND SO HAS THE DESTINATION, after every call: the model's, and the lent counter of the root
  pub reached_length : (reached_by l os).len ≡ length (book l os)
  reached_length = sym (finished_built l b accepted os).2.len_is ∙ book_length

  pub destination_length : walk.rows (after_calls l os).counters 0 ≡ length (book l os)
  destination_length = (finished_built l b accepted os).0 ∙ reached_length

  -- and its row i reads as entry i
  pub book_row : (i : ℕ) → i < (finished_of l os).len → read (type_in l) (finished_of l os) i ≡ get_or (book l os) i null
  book_row i q =
      ap (read (type_in l) (finished_of l os)) (sym (zero-add i))
      ∙ sym (get_d_seg (read (type_in l) (finished_of l os)) 0 (finished_of l os).len i null q)
      ∙ ap (λ r. get_or r i null) the_book
