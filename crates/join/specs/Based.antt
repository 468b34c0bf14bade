-- Which numbers of the finished tables are positions in the room: those at which a copied node's buffers begin. They move with `base`, where
-- the room begins in the body that the tables are about; no other number does. With base 0 they are positions in the room itself, and
-- all others (kept dictionaries, views' data buffers) positions in the sources' body. Assumes nothing.
use Rattle.std.specs.Prelude.{Bool, false, not, cond, ◌&&◌, List, ℕ, eqb}
use Rattle.model.specs.Book.{Call}
use Rattle.plan.specs.parts.Parts.{copied, has_part}
use Rattle.refinement.specs.finishing.Finish.{zeros_at}
use Rattle.join.specs.Join.{Lending, lent_of, after_calls}

module _ (l : Lending) (os : List Call) where
  -- the bits of node i that are 0 among its rows
  abbrev pub zeros_in : ℕ → ℕ
  zeros_in i = zeros_at (lent_of l) l.tables.buffers (after_calls l os).counters (after_calls l os).room 0 i

  -- number j of the nine of node i: where its validity begins, if it is not dropped, its first buffer and its second
  abbrev pub in_room : ℕ → ℕ → Bool
  in_room i j =
      copied (lent_of l).plan i
      && cond (eqb j 1) (not (eqb (zeros_in i) 0)) (cond (eqb j 3) (has_part (lent_of l).plan i 1) (cond (eqb j 5) (has_part (lent_of l).plan i 2) false))
