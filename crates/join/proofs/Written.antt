-- WHAT IS WRITTEN: "An accepted order writes what it adds and otherwise only the last validity byte's free bits; bytes past the used part are
-- not written." A refused call writes nothing (`call-keeps`, `opening-keeps` in Demand1.antt). And nothing is left out, whatever is lent: "gets 12
-- or 14 where it can't be carried out inside the lent memory". Assumes nothing.
use mathlib.Core.Path.{◌≡◌}
use mathlib.Core.Bool.{true}
use mathlib.Core.List.{List}
use Prim.Native.Nat.{ℕ, ◌<◌}
use lib.ListN.{length, replicate}
use Rattle.model.specs.Book.{Call}
use Rattle.refinement.specs.orders.Sound.{plan_sound}
use Rattle.refinement.specs.orders.Order.{Lent, ordered}
use Rattle.refinement.specs.orders.Written.{walk_of, Counters, OnlyAdds, OnlyUsed, AllMade}
use Rattle.refinement.specs.log_in_room.Room.{AllBelow}
use Rattle.refinement.specs.opening.Open.{open_walk_of}
use Rattle.refinement.proofs.orders.Grows.{Fine}
use Rattle.refinement.proofs.orders.Accepted.{fine_orders, order_made, order_writes, order_adds}
use Rattle.refinement.proofs.opening.Opened.{Opened, orders_after}
use Rattle.refinement.proofs.opening.Written.{opening_fine, opening_sound, opening_writes, opening_made}
use Rattle.join.specs.Join.{Lending, Bytes, opening_of, lent_of, after_calls, next_call}
use Rattle.join.proofs.Opens.{runs}

module _ (l : Lending) (b : Bytes l) (accepted : (opening_of l).refusal ≡ 0) where
  -- THE OPENING: every byte that is in no part's used length is as lent
  pub opening_adds : OnlyUsed (lent_of l).plan l.parts l.room (opening_of l).counters (opening_of l).room
  opening_adds = opening_writes l.formats l.schema l.sources l.tables l.keep l.gaps l.parts l.plan l.counters l.room accepted b.body_bytes b.room_bytes

  -- the plan that every later call is lent passes its test
  pub sound : plan_sound (lent_of l).plan ≡ true
  sound = opening_sound l.formats l.schema l.sources l.tables l.keep l.gaps l.parts l.plan l.counters l.room accepted

  -- after any list of calls, refused ones included
  module _ (os : List Call) where
    abbrev opens : Opened l.formats l.schema l.sources l.tables l.keep l.gaps l.parts (opening_of l)
    opens = runs l b accepted

    pub fine : Fine (after_calls l os).counters
    fine =
        fine_orders (lent_of l) sound os (opening_of l).counters (opening_of l).room
        (opening_fine l.formats l.schema l.sources l.tables l.keep l.gaps l.parts l.plan l.counters l.room accepted)

    -- ONE MORE CALL, accepted: every byte that no part has gained is as it was, and so is every bit of the rows before
    pub call_adds_lem : (o : Call) → (next_call l os o).refusal ≡ 0
        → OnlyAdds (lent_of l).plan l.parts (after_calls l os).counters (after_calls l os).room (next_call l os o).counters (next_call l os o).room
    call_adds_lem o h =
        let r = (orders_after l.formats l.schema l.sources l.tables l.keep l.gaps l.parts (opening_of l) opens os).running in
        order_adds (lent_of l) b.body_bytes (after_calls l os).counters (after_calls l os).room (record { rows_top = fine.rows_top }) o h r.lies.are_bytes r.placed.apart

-- ---- NOTHING IS LEFT OUT: an answer of 0 says that every write was made

-- AN OPENING, whatever is lent
pub opening_complete : (l : Lending) → Bytes l → (opening_of l).refusal ≡ 0 → AllMade (lent_of l).plan l.parts (length l.room) (open_walk_of (lent_of l) (replicate 96 0)).log
opening_complete l b h = opening_made l.formats l.schema l.sources l.tables l.keep l.gaps l.parts l.plan l.counters l.room h b.body_bytes

-- AN ORDER, whatever plan, parts, sources, counters and room it is lent: bodies are bytes and counters numbers of 64 bits
module _ (x : Lent) (body : AllBelow 256 x.body) (counters room : List ℕ) (numbers : Counters counters) (o : Call) (answer : (ordered x counters room o).refusal ≡ 0) where
  pub order_complete : AllMade x.plan x.parts (length room) (walk_of x counters o).log
  order_complete = order_made x body counters room numbers o answer

  -- .. into used parts alone
  pub order_inside : AllBelow 256 room → OnlyUsed x.plan x.parts room (ordered x counters room o).counters (ordered x counters room o).room
  order_inside = order_writes x body counters room numbers o answer
