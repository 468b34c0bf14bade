-- ONE RUN FOR A GAP, where it is not chosen: over any list of calls the destination is the one that the Rust's orders make (specs/Rust.antt). Assumes nothing.
use mathlib.Core.Path.{◌≡◌, subst}
use mathlib.Core.Bool.{false}
use mathlib.Core.List.{List, foldl}
use Prim.Native.Nat.{ℕ}
use lib.ListN.{length}
use Rattle.model.specs.Try.{after}
use Rattle.model.specs.Transform.{Destination}
use Rattle.model.specs.Book.{Call}
use Rattle.model.specs.Orders.{perform}
use Rattle.refinement.specs.finishing.Finish.{null_table}
use Rattle.refinement.specs.finishing.Shows.{Bodied}
use Rattle.join.specs.Join.{Lending, Bytes, sources_in, tree_in, type_in, columns_in, opening_of, lent_of, after_calls, tables_at, tables_of, first, reached_by, carried_out}
use Rattle.join.specs.Rust.{rust_perform}
use Rattle.join.specs.Built.{Built}
use Rattle.join.proofs.GapStay.{same_is, call_off, gaps_stay, rust_reached_lem}
use Rattle.join.proofs.Demand2.{built_at, behind_body}

-- ---- a whole join: after an accepted opening with the choice off, and any list of calls, refused ones included

module _ (l : Lending) (b : Bytes l) (accepted : (opening_of l).refusal ≡ 0) (off : l.gaps ≡ false) (os : List Call) where
  -- the Rust's destination
  abbrev pub rust_reached : Destination (type_in l)
  rust_reached = foldl (λ d o. after (rust_perform (type_in l) (sources_in l) (columns_in l) o d) d) (first l) (carried_out l os)

  -- THE DESTINATION is what the Rust's orders make of the calls that are carried out
  pub reached_as_rust : reached_by l os ≡ rust_reached
  reached_as_rust = rust_reached_lem l os off

  -- one more call is answered and carried out as by them
  pub next_as_rust : (o : Call) → perform (type_in l) (sources_in l) (columns_in l) o (reached_by l os) ≡ rust_perform (type_in l) (sources_in l) (columns_in l) o (reached_by l os)
  next_as_rust o = same_is (call_off (type_in l) (sources_in l) (columns_in l) o (reached_by l os) (gaps_stay l os off))

  -- THE BYTES, LENGTHS, VALIDITY AND NULL COUNTS of the finished tables, over any body z in which the room stands from `base` on and the sources' body where it was
  pub built_as_rust : (base : ℕ) (z : List ℕ) → Bodied z (lent_of l) (after_calls l os).room base
      → Built (tree_in l) (tables_at l os base z) (null_table (lent_of l) l.tables.buffers (after_calls l os).counters (after_calls l os).room base) (after_calls l os).counters (sources_in l) (type_in l) 0 (columns_in l) rust_reached
  built_as_rust base z laid =
      subst (Built (tree_in l) (tables_at l os base z) (null_table (lent_of l) l.tables.buffers (after_calls l os).counters (after_calls l os).room base) (after_calls l os).counters (sources_in l) (type_in l) 0 (columns_in l)) reached_as_rust
      (built_at l b accepted os base z laid)

  -- .. and so over the sources' body with the room behind it
  pub finished_as_rust : Built (tree_in l) (tables_of l os) (null_table (lent_of l) l.tables.buffers (after_calls l os).counters (after_calls l os).room (length l.tables.body)) (after_calls l os).counters (sources_in l) (type_in l) 0 (columns_in l) rust_reached
  finished_as_rust = built_as_rust (length l.tables.body) _ (behind_body l b accepted os)
