-- `trip::held_ground` meets its contract. Assumes nothing.
use mathlib.Core.Path.{◌≡◌, refl}
use mathlib.Core.Bool.{true, false}
use Rattle.array_data.proofs.lent_tables.Laws.{no, yes}
use Rattle.trip.proofs.held_ground.Goals as goal

pub returns-then-not-within : goal.returns-then-not-within
returns-then-not-within c =
    let w : c.args.within ≡ false = no refl c.if-not-within.true-raw in
    rw w

pub returns-then-not-parts_hold : goal.returns-then-not-parts_hold
returns-then-not-parts_hold c =
    let w : c.args.within ≡ true = yes refl c.if-not-within.false-raw in
    rw (w, no c.parts_hold.ensures c.if-not-parts_hold.true-raw)

pub returns : goal.returns
returns c =
    let w : c.args.within ≡ true = yes refl c.if-not-within.false-raw in
    rw (w, yes c.parts_hold.ensures c.if-not-parts_hold.false-raw)
