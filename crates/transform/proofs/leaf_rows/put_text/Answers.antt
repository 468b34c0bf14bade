-- `transform::leaf_rows::put_text` meets its contract. Assumes nothing.
use mathlib.Core.Path.{◌≡◌, refl, ap}
use mathlib.Core.Bool.{true, not}
use Prim.Native.Nat.{◌+◌, ◌-◌}
use native.Mathlib.Omega.{arith}
use lib.ListN.{length}
use lib.Dec.{leb}
use borrow.Author.Tests.{le-leb}
use Rattle.room_writes.proofs.Bytes.{width_in_lem}
use Rattle.leaf_walk.specs.Join.{join}
use Rattle.leaf_walk.proofs.variable_size.Laws.{string_yes}
use Rattle.transform.proofs.leaf_rows.put_text.Goals as goal

pub returns : goal.returns
returns c =
    let a = c.args in
    let k : leb (c.place.result + a.lead + (a.last - c.at_u64-old.result)) (length a.body.now) ≡ true = le-leb (c.place.result + a.lead + (a.last - c.at_u64-old.result)) (length a.body.now) (rw (c.place.ensures, c.at_u64-old.ensures) c.requires.i_in_bounds) in
    λ lengths source. string_yes (join a.plan.now a.parts.now lengths a.places.now a.body.now a.first source) a.i true a.counters.now a.room.now a.w a.from a.n a.last a.lead c.place.ensures c.at_u64-old.ensures refl (ap not k) c.at_u64.ensures c.grow.ensures c.scale-o.ensures (width_in_lem a.w (λ p q. c.requires.w_value)).0 (omega (arith, c.well_formed)) c.put_offsets.ensures c.put_copy.ensures refl
