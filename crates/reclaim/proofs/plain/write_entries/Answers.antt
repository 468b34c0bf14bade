-- `reclaim_walk::plain::write_entries` meets its contract. Assumes nothing.
use mathlib.Core.Path.{◌≡◌, refl, sym, ap, ap₂, subst, ◌∙◌}
use mathlib.Core.Bool.{Bool, true, false, not, false≢true}
use Prim.Native.Nat.{ℕ, ◌+◌, ◌*◌, ◌≤◌, ◌<◌}
use native.Mathlib.Nat.{mul_comm, mul-add}
use native.Mathlib.Omega.{arith}
use lib.ListN.{length}
use Rattle.number.specs.Number.{splice}
use Rattle.walk.specs.State.{code_of, bytes_of, scaled, top, place, offset_of}
use Rattle.walk.specs.Log.{start_of}
use Rattle.room_writes.proofs.Laws.{Made, made}
use Rattle.room_writes.proofs.Bytes.{width_in_lem}
use Rattle.leaf_walk.proofs.Widths.{fixed_width}
use Rattle.reclaim.specs.used_entries.Keys.{KeyWidth}
use Rattle.walk.specs.State.{Join}
use Rattle.reclaim.specs.used_entries.Chosen.{chosen, risen}
use Rattle.reclaim.specs.reclaim_walk.Plain.{Plain, alone, chosen_of, entry_place}
use mathlib.Core.List.{List}
use Rattle.reclaim.proofs.plain.write_entries.Goals as goal

is_false : (b : Bool) → not b ≡ true → b ≡ false
is_false true e = sym e
is_false false e = refl

is_true : (b : Bool) → not b ≡ false → b ≡ true
is_true true e = refl
is_true false e = sym e

-- where they begin in the room, and that they fit
fits : (start have n w m a : ℕ) {o k : ℕ} → o ≡ scaled have w → k ≡ scaled n w → Made true start o k m a → m < top → (a ≡ start + have * w) × (start + have * w + w * n ≤ m)
unfolding scaled
fits start have n w m a eo ek d l = (omega (arith, d.at, d.within, eo), omega (arith, d.at, d.within, eo, ek, mul_comm n w))

-- the entries that are lent, and those of them that the ranks name
module _ (x : Join) (ranks : List ℕ) (base count : ℕ) (p : Plain x base count) {w at off : ℕ} (ew : w ≡ bytes_of x.plan 1) (ea : at ≡ place x 1 3) (eo : off ≡ offset_of x 1) where
  key_width : KeyWidth w
  key_width = subst KeyWidth (sym ew) (fixed_width (code_of x.plan 1) p.number)

  from_is : at + w * (off + base) ≡ entry_place x base
  from_is = ap₂ (λ p q. p + q) ea (ap₂ (λ p q. p * (q + base)) ew eo)

  body_in : entry_place x base + bytes_of x.plan 1 * count ≤ length x.body
  body_in = omega (arith, p.inside, mul-add (bytes_of x.plan 1) (offset_of x 1 + base) count)

  from_in : at + w * (off + base) ≤ length x.body
  from_in = omega (arith, from_is, body_in)

  those_are : chosen x.body (at + w * (off + base)) w (risen ranks) count ≡ chosen_of x base ranks count
  those_are = ap₂ (λ p q. chosen x.body p q (risen ranks) count) from_is ew

  ends_in : at + w * (off + base) + w * count ≤ length x.body
  ends_in = omega (arith, from_is, body_in, ap (λ v. v * count) ew)

pub returns-then-not-write : goal.returns-then-not-write
returns-then-not-write c =
    let f = is_false c.args.write c.if-not-write.true-raw in
    record { stand = (λ z. ((λ h. absurd (false≢true (sym f ∙ h))), rw f)); room_value = λ z. absurd (false≢true (sym z)) }

pub scale-requires : goal.scale-requires
scale-requires c = width_in_lem c.width_at-w.result (subst KeyWidth (sym c.width_at-w.ensures) (fixed_width (code_of c.args.plan.now 1) c.requires.first_bound.2.number))

pub scale-requires-2 : goal.scale-requires-2
scale-requires-2 c = width_in_lem c.width_at-w.result (subst KeyWidth (sym c.width_at-w.ensures) (fixed_width (code_of c.args.plan.now 1) c.requires.first_bound.2.number))

pub overflow_add-slot : goal.overflow_add-slot
overflow_add-slot c = omega (arith, c.requires.first_bound.2.slots, c.offset_of.ensures)

pub overflow_mul-from : goal.overflow_mul-from
overflow_mul-from c = omega (arith, from_in (alone c.args.plan.now c.args.lengths.now c.args.places.now c.args.body.now c.args.first) c.args.ranks.now c.args.base c.args.count c.requires.first_bound.2 c.width_at-w.ensures c.place.ensures c.offset_of.ensures)

pub overflow_add-from : goal.overflow_add-from
overflow_add-from c = omega (arith, from_in (alone c.args.plan.now c.args.lengths.now c.args.places.now c.args.body.now c.args.first) c.args.ranks.now c.args.base c.args.count c.requires.first_bound.2 c.width_at-w.ensures c.place.ensures c.offset_of.ensures)

pub write_used-requires : goal.write_used-requires
write_used-requires c =
    let a = c.args in
    let m = made a.plan.now a.parts.now (length a.room.now) true 1 1 c.scale.result c.scale-2.result c.target.ensures c.in-Some.is in
    let f = fits (start_of a.plan.now a.parts.now 1 1) a.have a.n c.width_at-w.result (length a.room.now) _ c.scale.ensures c.scale-2.ensures m (omega (arith, c.well_formed)) in
    let z = those_are (alone c.args.plan.now c.args.lengths.now c.args.places.now c.args.body.now c.args.first) c.args.ranks.now c.args.base c.args.count c.requires.first_bound.2 c.width_at-w.ensures c.place.ensures c.offset_of.ensures in
    let to : start_of a.plan.now a.parts.now 1 1 + a.have * c.width_at-w.result + bytes_of a.plan.now 1 * a.n ≤ length a.room.now = omega (arith, f.1, ap (λ v. v * a.n) c.width_at-w.ensures) in
    (key_width (alone c.args.plan.now c.args.lengths.now c.args.places.now c.args.body.now c.args.first) c.args.ranks.now c.args.base c.args.count c.requires.first_bound.2 c.width_at-w.ensures c.place.ensures c.offset_of.ensures, c.requires.first_bound.1, ends_in (alone c.args.plan.now c.args.lengths.now c.args.places.now c.args.body.now c.args.first) c.args.ranks.now c.args.base c.args.count c.requires.first_bound.2 c.width_at-w.ensures c.place.ensures c.offset_of.ensures, omega (arith, to, ap length z, c.requires.count_value))

pub returns-in-Some : goal.returns-in-Some
returns-in-Some c =
    let a = c.args in
    let m = made a.plan.now a.parts.now (length a.room.now) true 1 1 c.scale.result c.scale-2.result c.target.ensures c.in-Some.is in
    let f = fits (start_of a.plan.now a.parts.now 1 1) a.have a.n c.width_at-w.result (length a.room.now) _ c.scale.ensures c.scale-2.ensures m (omega (arith, c.well_formed)) in
    let e = c.width_at-w.ensures in
    let h = is_true a.write c.if-not-write.false-raw in record {
      stand = (λ z. (
        (λ y. omega (arith, f.1, ap (λ v. a.have * v) e, ap (λ v. v * a.n) e)),
        rw h (c.write_used.ensures ∙ ap₂ (λ p b. splice p b a.room.now) (f.0 ∙ ap (λ v. start_of a.plan.now a.parts.now 1 1 + a.have * v) e) (those_are (alone c.args.plan.now c.args.lengths.now c.args.places.now c.args.body.now c.args.first) c.args.ranks.now c.args.base c.args.count c.requires.first_bound.2 c.width_at-w.ensures c.place.ensures c.offset_of.ensures)),
      ));
      room_value = λ z. absurd (false≢true (sym z));
    }

pub returns-in-None : goal.returns-in-None
returns-in-None c = record { stand = (λ z. absurd (false≢true z)); room_value = λ z. refl }
