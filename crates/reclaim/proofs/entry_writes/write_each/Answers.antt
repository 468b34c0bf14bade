-- `used_entries::entries::write_each` meets its contract. The invariant: those of the first j entries are written. Assumes nothing.
use mathlib.Core.Path.{◌≡◌, refl, sym, ap, ◌∙◌}
use mathlib.Core.Logic.{⊎_elim}
use mathlib.Core.Bool.{true, false}
use mathlib.Core.List.{List}
use Prim.Native.Nat.{ℕ, suc, ◌+◌, ◌*◌, ◌-◌, ◌≤◌, ◌<◌}
use native.Mathlib.Nat.{mul-le-mul_left}
use native.Mathlib.Numerals.{add-one}
use native.Mathlib.Omega.{arith}
use lib.ListN.{length, get_or}
use borrow.Author.Tests.{lt-ltb, le-ltb}
use Rattle.number.specs.Number.{entry, encode, splice}
use Rattle.number.proofs.Laws.{splice_nil}
use Rattle.reclaim.specs.used_entries.Chosen.{chosen, risen}
use Rattle.reclaim.proofs.used_entries.Chosen.{chosen_none, chosen_up, chosen_same, length_more, chosen_step}
use Rattle.reclaim.proofs.entry_writes.write_each.Goals as goal

module _ (body : List ℕ) (from w : ℕ) (ranks : List ℕ) (count j to : ℕ) (room old : List ℕ) (l : j + 1 ≤ count) (inside : from + w * count ≤ length body) (fits : to + length (chosen body from w (risen ranks) count) ≤ length old) where
  entry_in_lem : from + w * suc j ≤ length body
  entry_in_lem = omega (arith, mul-le-mul_left {m = suc j} {n = count} w (omega arith))

  more_in : to + length (chosen body from w (risen ranks) (suc j)) ≤ length old
  more_in = omega (arith, chosen_up body from w (risen ranks) (suc j) count (omega arith))

  -- an entry in use has room
  room_for : risen ranks j ≡ true → to + length (chosen body from w (risen ranks) j) + w ≤ length old
  room_for h = omega (arith, more_in, length_more body from w (risen ranks) j entry_in_lem h)

  step_yes : ((i : ℕ) → get_or body i 0 < 256) → risen ranks j ≡ true → {o v : ℕ} {room' : List ℕ} → o ≡ to + length (chosen body from w (risen ranks) j) → room ≡ splice to (chosen body from w (risen ranks) j) old
      → v ≡ entry w body from j → room' ≡ splice o (encode w v) room → (o + w ≡ to + length (chosen body from w (risen ranks) (j + 1))) × (room' ≡ splice to (chosen body from w (risen ranks) (j + 1)) old)
  step_yes small h {o} {v} {room'} p q e r =
      rw (add-one j)
      ((omega (arith, length_more body from w (risen ranks) j entry_in_lem h), chosen_step body from w (risen ranks) j entry_in_lem small h to o v room room' old more_in p q e r))

  step_no : risen ranks j ≡ false → {o : ℕ} → o ≡ to + length (chosen body from w (risen ranks) j) → room ≡ splice to (chosen body from w (risen ranks) j) old
      → (o ≡ to + length (chosen body from w (risen ranks) (j + 1))) × (room ≡ splice to (chosen body from w (risen ranks) (j + 1)) old)
  step_no h p q = rw (add-one j, chosen_same body from w (risen ranks) j h) ((p, q))

pub loop-j-init : goal.loop-j-init
loop-j-init c =
    let a = c.args in
    let z : length (chosen a.body.now a.from a.w (risen a.ranks.now) 0) ≡ 0 = ap length (chosen_none a.body.now a.from a.w (risen a.ranks.now)) in
    (omega arith, sym (ap (λ b. splice a.to b a.room.now) (chosen_none a.body.now a.from a.w (risen a.ranks.now)) ∙ splice_nil a.to a.room.now))

pub key_at-v-requires : goal.key_at-v-requires
key_at-v-requires c = record { key_width = c.requires.0; k_in_bounds = omega (arith, c.requires.2, mul-le-mul_left {m = c.loop-j.j + 1} {n = c.args.count} c.args.w (omega arith)) }

pub write_number-requires : goal.write_number-requires
write_number-requires c =
    let a = c.args in
    let l = c.loop-j in
    let f = room_for a.body.now a.from a.w a.ranks.now a.count l.j a.to l.room a.room.now (omega arith) c.requires.2 c.requires.3 (lt-ltb _ _ c.if-ranks-j.true) in
    record { w_in_bounds = omega (arith, f, l.invariant.0); key_width = c.requires.0 }

pub overflow_add-o : goal.overflow_add-o
overflow_add-o c =
    let a = c.args in
    let l = c.loop-j in
    let f = room_for a.body.now a.from a.w a.ranks.now a.count l.j a.to l.room a.room.now (omega arith) c.requires.2 c.requires.3 (lt-ltb _ _ c.if-ranks-j.true) in
    omega (arith, f, l.invariant.0)

pub loop-j-preserved : goal.loop-j-preserved
loop-j-preserved c =
    let a = c.args in
    let l = c.loop-j in
    ⊎_elim
    (λ q.
    let f = step_yes a.body.now a.from a.w a.ranks.now a.count l.j a.to l.room a.room.now (omega arith) c.requires.2 c.requires.3 (λ i. (c.shared_slice_known-1.given i).fits) (lt-ltb _ _ q.if-ranks-j.true) l.invariant.0 l.invariant.1 q.key_at-v.ensures q.write_number.ensures in
    (q.o-is ∙ f.0, q.room-is ∙ f.1))
    (λ q.
    let f = step_no a.body.now a.from a.w a.ranks.now a.count l.j a.to l.room a.room.now (omega arith) c.requires.2 c.requires.3 (le-ltb _ _ q.if-ranks-j.false) l.invariant.0 l.invariant.1 in
    (q.o-is ∙ f.0, q.room-is ∙ f.1))
    c.if-ranks-j.branch-raw

pub returns : goal.returns
returns c =
    let a = c.args in
    let l = c.loop-j in
    let z : l.j ≡ a.count = omega arith in
    l.invariant.1 ∙ ap (λ n. splice a.to (chosen a.body.now a.from a.w (risen a.ranks.now) n) a.room.now) z
