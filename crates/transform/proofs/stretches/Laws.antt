-- An order that the walk by stretches answers is the order of the walk of a copy. Assumes nothing.
use mathlib.Core.Path.{◌≡◌, refl, sym, ap, subst, ◌∙◌}
use mathlib.Core.Bool.{Bool, true, false, cond}
use mathlib.Core.List.{List}
use Prim.Native.Nat.{ℕ, zero, suc, ◌≤◌, ◌<◌}
use native.Mathlib.Omega.{arith}
use lib.ListN.{length, get_or}
use Rattle.bits.proofs.Laws.{Below}
use Rattle.walk.specs.State.{Join, top}
use Rattle.walk.specs.Log.{Out, Did, apply, apply_if}
use Rattle.walk.specs.Copy.{copy_walk}
use Rattle.leaf_walk.specs.Join.{join}
use Rattle.plan.specs.parts.Parts.{parts_within, parts_hold}
use Rattle.sound.proofs.trying.Near.{Near, near_same}
use Rattle.refinement.specs.orders.Order.{Lent, settled}
use Rattle.batch.specs.Rise.{parts_rise}
use Rattle.batch.specs.Batch.{batch_walk_of}
use Rattle.batch.proofs.Ends.{Leaves}
use Rattle.batch.proofs.Tally.{Counts}
use Rattle.batch.proofs.Answers.{batch_answers}
use Rattle.batch.proofs.Theorem.{batch_writes}
use Rattle.transform.specs.Answer.{Answers}
use Rattle.transform.proofs.Laws.{settled_parts, settled_made}

-- a walk that only tries leaves the room
pub dry_room : {S P : List ℕ} {o : Out} {room c room1 : List ℕ} {g : ℕ} → Did S P false o room g c room1 → room1 ≡ room
unfolding apply_if
dry_room d = d.bytes

pub counters_of_lem : (c : List ℕ) → length c ≡ 96 → ((q : ℕ) → get_or c q 0 ≤ top) → Counts c
counters_of_lem c l h = record { long = l; small = h }

both_held : (a b : Bool) {p : ℕ} → p ≡ cond a (cond b 0 13) 14 → p ≡ 0 → (a ≡ true) × (b ≡ true)
both_held true true e h = (refl, refl)
both_held true false e h = let z : ◌≡◌ {A = ℕ} 13 0 = sym e ∙ h in absurd (omega (arith, z))
both_held false b e h = let z : ◌≡◌ {A = ℕ} 14 0 = sym e ∙ h in absurd (omega (arith, z))

module _ (x : Lent) (counters room : List ℕ) (first source start n : ℕ) (f : Counts counters) where
  abbrev X : Join
  X = join x.plan x.parts x.lengths x.places x.body first source

  abbrev Batch : List ℕ → Out
  Batch l = batch_walk_of X 0 start n l

  abbrev Copy : List ℕ → Out
  Copy l = copy_walk X 8 0 start n l

  -- tried by stretches
  module _ {g : ℕ} {l1 c1 room1 : List ℕ} (e : l1 ≡ counters) (d : Did x.plan x.parts false (Batch l1) room g c1 room1) (h : g ≡ 0) where
    tried : Did x.plan x.parts false (Batch counters) room g c1 room1
    tried = subst (λ z. Did x.plan x.parts false (Batch z) room g c1 room1) e d

    answers : (Batch counters).ans ≡ 0
    answers = sym tried.answer ∙ h

    left : Leaves (Copy counters) (Batch counters).counters
    left = batch_answers X 0 start n counters f answers

    as_copy : Did x.plan x.parts false (Copy counters) room g c1 room1
    unfolding apply_if
    as_copy = record { answer = h ∙ sym left.ok; counters = tried.counters ∙ sym left.left; bytes = tried.bytes }

    same_room : room1 ≡ room
    unfolding apply_if
    same_room = tried.bytes

    module _ {p : ℕ} (q : p ≡ cond (parts_within x.plan x.parts (length room1)) (cond (parts_hold x.plan c1 x.parts) 0 13) 14) where
      pub stretches_parts : (p ≡ 0 → ⊥) → Answers (settled x counters room (Copy counters)) p counters room1
      stretches_parts k = settled_parts x counters room Copy {l1 = counters} (near_same refl) as_copy h q k

      module _ (k : p ≡ 0) (body : Below 256 x.body) (bytes : Below 256 room) (less : length room < top) (rise : parts_rise x.plan x.parts ≡ true)
          {l2 : List ℕ} {r : ℕ} {c2 room2 c3 : List ℕ} (i : l2 ≡ counters) (made : Did x.plan x.parts true (Batch l2) room1 r c2 room2) (s : c3 ≡ c2) where
        again : Did x.plan x.parts true (Batch counters) room1 r c2 room2
        again = subst (λ z. Did x.plan x.parts true (Batch z) room1 r c2 room2) i made

        held : (parts_within x.plan x.parts (length room1) ≡ true) × (parts_hold x.plan c1 x.parts ≡ true)
        held = both_held (parts_within x.plan x.parts (length room1)) (parts_hold x.plan c1 x.parts) q k

        written : apply x.plan x.parts (Copy counters).log room ≡ apply x.plan x.parts (Batch counters).log room
        written =
            batch_writes X 0 start n counters room f body bytes less answers
            (subst (λ z. parts_within x.plan x.parts (length z) ≡ true) same_room held.0)
            (subst (λ z. parts_hold x.plan z x.parts ≡ true) tried.counters held.1) rise

        made_copy : Did x.plan x.parts true (Copy counters) room1 r c2 room2
        unfolding apply_if
        made_copy =
            record {
              answer = again.answer ∙ answers ∙ sym left.ok;
              counters = again.counters ∙ sym left.left;
              bytes = again.bytes ∙ ap (apply x.plan x.parts (Batch counters).log) same_room ∙ sym written ∙ ap (apply x.plan x.parts (Copy counters).log) (sym same_room);
            }

        pub stretches_made : Answers (settled x counters room (Copy counters)) r c3 room2
        stretches_made = settled_made x counters room Copy {l1 = counters} (near_same refl) as_copy h q k refl made_copy s

        pub stretches_zero : r ≡ 0
        stretches_zero = again.answer ∙ answers
