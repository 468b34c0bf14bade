-- AN OPENING on lent memory does what the model's opening does, and after an accepted one orders run. Assumes nothing.
use mathlib.Core.Path.{◌≡◌, refl, sym, subst}
use mathlib.Core.Bool.{Bool, true, false, cond}
use mathlib.Core.Option.{none, some}
use mathlib.Core.List.{List, []}
use Prim.Native.Nat.{ℕ, ◌<◌}
use native.Mathlib.Omega.{arith}
use lib.ListN.{length, replicate}
use borrow.Author.Tests.{eq-eqb, ne_eqb}
use Rattle.bits.specs.Bits.{bits_at}
use Rattle.columnar.specs.Types.{Ty}
use Rattle.columnar.specs.Reading.{Body, Column, masks}
use Rattle.array_data.specs.Tables.{Tables}
use Rattle.walk.specs.Log.{Out, apply}
use Rattle.model.specs.Try.{Try, done, stop, then, guard}
use Rattle.model.specs.Opening.{keeps}
use Rattle.model.specs.Mutable.{keeps_bits}
use Rattle.model.specs.Transform.{Destination, open_data, start}
use Rattle.model.proofs.Law.{FineNode}
use Rattle.model.proofs.Nodes.{FineOf}
use Rattle.model.proofs.Start.{start_fine, start_keep}
use Rattle.model.proofs.Book.{State}
use Rattle.refinement.specs.walk_is_model.Memory.{Memory, after, AllInPlace}
use Rattle.refinement.specs.walk_is_model.Holds.{Holds}
use Rattle.refinement.proofs.walk_is_model.Frame.{same_refl}
use Rattle.refinement.proofs.walk_is_model.Goes.{Goes, good, over}
use Rattle.refinement.specs.log_in_room.Room.{AllBelow, HasBits, Placed, Lies, Fits, AllUsed}
use Rattle.refinement.proofs.log_in_room.Applied.{room_lies, room_long}
use Rattle.plan.specs.parts.Parts.{parts_hold, parts_within, Used}
use Rattle.refinement.specs.orders.Order.{Lent}
use Rattle.refinement.proofs.orders.Own.{Bounded}
use Rattle.refinement.proofs.orders.Step.{Joined, first_opened, obeys, lawful, Running}
use Rattle.refinement.specs.opening.Open.{Opening, open_walk_of, opened, refused, settled}
use Rattle.refinement.specs.opening.Kept.{Kept}
use Rattle.refinement.specs.opening.Entries.{EntriesLent, Joins}
use Rattle.refinement.specs.opening.Fits.{open_fits, open_in}
use Rattle.refinement.proofs.opening.Fitting.{all_bounded, open_same}

-- a memory with nothing in it, which every room holds
abbrev nothing : Memory
nothing = record { at = λ i b. []; bits = λ i. [] }

no_bits : (start : ℕ) (room : List ℕ) → HasBits start [] room
unfolding bits_at
no_bits start room = record { run = refl; rest = λ p l q. absurd (omega arith) }

nothing_lies : (plan parts : List ℕ) (U : ℕ → ℕ → Type 0) (room : List ℕ) → AllBelow 256 room → Lies plan parts U room nothing
nothing_lies plan parts U room h = record { are_bytes = h; bytes_lie = λ i b u l. refl; bits_lie = λ i u. no_bits _ room }

kept_bits_lem : (b : Bool) → keeps_bits (cond b (some []) none) ≡ b
kept_bits_lem true = refl
kept_bits_lem false = refl

module _ (formats schema sources : List ℕ) (x : Tables) (keep gaps : Bool) (parts : List ℕ) (t : Ty) (m : ℕ) (ss : ℕ → Column t) where
  -- what every order is then lent
  abbrev lent : Lent
  lent = opened formats schema sources x keep gaps parts

  abbrev bodies : ℕ → Body t
  bodies j = (ss j).body

  -- the model's destination with no rows
  abbrev begun : Destination t
  begun = start gaps t keep m ss

  module _ (plan counters room : List ℕ) where
    -- an answer and what the opening comes to: orders run from there, or plan, counters and room are as they were
    pub data Opens : Try (Destination t) → Opening → Type 0 where
      opens : (d : Destination t) (a : Opening) → a.refusal ≡ 0 → a.plan ≡ lent.plan → (join : Joined lent t m ss) (μ : Memory)
          → Running lent t m ss join (keeps keep m ss) a.counters μ d a.counters a.room → Joins lent.plan t 0 m bodies a.counters μ → Opens (done d) a
      not_opened : (g : ℕ) (a : Opening) → a.refusal ≡ g → 0 < g → a.plan ≡ plan → a.counters ≡ counters → a.room ≡ room → Opens (stop g) a

    abbrev after_walk : Out → Opening
    after_walk = settled formats schema sources x keep gaps parts plan counters room

    abbrev refuse_with : ℕ → Opening
    refuse_with = refused formats schema sources x keep gaps parts plan counters room

    -- what the walk of an opening leaves
    abbrev Begun : List ℕ → Memory → Type 0
    Begun c μ = Holds lent.plan t 0 begun c μ × Joins lent.plan t 0 m bodies c μ × (length c ≡ 96)

    module _ (kept : Kept lent.plan m t 0 (keeps keep m ss) bodies) (values : EntriesLent lent t 0 m bodies) (placed : Placed lent.plan parts (Used lent.plan) (length room))
        (inside : parts_within lent.plan parts (length room) ≡ true) (room_bytes : AllBelow 256 room) where
      module _ (join : Joined lent t m ss) (w : Out) (in_place : AllInPlace w.log nothing) (begins : Begun w.counters (after w.log nothing)) (used : AllUsed (Used lent.plan) w.log) where
        abbrev μ : Memory
        μ = after w.log nothing

        fine : FineNode (masks t) (FineOf t m bodies) m ss begun
        fine = start_fine gaps t keep m ss join.some_source (first_opened lent t m ss join).formed

        abbrev enough : Bool
        enough = open_fits lent.plan parts t 0 m bodies begun

        same : parts_hold lent.plan w.counters parts ≡ enough
        same =
            open_same lent join.laid w.counters μ m join.all_nodes_lem t (keeps keep m ss) ss begun (first_opened lent t m ss join).worded (first_opened lent t m ss join).formed fine begins.0 (obeys lent t m ss join) values kept
            begins.1

        abbrev room' : List ℕ
        room' = apply lent.plan parts w.log room

        module _ (e : enough ≡ true) where
          bounded : (i b : ℕ) → Used lent.plan i b → Bounded lent.plan parts w.counters μ i b
          bounded =
              all_bounded lent join.laid w.counters μ m join.all_nodes_lem t (keeps keep m ss) ss begun (first_opened lent t m ss join).worded (first_opened lent t m ss join).formed fine begins.0 (obeys lent t m ss join) values kept
              begins.1 e

          fitting : Fits lent.plan parts (Used lent.plan) μ
          fitting = record { bytes_fit = λ i b u l. (bounded i b u).bytes_in_lem l; bits_fit = λ i u. (bounded i 0 u).bits_in_lem refl }

          lies_first : Lies lent.plan parts (Used lent.plan) room nothing
          lies_first = nothing_lies lent.plan parts (Used lent.plan) room room_bytes

          long_room : length room' ≡ length room
          long_room = room_long lent.plan parts (Used lent.plan) w.log room nothing placed lies_first in_place used fitting

          begun_state : State t m ss (lawful lent t m ss join) (obeys lent t m ss join) (keeps keep m ss) begun
          begun_state = record { fine = fine; keeps_is = kept_bits_lem (keeps keep m ss); keeps_below = λ h. (start_keep gaps t keep m ss h).below }

          running : Running lent t m ss join (keeps keep m ss) w.counters μ begun w.counters room'
          running =
              record {
                long = begins.2;
                memory = μ;
                holds = begins.0;
                lies = room_lies lent.plan parts (Used lent.plan) w.log room nothing placed lies_first in_place used fitting;
                placed = subst (Placed lent.plan parts (Used lent.plan)) (sym long_room) placed;
                within = subst (λ n. parts_within lent.plan parts n ≡ true) (sym long_room) inside;
                state = begun_state;
                short_of = omega arith;
                rest = λ i b u n. bounded i b u;
                stay = λ j n. same_refl w.counters μ j;
              }

        by_test : (b f : Bool) → b ≡ f → (f ≡ true → Running lent t m ss join (keeps keep m ss) w.counters μ begun w.counters room')
            → Opens (guard f 13 (done begun)) (cond b (record { refusal = 0; plan = lent.plan; counters = w.counters; room = room' }) (refuse_with 13))
        by_test true true e r = opens begun (record { refusal = 0; plan = lent.plan; counters = w.counters; room = room' }) refl refl join μ (r refl) begins.1
        by_test false false e r = not_opened 13 (refuse_with 13) refl (omega arith) refl refl refl
        by_test true false e r = absurd (let z : ◌≡◌ {A = ℕ} 0 1 = cc e in omega arith)
        by_test false true e r = absurd (let z : ◌≡◌ {A = ℕ} 0 1 = cc e in omega arith)

        settled_done : w.ans ≡ 0 → Opens (guard enough 13 (done begun)) (after_walk w)
        unfolding settled
        settled_done e = rw (eq-eqb w.ans 0 e) (by_test (parts_hold lent.plan w.counters parts) enough same running)

      settled_stop : (g : ℕ) (w : Out) → w.ans ≡ g → 0 < g → Opens (stop g) (after_walk w)
      unfolding settled
      settled_stop g w e p = rw (ne_eqb w.ans 0 (λ z. omega (arith, z, e))) (not_opened g (refuse_with w.ans) e p refl refl refl)

      settle : (p : Try (Unit {0})) (w : Out) → (p ≡ done tt → Joined lent t m ss) → Goes nothing (λ y c μ. Begun c μ) p w → AllUsed (Used lent.plan) w.log
          → Opens (then p (λ y. guard (open_fits lent.plan parts t 0 m bodies begun) 13 (done begun))) (after_walk w)
      settle _ _ join (good y w e pl q) used = settled_done (join refl) w pl q used e
      settle _ _ join (over g w e pos) used = settled_stop g w e pos

      -- THE OPENING: its answer is the model's, and orders run from there, or it changes nothing
      pub opening_step : (open_data t m bodies ≡ done tt → Joined lent t m ss) → Goes nothing (λ y c μ. Begun c μ) (open_data t m bodies) (open_walk_of lent (replicate 96 0))
          → AllUsed (Used lent.plan) (open_walk_of lent (replicate 96 0)).log → Opens (open_in lent.plan parts gaps t keep m ss) (after_walk (open_walk_of lent (replicate 96 0)))
      opening_step join goes used = settle (open_data t m bodies) (open_walk_of lent (replicate 96 0)) join goes used
