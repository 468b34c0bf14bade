-- A list of calls is accepted exactly where the entry points answer 0 to each, and room is enough exactly where they answer 13 to none.
-- Assumes nothing.
use mathlib.Core.Path.{◌≡◌, refl, sym, ap, ap₂, subst, ◌∙◌}
use mathlib.Core.Logic.{◌↔◌}
use mathlib.Core.Bool.{Bool}
use mathlib.Core.List.{List, [], ◌∷◌}
use Prim.Native.Nat.{ℕ, zero, suc}
use native.Mathlib.Omega.{arith}
use lib.ListN.{length, get_or, replicate}
use Rattle.columnar.specs.Types.{Ty}
use Rattle.columnar.specs.Reading.{Column}
use Rattle.model.specs.Try.{Try, done, stop, map_try, after}
use Rattle.model.specs.Grounds.{Counts}
use Rattle.model.specs.Transform.{Destination, start}
use Rattle.model.specs.Book.{Call}
use Rattle.model.specs.Held.{held}
use Rattle.model.proofs.Start.{held_start}
use Rattle.refinement.specs.walk_is_model.Memory.{Memory}
use Rattle.refinement.specs.orders.Order.{After, Lent, grounds_of}
use Rattle.refinement.specs.orders.Counted.{AllAcceptedRoom, RoomEnough}
use Rattle.refinement.proofs.orders.Step.{Joined, Running, Answers, made, not_made, order_step_lem}
use Rattle.refinement.proofs.orders.Booked.{answer_is}
use Rattle.join.specs.Join.{Lending, Bytes, sources_in, type_in, columns_in, keeps_in, opening_of, lent_of, grounds_in, AllAccepted, Enough}
use Rattle.join.proofs.Opens.{runs}

first_entry_lem : {a b : ℕ} {r s : List ℕ} → ◌≡◌ {A = List ℕ} (a ∷ r) (b ∷ s) → a ≡ b
first_entry_lem e = cc e

other_entries : {a b : ℕ} {r s : List ℕ} → ◌≡◌ {A = List ℕ} (a ∷ r) (b ∷ s) → r ≡ s
other_entries e = cc e

stopped : {A : Type 0} {g h : ℕ} → ◌≡◌ {A = Try A} (stop g) (stop h) → g ≡ h
stopped e = cc e

-- none of these answers is 13
abbrev pub No13 : List ℕ → Type 0
No13 [] = Unit {0}
No13 (g ∷ gs) = (g ≡ 13 → ⊥) × No13 gs

pub none_13 : (gs : List ℕ) → ((i : ℕ) → get_or gs i 0 ≡ 13 → ⊥) → No13 gs
none_13 [] h = tt
none_13 (g ∷ gs) h = (h 0, none_13 gs (λ i. h (suc i)))

pub each_13 : (gs : List ℕ) → No13 gs → (i : ℕ) → get_or gs i 0 ≡ 13 → ⊥
each_13 [] h i e = absurd (let z : ◌≡◌ {A = ℕ} 0 13 = e in omega arith)
each_13 (g ∷ gs) h zero e = h.0 e
each_13 (g ∷ gs) h (suc i) e = each_13 gs h.1 i e

-- every one of these answers is 0
abbrev pub AllZero : List ℕ → Type 0
AllZero gs = gs ≡ replicate (length gs) 0

module _ (x : Lent) (t : Ty) (m : ℕ) (ss : ℕ → Column t) (join : Joined x t m ss) (keep : Bool) (c0 : List ℕ) (μ0 : Memory) where
  abbrev Accepts : List Call → Counts → Type 0
  Accepts = AllAcceptedRoom x.plan x.parts t keep m ss

  accepts : (os : List Call) (d : Destination t) (counters room : List ℕ) → Running x t m ss join keep c0 μ0 d counters room
      → AllZero (grounds_of x counters room os) ↔ Accepts os (held t d)
  unfolding grounds_of
  accepts [] d counters room run = ((λ h. tt), (λ h. refl))
  accepts (o ∷ os) d counters room run =
      go (order_step_lem x t m ss join keep c0 μ0 o d counters room run) (answer_is x t m ss join keep c0 μ0 d counters room run o) (λ d' c r q. accepts os d' c r q)
    where
      go : {p : Try (Destination t)} {s : Try Counts} {a : After} → Answers x t m ss join keep c0 μ0 o d counters room p a → map_try (held t) p ≡ s
          → ((d' : Destination t) (c r : List ℕ) → Running x t m ss join keep c0 μ0 d' c r → AllZero (grounds_of x c r os) ↔ Accepts os (held t d'))
          → AllZero (a.refusal ∷ grounds_of x a.counters a.room os) ↔ (elim s as (λ b. Type 0) [ done c' ↦ Accepts os c' | stop g ↦ ⊥ ])
      go (made d' a e r did) q f =
          subst (λ s. AllZero (a.refusal ∷ grounds_of x a.counters a.room os) ↔ (elim s as (λ b. Type 0) [ done c' ↦ Accepts os c' | stop g ↦ ⊥ ])) q
          ((λ h. (f d' a.counters a.room r).0 (other_entries h)), (λ h. ap₂ ◌∷◌ e ((f d' a.counters a.room r).1 h)))
      go (not_made g a e l c s) q f =
          subst (λ s. AllZero (a.refusal ∷ grounds_of x a.counters a.room os) ↔ (elim s as (λ b. Type 0) [ done c' ↦ Accepts os c' | stop g ↦ ⊥ ])) q
          ((λ h. let z = first_entry_lem h in absurd (omega arith)), (λ h. absurd h))

  abbrev Fits : List Call → Counts → Type 0
  Fits = RoomEnough x.plan x.parts t keep m ss

  -- a call is answered 13 exactly where its answer by counts is
  enough : (os : List Call) (d : Destination t) (counters room : List ℕ) → Running x t m ss join keep c0 μ0 d counters room → No13 (grounds_of x counters room os) ↔ Fits os (held t d)
  unfolding grounds_of
  enough [] d counters room run = ((λ h. tt), (λ h. tt))
  enough (o ∷ os) d counters room run =
      go (order_step_lem x t m ss join keep c0 μ0 o d counters room run) (answer_is x t m ss join keep c0 μ0 d counters room run o) (λ d' c r q. enough os d' c r q)
    where
      go : {p : Try (Destination t)} {s : Try Counts} {a : After} → Answers x t m ss join keep c0 μ0 o d counters room p a → map_try (held t) p ≡ s
          → ((d' : Destination t) (c r : List ℕ) → Running x t m ss join keep c0 μ0 d' c r → No13 (grounds_of x c r os) ↔ Fits os (held t d'))
          → No13 (a.refusal ∷ grounds_of x a.counters a.room os) ↔ ((s ≡ stop 13 → ⊥) × Fits os (after s (held t d)))
      go (made d' a e r did) q f =
          subst (λ s. No13 (a.refusal ∷ grounds_of x a.counters a.room os) ↔ ((s ≡ stop 13 → ⊥) × Fits os (after s (held t d)))) q (
            (λ h. ((λ z. absurd (let y : ◌≡◌ {A = ℕ} 0 1 = cc z in omega arith)), (f d' a.counters a.room r).0 h.1)),
            (λ h. ((λ z. absurd (omega arith)), (f d' a.counters a.room r).1 h.1)),
          )
      go (not_made g a e l c s) q f =
          subst (λ v. No13 (a.refusal ∷ grounds_of x a.counters a.room os) ↔ ((v ≡ stop 13 → ⊥) × Fits os (after v (held t d)))) q
          (rw (c, s) (
            (λ h. ((λ z. h.0 (e ∙ stopped z)), (f d counters room run).0 h.1)),
            (λ h. ((λ z. h.0 (ap stop (sym e ∙ z))), (f d counters room run).1 h.1)),
          ))

-- ALL CALLS OF A LIST ARE ACCEPTED exactly where every answer is 0
pub accepted_zero : (l : Lending) → Bytes l → (opening_of l).refusal ≡ 0 → (os : List Call) → AllZero (grounds_in l os) ↔ AllAccepted l os
accepted_zero l b accepted os =
    let o = runs l b accepted in
    let first : Destination (type_in l) = start l.gaps (type_in l) l.keep (sources_in l) (columns_in l) in
    subst (λ c. AllZero (grounds_in l os) ↔ AllAcceptedRoom (lent_of l).plan l.parts (type_in l) (keeps_in l) (sources_in l) (columns_in l) os c)
    (held_start l.gaps (type_in l) (keeps_in l) (sources_in l) (λ j. (columns_in l j).body))
    (accepts (lent_of l) (type_in l) (sources_in l) (columns_in l) o.join (keeps_in l) (opening_of l).counters o.memory os first (opening_of l).counters (opening_of l).room o.running)

-- ROOM IS ENOUGH exactly where no answer is 13
pub enough_room : (l : Lending) → Bytes l → (opening_of l).refusal ≡ 0 → (os : List Call) → No13 (grounds_in l os) ↔ Enough l os
enough_room l b accepted os =
    let o = runs l b accepted in
    let first : Destination (type_in l) = start l.gaps (type_in l) l.keep (sources_in l) (columns_in l) in
    subst (λ c. No13 (grounds_in l os) ↔ RoomEnough (lent_of l).plan l.parts (type_in l) (keeps_in l) (sources_in l) (columns_in l) os c)
    (held_start l.gaps (type_in l) (keeps_in l) (sources_in l) (λ j. (columns_in l j).body))
    (enough (lent_of l) (type_in l) (sources_in l) (columns_in l) o.join (keeps_in l) (opening_of l).counters o.memory os first (opening_of l).counters (opening_of l).room o.running)
