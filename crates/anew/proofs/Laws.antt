-- A refused call changes nothing, and the question says what the call does. Assumes nothing.
use mathlib.Core.Path.{◌≡◌, refl, sym, ap, subst, ◌∙◌}
use mathlib.Core.Bool.{Bool, true, false, cond, ◌&&◌}
use mathlib.Core.List.{List}
use Prim.Native.Nat.{ℕ}
use native.Mathlib.Omega.{arith}
use lib.ListN.{length}
use lib.Dec.{eqb}
use borrow.Author.Tests.{eq-eqb, ne_eqb, eqb-true, eqb-false}
use Rattle.array_data.proofs.lent_tables.Laws.{and_left, and_right}
use Rattle.array_data.specs.Tables.{Tables}
use Rattle.walk.specs.Log.{Out}
use Rattle.columns.specs.Grounds.{small_body, column_ground}
use Rattle.plan.specs.parts.Parts.{part_total, parts_placed, parts_hold}
use Rattle.refinement.specs.opening.Open.{Opening}
use Rattle.anew.specs.Anew.{or_else, Asking, join_lengths, ahead, asking, unchanged, written, room_ground, anew}

-- ---- the first ground that stands

pub or_none : (g h : ℕ) → or_else g h ≡ 0 → (g ≡ 0) × (h ≡ 0)
or_none g h e = go (eqb g 0) refl e
  where
    go : (b : Bool) → eqb g 0 ≡ b → cond b h g ≡ 0 → (g ≡ 0) × (h ≡ 0)
    go true p q = (eqb-true g 0 p, q)
    go false p q = absurd (eqb-false g 0 p q)

pub or_zero : (g h : ℕ) → g ≡ 0 → or_else g h ≡ h
or_zero g h e = rw (eq-eqb g 0 e)

pub or_first : (g h : ℕ) → (g ≡ 0 → ⊥) → or_else g h ≡ g
or_first g h e = rw (ne_eqb g 0 e)

pub or_or : (g h k : ℕ) → or_else (or_else g h) k ≡ or_else g (or_else h k)
or_or g h k = go (eqb g 0) refl
  where
    go : (b : Bool) → eqb g 0 ≡ b → or_else (or_else g h) k ≡ or_else g (or_else h k)
    go true e = let z = eqb-true g 0 e in ap (λ a. or_else a k) (or_zero g h z) ∙ sym (or_zero g (or_else h k) z)
    go false e = let z = eqb-false g 0 e in ap (λ a. or_else a k) (or_first g h z) ∙ or_first g k z ∙ sym (or_first g (or_else h k) z)

-- what stands only where an earlier one does is none of its own
pub or_never : (c o a r : ℕ) → (c ≡ 0 → o ≡ 0 → a ≡ 0) → or_else c (or_else o (or_else a r)) ≡ or_else c (or_else o r)
or_never c o a r h = go (eqb c 0) refl (eqb o 0) refl
  where
    go : (s : Bool) → eqb c 0 ≡ s → (t : Bool) → eqb o 0 ≡ t → or_else c (or_else o (or_else a r)) ≡ or_else c (or_else o r)
    go true e true f = ap (λ z. or_else c (or_else o z)) (or_zero a r (h (eqb-true c 0 e) (eqb-true o 0 f)))
    go true e false f = let z = eqb-false o 0 f in ap (or_else c) (or_first o (or_else a r) z ∙ sym (or_first o r z))
    go false e t f = let z = eqb-false c 0 e in or_first c (or_else o (or_else a r)) z ∙ sym (or_first c (or_else o r) z)

module _ (formats schema : List ℕ) (x : Tables) (first n own : ℕ) (made : List ℕ) (walk : Out) (parts plan counters room : List ℕ) where
  abbrev before : ℕ
  before = ahead formats schema x first n own made walk

  abbrev asked : Asking
  asked = asking formats schema x first n own made walk plan counters

  abbrev of_room : ℕ
  of_room = room_ground made walk.counters parts (length plan) (length counters) (length room)

  abbrev answer : Opening
  answer = anew formats schema x first n own made walk parts plan counters room

  abbrev chosen : Bool → Bool → Opening
  chosen a b = cond a (cond b (written formats schema x first n own made walk parts plan counters room) (unchanged formats schema x first n own made walk parts plan counters room (or_else before of_room)))
      (unchanged formats schema x first n own made walk parts plan counters room 9)

  -- A REFUSED CALL leaves plan, counters and room: "State and every byte stay."
  pub anew_keeps : (answer.refusal ≡ 0 → ⊥) → (answer.plan ≡ plan) × (answer.counters ≡ counters) × (answer.room ≡ room)
  unfolding anew
  anew_keeps = go (small_body room) (eqb (or_else before of_room) 0)
    where
      go : (a b : Bool) → ((chosen a b).refusal ≡ 0 → ⊥) → ((chosen a b).plan ≡ plan) × ((chosen a b).counters ≡ counters) × ((chosen a b).room ≡ room)
      go false b h = (refl, refl, refl)
      go true false h = (refl, refl, refl)
      go true true h = absurd (h refl)

  -- the ground, where the room is within the ceiling
  pub anew_ground : small_body room ≡ true → answer.refusal ≡ or_else before of_room
  unfolding anew
  anew_ground s = rw s (go (eqb (or_else before of_room) 0) refl)
    where
      go : (b : Bool) → eqb (or_else before of_room) 0 ≡ b → (chosen true b).refusal ≡ or_else before of_room
      go true e = sym (eqb-true _ _ e)
      go false e = refl

  -- THE GROUNDS IN THEIR ORDER: the column's, the call's own, those of its walk, and 14 and 13 of the room
  pub anew_order : small_body room ≡ true → answer.refusal ≡ or_else (column_ground formats schema x first n) (or_else own (or_else walk.ans of_room))
  unfolding ahead
  anew_order s = anew_ground s ∙ or_or (column_ground formats schema x first n) (or_else own walk.ans) of_room ∙ ap (or_else (column_ground formats schema x first n)) (or_or own walk.ans of_room)

  -- .. and 9 where it is not
  pub anew_large : small_body room ≡ false → answer.refusal ≡ 9
  unfolding anew
  anew_large s = rw s refl

  -- ---- an accepted call

  pub record Accepted : Type 0 where
    pub small : small_body room ≡ true
    pub column_good : column_ground formats schema x first n ≡ 0
    pub own_none : own ≡ 0
    pub walk_done : walk.ans ≡ 0
    pub lengths : join_lengths (length plan) (length counters) ≡ true
    pub placed : parts_placed parts (part_total made) (length room) ≡ true
    pub holds : parts_hold made walk.counters parts ≡ true
    pub answer_is : answer ≡ written formats schema x first n own made walk parts plan counters room

  room_none : of_room ≡ 0 → (join_lengths (length plan) (length counters) ≡ true) × (parts_placed parts (part_total made) (length room) ≡ true) × (parts_hold made walk.counters parts ≡ true)
  unfolding room_ground
  room_none = go (join_lengths (length plan) (length counters)) refl (parts_placed parts (part_total made) (length room)) refl (parts_hold made walk.counters parts) refl
    where
      go : (a : Bool) → join_lengths (length plan) (length counters) ≡ a → (b : Bool) → parts_placed parts (part_total made) (length room) ≡ b → (c : Bool) → parts_hold made walk.counters parts ≡ c
          → ◌≡◌ {A = ℕ} (cond (a && b) (cond c 0 13) 14) 0
          → (join_lengths (length plan) (length counters) ≡ true) × (parts_placed parts (part_total made) (length room) ≡ true) × (parts_hold made walk.counters parts ≡ true)
      go true p true q true r h = (p, q, r)
      go true p true q false r h = absurd (omega arith)
      go true p false q c r h = absurd (omega arith)
      go false p b q c r h = absurd (omega arith)

  -- AN ACCEPTED CALL meets none of the grounds, and writes its result
  pub anew_accepted : answer.refusal ≡ 0 → Accepted
  unfolding anew ahead
  anew_accepted = go (small_body room) refl (eqb (or_else before of_room) 0) refl
    where
      passed : small_body room ≡ true → or_else before of_room ≡ 0 → chosen true true ≡ answer → Accepted
      passed s e w =
          let a = or_none before of_room e in
          let b = or_none (column_ground formats schema x first n) (or_else own walk.ans) a.0 in
          let c = or_none own walk.ans b.1 in
          let r = room_none a.1 in
          record {
            small = s;
            column_good = b.0;
            own_none = c.0;
            walk_done = c.1;
            lengths = r.0;
            placed = r.1;
            holds = r.2;
            answer_is = sym w;
          }

      go : (a : Bool) → small_body room ≡ a → (b : Bool) → eqb (or_else before of_room) 0 ≡ b → (chosen a b).refusal ≡ 0 → Accepted
      go false p b q h = absurd (omega arith)
      go true p false q h = absurd (eqb-false _ _ q h)
      go true p true q h = passed p (eqb-true _ _ q) (rw (p, q) refl)

  -- ---- what the question says

  asked_none : Accepted → before ≡ 0
  unfolding ahead
  asked_none a = or_zero (column_ground formats schema x first n) (or_else own walk.ans) a.column_good ∙ or_zero own walk.ans a.own_none ∙ a.walk_done

  module _ (same : join_lengths (length plan) (length counters) ≡ true) where
    asked_ground : asked.refusal ≡ before
    unfolding asking
    asked_ground = rw same (go (eqb before 0) refl)
      where
        go : (a : Bool) → eqb before 0 ≡ a → (cond {A = Asking} a (record { refusal = 0; plan = made; counters = walk.counters }) (record { refusal = before; plan = plan; counters = counters })).refusal ≡ before
        go true e = sym (eqb-true _ _ e)
        go false e = refl

    asked_done : before ≡ 0 → asked ≡ record { refusal = 0; plan = made; counters = walk.counters }
    unfolding asking
    asked_done e = rw (same, e)

    -- WHAT IS ASKED BEFORE ROOM IS LENT is what the call does: its ground, else 14 or 13 of the lent parts; and plan and counters are those that were answered
    pub anew_asked : small_body room ≡ true → (answer.refusal ≡ or_else asked.refusal of_room) × (answer.refusal ≡ 0 → (answer.plan ≡ asked.plan) × (answer.counters ≡ asked.counters))
    anew_asked s = (anew_ground s ∙ ap (λ g. or_else g of_room) (sym asked_ground), λ h. after (anew_accepted h))
      where
        after : Accepted → (answer.plan ≡ asked.plan) × (answer.counters ≡ asked.counters)
        after a =
            let q = asked_done (asked_none a) in
            (ap (λ o. o.plan) a.answer_is ∙ sym (ap (λ o. o.plan) q), ap (λ o. o.counters) a.answer_is ∙ sym (ap (λ o. o.counters) q))

    -- PARTS AS THE QUESTION ASKS FOR: where it answers no ground and the lent parts lie well and hold what its plan and counters need, the call is accepted
    pub anew_enough : small_body room ≡ true → asked.refusal ≡ 0 → parts_placed parts (part_total asked.plan) (length room) ≡ true → parts_hold asked.plan asked.counters parts ≡ true
        → answer.refusal ≡ 0
    unfolding room_ground
    anew_enough s g p h = anew_ground s ∙ or_zero before of_room none ∙ of_room_none (subst Fits (asked_done none) (p, h))
      where
        none : before ≡ 0
        none = sym asked_ground ∙ g

        Fits : Asking → Type 0
        Fits a = (parts_placed parts (part_total a.plan) (length room) ≡ true) × (parts_hold a.plan a.counters parts ≡ true)

        of_room_none : (parts_placed parts (part_total made) (length room) ≡ true) × (parts_hold made walk.counters parts ≡ true) → of_room ≡ 0
        of_room_none q = rw (same, q.0, q.1)

  -- A REFUSED QUESTION leaves plan and counters
  pub asking_keeps : (asked.refusal ≡ 0 → ⊥) → (asked.plan ≡ plan) × (asked.counters ≡ counters)
  unfolding asking
  asking_keeps = go (eqb before 0) (join_lengths (length plan) (length counters))
    where
      by : Bool → Bool → Asking
      by a b =
          cond a (cond b (record { refusal = 0; plan = made; counters = walk.counters }) (record { refusal = 14; plan = plan; counters = counters })) (record { refusal = before; plan = plan; counters = counters })

      go : (a b : Bool) → ((by a b).refusal ≡ 0 → ⊥) → ((by a b).plan ≡ plan) × ((by a b).counters ≡ counters)
      go true true h = absurd (h refl)
      go true false h = (refl, refl)
      go false b h = (refl, refl)
