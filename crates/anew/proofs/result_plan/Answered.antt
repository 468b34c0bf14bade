-- What each return of a call that writes anew, and of its question, answers: for whoever proves such a call. Assumes nothing.
use mathlib.Core.Path.{◌≡◌, refl, sym, ap, ◌∙◌}
use mathlib.Core.Bool.{Bool, true, false, cond}
use mathlib.Core.List.{List}
use Prim.Native.Nat.{ℕ}
use lib.ListN.{length}
use lib.Dec.{eqb}
use borrow.Author.Tests.{eq-eqb, ne_eqb}
use Rattle.array_data.specs.Tables.{Tables}
use Rattle.walk.specs.Log.{Out, apply, apply_if, Did}
use Rattle.columns.specs.Grounds.{small_body, column_ground}
use Rattle.with_capacities.specs.Answer.{Answers}
use Rattle.anew.specs.Anew.{or_else, join_lengths, room_ground, ahead, asking, ground_of, anew}
use Rattle.anew.proofs.Laws.{or_zero, or_first}
use Rattle.anew.specs.result_plan.Answer.{Asks}

-- a walk that only tries leaves the room ..
pub tried_room : (plan parts : List ℕ) (o : Out) (room : List ℕ) {r : ℕ} {c room2 : List ℕ} → Did plan parts false o room r c room2 → room2 ≡ room
unfolding apply_if
tried_room plan parts o room d = d.bytes

-- .. and one that writes leaves it with the log
pub made_room_lem : (plan parts : List ℕ) (o : Out) (room : List ℕ) {r : ℕ} {c room2 : List ℕ} → Did plan parts true o room r c room2 → room2 ≡ apply plan parts o.log room
unfolding apply_if
made_room_lem plan parts o room d = d.bytes

module _ (formats schema : List ℕ) (x : Tables) (first n own : ℕ) (made : List ℕ) (walk : Out) where
  abbrev before : ℕ
  before = ahead formats schema x first n own made walk

  -- ---- what stands before room is asked

  pub before_column : {g : ℕ} → g ≡ column_ground formats schema x first n → (g ≡ 0 → ⊥) → g ≡ before
  unfolding ahead
  before_column e d = e ∙ sym (or_first (column_ground formats schema x first n) _ (λ z. d (e ∙ z)))

  pub before_own : {g : ℕ} → column_ground formats schema x first n ≡ 0 → g ≡ own → (g ≡ 0 → ⊥) → g ≡ before
  unfolding ahead
  before_own c e d = e ∙ sym (or_first own walk.ans (λ z. d (e ∙ z))) ∙ sym (or_zero (column_ground formats schema x first n) _ c)

  pub before_walk : {g : ℕ} → column_ground formats schema x first n ≡ 0 → own ≡ 0 → g ≡ walk.ans → g ≡ before
  unfolding ahead
  before_walk c o e = e ∙ sym (or_zero own walk.ans o) ∙ sym (or_zero (column_ground formats schema x first n) _ c)

  -- ---- the question

  module _ (plan counters : List ℕ) where
    -- a ground before room is asked
    pub asks_refused : {g : ℕ} → g ≡ before → (g ≡ 0 → ⊥) → Asks (asking formats schema x first n own made walk plan counters) g plan counters
    unfolding asking
    asks_refused e d = rw (ne_eqb before 0 (λ z. d (e ∙ z))) (record { refusal = e; plan = refl; counters = refl })

    -- plan and counters are not a join's
    pub asks_lengths : before ≡ 0 → join_lengths (length plan) (length counters) ≡ false → Asks (asking formats schema x first n own made walk plan counters) 14 plan counters
    unfolding asking
    asks_lengths e l = rw (e, l) (record { refusal = refl; plan = refl; counters = refl })

    pub asks_done : before ≡ 0 → join_lengths (length plan) (length counters) ≡ true → {r : ℕ} {p c : List ℕ} → r ≡ 0 → p ≡ made → c ≡ walk.counters
        → Asks (asking formats schema x first n own made walk plan counters) r p c
    unfolding asking
    asks_done e l r p c = rw (e, l) (record { refusal = r; plan = p; counters = c })

  -- ---- the call

  module _ (parts plan counters room : List ℕ) where
    abbrev refusal : ℕ
    refusal = ground_of formats schema x first n own made walk parts plan counters room

    -- a room above the ceiling
    pub answers_large : small_body room ≡ false → Answers (anew formats schema x first n own made walk parts plan counters room) 9 plan counters room
    unfolding anew
    answers_large s = rw s (record { refusal = refl; plan = refl; counters = refl; room = refl })

    answers_ground : small_body room ≡ true → {g : ℕ} → g ≡ refusal → (g ≡ 0 → ⊥) → Answers (anew formats schema x first n own made walk parts plan counters room) g plan counters room
    unfolding anew
    answers_ground s e d = rw (s, ne_eqb refusal 0 (λ z. d (e ∙ z))) (record { refusal = e; plan = refl; counters = refl; room = refl })

    -- a ground before room is asked
    pub answers_refused : small_body room ≡ true → {g : ℕ} → g ≡ before → (g ≡ 0 → ⊥) → Answers (anew formats schema x first n own made walk parts plan counters room) g plan counters room
    answers_refused s e d = answers_ground s (e ∙ sym (or_first before _ (λ z. d (e ∙ z)))) d

    -- 14 or 13
    pub answers_room : small_body room ≡ true → before ≡ 0 → {g : ℕ} → g ≡ room_ground made walk.counters parts (length plan) (length counters) (length room) → (g ≡ 0 → ⊥)
        → Answers (anew formats schema x first n own made walk parts plan counters room) g plan counters room
    answers_room s b e d = answers_ground s (e ∙ sym (or_zero before _ b)) d

    -- the result
    pub answers_made : small_body room ≡ true → before ≡ 0 → room_ground made walk.counters parts (length plan) (length counters) (length room) ≡ 0 → {r : ℕ} {p c b : List ℕ} → r ≡ 0 → p ≡ made → c ≡ walk.counters
        → b ≡ apply made parts walk.log room → Answers (anew formats schema x first n own made walk parts plan counters room) r p c b
    unfolding anew
    answers_made s b g r p c q = rw (s, eq-eqb refusal 0 (or_zero before _ b ∙ g)) (record { refusal = r; plan = p; counters = c; room = q })
