-- What each return of a reclaiming and of its question answers. Assumes nothing.
use mathlib.Core.Path.{◌≡◌, refl, sym, ap, subst, ◌∙◌}
use mathlib.Core.Bool.{Bool, true, false, cond, ◌&&◌}
use mathlib.Core.List.{List, [], ◌∷◌}
use Prim.Native.Nat.{ℕ, zero, suc, ◌≤◌, ◌<◌, ◌^◌}
use native.Mathlib.Omega.{arith}
use lib.ListN.{length, get_or, replicate}
use lib.Dec.{eqb}
use borrow.Author.Tests.{eq-eqb, ne_eqb, eqb-true, lt-leb, le-leb}
use Rattle.schema.specs.Tree.{dictionary, ceilings}
use Rattle.schema.proofs.Known.{within_nodes}
use Rattle.array_data.specs.Tables.{Tables}
use Rattle.array_data.specs.lent_tables.Lent.{tables}
use Rattle.columns.specs.Grounds.{ceiling, small_body, column_ground}
use Rattle.walk.specs.Log.{Did, apply}
use Rattle.leaf_walk.specs.Join.{join}
use Rattle.plan.specs.parts.Parts.{part_total, parts_placed, parts_hold}
use Rattle.refinement.proofs.opening.Taken.{is_low}
use Rattle.with_capacities.specs.Answer.{Answers}
use Rattle.anew.specs.Anew.{or_else, join_lengths, room_ground, ahead}
use Rattle.anew.specs.ResultPlan.{keeps_from, Comes, plan_anew}
use Rattle.anew.proofs.Laws.{or_none, or_zero, or_first}
use Rattle.anew.proofs.Comes.{source_good, comes}
use Rattle.anew.specs.result_plan.Answer.{Asks}
use Rattle.anew.proofs.result_plan.Answered.{tried_room, made_room_lem, before_walk, asks_refused, asks_lengths, asks_done, answers_large, answers_refused, answers_room, answers_made}
use Rattle.reclaim.specs.reclaim_walk.Walk.{reclaim_walk_of}
use Rattle.reclaim.specs.Reclaim.{from_column, reclaim_own, reclaim_plan, reclaim_out, reclaim_asked, reclaiming}
use Rattle.reclaim.proofs.Placeless.{placeless}

-- ---- the ground of the column

module _ (schema : List ℕ) (first : ℕ) {g : ℕ} where
  pub ground_first : {c : ℕ} → c ≡ g → (c ≡ 0 → ⊥) → c ≡ or_else g (reclaim_own schema first)
  ground_first e d = e ∙ sym (or_first g _ (λ z. d (e ∙ z)))

  pub ground_own : {c d : ℕ} → c ≡ g → c ≡ 0 → d ≡ dictionary schema first 0 → d ≡ 0 → 10 ≡ or_else g (reclaim_own schema first)
  unfolding reclaim_own
  ground_own e z p q = sym (or_zero g _ (sym e ∙ z) ∙ ap (λ b. cond b 10 0) (eq-eqb (dictionary schema first 0) 0 (sym p ∙ q)))

  pub ground_none : {c d : ℕ} → c ≡ g → c ≡ 0 → d ≡ dictionary schema first 0 → (d ≡ 0 → ⊥) → 0 ≡ or_else g (reclaim_own schema first)
  unfolding reclaim_own
  ground_none e z p q = sym (or_zero g _ (sym e ∙ z) ∙ ap (λ b. cond b 10 0) (ne_eqb (dictionary schema first 0) 0 (λ y. q (p ∙ y))))

-- the lengths of plan and counters
no_lengths_plan : (a b : ℕ) → (a ≡ 872 → ⊥) → join_lengths a b ≡ false
unfolding join_lengths
no_lengths_plan a b h = rw (ne_eqb a 872 h)

no_lengths_counters : (a b : ℕ) → a ≡ 872 → (b ≡ 96 → ⊥) → join_lengths a b ≡ false
unfolding join_lengths
no_lengths_counters a b e h = rw (eq-eqb a 872 e, ne_eqb b 96 h)

both_lengths : (a b : ℕ) → a ≡ 872 → b ≡ 96 → join_lengths a b ≡ true
unfolding join_lengths
both_lengths a b e h = rw (eq-eqb a 872 e, eq-eqb b 96 h)

pub room_lengths : (made counters parts : List ℕ) (a b m : ℕ) {g : ℕ} → g ≡ room_ground made counters parts a b m → g ≡ 0 → (a ≡ 872) × (b ≡ 96)
unfolding room_ground join_lengths
room_lengths made counters parts a b m e z = go (eqb a 872) refl (eqb b 96) refl (sym e ∙ z)
  where
    go : (s : Bool) → eqb a 872 ≡ s → (t : Bool) → eqb b 96 ≡ t
        → ◌≡◌ {A = ℕ} (cond (s && t && parts_placed parts (part_total made) m) (cond (parts_hold made counters parts) 0 13) 14) 0 → (a ≡ 872) × (b ≡ 96)
    go true p true q h = (eqb-true a 872 p, eqb-true b 96 q)
    go true p false q h = absurd (omega arith)
    go false p t q h = absurd (omega arith)

-- two grounds, of which one stands
or_stands : (c o a : ℕ) {g : ℕ} → g ≡ or_else c o → (g ≡ 0 → ⊥) → g ≡ or_else c (or_else o a)
or_stands c o a {g} e d = go (eqb c 0) e
  where
    go : (b : Bool) → g ≡ cond b o c → g ≡ cond b (or_else o a) c
    go true h = h ∙ sym (or_first o a (λ z. d (h ∙ z)))
    go false h = h

module _ (formats schema : List ℕ) (x : Tables) (first n : ℕ) where
  abbrev columned : ℕ
  columned = column_ground formats schema x first n

  abbrev own : ℕ
  own = reclaim_own schema first

  abbrev plan_made : List ℕ
  plan_made = plan_anew formats schema first n (keeps_from (tables x.lengths x.places x.body) first from_column) true 0

  plan_is : plan_made ≡ reclaim_plan formats schema x first n
  unfolding reclaim_plan
  plan_is = refl

  -- ---- what the plan asks

  from_few : (i : ℕ) → i < n → get_or from_column i 0 ≤ n
  from_few zero l = omega arith
  from_few (suc zero) l = omega arith
  from_few (suc (suc i)) l = omega arith

  pub plannable : first < 2 ^ 32 → {g : ℕ} → g ≡ or_else columned own → g ≡ 0 → (n ≤ 32) × Comes (tables x.lengths x.places x.body) first n from_column
  plannable low e z =
      let good = (or_none columned own (sym e ∙ z)).0 in
      let c : ceilings formats schema first n ≡ true = is_low formats schema (first ∷ n ∷ []) x false false (source_good formats schema x first n low good) in
      let few = within_nodes formats schema first n c in
      (few, comes formats schema x first n low good n from_column few from_few)

  -- ---- the walk that was tried or made

  pub out_is : (draft parts : List ℕ) → draft ≡ plan_made → reclaim_walk_of (join draft parts x.lengths x.places x.body first 0) (replicate 96 0) ≡ reclaim_out formats schema x first n
  unfolding reclaim_out
  out_is draft parts e =
      placeless draft parts x.lengths x.places x.body first (replicate 96 0)
      ∙ ap (λ s. reclaim_walk_of (join s [] x.lengths x.places x.body first 0) (replicate 96 0)) (e ∙ plan_is)

  abbrev Walked : List ℕ → List ℕ → Bool → List ℕ → ℕ → List ℕ → List ℕ → Type 0
  Walked draft parts write room g c room2 = Did draft parts write (reclaim_walk_of (join draft parts x.lengths x.places x.body first 0) (replicate 96 0)) room g c room2

  module _ {g0 : ℕ} (e0 : g0 ≡ or_else columned own) where
    pub ground_ahead : (g0 ≡ 0 → ⊥) → g0 ≡ ahead formats schema x first n own (reclaim_plan formats schema x first n) (reclaim_out formats schema x first n)
    unfolding ahead
    ground_ahead d = or_stands columned own _ e0 d

    module _ (z0 : g0 ≡ 0) {draft : List ℕ} (es : draft ≡ plan_made) (parts : List ℕ) where
      walk_ahead : {write : Bool} {room : List ℕ} {g : ℕ} {c room2 : List ℕ} → Walked draft parts write room g c room2 → g ≡ ahead formats schema x first n own (reclaim_plan formats schema x first n) (reclaim_out formats schema x first n)
      walk_ahead d =
          let z = or_none columned own (sym e0 ∙ z0) in
          before_walk formats schema x first n own (reclaim_plan formats schema x first n) (reclaim_out formats schema x first n) z.0 z.1 (d.answer ∙ ap (λ o. o.ans) (out_is draft parts es))

      walk_counters : {write : Bool} {room : List ℕ} {g : ℕ} {c room2 : List ℕ} → Walked draft parts write room g c room2 → c ≡ (reclaim_out formats schema x first n).counters
      walk_counters d = d.counters ∙ ap (λ o. o.counters) (out_is draft parts es)

      -- ---- the question

      module _ {room : List ℕ} {g : ℕ} {c room2 : List ℕ} (d : Walked draft parts false room g c room2) (plan counters : List ℕ) where
        pub asked_walk : (g ≡ 0 → ⊥) → Asks (reclaim_asked formats schema x first n plan counters) g plan counters
        asked_walk h = asks_refused formats schema x first n own _ _ plan counters (walk_ahead d) h

        pub asked_plan : g ≡ 0 → (length plan ≡ 872 → ⊥) → Asks (reclaim_asked formats schema x first n plan counters) 14 plan counters
        asked_plan z h = asks_lengths formats schema x first n own _ _ plan counters (sym (walk_ahead d) ∙ z) (no_lengths_plan _ _ h)

        pub asked_counters : g ≡ 0 → length plan ≡ 872 → (length counters ≡ 96 → ⊥) → Asks (reclaim_asked formats schema x first n plan counters) 14 plan counters
        asked_counters z e h = asks_lengths formats schema x first n own _ _ plan counters (sym (walk_ahead d) ∙ z) (no_lengths_counters _ _ e h)

        pub asked_done : g ≡ 0 → length plan ≡ 872 → length counters ≡ 96 → {p q : List ℕ} → p ≡ draft → q ≡ c → Asks (reclaim_asked formats schema x first n plan counters) 0 p q
        asked_done z e h p q =
            asks_done formats schema x first n own _ _ plan counters (sym (walk_ahead d) ∙ z) (both_lengths _ _ e h) refl (p ∙ es ∙ plan_is) (q ∙ walk_counters d)

      -- ---- the call

      module _ (room : List ℕ) (small : small_body room ≡ true) {g : ℕ} {c room2 : List ℕ} (d : Walked draft parts false room g c room2) (plan counters : List ℕ) where
        room_same : room2 ≡ room
        room_same = tried_room draft parts _ room d

        pub answered_walk : (g ≡ 0 → ⊥) → Answers (reclaiming formats schema x first n parts plan counters room) g plan counters room2
        answered_walk h =
            subst (Answers (reclaiming formats schema x first n parts plan counters room) g plan counters) (sym room_same) (answers_refused formats schema x first n own _ _ parts plan counters room small (walk_ahead d) h)

        module _ (z : g ≡ 0) {r : ℕ} {k : List ℕ} (er : r ≡ room_ground draft k parts (length plan) (length counters) (length room2)) (ek : k ≡ c) where
          room_ground_lem : r ≡ room_ground (reclaim_plan formats schema x first n) (reclaim_out formats schema x first n).counters parts (length plan) (length counters) (length room)
          room_ground_lem =
              er ∙ ap (λ s. room_ground s k parts (length plan) (length counters) (length room2)) (es ∙ plan_is)
              ∙ ap (λ s. room_ground (reclaim_plan formats schema x first n) s parts (length plan) (length counters) (length room2)) (ek ∙ walk_counters d)
              ∙ ap (λ s. room_ground (reclaim_plan formats schema x first n) (reclaim_out formats schema x first n).counters parts (length plan) (length counters) (length s)) room_same

          pub answered_room : (r ≡ 0 → ⊥) → Answers (reclaiming formats schema x first n parts plan counters room) r plan counters room2
          answered_room h =
              subst (Answers (reclaiming formats schema x first n parts plan counters room) r plan counters) (sym room_same)
              (answers_room formats schema x first n own _ _ parts plan counters room small (sym (walk_ahead d) ∙ z) room_ground_lem h)

          pub answered_made : r ≡ 0 → {g3 : ℕ} {p c3 room3 : List ℕ} → p ≡ draft → Walked draft parts true room2 g3 c3 room3 → Answers (reclaiming formats schema x first n parts plan counters room) g3 p c3 room3
          answered_made h p m =
              answers_made formats schema x first n own _ _ parts plan counters room small (sym (walk_ahead d) ∙ z) (sym room_ground_lem ∙ h) (walk_ahead m ∙ sym (walk_ahead d) ∙ z) (p ∙ es ∙ plan_is) (walk_counters m)
              (made_room_lem draft parts _ room2 m
              ∙ ap (λ o. apply draft parts o.log room2) (out_is draft parts es)
              ∙ ap (λ s. apply s parts (reclaim_out formats schema x first n).log room2) (es ∙ plan_is)
              ∙ ap (apply (reclaim_plan formats schema x first n) parts (reclaim_out formats schema x first n).log) room_same)

    pub asked_ground : (plan counters : List ℕ) → (g0 ≡ 0 → ⊥) → Asks (reclaim_asked formats schema x first n plan counters) g0 plan counters
    asked_ground plan counters d = asks_refused formats schema x first n own _ _ plan counters (ground_ahead d) d

    pub answered_ground : (parts plan counters room : List ℕ) → small_body room ≡ true → (g0 ≡ 0 → ⊥) → Answers (reclaiming formats schema x first n parts plan counters room) g0 plan counters room
    answered_ground parts plan counters room s d = answers_refused formats schema x first n own _ _ parts plan counters room s (ground_ahead d) d

  pub answered_large : (parts plan counters room : List ℕ) → ceiling < length room → Answers (reclaiming formats schema x first n parts plan counters room) 9 plan counters room
  unfolding small_body
  answered_large parts plan counters room l = answers_large formats schema x first n own _ _ parts plan counters room (lt-leb (length room) ceiling l)

pub small_room : (room : List ℕ) → length room ≤ ceiling → small_body room ≡ true
unfolding small_body
small_room room l = le-leb (length room) ceiling l
