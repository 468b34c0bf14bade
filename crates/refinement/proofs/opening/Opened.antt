-- AN ACCEPTED OPENING, from its answer alone: orders run from what it leaves; a refused one changes nothing. Assumes nothing.
use mathlib.Core.Path.{◌≡◌, refl, sym, subst, ◌∙◌}
use mathlib.Core.Bool.{Bool, true, false, cond, ◌&&◌}
use mathlib.Core.List.{List}
use Prim.Native.Nat.{ℕ, ◌≤◌}
use native.Mathlib.Omega.{arith}
use lib.ListN.{length, replicate}
use lib.Dec.{leb, eqb}
use borrow.Author.Tests.{le-leb, leb-true, eq-eqb, eqb-true, eqb-false}
use Rattle.array_data.proofs.lent_tables.Laws.{and_right}
use Rattle.columnar.specs.Types.{Ty}
use Rattle.columnar.specs.Reading.{Column}
use Rattle.model.specs.Try.{Try, done, stop, then, guard}
use Rattle.model.specs.Opening.{keeps}
use Rattle.model.specs.Transform.{Destination, open_data, start}
use Rattle.model.specs.Book.{Call}
use Rattle.array_data.specs.Tables.{Tables}
use Rattle.array_data.specs.type_tree.Lent.{type_of}
use Rattle.walk.specs.Log.{Out}
use Rattle.refinement.specs.walk_is_model.Memory.{Memory}
use Rattle.refinement.specs.log_in_room.Room.{AllBelow}
use Rattle.array_data.specs.Sources as Sources
use Rattle.columns.specs.Grounds.{ceiling, sources_ground}
use Rattle.array_data.specs.Sources.{source_count, first_of}
use Rattle.refinement.specs.plan_is_type.Taken.{columns_as}
use Rattle.refinement.proofs.plan_is_type.Worded.{planted_worded}
use Rattle.plan.specs.parts.Parts.{part_total, parts_hold, parts_placed}
use Rattle.plan.proofs.Words.{choice_is}
use Rattle.refinement.specs.orders.Order.{Lent, ordered_all}
use Rattle.refinement.proofs.orders.Step.{Joined, first_opened, Running}
use Rattle.refinement.proofs.orders.Run.{Ran, orders_run}
use Rattle.refinement.proofs.orders.Booked.{ground_of}
use Rattle.refinement.specs.opening.Open.{Opening, open_walk_of, opened, refused, settled, room_placed, opening}
use Rattle.refinement.specs.opening.Entries.{Joins}
use Rattle.refinement.specs.opening.Fits.{open_fits, open_in}
use Rattle.refinement.proofs.opening.Laid.{stood}
use Rattle.refinement.proofs.opening.Taken.{few_sources_lem, few_nodes, is_typed, is_low, planted, taken, sources_of}
use Rattle.refinement.proofs.opening.Joined.{kept, joined}
use Rattle.refinement.proofs.opening.Values.{entries_lent}
use Rattle.refinement.proofs.opening.Walk.{Given, opens_used}
use Rattle.refinement.proofs.opening.Walk as walk
use Rattle.refinement.proofs.opening.Stay.{joins_stay}
use Rattle.refinement.proofs.opening.Runs.{Opens, opens, not_opened, opening_step}

module _ (formats schema sources : List ℕ) (x : Tables) (keep gaps : Bool) (parts : List ℕ) where
  -- the sources' type and columns
  abbrev m : ℕ
  m = source_count sources

  abbrev t : Ty
  t = type_of formats schema (first_of sources 0) (Sources.nodes_of sources 0)

  abbrev ss : ℕ → Column t
  ss = columns_as formats schema x (first_of sources) (Sources.nodes_of sources)

  abbrev lent : Lent
  lent = opened formats schema sources x keep gaps parts

  -- what the walk of an opening is given
  pub given : AllBelow 256 x.body → sources_ground formats schema x sources ≡ 0 → Given lent t m ss keep gaps
  given bytes ok =
      let all = sources_of formats schema sources x keep gaps ok in
      let stands = stood formats schema x sources ok keep gaps in
      record {
        worded = planted_worded formats schema (first_of sources 0) (Sources.nodes_of sources 0) lent.plan (is_typed formats schema sources x keep gaps ok) (is_low formats schema sources x keep gaps ok) (planted formats schema sources x keep gaps ok);
        formed = all.formed;
        laid = stands.laid;
        all_nodes_lem = stands.all_nodes_lem;
        count_is = stands.source_count_lem;
        few = all.few;
        body_small = (taken formats schema sources x keep gaps ok).body_small;
        body_bytes = bytes;
        obey = all.obey;
        entries = entries_lent formats schema sources x keep gaps ok parts;
        root_keeps = (kept formats schema sources x keep gaps ok).0;
        choice = choice_is formats schema x sources keep gaps (few_sources_lem formats schema sources x keep gaps ok) (few_nodes formats schema sources x keep gaps ok);
        kept = (kept formats schema sources x keep gaps ok).1;
      }

  -- an opening that is done has the destination with no rows
  begun : (d : Destination t) → open_in lent.plan parts gaps t keep m ss ≡ done d → start gaps t keep m ss ≡ d
  begun d e = go (open_data t m (λ j. (ss j).body)) (open_fits lent.plan parts t 0 m (λ j. (ss j).body) (start gaps t keep m ss)) e
    where
      go : (p : Try (Unit {0})) (b : Bool) → then p (λ y. guard b 13 (done (start gaps t keep m ss))) ≡ done d → start gaps t keep m ss ≡ d
      go (done y) true q = cc q
      go (done y) false q = absurd (let z : ◌≡◌ {A = ℕ} 0 1 = cc q in omega arith)
      go (stop g) b q = absurd (let z : ◌≡◌ {A = ℕ} 0 1 = cc q in omega arith)

  -- what an accepted opening leaves: orders run from it (orders/proofs: `order-step`, `orders-run`)
  pub record Opened (a : Opening) : Type 0 where
    pub accepted : sources_ground formats schema x sources ≡ 0
    pub plan_is : a.plan ≡ lent.plan
    pub model : open_in lent.plan parts gaps t keep m ss ≡ done (start gaps t keep m ss)
    pub join : Joined lent t m ss
    pub memory : Memory
    pub running : Running lent t m ss join (keeps keep m ss) a.counters memory (start gaps t keep m ss) a.counters a.room
    pub joins : Joins lent.plan t 0 m (λ j. (ss j).body) a.counters memory

  -- ANY LIST OF CALLS after it, refused ones included ..
  module _ (a : Opening) (o : Opened a) (os : List Call) where
    pub orders_after : Ran lent t m ss o.join (keeps keep m ss) a.counters o.memory os (start gaps t keep m ss) a.counters a.room
    orders_after = orders_run lent t m ss o.join (keeps keep m ss) a.counters o.memory os (start gaps t keep m ss) a.counters a.room o.running

    -- .. leaves the joined dictionaries held
    pub joins_after : Joins lent.plan t 0 m (λ j. (ss j).body) (ordered_all lent a.counters a.room os).counters orders_after.running.memory
    joins_after =
        joins_stay lent m a.counters _ o.memory _ orders_after.running.stay 8 t 0 (λ j. (ss j).body) (first_opened lent t m ss o.join).worded
        (entries_lent formats schema sources x keep gaps o.accepted parts) o.joins

  module _ (plan counters room : List ℕ) where
    abbrev answer : Opening
    answer = opening formats schema sources x keep gaps parts plan counters room

    abbrev placed_well : Bool
    placed_well = room_placed formats schema sources x keep gaps parts plan counters room

    abbrev no_change : ℕ → Opening
    no_change = refused formats schema sources x keep gaps parts plan counters room

    abbrev walked : Out
    walked = open_walk_of lent (replicate 96 0)

    -- by its five tests
    abbrev chosen : Bool → Bool → Bool → Opening → Opening
    chosen a b c y = cond a (cond b (cond c y (no_change 14)) (no_change (sources_ground formats schema x sources))) (no_change 9)

    abbrev chosen_last : Bool → Bool → Opening → Opening
    chosen_last d e y = cond d (cond e y (no_change 13)) (no_change walked.ans)

    abbrev Unchanged : Opening → Type 0
    Unchanged a = (a.plan ≡ plan) × (a.counters ≡ counters) × (a.room ≡ room)

    -- A REFUSED OPENING leaves plan, counters and room: "State and every byte stay."
    pub opening_refused : (answer.refusal ≡ 0 → ⊥) → (answer.plan ≡ plan) × (answer.counters ≡ counters) × (answer.room ≡ room)
    unfolding opening settled
    opening_refused =
        go (leb (length room) ceiling) (eqb (sources_ground formats schema x sources) 0) placed_well (eqb walked.ans 0) (parts_hold lent.plan walked.counters parts) _ refl
      where
        go : (a b c d e : Bool) (y : Opening) → y.refusal ≡ 0 → ((chosen a b c (chosen_last d e y)).refusal ≡ 0 → ⊥) → Unchanged (chosen a b c (chosen_last d e y))
        go false b c d e y q h = (refl, refl, refl)
        go true false c d e y q h = (refl, refl, refl)
        go true true false d e y q h = (refl, refl, refl)
        go true true true false e y q h = (refl, refl, refl)
        go true true true true false y q h = (refl, refl, refl)
        go true true true true true y q h = absurd (h q)

    -- the grounds before the walk
    pub tests : answer.refusal ≡ 0 → (length room ≤ ceiling) × (sources_ground formats schema x sources ≡ 0) × (placed_well ≡ true)
    unfolding opening
    tests h = go (leb (length room) ceiling) refl (eqb (sources_ground formats schema x sources) 0) refl placed_well refl _ h
      where
        go : (a : Bool) → leb (length room) ceiling ≡ a → (b : Bool) → eqb (sources_ground formats schema x sources) 0 ≡ b → (c : Bool) → placed_well ≡ c → (y : Opening)
            → (chosen a b c y).refusal ≡ 0 → (length room ≤ ceiling) × (sources_ground formats schema x sources ≡ 0) × (placed_well ≡ true)
        go true e true f true g y h = (leb-true _ _ e, eqb-true _ _ f, g)
        go true e true f false g y h = absurd (omega arith)
        go true e false f c g y h = absurd (eqb-false _ _ f h)
        go false e b f c g y h = absurd (omega arith)

    module _ (body_bytes : AllBelow 256 x.body) (room_bytes : AllBelow 256 room) where
      -- WHERE NONE OF 9 TO 12 AND 14 STANDS, the answer is the model's with 13, and orders run or nothing changes
      pub opening_opens : length room ≤ ceiling → sources_ground formats schema x sources ≡ 0 → placed_well ≡ true
          → Opens formats schema sources x keep gaps parts t m ss plan counters room (open_in lent.plan parts gaps t keep m ss) answer
      unfolding opening room_placed
      opening_opens small ok placed =
          let stands = stood formats schema x sources ok keep gaps in
          let g = given body_bytes ok in
          let lie : parts_placed parts (part_total lent.plan) (length room) ≡ true = and_right (eqb (length plan) 872 && eqb (length counters) 96) (parts_placed parts (part_total lent.plan) (length room)) placed in
          rw (le-leb _ _ small, eq-eqb _ _ ok, placed)
          (opening_step formats schema sources x keep gaps parts t m ss plan counters room g.kept g.entries (stands.placed parts (length room) lie small) (stands.within parts (length room) lie) room_bytes
          (λ o. joined formats schema sources x keep gaps ok o parts body_bytes stands.laid stands.all_nodes_lem stands.sound) (walk.opens lent t m ss keep gaps g) (opens_used lent t m ss keep gaps g))

      opens_ground : {p : Try (Destination t)} {a : Opening} → Opens formats schema sources x keep gaps parts t m ss plan counters room p a → a.refusal ≡ ground_of p
      opens_ground (opens d a g pl join μ run joins) = g
      opens_ground (not_opened g a q pos pl c r) = q

      -- .. its ground too
      pub opening_ground : length room ≤ ceiling → sources_ground formats schema x sources ≡ 0 → placed_well ≡ true → answer.refusal ≡ ground_of (open_in lent.plan parts gaps t keep m ss)
      opening_ground small ok placed = opens_ground (opening_opens small ok placed)

      opens_run : (p : Try (Destination t)) (a : Opening) → sources_ground formats schema x sources ≡ 0 → Opens formats schema sources x keep gaps parts t m ss plan counters room p a
          → open_in lent.plan parts gaps t keep m ss ≡ p → a.refusal ≡ 0 → Opened a
      opens_run _ _ ok (opens d a g pl join μ run joins) e h =
          let z = begun d e in
          record {
            accepted = ok;
            plan_is = pl;
            model = e ∙ sym (subst (λ v. ◌≡◌ {A = Try (Destination t)} (done v) (done d)) (sym z) refl);
            join = join;
            memory = μ;
            running = subst (λ v. Running lent t m ss join (keeps keep m ss) a.counters μ v a.counters a.room) (sym z) run;
            joins = joins;
          }
      opens_run _ _ ok (not_opened g a q pos pl c r) e h = absurd (omega (arith, q, h))

      -- AN ACCEPTED OPENING: the model's opening is done, and orders run from what it leaves
      pub opening_runs : answer.refusal ≡ 0 → Opened answer
      opening_runs h =
          let g = tests h in
          opens_run (open_in lent.plan parts gaps t keep m ss) answer g.1 (opening_opens g.0 g.1 g.2) refl h
