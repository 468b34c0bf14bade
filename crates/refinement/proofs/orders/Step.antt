-- ONE ORDER on lent memory does what the model does. Assumes nothing.
use mathlib.Core.Path.{◌≡◌, refl, sym, ap, subst, ◌∙◌}
use mathlib.Core.Bool.{Bool, true, false, not, cond, ◌&&◌}
use mathlib.Core.Option.{Option, none, some}
use mathlib.Core.List.{List, [], ◌∷◌}
use Prim.Native.Nat.{ℕ, suc, ◌+◌, ◌*◌, ◌-◌, ◌≤◌, ◌<◌, ◌^◌, min}
use native.Mathlib.Nat.{add-zero}
use native.Mathlib.Decide.{dec_lt}
use native.Mathlib.Omega.{arith}
use lib.ListN.{length, get_or, replicate}
use lib.Dec.{leb, ltb, eqb}
use borrow.Author.Tests.{leb-true, le-leb, ltb-true, eq-eqb, ne_eqb}
use Rattle.array_data.proofs.lent_tables.Laws.{and_left, and_right}
use Rattle.columnar.specs.Types.{Ty}
use Rattle.columnar.specs.Reading.{Column, masks, Source}
use Rattle.model.specs.Try.{Try, done, stop, then, guard}
use Rattle.model.specs.Mutable.{keeps_bits, grow, nulls_node}
use Rattle.model.specs.Transform.{Grown, Destination, extend}
use Rattle.model.specs.Book.{Call, copy, nulls}
use Rattle.model.specs.Held.{held}
use Rattle.model.proofs.Law.{Law, KeepNode}
use Rattle.model.proofs.Nodes.{kind_of, KeepOf}
use Rattle.model.proofs.Node.{node_fills}
use Rattle.model.proofs.Types.{law}
use Rattle.model.proofs.Book.{State, Did, one_order}
use Rattle.walk.specs.State.{code_of, end_of, keeps_of, rows, bytes, far}
use Rattle.walk.specs.Log.{Log, put, mask, amend, Out, apply}
use Rattle.walk.specs.Copy.{copy_walk}
use Rattle.walk.specs.Nulls.{null_walk}
use Rattle.refinement.specs.walk_is_model.Memory.{Memory, noted, after, AllInPlace}
use Rattle.refinement.specs.walk_is_model.Holds.{HoldsBits, Holds}
use Rattle.refinement.proofs.walk_is_model.Goes.{Goes, good, over}
use Rattle.refinement.proofs.walk_is_model.Frame.{SameAt, same_then, Kept, worded_span}
use Rattle.refinement.proofs.walk_is_model.Types.{Opened, copies, fills}
use Rattle.refinement.proofs.walk_is_model.UnionFields.{agrees_value}
use Rattle.refinement.specs.log_in_room.Room.{AllBelow, Placed, Lies, Fits, AllUsed}
use Rattle.refinement.specs.log_in_room.Reach.{UsedAt, Among, Free, Typed, typed}
use Rattle.refinement.proofs.log_in_room.Closure.{closed_free}
use Rattle.refinement.proofs.log_in_room.Applied.{room_lies, room_long}
use Rattle.refinement.proofs.log_in_room.Orders.{copy_used, nulls_used}
use Rattle.plan.specs.parts.Parts.{nodes_of, buffer_count, needed, needed_by, size_of, parts_hold, parts_within, Used}
use Rattle.refinement.specs.orders.Sound.{plan_sound, walkable}
use Rattle.columns.specs.Grounds.{ceiling}
use Rattle.refinement.specs.orders.Order.{After, Lent, join_of, source_count, source_length, refused, settled, copy_order, null_order, ordered}
use Rattle.refinement.specs.orders.Fits.{fits, answer_in}
use Rattle.refinement.proofs.orders.Buffers.{buffer_part, has_part_lem}
use Rattle.refinement.proofs.orders.Own.{Bounded}
use Rattle.refinement.proofs.orders.Cover.{Laid, covered}
use Rattle.refinement.proofs.orders.Enough.{free_or, same_test}
use Rattle.refinement.proofs.orders.Still.{Same, still_copies, still_nulls}
use Rattle.refinement.proofs.orders.Far.{Alike, both, neither, alike_by, alike_nulls}
use Rattle.refinement.proofs.orders.Short.{short}
use Rattle.model.proofs.Names.{keeps_nulls, nulls_data, counted}

-- ---- what an order is given

module _ (x : Lent) (t : Ty) (m : ℕ) (ss : ℕ → Column t) where
  -- the plan, the parts and the sources of a join
  pub record Joined : Type 0 where
    pub some_source : 0 < m
    pub count_is : source_count x.plan ≡ m
    pub opened : (s : ℕ) → s < m → Opened (join_of x s) 8 t 0 m ss
    pub laid : Laid x.plan
    pub all_nodes_lem : nodes_of x.plan ≡ end_of x.plan 0
    pub sound : plan_sound x.plan ≡ true
    pub body_bytes : AllBelow 256 x.body

  module _ (join : Joined) where
    pub first_opened : Opened (join_of x 0) 8 t 0 m ss
    first_opened = join.opened 0 join.some_source

    pub obeys : (j : ℕ) → j < m → Source t (ss j)
    obeys = first_opened.obey

    pub lawful : Law (kind_of t m (λ j. (ss j).body)) m ss
    lawful = law t m ss obeys first_opened.ready

  module _ (join : Joined) (keep : Bool) (c0 : List ℕ) (μ0 : Memory) where
    -- BETWEEN TWO ORDERS: counters and room hold the destination; c0 and μ0 are the counters and the memory as the opening left them
    pub record Running (d : Destination t) (counters room : List ℕ) : Type 0 where
      pub long : length counters ≡ 96
      pub memory : Memory
      pub holds : Holds x.plan t 0 d counters memory
      pub lies : Lies x.plan x.parts (Used x.plan) room memory
      pub placed : Placed x.plan x.parts (Used x.plan) (length room)
      pub within : parts_within x.plan x.parts (length room) ≡ true
      pub state : State t m ss (lawful join) (obeys join) keep d
      pub short_of : d.len < far
      pub rest : (i b : ℕ) → Used x.plan i b → (Free x.plan i → ⊥) → Bounded x.plan x.parts counters memory i b  -- a joined dictionary's values
      pub stay : (j : ℕ) → (Free x.plan j → ⊥) → SameAt c0 counters μ0 memory j  -- .. and they stay

    -- an answer and what the order comes to: carried out, or refused with everything as it was
    pub data Answers (o : Call) (d : Destination t) (counters room : List ℕ) : Try (Destination t) → After → Type 0 where
      made : (d' : Destination t) (a : After) → a.refusal ≡ 0 → Running d' a.counters a.room → Did t m ss (lawful join) (obeys join) keep o d d' → Answers o d counters room (done d') a
      not_made : (g : ℕ) (a : After) → a.refusal ≡ g → 0 < g → a.counters ≡ counters → a.room ≡ room → Answers o d counters room (stop g) a

    walks : (d : Destination t) (counters room : List ℕ) → Running d counters room → walkable x.plan (length room) ≡ true
    unfolding walkable
    walks d counters room run = let s = run.placed.small in rw (le-leb (length room) ceiling (omega arith)) join.sound

    -- ---- a walk and what it comes to

    all_used : (U W : ℕ → ℕ → Type 0) → ((i b : ℕ) → U i b → W i b) → (l : Log) → AllUsed U l → AllUsed W l
    unfolding AllUsed
    all_used U W f [] h = tt
    all_used U W f (put i b o bs ∷ l) h = ((f i b h.0.0, h.0.1, h.0.2), all_used U W f l h.1)
    all_used U W f (amend i b o bs ∷ l) h = ((f i b h.0.0, h.0.1, h.0.2), all_used U W f l h.1)
    all_used U W f (mask i p vs ∷ l) h = ((f i 0 h.0.0, h.0.1), all_used U W f l h.1)

    abbrev Own : ℕ → ℕ → Type 0
    Own = UsedAt x.plan (λ j. Among 0 (end_of x.plan 0) j × Free x.plan j)

    -- the memory at a dictionary's values is left as it was
    log_same : (l : Log) (μ : Memory) (j : ℕ) → AllUsed Own l → (Free x.plan j → ⊥) → ((b : ℕ) → (after l μ).at j b ≡ μ.at j b) × ((after l μ).bits j ≡ μ.bits j)
    unfolding after AllUsed
    log_same [] μ j h n = (λ b. refl, refl)
    log_same (put i e o bs ∷ l) μ j h n =
        let r = log_same l (noted (put i e o bs) μ) j h.1 n in
        let z = ne_eqb j i (λ q. n (subst (Free x.plan) (sym q) h.0.0.node.1)) in
        (λ b. r.0 b ∙ rw z, r.1)
    log_same (amend i e o bs ∷ l) μ j h n =
        let r = log_same l (noted (amend i e o bs) μ) j h.1 n in
        let z = ne_eqb j i (λ q. n (subst (Free x.plan) (sym q) h.0.0.node.1)) in
        (λ b. r.0 b ∙ rw z, r.1)
    log_same (mask i p vs ∷ l) μ j h n =
        let r = log_same l (noted (mask i p vs) μ) j h.1 n in
        let z = ne_eqb j i (λ q. n (subst (Free x.plan) (sym q) h.0.0.node.1)) in
        (r.0, r.1 ∙ rw z)

    needed_same : (c c' : List ℕ) (j b : ℕ) → Same j c c' → needed x.plan c' j b ≡ needed x.plan c j b
    needed_same c c' j b h =
        ap (λ r. needed_by (code_of x.plan j) r (bytes c' j) b) h.rows_same ∙ ap (λ n. needed_by (code_of x.plan j) (rows c j) n b) h.bytes_same

    root : Typed x.plan 0 (end_of x.plan 0) 0 × Free x.plan 0
    root = (typed 8 t (first_opened join).worded (omega arith) (omega arith), tt)

    own_used : (i b : ℕ) → Own i b → Used x.plan i b
    own_used i b u = record { node = omega (arith, u.node.0.1, join.all_nodes_lem); part = has_part_lem x.plan i b u.node.1 u.buffer }

    module _ (o : Call) (d : Destination t) (counters room : List ℕ) (run : Running d counters room) where
      abbrev Answered : Try (Destination t) → After → Type 0
      Answered = Answers o d counters room

      abbrev tested : Destination t → Try (Destination t)
      tested d' = guard (fits x.plan x.parts t 0 d') 13 (done d')

      refuse : (g : ℕ) → 0 < g → Answered (stop g) (refused x counters room g)
      refuse g p = not_made g (refused x counters room g) refl p refl refl

      module _ (d' : Destination t) (did : Did t m ss (lawful join) (obeys join) keep o d d') (w : Out) (in_place : AllInPlace w.log run.memory)
          (held' : Holds x.plan t 0 d' w.counters (after w.log run.memory)) (long' : length w.counters ≡ 96) (used : AllUsed Own w.log) (still : (j : ℕ) → (Free x.plan j → ⊥) → Same j counters w.counters) where
        rest' : (i b : ℕ) → Used x.plan i b → (Free x.plan i → ⊥) → Bounded x.plan x.parts w.counters (after w.log run.memory) i b
        rest' i b u n =
            let r = run.rest i b u n in
            let l = log_same w.log run.memory i used n in
            record {
              needs = subst (λ v. v ≤ size_of x.plan x.parts i b) (sym (needed_same counters w.counters i b (still i n))) r.needs;
              bytes_in_lem = λ p. subst (λ s. length s ≤ size_of x.plan x.parts i b) (sym (l.0 b)) (r.bytes_in_lem p);
              bits_in_lem = λ p. subst (λ s. length s ≤ 8 * size_of x.plan x.parts i 0) (sym l.1) (r.bits_in_lem p);
            }

        stay' : (j : ℕ) → (Free x.plan j → ⊥) → SameAt c0 w.counters μ0 (after w.log run.memory) j
        stay' j n =
            let r = run.stay j n in
            let l = log_same w.log run.memory j used n in
            let c = still j n in
            same_then r (record { rows_same = c.rows_same; nulls_same = c.nulls_same; bytes_same = c.bytes_same; at_same = l.0; bits_same = l.1 })

        same : parts_hold x.plan w.counters x.parts ≡ fits x.plan x.parts t 0 d'
        same =
            same_test x.plan x.parts join.laid w.counters (after w.log run.memory) m join.all_nodes_lem 8 t ss d' (first_opened join).worded (first_opened join).formed did.state.fine held'
            (λ j b u n. (rest' j b u n).needs)

        abbrev room' : List ℕ
        room' = apply x.plan x.parts w.log room

        module _ (e : fits x.plan x.parts t 0 d' ≡ true) where
          bounded : (i b : ℕ) → Used x.plan i b → Bounded x.plan x.parts w.counters (after w.log run.memory) i b
          bounded i b u = go (free_or x.plan i)
            where
              go : Dec (Free x.plan i) → Bounded x.plan x.parts w.counters (after w.log run.memory) i b
              go (yes y) =
                  covered x.plan x.parts join.laid w.counters (after w.log run.memory) m 8 t 0 ss d' (first_opened join).worded (first_opened join).formed (omega arith) did.state.fine held' e
                  i b (omega arith) (omega (arith, u.node, join.all_nodes_lem)) y u.part
              go (no y) = rest' i b u y

          small_part : 0 < buffer_count (code_of x.plan 0) → size_of x.plan x.parts 0 1 < 2 ^ 63
          small_part p =
              let u : Used x.plan 0 1 = record { node = omega (arith, join.all_nodes_lem, worded_span x.plan 8 t 0 (first_opened join).worded); part = buffer_part x.plan 0 0 tt p } in
              omega (arith, run.placed.inside 0 1 u, run.placed.small)

          fitting : Fits x.plan x.parts (Used x.plan) (after w.log run.memory)
          fitting = record { bytes_fit = λ i b u l. (bounded i b u).bytes_in_lem l; bits_fit = λ i u. (bounded i 0 u).bits_in_lem refl }

          used_parts : AllUsed (Used x.plan) w.log
          used_parts = all_used Own (Used x.plan) own_used w.log used

          long_room : length room' ≡ length room
          long_room = room_long x.plan x.parts (Used x.plan) w.log room run.memory run.placed run.lies in_place used_parts fitting

          runs : Running d' w.counters room'
          runs =
              record {
                long = long';
                memory = after w.log run.memory;
                holds = held';
                lies = room_lies x.plan x.parts (Used x.plan) w.log room run.memory run.placed run.lies in_place used_parts fitting;
                placed = subst (Placed x.plan x.parts (Used x.plan)) (sym long_room) run.placed;
                within = subst (λ n. parts_within x.plan x.parts n ≡ true) (sym long_room) run.within;
                state = did.state;
                short_of = short x.plan x.parts m 8 t ss d' (first_opened join).worded (first_opened join).formed did.state.fine e small_part;
                rest = rest';
                stay = stay';
              }

        by_test : (b f : Bool) → b ≡ f → (f ≡ true → Running d' w.counters room')
            → Answered (guard f 13 (done d')) (cond b (record { refusal = 0; counters = w.counters; room = room' }) (refused x counters room 13))
        by_test true true e r = made d' (record { refusal = 0; counters = w.counters; room = room' }) refl (r refl) did
        by_test false false e r = refuse 13 (omega arith)
        by_test true false e r = absurd (let z : ◌≡◌ {A = ℕ} 0 1 = cc e in omega arith)
        by_test false true e r = absurd (let z : ◌≡◌ {A = ℕ} 0 1 = cc e in omega arith)

        settled_done : w.ans ≡ 0 → Answered (tested d') (settled x counters room w)
        unfolding settled
        settled_done e = rw (eq-eqb w.ans 0 e, run.within) (by_test (parts_hold x.plan w.counters x.parts) (fits x.plan x.parts t 0 d') same runs)

      settled_stop : (g : ℕ) (w : Out) → w.ans ≡ g → 0 < g → Answered (stop g) (settled x counters room w)
      unfolding settled
      settled_stop g w e p = rw (ne_eqb w.ans 0 (λ z. omega (arith, z, e))) (not_made g (refused x counters room w.ans) e p refl refl)

      -- A WALK THAT GOES WITH THE MODEL, settled
      settle : (p : Try (Destination t)) (w : Out)
          → Goes run.memory (λ d' c' μ'. Holds x.plan t 0 d' c' μ' × Kept 0 (end_of x.plan 0) counters c' run.memory μ') p w
          → ((d' : Destination t) → p ≡ done d' → Did t m ss (lawful join) (obeys join) keep o d d') → AllUsed Own w.log → ((j : ℕ) → (Free x.plan j → ⊥) → Same j counters w.counters) → Answered (then p tested) (settled x counters room w)
      settle _ _ (good d' w e pl q) did used still = settled_done d' (did d' refl) w pl q.0 (q.1.long ∙ run.long) used still e
      settle _ _ (over g w e pos) did used still = settled_stop g w e pos

      same_guard : (a b : Bool) (g : ℕ) (p : Try (Destination t)) (q : After) → b ≡ a → 0 < g → (a ≡ true → Answered (then p tested) q) → Answered (then (guard a g p) tested) (cond b q (refused x counters room g))
      same_guard true true g p q e l h = h refl
      same_guard false false g p q e l h = refuse g l
      same_guard true false g p q e l h = absurd (let z : ◌≡◌ {A = ℕ} 0 1 = cc e in omega arith)
      same_guard false true g p q e l h = absurd (let z : ◌≡◌ {A = ℕ} 0 1 = cc e in omega arith)

    -- ---- A COPY

    module _ (s a e : ℕ) (d : Destination t) (counters room : List ℕ) (run : Running d counters room) where
      copy_walked : (j : s < m) → (k : leb a e && leb e (ss s).len ≡ true) → ltb s m ≡ true
          → Answers (copy s a e) d counters room (then (extend t m ss s a (e - a) d) (tested (copy s a e) d counters room run)) (settled x counters room (copy_walk (join_of x s) 8 0 a (e - a) counters))
      copy_walked j k known =
          let u = join.opened s j in
          let le : a ≤ e = leb-true a e (and_left (leb a e) (leb e (ss s).len) k) in
          let lt : e ≤ (ss s).len = leb-true e (ss s).len (and_right (leb a e) (leb e (ss s).len) k) in
          let agreed = one_order t m ss (lawful join) (obeys join) keep (copy s a e) d run.state in
          settle (copy s a e) d counters room run (extend t m ss s a (e - a) d) (copy_walk (join_of x s) 8 0 a (e - a) counters)
          (copies (join_of x s) m 8 t 0 ss u a (e - a) d counters run.memory (omega arith) run.state.fine (omega (arith, run.short_of, u.lent.sum)) run.long run.holds)
          (λ d' q. agrees_value agreed d' (rw (known, k) q))
          (copy_used (join_of x s) 8 t 0 u.worded tt join.laid.tabled join.body_bytes 8 a (e - a) counters)
          (λ j n. still_copies j (join_of x s) _ _ (closed_free x.plan 0 (end_of x.plan 0) join.laid.tabled) (λ q. n q.1) 8 0 a (e - a) counters root)

      length_is : s < m → source_length x s ≡ (ss s).len
      length_is j = let h = (join.opened s j).lent.len_is in ap (λ n. get_or x.lengths (2 * n) 0) (sym (add-zero (get_or x.sources (2 * s) 0))) ∙ h

      pub copy_step : Answers (copy s a e) d counters room (answer_in x.plan x.parts t m ss (copy s a e) d) (ordered x counters room (copy s a e))
      unfolding copy_order
      copy_step =
          rw (eq-eqb (length counters) 96 run.long, walks d counters room run)
          (same_guard (copy s a e) d counters room run (ltb s m) (ltb s (source_count x.plan)) 1 (guard (leb a e && leb e (ss s).len) 2 (extend t m ss s a (e - a) d))
          (cond (leb a e && leb e (source_length x s)) (settled x counters room (copy_walk (join_of x s) 8 0 a (e - a) counters)) (refused x counters room 2)) (ap (ltb s) join.count_is) (omega arith)
          (λ h. let j = ltb-true s m h in
          same_guard (copy s a e) d counters room run (leb a e && leb e (ss s).len) (leb a e && leb e (source_length x s)) 2 (extend t m ss s a (e - a) d)
          (settled x counters room (copy_walk (join_of x s) 8 0 a (e - a) counters)) (ap (λ n. leb a e && leb e n) (length_is j)) (omega arith)
          (λ k. copy_walked j k h)))

    -- ---- NULLS

    -- where the node keeps nulls, by the plan's words
    keeps_by : (b : Option (List Bool)) (v : Bool) (μ : Memory) → HoldsBits x.plan 0 v b μ → eqb (keeps_of x.plan 0) 0 ≡ not (keeps_bits b)
    keeps_by none v μ h = eq-eqb (keeps_of x.plan 0) 0 h
    keeps_by (some l) true μ h = ne_eqb (keeps_of x.plan 0) 0 h.0
    keeps_by (some l) false μ h = ne_eqb (keeps_of x.plan 0) 0 h

    abbrev more_nulls : ℕ → Destination t → Grown t → Destination t
    more_nulls n d b = record { len = d.len + suc n; null_count = d.null_count + counted d.bits (suc n); bits = grow (masks t) (replicate (suc n) false) d.bits; «data» = b }

    pub nulls_len : (n : ℕ) (d d' : Destination t) → nulls_node (masks t) (nulls_data t) (suc n) d ≡ done d' → d'.len ≡ d.len + suc n
    nulls_len n d d' e = go (nulls_data t (suc n) d.len d.«data») e
      where
        go : (p : Try (Grown t)) → then p (λ b. done (more_nulls n d b)) ≡ done d' → d'.len ≡ d.len + suc n
        go (done b) q = let z : more_nulls n d b ≡ d' = cc q in ap (λ v. v.len) (sym z)
        go (stop g) q = absurd (let z : ◌≡◌ {A = ℕ} 0 1 = cc q in omega arith)

    module _ (n : ℕ) (d : Destination t) (counters room : List ℕ) (run : Running d counters room) (keeps : keeps_nulls d ≡ true) where
      pub kept : KeepNode (KeepOf t) d
      kept = record { here = keeps; below = run.state.keeps_below (sym run.state.keeps_is ∙ keeps) }

      pub nulls_did : (k : ℕ) (d' : Destination t) → nulls_node (masks t) (nulls_data t) k d ≡ done d' → Did t m ss (lawful join) (obeys join) keep (nulls k) d d'
      nulls_did k d' q = agrees_value (one_order t m ss (lawful join) (obeys join) keep (nulls k) d run.state) d' (rw keeps q)

      pub nulls_go : (k : ℕ) → k ≤ far
          → Goes run.memory (λ d' c' μ'. Holds x.plan t 0 d' c' μ' × Kept 0 (end_of x.plan 0) counters c' run.memory μ') (nulls_node (masks t) (nulls_data t) k d) (null_walk (join_of x 0) 8 0 k counters)
      nulls_go k l = fills (join_of x 0) m 8 t 0 ss (first_opened join) k d counters run.memory run.state.fine kept (omega (arith, run.short_of)) run.long run.holds

      nulls_log : (k : ℕ) → AllUsed Own (null_walk (join_of x 0) 8 0 k counters).log
      nulls_log k = nulls_used (join_of x 0) 8 t 0 (first_opened join).worded tt join.laid.tabled 8 k counters

      nulls_still : (k j : ℕ) → (Free x.plan j → ⊥) → Same j counters (null_walk (join_of x 0) 8 0 k counters).counters
      nulls_still k j n = still_nulls j (join_of x 0) _ _ (closed_free x.plan 0 (end_of x.plan 0) join.laid.tabled) (λ q. n q.1) 8 0 k counters root

      -- a count that the walk takes as it is
      near_step : n ≤ far → Answers (nulls n) d counters room (then (nulls_node (masks t) (nulls_data t) n d) (tested (nulls n) d counters room run)) (settled x counters room (null_walk (join_of x 0) 8 0 n counters))
      near_step l =
          settle (nulls n) d counters room run (nulls_node (masks t) (nulls_data t) n d) (null_walk (join_of x 0) 8 0 n counters) (nulls_go n l) (nulls_did n) (nulls_log n) (nulls_still n)

      -- ---- a count beyond: no part holds its rows

      pub small_room : 0 < buffer_count (code_of x.plan 0) → size_of x.plan x.parts 0 1 < 2 ^ 63
      small_room p =
          let u : Used x.plan 0 1 = record { node = omega (arith, join.all_nodes_lem, worded_span x.plan 8 t 0 (first_opened join).worded); part = buffer_part x.plan 0 0 tt p } in
          omega (arith, run.placed.inside 0 1 u, run.placed.small)

      never_fits : (k : ℕ) → far ≤ suc k → (d' : Destination t) → nulls_node (masks t) (nulls_data t) (suc k) d ≡ done d' → fits x.plan x.parts t 0 d' ≡ false
      never_fits k l d' q = go (fits x.plan x.parts t 0 d') refl
        where
          go : (b : Bool) → fits x.plan x.parts t 0 d' ≡ b → fits x.plan x.parts t 0 d' ≡ false
          go true e =
              let z = short x.plan x.parts m 8 t ss d' (first_opened join).worded (first_opened join).formed (nulls_did (suc k) d' q).state.fine e small_room in
              absurd (omega (arith, nulls_len k d d' q))
          go false e = e

      alike_both : (k h : ℕ) → far ≤ suc k → far ≤ suc h → Alike (nulls_node (masks t) (nulls_data t) (suc k) d) (nulls_node (masks t) (nulls_data t) (suc h) d)
      alike_both k h p q =
          alike_by
          (node_fills (kind_of t m (λ j. (ss j).body)) m ss (lawful join) (λ j l. (obeys join j l).mask) (suc k) d kept run.state.fine)
          (alike_nulls t k h (held t d) (first_opened join).formed p q)
          (node_fills (kind_of t m (λ j. (ss j).body)) m ss (lawful join) (λ j l. (obeys join j l).mask) (suc h) d kept run.state.fine)

      by_far : {p r : Try (Destination t)} (w : Out) → Alike p r → Goes run.memory (λ d' c' μ'. Holds x.plan t 0 d' c' μ' × Kept 0 (end_of x.plan 0) counters c' run.memory μ') r w
          → ((d' : Destination t) → p ≡ done d' → fits x.plan x.parts t 0 d' ≡ false)
          → ((d' : Destination t) → r ≡ done d' → Answers (nulls n) d counters room (stop 13) (settled x counters room w))
          → Answers (nulls n) d counters room (then p (tested (nulls n) d counters room run)) (settled x counters room w)
      by_far w (both y z) g never h = rw (never y refl) (h z refl)
      by_far _ (neither g) (over _ w e pos) never h = settled_stop (nulls n) d counters room run g w e pos

      far_walk : (d' : Destination t) → nulls_node (masks t) (nulls_data t) far d ≡ done d' → Answers (nulls n) d counters room (stop 13) (settled x counters room (null_walk (join_of x 0) 8 0 far counters))
      far_walk d' q =
          let r = settle (nulls far) d counters room run (nulls_node (masks t) (nulls_data t) far d) (null_walk (join_of x 0) 8 0 far counters) (nulls_go far (omega arith)) (nulls_did far) (nulls_log far) (nulls_still far) in
          let f = never_fits 9223372036854775807 (omega arith) d' q in
          other (rw (q, f) at r)
        where
          other : {a : After} → Answers (nulls far) d counters room (stop 13) a → Answers (nulls n) d counters room (stop 13) a
          other (not_made g a e p c r) = not_made g a e p c r

      far_step : (k : ℕ) → n ≡ suc k → far < n → Answers (nulls n) d counters room (then (nulls_node (masks t) (nulls_data t) n d) (tested (nulls n) d counters room run)) (settled x counters room (null_walk (join_of x 0) 8 0 far counters))
      far_step k e l =
          by_far {p = nulls_node (masks t) (nulls_data t) n d} {r = nulls_node (masks t) (nulls_data t) far d} (null_walk (join_of x 0) 8 0 far counters) (rw e (alike_both k 9223372036854775807 (omega arith) (omega arith))) (nulls_go far (omega arith))
          (λ d' q. never_fits k (omega arith) d' (rw e at q)) far_walk

      by_count : Answers (nulls n) d counters room (then (nulls_node (masks t) (nulls_data t) n d) (tested (nulls n) d counters room run)) (settled x counters room (null_walk (join_of x 0) 8 0 (min n far) counters))
      by_count = go (dec_lt far n)
        where
          some_count : (v : ℕ) → 0 < v → (v ≡ suc (v - 1))
          some_count v p = omega arith

          go : Dec (far < n)
              → Answers (nulls n) d counters room (then (nulls_node (masks t) (nulls_data t) n d) (tested (nulls n) d counters room run)) (settled x counters room (null_walk (join_of x 0) 8 0 (min n far) counters))
          go (yes y) = let z : min n far ≡ far = omega arith in rw z (far_step (n - 1) (some_count n (omega arith)) y)
          go (no y) = let z : min n far ≡ n = omega arith in rw z (near_step (omega arith))

    pub nulls_step : (n : ℕ) (d : Destination t) (counters room : List ℕ) → Running d counters room
        → Answers (nulls n) d counters room (answer_in x.plan x.parts t m ss (nulls n) d) (ordered x counters room (nulls n))
    unfolding null_order
    nulls_step n d counters room run =
        rw (eq-eqb (length counters) 96 run.long, walks d counters room run, keeps_by d.bits (masks t) run.memory run.holds.bits_are) (go (keeps_nulls d) refl)
      where
        go : (b : Bool) → keeps_nulls d ≡ b
            → Answers (nulls n) d counters room (then (guard b 3 (nulls_node (masks t) (nulls_data t) n d)) (tested (nulls n) d counters room run))
            (cond (not b) (refused x counters room 3) (settled x counters room (null_walk (join_of x 0) 8 0 (min n far) counters)))
        go true e = by_count n d counters room run e
        go false e = refuse (nulls n) d counters room run 3 (omega arith)

    -- ONE ORDER: the answer is the model's, and it is carried out as the model does, or changes nothing
    pub order_step_lem : (o : Call) (d : Destination t) (counters room : List ℕ) → Running d counters room
        → Answers o d counters room (answer_in x.plan x.parts t m ss o d) (ordered x counters room o)
    order_step_lem (copy s a e) d counters room run = copy_step s a e d counters room run
    order_step_lem (nulls n) d counters room run = nulls_step n d counters room run
