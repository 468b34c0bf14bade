-- WHAT IS WRITTEN, where one run for a gap is not chosen: no run end is written over. Assumes nothing.
use mathlib.Core.Path.{◌≡◌, refl, sym, ap, subst, ◌∙◌}
use mathlib.Core.Bool.{Bool, true, false, cond, ◌&&◌}
use mathlib.Core.List.{List, [], ◌∷◌}
use Prim.Native.Nat.{ℕ, zero, suc, ◌+◌, ◌*◌, ◌≤◌, ◌<◌}
use native.Mathlib.Omega.{arith}
use lib.ListN.{length, get_or, replicate}
use lib.Dec.{eqb}
use borrow.Author.Tests.{le-leb, eq-eqb, eqb-true, eqb-false}
use Rattle.schema.specs.formats.Code.{is_run_end}
use Rattle.walk.specs.State.{word, code_of, dictionary_of, gap, length_of}
use Rattle.walk.specs.Log.{Entry, Out, done, wrote, next, each, apply}
use Rattle.plan.specs.parts.Parts.{nodes_of, copied, has_offsets, parts_hold}
use Rattle.model.specs.Book.{Call}
use Rattle.columns.specs.Grounds.{ceiling, sources_ground}
use Rattle.refinement.specs.orders.Sound.{plan_sound}
use Rattle.refinement.specs.orders.Order.{Lent, join_of, source_count, ordered, ordered_all}
use Rattle.refinement.specs.orders.Written.{LastEnd}
use Rattle.refinement.proofs.orders.Sound.{closed_nodes, ends_fixed, node_stands}
use Rattle.refinement.proofs.orders.Grows.{Fine, Adds, adds_done, adds_cond, adds_need, adds_next, adds_each, adds_whole}
use Rattle.refinement.proofs.orders.GrowsCopies.{adds_copies}
use Rattle.refinement.proofs.orders.Accepted.{accepted, order_keeps, walk_adds, fine_order}
use Rattle.refinement.specs.opening.Open.{Opening, chosen, begin_gaps, first_offset, join_source, join_entries, open_dictionary, open_walk_of, refused, settled, room_placed, opening}
use Rattle.refinement.proofs.opening.Laid.{stood}
use Rattle.refinement.proofs.opening.Opened.{given, tests}
use Rattle.refinement.proofs.opening.Written.{fine_zeros, opening_fine, opening_sound}
use Rattle.join.specs.Join.{Lending, Bytes, opening_of, lent_of, after_calls, next_call}
use Rattle.join.specs.Written.{OnlyGains}
use Rattle.join.proofs.Written.{call_adds_lem}

-- no run-end node has the choice
abbrev Off : List ℕ → List ℕ → Type 0
Off plan c = (i : ℕ) → code_of plan i ≡ 23 → gap c i ≡ 0

no_numbers : (n k : ℕ) → get_or (replicate {A = ℕ} n 0) k 0 ≡ 0
no_numbers zero k = refl
no_numbers (suc n) zero = refl
no_numbers (suc n) (suc k) = no_numbers n k

-- ---- the walk of an opening

and_off : (b c : Bool) → c ≡ false → b && c ≡ false
and_off true c e = e
and_off false c e = refl

module _ (x : Lent) where
  abbrev P : List ℕ
  P = x.plan

  -- no gap begins
  no_gaps : chosen P ≡ false → (n r : ℕ) (c : List ℕ) → each (begin_gaps x) n r c ≡ done c
  unfolding each begin_gaps next done
  no_gaps off zero r c = refl
  no_gaps off (suc n) r c = rw (and_off (is_run_end (code_of P r)) (chosen P) off) (no_gaps off n (suc r) c)

  -- first offsets change no counter
  record Still (c : List ℕ) (o : Out) : Type 0 where
    ans_is : o.ans ≡ 0
    counters_are : o.counters ≡ c

  still_next : (c : List ℕ) (o : Out) (k : List ℕ → Out) → Still c o → ((d : List ℕ) → Still d (k d)) → Still c (next o k)
  unfolding next
  still_next c o k s h = rw (eq-eqb o.ans 0 s.ans_is) (record { ans_is = (h o.counters).ans_is; counters_are = (h o.counters).counters_are ∙ s.counters_are })

  still_offset : (i : ℕ) (c : List ℕ) → Still c (first_offset x i c)
  unfolding first_offset wrote done
  still_offset i c = go (has_offsets (code_of P i) && copied P i) _
    where
      go : (b : Bool) (e : Entry) → Still c (cond b (wrote e c) (done c))
      go true e = record { ans_is = refl; counters_are = refl }
      go false e = record { ans_is = refl; counters_are = refl }

  still_offsets : (n r : ℕ) (c : List ℕ) → Still c (each (first_offset x) n r c)
  unfolding each done
  still_offsets zero r c = record { ans_is = refl; counters_are = refl }
  still_offsets (suc n) r c = still_next c (first_offset x r c) (λ d. each (first_offset x) n (suc r) d) (still_offset r c) (λ d. still_offsets n (suc r) d)

  still_done : (c : List ℕ) → Still c (done c)
  unfolding done
  still_done c = record { ans_is = refl; counters_are = refl }

  -- what follows such a walk
  both : (o : Out) (k : List ℕ → Out) → o.ans ≡ 0 → ((next o k).ans ≡ (k o.counters).ans) × ((next o k).counters ≡ (k o.counters).counters)
  unfolding next
  both o k q = rw (eq-eqb o.ans 0 q) (refl, refl)

  through : (c : List ℕ) (o : Out) (k : List ℕ → Out) → Still c o → (next o k).ans ≡ 0 → ((k c).ans ≡ 0) × ((next o k).counters ≡ (k c).counters)
  through c o k s h =
      let n = both o k s.ans_is in
      let e = s.counters_are in
      (ap (λ d. (k d).ans) (sym e) ∙ sym n.0 ∙ h, n.1 ∙ ap (λ d. (k d).counters) e)

  -- dictionaries leave every gap of 0 as it is
  module _ (sound : plan_sound P ≡ true) (values : (i : ℕ) → i < nodes_of P → (dictionary_of P i ≡ 0 → ⊥) → suc i < nodes_of P) where
    adds_source : (i s : ℕ) (c : List ℕ) → i < nodes_of P → Adds P true 0 0 c (join_source x i s c)
    unfolding join_source
    adds_source i s c l = adds_whole P true 0 0 i c _ (adds_copies (join_of x s) _ _ (closed_nodes P sound) (ends_fixed P sound) true 8 i 0 (length_of (join_of x s) i) c l)

    adds_entries : (i : ℕ) (c : List ℕ) → i < nodes_of P → Adds P true 0 0 c (join_entries x i c)
    unfolding join_entries
    adds_entries i c l = adds_each P true 0 0 (join_source x i) (source_count P) (λ s c2 h. adds_source i s c2 l) (source_count P) 0 c (omega arith)

    adds_dictionary : (i : ℕ) (c : List ℕ) → i < nodes_of P → Adds P true 0 0 c (open_dictionary x i c)
    unfolding open_dictionary
    adds_dictionary i c l =
        adds_cond P true 0 0 c (eqb (dictionary_of P i) 0) _ _ (λ e. adds_done P true 0 0 c)
        (λ e. adds_need P true 0 0 _ 6 c _ (omega arith)
        (λ g. adds_next P true 0 0 c _ _
        (adds_cond P true 0 0 c (eqb (word P i 7) 0) _ _ (λ f. adds_done P true 0 0 c) (λ f. adds_entries (suc i) c (values i l (eqb-false _ _ e))))
        (λ c2. adds_need P true 0 0 _ 8 c2 _ (omega arith) (λ f. adds_done P true 0 0 c2))))

    -- from counters whose gaps are 0
    opens_off : chosen P ≡ false → (c : List ℕ) → Fine c → Off P c → (open_walk_of x c).ans ≡ 0 → Off P (open_walk_of x c).counters
    unfolding open_walk_of
    opens_off off c fine z h =
        let begins = subst (Still c) (sym (no_gaps off (nodes_of P) 0 c)) (still_done c) in
        let p = through c (each (begin_gaps x) (nodes_of P) 0 c) _ begins h in
        let q = through c (each (first_offset x) (nodes_of P) 0 c) _ (still_offsets (nodes_of P) 0 c) p.0 in
        let a = (adds_each P true 0 0 (open_dictionary x) (nodes_of P) adds_dictionary (nodes_of P) 0 c (omega arith)).added fine q.0 in
        subst (Off P) (sym (p.1 ∙ q.1)) (λ i e. a.longer.gap_off refl i e (z i e))

-- ---- orders

module _ (x : Lent) (sound : plan_sound x.plan ≡ true) where
  order_off : (counters room : List ℕ) (o : Call) → Fine counters → Off x.plan counters → Off x.plan (ordered x counters room o).counters
  order_off counters room o f z = go (eqb (ordered x counters room o).refusal 0) refl
    where
      go : (b : Bool) → eqb (ordered x counters room o).refusal 0 ≡ b → Off x.plan (ordered x counters room o).counters
      go true e =
          let s = accepted x counters room o (eqb-true _ _ e) in
          subst (Off x.plan) (sym s.counters_are) (λ i q. ((walk_adds x sound counters o).added f s.no_ground).longer.gap_off refl i q (z i q))
      go false e = subst (Off x.plan) (sym (order_keeps x counters room o (eqb-false _ _ e)).0) z

  orders_off : (os : List Call) (counters room : List ℕ) → Fine counters → Off x.plan counters → Off x.plan (ordered_all x counters room os).counters
  unfolding ordered_all
  orders_off [] counters room f z = z
  orders_off (o ∷ os) counters room f z = orders_off os (ordered x counters room o).counters (ordered x counters room o).room (fine_order x sound counters room o f) (order_off counters room o f z)

-- ---- a whole join

module _ (l : Lending) (b : Bytes l) (accepted-l : (opening_of l).refusal ≡ 0) (off : l.gaps ≡ false) where
  passed : (length l.room ≤ ceiling) × (sources_ground l.formats l.schema l.tables l.sources ≡ 0) × (room_placed l.formats l.schema l.sources l.tables l.keep l.gaps l.parts l.plan l.counters l.room ≡ true)
  passed = tests l.formats l.schema l.sources l.tables l.keep l.gaps l.parts l.plan l.counters l.room accepted-l

  abbrev walk : Out
  walk = open_walk_of (lent_of l) (replicate 96 0)

  sound : plan_sound (lent_of l).plan ≡ true
  sound = opening_sound l.formats l.schema l.sources l.tables l.keep l.gaps l.parts l.plan l.counters l.room accepted-l

  values : (i : ℕ) → i < nodes_of (lent_of l).plan → (dictionary_of (lent_of l).plan i ≡ 0 → ⊥) → suc i < nodes_of (lent_of l).plan
  values i q d =
      let s = stood l.formats l.schema l.tables l.sources passed.1 l.keep l.gaps in
      let a = s.all_nodes_lem in
      let e = s.laid.tabled.keys_end i (omega arith) d in
      let n = (node_stands (lent_of l).plan sound i q).inside in
      omega arith

  abbrev kept : ℕ → Opening
  kept g = refused l.formats l.schema l.sources l.tables l.keep l.gaps l.parts l.plan l.counters l.room g

  abbrev made_of : Opening
  made_of = settled l.formats l.schema l.sources l.tables l.keep l.gaps l.parts l.plan l.counters l.room walk

  abbrev Picks : Bool → Bool → Opening
  Picks a c =
      cond a (cond c (record { refusal = 0; plan = (lent_of l).plan; counters = walk.counters; room = apply (lent_of l).plan l.parts walk.log l.room }) (kept 13)) (kept walk.ans)

  made : made_of.refusal ≡ 0 → (walk.ans ≡ 0) × (made_of.counters ≡ walk.counters)
  unfolding settled
  made = go (eqb walk.ans 0) refl (parts_hold (lent_of l).plan walk.counters l.parts)
    where
      go : (a : Bool) → eqb walk.ans 0 ≡ a → (c : Bool) → (Picks a c).refusal ≡ 0 → (walk.ans ≡ 0) × ((Picks a c).counters ≡ walk.counters)
      go true e true h = (eqb-true _ _ e, refl)
      go true e false h = absurd (omega arith)
      go false e c h = absurd (eqb-false _ _ e h)

  -- the counters that the opening leaves are those of its walk
  walked : (walk.ans ≡ 0) × ((opening_of l).counters ≡ walk.counters)
  unfolding opening
  walked = let p = passed in rw (le-leb _ _ p.0, eq-eqb _ _ p.1, p.2) (made (rw (le-leb _ _ p.0, eq-eqb _ _ p.1, p.2) at accepted-l))

  off_word : chosen (lent_of l).plan ≡ false
  off_word =
      let w = (given l.formats l.schema l.sources l.tables l.keep l.gaps l.parts b.body_bytes passed.1).choice in
      ap (λ v. eqb v 1) w ∙ ap (λ g. eqb (cond g 1 0) 1) off

  -- after any list of calls, refused ones included
  module _ (os : List Call) where
    gaps_off : Off (lent_of l).plan (after_calls l os).counters
    gaps_off =
        orders_off (lent_of l) sound os (opening_of l).counters (opening_of l).room
        (opening_fine l.formats l.schema l.sources l.tables l.keep l.gaps l.parts l.plan l.counters l.room accepted-l)
        (subst (Off (lent_of l).plan) (sym walked.1) (opens_off (lent_of l) sound values off_word (replicate 96 0) fine_zeros (λ i q. no_numbers 96 (3 * i + 2)) walked.0))

    -- NO RUN END IS WRITTEN OVER
    pub no_last_end : (p h : ℕ) → LastEnd (lent_of l).plan l.parts (after_calls l os).counters p h → ⊥
    no_last_end p h e = e.chosen (gaps_off h e.runs)

    -- ONE MORE CALL, accepted: every byte that no part has gained is as it was, and so is every bit of the rows before
    pub call_gains : (o : Call) → (next_call l os o).refusal ≡ 0
        → OnlyGains (lent_of l).plan l.parts (after_calls l os).counters (after_calls l os).room (next_call l os o).counters (next_call l os o).room
    call_gains o h =
        let a = call_adds_lem l b accepted-l os o h in
        record { same_length = a.same_length; other_bytes = λ p f. a.other_bytes p f (λ i u e. no_last_end p i e); earlier_bits = a.earlier_bits }
