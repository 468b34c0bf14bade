-- The walk of an opening writes only into parts that there are. Assumes nothing.
use mathlib.Core.Path.{◌≡◌, refl, sym, ap, subst, ◌∙◌}
use mathlib.Core.Bool.{Bool, true, false, not, ◌&&◌}
use mathlib.Core.List.{List, [], ◌∷◌, Memᴰ}
use Prim.Native.Nat.{ℕ, zero, suc, ◌+◌, ◌≤◌, ◌<◌}
use native.Mathlib.Omega.{arith}
use lib.ListN.{length}
use lib.Dec.{eqb}
use borrow.Author.Tests.{eqb-false}
use Rattle.array_data.proofs.lent_tables.Laws.{and_left, and_right}
use Rattle.columnar.specs.Types.{Plain, fixed, string, Ty, t_plain, t_view, t_list_view, t_list, t_sparse, t_dense, t_run_end, t_dictionary}
use Rattle.columnar.specs.Reading.{Body}
use Rattle.columnar.specs.Formed.{Ids, Formed}
use Rattle.model.specs.Opening.{keeps, shared}
use Rattle.walk.specs.State.{word, code_of, dictionary_of, end_of, length_of}
use Rattle.walk.specs.Log.{Out, each}
use Rattle.walk.specs.Copy.{child_with, copy_walk}
use Rattle.refinement.specs.walk_is_model.Holds.{child_of, flag, Fields, WordedPlain, Worded}
use Rattle.refinement.proofs.walk_is_model.Frame.{worded_span}
use Rattle.refinement.proofs.walk_is_model.UnionFields.{with_first, with_later}
use Rattle.refinement.specs.log_in_room.Room.{AllBelow}
use Rattle.refinement.specs.log_in_room.Reach.{Closed, UsedAt}
use Rattle.refinement.proofs.log_in_room.Bytes.{bytes_encode}
use Rattle.refinement.proofs.log_in_room.Copies.{used_copies}
use Rattle.schema.specs.formats.Code.{is_run_end}
use Rattle.refinement.proofs.log_in_room.Found.{between_both, between_wide}
use Rattle.refinement.proofs.log_in_room.Uses.{used_wide, Uses, uses_done, uses_wrote, uses_cond, uses_need, uses_next, uses_each}
use Rattle.plan.specs.parts.Parts.{nodes_of, copied, has_offsets, Used}
use Rattle.plan.proofs.parts.Words.{offsets_buffer, has_buffers}
use Rattle.refinement.specs.orders.Order.{Lent, join_of, source_count}
use Rattle.refinement.proofs.orders.Buffers.{copied_part}
use Rattle.refinement.proofs.orders.Cover.{Laid}
use Rattle.refinement.specs.opening.Open.{chosen, begin_gaps, first_offset, join_source, join_entries, open_dictionary}
use Rattle.refinement.specs.opening.Kept.{Kept}
use Rattle.refinement.specs.opening.Entries.{EntriesLent}
use Rattle.refinement.proofs.opening.Zeros.{values_copied}
use Rattle.refinement.proofs.opening.Starts.{Here, closed_here, is_union_lem, child_here}
use Rattle.refinement.proofs.opening.Spans.{span, span_none, span_one, span_split}
use Rattle.refinement.proofs.opening.Frame.{no_dictionary, not_fixed, keys_end, ends_in_lem}

plain_low : (plan : List ℕ) (p : Plain) (i : ℕ) → WordedPlain plan p i → code_of plan i < 15
plain_low plan (fixed n) i w = let z = between_both 1 10 (code_of plan i) w.0 in omega (arith, z.1)
plain_low plan (string v) i w = let z = between_both 11 14 (code_of plan i) w.0 in omega (arith, z.1)

-- the word of a dictionary that is joined
not_shared : (b : Bool) (v : ℕ) → v ≡ flag (not b) → eqb v 0 ≡ false → b ≡ false
not_shared true v e f = absurd (eqb-false v 0 f e)
not_shared false v e f = refl

-- a walk at plain values stays there
closed_values : (plan : List ℕ) (v : ℕ) → code_of plan v < 15 → Closed plan (λ j. j ≡ v) (λ j. j ≡ v)
closed_values plan v l =
    record {
      own = λ i e. e;
      item = λ i e h. absurd (let z = between_both 17 20 (code_of plan i) h in low i e (omega (arith, z.0)));
      child = λ i k e h d. absurd (let z = between_both 21 22 (code_of plan i) h in low i e (omega (arith, z.0)));
      ends = λ i e h. absurd (low i e (omega (arith, h)));
      values = λ i e h. absurd (low i e (omega (arith, h)));
    }
  where
    low : (i : ℕ) → i ≡ v → 15 ≤ code_of plan i → ⊥
    low i e h = let z : code_of plan i ≡ code_of plan v = ap (code_of plan) e in omega arith

module _ (x : Lent) where
  abbrev U : ℕ → ℕ → Type 0
  U = Used x.plan

  each_below : (f : ℕ → List ℕ → Out) (e : ℕ) → ((r : ℕ) (c : List ℕ) → r < e → Uses U (f r c)) → (n r : ℕ) (c : List ℕ) → r + n ≤ e → Uses U (each f n r c)
  unfolding each
  each_below f e h zero r c l = uses_done U c
  each_below f e h (suc n) r c l = uses_next U (f r c) (λ c2. each f n (suc r) c2) (h r c (omega arith)) (λ c2. each_below f e h n (suc r) c2 (omega arith))

  -- ---- the first gaps

  gap_uses : (r : ℕ) (c : List ℕ) → Uses U (begin_gaps x r c)
  unfolding begin_gaps
  gap_uses r c = uses_cond U (is_run_end (code_of x.plan r) && chosen x.plan) _ _ (λ e. uses_done U _) (λ e. uses_done U c)

  pub gaps_use : (c : List ℕ) → Uses U (each (begin_gaps x) (nodes_of x.plan) 0 c)
  gaps_use c = each_below (begin_gaps x) (nodes_of x.plan) (λ r c2 l. gap_uses r c2) (nodes_of x.plan) 0 c (omega arith)

  -- ---- the zero offsets

  first_uses : (r : ℕ) (c : List ℕ) → r < nodes_of x.plan → Uses U (first_offset x r c)
  unfolding first_offset
  first_uses r c l =
      uses_cond U (has_offsets (code_of x.plan r) && copied x.plan r) _ _
      (λ e. let s = offsets_buffer (code_of x.plan r) (and_left (has_offsets (code_of x.plan r)) (copied x.plan r) e) in
      uses_wrote U _ c (record { node = l; part = has_buffers x.plan r (and_right (has_offsets (code_of x.plan r)) (copied x.plan r) e) 0 (omega arith) }, omega arith, bytes_encode _ 0))
      (λ e. uses_done U c)

  pub zeros_use : (c : List ℕ) → Uses U (each (first_offset x) (nodes_of x.plan) 0 c)
  zeros_use c = each_below (first_offset x) (nodes_of x.plan) first_uses (nodes_of x.plan) 0 c (omega arith)

  -- ---- dictionaries

  module _ (m : ℕ) (laid : Laid x.plan) (all_nodes_lem : nodes_of x.plan ≡ end_of x.plan 0) (body : AllBelow 256 x.body) where
    abbrev plan : List ℕ
    plan = x.plan

    abbrev opening : ℕ → ℕ → List ℕ → Out
    opening lo hi c = span (open_dictionary x) lo hi c

    -- all entries of all sources, at a node of plain values that is copied
    entries_use : (v : ℕ) (c : List ℕ) → v < nodes_of plan → code_of plan v < 15 → copied plan v ≡ true → Uses U (join_entries x v c)
    unfolding join_entries join_source
    entries_use v c l low cp =
        uses_each U (join_source x v)
        (λ s c2. record { log_used = used_wide there (copy_walk (join_of x s) 8 v 0 (length_of (join_of x s) v) c2).log (used_copies (join_of x s) _ _ (closed_values plan v low) body 8 v 0 (length_of (join_of x s) v) c2 refl) })
        (source_count plan) 0 c
      where
        there : (i b : ℕ) → UsedAt plan (λ j. j ≡ v) i b → Used plan i b
        there i b u =
            let e : v ≡ i = sym u.node in
            record { node = omega arith; part = copied_part plan i b (subst (λ j. copied plan j ≡ true) e cp) u.buffer }

    dictionary_uses : (i : ℕ) (b : Bool) (c : List ℕ) → suc i < nodes_of plan → code_of plan (suc i) < 15 → (dictionary_of plan i ≡ 0 → ⊥) → word plan i 7 ≡ flag (not b) → Uses U (open_dictionary x i c)
    unfolding open_dictionary
    dictionary_uses i b c l low d w =
        uses_cond U (eqb (dictionary_of plan i) 0) _ _ (λ e. uses_done U c)
        (λ e. uses_need U _ 6 c _
        (λ g. uses_next U _ _
        (uses_cond U (eqb (word plan i 7) 0) _ _ (λ f. uses_done U c)
        (λ f. entries_use (suc i) c l low (values_copied plan i b d w (not_shared b (word plan i 7) w f))))
        (λ c2. uses_need U _ 8 c2 _ (λ f. uses_done U c2))))

    -- a node with no dictionary
    nothing_uses : (i : ℕ) (c : List ℕ) → dictionary_of plan i ≡ 0 → Uses U (open_dictionary x i c)
    unfolding open_dictionary
    nothing_uses i c e = rw e (uses_done U c)

    abbrev AllUse : ℕ → ℕ → Type 0
    AllUse lo hi = (c : List ℕ) → Uses U (opening lo hi c)

    none_use : (i e : ℕ) → i ≡ e → AllUse i e
    none_use i e q c = rw (span_none (open_dictionary x) i e c q) (uses_done U c)

    more_use : (i e : ℕ) → i < e → ((c : List ℕ) → Uses U (open_dictionary x i c)) → AllUse (suc i) e → AllUse i e
    more_use i e l h g c = rw (span_one (open_dictionary x) i e c l) (uses_next U (open_dictionary x i c) (λ c2. opening (suc i) e c2) (h c) g)

    both_use : (i k e : ℕ) → i ≤ k → k ≤ e → AllUse i k → AllUse k e → AllUse i e
    both_use i k e p q h g c = rw (span_split (open_dictionary x) i k e c p q) (uses_next U (opening i k c) (λ c2. opening k e c2) (h c) g)

    fields_use : (k : ℕ) (f : ℕ → Ty) (nullable : ℕ → Bool) (end : ℕ) (node : ℕ → ℕ) (cs : List ℕ) (n fuel : ℕ) → Fields plan (λ e. Worded plan k (f e)) nullable end cs n → Ids cs → length cs ≤ fuel
        → ((e : ℕ) → Memᴰ e cs → child_with plan e end fuel n ≡ node e) → ((e : ℕ) → Memᴰ e cs → AllUse (node e) (end_of plan (node e))) → AllUse n end
    fields_use k f nullable end node [] n fuel w ids l at kids = none_use n end w
    fields_use k f nullable end node (b ∷ cs) n zero w ids l at kids = absurd (omega arith)
    fields_use k f nullable end node (b ∷ cs) n (suc fuel) w ids l at kids =
        let before : n < end = omega (arith, w.2, w.3) in
        let node_is : node b ≡ n = sym (at b (Memᴰ.head refl)) ∙ with_first plan b end fuel n before w.0 in
        both_use n (end_of plan n) end (omega (arith, w.2)) w.3 (subst (λ z. AllUse z (end_of plan z)) node_is (kids b (Memᴰ.head refl)))
        (fields_use k f nullable end node cs (end_of plan n) fuel w.5 ids.2 (omega arith)
        (λ e g. sym (with_later plan e end fuel n before (λ q. ids.1 (subst (λ z. Memᴰ z cs) (sym q ∙ w.0) g))) ∙ at e (Memᴰ.tail g)) (λ e g. kids e (Memᴰ.tail g)))

    -- THE DICTIONARIES OF A TYPE, from node i on
    pub dictionaries_use : (k : ℕ) (t : Ty) (i : ℕ) (u : Bool) (ss : ℕ → Body t) → Worded plan k t i → Formed t → Here plan i → EntriesLent x t i m ss → Kept plan m t i u ss → AllUse i (end_of plan i)
    dictionaries_use (suc k) (t_plain (fixed n)) i u ss w o here l q =
        let z = between_both 1 10 (code_of plan i) w.3.0 in
        let e = laid.plain_ends i ((closed_here plan laid).own i here).0.1 (omega (arith, z.1)) w.2 in
        more_use i (end_of plan i) w.1 (λ c. nothing_uses i c w.2) (none_use (suc i) (end_of plan i) (sym e))
    dictionaries_use (suc k) (t_plain (string v)) i u ss w o here l q =
        let z = between_both 11 14 (code_of plan i) w.3.0 in
        let e = laid.plain_ends i ((closed_here plan laid).own i here).0.1 (omega (arith, z.1)) w.2 in
        more_use i (end_of plan i) w.1 (λ c. nothing_uses i c w.2) (none_use (suc i) (end_of plan i) (sym e))
    dictionaries_use (suc k) t_view i u ss w o here l q =
        let e = laid.view_ends i ((closed_here plan laid).own i here).0.1 w.2 in
        more_use i (end_of plan i) w.1 (λ c. nothing_uses i c (no_dictionary plan laid i here (not_fixed plan laid i 15 16 (omega arith) w.2))) (none_use (suc i) (end_of plan i) (sym e))
    dictionaries_use (suc k) (t_list_view v t) i u ss w o here l q =
        more_use i (end_of plan i) (worded_span plan (suc k) (t_list_view v t) i w) (λ c. nothing_uses i c (no_dictionary plan laid i here (not_fixed plan laid i 17 18 (omega arith) w.2)))
        (subst (AllUse (suc i)) (sym w.1) (dictionaries_use k t (suc i) (keeps u m (λ j. (ss j).child)) (λ j. (ss j).child.body) w.4 o.1 ((closed_here plan laid).item i here (between_wide 17 18 17 20 (code_of plan i) (omega arith) (omega arith) w.2)) l q.1))
    dictionaries_use (suc k) (t_list v t) i u ss w o here l q =
        more_use i (end_of plan i) (worded_span plan (suc k) (t_list v t) i w) (λ c. nothing_uses i c (no_dictionary plan laid i here (not_fixed plan laid i 19 20 (omega arith) w.2)))
        (subst (AllUse (suc i)) (sym w.1) (dictionaries_use k t (suc i) (keeps u m (λ j. (ss j).child)) (λ j. (ss j).child.body) w.4 o.1 ((closed_here plan laid).item i here (between_wide 19 20 17 20 (code_of plan i) (omega arith) (omega arith) w.2)) l q.1))
    dictionaries_use (suc k) (t_sparse ids nullable f) i u ss w o here l q =
        let z = is_union_lem plan i 21 w.1 refl in
        more_use i (end_of plan i) w.3 (λ c. nothing_uses i c (no_dictionary plan laid i here (not_fixed plan laid i 21 22 (omega arith) z)))
        (fields_use k f nullable (end_of plan i) (child_of plan i) ids (suc i) 32 w.4 o.0 (omega (arith, w.2)) (λ e p. refl)
        (λ e p. let d = child_here plan laid k f nullable ids i here z w.2 w.4 e p in
        dictionaries_use k (f e) (child_of plan i e) (keeps u m (λ j. (ss j).children e)) (λ j. ((ss j).children e).body) d.1 (o.1 e p) d.0 (l e p) (q e p).1))
    dictionaries_use (suc k) (t_dense ids nullable f) i u ss w o here l q =
        let z = is_union_lem plan i 22 w.1 refl in
        more_use i (end_of plan i) w.3 (λ c. nothing_uses i c (no_dictionary plan laid i here (not_fixed plan laid i 21 22 (omega arith) z)))
        (fields_use k f nullable (end_of plan i) (child_of plan i) ids (suc i) 32 w.4 o.0 (omega (arith, w.2)) (λ e p. refl)
        (λ e p. let d = child_here plan laid k f nullable ids i here z w.2 w.4 e p in
        dictionaries_use k (f e) (child_of plan i e) (keeps u m (λ j. (ss j).children e)) (λ j. ((ss j).children e).body) d.1 (o.1 e p) d.0 (l e p) (q e p).1))
    dictionaries_use (suc k) (t_run_end v t) i u ss w o here l q =
        let e : end_of plan i ≡ end_of plan (suc (suc i)) = w.1 in
        let s = worded_span plan k t (suc (suc i)) w.4 in
        let a = (closed_here plan laid).ends i here w.2 in
        more_use i (end_of plan i) (omega arith) (λ c. nothing_uses i c a.1)
        (more_use (suc i) (end_of plan i) (omega arith) (λ c. nothing_uses (suc i) c (laid.tabled.ends_plain i a.0.1 w.2))
        (subst (AllUse (suc (suc i))) (sym w.1) (dictionaries_use k t (suc (suc i)) (keeps u m (λ j. (ss j).values)) (λ j. (ss j).values.body) w.4 o.1 ((closed_here plan laid).values i here w.2) l q.2)))
    dictionaries_use (suc k) (t_dictionary n p) i u ss w o here l q =
        let e = keys_end plan laid i here w.2 in
        let s = ends_in_lem plan i here.0 in
        more_use i (end_of plan i) w.1 (λ c. dictionary_uses i (shared m ss) c (omega arith) (plain_low plan p (suc i) l.plain_is) w.2 q.1)
        (more_use (suc i) (end_of plan i) (omega arith) (λ c. nothing_uses (suc i) c l.no_keys) (none_use (suc (suc i)) (end_of plan i) (sym e)))
    dictionaries_use zero t i u ss w o here l q = elim w [ ]
