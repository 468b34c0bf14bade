-- A plan numbers as many parts as its type has. Assumes nothing.
use mathlib.Core.Path.{◌≡◌, refl, sym, ap, subst, ◌∙◌}
use mathlib.Core.Bool.{Bool, true, false, not, cond, ◌&&◌, ◌||◌}
use mathlib.Core.List.{List, [], ◌∷◌, Memᴰ}
use Prim.Native.Nat.{ℕ, zero, suc, ◌+◌, ◌≤◌, ◌<◌}
use native.Mathlib.Nat.{add-zero}
use native.Mathlib.Omega.{arith}
use lib.ListN.{length}
use lib.Dec.{ltb, eqb}
use borrow.Author.Tests.{eq-eqb, ne_eqb}
use Rattle.columnar.specs.Types.{Plain, fixed, string, Ty, t_plain, t_view, t_list_view, t_list, t_sparse, t_dense, t_run_end, t_dictionary}
use Rattle.columnar.specs.Formed.{Formed, Ids}
use Rattle.columnar.specs.Reading.{Body, Column, masks}
use Rattle.schema.specs.formats.Code.{is_fixed, is_string}
use Rattle.model.specs.Opening.{keeps, shared}
use Rattle.walk.specs.State.{word, code_of, dictionary_of, end_of, keeps_of}
use Rattle.walk.specs.Copy.{child_with}
use Rattle.refinement.specs.walk_is_model.Holds.{child_of, flag, Fields, WordedPlain, Worded}
use Rattle.refinement.proofs.walk_is_model.UnionFields.{with_first, with_later}
use Rattle.refinement.specs.log_in_room.Reach.{Free, typed}
use Rattle.refinement.proofs.log_in_room.Found.{between_both, between_wide}
use Rattle.plan.specs.parts.Parts.{nodes_of, buffer_count, copied, validity_parts, buffer_parts, part_count, parts_before, part_total}
use Rattle.refinement.specs.orders.Order.{Lent}
use Rattle.refinement.proofs.orders.Buffers.{fixed_one, string_two, view_one, list_two, lists_one, copied_free, masks_code}
use Rattle.refinement.proofs.orders.Cover.{Laid}
use Rattle.refinement.specs.opening.Kept.{Kept}
use Rattle.refinement.specs.opening.Entries.{ValuesLent, EntriesLent}
use Rattle.refinement.specs.opening.PartsDue.{summed, validity_due, plain_due, due_below, parts_due}
use Rattle.refinement.proofs.opening.Starts.{Here, closed_here, is_union_lem, child_here}
use Rattle.refinement.proofs.opening.Walk.{Given}

-- ---- one node

module _ (plan : List ℕ) where
  bits_due : (c w u : Bool) (k z : ℕ) → c ≡ true → k ≡ flag u → w ≡ ltb z 21 → cond (c && not (eqb k 0) && ltb z 21) 1 0 ≡ validity_due w u
  bits_due c w u k z ec ek ew = subst (λ b. cond (b && not (eqb k 0) && ltb z 21) 1 0 ≡ validity_due w u) (sym ec)
      (subst (λ n. cond (true && not (eqb n 0) && ltb z 21) 1 0 ≡ validity_due w u) (sym ek)
      (subst (λ b. cond (true && not (eqb (flag u) 0) && b) 1 0 ≡ validity_due w u) ew (go u w)))
    where
      go : (u w : Bool) → cond (true && not (eqb (flag u) 0) && w) 1 0 ≡ validity_due w u
      go true true = refl
      go true false = refl
      go false true = refl
      go false false = refl

  -- its validity and its buffers
  node_due : (i n : ℕ) (w u : Bool) → copied plan i ≡ true → keeps_of plan i ≡ flag u → w ≡ ltb (code_of plan i) 21 → buffer_count (code_of plan i) ≡ n
      → parts_before plan (suc i) ≡ parts_before plan i + (validity_due w u + n)
  unfolding parts_before validity_parts buffer_parts
  node_due i n w u c k e h =
      let a = bits_due (copied plan i) w u (keeps_of plan i) (code_of plan i) c k e in
      let b : cond (copied plan i) (buffer_count (code_of plan i)) 0 ≡ n = ap (λ z. cond z (buffer_count (code_of plan i)) 0) c ∙ h in
      ap (λ z. parts_before plan i + (z + buffer_parts plan i)) a ∙ ap (λ z. parts_before plan i + (validity_due w u + z)) b

  -- a kept dictionary has none
  none_due : (i : ℕ) → copied plan i ≡ false → parts_before plan (suc i) ≡ parts_before plan i
  unfolding parts_before validity_parts buffer_parts
  none_due i c = rw c (add-zero (parts_before plan i))

  plain_due_lem : (p : Plain) (i : ℕ) → WordedPlain plan p i → buffer_count (code_of plan i) ≡ plain_due p
  plain_due_lem (fixed n) i w = fixed_one (code_of plan i) w.0
  plain_due_lem (string v) i w = string_two (code_of plan i) w.0

  plain_low : (p : Plain) (i : ℕ) → WordedPlain plan p i → code_of plan i < 15
  plain_low (fixed n) i w = omega (arith, between_both 1 10 (code_of plan i) w.0)
  plain_low (string v) i w = omega (arith, between_both 11 14 (code_of plan i) w.0)

  plain_mask : (p : Plain) (i : ℕ) → WordedPlain plan p i → true ≡ ltb (code_of plan i) 21
  plain_mask p i w = sym (borrow.Author.Tests.lt-ltb (code_of plan i) 21 (omega (arith, plain_low p i w)))

  -- from node i to its end there are n parts
  abbrev Adds : ℕ → ℕ → Type 0
  Adds i n = parts_before plan (end_of plan i) ≡ parts_before plan i + n

  -- the children of a union, one behind the other
  fields_due : (count : ℕ → ℕ) (kid : ℕ → ℕ → Type 0) (nullable : ℕ → Bool) (end : ℕ) (ids : List ℕ) (k fuel : ℕ) → Fields plan kid nullable end ids k → Ids ids → length ids ≤ fuel
      → ((e : ℕ) → Memᴰ e ids → Adds (child_with plan e end fuel k) (count e)) → parts_before plan end ≡ parts_before plan k + summed count ids
  fields_due count kid nullable end [] k fuel f d l each = let e : end ≡ k = sym f in rw e (omega arith)
  fields_due count kid nullable end (c ∷ cs) k zero f d l each = absurd (omega arith)
  fields_due count kid nullable end (c ∷ cs) k (suc fuel) f d l each =
      let small : k < end = omega (arith, f.2, f.3) in
      let here : Adds k (count c) = subst (λ z. Adds z (count c)) (with_first plan c end fuel k small f.0) (each c (Memᴰ.head refl)) in
      let rest = fields_due count kid nullable end cs (end_of plan k) fuel f.5 d.2 (omega arith)
      (λ e q. subst (λ z. Adds z (count e)) (with_later plan e end fuel k small (λ x. d.1 (subst (λ v. Memᴰ v cs) (sym x ∙ f.0) q))) (each e (Memᴰ.tail q))) in
      omega (arith, here, rest)

-- ---- all nodes

module _ (x : Lent) (laid : Laid x.plan) (m : ℕ) where
  abbrev plan : List ℕ
  plan = x.plan

  inside : (i : ℕ) → Here plan i → i < end_of plan 0
  inside i here = ((closed_here plan laid).own i here).0.1

  whole : (i : ℕ) → Here plan i → copied plan i ≡ true
  whole i here = copied_free plan i ((closed_here plan laid).own i here).1

  -- the node behind the keys, shared or joined
  values_due : (i : ℕ) (p : Plain) (s u : Bool) → word plan i 7 ≡ flag (not s) → (dictionary_of plan i ≡ 0 → ⊥) → keeps_of plan (suc i) ≡ flag u → WordedPlain plan p (suc i)
      → parts_before plan (suc (suc i)) ≡ parts_before plan (suc i) + cond s 0 (validity_due true u + plain_due p)
  unfolding copied
  values_due i p true u w d k h = none_due plan (suc i) (rw (ne_eqb (dictionary_of plan i) 0 d, w) refl) ∙ omega arith
  values_due i p false u w d k h = node_due plan (suc i) (plain_due p) true u (rw (ne_eqb (dictionary_of plan i) 0 d, w) refl) k (plain_mask plan p (suc i) h) (plain_due_lem plan p (suc i) h)

  due_at : (k : ℕ) (t : Ty) (i : ℕ) (u : Bool) (ss : ℕ → Body t) → Worded plan k t i → Formed t → Here plan i → keeps_of plan i ≡ flag u → Kept plan m t i u ss → EntriesLent x t i m ss
      → Adds plan i (validity_due (masks t) u + due_below m t u ss)
  due_at (suc k) (t_plain p) i u ss w fm here e q g =
      rw (laid.plain_ends i (inside i here) (plain_low plan p i w.3) w.2) (node_due plan i (plain_due p) true u (whole i here) e (plain_mask plan p i w.3) (plain_due_lem plan p i w.3))
  due_at (suc k) t_view i u ss w fm here e q g =
      rw (laid.view_ends i (inside i here) w.2) (node_due plan i 1 true u (whole i here) e (masks_code plan (suc k) t_view i w) (view_one (code_of plan i) w.2))
  due_at (suc k) (t_list_view v t) i u ss w fm here e q g =
      let own = node_due plan i 2 true u (whole i here) e (masks_code plan (suc k) (t_list_view v t) i w) (list_two (code_of plan i) w.2) in
      let kid = due_at k t (suc i) (keeps u m (λ s. (ss s).child)) (λ s. (ss s).child.body) w.4 fm.1 ((closed_here plan laid).item i here (between_wide 17 18 17 20 (code_of plan i) (omega arith) (omega arith) w.2)) q.0 q.1 g in
      rw w.1 (omega (arith, own, kid))
  due_at (suc k) (t_list v t) i u ss w fm here e q g =
      let own = node_due plan i 1 true u (whole i here) e (masks_code plan (suc k) (t_list v t) i w) (lists_one (code_of plan i) w.2) in
      let kid = due_at k t (suc i) (keeps u m (λ s. (ss s).child)) (λ s. (ss s).child.body) w.4 fm.1 ((closed_here plan laid).item i here (between_wide 19 20 17 20 (code_of plan i) (omega arith) (omega arith) w.2)) q.0 q.1 g in
      rw w.1 (omega (arith, own, kid))
  due_at (suc k) (t_sparse ids nullable f) i u ss w fm here e q g =
      let z = is_union_lem plan i 21 w.1 refl in
      let own = node_due plan i 1 false u (whole i here) e (masks_code plan (suc k) (t_sparse ids nullable f) i w) (ap buffer_count w.1) in
      let kids = fields_due plan
      (λ c. validity_due (masks (f c)) (keeps u m (λ s. (ss s).children c)) + due_below m (f c) (keeps u m (λ s. (ss s).children c)) (λ s. ((ss s).children c).body))
      (λ c. Worded plan k (f c)) nullable (end_of plan i) ids (suc i) 32 w.4 fm.0 (omega (arith, w.2))
      (λ b o. let d = child_here plan laid k f nullable ids i here z w.2 w.4 b o in
      due_at k (f b) (child_of plan i b) (keeps u m (λ s. (ss s).children b)) (λ s. ((ss s).children b).body) d.1 (fm.1 b o) d.0 (q b o).0 (q b o).1 (g b o)) in
      omega (arith, own, kids)
  due_at (suc k) (t_dense ids nullable f) i u ss w fm here e q g =
      let z = is_union_lem plan i 22 w.1 refl in
      let own = node_due plan i 2 false u (whole i here) e (masks_code plan (suc k) (t_dense ids nullable f) i w) (ap buffer_count w.1) in
      let kids = fields_due plan
      (λ c. validity_due (masks (f c)) (keeps u m (λ s. (ss s).children c)) + due_below m (f c) (keeps u m (λ s. (ss s).children c)) (λ s. ((ss s).children c).body))
      (λ c. Worded plan k (f c)) nullable (end_of plan i) ids (suc i) 32 w.4 fm.0 (omega (arith, w.2))
      (λ b o. let d = child_here plan laid k f nullable ids i here z w.2 w.4 b o in
      due_at k (f b) (child_of plan i b) (keeps u m (λ s. (ss s).children b)) (λ s. ((ss s).children b).body) d.1 (fm.1 b o) d.0 (q b o).0 (q b o).1 (g b o)) in
      omega (arith, own, kids)
  due_at (suc k) (t_run_end v t) i u ss w fm here e q g =
      let own = node_due plan i 0 false u (whole i here) e (masks_code plan (suc k) (t_run_end v t) i w) (ap buffer_count w.2) in
      let fix : is_fixed (code_of plan (suc i)) ≡ true = (laid.run_ends_lem i (inside i here) w.2).0 in
      let low = between_both 1 10 (code_of plan (suc i)) fix in
      let ends = node_due plan (suc i) 1 true false (copied_free plan (suc i) ((closed_here plan laid).ends i here w.2).1) q.0 (sym (borrow.Author.Tests.lt-ltb (code_of plan (suc i)) 21 (omega (arith, low)))) (fixed_one (code_of plan (suc i)) fix) in
      let vals = due_at k t (suc (suc i)) (keeps u m (λ s. (ss s).values)) (λ s. (ss s).values.body) w.4 fm.1 ((closed_here plan laid).values i here w.2) q.1 q.2 g in
      rw w.1 (omega (arith, own, ends, vals))
  due_at (suc k) (t_dictionary n p) i u ss w fm here e q g =
      let own = node_due plan i 1 true u (whole i here) e (masks_code plan (suc k) (t_dictionary n p) i w) (fixed_one (code_of plan i) w.3) in
      let vals = values_due i p (shared m ss) (keeps false m (λ s. (ss s).values)) q.1 w.2 q.0 g.plain_is in
      rw (laid.tabled.keys_end i (inside i here) w.2) (omega (arith, own, vals))
  due_at zero t i u ss w fm here e q g = elim w [ ]

begins : (plan : List ℕ) (n : ℕ) → parts_before plan 0 + n ≡ n
unfolding parts_before
begins plan n = omega arith

-- AS MANY PARTS as the type has
pub parts_due_lem : (x : Lent) (t : Ty) (m : ℕ) (ss : ℕ → Column t) (keep gaps : Bool) → Given x t m ss keep gaps → part_total x.plan ≡ parts_due m t keep ss
parts_due_lem x t m ss keep gaps g =
    ap (parts_before x.plan) g.all_nodes_lem
    ∙ due_at x g.laid m 8 t 0 (keeps keep m ss) (λ s. (ss s).body) g.worded g.formed (typed 8 t g.worded (omega arith) (omega arith), tt) g.root_keeps g.kept g.entries
    ∙ begins x.plan (parts_due m t keep ss)
