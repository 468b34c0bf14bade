-- The dictionaries of a type, in tree order: the walk keeps or joins each as the model does. Assumes nothing.
use mathlib.Core.Path.{◌≡◌, refl, sym, ap, subst, ◌∙◌}
use mathlib.Core.Bool.{Bool, true}
use mathlib.Core.List.Memᴰ
use mathlib.Core.List.{List, [], ◌∷◌, Memᴰ}
use Prim.Native.Nat.{ℕ, zero, suc, ◌-◌, ◌^◌, ◌≤◌, ◌<◌}
use native.Mathlib.Omega.{arith}
use lib.ListN.{length}
use borrow.Author.Tests.{eq-eqb}
use Rattle.columnar.specs.Types.{fixed, string, Ty, t_plain, t_view, t_list_view, t_list, t_sparse, t_dense, t_run_end, t_dictionary}
use Rattle.columnar.specs.Formed.{Ids, Formed}
use Rattle.columnar.specs.Reading.{Body, Column, Source}
use Rattle.schema.specs.formats.Code.{is_union}
use Rattle.model.specs.Try.{Try, done}
use Rattle.model.specs.Opening.{keeps}
use Rattle.model.specs.Transform.{open_all, open_data}
use Rattle.walk.specs.State.{code_of, dictionary_of, end_of}
use Rattle.walk.specs.Log.{Out}
use Rattle.walk.specs.Copy.{child_with}
use Rattle.refinement.specs.walk_is_model.Memory.{Memory}
use Rattle.refinement.specs.walk_is_model.Holds.{child_of, Fields, Worded}
use Rattle.refinement.proofs.walk_is_model.Goes.{Goes, goes_done, goes_map, goes_then}
use Rattle.refinement.proofs.walk_is_model.Frame.{worded_span}
use Rattle.refinement.proofs.walk_is_model.UnionFields.{with_first, with_later}
use Rattle.refinement.proofs.log_in_room.Found.{between_both, between_wide}
use Rattle.refinement.specs.orders.Order.{Lent, source_count}
use Rattle.refinement.proofs.orders.Cover.{Laid}
use Rattle.refinement.specs.opening.Open.{open_dictionary}
use Rattle.refinement.specs.opening.Kept.{Kept}
use Rattle.refinement.specs.opening.Entries.{EntriesLent, Joins}
use Rattle.refinement.proofs.opening.Starts.{Here, closed_here, is_union_lem, child_here}
use Rattle.refinement.proofs.opening.Entries.{then_done, dictionary_goes}
use Rattle.refinement.proofs.opening.Spans.{span, span_none, span_one, span_skip, span_split}
use Rattle.refinement.proofs.opening.Frame.{Left, left_refl, left_then, left_wide, left_values, AllFresh, fresh_part, fresh_left, no_dictionary, not_fixed, keys_end, joins_same}

module _ (x : Lent) (m : ℕ) (few : m ≤ 16) (count_is : source_count x.plan ≡ m) (body_small : length x.body < 2 ^ 63) (laid : Laid x.plan) where
  abbrev plan : List ℕ
  plan = x.plan

  -- the dictionaries of the nodes lo .. hi - 1
  abbrev opening : ℕ → ℕ → List ℕ → Out
  opening lo hi c = span (open_dictionary x) lo hi c

  nothing_here : (i : ℕ) (c : List ℕ) → dictionary_of plan i ≡ 0 → open_dictionary x i c ≡ Rattle.walk.specs.Log.done c
  unfolding open_dictionary
  nothing_here i c e = rw (eq-eqb (dictionary_of plan i) 0 e)

  skip : (i e : ℕ) (c : List ℕ) → i < e → dictionary_of plan i ≡ 0 → opening i e c ≡ opening (suc i) e c
  skip i e c l d = span_skip (open_dictionary x) i e c l (nothing_here i c d)

  only_one : (i : ℕ) (c : List ℕ) → end_of plan i ≡ suc i → dictionary_of plan i ≡ 0 → opening i (end_of plan i) c ≡ Rattle.walk.specs.Log.done c
  only_one i c e d = skip i (end_of plan i) c (omega arith) d ∙ span_none (open_dictionary x) (suc i) (end_of plan i) c (sym e)

  -- the dictionaries of a type from node i on
  abbrev pub Joined : (t : Ty) → ℕ → (ℕ → Body t) → List ℕ → Memory → Unit {0} → List ℕ → Memory → Type 0
  Joined t i ss c μ y c' μ' = Joins plan t i m ss c' μ' × Left plan i (end_of plan i) c c' μ μ'

  abbrev pub Opens : (t : Ty) → ℕ → (ℕ → Body t) → Type 0
  Opens t i ss = (c : List ℕ) (μ : Memory) → length c ≡ 96 → AllFresh plan i (end_of plan i) c μ → Goes μ (Joined t i ss c μ) (open_data t m ss) (opening i (end_of plan i) c)

  -- a type with no dictionary at its own node, and none below
  none_opens : (t : Ty) (i : ℕ) (ss : ℕ → Body t) → end_of plan i ≡ suc i → dictionary_of plan i ≡ 0 → open_data t m ss ≡ done tt → ((c : List ℕ) (μ : Memory) → Joins plan t i m ss c μ) → Opens t i ss
  none_opens t i ss e d o j c μ long f = rw (only_one i c e d, o) (goes_done tt c (j c μ, left_refl plan i (end_of plan i) c μ))

  -- ---- the children of a union, one behind the other

  module _ (k : ℕ) (f : ℕ → Ty) (nullable : ℕ → Bool) (end : ℕ) (node : ℕ → ℕ) (bodies : (e : ℕ) → ℕ → Body (f e)) where
    abbrev kid : ℕ → ℕ → Type 0
    kid e = Worded plan k (f e)

    abbrev answers : ℕ → Try (Unit {0})
    answers e = open_data (f e) m (bodies e)

    abbrev AllJoined : List ℕ → ℕ → List ℕ → Memory → Unit {0} → List ℕ → Memory → Type 0
    AllJoined cs n c μ y c' μ' = ((e : ℕ) → Memᴰ e cs → Joins plan (f e) (node e) m (bodies e) c' μ') × Left plan n end c c' μ μ'

    fields_open : (cs : List ℕ) (n fuel : ℕ) → Fields plan kid nullable end cs n → Ids cs → length cs ≤ fuel → ((e : ℕ) → Memᴰ e cs → child_with plan e end fuel n ≡ node e)
        → ((e : ℕ) → Memᴰ e cs → Here plan (node e) × EntriesLent x (f e) (node e) m (bodies e) × Opens (f e) (node e) (bodies e))
        → (c : List ℕ) (μ : Memory) → length c ≡ 96 → AllFresh plan n end c μ → Goes μ (AllJoined cs n c μ) (open_all cs answers) (opening n end c)
    fields_open [] n fuel w ids l at kids c μ long fresh =
        rw (span_none (open_dictionary x) n end c w) (goes_done tt c ((λ e q. absurd (Memᴰ.not-nil q)), left_refl plan n end c μ))
    fields_open (b ∷ cs) n zero w ids l at kids c μ long fresh = absurd (omega arith)
    fields_open (b ∷ cs) n (suc fuel) w ids l at kids c μ long fresh =
        subst (Goes μ (AllJoined (b ∷ cs) n c μ) (open_all (b ∷ cs) answers)) (sym (span_split (open_dictionary x) n (end_of plan n) end c (omega (arith, w.2)) w.3))
        (goes_then (λ y. open_all cs answers) (λ c2. opening (end_of plan n) end c2) here
        (λ y c2 ν q.
        goes_map (λ z c3 ξ r. (all c2 ν q c3 ξ r, left_then plan (left_wide plan n (end_of plan n) n end (omega arith) w.3 q.1) (left_wide plan (end_of plan n) end n end (omega (arith, w.2)) (omega arith) r.1)))
        (fields_open cs (end_of plan n) fuel w.5 ids.2 (omega arith) later (λ e g. kids e (Memᴰ.tail g)) c2 ν (q.1.long ∙ long)
        (fresh_left plan n (end_of plan n) end (omega (arith, w.2)) q.1 fresh))))
      where
        before : n < end
        before = omega (arith, w.2, w.3)

        node_is : node b ≡ n
        node_is = sym (at b (Memᴰ.head refl)) ∙ with_first plan b end fuel n before w.0

        later : (e : ℕ) → Memᴰ e cs → child_with plan e end fuel (end_of plan n) ≡ node e
        later e g = sym (with_later plan e end fuel n before (λ q. ids.1 (subst (λ z. Memᴰ z cs) (sym q ∙ w.0) g))) ∙ at e (Memᴰ.tail g)

        here : Goes μ (λ y c2 ν. Joins plan (f b) (node b) m (bodies b) c2 ν × Left plan n (end_of plan n) c c2 μ ν) (answers b) (opening n (end_of plan n) c)
        here =
            subst (λ z. Goes μ (λ y c2 ν. Joins plan (f b) (node b) m (bodies b) c2 ν × Left plan z (end_of plan z) c c2 μ ν) (answers b) (opening z (end_of plan z) c)) node_is
            ((kids b (Memᴰ.head refl)).2 c μ long (subst (λ z. AllFresh plan z (end_of plan z) c μ) (sym node_is) (fresh_part plan n end n (end_of plan n) (omega arith) w.3 fresh)))

        -- the child that was opened is as its opening left it
        all : (c2 : List ℕ) (ν : Memory) → Joins plan (f b) (node b) m (bodies b) c2 ν × Left plan n (end_of plan n) c c2 μ ν → {z : Unit {0}} (c3 : List ℕ) (ξ : Memory) → AllJoined cs (end_of plan n) c2 ν z c3 ξ
            → (e : ℕ) → Memᴰ e (b ∷ cs) → Joins plan (f e) (node e) m (bodies e) c3 ξ
        all c2 ν q c3 ξ r e (Memᴰ.tail g) = r.0 e g
        all c2 ν q c3 ξ r e (Memᴰ.head i) =
            subst (λ z. Joins plan (f z) (node z) m (bodies z) c3 ξ) (sym i)
            (joins_same x m c2 c3 ν ξ laid k (f b) (node b) (bodies b) (subst (kid b) (sym node_is) w.4) (kids b (Memᴰ.head refl)).0 (kids b (Memᴰ.head refl)).1
            (λ j u v. r.1.same j (λ u2 v2. let z : end_of plan (node b) ≡ end_of plan n = ap (end_of plan) node_is in absurd (omega arith))) q.0)

  -- a union: nothing at its own node
  union_opens : (k : ℕ) (f : ℕ → Ty) (nullable : ℕ → Bool) (ids : List ℕ) (i : ℕ) (bodies : (e : ℕ) → ℕ → Body (f e)) → Here plan i → is_union (code_of plan i) ≡ true → Ids ids → length ids ≤ 16
      → i < end_of plan i → Fields plan (λ e. Worded plan k (f e)) nullable (end_of plan i) ids (suc i)
      → ((e : ℕ) → Memᴰ e ids → EntriesLent x (f e) (child_of plan i e) m (bodies e) × Opens (f e) (child_of plan i e) (bodies e))
      → (c : List ℕ) (μ : Memory) → length c ≡ 96 → AllFresh plan i (end_of plan i) c μ
      → Goes μ (λ y c' μ'. ((e : ℕ) → Memᴰ e ids → Joins plan (f e) (child_of plan i e) m (bodies e) c' μ') × Left plan i (end_of plan i) c c' μ μ') (open_all ids (λ e. open_data (f e) m (bodies e)))
      (opening i (end_of plan i) c)
  union_opens k f nullable ids i bodies here u ds l s w kids c μ long fresh =
      rw (skip i (end_of plan i) c s (no_dictionary plan laid i here (not_fixed plan laid i 21 22 (omega arith) u)))
      (goes_map (λ y c' μ' q. (q.0, left_wide plan (suc i) (end_of plan i) i (end_of plan i) (omega arith) (omega arith) q.1))
      (fields_open k f nullable (end_of plan i) (child_of plan i) bodies ids (suc i) 32 w ds (omega arith) (λ e q. refl)
      (λ e q. ((child_here plan laid k f nullable ids i here u l w e q).0, (kids e q).0, (kids e q).1)) c μ long (fresh_part plan i (end_of plan i) (suc i) (end_of plan i) (omega arith) (omega arith) fresh)))

  -- ---- every type

  within : (i : ℕ) → Here plan i → i < end_of plan 0
  within i here = ((closed_here plan laid).own i here).0.1

  -- THE DICTIONARIES OF A TYPE, from node i on
  pub opens_at : (k : ℕ) (t : Ty) (i : ℕ) (u : Bool) (ss : ℕ → Column t) → Worded plan k t i → Formed t → Here plan i → ((j : ℕ) → j < m → Source t (ss j))
      → EntriesLent x t i m (λ j. (ss j).body) → Kept plan m t i u (λ j. (ss j).body) → Opens t i (λ j. (ss j).body)
  opens_at (suc k) (t_plain (fixed n)) i u ss w o here g l q =
      let z = between_both 1 10 (code_of plan i) w.3.0 in
      none_opens (t_plain (fixed n)) i (λ j. (ss j).body) (laid.plain_ends i (within i here) (omega (arith, z.1)) w.2) w.2 refl (λ c μ. tt)
  opens_at (suc k) (t_plain (string v)) i u ss w o here g l q =
      let z = between_both 11 14 (code_of plan i) w.3.0 in
      none_opens (t_plain (string v)) i (λ j. (ss j).body) (laid.plain_ends i (within i here) (omega (arith, z.1)) w.2) w.2 refl (λ c μ. tt)
  opens_at (suc k) t_view i u ss w o here g l q =
      none_opens t_view i (λ j. (ss j).body) (laid.view_ends i (within i here) w.2) (no_dictionary plan laid i here (not_fixed plan laid i 15 16 (omega arith) w.2)) refl (λ c μ. tt)
  opens_at (suc k) (t_list_view v t) i u ss w o here g l q =
      λ c μ long f.
      let e : end_of plan i ≡ end_of plan (suc i) = w.1 in
      let s = worded_span plan (suc k) (t_list_view v t) i w in
      rw (skip i (end_of plan i) c s (no_dictionary plan laid i here (not_fixed plan laid i 17 18 (omega arith) w.2)), e)
      (goes_map (λ y c' μ' r. (r.0, left_wide plan (suc i) (end_of plan (suc i)) i (end_of plan i) (omega arith) (omega arith) r.1))
      (opens_at k t (suc i) (keeps u m (λ j. (ss j).body.child)) (λ j. (ss j).body.child) w.4 o.1 ((closed_here plan laid).item i here (between_wide 17 18 17 20 (code_of plan i) (omega arith) (omega arith) w.2)) (λ j h. (g j h).slots.child_rule) l q.1 c μ long
      (fresh_part plan i (end_of plan i) (suc i) (end_of plan (suc i)) (omega arith) (omega arith) f)))
  opens_at (suc k) (t_list v t) i u ss w o here g l q =
      λ c μ long f.
      let e : end_of plan i ≡ end_of plan (suc i) = w.1 in
      let s = worded_span plan (suc k) (t_list v t) i w in
      rw (skip i (end_of plan i) c s (no_dictionary plan laid i here (not_fixed plan laid i 19 20 (omega arith) w.2)), e)
      (goes_map (λ y c' μ' r. (r.0, left_wide plan (suc i) (end_of plan (suc i)) i (end_of plan i) (omega arith) (omega arith) r.1))
      (opens_at k t (suc i) (keeps u m (λ j. (ss j).body.child)) (λ j. (ss j).body.child) w.4 o.1 ((closed_here plan laid).item i here (between_wide 19 20 17 20 (code_of plan i) (omega arith) (omega arith) w.2)) (λ j h. (g j h).slots.child_rule) l q.1 c μ long
      (fresh_part plan i (end_of plan i) (suc i) (end_of plan (suc i)) (omega arith) (omega arith) f)))
  opens_at (suc k) (t_sparse ids nullable f) i u ss w o here g l q =
      union_opens k f nullable ids i (λ e j. ((ss j).body.children e).body) here (is_union_lem plan i 21 w.1 refl) o.0 w.2 w.3 w.4
      (λ e p. let d = child_here plan laid k f nullable ids i here (is_union_lem plan i 21 w.1 refl) w.2 w.4 e p in (
        l e p,
        opens_at k (f e) (child_of plan i e) (keeps u m (λ j. (ss j).body.children e)) (λ j. (ss j).body.children e) d.1 (o.1 e p) d.0 (λ j h. (g j h).slots.child_rule e p) (l e p) (q e p).1,
      ))
  opens_at (suc k) (t_dense ids nullable f) i u ss w o here g l q =
      union_opens k f nullable ids i (λ e j. ((ss j).body.children e).body) here (is_union_lem plan i 22 w.1 refl) o.0 w.2 w.3 w.4
      (λ e p. let d = child_here plan laid k f nullable ids i here (is_union_lem plan i 22 w.1 refl) w.2 w.4 e p in (
        l e p,
        opens_at k (f e) (child_of plan i e) (keeps u m (λ j. (ss j).body.children e)) (λ j. (ss j).body.children e) d.1 (o.1 e p) d.0 (λ j h. (g j h).slots.child_rule e p) (l e p) (q e p).1,
      ))
  opens_at (suc k) (t_run_end v t) i u ss w o here g l q =
      λ c μ long f.
      let e : end_of plan i ≡ end_of plan (suc (suc i)) = w.1 in
      let s = worded_span plan k t (suc (suc i)) w.4 in
      let z : code_of plan i ≡ 23 = w.2 in
      let d : dictionary_of plan (suc i) ≡ 0 = laid.tabled.ends_plain i ((closed_here plan laid).ends i here w.2).0.1 w.2 in
      rw (skip i (end_of plan i) c (omega arith) ((closed_here plan laid).ends i here w.2).1, skip (suc i) (end_of plan i) c (omega arith) d, e)
      (goes_map (λ y c' μ' r. (r.0, left_wide plan (suc (suc i)) (end_of plan (suc (suc i))) i (end_of plan i) (omega arith) (omega arith) r.1))
      (opens_at k t (suc (suc i)) (keeps u m (λ j. (ss j).body.values)) (λ j. (ss j).body.values) w.4 o.1 ((closed_here plan laid).values i here w.2) (λ j h. (g j h).slots.child_rule) l q.2 c μ long
      (fresh_part plan i (end_of plan i) (suc (suc i)) (end_of plan (suc (suc i))) (omega arith) (omega arith) f)))
  opens_at (suc k) (t_dictionary n p) i u ss w o here g l q =
      λ c μ long f.
      let e = keys_end plan laid i here w.2 in
      subst (λ t. Goes μ (Joined (t_dictionary n p) i (λ j. (ss j).body) c μ) t (opening i (end_of plan i) c)) (then_done (open_data (t_dictionary n p) m (λ j. (ss j).body)))
      (rw (span_one (open_dictionary x) i (end_of plan i) c w.1)
      (goes_then done (λ c2. opening (suc i) (end_of plan i) c2)
      (dictionary_goes x m few count_is body_small n p i (λ j. (ss j).body) l o.1 (λ j h. (g j h).slots.child_rule) c μ long q.0 w.2 q.1 q.2 (λ b. f (suc i) (omega arith) (omega arith) b))
      (λ y c2 ν r. rw (skip (suc i) (end_of plan i) c2 (omega arith) l.no_keys ∙ span_none (open_dictionary x) (suc (suc i)) (end_of plan i) c2 (sym e))
      (goes_done y c2 (r.0, left_values plan i (end_of plan i) (omega arith) w.2 r.1)))))
  opens_at zero t i u ss w o here g l q = elim w [ ]
