-- ONE RUN FOR A GAP, where it is chosen, over whole joins: every run-end node, wherever it stands, came by what the calls that are carried out add to it, and
-- of one more null order its last run is lengthened exactly as W14 says. Assumes nothing.
use mathlib.Core.Path.{◌≡◌, refl, sym, ap, subst, ◌∙◌}
use mathlib.Core.Bool.{Bool, true, false, ◌&&◌, false≢true}
use mathlib.Core.List.{List, [], ◌∷◌}
use Prim.Native.Nat.{ℕ, zero, suc, ◌+◌, ◌-◌}
use lib.ListN.{replicate}
use lib.Dec.{ltb, leb, eqb}
use borrow.Author.Tests.{ne_eqb}
use Rattle.columnar.specs.Types.{half, Ty, t_plain, t_view, t_list_view, t_list, t_sparse, t_dense, t_run_end, t_dictionary}
use Rattle.columnar.specs.Reading.{Body, Column, masks}
use Rattle.model.specs.Try.{Try, done, stop, after}
use Rattle.model.specs.Ordered.{home}
use Rattle.model.specs.Mutable.{Mutable, nulls_node}
use Rattle.model.specs.Unions.{Denses, dense_null}
use Rattle.model.specs.Runs.{Runs, last_end, runs_null}
use Rattle.model.specs.Transform.{Grown, Destination, start_data, start}
use Rattle.model.specs.Opening.{keeps}
use Rattle.model.specs.Book.{Call, copy, nulls}
use Rattle.model.specs.Orders.{perform}
use Rattle.model.proofs.Follow.{guard_done}
use Rattle.model.proofs.CutTries.{done_is, then_done}
use Rattle.refinement.specs.orders.Fits.{fits, answer_in, answers_in}
use Rattle.join.specs.Join.{Lending, sources_in, type_in, columns_in, lent_of, first, reached_by, carried_from, carried_out}
use Rattle.join.specs.Gap.{nulls_latest, Came, begun, Grows, Histories, no_history, call_adds, calls_add, EveryCame, Either, NullsGrow}
use Rattle.join.proofs.GapStay.{both_done, same_any, same_then, same_guard}
use Rattle.join.proofs.GapSaid.{null_grown, gap_says, node_grows, latest}
use Rattle.join.proofs.GapNodes.{Kept, kept_holds, by_done, kept_sparse, kept_child, extend_node_lem, extend_came, nulls_node_lem, nulls_add_lem}
use Rattle.model.proofs.Names.{nulls_data, keeps_nulls}

-- ---- n nulls more

grow_node : (t : Ty) → ((n l : ℕ) (h : Histories t) (d : Grown t) → EveryCame t h d → Kept (NullsGrow t (suc n) h d) (nulls_data t (suc n) l d)) → (n : ℕ) (h : Histories t) (d : Destination t)
    → EveryCame t h d.«data» → Kept (λ (e : Destination t). NullsGrow t (suc n) h d.«data» e.«data») (nulls_node (masks t) (nulls_data t) (suc n) d)
grow_node t f n h d q = same_then (f n d.len h d.«data» q) (λ b p. both_done _ p)

grow_runs : {P D : Type 0} (Q : D → Type 0) (w : ℕ) (fill : ℕ → Mutable D → Try (Mutable D)) (n : ℕ) (d : Runs D) (hs : List _) → Came P w hs d
    → Kept (λ (x : Mutable D). Q x.«data») (fill 1 d.values)
    → Kept (λ (e : Runs D). Grows w hs (suc n) d e × Either (nulls_latest hs) (e.values ≡ d.values) (Q e.values.«data»)) (runs_null w fill (suc n) d)
grow_runs {P} {D} Q w fill n d hs c k =
    by_done _ (runs_null w fill (suc n) d) (λ e p. (node_grows w P e c fill (suc n) p, go e p (nulls_latest hs) refl))
  where
    go : (e : Runs D) → runs_null w fill (suc n) d ≡ done e → (b : Bool) → nulls_latest hs ≡ b → Either b (e.values ≡ d.values) (Q e.values.«data»)
    go e p true z = ap (λ (x : Runs D). x.values) (sym (null_grown w fill (suc n) d e ((gap_says w P c).1 ((latest hs).0 z)) p))
    go e p false z =
        let off : d.gap ≡ 2 → ⊥ = λ y. false≢true (sym z ∙ (latest hs).1 ((gap_says w P c).0 y)) in
        let t = then_done (fill 1 d.values) _ e (rw (ne_eqb d.gap 2 off) at p) in
        let g = guard_done (ltb (last_end w d.ends + suc n) (half w)) 7 _ e t.rest_done in
        subst (λ (x : Runs D). Q x.values.«data») (done_is g.1) (kept_holds _ _ t.first k t.first_done)

nulls_grow : (t : Ty) (n l : ℕ) (h : Histories t) (d : Grown t) → EveryCame t h d → Kept (NullsGrow t (suc n) h d) (nulls_data t (suc n) l d)
nulls_grow (t_plain p) n l h d q = same_any _
nulls_grow t_view n l h d q = same_any _
nulls_grow (t_list_view w t) n l h d q = both_done _ refl
nulls_grow (t_list w t) n l h d q = both_done _ refl
nulls_grow (t_sparse ids nullable f) n l h d q =
    same_then (same_any (home nullable ids))
    (λ e u. kept_sparse f (λ c. nulls_node (masks (f c)) (nulls_data (f c)) (suc n) (d.children c)) d.children (λ c y. NullsGrow (f c) (suc n) (h c) (d.children c).«data» y.«data») ids (replicate (suc n) e) d.buffer1
    (λ c i. grow_node (f c) (nulls_grow (f c)) n (h c) (d.children c) (q c i)))
nulls_grow (t_dense ids nullable f) n l h d q =
    let F : (c : ℕ) → Try (Destination (f c)) = λ c. nulls_node (masks (f c)) (nulls_data (f c)) (suc n) (d.children c) in
    let Q : (c : ℕ) → Destination (f c) → Type 0 = λ c y. NullsGrow (f c) (suc n) (h c) (d.children c).«data» y.«data» in
    let T : (c : ℕ) → Bool → Destination (f c) → Type 0 = λ c b y. Either b (Q c y) (y ≡ d.children c) in
    by_done _ (dense_null ids nullable (λ c. nulls_node (masks (f c)) (nulls_data (f c))) (suc n) d)
    (λ e p.
    let s = then_done (home nullable ids) _ e p in
    let c = s.first in
    let g = guard_done (leb ((d.children c).len + suc n) (half 4)) 6 _ e s.rest_done in
    let t = then_done (F c) _ e g.1 in
    let z : after (home nullable ids) 0 ≡ c = ap (λ (a : Try ℕ). after a 0) s.first_done in
    subst (λ (v : ℕ). (b : ℕ) → T b (eqb b v) (e.children b)) (sym z)
    (subst (λ (y : Denses (λ c. Grown (f c))). (b : ℕ) → T b (eqb b c) (y.children b)) (done_is t.rest_done)
    (kept_child f F d.children Q T (λ b y p. p) (λ b. refl) c (grow_node (f c) (nulls_grow (f c)) n (h c) (d.children c) (q c)) t.first t.first_done)))
nulls_grow (t_run_end w t) n l h d q =
    grow_runs (λ y. NullsGrow t 1 h.1 d.values.«data» y) w (nulls_node (masks t) (nulls_data t)) n d h.0 q.0 (grow_node t (nulls_grow t) 0 h.1 d.values q.1)
nulls_grow (t_dictionary k p) n l h d q = same_any _

-- ---- the opening, and any list of calls

start_came : (t : Ty) (u : Bool) (m : ℕ) (ss : ℕ → Body t) → EveryCame t (no_history t) (start_data true t u m ss)
start_came (t_plain p) u m ss = tt
start_came t_view u m ss = tt
start_came (t_list_view w t) u m ss = start_came t _ m _
start_came (t_list w t) u m ss = start_came t _ m _
start_came (t_sparse ids nullable f) u m ss = λ c i. start_came (f c) _ m _
start_came (t_dense ids nullable f) u m ss = λ c. start_came (f c) _ m _
start_came (t_run_end w t) u m ss = (begun _ refl refl, start_came t _ m _)
start_came (t_dictionary k p) u m ss = tt

call_came : (t : Ty) (m : ℕ) (ss : ℕ → Column t) (o : Call) (h : Histories t) (d : Destination t) → EveryCame t h d.«data»
    → Kept (λ (e : Destination t). EveryCame t (call_adds t ss o h) e.«data») (perform t m ss o d)
call_came t m ss (copy j a e) h d q = same_guard (ltb j m) 1 (same_guard (leb a e && leb e (ss j).len) 2 (extend_node_lem t m ss j (extend_came t m (λ i. (ss i).body) j) a (e - a) h d q))
call_came t m ss (nulls zero) h d q = same_guard (keeps_nulls d) 3 (both_done d q)
call_came t m ss (nulls (suc n)) h d q = same_guard (keeps_nulls d) 3 (nulls_node_lem t (nulls_add_lem t) n h d q)

-- ---- a whole join: after an opening with the choice, and any list of calls, refused ones included

module _ (l : Lending) where
  came_after : (os : List Call) (h : Histories (type_in l)) (d : Destination (type_in l)) → EveryCame (type_in l) h d.«data»
      → EveryCame (type_in l) (calls_add (type_in l) (columns_in l) (carried_from l os d) h) (answers_in (lent_of l).plan l.parts (type_in l) (sources_in l) (columns_in l) os d).«data»
  came_after [] h d c = c
  came_after (o ∷ os) h d c = go (answer_in (lent_of l).plan l.parts (type_in l) (sources_in l) (columns_in l) o d) refl (came_after os)
    where
      go : (a : Try (Destination (type_in l))) → answer_in (lent_of l).plan l.parts (type_in l) (sources_in l) (columns_in l) o d ≡ a
          → ((g : Histories (type_in l)) (e : Destination (type_in l)) → EveryCame (type_in l) g e.«data»
          → EveryCame (type_in l) (calls_add (type_in l) (columns_in l) (carried_from l os e) g) (answers_in (lent_of l).plan l.parts (type_in l) (sources_in l) (columns_in l) os e).«data»)
          → EveryCame (type_in l) (calls_add (type_in l) (columns_in l) (elim a [ done e ↦ o ∷ carried_from l os e | stop g ↦ carried_from l os d ]) h)
          (answers_in (lent_of l).plan l.parts (type_in l) (sources_in l) (columns_in l) os (after a d)).«data»
      go (stop g) q f = f h d c
      go (done e) q f =
          let t = then_done (perform (type_in l) (sources_in l) (columns_in l) o d) _ e q in
          let r = guard_done (fits (lent_of l).plan l.parts (type_in l) 0 t.first) 13 _ e t.rest_done in
          f (call_adds (type_in l) (columns_in l) o h) e (kept_holds _ _ e (call_came (type_in l) (sources_in l) (columns_in l) o h d c) (t.first_done ∙ r.1))

  module _ (on : l.gaps ≡ true) (os : List Call) where
    -- what the calls that are carried out add to every run-end node
    abbrev pub added : Histories (type_in l)
    added = calls_add (type_in l) (columns_in l) (carried_out l os) (no_history (type_in l))

    -- EVERY RUN-END NODE CAME BY IT: its gap is 2 exactly where null orders alone wrote its last run (`gap-says`)
    pub every_came : EveryCame (type_in l) added (reached_by l os).«data»
    every_came =
        came_after os (no_history (type_in l)) (first l)
        (subst (λ g. EveryCame (type_in l) (no_history (type_in l)) (start g (type_in l) l.keep (sources_in l) (columns_in l)).«data») (sym on)
        (start_came (type_in l) (keeps l.keep (sources_in l) (columns_in l)) (sources_in l) (λ i. (columns_in l i).body)))

    -- ONE MORE NULL ORDER lengthens the last run of a run-end node that it comes to exactly there, asking its values for nothing, and adds a run elsewhere
    pub nulls_as_said : (n : ℕ) (e : Destination (type_in l)) → perform (type_in l) (sources_in l) (columns_in l) (nulls (suc n)) (reached_by l os) ≡ done e
        → NullsGrow (type_in l) (suc n) added (reached_by l os).«data» e.«data»
    nulls_as_said n e p =
        kept_holds _ _ e (same_guard (keeps_nulls (reached_by l os)) 3 (grow_node (type_in l) (nulls_grow (type_in l)) n added (reached_by l os) every_came)) p
