-- ONE RUN FOR A GAP, where it is chosen: a copy and a null order add to every run-end node, wherever it stands, what the sources' numbers say
-- (specs/Gap.antt). Assumes nothing.
use mathlib.Core.Path.{◌≡◌, refl, sym, ap, subst, ◌∙◌}
use mathlib.Core.Bool.{Bool, true, false, cond, false≢true}
use mathlib.Core.List.{List, [], ◌∷◌, Memᴰ}
use Prim.Native.Nat.{ℕ, zero, suc, ◌+◌, ◌-◌}
use native.Mathlib.Omega.{arith}
use lib.ListN.{take, drop, get_or, replicate}
use lib.Dec.{ltb, leb, eqb}
use borrow.Author.Tests.{eqb-true, ne_eqb}
use Rattle.columnar.specs.Types.{half, Ty, t_plain, t_view, t_list_view, t_list, t_sparse, t_dense, t_run_end, t_dictionary}
use Rattle.columnar.specs.Array.{item}
use Rattle.columnar.specs.RunEnd.{RunEnd}
use Rattle.columnar.specs.Reading.{Body, Column, masks}
use Rattle.model.specs.Try.{Try, done, stop, after, steps_t}
use Rattle.model.specs.Ordered.{home}
use Rattle.model.specs.Grounds.{first_run, run_count}
use Rattle.model.specs.Mutable.{Mutable, extend_node, nulls_node}
use Rattle.model.specs.Primitive.{new_offsets}
use Rattle.model.specs.ListViews.{list_row}
use Rattle.model.specs.Unions.{Sparses, Denses, in_order, sparse_with, at_child, dense_row, dense_null}
use Rattle.model.specs.Runs.{Runs, last_end, runs_extend, runs_null}
use Rattle.model.specs.Transform.{Grown, Destination, extend_data}
use Rattle.model.proofs.Follow.{guard_done}
use Rattle.model.proofs.CutTries.{done_is, then_done}
use Rattle.join.specs.Gap.{copied, nulled, nulls_latest, Came, copy_came, nulls_came, Histories, in_rows, column_adds, of_child, copy_adds, nulls_add, EveryCame}
use Rattle.join.proofs.GapStay.{Same, both_done, both_stop, same_any, same_then, same_guard}
use Rattle.join.proofs.GapSaid.{null_grown, gap_says, latest}
use Rattle.model.proofs.Names.{nulls_data}

-- ---- where an answer is done, P holds

abbrev pub Kept : {A : Type 0} → (A → Type 0) → Try A → Type 0
Kept P s = Same P s s

pub kept_holds : {A : Type 0} {P : A → Type 0} (s t : Try A) (x : A) → Same P s t → s ≡ done x → P x
kept_holds {P = P} s t x (both_done y h) e = subst P (done_is e) h
kept_holds s t x (both_stop g) e = absurd (let z : ◌≡◌ {A = ℕ} 0 1 = cc e in omega arith)

pub by_done : {A : Type 0} (P : A → Type 0) (s : Try A) → ((x : A) → s ≡ done x → P x) → Kept P s
by_done P (done x) h = both_done x (h x refl)
by_done P (stop g) h = both_stop g

-- row by row, the history beside it
kept_rows : {A H : Type 0} (P : H → A → Type 0) (f : ℕ → A → Try A) (g : ℕ → H → H) → ((i : ℕ) (h : H) (x : A) → P h x → Kept (P (g i h)) (f i x)) → (a n : ℕ) (h : H) (x : A) → P h x
    → Kept (P (in_rows g a n h)) (steps_t f a n x)
kept_rows P f g k a zero h x q = both_done x q
kept_rows P f g k a (suc n) h x q = same_then (k a h x q) (λ y p. kept_rows P f g k (suc a) n (g a h) y p)

-- ---- children

module _ (t : ℕ → Ty) (F : (c : ℕ) → Try (Destination (t c))) (k : (c : ℕ) → Destination (t c)) (Q : (c : ℕ) → Destination (t c) → Type 0) where
  abbrev pub Asked : ℕ → Type 0
  Asked c = Kept (Q c) (F c)

  abbrev pub Answered : ℕ → Type 0
  Answered c = Q c (after (F c) (k c))

  child_done : (c : ℕ) → Asked c → (y : Destination (t c)) → F c ≡ done y → Answered c
  child_done c r y p = subst (λ (a : Try (Destination (t c))). Q c (after a (k c))) (sym p) (kept_holds (F c) (F c) y r p)

  order_done : {A : Type 0} (cs : List ℕ) → ((c : ℕ) → Memᴰ c cs → Asked c) → (x e : A) → in_order F cs x ≡ done e → (x ≡ e) × ((c : ℕ) → Memᴰ c cs → Answered c)
  order_done [] r x e p = (done_is p, λ c m. elim m [ ])
  order_done (b ∷ cs) r x e p =
      let q = then_done (F b) (λ y. in_order F cs x) e p in
      let s = order_done cs (λ c m. r c (Memᴰ.tail m)) x e q.rest_done in
      (s.0, λ c m. go c m (child_done b (r b (Memᴰ.head refl)) q.first q.first_done) s.1)
    where
      go : (c : ℕ) → Memᴰ c (b ∷ cs) → Answered b → ((e : ℕ) → Memᴰ e cs → Answered e) → Answered c
      go c (Memᴰ.head z) h f = subst Answered (sym z) h
      go c (Memᴰ.tail m) h f = f c m

  -- all children of a sparse union
  pub kept_sparse : (ids add b : List ℕ) → ((c : ℕ) → Memᴰ c ids → Asked c)
      → Kept (λ (d : Sparses (λ c. Grown (t c))). (c : ℕ) → Memᴰ c ids → Q c (d.children c)) (sparse_with ids F add (record { buffer1 = b; children = k }))
  kept_sparse ids add b r =
      by_done _ (sparse_with ids F add (record { buffer1 = b; children = k }))
      (λ e p. let q = order_done ids r _ e p in subst (λ (d : Sparses (λ c. Grown (t c))). (c : ℕ) → Memᴰ c ids → Q c (d.children c)) q.0 q.1)

  -- child c alone
  pub kept_child : (T : (e : ℕ) → Bool → Destination (t e) → Type 0) → ((e : ℕ) (y : Destination (t e)) → Q e y → T e true y) → ((e : ℕ) → T e false (k e)) → (c : ℕ) → Asked c
      → (y : Destination (t c)) → F c ≡ done y → (e : ℕ) → T e (eqb e c) (at_child c F k e)
  kept_child T up stay c r y p e = go (eqb e c) refl
    where
      go : (b : Bool) → eqb e c ≡ b → T e b (cond b (after (F e) (k e)) (k e))
      go true z = subst (λ v. T v true (after (F v) (k v))) (sym (eqb-true e c z)) (up c _ (child_done c r y p))
      go false z = stay e

-- ---- a copy

-- at a node, where its data is known
pub extend_node_lem : (t : Ty) (m : ℕ) (xs : ℕ → Column t) (j : ℕ)
    → ((b n l : ℕ) (h : Histories t) (d : Grown t) → EveryCame t h d → Kept (EveryCame t (copy_adds t (xs j).body b n h)) (extend_data t m (λ i. (xs i).body) j b n l d))
    → (a n : ℕ) (h : Histories t) (d : Destination t) → EveryCame t h d.«data»
    → Kept (λ (e : Destination t). EveryCame t (column_adds (copy_adds t) (xs j) a n h) e.«data») (extend_node (masks t) (extend_data t m) xs j a n d)
extend_node_lem t m xs j f a n h d q = same_then (f ((xs j).off + a) n d.len h d.«data» q) (λ b p. both_done _ p)

-- rows of a run-end node, and its values
kept_runs : {P D H : Type 0} (Q : H → D → Type 0) (w : ℕ) (extend : ℕ → ℕ → Mutable D → Try (Mutable D)) (s : RunEnd P) (a n : ℕ) (d : Runs D) (hs : List _) (v : H) → Came P w hs d
    → Kept (λ (x : Mutable D). Q v x.«data») (extend (first_run w s a) (run_count w s a (suc n)) d.values)
    → Kept (λ (e : Runs D). Came P w (copied (suc n) ∷ hs) e × Q v e.values.«data») (runs_extend w extend s a (suc n) d)
kept_runs {P} {D} Q w extend s a n d hs v c k =
    by_done _ (runs_extend w extend s a (suc n) d)
    (λ e p.
    let g = guard_done (ltb (last_end w d.ends + suc n) (half w)) 7 _ e p in
    let t = then_done (extend (first_run w s a) (run_count w s a (suc n)) d.values) _ e g.1 in
    (copy_came e c extend s a (suc n) p, subst (λ (x : Runs D). Q v x.values.«data») (done_is t.rest_done) (kept_holds _ _ t.first k t.first_done)))

pub extend_came : (t : Ty) (m : ℕ) (ss : ℕ → Body t) (j a n l : ℕ) (h : Histories t) (d : Grown t) → EveryCame t h d → Kept (EveryCame t (copy_adds t (ss j) a n h)) (extend_data t m ss j a n l d)
extend_came (t_plain p) m ss j a n l h d q = same_any _
extend_came t_view m ss j a n l h d q = same_any _
extend_came (t_list_view w t) m ss j a n l h d q =
    kept_rows (EveryCame (t_list_view w t)) (list_row w (extend_node (masks t) (extend_data t m) (λ i. (ss i).child) j) (ss j))
    (λ r k. column_adds (copy_adds t) (ss j).child (item w (ss j).offsets r) (item w (ss j).sizes r) k)
    (λ i k x z.
    same_guard (ltb (x.child.len + item w (ss j).sizes i) (half w)) 6
    (same_then (extend_node_lem t m (λ e. (ss e).child) j (extend_came t m (λ e. (ss e).child.body) j) (item w (ss j).offsets i) (item w (ss j).sizes i) k x.child z) (λ c p. both_done _ p)))
    a n h d q
extend_came (t_list w t) m ss j a zero l h d q = both_done d q
extend_came (t_list w t) m ss j a (suc n) l h d q =
    same_then (same_any (new_offsets w (ss j).offsets a (suc n) (item w d.buffer1 l)))
    (λ os u.
    same_then
    (extend_node_lem t m (λ e. (ss e).child) j (extend_came t m (λ e. (ss e).child.body) j) (item w (ss j).offsets a) (item w (ss j).offsets (a + suc n) - item w (ss j).offsets a) h d.child q)
    (λ c p. both_done _ p))
extend_came (t_sparse ids nullable f) m ss j a n l h d q =
    kept_sparse f (λ c. extend_node (masks (f c)) (extend_data (f c) m) (λ e. (ss e).children c) j a n (d.children c)) d.children (λ c y. EveryCame (f c) (column_adds (copy_adds (f c)) ((ss j).children c) a n (h c)) y.«data») ids
    (take n (drop a (ss j).ids)) d.buffer1
    (λ c i. extend_node_lem (f c) m (λ e. (ss e).children c) j (extend_came (f c) m (λ e. ((ss e).children c).body) j) a n (h c) (d.children c) (q c i))
extend_came (t_dense ids nullable f) m ss j a n l h d q =
    kept_rows (EveryCame (t_dense ids nullable f)) (dense_row (λ c. extend_node (masks (f c)) (extend_data (f c) m) (λ i. (ss i).children c) j) (ss j))
    (λ r k. of_child (get_or (ss j).ids r 0) (λ c. column_adds (copy_adds (f c)) ((ss j).children c) (item 4 (ss j).positions r) 1 (k c)) k)
    (λ i k x z.
    let c = get_or (ss j).ids i 0 in
    let F : (c : ℕ) → Try (Destination (f c)) = λ c. extend_node (masks (f c)) (extend_data (f c) m) (λ e. (ss e).children c) j (item 4 (ss j).positions i) 1 (x.children c) in
    let new : (c : ℕ) → Histories (f c) = λ v. column_adds (copy_adds (f v)) ((ss j).children v) (item 4 (ss j).positions i) 1 (k v) in
    let r = extend_node_lem (f c) m (λ e. (ss e).children c) j (extend_came (f c) m (λ e. ((ss e).children c).body) j) (item 4 (ss j).positions i) 1 (k c) (x.children c) (z c) in
    by_done _ (dense_row (λ c. extend_node (masks (f c)) (extend_data (f c) m) (λ i. (ss i).children c) j) (ss j) i x)
    (λ e p.
    let g = guard_done (ltb (x.children c).len (half 4)) 6 _ e p in
    let t = then_done (F c) _ e g.1 in
    subst (λ (y : Denses (λ c. Grown (f c))). (b : ℕ) → EveryCame (f b) (of_child c new k b) (y.children b).«data») (done_is t.rest_done)
    (kept_child f F x.children (λ b y. EveryCame (f b) (new b) y.«data») (λ b s y. EveryCame (f b) (cond s (new b) (k b)) y.«data») (λ b y p. p) z c r t.first t.first_done)))
    a n h d q
extend_came (t_run_end w t) m ss j a zero l h d q = both_done d q
extend_came (t_run_end w t) m ss j a (suc n) l h d q =
    kept_runs (EveryCame t) w (extend_node (masks t) (extend_data t m) (λ i. (ss i).values) j) (ss j) a n d h.0 _ q.0
    (extend_node_lem t m (λ e. (ss e).values) j (extend_came t m (λ e. (ss e).values.body) j) (first_run w (ss j) a) (run_count w (ss j) a (suc n)) h.1 d.values q.1)
extend_came (t_dictionary k p) m ss j a n l h d q = same_any _

-- ---- a null order

pub nulls_node_lem : (t : Ty) → ((n l : ℕ) (h : Histories t) (d : Grown t) → EveryCame t h d → Kept (EveryCame t (nulls_add t (suc n) h)) (nulls_data t (suc n) l d)) → (n : ℕ) (h : Histories t) (d : Destination t)
    → EveryCame t h d.«data» → Kept (λ (e : Destination t). EveryCame t (nulls_add t (suc n) h) e.«data») (nulls_node (masks t) (nulls_data t) (suc n) d)
nulls_node_lem t f n h d q = same_then (f n d.len h d.«data» q) (λ b p. both_done _ p)

-- nulls at a run-end node, and its values
kept_nulls : {P D H : Type 0} (Q : H → D → Type 0) (w : ℕ) (fill : ℕ → Mutable D → Try (Mutable D)) (n : ℕ) (d : Runs D) (hs : List _) (u v : H) → Came P w hs d → Q u d.values.«data»
    → Kept (λ (x : Mutable D). Q v x.«data») (fill 1 d.values)
    → Kept (λ (e : Runs D). Came P w (nulled (suc n) ∷ hs) e × Q (cond (nulls_latest hs) u v) e.values.«data») (runs_null w fill (suc n) d)
kept_nulls {P} {D} Q w fill n d hs u v c q k =
    by_done _ (runs_null w fill (suc n) d) (λ e p. (nulls_came e c fill (suc n) p, go e p (nulls_latest hs) refl))
  where
    go : (e : Runs D) → runs_null w fill (suc n) d ≡ done e → (b : Bool) → nulls_latest hs ≡ b → Q (cond b u v) e.values.«data»
    go e p true z = subst (λ (x : Runs D). Q u x.values.«data») (null_grown w fill (suc n) d e ((gap_says w P c).1 ((latest hs).0 z)) p) q
    go e p false z =
        let off : d.gap ≡ 2 → ⊥ = λ y. false≢true (sym z ∙ (latest hs).1 ((gap_says w P c).0 y)) in
        let t = then_done (fill 1 d.values) _ e (rw (ne_eqb d.gap 2 off) at p) in
        let g = guard_done (ltb (last_end w d.ends + suc n) (half w)) 7 _ e t.rest_done in
        subst (λ (x : Runs D). Q v x.values.«data») (done_is g.1) (kept_holds _ _ t.first k t.first_done)

pub nulls_add_lem : (t : Ty) (n l : ℕ) (h : Histories t) (d : Grown t) → EveryCame t h d → Kept (EveryCame t (nulls_add t (suc n) h)) (nulls_data t (suc n) l d)
nulls_add_lem (t_plain p) n l h d q = same_any _
nulls_add_lem t_view n l h d q = same_any _
nulls_add_lem (t_list_view w t) n l h d q = both_done _ q
nulls_add_lem (t_list w t) n l h d q = both_done _ q
nulls_add_lem (t_sparse ids nullable f) n l h d q =
    same_then (same_any (home nullable ids))
    (λ e u. kept_sparse f (λ c. nulls_node (masks (f c)) (nulls_data (f c)) (suc n) (d.children c)) d.children (λ c y. EveryCame (f c) (nulls_add (f c) (suc n) (h c)) y.«data») ids (replicate (suc n) e) d.buffer1
    (λ c i. nulls_node_lem (f c) (nulls_add_lem (f c)) n (h c) (d.children c) (q c i)))
nulls_add_lem (t_dense ids nullable f) n l h d q =
    let F : (c : ℕ) → Try (Destination (f c)) = λ c. nulls_node (masks (f c)) (nulls_data (f c)) (suc n) (d.children c) in
    let new : (c : ℕ) → Histories (f c) = λ v. nulls_add (f v) (suc n) (h v) in
    by_done _ (dense_null ids nullable (λ c. nulls_node (masks (f c)) (nulls_data (f c))) (suc n) d)
    (λ e p.
    let s = then_done (home nullable ids) _ e p in
    let c = s.first in
    let g = guard_done (leb ((d.children c).len + suc n) (half 4)) 6 _ e s.rest_done in
    let t = then_done (F c) _ e g.1 in
    let z : after (home nullable ids) 0 ≡ c = ap (λ (a : Try ℕ). after a 0) s.first_done in
    subst (λ (v : ℕ). (b : ℕ) → EveryCame (f b) (of_child v new h b) (e.children b).«data») (sym z)
    (subst (λ (y : Denses (λ c. Grown (f c))). (b : ℕ) → EveryCame (f b) (of_child c new h b) (y.children b).«data») (done_is t.rest_done)
    (kept_child f F d.children (λ b y. EveryCame (f b) (new b) y.«data») (λ b s y. EveryCame (f b) (cond s (new b) (h b)) y.«data») (λ b y p. p) q c (nulls_node_lem (f c) (nulls_add_lem (f c)) n (h c) (d.children c) (q c)) t.first
    t.first_done)))
nulls_add_lem (t_run_end w t) n l h d q =
    kept_nulls (EveryCame t) w (nulls_node (masks t) (nulls_data t)) n d h.0 h.1 (nulls_add t 1 h.1) q.0 q.1 (nulls_node_lem t (nulls_add_lem t) 0 h.1 d.values q.1)
nulls_add_lem (t_dictionary k p) n l h d q = same_any _
