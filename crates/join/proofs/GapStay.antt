-- WHERE ONE RUN FOR A GAP IS NOT CHOSEN, the gap of every run-end node stays 0 over any list of calls, and each call is answered as by the Rust's orders
-- (specs/Rust.antt). Assumes nothing.
use mathlib.Core.Path.{◌≡◌, refl, sym, ap, subst, fun_ext, ◌∙◌}
use mathlib.Core.Bool.{Bool, true, false, cond, ◌&&◌}
use mathlib.Core.List.{List, [], ◌∷◌, ◌++◌, foldl}
use Prim.Native.Nat.{ℕ, zero, suc, ◌+◌, ◌-◌, min}
use lib.ListN.{take, drop, get_or, replicate}
use lib.Dec.{ltb, leb, eqb}
use Rattle.number.specs.Number.{encode}
use Rattle.columnar.specs.Types.{half, Ty, t_plain, t_view, t_list_view, t_list, t_sparse, t_dense, t_run_end, t_dictionary}
use Rattle.columnar.specs.Array.{item}
use Rattle.columnar.specs.Reading.{Body, Column, masks}
use Rattle.model.specs.Try.{Try, done, stop, then, guard, after, steps_t}
use Rattle.model.specs.Ordered.{home}
use Rattle.model.specs.Grounds.{first_run, run_count}
use Rattle.model.specs.Mutable.{Mutable, extend_node, nulls_node}
use Rattle.model.specs.Primitive.{new_offsets}
use Rattle.model.specs.ListViews.{list_row}
use Rattle.model.specs.Unions.{Sparses, in_order, sparse_with, at_child, dense_row}
use Rattle.model.specs.Runs.{Runs, last_end, more_ends, over_end}
use Rattle.model.specs.Transform.{Grown, Destination, nulls_by, extend_data, start_data, start}
use Rattle.model.specs.Opening.{keeps}
use Rattle.model.specs.Book.{Call, copy, nulls}
use Rattle.model.specs.Orders.{perform, perform_all}
use Rattle.refinement.specs.orders.Fits.{fits, answers_in}
use Rattle.join.specs.Join.{Lending, sources_in, type_in, columns_in, lent_of, first, reached_by, carried_from, carried_out}
use Rattle.join.specs.Rust.{rust_runs, rust_perform, NoGaps}
use Rattle.model.proofs.Names.{positions_from, nulls_data, keeps_nulls}

-- ---- the Rust's null orders, and any list of its calls

abbrev rust_nulls : (t : Ty) → ℕ → ℕ → Grown t → Try (Grown t)
rust_nulls t = nulls_by (λ D. rust_runs {D = D}) t

abbrev rust_all : (t : Ty) → ℕ → (ℕ → Column t) → List Call → Destination t → Destination t
rust_all t m ss os d = foldl (λ e o. after (rust_perform t m ss o e) e) d os

-- ---- two answers that are the same, and where they are done P holds

pub data Same {A : Type 0} (P : A → Type 0) : Try A → Try A → Type 0 where
  both_done : (x : A) → P x → Same P (done x) (done x)
  both_stop : (g : ℕ) → Same P (stop g) (stop g)

pub same_is : {A : Type 0} {P : A → Type 0} {s t : Try A} → Same P s t → s ≡ t
same_is (both_done x h) = refl
same_is (both_stop g) = refl

pub same_after : {A : Type 0} {P : A → Type 0} {s t : Try A} (y : A) → Same P s t → P y → P (after s y)
same_after y (both_done x h) q = h
same_after y (both_stop g) q = q

pub same_any : {A : Type 0} (t : Try A) → Same (λ x. Unit {0}) t t
same_any (done x) = both_done x tt
same_any (stop g) = both_stop g

pub same_then : {A B : Type 0} {P : A → Type 0} {Q : B → Type 0} {s t : Try A} {f g : A → Try B} → Same P s t → ((x : A) → P x → Same Q (f x) (g x)) → Same Q (then s f) (then t g)
same_then (both_done x h) k = k x h
same_then (both_stop g) k = both_stop g

pub same_guard : {A : Type 0} {P : A → Type 0} {s t : Try A} (b : Bool) (g : ℕ) → Same P s t → Same P (guard b g s) (guard b g t)
same_guard true g h = h
same_guard false g h = both_stop g

pub same_steps : {A : Type 0} (P : A → Type 0) (f : ℕ → A → Try A) → ((i : ℕ) (x : A) → P x → Same P (f i x) (f i x)) → (a n : ℕ) (x : A) → P x → Same P (steps_t f a n x) (steps_t f a n x)
same_steps P f h a zero x q = both_done x q
same_steps P f h a (suc n) x q = same_then (h a x q) (λ y p. same_steps P f h (suc a) n y p)

-- ---- children

module _ (t : ℕ → Ty) where
  abbrev Kids : ((c : ℕ) → Destination (t c)) → Type 0
  Kids k = (c : ℕ) → NoGaps (t c) (k c).«data»

  module _ (f g : (c : ℕ) → Try (Destination (t c))) (k : (c : ℕ) → Destination (t c)) (off : Kids k)
      (h : (c : ℕ) → Same (λ (e : Destination (t c)). NoGaps (t c) e.«data») (f c) (g c)) where
    kids_off : Kids (λ c. after (f c) (k c))
    kids_off c = same_after (k c) (h c) (off c)

    kids_are : ◌≡◌ {A = (c : ℕ) → Destination (t c)} (λ c. after (f c) (k c)) (λ c. after (g c) (k c))
    kids_are = fun_ext (λ c. ap (λ a. after a (k c)) (same_is (h c)))

    child_off : (c : ℕ) → Kids (at_child c f k)
    child_off c e = go (eqb e c)
      where
        go : (b : Bool) → NoGaps (t e) (cond b (after (f e) (k e)) (k e)).«data»
        go true = kids_off e
        go false = off e

    child_is : (c : ℕ) → at_child c f k ≡ at_child c g k
    child_is c = fun_ext (λ e. ap (λ a. cond (eqb e c) (after a (k e)) (k e)) (same_is (h e)))

    same_order : {A : Type 0} (P : A → Type 0) (cs : List ℕ) (x y : A) → x ≡ y → P x → Same P (in_order f cs x) (in_order g cs y)
    same_order P [] x y e q = subst (λ z. Same P (done x) (done z)) e (both_done x q)
    same_order P (c ∷ cs) x y e q = same_then (h c) (λ z p. same_order P cs x y e q)

    -- all children of a sparse union
    same_sparse : (ids new b : List ℕ)
        → Same (λ (d : Sparses (λ c. Grown (t c))). Kids d.children) (sparse_with ids f new (record { buffer1 = b; children = k })) (sparse_with ids g new (record { buffer1 = b; children = k }))
    same_sparse ids new b =
        same_order (λ (d : Sparses (λ c. Grown (t c))). Kids d.children) ids _ _ (ap (λ (x : (c : ℕ) → Destination (t c)). record { buffer1 = b ++ new; children = x }) kids_are) kids_off

-- ---- a copy

-- at a node, where its data is known
extend_node_lem : (t : Ty) (m : ℕ) (xs : ℕ → Column t) (j : ℕ)
    → ((b n l : ℕ) (d : Grown t) → NoGaps t d → Same (NoGaps t) (extend_data t m (λ i. (xs i).body) j b n l d) (extend_data t m (λ i. (xs i).body) j b n l d))
    → (a n : ℕ) (d : Destination t) → NoGaps t d.«data»
    → Same (λ (e : Destination t). NoGaps t e.«data») (extend_node (masks t) (extend_data t m) xs j a n d) (extend_node (masks t) (extend_data t m) xs j a n d)
extend_node_lem t m xs j f a n d h = same_then (f ((xs j).off + a) n d.len d.«data» h) (λ b p. both_done _ p)

extend_off : (t : Ty) (m : ℕ) (ss : ℕ → Body t) (j a n l : ℕ) (d : Grown t) → NoGaps t d → Same (NoGaps t) (extend_data t m ss j a n l d) (extend_data t m ss j a n l d)
extend_off (t_plain p) m ss j a n l d h = same_any _
extend_off t_view m ss j a n l d h = same_any _
extend_off (t_list_view w t) m ss j a n l d h =
    same_steps (NoGaps (t_list_view w t)) (list_row w (extend_node (masks t) (extend_data t m) (λ i. (ss i).child) j) (ss j))
    (λ i x q.
    same_guard (ltb (x.child.len + item w (ss j).sizes i) (half w)) 6
    (same_then (extend_node_lem t m (λ k. (ss k).child) j (extend_off t m (λ k. (ss k).child.body) j) (item w (ss j).offsets i) (item w (ss j).sizes i) x.child q) (λ c p. both_done _ p)))
    a n d h
extend_off (t_list w t) m ss j a zero l d h = both_done d h
extend_off (t_list w t) m ss j a (suc n) l d h =
    same_then (same_any (new_offsets w (ss j).offsets a (suc n) (item w d.buffer1 l)))
    (λ os u.
    same_then
    (extend_node_lem t m (λ k. (ss k).child) j (extend_off t m (λ k. (ss k).child.body) j) (item w (ss j).offsets a) (item w (ss j).offsets (a + suc n) - item w (ss j).offsets a) d.child h)
    (λ c p. both_done _ p))
extend_off (t_sparse ids nullable f) m ss j a n l d h =
    let k : (c : ℕ) → Try (Destination (f c)) = λ c. extend_node (masks (f c)) (extend_data (f c) m) (λ i. (ss i).children c) j a n (d.children c) in
    same_sparse f k k d.children h (λ c. extend_node_lem (f c) m (λ i. (ss i).children c) j (extend_off (f c) m (λ i. ((ss i).children c).body) j) a n (d.children c) (h c))
    ids (take n (drop a (ss j).ids)) d.buffer1
extend_off (t_dense ids nullable f) m ss j a n l d h =
    same_steps (NoGaps (t_dense ids nullable f)) (dense_row (λ c. extend_node (masks (f c)) (extend_data (f c) m) (λ i. (ss i).children c) j) (ss j))
    (λ i x q.
    let e = get_or (ss j).ids i 0 in
    let k : (c : ℕ) → Try (Destination (f c)) = λ c. extend_node (masks (f c)) (extend_data (f c) m) (λ i. (ss i).children c) j (item 4 (ss j).positions i) 1 (x.children c) in
    let r : (c : ℕ) → Same (λ (e : Destination (f c)). NoGaps (f c) e.«data») (k c) (k c) = λ c.
    extend_node_lem (f c) m (λ i. (ss i).children c) j (extend_off (f c) m (λ i. ((ss i).children c).body) j) (item 4 (ss j).positions i) 1 (x.children c) (q c) in
    same_guard (ltb (x.children e).len (half 4)) 6 (same_then (r e) (λ c p. both_done _ (child_off f k k x.children q r e))))
    a n d h
extend_off (t_run_end w t) m ss j a zero l d h = both_done d h
extend_off (t_run_end w t) m ss j a (suc n) l d h =
    same_guard (ltb (last_end w d.ends + suc n) (half w)) 7
    (same_then
    (extend_node_lem t m (λ k. (ss k).values) j (extend_off t m (λ k. (ss k).values.body) j) (first_run w (ss j) a) (run_count w (ss j) a (suc n)) d.values h.1)
    (λ v p. both_done _ (ap (λ g. min g 1) h.0, p)))
extend_off (t_dictionary k p) m ss j a n l d h = same_any _

-- ---- a null order

nulls_node_lem : (t : Ty) → ((n l : ℕ) (d : Grown t) → NoGaps t d → Same (NoGaps t) (nulls_data t n l d) (rust_nulls t n l d)) → (n : ℕ) (d : Destination t) → NoGaps t d.«data»
    → Same (λ (e : Destination t). NoGaps t e.«data») (nulls_node (masks t) (nulls_data t) n d) (nulls_node (masks t) (rust_nulls t) n d)
nulls_node_lem t f zero d h = both_done d h
nulls_node_lem t f (suc n) d h = same_then (f (suc n) d.len d.«data» h) (λ b p. both_done _ p)

same_runs : {D : Type 0} (P : D → Type 0) (w n : ℕ) (d : Runs D) (s t : Try (Mutable D)) → d.gap ≡ 0 → Same (λ v. P v.«data») s t
    → Same (λ (e : Runs D). (e.gap ≡ 0) × P e.values.«data»)
    (cond (eqb d.gap 2)
    (guard (ltb (last_end w d.ends + n) (half w)) 7 (done (record { ends = over_end w (last_end w d.ends + n) d.ends; values = d.values; gap = 2 })))
    (then s
    (λ v. guard (ltb (last_end w d.ends + n) (half w)) 7 (done (record { ends = more_ends (encode w (last_end w d.ends + n)) 1 d.ends; values = v; gap = cond (eqb d.gap 0) 0 2 })))))
    (then t (λ v. guard (ltb (last_end w d.ends + n) (half w)) 7 (done (record { ends = more_ends (encode w (last_end w d.ends + n)) 1 d.ends; values = v; gap = d.gap }))))
same_runs {D} P w n d s t e h =
    subst
    (λ (g : ℕ).
    Same (λ (x : Runs D). (x.gap ≡ 0) × P x.values.«data»)
    (cond (eqb g 2)
    (guard (ltb (last_end w d.ends + n) (half w)) 7 (done (record { ends = over_end w (last_end w d.ends + n) d.ends; values = d.values; gap = 2 })))
    (then s (λ v. guard (ltb (last_end w d.ends + n) (half w)) 7 (done (record { ends = more_ends (encode w (last_end w d.ends + n)) 1 d.ends; values = v; gap = cond (eqb g 0) 0 2 })))))
    (then t (λ v. guard (ltb (last_end w d.ends + n) (half w)) 7 (done (record { ends = more_ends (encode w (last_end w d.ends + n)) 1 d.ends; values = v; gap = g })))))
    (sym e)
    (same_then h
    (λ v p.
    same_guard (ltb (last_end w d.ends + n) (half w)) 7
    (both_done (record { ends = more_ends (encode w (last_end w d.ends + n)) 1 d.ends; values = v; gap = 0 }) (refl, p))))

nulls_off : (t : Ty) (n l : ℕ) (d : Grown t) → NoGaps t d → Same (NoGaps t) (nulls_data t n l d) (rust_nulls t n l d)
nulls_off (t_plain p) n l d h = same_any _
nulls_off t_view n l d h = same_any _
nulls_off (t_list_view w t) n l d h = both_done _ h
nulls_off (t_list w t) n l d h = both_done _ h
nulls_off (t_sparse ids nullable f) n l d h =
    let r : (c : ℕ) → Same (λ (e : Destination (f c)). NoGaps (f c) e.«data») (nulls_node (masks (f c)) (nulls_data (f c)) n (d.children c)) (nulls_node (masks (f c)) (rust_nulls (f c)) n (d.children c)) = λ c.
    nulls_node_lem (f c) (nulls_off (f c)) n (d.children c) (h c) in
    same_then (same_any (home nullable ids)) (λ e u. same_sparse f _ _ d.children h r ids (replicate n e) d.buffer1)
nulls_off (t_dense ids nullable f) n l d h =
    let r : (c : ℕ) → Same (λ (e : Destination (f c)). NoGaps (f c) e.«data») (nulls_node (masks (f c)) (nulls_data (f c)) n (d.children c)) (nulls_node (masks (f c)) (rust_nulls (f c)) n (d.children c)) = λ c.
    nulls_node_lem (f c) (nulls_off (f c)) n (d.children c) (h c) in
    same_then (same_any (home nullable ids))
    (λ e u.
    same_guard (leb ((d.children e).len + n) (half 4)) 6
    (same_then (r e)
    (λ x p.
    subst
    (λ (k : (c : ℕ) → Destination (f c)).
    Same (NoGaps (t_dense ids nullable f))
    (done (record { buffer1 = d.buffer1 ++ replicate n e; buffer2 = d.buffer2 ++ positions_from (d.children e).len n; children = at_child e (λ c. nulls_node (masks (f c)) (nulls_data (f c)) n (d.children c)) d.children }))
    (done (record { buffer1 = d.buffer1 ++ replicate n e; buffer2 = d.buffer2 ++ positions_from (d.children e).len n; children = k })))
    (child_is f _ _ d.children h r e) (both_done _ (child_off f _ _ d.children h r e)))))
nulls_off (t_run_end w t) n l d h = same_runs (NoGaps t) w n d _ _ h.0 (nulls_node_lem t (nulls_off t) 1 d.values h.1)
nulls_off (t_dictionary k p) n l d h = same_any _

-- ---- the opening, and any list of calls

pub start_off : (t : Ty) (u : Bool) (m : ℕ) (ss : ℕ → Body t) → NoGaps t (start_data false t u m ss)
start_off (t_plain p) u m ss = tt
start_off t_view u m ss = tt
start_off (t_list_view w t) u m ss = start_off t _ m _
start_off (t_list w t) u m ss = start_off t _ m _
start_off (t_sparse ids nullable f) u m ss = λ c. start_off (f c) _ m _
start_off (t_dense ids nullable f) u m ss = λ c. start_off (f c) _ m _
start_off (t_run_end w t) u m ss = (refl, start_off t _ m _)
start_off (t_dictionary k p) u m ss = tt

module _ (t : Ty) (m : ℕ) (ss : ℕ → Column t) where
  -- A CALL is answered as by the Rust's orders, and the gaps stay 0
  pub call_off : (o : Call) (d : Destination t) → NoGaps t d.«data» → Same (λ (e : Destination t). NoGaps t e.«data») (perform t m ss o d) (rust_perform t m ss o d)
  call_off (copy j a e) d h = same_guard (ltb j m) 1 (same_guard (leb a e && leb e (ss j).len) 2 (extend_node_lem t m ss j (extend_off t m (λ i. (ss i).body) j) a (e - a) d h))
  call_off (nulls n) d h = same_guard (keeps_nulls d) 3 (nulls_node_lem t (nulls_off t) n d h)

  pub calls_off : (os : List Call) (d : Destination t) → NoGaps t d.«data» → NoGaps t (perform_all t m ss os d).«data» × (perform_all t m ss os d ≡ rust_all t m ss os d)
  calls_off [] d h = (h, refl)
  calls_off (o ∷ os) d h =
      let q = call_off o d h in
      let r = calls_off os (after (perform t m ss o d) d) (same_after d q h) in
      (r.0, r.1 ∙ ap (λ a. rust_all t m ss os (after a d)) (same_is q))

-- ---- a whole join, after any list of calls, refused ones included

module _ (l : Lending) where
  abbrev tested : Destination (type_in l) → Try (Destination (type_in l))
  tested e = guard (fits (lent_of l).plan l.parts (type_in l) 0 e) 13 (done e)

  carried : (os : List Call) (d : Destination (type_in l))
      → answers_in (lent_of l).plan l.parts (type_in l) (sources_in l) (columns_in l) os d ≡ perform_all (type_in l) (sources_in l) (columns_in l) (carried_from l os d) d
  carried [] d = refl
  carried (o ∷ os) d = go (perform (type_in l) (sources_in l) (columns_in l) o d) refl (carried os)
    where
      go : (p : Try (Destination (type_in l))) → perform (type_in l) (sources_in l) (columns_in l) o d ≡ p
          → ((e : Destination (type_in l)) → answers_in (lent_of l).plan l.parts (type_in l) (sources_in l) (columns_in l) os e ≡ perform_all (type_in l) (sources_in l) (columns_in l) (carried_from l os e) e)
          → answers_in (lent_of l).plan l.parts (type_in l) (sources_in l) (columns_in l) os (after (then p tested) d)
          ≡ perform_all (type_in l) (sources_in l) (columns_in l) (elim (then p tested) [ done e ↦ o ∷ carried_from l os e | stop g ↦ carried_from l os d ]) d
      go (stop g) q f = f d
      go (done e) q f = by (fits (lent_of l).plan l.parts (type_in l) 0 e)
        where
          by : (b : Bool)
              → answers_in (lent_of l).plan l.parts (type_in l) (sources_in l) (columns_in l) os (after (guard b 13 (done e)) d)
              ≡ perform_all (type_in l) (sources_in l) (columns_in l) (elim (guard b 13 (done e)) [ done v ↦ o ∷ carried_from l os v | stop g ↦ carried_from l os d ]) d
          by true =
              subst (λ (v : Try (Destination (type_in l))). answers_in (lent_of l).plan l.parts (type_in l) (sources_in l) (columns_in l) os e ≡ perform_all (type_in l) (sources_in l) (columns_in l) (carried_from l os e) (after v d)) (sym q) (f e)
          by false = f d

  module _ (os : List Call) where
    -- what the model reaches is what its orders make of the calls that are carried out
    pub reached_is : reached_by l os ≡ perform_all (type_in l) (sources_in l) (columns_in l) (carried_out l os) (first l)
    reached_is = carried os (first l)

    module _ (off : l.gaps ≡ false) where
      begins_off : NoGaps (type_in l) (first l).«data»
      begins_off =
          subst (λ g. NoGaps (type_in l) (start g (type_in l) l.keep (sources_in l) (columns_in l)).«data») (sym off)
          (start_off (type_in l) (keeps l.keep (sources_in l) (columns_in l)) (sources_in l) (λ i. (columns_in l i).body))

      -- THE GAP OF EVERY RUN-END NODE IS 0
      pub gaps_stay : NoGaps (type_in l) (reached_by l os).«data»
      gaps_stay =
          subst (λ (d : Destination (type_in l)). NoGaps (type_in l) d.«data») (sym reached_is)
          (calls_off (type_in l) (sources_in l) (columns_in l) (carried_out l os) (first l) begins_off).0

      -- the destination is what the Rust's orders make of them
      pub rust_reached_lem : reached_by l os ≡ rust_all (type_in l) (sources_in l) (columns_in l) (carried_out l os) (first l)
      rust_reached_lem = reached_is ∙ (calls_off (type_in l) (sources_in l) (columns_in l) (carried_out l os) (first l) begins_off).1
