-- A child's rows by stretches are its rows one after the other, where its walk may be cut. Assumes nothing.
use mathlib.Core.Path.{◌≡◌, refl, subst, ◌∙◌}
use mathlib.Core.Bool.{Bool, true, false, cond, ◌&&◌}
use mathlib.Core.List.{List}
use Prim.Native.Nat.{ℕ, zero, suc, ◌+◌, ◌≤◌, ◌<◌}
use native.Mathlib.Nat.{zero-add, add-zero, suc-add}
use native.Mathlib.Omega.{arith}
use lib.Dec.{leb, eqb}
use borrow.Author.Tests.{leb-true, eqb-true}
use Rattle.walk.specs.State.{rows, grown, add_rows}
use Rattle.walk.specs.Log.{Out, next, each, done}
use Rattle.batch.specs.Stretch.{stretch, stretches}
use Rattle.batch.proofs.Ends.{Leaves, leaves_own, leaves_next, leaves_done, next_first, next_last, next_start_lem, next_rest}
use Rattle.batch.proofs.Tally.{Counts}

pub and_left : (a b : Bool) → (a && b) ≡ true → a ≡ true
and_left true b h = refl
and_left false b h = h

pub and_right : (a b : Bool) → (a && b) ≡ true → b ≡ true
and_right true b h = h
and_right false true h = refl
and_right false false h = h

-- kid: the walk of a copy at node k, which leaves the nodes before it; below: its walk by stretches; good: what the second says of a range besides
pub record Cuts (k : ℕ) (good : ℕ → ℕ → List ℕ → Type 0) (below kid : ℕ → ℕ → List ℕ → Out) : Type 0 where
  pub same : (a n : ℕ) (c : List ℕ) → Counts c → (below a n c).ans ≡ 0 → good a n c × Leaves (kid a n c) (below a n c).counters
  pub cut : (a m s : ℕ) (c d : List ℕ) → Counts c → good a (m + s) c → Leaves (kid a (m + s) c) d
      → good a m c × Leaves (next (kid a m c) (λ e. kid (a + m) s e)) d
  pub none : (a m o : ℕ) (c d : List ℕ) → Counts c → Counts d → good a m c → o ≤ a + m → good o 0 c × Leaves (kid o 0 d) d
  pub step : (a n : ℕ) (c d : List ℕ) → Counts c → Leaves (kid a n c) d
      → Counts d × (rows d k ≡ grown (rows c k) n) × ((j : ℕ) → j < k → rows d j ≡ rows c j)
  pub frame : (a n j m : ℕ) (c d : List ℕ) → Counts c → j < k → Leaves (kid a n c) d → Leaves (kid a n (add_rows j m c)) (add_rows j m d)

module _ (k : ℕ) (good : ℕ → ℕ → List ℕ → Type 0) (below kid : ℕ → ℕ → List ℕ → Out) (cuts : Cuts k good below kid) (start size : ℕ → ℕ) where
  -- the rows of one row of the parent
  abbrev pub row : ℕ → List ℕ → Out
  row r c = kid (start r) (size r) c

  -- from a stretch that is still to be walked on
  abbrev pub Meets : ℕ → ℕ → ℕ → ℕ → List ℕ → List ℕ → Type 0
  Meets n r a m c z = good a m c × Leaves (next (kid a m c) (λ d. each row n r d)) z

  module _ (n r : ℕ) (ih : (a m : ℕ) (c : List ℕ) → Counts c → (stretch below start size n (suc r) a m c).ans ≡ 0 → Meets n (suc r) a m c (stretch below start size n (suc r) a m c).counters)
      (a m : ℕ) (c : List ℕ) (f : Counts c) where
    abbrev More : List ℕ → Out
    More d = each row n (suc r) d

    -- an empty row
    skipped : size r ≡ 0 → start r ≤ a + m → (o : List ℕ) → Meets n (suc r) a m c o → Meets (suc n) r a m c o
    unfolding each
    skipped e h o q =
        let p = next_start_lem (kid a m c) More q.1 in
        let g = (cuts.step a m c _ f p).0 in
        let z : Leaves (row r (kid a m c).counters) (kid a m c).counters = rw e (cuts.none a m (start r) c _ f g q.0 h).1 in
        (q.0, leaves_next _ p (leaves_next More z (next_rest (kid a m c) More q.1)))

    -- a row behind the stretch
    joined : start r ≡ a + m → (o : List ℕ) → Meets n (suc r) a (m + size r) c o → Meets (suc n) r a m c o
    unfolding each
    joined e o q =
        let p = next_start_lem (kid a (m + size r) c) More q.1 in
        let t = cuts.cut a m (size r) c _ f q.0 p in
        let z : Leaves (row r (kid a m c).counters) (kid a (m + size r) c).counters = rw e (next_rest (kid a m c) (λ e. kid (a + m) (size r) e) t.1) in
        (t.0, leaves_next _ (next_start_lem (kid a m c) (λ e. kid (a + m) (size r) e) t.1) (leaves_next More z (next_rest (kid a (m + size r) c) More q.1)))

    -- a stretch without rows is left
    passed : m ≡ 0 → a ≤ start r → (o : List ℕ) → Meets n (suc r) (start r) (size r) c o → Meets (suc n) r a m c o
    unfolding each
    passed e h o q =
        let t = cuts.none (start r) (size r) a c c f f q.0 (omega arith) in
        rw e (t.0, leaves_next (λ d. each row (suc n) r d) t.1 q.1)

    -- a stretch is walked
    walked : (next (below a m c) (λ d. stretch below start size n (suc r) (start r) (size r) d)).ans ≡ 0
        → Meets (suc n) r a m c (next (below a m c) (λ d. stretch below start size n (suc r) (start r) (size r) d)).counters
    unfolding each
    walked h =
        let on : List ℕ → Out = λ d. stretch below start size n (suc r) (start r) (size r) d in
        let b = next_first (below a m c) on h in
        let s = cuts.same a m c f b in
        let g = (cuts.step a m c _ f s.1).0 in
        let l = next_last on (leaves_own b) h in
        let q = ih (start r) (size r) (below a m c).counters g l.ok in
        (s.0, leaves_next (λ d. each row (suc n) r d) s.1 (record { ok = q.1.ok; left = q.1.left ∙ l.left }))

    pick : (t u v : Bool) → (eqb (size r) 0 && leb (start r) (a + m)) ≡ t → eqb (start r) (a + m) ≡ u → (eqb m 0 && leb a (start r)) ≡ v
        → (o : Out) → o ≡ cond t (stretch below start size n (suc r) a m c) (cond u (stretch below start size n (suc r) a (m + size r) c)
        (cond v (stretch below start size n (suc r) (start r) (size r) c) (next (below a m c) (λ d. stretch below start size n (suc r) (start r) (size r) d))))
        → o.ans ≡ 0 → Meets (suc n) r a m c o.counters
    pick true u v e p q o w h =
        rw w (skipped (eqb-true (size r) 0 (and_left _ (leb (start r) (a + m)) e)) (leb-true (start r) (a + m) (and_right (eqb (size r) 0) _ e)) _ (ih a m c f (rw w at h)))
    pick false true v e p q o w h = rw w (joined (eqb-true (start r) (a + m) p) _ (ih a (m + size r) c f (rw w at h)))
    pick false false true e p q o w h =
        rw w (passed (eqb-true m 0 (and_left _ (leb a (start r)) q)) (leb-true a (start r) (and_right (eqb m 0) _ q)) _ (ih (start r) (size r) c f (rw w at h)))
    pick false false false e p q o w h = rw w (walked (rw w at h))

  pub stretch_meets : (n r a m : ℕ) (c : List ℕ) → Counts c → (stretch below start size n r a m c).ans ≡ 0 → Meets n r a m c (stretch below start size n r a m c).counters
  unfolding stretch each
  stretch_meets zero r a m c f h =
      let s = cuts.same a m c f h in
      (s.0, leaves_next (λ d. each row zero r d) s.1 (leaves_done _))
  stretch_meets (suc n) r a m c f h =
      pick n r (λ a m c f h. stretch_meets n (suc r) a m c f h) a m c f (eqb (size r) 0 && leb (start r) (a + m)) (eqb (start r) (a + m)) (eqb m 0 && leb a (start r)) refl refl refl
      (stretch below start size (suc n) r a m c) refl h

  -- BY STRETCHES IS ONE AFTER THE OTHER
  pub stretches_each : (n : ℕ) (c : List ℕ) → Counts c → (stretches below start size n c).ans ≡ 0 → Leaves (each row n 0 c) (stretches below start size n c).counters
  stretches_each n c f h =
      let q = stretch_meets n 0 0 0 c f h in
      let z = cuts.none 0 0 0 c c f f q.0 (omega arith) in
      let p = next_rest (kid 0 0 c) (λ d. each row n 0 d) q.1 in
      subst (λ d. Leaves (each row n 0 d) (stretches below start size n c).counters) z.1.left p

-- what a walk that answers 0 shows, stretches that answer 0 show
pub stretch_shows : (walk : ℕ → ℕ → List ℕ → Out) (start size : ℕ → ℕ) {P : Type 0} → ((a m : ℕ) (c : List ℕ) → (walk a m c).ans ≡ 0 → P)
    → (n r a m : ℕ) (c : List ℕ) → (stretch walk start size n r a m c).ans ≡ 0 → P
unfolding stretch
stretch_shows walk start size f zero r a m c h = f a m c h
stretch_shows walk start size {P} f (suc n) r a m c h =
    go (λ a m c h. stretch_shows walk start size f n (suc r) a m c h) (eqb (size r) 0 && leb (start r) (a + m)) (eqb (start r) (a + m)) (eqb m 0 && leb a (start r)) h
  where
    go : ((a m : ℕ) (c : List ℕ) → (stretch walk start size n (suc r) a m c).ans ≡ 0 → P) → (t u v : Bool)
        → (cond t (stretch walk start size n (suc r) a m c) (cond u (stretch walk start size n (suc r) a (m + size r) c)
        (cond v (stretch walk start size n (suc r) (start r) (size r) c) (next (walk a m c) (λ d. stretch walk start size n (suc r) (start r) (size r) d))))).ans ≡ 0 → P
    go ih true u v h = ih a m c h
    go ih false true v h = ih a (m + size r) c h
    go ih false false true h = ih (start r) (size r) c h
    go ih false false false h = f a m c (next_first (walk a m c) _ h)

-- rows one after the other leave counters, and the rows of the nodes before
pub each_counters : (k : ℕ) (good : ℕ → ℕ → List ℕ → Type 0) (below kid : ℕ → ℕ → List ℕ → Out) → Cuts k good below kid → (start size : ℕ → ℕ) (n r : ℕ) (c d : List ℕ) → Counts c
    → Leaves (each (λ r c. kid (start r) (size r) c) n r c) d → Counts d × ((j : ℕ) → j < k → rows d j ≡ rows c j)
unfolding each done
each_counters k good below kid cuts start size zero r c d f l = rw (← l.left) (f, λ j h. refl)
each_counters k good below kid cuts start size (suc n) r c d f l =
    let o : Out = kid (start r) (size r) c in
    let on : List ℕ → Out = λ e. each (λ r c. kid (start r) (size r) c) n (suc r) e in
    let s = cuts.step (start r) (size r) c o.counters f (next_start_lem o on l) in
    let t = each_counters k good below kid cuts start size n (suc r) o.counters d s.0 (next_rest o on l) in
    (t.0, λ j h. t.1 j h ∙ s.2 j h)

-- m + s rows are m rows and s rows
pub each_split : (f : ℕ → List ℕ → Out) (m s r : ℕ) (c d : List ℕ) → Leaves (each f (m + s) r c) d
    → Leaves (each f m r c) (each f m r c).counters × Leaves (each f s (r + m) (each f m r c).counters) d
unfolding each done
each_split f zero s r c d l = let l2 = rw (zero-add s) at l in (leaves_own refl, rw (add-zero r) l2)
each_split f (suc m) s r c d l =
    let e : suc m + s ≡ suc (m + s) = suc-add m s in
    let on : List ℕ → Out = λ z. each f (m + s) (suc r) z in
    let l2 : Leaves (next (f r c) on) d = rw e at l in
    let q = each_split f m s (suc r) (f r c).counters d (next_rest (f r c) on l2) in
    let w = leaves_next (λ z. each f m (suc r) z) (next_start_lem (f r c) on l2) q.0 in
    let v : r + suc m ≡ suc r + m = omega arith in
    (leaves_own w.ok, rw (w.left, v) q.1)
