-- The log of stretches does to every part what the log of one row after the other does. Assumes nothing.
use mathlib.Core.Path.{◌≡◌, refl, sym, ap, subst}
use mathlib.Core.Bool.{Bool, true, false, cond, ◌&&◌}
use mathlib.Core.List.{List, [], ◌++◌, append_assoc, append-nil}
use Prim.Native.Nat.{ℕ, zero, suc, ◌+◌, ◌≤◌, ◌<◌}
use Rattle.walk.specs.State.{add_rows}
use native.Mathlib.Omega.{arith}
use lib.Dec.{leb, eqb}
use borrow.Author.Tests.{leb-true, eqb-true}
use Rattle.walk.specs.Log.{Log, Out, next, each, done}
use Rattle.batch.specs.Stretch.{stretch, stretches}
use Rattle.batch.proofs.Ends.{Leaves, leaves_own, next_first, next_last, next_start_lem, next_rest, next_is}
use Rattle.batch.proofs.Tally.{Counts}
use Rattle.batch.proofs.Stretches.{and_left, and_right, Cuts, Meets, stretch_meets}
use Rattle.batch.proofs.Windows.{AllInside, within}
use Rattle.batch.proofs.Alike.{Window, Alike, alike_refl, alike_sym, alike_trans, alike_append}

pub next_log : {o : Out} (k : List ℕ → Out) {c : List ℕ} → Leaves o c → (next o k).log ≡ o.log ++ (k c).log
next_log k p = ap (λ q. q.log) (next_is k p)

module _ (plan parts : List ℕ) (M : ℕ) (K : ℕ → ℕ → Type 0) where
  -- the logs of such a child, from counters whose parts hold them
  pub record CutLogs (k : ℕ) (roomy : List ℕ → Type 0) (good : ℕ → ℕ → List ℕ → Type 0) (below kid : ℕ → ℕ → List ℕ → Out) : Type 0 where
    pub same_log : (a n : ℕ) (c : List ℕ) → Counts c → (below a n c).ans ≡ 0 → roomy (below a n c).counters → Alike plan parts M K (below a n c).log (kid a n c).log
    pub self : (a n : ℕ) (c d : List ℕ) → Counts c → Leaves (kid a n c) d → roomy d → Alike plan parts M K (kid a n c).log (kid a n c).log
    pub before : (a n : ℕ) (c d : List ℕ) → Counts c → Leaves (kid a n c) d → roomy d → roomy c
    pub cut_log : (a m s : ℕ) (c d e : List ℕ) → Counts c → good a (m + s) c → Leaves (kid a (m + s) c) d → Leaves (kid a m c) e → roomy d
        → Alike plan parts M K (kid a (m + s) c).log ((kid a m c).log ++ (kid (a + m) s e).log)
    pub none_log : (a m o : ℕ) (c d : List ℕ) → Counts c → Counts d → good a m c → o ≤ a + m → roomy d → Alike plan parts M K (kid o 0 d).log []
    pub off : (a n : ℕ) (c d : List ℕ) → Counts c → Leaves (kid a n c) d → roomy d → (i b : ℕ) → i < k → K i b → (w : List ℕ) → Window plan parts M K i b w
        → within i b (kid a n c).log w ≡ w
    pub frame_log : (a n j m : ℕ) (c d : List ℕ) → Counts c → j < k → Leaves (kid a n c) d → roomy d → Alike plan parts M K (kid a n c).log (kid a n (add_rows j m c)).log
    pub less : (j m : ℕ) (c : List ℕ) → j < k → roomy (add_rows j m c) → roomy c

  module _ (k : ℕ) (roomy : List ℕ → Type 0) (good : ℕ → ℕ → List ℕ → Type 0) (below kid : ℕ → ℕ → List ℕ → Out)
      (cuts : Cuts k good below kid) (logs : CutLogs k roomy good below kid) (start size : ℕ → ℕ) where
    abbrev Row : ℕ → List ℕ → Out
    Row r c = kid (start r) (size r) c

    abbrev Al : Log → Log → Type 0
    Al l m = Alike plan parts M K l m

    -- rows one after the other

    pub each_before : (n r : ℕ) (c d : List ℕ) → Counts c → Leaves (each Row n r c) d → roomy d → roomy c
    unfolding each done
    each_before zero r c d f l h = rw l.left h
    each_before (suc n) r c d f l h =
        let p = next_start_lem (Row r c) (λ e. each Row n (suc r) e) l in
        let g = (cuts.step (start r) (size r) c _ f p).0 in
        logs.before (start r) (size r) c _ f p (each_before n (suc r) (Row r c).counters d g (next_rest (Row r c) (λ e. each Row n (suc r) e) l) h)

    pub each_self : (n r : ℕ) (c d : List ℕ) → Counts c → Leaves (each Row n r c) d → roomy d → Al (each Row n r c).log (each Row n r c).log
    unfolding each done AllInside
    each_self zero r c d f l h = alike_refl plan parts M K [] tt
    each_self (suc n) r c d f l h =
        let p = next_start_lem (Row r c) (λ e. each Row n (suc r) e) l in
        let q = next_rest (Row r c) (λ e. each Row n (suc r) e) l in
        let g = (cuts.step (start r) (size r) c _ f p).0 in
        let y = each_before n (suc r) (Row r c).counters d g q h in
        rw (next_log (λ e. each Row n (suc r) e) p)
        (alike_append plan parts M K (logs.self (start r) (size r) c _ f p y) (each_self n (suc r) (Row r c).counters d g q h))

    pub each_log : (n r : ℕ) (c d : List ℕ) → Leaves (Row r c) d → (each Row (suc n) r c).log ≡ (Row r c).log ++ (each Row n (suc r) d).log
    unfolding each
    each_log n r c d p = next_log (λ e. each Row n (suc r) e) p

    -- from a stretch that is still to be walked on
    abbrev Writes : ℕ → ℕ → ℕ → ℕ → List ℕ → Log → Type 0
    Writes n r a m c l = Al l (next (kid a m c) (λ d. each Row n r d)).log

    abbrev On : ℕ → ℕ → ℕ → ℕ → List ℕ → Out
    On n r a m c = stretch below start size n r a m c

    module _ (n r : ℕ) (ih : (a m : ℕ) (c : List ℕ) → Counts c → (On n (suc r) a m c).ans ≡ 0 → roomy (On n (suc r) a m c).counters → Writes n (suc r) a m c (On n (suc r) a m c).log)
        (a m : ℕ) (c : List ℕ) (f : Counts c) where
      abbrev More : List ℕ → Out
      More d = each Row n (suc r) d

      abbrev Whole : List ℕ → Out
      Whole d = each Row (suc n) r d

      meets : (b j : ℕ) (e : List ℕ) → Counts e → (On n (suc r) b j e).ans ≡ 0 → Meets k good below kid cuts start size n (suc r) b j e (On n (suc r) b j e).counters
      meets b j e g h = stretch_meets k good below kid cuts start size n (suc r) b j e g h

      skipped : size r ≡ 0 → start r ≤ a + m → (On n (suc r) a m c).ans ≡ 0 → roomy (On n (suc r) a m c).counters → Writes (suc n) r a m c (On n (suc r) a m c).log
      skipped e h q y =
          let t = meets a m c f q in
          let p = next_start_lem (kid a m c) More t.1 in
          let l = next_rest (kid a m c) More t.1 in
          let g = (cuts.step a m c _ f p).0 in
          let u = each_before n (suc r) (kid a m c).counters _ g l y in
          let z : Leaves (Row r (kid a m c).counters) (kid a m c).counters = rw e (cuts.none a m (start r) c _ f g t.0 h).1 in
          let v : Al (Row r (kid a m c).counters).log [] = subst (λ j. Al (kid (start r) j (kid a m c).counters).log []) (sym e) (logs.none_log a m (start r) c _ f g t.0 h u) in
          alike_trans plan parts M K (ih a m c f q y)
          (rw (next_log More p, next_log Whole p, each_log n r (kid a m c).counters (kid a m c).counters z)
          (alike_append plan parts M K (logs.self a m c _ f p u) (alike_append plan parts M K (alike_sym plan parts M K v) (each_self n (suc r) (kid a m c).counters _ g l y))))

      joined : start r ≡ a + m → (On n (suc r) a (m + size r) c).ans ≡ 0 → roomy (On n (suc r) a (m + size r) c).counters → Writes (suc n) r a m c (On n (suc r) a (m + size r) c).log
      joined e q y =
          let t = meets a (m + size r) c f q in
          let p = next_start_lem (kid a (m + size r) c) More t.1 in
          let l = next_rest (kid a (m + size r) c) More t.1 in
          let g = (cuts.step a (m + size r) c _ f p).0 in
          let u = each_before n (suc r) (kid a (m + size r) c).counters _ g l y in
          let w = cuts.cut a m (size r) c _ f t.0 p in
          let o = next_start_lem (kid a m c) (λ e. kid (a + m) (size r) e) w.1 in
          let z : Leaves (Row r (kid a m c).counters) (kid a (m + size r) c).counters = rw e (next_rest (kid a m c) (λ e. kid (a + m) (size r) e) w.1) in
          let v : Al (kid a (m + size r) c).log ((kid a m c).log ++ (Row r (kid a m c).counters).log) = subst (λ j. Al (kid a (m + size r) c).log ((kid a m c).log ++ (kid j (size r) (kid a m c).counters).log)) (sym e) (logs.cut_log a m (size r) c _ _ f t.0 p o u) in
          alike_trans plan parts M K (ih a (m + size r) c f q y)
          (rw (next_log More p, next_log Whole o, each_log n r (kid a m c).counters (kid a (m + size r) c).counters z, ← append_assoc (kid a m c).log (Row r (kid a m c).counters).log (More (kid a (m + size r) c).counters).log)
          (alike_append plan parts M K v (each_self n (suc r) (kid a (m + size r) c).counters _ g l y)))

      passed : m ≡ 0 → a ≤ start r → (On n (suc r) (start r) (size r) c).ans ≡ 0 → roomy (On n (suc r) (start r) (size r) c).counters → Writes (suc n) r a m c (On n (suc r) (start r) (size r) c).log
      passed e h q y =
          let t = meets (start r) (size r) c f q in
          let p = next_start_lem (Row r c) More t.1 in
          let l = next_rest (Row r c) More t.1 in
          let g = (cuts.step (start r) (size r) c _ f p).0 in
          let u = each_before n (suc r) (Row r c).counters _ g l y in
          let b = logs.before (start r) (size r) c _ f p u in
          let z = (cuts.none (start r) (size r) a c c f f t.0 (omega arith)).1 in
          let v = logs.none_log (start r) (size r) a c c f f t.0 (omega arith) b in
          rw e
          (alike_trans plan parts M K (ih (start r) (size r) c f q y)
          (rw (next_log Whole z, next_log More p, each_log n r c (Row r c).counters p)
          (alike_append plan parts M K (alike_sym plan parts M K v) (alike_append plan parts M K (logs.self (start r) (size r) c _ f p u) (each_self n (suc r) (Row r c).counters _ g l y)))))

      walked : (next (below a m c) (λ d. On n (suc r) (start r) (size r) d)).ans ≡ 0 → roomy (next (below a m c) (λ d. On n (suc r) (start r) (size r) d)).counters
          → Writes (suc n) r a m c (next (below a m c) (λ d. On n (suc r) (start r) (size r) d)).log
      unfolding each
      walked h y =
          let on : List ℕ → Out = λ d. On n (suc r) (start r) (size r) d in
          let b = next_first (below a m c) on h in
          let s = cuts.same a m c f b in
          let g = (cuts.step a m c _ f s.1).0 in
          let ob : Leaves (below a m c) (below a m c).counters = leaves_own b in
          let l = next_last on ob h in
          let y2 : roomy (on (below a m c).counters).counters = rw l.left y in
          let t = meets (start r) (size r) (below a m c).counters g l.ok in
          let u = logs.before (start r) (size r) (below a m c).counters _ g (next_start_lem (Row r (below a m c).counters) More t.1) (each_before n (suc r) _ _ (cuts.step (start r) (size r) (below a m c).counters _ g (next_start_lem (Row r (below a m c).counters) More t.1)).0 (next_rest (Row r (below a m c).counters) More t.1) y2) in
          rw (next_log on ob, next_log Whole s.1)
          (alike_append plan parts M K (logs.same_log a m c f b u) (ih (start r) (size r) (below a m c).counters g l.ok y2))

      pick : (t u v : Bool) → (eqb (size r) 0 && leb (start r) (a + m)) ≡ t → eqb (start r) (a + m) ≡ u → (eqb m 0 && leb a (start r)) ≡ v
          → (o : Out) → o ≡ cond t (On n (suc r) a m c) (cond u (On n (suc r) a (m + size r) c) (cond v (On n (suc r) (start r) (size r) c) (next (below a m c) (λ d. On n (suc r) (start r) (size r) d))))
          → o.ans ≡ 0 → roomy o.counters → Writes (suc n) r a m c o.log
      pick true u v e p q o w h y =
          rw w (skipped (eqb-true (size r) 0 (and_left _ (leb (start r) (a + m)) e)) (leb-true (start r) (a + m) (and_right (eqb (size r) 0) _ e)) (rw w at h) (rw w at y))
      pick false true v e p q o w h y = rw w (joined (eqb-true (start r) (a + m) p) (rw w at h) (rw w at y))
      pick false false true e p q o w h y =
          rw w (passed (eqb-true m 0 (and_left _ (leb a (start r)) q)) (leb-true a (start r) (and_right (eqb m 0) _ q)) (rw w at h) (rw w at y))
      pick false false false e p q o w h y = rw w (walked (rw w at h) (rw w at y))

    stretch_writes : (n r a m : ℕ) (c : List ℕ) → Counts c → (On n r a m c).ans ≡ 0 → roomy (On n r a m c).counters → Writes n r a m c (On n r a m c).log
    unfolding stretch each done
    stretch_writes zero r a m c f h y =
        let s = cuts.same a m c f h in
        rw (next_log (λ d. each Row zero r d) s.1, append-nil) (logs.same_log a m c f h y)
    stretch_writes (suc n) r a m c f h y =
        pick n r (λ a m c f h y. stretch_writes n (suc r) a m c f h y) a m c f (eqb (size r) 0 && leb (start r) (a + m)) (eqb (start r) (a + m)) (eqb m 0 && leb a (start r)) refl refl refl
        (On (suc n) r a m c) refl h y

    -- BY STRETCHES WRITES what one after the other writes
    pub stretches_write : (n : ℕ) (c : List ℕ) → Counts c → (stretches below start size n c).ans ≡ 0 → roomy (stretches below start size n c).counters
        → Al (stretches below start size n c).log (each Row n 0 c).log
    stretches_write n c f h y =
        let w = stretch_writes n 0 0 0 c f h y in
        let t = stretch_meets k good below kid cuts start size n 0 0 0 c f h in
        let z = (cuts.none 0 0 0 c c f f t.0 (omega arith)).1 in
        let p = next_start_lem (kid 0 0 c) (λ d. each Row n 0 d) t.1 in
        let l : Leaves (each Row n 0 c) (stretches below start size n c).counters = rw z.left at (next_rest (kid 0 0 c) (λ d. each Row n 0 d) t.1) in
        let b = each_before n 0 c _ f l y in
        let v = logs.none_log 0 0 0 c c f f t.0 (omega arith) b in
        alike_trans plan parts M K (rw (next_log (λ d. each Row n 0 d) z) at w) (alike_append plan parts M K v (each_self n 0 c _ f l y))
