-- Rows of a dense union looked at one after the other: what has fallen to each child. Assumes nothing.
use mathlib.Core.Path.{◌≡◌, refl, sym, ap, ◌∙◌}
use mathlib.Core.Bool.{Bool, true, false, cond, ◌&&◌, false≢true}
use mathlib.Core.List.{List}
use Prim.Native.Nat.{ℕ, zero, suc, ◌+◌, ◌-◌, ◌≤◌, ◌<◌, min, max}
use native.Mathlib.Nat.{add-zero, sub-zero}
use native.Mathlib.Numerals.{add-one}
use native.Mathlib.Omega.{arith}
use lib.ListN.{length, get_or, set, replicate, length-set, length-replicate, get_or-replicate}
use lib.Seq.{get_or-set_same, get_or-set_other}
use lib.Dec.{leb, ltb, eqb}
use borrow.Author.Tests.{eqb-true, eqb-false, eq-eqb, ne_eqb, le-leb, le-ltb, lt-ltb, ltb-true}
use Rattle.columnar.specs.Types.{half}
use Rattle.plan.proofs.parts.Placed.{every_at}
use Rattle.walk.specs.State.{rows, grown, top}
use Rattle.walk.specs.Log.{Out, next}
use Rattle.batch.specs.Stretch.{sum_of, stretch}
use Rattle.batch.specs.batch_walk.Side.{side_of, furthest_of}
use Rattle.batch.specs.batch_walk.Fall.{takes_of, takes_from, lands_by, all_land, Fallen}
use Rattle.batch.proofs.Stretches.{and_left, and_right}
use Rattle.batch.proofs.batch_walk.Sums.{sum_more, furthest_more}

-- ---- one row more, beside a stretch

module _ (walk : ℕ → ℕ → List ℕ → Out) (start size : ℕ → ℕ) (n r a m : ℕ) (c : List ℕ) {k r2 : ℕ} (e : k ≡ suc n) (i : r2 ≡ r + 1) where
  -- none of the child
  pub stretch_skip : start r ≡ 0 → size r ≡ 0 → stretch walk start size k r a m c ≡ stretch walk start size n r2 a m c
  unfolding stretch
  stretch_skip f g =
      let t : (eqb (size r) 0 && leb (start r) (a + m)) ≡ true = rw (eq-eqb (size r) 0 g) (le-leb (start r) (a + m) (omega arith)) in
      rw (e, i, add-one r, t) refl

  taken : size r ≡ 1 → (eqb (size r) 0 && leb (start r) (a + m)) ≡ false
  taken g = rw (ne_eqb (size r) 0 (λ (z : size r ≡ 0). omega arith)) refl

  -- the next of the child
  pub stretch_follow : start r ≡ a + m → size r ≡ 1 → stretch walk start size k r a m c ≡ stretch walk start size n r2 a (m + 1) c
  unfolding stretch
  stretch_follow f g = rw (e, i, add-one r, taken g, eq-eqb (start r) (a + m) f, g) refl

  -- the first of the child
  pub stretch_first : {s : ℕ} → start r ≡ s → size r ≡ 1 → m ≡ 0 → a ≡ 0 → stretch walk start size k r a m c ≡ stretch walk start size n r2 s 1 c
  unfolding stretch
  stretch_first {s} f g h o = rw (e, i, add-one r, taken g) (go (eqb (start r) (a + m)) refl)
    where
      go : (t : Bool) → eqb (start r) (a + m) ≡ t
          → cond t (stretch walk start size n (suc r) a (m + size r) c) (cond (eqb m 0 && leb a (start r)) (stretch walk start size n (suc r) (start r) (size r) c) (next (walk a m c) (λ c2. stretch walk start size n (suc r) (start r) (size r) c2)))
          ≡ stretch walk start size n (suc r) s 1 c
      go true q =
          let y = eqb-true (start r) (a + m) q in
          let u : a ≡ s = omega arith in
          let w : m + size r ≡ 1 = omega arith in
          ap (λ v. stretch walk start size n (suc r) v (m + size r) c) u ∙ ap (λ v. stretch walk start size n (suc r) s v c) w
      go false q =
          let u : (eqb m 0 && leb a (start r)) ≡ true = rw (eq-eqb m 0 h) (le-leb a (start r) (omega arith)) in
          rw u (ap (λ v. stretch walk start size n (suc r) v (size r) c) f ∙ ap (λ v. stretch walk start size n (suc r) s v c) g)

-- no row is left
pub stretch_whole : (walk : ℕ → ℕ → List ℕ → Out) (start size : ℕ → ℕ) {z : ℕ} (n a m : ℕ) (c : List ℕ) → z ≡ 0 → stretch walk start size z n a m c ≡ walk a m c
unfolding stretch
stretch_whole walk start size n a m c e = rw e refl

-- ---- homes

module _ (home : ℕ → ℕ) where
  pub takes_here : (k r : ℕ) → k ≡ home r → takes_of home k r ≡ 1
  takes_here k r e = rw (eq-eqb (home r) k (sym e)) refl

  pub takes_else : (k r : ℕ) → (home r ≡ k → ⊥) → takes_of home k r ≡ 0
  takes_else k r e = rw (ne_eqb (home r) k e) refl

  pub from_here : (pos : ℕ → ℕ) (k r : ℕ) → k ≡ home r → takes_from home pos k r ≡ pos r
  from_here pos k r e = rw (eq-eqb (home r) k (sym e)) refl

  pub from_else : (pos : ℕ → ℕ) (k r : ℕ) → (home r ≡ k → ⊥) → takes_from home pos k r ≡ 0
  from_else pos k r e = rw (ne_eqb (home r) k e) refl

  -- ---- every row lands

  module _ (c : List ℕ) where
    pub land_more : (r : ℕ) → all_land home c r ≡ true → home r < 32 → lands_by home c r < half 4 → all_land home c (r + 1) ≡ true
    land_more r h g l = rw (add-one r, h, lt-ltb (home r) 32 g, lt-ltb (lands_by home c r) (half 4) l) refl

    pub land_at : (n r : ℕ) → all_land home c n ≡ true → r < n → (home r < 32) × (lands_by home c r < half 4)
    land_at n r h l =
        let g = every_at (λ r. ltb (home r) 32 && ltb (lands_by home c r) (half 4)) n h r l in
        (ltb-true _ _ (and_left (ltb (home r) 32) _ g), ltb-true _ _ (and_right (ltb (home r) 32) _ g))

    none_false : (n r : ℕ) → r < n → ((home r < 32) → lands_by home c r < half 4 → ⊥) → false ≡ all_land home c n
    none_false n r l bad = go (all_land home c n) refl
      where
        go : (t : Bool) → all_land home c n ≡ t → false ≡ t
        go true e = let g = land_at n r e l in absurd (bad g.0 g.1)
        go false e = refl

    pub land_homeless : (n r : ℕ) → r < n → {k : ℕ} → k ≡ home r → 32 ≤ k → false ≡ all_land home c n
    land_homeless n r l e h = none_false n r l (λ g o. omega arith)

    pub land_over : (n r : ℕ) → r < n → {k t v g : ℕ} → k ≡ home r → t ≡ sum_of (takes_of home k) r → v ≡ rows c k → g ≡ grown v t → 2147483648 ≤ g → false ≡ all_land home c n
    unfolding grown
    land_over n r l {k} {t} {v} {g} e f i j h =
        none_false n r l
        (λ w o.
        let y : v ≡ rows c (home r) = i ∙ ap (rows c) e in
        let z : t ≡ sum_of (takes_of home (home r)) r = f ∙ ap (λ q. sum_of (takes_of home q) r) e in
        omega arith)

    pub land_fits : (r : ℕ) {k t v g : ℕ} → k ≡ home r → t ≡ sum_of (takes_of home k) r → v ≡ rows c k → g ≡ grown v t → g < 2147483648 → lands_by home c r < half 4
    unfolding grown
    land_fits r {k} {t} {v} {g} e f i j h =
        let y : v ≡ rows c (home r) = i ∙ ap (rows c) e in
        let z : t ≡ sum_of (takes_of home (home r)) r = f ∙ ap (λ q. sum_of (takes_of home q) r) e in
        omega arith

  -- ---- what has fallen

  module _ (pos : ℕ → ℕ) (n : ℕ) where
    pub fall_none : Fallen home pos n 0 true (replicate 32 0) (replicate 32 0) (replicate 32 0)
    unfolding sum_of furthest_of
    fall_none =
        record {
          long = (length-replicate {A = ℕ} 32 0, length-replicate {A = ℕ} 32 0, length-replicate {A = ℕ} 32 0);
          counted = λ k h. get_or-replicate {A = ℕ} 32 k 0 0 h;
          furthest = λ k h. get_or-replicate {A = ℕ} 32 k 0 0 h;
          begun = λ k h. (rw (get_or-replicate {A = ℕ} 32 k 0 0 h) (omega arith), λ z. get_or-replicate {A = ℕ} 32 k 0 0 h);
          one = λ w k h walk c. rw (get_or-replicate {A = ℕ} 32 k 0 0 h, sub-zero n) refl;
        }

    module _ (r : ℕ) (whole : Bool) (begins taken ends : List ℕ) (f : Fallen home pos n r whole begins taken ends) (left : r < n) {j start t b e r2 : ℕ} {whole2 : Bool}
        (is : j ≡ home r) (small : j < 32) (at : start ≡ pos r) (low : start < 4294967296) (had : t ≡ get_or taken j 0) (begin : b ≡ cond (eqb t 0) start (get_or begins j 0))
        (still : whole2 ≡ cond (eqb (b + t) start) whole false) (reach : e ≡ max (get_or ends j 0) (start + 1)) (more : r2 ≡ r + 1) where
      else_home : (k : ℕ) → eqb j k ≡ false → home r ≡ k → ⊥
      else_home k q z = eqb-false j k q (is ∙ z)

      set_here : (l : List ℕ) (v : ℕ) → length l ≡ 32 → get_or (set l j v) j 0 ≡ v
      set_here l v h = get_or-set_same l j v 0 (omega arith)

      set_else : (l : List ℕ) (v k : ℕ) → eqb j k ≡ false → get_or (set l j v) k 0 ≡ get_or l k 0
      set_else l v k q = get_or-set_other l j k v 0 (λ z. eqb-false j k q (sym z))

      counters_go : (k : ℕ) → k < 32 → (u : Bool) → eqb j k ≡ u → get_or (set taken j (t + 1)) k 0 ≡ sum_of (takes_of home k) r2
      counters_go k h true q =
          let z : j ≡ k = eqb-true j k q in
          rw (← z, more) (set_here taken (t + 1) f.long.1 ∙ ap (◌+ 1) (had ∙ f.counted j small) ∙ sym (sum_more (takes_of home j) r ∙ ap (λ v. sum_of (takes_of home j) r + v) (takes_here j r is)))
      counters_go k h false q =
          rw more (set_else taken (t + 1) k q ∙ f.counted k h ∙ sym (sum_more (takes_of home k) r ∙ ap (λ v. sum_of (takes_of home k) r + v) (takes_else k r (else_home k q)) ∙ add-zero _))

      reach_go : (k : ℕ) → k < 32 → (u : Bool) → eqb j k ≡ u → get_or (set ends j e) k 0 ≡ furthest_of (λ q. takes_from home pos k q + takes_of home k q) r2
      reach_go k h true q =
          let z : j ≡ k = eqb-true j k q in
          let y : start + 1 ≡ min (takes_from home pos j r + takes_of home j r) top = rw (from_here pos j r is, takes_here j r is, ← at) (omega arith) in
          rw (← z, more) (set_here ends e f.long.2 ∙ furthest_more (λ q. takes_from home pos j q + takes_of home j q) r (f.furthest j small) y reach)
      reach_go k h false q =
          let y : 0 ≡ min (takes_from home pos k r + takes_of home k r) top = rw (from_else pos k r (else_home k q), takes_else k r (else_home k q)) (omega arith) in
          let o : get_or ends k 0 ≡ max (get_or ends k 0) 0 = omega arith in
          rw more (set_else ends e k q ∙ furthest_more (λ q. takes_from home pos k q + takes_of home k q) r (f.furthest k h) y o)

      begin_low : b < 4294967296
      begin_low = go (eqb t 0) refl begin
        where
          go : (u : Bool) → eqb t 0 ≡ u → b ≡ cond u start (get_or begins j 0) → b < 4294967296
          go true q g = omega arith
          go false q g = let y = (f.begun j small).0 in omega arith

      begun_go : (k : ℕ) → k < 32 → (u : Bool) → eqb j k ≡ u → (get_or (set begins j b) k 0 < 4294967296) × (get_or (set taken j (t + 1)) k 0 ≡ 0 → get_or (set begins j b) k 0 ≡ 0)
      begun_go k h true q =
          let z : j ≡ k = eqb-true j k q in
          let y = set_here taken (t + 1) f.long.1 in
          rw (← z) (rw (set_here begins b f.long.0) begin_low, λ (g : get_or (set taken j (t + 1)) j 0 ≡ 0). absurd (omega arith))
      begun_go k h false q = rw (set_else begins b k q, set_else taken (t + 1) k q) (f.begun k h)

      turn : n - r ≡ suc (n - r2)
      turn = omega arith

      -- the stretch of the row's child goes on
      goes_on : b + t ≡ start → (walk : ℕ → ℕ → List ℕ → Out) (c : List ℕ)
          → stretch walk (takes_from home pos j) (takes_of home j) (n - r) r (get_or begins j 0) (get_or taken j 0) c ≡ stretch walk (takes_from home pos j) (takes_of home j) (n - r2) r2 b (t + 1) c
      goes_on meets walk c = go (eqb t 0) refl begin
        where
          go : (u : Bool) → eqb t 0 ≡ u → b ≡ cond u start (get_or begins j 0)
              → stretch walk (takes_from home pos j) (takes_of home j) (n - r) r (get_or begins j 0) (get_or taken j 0) c ≡ stretch walk (takes_from home pos j) (takes_of home j) (n - r2) r2 b (t + 1) c
          go true q g =
              let z : t ≡ 0 = eqb-true t 0 q in
              let y : get_or taken j 0 ≡ 0 = sym had ∙ z in
              let o = (f.begun j small).1 y in
              rw (z, g) (stretch_first walk (takes_from home pos j) (takes_of home j) (n - r2) r (get_or begins j 0) (get_or taken j 0) c turn more (from_here pos j r is ∙ sym at) (takes_here j r is) y o)
          go false q g =
              let y : takes_from home pos j r ≡ get_or begins j 0 + get_or taken j 0 = from_here pos j r is ∙ sym at ∙ sym meets ∙ ap (◌+ t) g ∙ ap (λ v. get_or begins j 0 + v) had in
              rw (g, had) (stretch_follow walk (takes_from home pos j) (takes_of home j) (n - r2) r (get_or begins j 0) (get_or taken j 0) c turn more y (takes_here j r is))

      one_go : whole ≡ true → b + t ≡ start → (k : ℕ) → k < 32 → (walk : ℕ → ℕ → List ℕ → Out) (c : List ℕ) → (u : Bool) → eqb j k ≡ u
          → stretch walk (takes_from home pos k) (takes_of home k) n 0 0 0 c ≡ stretch walk (takes_from home pos k) (takes_of home k) (n - r2) r2 (get_or (set begins j b) k 0) (get_or (set taken j (t + 1)) k 0) c
      one_go w meets k h walk c true q =
          let z : j ≡ k = eqb-true j k q in
          rw (← z, set_here begins b f.long.0, set_here taken (t + 1) f.long.1) (f.one w j small walk c ∙ goes_on meets walk c)
      one_go w meets k h walk c false q =
          rw (set_else begins b k q, set_else taken (t + 1) k q)
          (f.one w k h walk c ∙ stretch_skip walk (takes_from home pos k) (takes_of home k) (n - r2) r (get_or begins k 0) (get_or taken k 0) c turn more (from_else pos k r (else_home k q)) (takes_else k r (else_home k q)))

      whole_was : whole2 ≡ true → (whole ≡ true) × (b + t ≡ start)
      whole_was h = go (eqb (b + t) start) refl (sym still ∙ h)
        where
          go : (u : Bool) → eqb (b + t) start ≡ u → cond u whole false ≡ true → (whole ≡ true) × (b + t ≡ start)
          go true q g = (g, eqb-true (b + t) start q)
          go false q g = absurd (false≢true g)

      pub fall_more : Fallen home pos n r2 whole2 (set begins j b) (set taken j (t + 1)) (set ends j e)
      fall_more =
          record {
            long = (length-set begins j b ∙ f.long.0, length-set taken j (t + 1) ∙ f.long.1, length-set ends j e ∙ f.long.2);
            counted = λ k h. counters_go k h (eqb j k) refl;
            furthest = λ k h. reach_go k h (eqb j k) refl;
            begun = λ k h. begun_go k h (eqb j k) refl;
            one = λ w k h walk c. one_go (whole_was w).0 (whole_was w).1 k h walk c (eqb j k) refl;
          }

-- ---- where the rows land

-- one entry more
pub below_set : (f : ℕ → ℕ) (l : List ℕ) (k : ℕ) {v : ℕ} → k < length l → ((j : ℕ) → j < k → get_or l j 0 ≡ f j) → v ≡ f k → (j : ℕ) → j < k + 1 → get_or (set l k v) j 0 ≡ f j
below_set f l k {v} h g e j m = go (eqb j k) refl
  where
    go : (t : Bool) → eqb j k ≡ t → get_or (set l k v) j 0 ≡ f j
    go true q = let z : j ≡ k = eqb-true j k q in rw z (get_or-set_same l k v 0 h ∙ e)
    go false q = let z = eqb-false j k q in get_or-set_other l k j v 0 z ∙ g j (omega arith)

module _ (home : ℕ → ℕ) (c : List ℕ) where
  -- the next row of each child, behind r rows of the union
  abbrev pub Landing : ℕ → List ℕ → Type 0
  Landing r lands = (length lands ≡ 32) × ((k : ℕ) → k < 32 → get_or lands k 0 ≡ rows c k + sum_of (takes_of home k) r)

  pub landing_none : (lands : List ℕ) → (length lands ≡ 32) × ((k : ℕ) → k < 32 → get_or lands k 0 ≡ rows c k) → Landing 0 lands
  unfolding sum_of
  landing_none lands f = (f.0, λ k h. f.1 k h ∙ sym (add-zero (rows c k)))

  module _ (r : ℕ) (lands : List ℕ) (f : Landing r lands) (small : home r < 32) {j : ℕ} (is : j ≡ home r) where
    pub landing_at : get_or lands j 0 ≡ lands_by home c r
    landing_at = rw is (f.1 (home r) small)

    pub landing_more : {v r2 : ℕ} → v ≡ get_or lands j 0 → r2 ≡ r + 1 → Landing r2 (set lands j (v + 1))
    landing_more {v} {r2} e more = (length-set lands j (v + 1) ∙ f.0, λ k h. go k h (eqb j k) refl)
      where
        go : (k : ℕ) → k < 32 → (t : Bool) → eqb j k ≡ t → get_or (set lands j (v + 1)) k 0 ≡ rows c k + sum_of (takes_of home k) r2
        go k h true q =
            let z : j ≡ k = eqb-true j k q in
            let s = sum_more (takes_of home j) r in
            let o = takes_here home j r is in
            let y = f.1 j (omega arith) in
            rw (← z, more) (get_or-set_same lands j (v + 1) 0 (omega (arith, f.0)) ∙ (let w : v + 1 ≡ rows c j + sum_of (takes_of home j) (r + 1) = omega arith in w))
        go k h false q =
            let s = sum_more (takes_of home k) r in
            let o = takes_else home k r (λ z. eqb-false j k q (is ∙ z)) in
            rw more (get_or-set_other lands j k (v + 1) 0 (λ z. eqb-false j k q (sym z)) ∙ f.1 k h ∙ (let w : rows c k + sum_of (takes_of home k) r ≡ rows c k + sum_of (takes_of home k) (r + 1) = omega arith in w))

-- a row is one of a child, or none
pub size_most : (b : Bool) {s : ℕ} → s ≡ cond b 1 0 → s ≤ 1
size_most true e = omega arith
size_most false e = omega arith

-- no child takes more rows than there are
pub takes_most : (home : ℕ → ℕ) (k n : ℕ) → sum_of (takes_of home k) n ≤ n
unfolding sum_of
takes_most home k zero = omega arith
takes_most home k (suc n) = let h = takes_most home k n in let s = size_most (eqb (home n) k) refl in omega arith

-- where a stretch begins stays below what both are below
pub begin_most : (t : ℕ) {s b0 b : ℕ} (m : ℕ) → b ≡ cond (eqb t 0) s b0 → s < m → b0 < m → b < m
begin_most t {s} {b0} {b} m e h g = go (eqb t 0) e
  where
    go : (u : Bool) → b ≡ cond u s b0 → b < m
    go true q = omega arith
    go false q = omega arith

pub grown_most : (v : ℕ) {t g : ℕ} → g ≡ grown v t → g < 2147483648 → t < 2147483648
unfolding grown
grown_most v e h = omega arith
