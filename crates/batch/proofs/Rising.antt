-- Parts that rise are apart. Assumes nothing.
use mathlib.Core.Path.{◌≡◌, refl, sym, ap, ◌∙◌}
use mathlib.Core.Bool.{Bool, true, false, cond, ◌&&◌}
use mathlib.Core.List.{List}
use Prim.Native.Nat.{ℕ, zero, suc, ◌+◌, ◌≤◌, ◌<◌}
use native.Mathlib.Omega.{arith}
use lib.Dec.{leb, ltb, eqb}
use borrow.Author.Tests.{leb-true, ltb-true, ltb-false, eqb-true, eqb-false}
use Rattle.walk.specs.Log.{start_of}
use Rattle.plan.specs.parts.Parts.{nodes_of, has_part, size_of, parts_within, Used}
use Rattle.plan.proofs.parts.Placed.{used_few, within_used}
use Rattle.batch.specs.Rise.{behind, stop, rise_from, parts_rise}
use Rattle.batch.proofs.Stretches.{and_left, and_right}
use Rattle.batch.proofs.Windows.{Keys, Where, here, nowhere}

module _ (plan parts : List ℕ) where
  abbrev A : ℕ → ℕ → ℕ
  A i b = start_of plan parts i b

  abbrev Z : ℕ → ℕ → ℕ
  Z i b = A i b + size_of plan parts i b

  -- a part's end is no lower than what stood before it
  stop_up : (i b end : ℕ) → behind plan parts i b end ≡ true → end ≤ stop plan parts i b end
  stop_up i b end = go (has_part plan i b)
    where
      go : (t : Bool) → cond t (leb end (A i b)) true ≡ true → end ≤ cond t (Z i b) end
      go true h = let l = leb-true end (A i b) h in omega arith
      go false h = omega arith

  starts : (i b end : ℕ) → has_part plan i b ≡ true → behind plan parts i b end ≡ true → end ≤ A i b
  starts i b end p h = leb-true end (A i b) (rw p at h)

  ends : (i b end : ℕ) → has_part plan i b ≡ true → stop plan parts i b end ≡ Z i b
  ends i b end p = rw p

  -- what the rise of n + 1 nodes says
  pub record Node (n i end : ℕ) : Type 0 where
    pub b0 : behind plan parts i 0 end ≡ true
    pub b1 : behind plan parts i 1 (stop plan parts i 0 end) ≡ true
    pub b2 : behind plan parts i 2 (stop plan parts i 1 (stop plan parts i 0 end)) ≡ true
    pub rest : rise_from plan parts n (suc i) (stop plan parts i 2 (stop plan parts i 1 (stop plan parts i 0 end))) ≡ true
    pub up0 : end ≤ stop plan parts i 0 end
    pub up1 : stop plan parts i 0 end ≤ stop plan parts i 1 (stop plan parts i 0 end)
    pub up2 : stop plan parts i 1 (stop plan parts i 0 end) ≤ stop plan parts i 2 (stop plan parts i 1 (stop plan parts i 0 end))

  opened : (n i end : ℕ) → rise_from plan parts (suc n) i end ≡ true → Node n i end
  unfolding rise_from
  opened n i end h =
      let s0 = stop plan parts i 0 end in
      let s1 = stop plan parts i 1 s0 in
      let s2 = stop plan parts i 2 s1 in
      let a = and_left (behind plan parts i 0 end) (behind plan parts i 1 s0 && (behind plan parts i 2 s1 && rise_from plan parts n (suc i) s2)) h in
      let h1 = and_right (behind plan parts i 0 end) (behind plan parts i 1 s0 && (behind plan parts i 2 s1 && rise_from plan parts n (suc i) s2)) h in
      let b = and_left (behind plan parts i 1 s0) (behind plan parts i 2 s1 && rise_from plan parts n (suc i) s2) h1 in
      let h2 = and_right (behind plan parts i 1 s0) (behind plan parts i 2 s1 && rise_from plan parts n (suc i) s2) h1 in
      let c = and_left (behind plan parts i 2 s1) (rise_from plan parts n (suc i) s2) h2 in
      record {
        b0 = a;
        b1 = b;
        b2 = c;
        rest = and_right (behind plan parts i 2 s1) (rise_from plan parts n (suc i) s2) h2;
        up0 = stop_up i 0 end a;
        up1 = stop_up i 1 s0 b;
        up2 = stop_up i 2 s1 c;
      }

  -- a node's own parts stand behind `end` and before what follows
  own : (n i end b : ℕ) → Node n i end → has_part plan i b ≡ true → b < 3
      → (end ≤ A i b) × (Z i b ≤ stop plan parts i 2 (stop plan parts i 1 (stop plan parts i 0 end)))
  own n i end zero h p l =
      let a = starts i 0 end p h.b0 in let e = ends i 0 end p in let u = h.up1 in let v = h.up2 in (a, omega arith)
  own n i end (suc zero) h p l =
      let a = starts i 1 _ p h.b1 in let e = ends i 1 (stop plan parts i 0 end) p in let u = h.up0 in let v = h.up2 in (omega arith, omega arith)
  own n i end (suc (suc zero)) h p l =
      let a = starts i 2 _ p h.b2 in let e = ends i 2 (stop plan parts i 1 (stop plan parts i 0 end)) p in let u = h.up0 in let v = h.up1 in (omega arith, omega arith)
  own n i end (suc (suc (suc b))) h p l = absurd (omega arith)

  -- two parts of one node
  pairs : (n i end b e : ℕ) → Node n i end → has_part plan i b ≡ true → has_part plan i e ≡ true → b < e → e < 3 → Z i b ≤ A i e
  pairs n i end b zero h p q l m = absurd (omega arith)
  pairs n i end zero (suc zero) h p q l m = let a = starts i 1 _ q h.b1 in let z = ends i 0 end p in omega arith
  pairs n i end (suc b) (suc zero) h p q l m = absurd (omega arith)
  pairs n i end zero (suc (suc zero)) h p q l m = let a = starts i 2 _ q h.b2 in let z = ends i 0 end p in let u = h.up1 in omega arith
  pairs n i end (suc zero) (suc (suc zero)) h p q l m = let a = starts i 2 _ q h.b2 in let z = ends i 1 (stop plan parts i 0 end) p in omega arith
  pairs n i end (suc (suc b)) (suc (suc zero)) h p q l m = absurd (omega arith)
  pairs n i end b (suc (suc (suc e))) h p q l m = absurd (omega arith)

  -- every part stands behind `end`
  later : (n i end j b : ℕ) → rise_from plan parts n i end ≡ true → i ≤ j → j < i + n → has_part plan j b ≡ true → b < 3 → end ≤ A j b
  later zero i end j b h l m p s = absurd (omega arith)
  later (suc n) i end j b h l m p s = go (λ end2 r l m. later n (suc i) end2 j b r l m p s) (opened n i end h) (eqb j i) refl
    where
      go : ((end2 : ℕ) → rise_from plan parts n (suc i) end2 ≡ true → suc i ≤ j → j < suc i + n → end2 ≤ A j b) → Node n i end → (t : Bool) → eqb j i ≡ t → end ≤ A j b
      go ih k true e = let y = eqb-true j i e in rw y (own n i end b k (rw y at p) s).0
      go ih k false e =
          let y = eqb-false j i e in
          let r = ih _ k.rest (omega arith) (omega arith) in
          let u = k.up0 in
          let v = k.up1 in
          let w = k.up2 in
          omega arith

  -- a part and a later one
  before : (n i end j b k e : ℕ) → rise_from plan parts n i end ≡ true → i ≤ j → j ≤ k → k < i + n → has_part plan j b ≡ true → has_part plan k e ≡ true → b < 3 → e < 3
      → (j ≡ k → b < e) → Z j b ≤ A k e
  before zero i end j b k e h l m o p q s t f = absurd (omega arith)
  before (suc n) i end j b k e h l m o p q s t f = go (λ end2 r l o. before n (suc i) end2 j b k e r l m o p q s t f) (opened n i end h) (eqb j i) refl (eqb k i) refl
    where
      go : ((end2 : ℕ) → rise_from plan parts n (suc i) end2 ≡ true → suc i ≤ j → k < suc i + n → Z j b ≤ A k e) → Node n i end
          → (u : Bool) → eqb j i ≡ u → (v : Bool) → eqb k i ≡ v → Z j b ≤ A k e
      go ih d true g true r =
          let y = eqb-true j i g in
          let z = eqb-true k i r in
          rw (y, z) (pairs n i end b e d (rw y at p) (rw z at q) (f (y ∙ sym z)) t)
      go ih d true g false r =
          let y = eqb-true j i g in
          let z = eqb-false k i r in
          let a = (own n i end b d (rw y at p) s).1 in
          let c = later n (suc i) _ k e d.rest (omega arith) (omega arith) q t in
          rw y (omega arith)
      go ih d false g v r = let y = eqb-false j i g in ih _ d.rest (omega arith) (omega arith)

  -- ---- the parts of a plan that rise

  module _ (M : ℕ) (rise : parts_rise plan parts ≡ true) (inside : parts_within plan parts M ≡ true) where
    apart_used : (i b j e : ℕ) → Used plan i b → Used plan j e → (i ≡ j → b ≡ e → ⊥) → (q : ℕ) → A i b ≤ q → q < Z i b → A j e ≤ q → q < Z j e → ⊥
    apart_used i b j e u v d q l m n o = go (ltb i j) refl (ltb j i) refl (ltb b e) refl
      where
        first : i ≤ j → (i ≡ j → b < e) → ⊥
        first s t =
            let k = v.node in
            let z = before (nodes_of plan) 0 0 i b j e rise (omega arith) s (omega arith) u.part v.part (used_few plan u) (used_few plan v) t in omega arith

        second : j ≤ i → (j ≡ i → e < b) → ⊥
        second s t =
            let k = u.node in
            let z = before (nodes_of plan) 0 0 j e i b rise (omega arith) s (omega arith) v.part u.part (used_few plan v) (used_few plan u) t in omega arith

        go : (s : Bool) → ltb i j ≡ s → (t : Bool) → ltb j i ≡ t → (r : Bool) → ltb b e ≡ r → ⊥
        go true f t g r h = let y = ltb-true i j f in first (omega arith) (λ z. absurd (omega arith))
        go false f true g r h = let y = ltb-true j i g in second (omega arith) (λ z. absurd (omega arith))
        go false f false g true h = let y = ltb-false i j f in let w = ltb-false j i g in first (omega arith) (λ z. ltb-true b e h)
        go false f false g false h =
            let y = ltb-false i j f in
            let w = ltb-false j i g in
            let x : i ≡ j = omega arith in
            second (omega arith) (λ z. let c = ltb-false b e h in low c (eqb b e) refl x)
          where
            low : e ≤ b → (t : Bool) → eqb b e ≡ t → i ≡ j → e < b
            low c true k x = absurd (d x (eqb-true b e k))
            low c false k x = let z = eqb-false b e k in omega arith

    -- which part a byte is in
    pub data Search (n q : ℕ) : Type 0 where
      yes : (i b : ℕ) → Used plan i b → A i b ≤ q → q < Z i b → Search n q
      no : ((i b : ℕ) → i < n → Used plan i b → A i b ≤ q → q < Z i b → ⊥) → Search n q

    look : (q i b : ℕ) {P : Type 0} → (Used plan i b → A i b ≤ q → q < Z i b → P) → ((Used plan i b → A i b ≤ q → q < Z i b → ⊥) → P) → i < nodes_of plan → P
    look q i b {P} f g l = go (has_part plan i b) refl (ltb q (A i b)) refl (ltb q (Z i b)) refl
      where
        bad : ◌≡◌ {A = Bool} false true → ⊥
        bad y = let z : ◌≡◌ {A = ℕ} 0 1 = ap (λ t. cond t 1 0) y in omega arith

        go : (s : Bool) → has_part plan i b ≡ s → (t : Bool) → ltb q (A i b) ≡ t → (u : Bool) → ltb q (Z i b) ≡ u → P
        go false p t m u n = g (λ w a c. bad (sym p ∙ w.part))
        go true p true m u n = let y = ltb-true q (A i b) m in g (λ w a c. omega arith)
        go true p false m false n = let y = ltb-false q (Z i b) n in g (λ w a c. omega arith)
        go true p false m true n = f (record { node = l; part = p }) (ltb-false q (A i b) m) (ltb-true q (Z i b) n)

    search : (n q : ℕ) → n ≤ nodes_of plan → Search n q
    search zero q l = no (λ i b m u x y. omega arith)
    search (suc n) q l = go (search n q (omega arith))
      where
        other : (i b : ℕ) → (Used plan n 0 → A n 0 ≤ q → q < Z n 0 → ⊥) → (Used plan n 1 → A n 1 ≤ q → q < Z n 1 → ⊥) → (Used plan n 2 → A n 2 ≤ q → q < Z n 2 → ⊥)
            → Used plan n b → A n b ≤ q → q < Z n b → ⊥
        other i zero f g h u x y = f u x y
        other i (suc zero) f g h u x y = g u x y
        other i (suc (suc zero)) f g h u x y = h u x y
        other i (suc (suc (suc b))) f g h u x y = let z = used_few plan u in omega arith

        go : Search n q → Search (suc n) q
        go (yes i b u x y) = yes i b u x y
        go (no f) =
            look q n 0 (λ u x y. yes n 0 u x y)
            (λ f0. look q n 1 (λ u x y. yes n 1 u x y)
            (λ f1. look q n 2 (λ u x y. yes n 2 u x y) (λ f2. no (λ i b m u x y. pick i b m u x y f0 f1 f2 (eqb i n) refl)) (omega arith)) (omega arith)) (omega arith)
          where
            pick : (i b : ℕ) → i < suc n → Used plan i b → A i b ≤ q → q < Z i b → (Used plan n 0 → A n 0 ≤ q → q < Z n 0 → ⊥) → (Used plan n 1 → A n 1 ≤ q → q < Z n 1 → ⊥)
                → (Used plan n 2 → A n 2 ≤ q → q < Z n 2 → ⊥) → (t : Bool) → eqb i n ≡ t → ⊥
            pick i b m u x y f0 f1 f2 true e = let z = eqb-true i n e in other i b f0 f1 f2 (rw z at u) (rw z at x) (rw z at y)
            pick i b m u x y f0 f1 f2 false e = let z = eqb-false i n e in f i b (omega arith) u x y

    -- THE PARTS OF A PLAN THAT RISE are apart, inside the room
    pub rise_keys : Keys plan parts M (Used plan)
    rise_keys =
        record {
          inside = λ i b u. (within_used plan parts M inside i b u).1;
          apart = apart_used;
          find = λ q. go q (search (nodes_of plan) q (omega arith));
        }
      where
        go : (q : ℕ) → Search (nodes_of plan) q → Where plan parts M (Used plan) q
        go q (yes i b u x y) = here i b u x y
        go q (no f) = nowhere (λ i b u x y. f i b u.node u x y)
