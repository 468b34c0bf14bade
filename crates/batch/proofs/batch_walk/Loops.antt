-- The loops over stretches: what is left of them does what is left of the whole. Assumes nothing.
use mathlib.Core.Path.{◌≡◌, refl, sym, ap, subst, ◌∙◌}
use mathlib.Core.Bool.{Bool, true, false, cond}
use mathlib.Core.List.{List}
use Prim.Native.Nat.{ℕ, suc, ◌+◌, ◌-◌, ◌≤◌}
use native.Mathlib.Nat.{sub-zero}
use native.Mathlib.Numerals.{add-one}
use native.Mathlib.Omega.{arith}
use lib.Dec.{eqb}
use borrow.Author.Tests.{eqb-true, eqb-false}
use Rattle.walk.specs.Log.{Out, Did}
use Rattle.walk.proofs.Laws.{Rest, next_no, next_ok}
use Rattle.number.specs.Number.{entry}
use Rattle.batch.specs.Stretch.{stretch, stretches}
use Rattle.batch.specs.batch_walk.Side.{side_of, next_start, next_size}
use Rattle.batch.proofs.batch_walk.Sides.{stretch_on, stretch_cut}

module _ (walk : ℕ → ℕ → List ℕ → Out) (start size : ℕ → ℕ) where
  -- one row more
  pub advance_step : (c : List ℕ) (n r a m : ℕ) {p s z d b k r2 : ℕ} → p ≡ suc n → s ≡ start r → z ≡ size r → d ≡ side_of a m s z → (d ≡ 3 → ⊥) → b ≡ next_start d a s → k ≡ next_size d m z → r2 ≡ r + 1
      → stretch walk start size p r a m c ≡ stretch walk start size n r2 b k c
  advance_step c n r a m {p} {s} {z} {d} {b} {k} {r2} e f g h not-cut i j l =
      let q : d ≡ side_of a m (start r) (size r) = h ∙ ap (λ v. side_of a m v z) f ∙ ap (λ v. side_of a m (start r) v) g in
      let t : side_of a m (start r) (size r) ≡ 3 → ⊥ = λ y. not-cut (q ∙ y) in
      let u : b ≡ next_start (side_of a m (start r) (size r)) a (start r) = i ∙ ap (λ v. next_start v a s) q ∙ ap (λ v. next_start (side_of a m (start r) (size r)) a v) f in
      let v : k ≡ next_size (side_of a m (start r) (size r)) m (size r) = j ∙ ap (λ v. next_size v m z) q ∙ ap (λ v. next_size (side_of a m (start r) (size r)) m v) g in
      stretch_on walk start size n r a m c e t
      ∙ ap (λ y. stretch walk start size n y (next_start (side_of a m (start r) (size r)) a (start r)) (next_size (side_of a m (start r) (size r)) m (size r)) c) (sym (add-one r) ∙ sym l)
      ∙ ap (λ y. stretch walk start size n r2 y (next_size (side_of a m (start r) (size r)) m (size r)) c) (sym u)
      ∙ ap (λ y. stretch walk start size n r2 b y c) (sym v)

  module _ {plan parts : List ℕ} {wr : Bool} (c room : List ℕ) (n r a m : ℕ) {g : ℕ} {c1 room1 : List ℕ} (d : Did plan parts wr (walk a m c) room g c1 room1) where
    -- the last stretch
    pub stretch_last : n ≡ 0 → Did plan parts wr (stretch walk start size n r a m c) room g c1 room1
    unfolding stretch
    stretch_last e = rw e d

    -- a stretch that is refused
    pub stretch_stop : (g ≡ 0 → ⊥) → ((n ≡ 0 → ⊥) → side_of a m (start r) (size r) ≡ 3) → Did plan parts wr (stretch walk start size n r a m c) room g c1 room1
    stretch_stop h f = go (eqb n 0) refl
      where
        go : (t : Bool) → eqb n 0 ≡ t → Did plan parts wr (stretch walk start size n r a m c) room g c1 room1
        go true e = stretch_last (eqb-true n 0 e)
        go false e =
            let y = eqb-false n 0 e in
            let k : n ≡ suc (n - 1) = omega arith in
            rw (stretch_cut walk start size (n - 1) r a m c k (f y)) (next_no _ d h)

    -- a stretch, and then the rest
    pub stretch_more : g ≡ 0 → {n2 r2 a2 m2 : ℕ} → n ≡ suc n2 → side_of a m (start r) (size r) ≡ 3 → r2 ≡ r + 1 → a2 ≡ start r → m2 ≡ size r → {g2 : ℕ} {c2 room2 : List ℕ}
        → Did plan parts wr (stretch walk start size n2 r2 a2 m2 c1) room1 g2 c2 room2 → Did plan parts wr (stretch walk start size n r a m c) room g2 c2 room2
    stretch_more h {n2} {r2} {a2} {m2} e f i j k o =
        rw (stretch_cut walk start size n2 r a m c e f) (next_ok _ d h (rw (i, j, k, add-one r) at o))

-- what is left at first is the whole
pub begins : (plan parts : List ℕ) (wr : Bool) (walk : ℕ → ℕ → List ℕ → Out) (w : ℕ) (body : List ℕ) (slot n : ℕ) (c room : List ℕ) {o z p q : ℕ} → o ≡ p → z ≡ q
    → Rest plan parts wr (stretches walk (λ r. entry w body p (slot + r)) (λ r. entry w body q (slot + r)) n c) room
    (stretch walk (λ r. entry w body o (slot + r)) (λ r. entry w body z (slot + r)) (n - 0) 0 0 0 c) room
begins plan parts wr walk w body slot n c room {o} {z} {p} {q} e f g c2 room2 d =
    subst (λ v. Did plan parts wr (stretch walk (λ r. entry w body p (slot + r)) (λ r. entry w body v (slot + r)) n 0 0 0 c) room g c2 room2) f
    (subst (λ v. Did plan parts wr (stretch walk (λ r. entry w body v (slot + r)) (λ r. entry w body z (slot + r)) n 0 0 0 c) room g c2 room2) e
    (subst (λ v. Did plan parts wr (stretch walk (λ r. entry w body o (slot + r)) (λ r. entry w body z (slot + r)) v 0 0 0 c) room g c2 room2) (sub-zero n) d))

-- all rows are one stretch if they are whole
pub begun_in : (whole : Bool) (n total : ℕ) → total ≤ n → {m r : ℕ} → m ≡ cond whole total 0 → r ≡ cond whole n 0 → (r ≤ n) × (m ≤ r)
begun_in true n total h e f = (omega arith, omega arith)
begun_in false n total h e f = (omega arith, omega arith)

pub begun : {plan parts : List ℕ} {wr : Bool} (walk : ℕ → ℕ → List ℕ → Out) (start size : ℕ → ℕ) (whole : Bool) (n begin total : ℕ) (c room : List ℕ)
    → (whole ≡ true → stretches walk start size n c ≡ walk begin total c) → {a m r : ℕ} → a ≡ cond whole begin 0 → m ≡ cond whole total 0 → r ≡ cond whole n 0
    → Rest plan parts wr (stretches walk start size n c) room (stretch walk start size (n - r) r a m c) room
unfolding stretch
begun walk start size true n begin total c room one e f g g2 c2 room2 d = let z : n - n ≡ 0 = omega arith in rw (one refl) (rw (e, f, g, z) at d)
begun walk start size false n begin total c room one e f g g2 c2 room2 d = rw (e, f, g, sub-zero n) at d

-- one turn of the loop: o0 from room0 is the whole, the rows from r on are left, and the stretch ends before row t
module _ {plan parts : List ℕ} {wr : Bool} (walk : ℕ → ℕ → List ℕ → Out) (start size : ℕ → ℕ) (n r a m : ℕ) (c room : List ℕ) {o0 : Out} {room0 : List ℕ} (rest : Rest plan parts wr o0 room0 (stretch walk start size (n - r) r a m c) room) where
  module _ (t b k : ℕ) (e : stretch walk start size (n - r) r a m c ≡ stretch walk start size (n - t) t b k c) (within : t ≤ n) {g : ℕ} {c1 room1 : List ℕ} (d : Did plan parts wr (walk b k c) room g c1 room1) where
    pub loop_stop : (g ≡ 0 → ⊥) → ((t ≡ n → ⊥) → side_of b k (start t) (size t) ≡ 3) → Did plan parts wr o0 room0 g c1 room1
    loop_stop h f =
        rest g c1 room1 (rw e (stretch_stop walk start size c room (n - t) t b k d h (λ y. f (λ (z : t ≡ n). y (omega arith)))))

    pub loop_end : t ≡ n → Did plan parts wr o0 room0 g c1 room1
    loop_end h = rest g c1 room1 (rw e (stretch_last walk start size c room (n - t) t b k d (omega arith)))

    pub loop_zero : t ≡ n → g ≡ 0 → Did plan parts wr o0 room0 0 c1 room1
    loop_zero h z = subst (λ v. Did plan parts wr o0 room0 v c1 room1) z (loop_end h)

    pub loop_more : g ≡ 0 → (t ≡ n → ⊥) → ((t ≡ n → ⊥) → side_of b k (start t) (size t) ≡ 3) → {r2 a2 m2 : ℕ} → r2 ≡ t + 1 → a2 ≡ start t → m2 ≡ size t
        → Rest plan parts wr o0 room0 (stretch walk start size (n - r2) r2 a2 m2 c1) room1
    loop_more h y f {r2} {a2} {m2} i j l g2 c2 room2 q =
        let k2 : n - t ≡ suc (n - r2) = go (eqb t n) refl in
        rest g2 c2 room2 (rw e (stretch_more walk start size c room (n - t) t b k d h k2 (f y) i j l q))
      where
        go : (u : Bool) → eqb t n ≡ u → n - t ≡ suc (n - r2)
        go true z = absurd (y (eqb-true t n z))
        go false z = let x = eqb-false t n z in omega arith
