-- A turn of a loop over stretches leaves fewer of them. Assumes nothing.
use Rattle.std.proofs.Common.{◌≡◌, ℕ, zero, suc, ◌+◌, ◌-◌, ◌<◌, ◌≤◌, min, max, Bool, true, false, cond, ltb, refl, ap, ◌∙◌, arith, ltb-false, ltb-true, le-ltb, lt-ltb}
use Rattle.aggregates.specs.cell_sums.Steps.{stretches_by, stretches_of, stretches_from, both_left}

module _ (until : ℕ → ℕ) (end : ℕ) where
  -- f makes no difference
  enough : (f g row : ℕ) → end - row ≤ f → end - row ≤ g → stretches_by until end f row ≡ stretches_by until end g row
  unfolding stretches_by
  enough zero zero row a b = refl
  enough zero (suc g) row a b = rw (le-ltb row end (omega arith))
  enough (suc f) zero row a b = rw (le-ltb row end (omega arith))
  enough (suc f) (suc g) row a b = go (λ l. enough f g (max (suc row) (until row)) (omega arith) (omega arith)) (ltb row end) refl
    where
      go : (row < end → stretches_by until end f (max (suc row) (until row)) ≡ stretches_by until end g (max (suc row) (until row))) → (t : Bool) → ltb row end ≡ t
          → cond t (suc (stretches_by until end f (max (suc row) (until row)))) 0 ≡ cond t (suc (stretches_by until end g (max (suc row) (until row)))) 0
      go rec true e = ap suc (rec (ltb-true row end e))
      go rec false e = refl

  -- a row's stretch, and those behind it
  pub one_more : (row u : ℕ) → row < end → row < u → u ≡ until row → stretches_of until end row ≡ suc (stretches_of until end u)
  unfolding stretches_by
  one_more row u l h e =
      let z : end - row ≡ suc (end - row - 1) = omega arith in
      let y : max (suc row) (until row) ≡ u = omega arith in
      ap (λ f. stretches_by until end f row) z
      ∙ rw (lt-ltb row end l, y) (ap suc (enough (end - row - 1) (end - u) u (omega arith) (omega arith)))

  pub none_left : (row : ℕ) → end ≤ row → stretches_of until end row ≡ 0
  unfolding stretches_by
  none_left row l = let z : end - row ≡ 0 = omega arith in ap (λ f. stretches_by until end f row) z

  -- a turn to the end of a row's stretch
  pub fewer : (row u stop : ℕ) → row < end → row < u → u ≡ until row → stop ≡ min u end → stretches_of until end stop < stretches_of until end row
  fewer row u stop l h e m = go (ltb u end) refl
    where
      go : (t : Bool) → ltb u end ≡ t → stretches_of until end stop < stretches_of until end row
      go true q =
          let y : stop ≡ u = omega (arith, ltb-true u end q) in
          omega (arith, one_more row u l h e, ap (stretches_of until end) y)
      go false q = omega (arith, one_more row u l h e, none_left stop (omega (arith, ltb-false u end q)))

  -- the stretch that a row has is the one that lasts, or the next
  found_one : (row u w : ℕ) → row < end → row ≤ u → row < w → w ≡ cond (ltb row u) u (until row) → stretches_from until end row u ≡ suc (stretches_of until end w)
  found_one row u w l h k = go (ltb row u) refl
    where
      go : (t : Bool) → ltb row u ≡ t → w ≡ cond t u (until row) → cond t 1 0 + stretches_of until end u ≡ suc (stretches_of until end w)
      go true q e = omega (arith, ap (stretches_of until end) e)
      go false q e =
          let y : u ≡ row = omega (arith, ltb-false row u q) in
          omega (arith, ap (stretches_of until end) y, one_more row w l k e)

  at_most : (stop w : ℕ) → stretches_from until end stop w ≤ suc (stretches_of until end w)
  at_most stop w = go (ltb stop w)
    where
      go : (t : Bool) → cond t 1 0 + stretches_of until end w ≤ suc (stretches_of until end w)
      go true = omega arith
      go false = omega arith

  passed : (stop w : ℕ) → w ≤ stop → stretches_from until end stop w ≡ stretches_of until end w
  passed stop w l = rw (le-ltb stop w l) (omega arith)

-- A TURN OVER BOTH leaves fewer
pub fewer_of_both : (f g : ℕ → ℕ) (end row stop u v w x m : ℕ) → row < end → row ≤ u → row ≤ v → row < w → row < x
    → w ≡ cond (ltb row u) u (f row) → x ≡ cond (ltb row v) v (g row) → m ≡ min w x → stop ≡ min m end → both_left f g end stop w x < both_left f g end row u v
unfolding both_left
fewer_of_both f g end row stop u v w x m l a b c d p q e h =
    rw (lt-ltb row end l) (go (ltb stop end) refl)
  where
    first : stretches_from f end row u ≡ suc (stretches_of f end w)
    first = found_one f end row u w l a c p

    second : stretches_from g end row v ≡ suc (stretches_of g end x)
    second = found_one g end row v x l b d q

    less : stop < end → (t : Bool) → ltb w x ≡ t → stretches_from f end stop w + stretches_from g end stop x < stretches_from f end row u + stretches_from g end row v
    less k true z = omega (arith, first, second, passed f end stop w (omega (arith, ltb-true w x z)), at_most g end stop x)
    less k false z = omega (arith, first, second, at_most f end stop w, passed g end stop x (omega (arith, ltb-false w x z)))

    go : (t : Bool) → ltb stop end ≡ t → cond t (stretches_from f end stop w + stretches_from g end stop x) 0 < stretches_from f end row u + stretches_from g end row v
    go true z = less (ltb-true stop end z) (ltb w x) refl
    go false z = omega (arith, first, second)

-- at the start no stretch lasts: at most those of both
pub both_at_most : (f g : ℕ → ℕ) (end start : ℕ) → both_left f g end start start start ≤ stretches_of f end start + stretches_of g end start
unfolding both_left
both_at_most f g end start = go (ltb start end)
  where
    go : (t : Bool) → cond t (stretches_from f end start start + stretches_from g end start start) 0 ≤ stretches_of f end start + stretches_of g end start
    go true = omega (arith, passed f end start start (omega arith), passed g end start start (omega arith))
    go false = omega arith
