-- ONE RUN FOR A GAP, where it is chosen: at a run-end node an accepted order of n nulls and then one of m are answered as one of n + m, and leave the
-- same run ends and values. Assumes nothing.
use mathlib.Core.Path.{◌≡◌, refl, sym, ap, ap₂, ◌∙◌}
use mathlib.Core.Bool.{Bool, true, false, cond}
use mathlib.Core.List.{List, ◌++◌}
use Prim.Native.Nat.{ℕ, suc, ◌+◌, ◌-◌, ◌*◌, ◌^◌, ◌≤◌, ◌<◌}
use native.Mathlib.Nat.{suc-mul, add_assoc}
use native.Mathlib.Numerals.{add-one}
use native.Mathlib.Omega.{arith}
use lib.ListN.{length, take}
use lib.Seq.{length-take-le, take_at}
use lib.Dec.{ltb, eqb}
use borrow.Author.Tests.{ltb-true, eqb-true, ne_eqb}
use Rattle.number.specs.Number.{encode}
use Rattle.columnar.specs.Types.{half}
use Rattle.columnar.specs.Array.{item}
use Rattle.columnar.specs.RunEnd.{start_of}
use Rattle.columnar.proofs.Items.{item_last}
use Rattle.model.specs.Try.{Try, done, then, guard}
use Rattle.model.specs.Mutable.{Mutable}
use Rattle.model.specs.Runs.{Runs, last_end, more_ends, over_end, runs_null}
use Rattle.model.proofs.Follow.{guard_done}
use Rattle.model.proofs.CutTries.{done_is, then_done}

half_le : (w : ℕ) → half w ≤ 256 ^ w
half_le w = omega arith

-- ---- the last end

module _ (w : ℕ) (x : Mutable (List ℕ)) (long : length x.«data» ≡ x.len * w) where
  -- behind the others
  last_more : (v : ℕ) → v < half w → last_end w (more_ends (encode w v) 1 x) ≡ v
  last_more v h = ap (start_of (item w (x.«data» ++ encode w v))) (add-one x.len) ∙ item_last w x.«data» x.len v long (omega (arith, half_le w))

  over_more : (u v : ℕ) → over_end w u (more_ends (encode w v) 1 x) ≡ more_ends (encode w u) 1 x
  over_more u v =
      let z : x.len + 1 - 1 ≡ x.len = omega arith in
      ap (λ s. record { len = x.len + 1; null_count = x.null_count; bits = x.bits; «data» = s ++ encode w u })
      (ap (λ k. take (k * w) (x.«data» ++ encode w v)) z ∙ take_at x.«data» (encode w v) (x.len * w) long)

  -- in place of one
  module _ (some : 0 < x.len) where
    abbrev q : ℕ
    q = x.len - 1

    abbrev front : List ℕ
    front = take (q * w) x.«data»

    len_is : suc q ≡ x.len
    len_is = omega arith

    front_long : length front ≡ q * w
    front_long =
        let e : x.len * w ≡ q * w + w = ap (◌* w) (sym len_is) ∙ suc-mul q w in
        length-take-le (q * w) x.«data» (omega (arith, e, long))

    last_over : (v : ℕ) → v < half w → last_end w (over_end w v x) ≡ v
    last_over v h = ap (start_of (item w (front ++ encode w v))) (sym len_is) ∙ item_last w front q v front_long (omega (arith, half_le w))

    over_over : (u v : ℕ) → over_end w u (over_end w v x) ≡ over_end w u x
    over_over u v =
        ap (λ s. record { len = x.len; null_count = x.null_count; bits = x.bits; «data» = s ++ encode w u }) (take_at front (encode w v) (q * w) front_long)

-- ---- two orders

module _ (w : ℕ) {D : Type 0} (fill : ℕ → Mutable D → Try (Mutable D)) (n m : ℕ) (d : Runs D) (long : length d.ends.«data» ≡ d.ends.len * w)
    (some : d.gap ≡ 2 → 0 < d.ends.len) where
  abbrev last : ℕ
  last = last_end w d.ends

  -- the last run is v rows long in all
  abbrev grown : ℕ → Try (Runs D)
  grown v = guard (ltb v (half w)) 7 (done (record { ends = over_end w v d.ends; values = d.values; gap = 2 }))

  abbrev added : ℕ → ℕ → Mutable D → Try (Runs D)
  added g v x = guard (ltb v (half w)) 7 (done (record { ends = more_ends (encode w v) 1 d.ends; values = x; gap = g }))

  -- one in the place of the other
  abbrev made : Mutable D → ℕ → Mutable (List ℕ) → Try (Runs D)
  made v a x = guard (ltb a (half w)) 7 (done (record { ends = x; values = v; gap = 2 }))

  whole : (x : Mutable (List ℕ)) (v : Mutable D) (a b : ℕ) (y : Mutable (List ℕ)) → a ≡ b → x ≡ y → made v a x ≡ made v b y
  whole x v a b y e f = ap₂ (made v) e f

  by_grown : (e : Runs D) → eqb d.gap 2 ≡ true → grown (last + n) ≡ done e → runs_null w fill m e ≡ runs_null w fill (n + m) d
  by_grown e h p =
      let g = guard_done (ltb (last + n) (half w)) 7 _ e p in
      let s = some (eqb-true d.gap 2 h) in
      let l = last_over w d.ends long s (last + n) (ltb-true _ _ g.0) in
      let z : last_end w (over_end w (last + n) d.ends) + m ≡ last + (n + m) = ap (◌+ m) l ∙ add_assoc last n m in
      ap (runs_null w fill m) (sym (done_is g.1))
      ∙ whole _ d.values _ _ _ z (ap (λ u. over_end w u (over_end w (last + n) d.ends)) z ∙ over_over w d.ends long s (last + (n + m)) (last + n))
      ∙ sym (ap (λ b. cond b (grown (last + (n + m))) (then (fill 1 d.values) (added (cond (eqb d.gap 0) 0 2) (last + (n + m))))) h)

  by_added : (e : Runs D) → eqb d.gap 2 ≡ false → eqb d.gap 0 ≡ false → then (fill 1 d.values) (added (cond (eqb d.gap 0) 0 2) (last + n)) ≡ done e
      → runs_null w fill m e ≡ runs_null w fill (n + m) d
  by_added e h o p =
      let t = then_done (fill 1 d.values) (added (cond (eqb d.gap 0) 0 2) (last + n)) e p in
      let g = guard_done (ltb (last + n) (half w)) 7 _ e t.rest_done in
      let l = last_more w d.ends long (last + n) (ltb-true _ _ g.0) in
      let z : last_end w (more_ends (encode w (last + n)) 1 d.ends) + m ≡ last + (n + m) = ap (◌+ m) l ∙ add_assoc last n m in
      let two : ◌≡◌ {A = ℕ} (cond (eqb d.gap 0) 0 2) 2 = ap (λ b. cond b 0 2) o in
      ap (runs_null w fill m) (sym (done_is g.1) ∙ ap (λ k. record { ends = more_ends (encode w (last + n)) 1 d.ends; values = t.first; gap = k }) two)
      ∙ whole _ t.first _ _ _ z (ap (λ u. over_end w u (more_ends (encode w (last + n)) 1 d.ends)) z ∙ over_more w d.ends long (last + (n + m)) (last + n))
      ∙ sym (ap (λ k. added k (last + (n + m)) t.first) two)
      ∙ sym (ap (λ a. then a (added (cond (eqb d.gap 0) 0 2) (last + (n + m)))) t.first_done)
      ∙ sym (ap (λ b. cond b (grown (last + (n + m))) (then (fill 1 d.values) (added (cond (eqb d.gap 0) 0 2) (last + (n + m))))) h)

  -- n NULLS AND THEN m ARE n + m
  pub nulls_together : (e : Runs D) → (d.gap ≡ 0 → ⊥) → runs_null w fill n d ≡ done e → runs_null w fill m e ≡ runs_null w fill (n + m) d
  nulls_together e on p = go (eqb d.gap 2) refl p
    where
      go : (b : Bool) → eqb d.gap 2 ≡ b → cond b (grown (last + n)) (then (fill 1 d.values) (added (cond (eqb d.gap 0) 0 2) (last + n))) ≡ done e
          → runs_null w fill m e ≡ runs_null w fill (n + m) d
      go true h p = by_grown e h p
      go false h p = by_added e h (ne_eqb d.gap 0 on) p
