-- Parts whose last end is below the largest number rise. Assumes nothing.
use mathlib.Core.Path.{◌≡◌, refl, sym, subst, ◌∙◌}
use mathlib.Core.Bool.{Bool, true, false, cond, not, ◌&&◌}
use mathlib.Core.List.{List}
use Prim.Native.Nat.{ℕ, zero, suc, ◌+◌, ◌≤◌, ◌<◌, min}
use native.Mathlib.Numerals.{add-one}
use native.Mathlib.Omega.{arith}
use lib.Dec.{leb, ltb}
use borrow.Author.Tests.{le-leb, lt-leb, leb-true, ltb-true}
use Rattle.array_data.proofs.lent_tables.Laws.{no, yes}
use Rattle.columnar.specs.Test.{only_if}
use Rattle.walk.specs.State.{top, grown}
use Rattle.walk.specs.Log.{start_of}
use Rattle.plan.specs.parts.Parts.{nodes_of, has_part, size_of}
use Rattle.batch.specs.Rise.{behind, stop, rise_from, parts_rise}
use Rattle.batch.specs.batch_walk.Ends.{end_behind, end_from}

module _ (S P : List ℕ) where
  module _ (i b end : ℕ) where
    abbrev at : ℕ
    at = start_of S P i b

    pub end_none : {r : Bool} → r ≡ has_part S i b → not r ≡ true → end ≡ end_behind S P i b end
    unfolding end_behind
    end_none e h = rw (no e h) refl

    pub end_before : {r : Bool} {a : ℕ} → r ≡ has_part S i b → not r ≡ false → a ≡ at → a < end → top ≡ end_behind S P i b end
    unfolding end_behind
    end_before e h f l = rw (yes e h, lt-leb end at (subst (λ v. v < end) f l)) refl

    pub end_behind_lem : {r : Bool} {a z v : ℕ} → r ≡ has_part S i b → not r ≡ false → a ≡ at → end ≤ a → z ≡ size_of S P i b → v ≡ grown a z → v ≡ end_behind S P i b end
    unfolding end_behind grown
    end_behind_lem e h f l g q = rw (yes e h, le-leb end at (subst (λ v. end ≤ v) f l)) (rw (f, g) at q)

    -- an end below the largest number
    end_was : end_behind S P i b end < top → (behind S P i b end ≡ true) × (stop S P i b end ≡ end_behind S P i b end)
    unfolding end_behind
    end_was = go (has_part S i b) (leb end at) refl
      where
        go : (t u : Bool) → leb end at ≡ u → cond t (cond u (min (at + size_of S P i b) top) top) end < top
            → (only_if t u ≡ true) × (cond t (at + size_of S P i b) end ≡ cond t (cond u (min (at + size_of S P i b) top) top) end)
        go false true e h = (refl, refl)
        go false false e h = (refl, refl)
        go true true e h = (refl, omega arith)
        go true false e h = absurd (omega arith)

    end_more : end ≤ top → (end ≤ end_behind S P i b end) × (end_behind S P i b end ≤ top)
    unfolding end_behind
    end_more l = go (has_part S i b) (leb end at) refl
      where
        go : (t u : Bool) → leb end at ≡ u → (end ≤ cond t (cond u (min (at + size_of S P i b) top) top) end) × (cond t (cond u (min (at + size_of S P i b) top) top) end ≤ top)
        go false u e = (omega arith, omega arith)
        go true true e = let h = leb-true end at e in (omega arith, omega arith)
        go true false e = (omega arith, omega arith)

  pub from_step : (n i end : ℕ) {p e1 e2 e3 j : ℕ} → p ≡ suc n → e1 ≡ end_behind S P i 0 end → e2 ≡ end_behind S P i 1 e1 → e3 ≡ end_behind S P i 2 e2 → j ≡ i + 1 → end_from S P n j e3 ≡ end_from S P p i end
  unfolding end_from
  from_step n i end a b c d e = rw (a, d, c, b, e, add-one i) refl

  pub from_end : (i end : ℕ) {p : ℕ} → p ≡ 0 → end_from S P p i end ≡ end
  unfolding end_from
  from_end i end e = rw e refl

  from_more : (n i end : ℕ) → end ≤ top → end ≤ end_from S P n i end
  unfolding end_from
  from_more zero i end l = omega arith
  from_more (suc n) i end l =
      let a = end_more i 0 end l in
      let b = end_more i 1 (end_behind S P i 0 end) a.1 in
      let c = end_more i 2 (end_behind S P i 1 (end_behind S P i 0 end)) b.1 in
      let d = from_more n (suc i) (end_behind S P i 2 (end_behind S P i 1 (end_behind S P i 0 end))) c.1 in
      omega (arith, a.0, b.0, c.0, d)

  rises_from : (n i end : ℕ) → end ≤ top → end_from S P n i end < top → rise_from S P n i end ≡ true
  unfolding end_from rise_from
  rises_from zero i end l h = refl
  rises_from (suc n) i end l h =
      let e1 : ℕ = end_behind S P i 0 end in
      let e2 : ℕ = end_behind S P i 1 (end_behind S P i 0 end) in
      let e3 : ℕ = end_behind S P i 2 (end_behind S P i 1 (end_behind S P i 0 end)) in
      let a = end_more i 0 end l in
      let b = end_more i 1 (end_behind S P i 0 end) a.1 in
      let c = end_more i 2 (end_behind S P i 1 (end_behind S P i 0 end)) b.1 in
      let d = from_more n (suc i) (end_behind S P i 2 (end_behind S P i 1 (end_behind S P i 0 end))) c.1 in
      let p = end_was i 0 end (omega (arith, a.0, b.0, c.0, d)) in
      let q = end_was i 1 (end_behind S P i 0 end) (omega (arith, a.0, b.0, c.0, d)) in
      let r = end_was i 2 (end_behind S P i 1 (end_behind S P i 0 end)) (omega (arith, a.0, b.0, c.0, d)) in
      both p.0 p.1 q.0 q.1 r.0 r.1 (rises_from n (suc i) (end_behind S P i 2 (end_behind S P i 1 (end_behind S P i 0 end))) c.1 h)
    where
      both : behind S P i 0 end ≡ true → stop S P i 0 end ≡ end_behind S P i 0 end → behind S P i 1 (end_behind S P i 0 end) ≡ true → stop S P i 1 (end_behind S P i 0 end) ≡ end_behind S P i 1 (end_behind S P i 0 end)
          → behind S P i 2 (end_behind S P i 1 (end_behind S P i 0 end)) ≡ true → stop S P i 2 (end_behind S P i 1 (end_behind S P i 0 end)) ≡ end_behind S P i 2 (end_behind S P i 1 (end_behind S P i 0 end))
          → rise_from S P n (suc i) (end_behind S P i 2 (end_behind S P i 1 (end_behind S P i 0 end))) ≡ true
          → (behind S P i 0 end && (behind S P i 1 (stop S P i 0 end) && (behind S P i 2 (stop S P i 1 (stop S P i 0 end)) && rise_from S P n (suc i) (stop S P i 2 (stop S P i 1 (stop S P i 0 end)))))) ≡ true
      both p0 p1 q0 q1 r0 r1 rest = rw (p1, q1, r1, p0, q0, r0, rest) refl

  -- PARTS RISE
  pub rises : {r : Bool} → r ≡ ltb (end_from S P (nodes_of S) 0 0) top → r ≡ true → parts_rise S P ≡ true
  rises e h = rises_from (nodes_of S) 0 0 (omega arith) (ltb-true _ _ (sym e ∙ h))
