-- At most four offsets that never fall. Assumes nothing.
use mathlib.Core.Path.{◌≡◌, refl, ap, ◌∙◌}
use mathlib.Core.Bool.{Bool, true, false}
use mathlib.Core.List.{List}
use Prim.Native.Nat.{ℕ, ◌+◌, ◌≤◌, ◌<◌, min}
use native.Mathlib.Omega.{arith}
use lib.Dec.{eqb}
use borrow.Author.Tests.{eqb-true, eqb-false}
use Rattle.number.specs.Number.{entry}
use Rattle.batch.specs.Stretch.{never_falls}
use Rattle.batch.proofs.batch_walk.TextLeaf.{falls_none, falls_more, falls_now}

module _ (w : ℕ) (s : List ℕ) (from n : ℕ) (few : n ≤ 3) {i l o : ℕ} (f : l ≡ entry w s from 0) (is-i : i ≡ min n 1) (g : o ≡ entry w s from i) where
  pub few_one : o < l → false ≡ never_falls w s from n
  few_one h = go (eqb n 0) refl
    where
      go : (u : Bool) → eqb n 0 ≡ u → false ≡ never_falls w s from n
      go true q = let z = eqb-true n 0 q in let y : i ≡ 0 = omega arith in let p : o ≡ entry w s from 0 = g ∙ ap (λ q. entry w s from q) y in absurd (omega arith)
      go false q = let z = eqb-false n 0 q in let y : i ≡ 0 + 1 = omega arith in falls_now w s from 0 n (omega arith) f (g ∙ ap (λ q. entry w s from q) y) h

  module _ {j t : ℕ} (is-j : j ≡ min n 2) (h : t ≡ entry w s from j) where
    pub few_two : t < o → false ≡ never_falls w s from n
    few_two d = go (eqb j i) refl
      where
        go : (u : Bool) → eqb j i ≡ u → false ≡ never_falls w s from n
        go true q = let z = eqb-true j i q in let p : t ≡ entry w s from i = h ∙ ap (λ q. entry w s from q) z in absurd (omega arith)
        go false q =
            let z = eqb-false j i q in
            let y : i ≡ 1 = omega arith in
            let y2 : j ≡ 1 + 1 = omega arith in
            falls_now w s from 1 n (omega arith) (g ∙ ap (λ q. entry w s from q) y) (h ∙ ap (λ q. entry w s from q) y2) d

    module _ {e : ℕ} (k : e ≡ entry w s from n) where
      pub few_three : e < t → false ≡ never_falls w s from n
      few_three d = go (eqb n j) refl
        where
          go : (u : Bool) → eqb n j ≡ u → false ≡ never_falls w s from n
          go true q = let z = eqb-true n j q in let p : e ≡ entry w s from j = k ∙ ap (λ q. entry w s from q) z in absurd (omega arith)
          go false q =
              let z = eqb-false n j q in
              let y : j ≡ 2 = omega arith in
              let y2 : n ≡ 2 + 1 = omega arith in
              falls_now w s from 2 n (omega arith) (h ∙ ap (λ q. entry w s from q) y) (k ∙ ap (λ q. entry w s from q) y2) d

      pub few_all : l ≤ o → o ≤ t → t ≤ e → true ≡ never_falls w s from n
      few_all a b d = go (eqb n 0) refl (eqb n 1) refl (eqb n 2) refl
        where
          one : 1 ≤ n → true ≡ never_falls w s from (0 + 1)
          one p = let y : i ≡ 0 + 1 = omega arith in falls_more w s from 0 (falls_none w s from) f (g ∙ ap (λ q. entry w s from q) y) a

          two : 2 ≤ n → true ≡ never_falls w s from (1 + 1)
          two p = let y : i ≡ 1 = omega arith in let y2 : j ≡ 1 + 1 = omega arith in falls_more w s from 1 (one (omega arith)) (g ∙ ap (λ q. entry w s from q) y) (h ∙ ap (λ q. entry w s from q) y2) b

          go : (u : Bool) → eqb n 0 ≡ u → (v : Bool) → eqb n 1 ≡ v → (x : Bool) → eqb n 2 ≡ x → true ≡ never_falls w s from n
          go true q v r x m = let z = eqb-true n 0 q in rw z (falls_none w s from)
          go false q true r x m = let z = eqb-true n 1 r in rw z (one (omega arith))
          go false q false r true m = let z = eqb-true n 2 m in rw z (two (omega arith))
          go false q false r false m =
              let z0 = eqb-false n 0 q in
              let z1 = eqb-false n 1 r in
              let z2 = eqb-false n 2 m in
              let z : n ≡ 2 + 1 = omega arith in
              let y : j ≡ 2 = omega arith in
              rw z (falls_more w s from 2 (two (omega arith)) (h ∙ ap (λ q. entry w s from q) y) (k ∙ ap (λ q. entry w s from q) z) d)
