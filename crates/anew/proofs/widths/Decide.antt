-- What decides: of offsets that never fall the last, of run ends the number of rows. Assumes nothing.
use mathlib.Core.Path.{◌≡◌, refl, ap, ◌∙◌}
use mathlib.Core.Bool.{Bool, true, false}
use mathlib.Core.List.{List, [], ◌∷◌, ◌++◌}
use Prim.Native.Nat.{ℕ, zero, suc, ◌+◌, ◌-◌, ◌≤◌, ◌<◌, min}
use native.Mathlib.Nat.{add-zero}
use native.Mathlib.Omega.{arith}
use lib.Dec.{ltb}
use borrow.Author.Tests.{ltb-true, ltb-false, le-ltb}
use Rattle.columnar.specs.Row.{seg}
use Rattle.columnar.specs.Array.{item}
use Rattle.columnar.specs.Plain.{OffsetsRule}
use Rattle.columnar.specs.RunEnd.{RunEnd, end_of, start_of}
use Rattle.model.specs.Try.{done, stop, then, guard}
use Rattle.model.proofs.Ends.{clip, in_order_lem, clip_ends}
use Rattle.anew.specs.widths.Converted.{span_of, offsets_of, first_of, many_of, ends_of}
use Rattle.anew.specs.widths.Fitting.{Demand, needs, tried}
use Rattle.anew.proofs.widths.Fits.{done_tried, fits_seg}
use Rattle.anew.proofs.widths.Plain.{above}

-- numbers one after another are tried one after another
pub tried_then : (l r : List Demand) → tried (l ++ r) ≡ then (tried l) (λ u. tried r)
tried_then [] r = refl
tried_then (x ∷ l) r = go (ltb x.number x.most) (tried_then l r)
  where
    go : (b : Bool) → tried (l ++ r) ≡ then (tried l) (λ u. tried r) → guard b x.refusal (tried (l ++ r)) ≡ then (guard b x.refusal (tried l)) (λ u. tried r)
    go true e = e
    go false e = refl

shift : (a i : ℕ) → suc a + i ≡ a + suc i
shift a i = omega arith

-- one that does not fit stops them
seg_stops : (g most : ℕ) (f : ℕ → ℕ) (a n i : ℕ) → i < n → most ≤ f (a + i) → tried (needs g most (seg f a n)) ≡ stop g
seg_stops g most f a zero i q h = absurd (omega arith)
seg_stops g most f a (suc n) zero q h = rw (le-ltb (f a) most (rw add-zero at h))
seg_stops g most f a (suc n) (suc i) q h = go (ltb (f a) most) (seg_stops g most f (suc a) n i (omega arith) (rw (shift a i) h))
  where
    go : (b : Bool) → tried (needs g most (seg f (suc a) n)) ≡ stop g → guard b g (tried (needs g most (seg f (suc a) n))) ≡ stop g
    go true e = e
    go false e = refl

-- where none is above one of them, that one decides
seg_decides : (g most : ℕ) (f : ℕ → ℕ) (a n i : ℕ) → i < n → ((j : ℕ) → j < n → f (a + j) ≤ f (a + i)) → tried (needs g most (seg f a n)) ≡ guard (ltb (f (a + i)) most) g (done tt)
seg_decides g most f a n i q h = go (ltb (f (a + i)) most) refl
  where
    go : (b : Bool) → ltb (f (a + i)) most ≡ b → tried (needs g most (seg f a n)) ≡ guard b g (done tt)
    go true e = done_tried (needs g most (seg f a n)) (fits_seg g most f a n (λ j r. omega (arith, h j r, ltb-true (f (a + i)) most e)))
    go false e = seg_stops g most f a n i q (ltb-false (f (a + i)) most e)

-- 6 IS DECIDED BY THE LAST OFFSET LESS THE FIRST
pub offsets_decide : (w : ℕ) (os : List ℕ) (most s n : ℕ) → OffsetsRule w os most s n → (limit : ℕ) → tried (needs 6 limit (offsets_of w os s n)) ≡ guard (ltb (span_of w os s n) limit) 6 (done tt)
offsets_decide w os most s n h limit =
    seg_decides 6 limit (λ i. item w os i - item w os s) s (suc n) n (omega arith) (λ j q. omega (arith, above w os most s n h j n (omega arith) (omega arith)))

-- 7 IS DECIDED BY THE NUMBER OF ROWS, where there are any
pub ends_decide : (w : ℕ) {P : Type 0} (b : RunEnd P) (s n : ℕ) → ((k : ℕ) → k < b.ends.len → start_of (end_of w b.ends) k < end_of w b.ends k)
    → s + suc n ≤ start_of (end_of w b.ends) b.ends.len → (limit : ℕ) → tried (needs 7 limit (ends_of w b s (suc n))) ≡ guard (ltb (suc n) limit) 7 (done tt)
ends_decide w b s n rises covers limit =
    go (many_of w b s (suc n)) refl
    (let z = in_order_lem (end_of w b.ends) b.ends.len s (suc n) rises (omega arith) covers in omega (arith, z))
    (clip_ends (end_of w b.ends) b.ends.len s (suc n) rises (omega arith) covers).covers
  where
    f : ℕ → ℕ
    f k = min (end_of w b.ends k) (s + suc n) - s

    first : ℕ
    first = first_of w b s (suc n)

    go : (m : ℕ) → many_of w b s (suc n) ≡ m → 0 < m → suc n ≡ start_of (clip (end_of w b.ends) b.ends.len s (suc n)) (many_of w b s (suc n))
        → tried (needs 7 limit (ends_of w b s (suc n))) ≡ guard (ltb (suc n) limit) 7 (done tt)
    go zero e q c = absurd (omega arith)
    go (suc m) e q c =
        let z : suc n ≡ f (first + m) = c ∙ ap (start_of (clip (end_of w b.ends) b.ends.len s (suc n))) e in
        ap (λ y. tried (needs 7 limit (seg (λ k. min (end_of w b.ends k) (s + suc n) - s) (first_of w b s (suc n)) y))) e
        ∙ seg_decides 7 limit (λ k. min (end_of w b.ends k) (s + suc n) - s) (first_of w b s (suc n)) (suc m) m (omega arith) (λ j r. omega (arith, z))
        ∙ ap (λ y. guard (ltb y limit) 7 (done tt)) (let y : min (end_of w b.ends (first_of w b s (suc n) + m)) (s + suc n) - s ≡ suc n = omega (arith, z) in y)
