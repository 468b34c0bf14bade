-- The Rust's `build_extend_arrays` adds what the functions of this crate add, and overflows where they refuse. Assumes nothing.
use mathlib.Core.Path.{◌≡◌, refl, ◌∙◌}
use mathlib.Core.Bool.{Bool, true, false, cond}
use mathlib.Core.Logic.{⊎_elim}
use Prim.Native.Nat.{ℕ, zero, suc, ◌+◌, ◌*◌, ◌-◌, ◌/◌, ◌^◌, ◌≤◌, ◌<◌}
use native.Mathlib.Nat.{eq-or-lt_of_le, mul-add, add_assoc, add-zero}
use native.Mathlib.Numerals.{add-one}
use native.Mathlib.Omega.{arith}
use mathlib.Core.List.{List, [], ◌++◌}
use lib.Dec.{ltb, leb}
use borrow.Author.Tests.{ltb-false, leb-true, leb-false, lt-ltb, le-ltb, le-leb, lt-leb}
use Rattle.number.specs.Number.{entry, encode}
use Rattle.run_ends.specs.Lookup.{first_above, Climbs, Covers, format_run, Rising, runs_between}
use Rattle.run_ends.specs.Clip.{clip, clipped}
use Rattle.run_ends.specs.copies.Extend.{ValuesRange, none, some, Extended, ok, overflow, branches, extend_loop, extend_arrays, added}
use Rattle.std.specs.Prelude.{Some}
use Rattle.run_ends.proofs.Search.{First, first_is, climbs_lt, climbs_le, covers_lt}

-- ---- the three branches

module _ (w start end last i x prev : ℕ) (bytes : List ℕ) (next : ℕ → List ℕ → ValuesRange → Extended) where
  -- the sum where it fits
  abbrev Sum : ℕ → (ℕ → Extended) → Extended
  Sum c f = cond (ltb c (256 ^ w / 2)) (f c) overflow

  -- a run that ends before the range
  at_before : (c : ℕ) (v : ValuesRange) → prev < x → x ≤ start → start < end → branches w start end i x prev c bytes v next ≡ next c bytes v
  unfolding branches
  at_before c v h g l =
      rw (le-leb prev start (omega arith), le-ltb start x g, lt-leb start prev (omega arith), lt-ltb prev end (omega arith), lt-leb end x (omega arith))

  -- the run of the first row
  at_first : (v : ValuesRange) → prev ≤ start → start < x → start < end
      → branches w start end i x prev last bytes v next ≡ Sum (last + clip x start end) (λ c. next c (bytes ++ encode w c) (some i (suc i)))
  unfolding branches
  at_first v h g l = rw (le-leb prev start h, lt-ltb start x g) (go (leb end x) refl)
    where
      go : (t : Bool) → leb end x ≡ t
          → Sum (last + (cond t (end - prev) (x - prev) - (start - prev))) (λ c. next c (bytes ++ encode w c) (some i (suc i)))
          ≡ Sum (last + clip x start end) (λ c. next c (bytes ++ encode w c) (some i (suc i)))
      go true p =
          let m : end ≤ x = leb-true end x p in
          let e : end - prev - (start - prev) ≡ clip x start end = omega arith in rw e
      go false p =
          let m : x < end = leb-false end x p in
          let e : x - prev - (start - prev) ≡ clip x start end = omega arith in rw e

  module _ (a k : ℕ) (h : start < prev) where
    -- a later run that ends in the range
    at_inside : prev < x → x ≤ end
        → branches w start end i x prev (last + (prev - start)) bytes (some a k) next
        ≡ Sum (last + (x - start)) (λ c. next c (bytes ++ encode w c) (some a (suc i)))
    unfolding branches
    at_inside g l =
        let e : last + (prev - start) + (x - prev) ≡ last + (x - start) = omega arith in
        rw (lt-leb prev start h, le-leb start prev (omega arith), le-leb x end l, e)

    -- a later run that ends behind the range
    at_behind : prev < end → end < x
        → branches w start end i x prev (last + (prev - start)) bytes (some a k) next
        ≡ Sum (last + (end - start)) (λ c. ok (bytes ++ encode w c) (some a (suc i)))
    unfolding branches
    at_behind g l =
        let e : last + (prev - start) + (end - prev) ≡ last + (end - start) = omega arith in
        rw (lt-leb prev start h, le-leb start prev (omega arith), lt-leb x end l, lt-ltb prev end g, le-leb end x (omega arith), e)

-- ---- the loop

-- a sum that fits only where a later one does not matter
join : (w u v : ℕ) (x : Extended) → v ≤ u
    → cond (ltb v (256 ^ w / 2)) (cond (ltb u (256 ^ w / 2)) x overflow) overflow ≡ cond (ltb u (256 ^ w / 2)) x overflow
join w u v x h = go (ltb v (256 ^ w / 2)) refl
  where
    go : (t : Bool) → ltb v (256 ^ w / 2) ≡ t
        → cond t (cond (ltb u (256 ^ w / 2)) x overflow) overflow ≡ cond (ltb u (256 ^ w / 2)) x overflow
    go true p = refl
    go false p = let g : 256 ^ w / 2 ≤ v = ltb-false _ _ p in rw (le-ltb u (256 ^ w / 2) (omega arith))

pub entry_shift : (w : ℕ) (s : List ℕ) (from a j : ℕ) → entry w s (from + w * a) j ≡ entry w s from (a + j)
entry_shift w s from a j = rw (mul-add w a j, ← add_assoc)

module _ (w : ℕ) (s : List ℕ) (from n start end last a b : ℕ) where
  abbrev E : ℕ → ℕ
  E k = entry w s from k

  abbrev Ends : ℕ → List ℕ
  Ends j = clipped w s (from + w * a) j start end last

  -- what the loop answers
  abbrev Final : Extended
  Final = cond (ltb (last + (end - start)) (256 ^ w / 2)) (ok (Ends (suc (b - a))) (some a (suc b))) overflow

  ends_step : (j : ℕ) → Ends j ++ encode w (last + clip (E (a + j)) start end) ≡ Ends (suc j)
  unfolding clipped
  ends_step j = rw (← entry_shift w s from a j)

  module _ (climbs : Climbs (entry w s from) n) (l : start < end) (fa : First (entry w s from) n start a) (fb : First (entry w s from) n (end - 1) b) (an : a < n) (bn : b < n) where
    first_lt : start < E a
    first_lt = fa.above an

    last_le : end ≤ E b
    last_le = omega (arith, fb.above bn)

    before_last : (k : ℕ) → k < b → E k < end
    before_last k h = omega (arith, fb.before k h)

    pub first_le_last : a ≤ b
    first_le_last = let p : b < a → ⊥ = λ h. omega (arith, fa.before b h, last_le) in omega arith

    last_ends : (j : ℕ) → a + j ≡ b → Ends j ++ encode w (last + (end - start)) ≡ Ends (suc (b - a))
    last_ends j h =
        let e : clip (E (a + j)) start end ≡ end - start = rw h (omega (arith, last_le)) in
        let i : b - a ≡ j = omega arith in
        rw (i, ← e) (ends_step j)

    -- the last run
    at_last : (left p j : ℕ) → suc p ≡ b → a + j ≡ b → a ≤ p
        → extend_loop w (entry w s from) start end (suc left) b (E p) (last + (E p - start)) (Ends j) (some a b) ≡ Final
    unfolding extend_loop
    at_last left p j q t m =
        let u : start < E p = omega (arith, first_lt, climbs_le climbs a p m (omega arith)) in
        let v : E p < end = before_last p (omega arith) in
        let x : end ≤ E b = last_le in
        ⊎_elim
        (λ (y : end ≡ E b).
        let z : E b - start ≡ end - start = omega arith in
        at_inside w start end last b (E b) (E p) (Ends j) _ a b u (omega arith) (omega arith) ∙ rw (z, le-leb end (E b) x, last_ends j t))
        (λ (y : end < E b). at_behind w start end last b (E b) (E p) (Ends j) _ a b u v y ∙ rw (last_ends j t))
        (eq-or-lt_of_le x)

    -- after the first run, each that follows
    on : (d left p j : ℕ) → suc p + left ≡ n → suc p + d ≡ b → a + j ≡ suc p → a ≤ p
        → extend_loop w (entry w s from) start end left (suc p) (E p) (last + (E p - start)) (Ends j) (some a (suc p)) ≡ Final
    unfolding extend_loop
    on d zero p j h q t m = absurd (omega arith)
    on zero (suc left) p j h q t m =
        let z : suc p ≡ b = omega arith in rw z (at_last left p j z (omega arith) m)
    on (suc d) (suc left) p j h q t m =
        let u : start < E p = omega (arith, first_lt, climbs_le climbs a p m (omega arith)) in
        let v : E (suc p) < end = before_last (suc p) (omega arith) in
        let y : E p < E (suc p) = climbs_lt climbs p (suc p) (omega arith) (omega arith) in
        let k : clip (E (suc p)) start end ≡ E (suc p) - start = omega arith in
        let g : Ends j ++ encode w (last + (E (suc p) - start)) ≡ Ends (suc j) = rw (← k) (rw t at (ends_step j)) in
        at_inside w start end last (suc p) (E (suc p)) (E p) (Ends j) _ a (suc p) u y (omega arith) ∙
        rw (lt-leb end (E (suc p)) v, g, on d left (suc p) (suc j) (omega arith) (omega arith) (omega arith) (omega arith)) (join w _ _ _ (omega arith))

    -- the run of the first row
    from_first : (d left prev : ℕ) (v : ValuesRange) → a + suc left ≡ n → a + d ≡ b → prev ≤ start
        → extend_loop w (entry w s from) start end (suc left) a prev last (Ends 0) v ≡ Final
    unfolding extend_loop
    from_first zero left prev v h q m =
        let x : end ≤ E a = let z : a ≡ b = omega arith in rw z last_le in
        let k : clip (E a) start end ≡ end - start = omega arith in
        let z : b ≡ a = omega arith in
        at_first w start end last a (E a) prev (Ends 0) _ v m first_lt l ∙ rw (k, le-leb end (E a) x, last_ends 0 (omega arith), z)
    from_first (suc d) left prev v h q m =
        let x : E a < end = before_last a (omega arith) in
        let y : start < E a = first_lt in
        let k : clip (E a) start end ≡ E a - start = omega arith in
        let g : Ends 0 ++ encode w (last + (E a - start)) ≡ Ends 1 = rw (← k) (rw add-zero at (ends_step 0)) in
        at_first w start end last a (E a) prev (Ends 0) _ v m y l ∙
        rw (k, lt-leb end (E a) x, g, on d left a 1 (omega arith) (omega arith) (omega arith) (omega arith)) (join w _ _ _ (omega arith))

    -- the runs before it
    from_before : (d left i prev : ℕ) (v : ValuesRange) → i + left ≡ n → i + d ≡ a → prev ≤ start → prev < E i
        → extend_loop w (entry w s from) start end left i prev last (Ends 0) v ≡ Final
    unfolding extend_loop
    from_before d zero i prev v h q m g = absurd (omega arith)
    from_before zero (suc left) i prev v h q m g =
        let z : i ≡ a = omega arith in rw z (from_first (b - a) left prev v (omega arith) (omega (arith, first_le_last)) m)
    from_before (suc d) (suc left) i prev v h q m g =
        let x : E i ≤ start = fa.before i (omega arith) in
        at_before w start end last i (E i) prev (Ends 0) _ last v g x l ∙
        rw (lt-leb end (E i) (omega arith))
        (from_before d left (suc i) (E i) v (omega arith) (omega arith) x (climbs_lt climbs i (suc i) (omega arith) (omega arith)))

module _ (w : ℕ) (s : List ℕ) (from n start end : ℕ) (climbs : Climbs (entry w s from) n) (l : start < end) (covers : Covers (entry w s from) n end) where
  abbrev A : ℕ
  A = first_above w s from n start

  abbrev B : ℕ
  B = first_above w s from n (end - 1)

  a_is : First (entry w s from) n start A
  a_is = first_is (entry w s from) n start

  b_is : First (entry w s from) n (end - 1) B
  b_is = first_is (entry w s from) n (end - 1)

  pub first_below : A < n
  first_below = covers_lt covers l a_is

  pub last_below : B < n
  last_below = covers_lt covers (omega arith) b_is

  pub first_last : A ≤ B
  first_last = first_le_last w s from n start end 0 A B climbs l a_is b_is first_below last_below

  -- the runs of a range that the run ends cover
  pub range_is : runs_between (format_run w s from n end) start end ≡ Some (record { first = record { 0 = A }; count = B - A + 1 })
  range_is = rw (lt-ltb start end l, lt-ltb A n first_below, lt-ltb start (entry w s from A) (a_is.above first_below), lt-ltb B n last_below, lt-ltb (end - 1) (entry w s from B) (b_is.above last_below), le-ltb B A first_last)

  extend_final : (last : ℕ) → extend_loop w (entry w s from) start end n 0 0 last [] none ≡ Final w s from n start end last A B
  unfolding clipped
  extend_final last =
      from_before w s from n start end last A B climbs l a_is b_is first_below last_below A n 0 0 none (omega arith) (omega arith) (omega arith) (climbs.start (omega (arith, first_below)))

  pub extend_is : (last : ℕ) → extend_loop w (entry w s from) start end n 0 0 last [] none
      ≡ added w s from start end last (runs_between (format_run w s from n end) start end)
  extend_is last =
      let e : A + suc (B - A) ≡ suc B = omega (arith, first_last) in
      rw (range_is, add-one, e) (extend_final last)

-- where the run ends rise and cover the range, the Rust adds the clipped run ends and the values of the range's runs, and overflows exactly
-- where the last new run end does not fit
pub extend_arrays_lem : (w : ℕ) (s : List ℕ) (from n start len last : ℕ) → Rising w s from n → 0 < len → Covers (entry w s from) n (start + len)
    → extend_arrays w s from n start len last
    ≡ added w s from start (start + len) last (runs_between (format_run w s from n (start + len)) start (start + len))
extend_arrays_lem w s from n start len last r h v = extend_is w s from n start (start + len) r.climbs (omega arith) v last
