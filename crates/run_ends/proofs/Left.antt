-- "how many rows of the column, counting that one, still fall in the run": exactly these. Assumes nothing.
use mathlib.Core.Path.{◌≡◌, refl, sym, subst, ◌∙◌}
use mathlib.Core.Bool.{Bool, true, false, cond}
use mathlib.Core.List.{List}
use Prim.Native.Nat.{ℕ, ◌+◌, ◌≤◌, ◌<◌}
use native.Mathlib.Omega.{arith}
use lib.Dec.{ltb}
use borrow.Author.Tests.{lt-ltb, ltb-true}
use Rattle.number.specs.Number.{entry}
use Rattle.run_ends.specs.Lookup.{first, first_above, bisect, left_of, found_run, Climbs, Covers, Rising}
use Rattle.std.specs.Prelude.{Option, Some, None}
use Rattle.run_ends.specs.declared.RunRow.{RunRow}
use Rattle.run_ends.proofs.Search.{First, first_is, first_of_lem, climbs_le, quarter_first, covers_lt}

-- the `left` rows from x on are those of run k: at least x itself, none past the column, all in run k, and the next row in the next run
pub record Left (e : ℕ → ℕ) (n last x k left : ℕ) : Type 0 where
  pub some : 1 ≤ left
  pub within : x + left ≤ last
  pub inside : (i : ℕ) → i < left → first e n (x + i) ≡ k
  pub next : x + left < last → first e n (x + left) ≡ k + 1

module _ (e : ℕ → ℕ) (n last x : ℕ) (c : Climbs e n) (v : Covers e n last) (h : x < last) where
  abbrev Here : ℕ
  Here = first e n x

  here_below : Here < n
  here_below = covers_lt v h (first_is e n x)

  above : x < e Here
  above = (first_is e n x).above here_below

  -- a row further on that the run still holds
  holds : (i : ℕ) → i < left_of (e Here) last x → First e n (x + i) Here
  holds i l = record {
    within = omega (arith, here_below);
    before = λ k g. omega (arith, (first_is e n x).before k g);
    above = λ _. omega arith;
  }

  -- the row at which the run ends
  leaves : First e n (e Here) (Here + 1)
  leaves = record {
    within = omega (arith, here_below);
    before = λ k g. climbs_le c k Here (omega arith) here_below;
    above = λ g. c.rises Here g;
  }

  -- THE ROWS LEFT IN A RUN
  pub left_exact : Left e n last x Here (left_of (e Here) last x)
  left_exact = record {
    some = omega (arith, above);
    within = omega (arith, above);
    inside = λ i l. first_of_lem e n (x + i) (holds i l);
    next = λ l.
        let z : e Here ≡ x + left_of (e Here) last x = omega (arith, above) in
        first_of_lem e n (x + left_of (e Here) last x) (subst (λ (y : ℕ). First e n y (Here + 1)) z leaves);
  }

-- the same of what a lookup answers, over the width
pub found_left : (w : ℕ) (s : List ℕ) (from n last x : ℕ) → Rising w s from n → Covers (entry w s from) n last → x < last
    → (found_run w s from n last x ≡ Some (record { run = record { 0 = first_above w s from n x }; left = left_of (entry w s from (first_above w s from n x)) last x }))
    × Left (entry w s from) n last x (first_above w s from n x) (left_of (entry w s from (first_above w s from n x)) last x)
found_left w s from n last x r v h =
    let e = entry w s from in
    let b : first_above w s from n x < n = here_below e n last x r.climbs v h in
    let a : x < entry w s from (first_above w s from n x) = above e n last x r.climbs v h in
    (rw (quarter_first e n x r.climbs, lt-ltb (first_above w s from n x) n b, lt-ltb x (entry w s from (first_above w s from n x)) a), left_exact e n last x r.climbs v h)

-- ---- whatever the ends are

-- a run that is answered ends above the row, so that the row is counted where it stands before the last
pub found_some : (w : ℕ) (s : List ℕ) (from n last x : ℕ) {f : Option RunRow} {r : RunRow} → f ≡ found_run w s from n last x → f ≡ Some r → x < last
    → (1 ≤ r.left) × (x + r.left ≤ last)
found_some w s from n last x {f} {r} p q h = go (ltb (bisect w s from n x) n) (ltb x (entry w s from (bisect w s from n x))) refl (sym p ∙ q)
  where
    go : (t u : Bool) → ltb x (entry w s from (bisect w s from n x)) ≡ u
        → cond t (cond u (Some (record { run = record { 0 = bisect w s from n x }; left = left_of (entry w s from (bisect w s from n x)) last x })) None) None ≡ Some r
        → (1 ≤ r.left) × (x + r.left ≤ last)
    go true true g z =
        let a : x < entry w s from (bisect w s from n x) = ltb-true _ _ g in
        let y : r ≡ record { run = record { 0 = bisect w s from n x }; left = left_of (entry w s from (bisect w s from n x)) last x } = cc in
        rw y (omega arith, omega arith)
    go true false g z = absurd (let o : ◌≡◌ {A = ℕ} 0 1 = cc in omega arith)
    go false u g z = absurd (let o : ◌≡◌ {A = ℕ} 0 1 = cc in omega arith)
