-- `fractions::reduced` meets its contract. Assumes nothing.
use Rattle.std.proofs.Common.{◌≡◌, ℕ, ◌<◌, Bool, ℤ, nat_abs, sym, ap, ◌∙◌, subst, to_z-of_z}
use Rattle.aggregates.specs.declared.fractions.Fraction.{Fraction}
use Rattle.aggregates.specs.fractions.Lowest.{is_minus, differ, lowest_of, fraction_of}
use Rattle.aggregates.proofs.fractions.Terms.{magnitude_above}
use Rattle.aggregates.proofs.fractions.reduced.Goals as goal

-- a number that is read back is itself
joined : (n d n1 d1 n2 d2 : ℤ) (a b m : Bool) (p q : ℕ) (f : Fraction) → n1 ≡ n → d1 ≡ d → n2 ≡ n → d2 ≡ d → a ≡ is_minus n1 → b ≡ is_minus d1 → m ≡ differ a b
    → p ≡ nat_abs n2 → q ≡ nat_abs d2 → f ≡ lowest_of m p q → f ≡ fraction_of n d
joined n d n1 d1 n2 d2 a b m p q f e1 e2 e3 e4 ea eb em ep eq ef =
    let x : a ≡ is_minus n = ea ∙ ap is_minus e1 in
    let y : b ≡ is_minus d = eb ∙ ap is_minus e2 in
    let u : p ≡ nat_abs n = ep ∙ ap nat_abs e3 in
    let v : q ≡ nat_abs d = eq ∙ ap nat_abs e4 in
    ef ∙ rw (em, x, y, u, v)

pub lowest-requires : goal.lowest-requires
lowest-requires c =
    subst (λ k. 0 < k) (sym (c.magnitude-2.ensures.0 ∙ ap nat_abs (to_z-of_z c.ranges.d))) (magnitude_above c.args.d c.requires)

pub returns : goal.returns
returns c =
    joined c.args.n c.args.d _ _ _ _ _ _ _ _ _ _ (to_z-of_z c.ranges.n) (to_z-of_z c.ranges.d) (to_z-of_z c.ranges.n) (to_z-of_z c.ranges.d)
    c.is_minus.ensures
    c.is_minus-2.ensures
    c.is_other-minus.ensures
    c.magnitude.ensures.0
    c.magnitude-2.ensures.0
    c.lowest.ensures
