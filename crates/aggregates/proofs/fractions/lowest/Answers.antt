-- `fractions::lowest` meets its contract. Assumes nothing.
use Rattle.std.proofs.Common.{◌≡◌, ℕ, ◌/◌, ◌<◌, Bool, false, sym, subst, eq-eqb, ne_eqb}
use Rattle.aggregates.specs.fractions.Lowest.{gcd_of, lowest_of}
use Rattle.aggregates.proofs.fractions.Euclid.{greatest}
use Rattle.aggregates.proofs.fractions.Terms.{divisor}
use Rattle.aggregates.proofs.fractions.lowest.Goals as goal

module _ (minus : Bool) (n d g : ℕ) (e : g ≡ gcd_of n d) where
  above : 0 < d → 0 < g
  above h = subst (λ k. 0 < k) (sym e) (divisor n d (gcd_of n d) h (greatest n d))

  none : n ≡ 0 → record { minus = false; over = n / g; under = d / g } ≡ lowest_of minus n d
  unfolding lowest_of
  none h = rw (eq-eqb n 0 h, e)

  some : (n ≡ 0 → ⊥) → record { minus = minus; over = n / g; under = d / g } ≡ lowest_of minus n d
  unfolding lowest_of
  some h = rw (ne_eqb n 0 h, e)

pub nonzero_div-over : goal.nonzero_div-over
nonzero_div-over c = above c.args.minus _ _ _ c.gcd-g.ensures c.requires

pub nonzero_div-under : goal.nonzero_div-under
nonzero_div-under c = above c.args.minus _ _ _ c.gcd-g.ensures c.requires

pub returns-then-n-eq0 : goal.returns-then-n-eq0
returns-then-n-eq0 c = none c.args.minus _ _ _ c.gcd-g.ensures c.if-n-eq0.true

pub returns : goal.returns
returns c = some c.args.minus _ _ _ c.gcd-g.ensures c.if-n-eq0.false
