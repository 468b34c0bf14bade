-- `aggregates::ratio_of` meets its contract. Assumes nothing.
use Rattle.std.proofs.Common.{◌≡◌, true, ℤ, pos, negsuc, sym, ap, ◌∙◌, subst, ap₂, to_z-of_z, w64, SFits, to_z, of_z, ltb-true}
use Rattle.aggregates.specs.fractions.Lowest.{fraction_of}
use Rattle.aggregates.specs.tally.Sums.{fits}
use Rattle.aggregates.specs.Report.{is_zero}
use Rattle.aggregates.proofs.Answers.{total_out, total_in}
use Rattle.aggregates.proofs.Both.{ratio_first, ratio_second, ratio_none, ratio_done, zero_test}
use Rattle.aggregates.proofs.ratio_of.Goals as goal

its_fit : (z : ℤ) → fits z ≡ true → SFits w64 z
its_fit (pos n) h = record { sfits = ltb-true n 9223372036854775808 h }
its_fit (negsuc n) h = record { sfits = ltb-true n 9223372036854775808 h }

-- a sum that was found is read back as itself
read_back : (y z : ℤ) → fits z ≡ true → y ≡ z → to_z w64 (of_z w64 y) ≡ z
read_back y z h e = to_z-of_z (subst (SFits w64) (sym e) (its_fit z h)) ∙ e

-- zero by its bits
bits_zero : (y z : ℤ) → fits z ≡ true → y ≡ z → of_z w64 y ≡ 0 → z ≡ pos 0
bits_zero y z h e q = sym (read_back y z h e) ∙ ap (to_z w64) q

zero_bits : (y z : ℤ) → y ≡ z → z ≡ pos 0 → of_z w64 y ≡ 0
zero_bits y z e q = ap (of_z w64) (e ∙ q)

pub exact_sum-requires : goal.exact_sum-requires
exact_sum-requires c = c.requires.0

pub returns-in_default : goal.returns-in_default
returns-in_default c =
    ratio_first c.args.t.count _ _ (total_out _ (sym c.in_default.is ∙ c.exact_sum.ensures))

pub exact_sum-requires-2 : goal.exact_sum-requires-2
exact_sum-requires-2 c = c.requires.1

pub returns-in_default-exact_sum : goal.returns-in_default-exact_sum
returns-in_default-exact_sum c =
    ratio_second c.args.t.count _ _ (total_out _ (sym c.in_default-exact_sum.is ∙ c.exact_sum-2.ensures))

pub returns-then-second-eq0 : goal.returns-then-second-eq0
returns-then-second-eq0 c =
    let t = total_in c.in-Some.first _ (sym c.in-Some.is ∙ c.exact_sum.ensures) in
    let u = total_in c.in-Some-exact_sum.second _ (sym c.in-Some-exact_sum.is ∙ c.exact_sum-2.ensures) in
    ratio_none c.args.t.count _ _ t.0 u.0 (ap is_zero (bits_zero _ _ u.0 u.1 c.if-second-eq0.true))

pub reduced-f-requires : goal.reduced-f-requires
reduced-f-requires c =
    let u = total_in c.in-Some-exact_sum.second _ (sym c.in-Some-exact_sum.is ∙ c.exact_sum-2.ensures) in
    λ q. c.if-second-eq0.false (zero_bits _ _ u.1 (sym (read_back _ _ u.0 u.1) ∙ q))

pub returns : goal.returns
returns c =
    let t = total_in c.in-Some.first _ (sym c.in-Some.is ∙ c.exact_sum.ensures) in
    let u = total_in c.in-Some-exact_sum.second _ (sym c.in-Some-exact_sum.is ∙ c.exact_sum-2.ensures) in
    let back-y = read_back _ _ t.0 t.1 in
    let back-z = read_back _ _ u.0 u.1 in
    ratio_done c.args.t.count _ _ t.0 u.0 (zero_test _ (λ q. c.if-second-eq0.false (zero_bits _ _ u.1 q))) _ _ back-y back-z _ (c.reduced-f.ensures ∙ ap₂ fraction_of back-y back-z)
