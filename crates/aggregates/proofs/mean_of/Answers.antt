-- `aggregates::mean_of` meets its contract. Assumes nothing.
use Rattle.std.proofs.Common.{◌≡◌, ℕ, ◌<◌, true, ℤ, pos, negsuc, sym, ◌∙◌, subst, ap₂, to_z-of_z, w64, SFits, to_z, ltb-true, lt-ltb}
use Rattle.aggregates.specs.fractions.Lowest.{fraction_of}
use Rattle.aggregates.specs.tally.Sums.{fits}
use Rattle.aggregates.proofs.Answers.{total_out, total_in, mean_outside, mean_none, mean_done}
use Rattle.aggregates.proofs.mean_of.Goals as goal

to_pos : (l : ℕ) → l < 9223372036854775808 → to_z w64 l ≡ pos l
to_pos l h = rw (lt-ltb l 9223372036854775808 h)

pos_by : {a b : ℕ} → pos a ≡ pos b → a ≡ b
pos_by e = cc

pub its_fit : (z : ℤ) → fits z ≡ true → SFits w64 z
its_fit (pos n) h = record { sfits = ltb-true n 9223372036854775808 h }
its_fit (negsuc n) h = record { sfits = ltb-true n 9223372036854775808 h }

pub returns-in_default : goal.returns-in_default
returns-in_default c =
    mean_outside c.args.t.count _ (total_out _ (sym c.in_default.is ∙ c.exact_sum.ensures))

pub returns-then-count-eq0 : goal.returns-then-count-eq0
returns-then-count-eq0 c =
    mean_none c.args.t.count _ (total_in _ _ (sym c.in-Some.is ∙ c.exact_sum.ensures)).0 c.if-count-eq0.true

pub reduced-f-requires : goal.reduced-f-requires
reduced-f-requires c =
    λ q. c.if-count-eq0.false (pos_by (sym (to_pos c.args.t.count c.requires.1) ∙ q))

pub returns : goal.returns
returns c =
    let t = total_in c.in-Some.sum _ (sym c.in-Some.is ∙ c.exact_sum.ensures) in
    let back = to_z-of_z (subst (SFits w64) (sym t.1) (its_fit _ t.0)) ∙ t.1 in
    mean_done c.args.t.count _ t.0 c.if-count-eq0.false _ back _ (c.reduced-f.ensures ∙ ap₂ fraction_of back (to_pos c.args.t.count c.requires.1))
