-- `pattern_sums::sum_some` meets its contract. Assumes nothing.
use Rattle.std.proofs.Common.{◌≡◌, sym, subst}
use Rattle.aggregates.specs.patterns.Parts.{bit_of, kept_in, Added}
use Rattle.aggregates.proofs.patterns.sum_some.Goals as goal

pub returns-in-1 : goal.returns-in-1
returns-in-1 c =
    subst (λ w. Added (kept_in c.args.body.now c.args.at w c.args.m) (bit_of c.args.m) w 64 c.add_some.result) (sym c.in-1.is) c.add_some.ensures

pub returns-in-2 : goal.returns-in-2
returns-in-2 c =
    subst (λ w. Added (kept_in c.args.body.now c.args.at w c.args.m) (bit_of c.args.m) w 64 c.add_some-in-2.result) (sym c.in-2.is) c.add_some-in-2.ensures

pub returns-in-4 : goal.returns-in-4
returns-in-4 c =
    subst (λ w. Added (kept_in c.args.body.now c.args.at w c.args.m) (bit_of c.args.m) w 64 c.add_some-in-4.result) (sym c.in-4.is) c.add_some-in-4.ensures

pub returns-in_default : goal.returns-in_default
returns-in_default c =
    subst (λ w. Added (kept_in c.args.body.now c.args.at w c.args.m) (bit_of c.args.m) w 64 c.add_some-in_default.result) (sym (let r = c.in_default.in_default-own.rest in (let fact : (c.args.w ≡ 1 → ⊥) → (c.args.w ≡ 2 → ⊥) → (c.args.w ≡ 4 → ⊥) → c.args.w ≡ 8 = c.requires.0 in fact) r.0.0.1 r.0.1 r.1)) c.add_some-in_default.ensures
