-- `pattern_sums::sum_all` meets its contract. Assumes nothing.
use Rattle.std.proofs.Common.{◌≡◌, ◌+◌, ◌*◌, ◌≤◌, length, sym, subst}
use Rattle.aggregates.specs.patterns.Parts.{pattern_in, Added}
use Rattle.aggregates.proofs.patterns.sum_all.Goals as goal

pub add_all-requires : goal.add_all-requires
add_all-requires c =
    (c.requires.1, subst (λ w. c.args.at + c.args.n * w ≤ length c.args.body.now) c.in-1.is c.requires.2)

pub add_all-requires-in-2 : goal.add_all-requires-in-2
add_all-requires-in-2 c =
    (c.requires.1, subst (λ w. c.args.at + c.args.n * w ≤ length c.args.body.now) c.in-2.is c.requires.2)

pub add_all-requires-in-4 : goal.add_all-requires-in-4
add_all-requires-in-4 c =
    (c.requires.1, subst (λ w. c.args.at + c.args.n * w ≤ length c.args.body.now) c.in-4.is c.requires.2)

pub add_all-requires-in_default : goal.add_all-requires-in_default
add_all-requires-in_default c =
    (c.requires.1, subst (λ w. c.args.at + c.args.n * w ≤ length c.args.body.now) (let r = c.in_default.in_default-own.rest in (let fact : (c.args.w ≡ 1 → ⊥) → (c.args.w ≡ 2 → ⊥) → (c.args.w ≡ 4 → ⊥) → c.args.w ≡ 8 = c.requires.0 in fact) r.0.0.1 r.0.1 r.1) c.requires.2)

pub returns-in-1 : goal.returns-in-1
returns-in-1 c =
    subst (λ w. Added (pattern_in c.args.body.now c.args.at w) (λ i. 1) w c.args.n c.add_all.result) (sym c.in-1.is) c.add_all.ensures

pub returns-in-2 : goal.returns-in-2
returns-in-2 c =
    subst (λ w. Added (pattern_in c.args.body.now c.args.at w) (λ i. 1) w c.args.n c.add_all-in-2.result) (sym c.in-2.is) c.add_all-in-2.ensures

pub returns-in-4 : goal.returns-in-4
returns-in-4 c =
    subst (λ w. Added (pattern_in c.args.body.now c.args.at w) (λ i. 1) w c.args.n c.add_all-in-4.result) (sym c.in-4.is) c.add_all-in-4.ensures

pub returns-in_default : goal.returns-in_default
returns-in_default c =
    subst (λ w. Added (pattern_in c.args.body.now c.args.at w) (λ i. 1) w c.args.n c.add_all-in_default.result) (sym (let r = c.in_default.in_default-own.rest in (let fact : (c.args.w ≡ 1 → ⊥) → (c.args.w ≡ 2 → ⊥) → (c.args.w ≡ 4 → ⊥) → c.args.w ≡ 8 = c.requires.0 in fact) r.0.0.1 r.0.1 r.1)) c.add_all-in_default.ensures
