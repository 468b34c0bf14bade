-- `run_coding::encode::count_by` meets its contract. Assumes nothing.
use mathlib.Core.Path.{◌≡◌, sym, subst}
use mathlib.Core.Bool.{Bool, true, false}
use Prim.Native.Nat.{ℕ, ◌-◌, ◌≤◌}
use lib.ListN.{length}
use Rattle.anew.specs.runs.Runs.{those}
use Rattle.coding.specs.run_coding.Rows.{Held, change_in}
use Rattle.coding.proofs.encode_rows.count_by.Goals.{Start}
use Rattle.coding.proofs.encode_rows.count_by.Goals as goal

sized : (c : Start) → (c.args.w ≡ 1 → ⊥) → (c.args.w ≡ 2 → ⊥) → (c.args.w ≡ 4 → ⊥) → c.args.w ≡ 8
sized c = c.requires.1.sized

whole : (c : Start) → (w : ℕ) (b : Bool) (y : ℕ) → c.args.w ≡ w → c.args.masked ≡ b → (y ≡ length (those (change_in c.args.body.now w b c.args.s.start c.args.s.mask c.args.s.bit) 0 (c.args.m - 1))) → (y ≡ length (those (change_in c.args.body.now c.args.w c.args.masked c.args.s.start c.args.s.mask c.args.s.bit) 0 (c.args.m - 1)))
whole c = λ w₁ b₁ y₁ e₁ f₁ g₁. subst (λ z. (y₁ ≡ length (those (change_in c.args.body.now c.args.w z c.args.s.start c.args.s.mask c.args.s.bit) 0 (c.args.m - 1)))) (sym f₁) (subst (λ z. (y₁ ≡ length (those (change_in c.args.body.now z b₁ c.args.s.start c.args.s.mask c.args.s.bit) 0 (c.args.m - 1)))) (sym e₁) g₁)

pub count_changes-requires : goal.count_changes-requires
count_changes-requires c =
    subst (λ w. ((1 ≤ c.args.m) × Held c.args.body.now w true c.args.s.start c.args.s.mask c.args.s.bit c.args.m)) c.in-1.is (subst (λ b. ((1 ≤ c.args.m) × Held c.args.body.now c.args.w b c.args.s.start c.args.s.mask c.args.s.bit c.args.m)) c.if-masked.true c.requires)

pub count_changes-requires-in-2 : goal.count_changes-requires-in-2
count_changes-requires-in-2 c =
    subst (λ w. ((1 ≤ c.args.m) × Held c.args.body.now w true c.args.s.start c.args.s.mask c.args.s.bit c.args.m)) c.in-2.is (subst (λ b. ((1 ≤ c.args.m) × Held c.args.body.now c.args.w b c.args.s.start c.args.s.mask c.args.s.bit c.args.m)) c.if-masked.true c.requires)

pub count_changes-requires-in-4 : goal.count_changes-requires-in-4
count_changes-requires-in-4 c =
    subst (λ w. ((1 ≤ c.args.m) × Held c.args.body.now w true c.args.s.start c.args.s.mask c.args.s.bit c.args.m)) c.in-4.is (subst (λ b. ((1 ≤ c.args.m) × Held c.args.body.now c.args.w b c.args.s.start c.args.s.mask c.args.s.bit c.args.m)) c.if-masked.true c.requires)

pub count_changes-requires-in_default : goal.count_changes-requires-in_default
count_changes-requires-in_default c =
    subst (λ w. ((1 ≤ c.args.m) × Held c.args.body.now w true c.args.s.start c.args.s.mask c.args.s.bit c.args.m)) (let r = c.in_default.in_default-own.rest in sized (goal.at.count_changes-requires-in_default c).Start r.0.0.1 r.0.1 r.1) (subst (λ b. ((1 ≤ c.args.m) × Held c.args.body.now c.args.w b c.args.s.start c.args.s.mask c.args.s.bit c.args.m)) c.if-masked.true c.requires)

pub returns-in-1 : goal.returns-in-1
returns-in-1 c =
    whole (goal.at.returns-in-1 c).Start 1 true c.count_changes.result c.in-1.is c.if-masked.true c.count_changes.ensures

pub returns-in-2 : goal.returns-in-2
returns-in-2 c =
    whole (goal.at.returns-in-2 c).Start 2 true c.count_changes-in-2.result c.in-2.is c.if-masked.true c.count_changes-in-2.ensures

pub returns-in-4 : goal.returns-in-4
returns-in-4 c =
    whole (goal.at.returns-in-4 c).Start 4 true c.count_changes-in-4.result c.in-4.is c.if-masked.true c.count_changes-in-4.ensures

pub returns-in_default : goal.returns-in_default
returns-in_default c =
    whole (goal.at.returns-in_default c).Start 8 true c.count_changes-in_default.result (let r = c.in_default.in_default-own.rest in sized (goal.at.returns-in_default c).Start r.0.0.1 r.0.1 r.1) c.if-masked.true c.count_changes-in_default.ensures

pub count_changes-requires-in-1-w : goal.count_changes-requires-in-1-w
count_changes-requires-in-1-w c =
    subst (λ w. ((1 ≤ c.args.m) × Held c.args.body.now w false c.args.s.start c.args.s.mask c.args.s.bit c.args.m)) c.in-1-w.is (subst (λ b. ((1 ≤ c.args.m) × Held c.args.body.now c.args.w b c.args.s.start c.args.s.mask c.args.s.bit c.args.m)) c.if-masked.false c.requires)

pub count_changes-requires-in-2-w : goal.count_changes-requires-in-2-w
count_changes-requires-in-2-w c =
    subst (λ w. ((1 ≤ c.args.m) × Held c.args.body.now w false c.args.s.start c.args.s.mask c.args.s.bit c.args.m)) c.in-2-w.is (subst (λ b. ((1 ≤ c.args.m) × Held c.args.body.now c.args.w b c.args.s.start c.args.s.mask c.args.s.bit c.args.m)) c.if-masked.false c.requires)

pub count_changes-requires-in-4-w : goal.count_changes-requires-in-4-w
count_changes-requires-in-4-w c =
    subst (λ w. ((1 ≤ c.args.m) × Held c.args.body.now w false c.args.s.start c.args.s.mask c.args.s.bit c.args.m)) c.in-4-w.is (subst (λ b. ((1 ≤ c.args.m) × Held c.args.body.now c.args.w b c.args.s.start c.args.s.mask c.args.s.bit c.args.m)) c.if-masked.false c.requires)

pub count_changes-requires-in_default-w : goal.count_changes-requires-in_default-w
count_changes-requires-in_default-w c =
    subst (λ w. ((1 ≤ c.args.m) × Held c.args.body.now w false c.args.s.start c.args.s.mask c.args.s.bit c.args.m)) (let r = c.in_default-w.in_default-w-own.rest in sized (goal.at.count_changes-requires-in_default-w c).Start r.0.0.1 r.0.1 r.1) (subst (λ b. ((1 ≤ c.args.m) × Held c.args.body.now c.args.w b c.args.s.start c.args.s.mask c.args.s.bit c.args.m)) c.if-masked.false c.requires)

pub returns-in-1-w : goal.returns-in-1-w
returns-in-1-w c =
    whole (goal.at.returns-in-1-w c).Start 1 false c.count_changes-in-1-w.result c.in-1-w.is c.if-masked.false c.count_changes-in-1-w.ensures

pub returns-in-2-w : goal.returns-in-2-w
returns-in-2-w c =
    whole (goal.at.returns-in-2-w c).Start 2 false c.count_changes-in-2-w.result c.in-2-w.is c.if-masked.false c.count_changes-in-2-w.ensures

pub returns-in-4-w : goal.returns-in-4-w
returns-in-4-w c =
    whole (goal.at.returns-in-4-w c).Start 4 false c.count_changes-in-4-w.result c.in-4-w.is c.if-masked.false c.count_changes-in-4-w.ensures

pub returns-in_default-w : goal.returns-in_default-w
returns-in_default-w c =
    whole (goal.at.returns-in_default-w c).Start 8 false c.count_changes-in_default-w.result (let r = c.in_default-w.in_default-w-own.rest in sized (goal.at.returns-in_default-w c).Start r.0.0.1 r.0.1 r.1) c.if-masked.false c.count_changes-in_default-w.ensures
