-- `run_coding::expand::write_rows` meets its contract. Assumes nothing.
use mathlib.Core.Path.{◌≡◌, refl, sym, subst}
use mathlib.Core.Bool.{Bool, true, false}
use mathlib.Core.List.{List}
use Prim.Native.Nat.{ℕ}
use lib.ListN.{length}
use Rattle.coding.specs.run_coding.Rows.{Held}
use Rattle.coding.specs.run_coding.Writes.{Holds, Ends, rows_from}
use Rattle.coding.proofs.expand_rows.write_rows.Goals.{Start}
use Rattle.coding.proofs.expand_rows.write_rows.Goals as goal

given : (c : Start) → (w : ℕ) (b : Bool) (e : ℕ) → c.args.w ≡ w → c.args.masked ≡ b → c.args.e ≡ e → ((Ends c.args.body.now e c.args.ends c.args.run c.args.x c.args.m c.args.count × Held c.args.body.now w b c.args.s.start c.args.s.mask c.args.s.bit c.args.count) × Holds w b c.args.t.values c.args.t.mask (length c.args.room.now) c.args.m)
given c = λ w₁ b₁ e₁ p₁ q₁ r₁. subst (λ z. ((Ends c.args.body.now e₁ c.args.ends c.args.run c.args.x c.args.m c.args.count × Held c.args.body.now z b₁ c.args.s.start c.args.s.mask c.args.s.bit c.args.count) × Holds z b₁ c.args.t.values c.args.t.mask (length c.args.room.now) c.args.m)) p₁ (subst (λ z. ((Ends c.args.body.now e₁ c.args.ends c.args.run c.args.x c.args.m c.args.count × Held c.args.body.now c.args.w z c.args.s.start c.args.s.mask c.args.s.bit c.args.count) × Holds c.args.w z c.args.t.values c.args.t.mask (length c.args.room.now) c.args.m)) q₁ (subst (λ z. ((Ends c.args.body.now z c.args.ends c.args.run c.args.x c.args.m c.args.count × Held c.args.body.now c.args.w c.args.masked c.args.s.start c.args.s.mask c.args.s.bit c.args.count) × Holds c.args.w c.args.masked c.args.t.values c.args.t.mask (length c.args.room.now) c.args.m)) r₁ (c.requires.ends, c.requires.holds)))

sized : (c : Start) → (c.args.w ≡ 1 → ⊥) → (c.args.w ≡ 2 → ⊥) → (c.args.w ≡ 4 → ⊥) → c.args.w ≡ 8
sized c = c.requires.ends.1.sized

whole : (c : Start) → (w : ℕ) (b : Bool) (e : ℕ) (y : List ℕ) → c.args.w ≡ w → c.args.masked ≡ b → c.args.e ≡ e → (y ≡ rows_from c.args.body.now w b c.args.s.start c.args.s.mask c.args.s.bit e c.args.ends c.args.x c.args.m c.args.t.values c.args.t.mask c.args.m 0 c.args.run c.args.room.now) → (y ≡ rows_from c.args.body.now c.args.w c.args.masked c.args.s.start c.args.s.mask c.args.s.bit c.args.e c.args.ends c.args.x c.args.m c.args.t.values c.args.t.mask c.args.m 0 c.args.run c.args.room.now)
whole c = λ w₁ b₁ e₁ y₁ p₁ q₁ r₁ g₁. subst (λ z. (y₁ ≡ rows_from c.args.body.now c.args.w c.args.masked c.args.s.start c.args.s.mask c.args.s.bit z c.args.ends c.args.x c.args.m c.args.t.values c.args.t.mask c.args.m 0 c.args.run c.args.room.now)) (sym r₁) (subst (λ z. (y₁ ≡ rows_from c.args.body.now c.args.w z c.args.s.start c.args.s.mask c.args.s.bit e₁ c.args.ends c.args.x c.args.m c.args.t.values c.args.t.mask c.args.m 0 c.args.run c.args.room.now)) (sym q₁) (subst (λ z. (y₁ ≡ rows_from c.args.body.now z b₁ c.args.s.start c.args.s.mask c.args.s.bit e₁ c.args.ends c.args.x c.args.m c.args.t.values c.args.t.mask c.args.m 0 c.args.run c.args.room.now)) (sym p₁) g₁))

pub write_each-requires : goal.write_each-requires
write_each-requires c =
    let both = given (goal.at.write_each-requires c).Start 1 true c.args.e c.in-1.is c.if-masked.true refl in record { ends = both.0; holds = both.1 }

pub write_each-requires-in-2 : goal.write_each-requires-in-2
write_each-requires-in-2 c =
    let both = given (goal.at.write_each-requires-in-2 c).Start 2 true c.args.e c.in-2.is c.if-masked.true refl in record { ends = both.0; holds = both.1 }

pub write_each-requires-in-4 : goal.write_each-requires-in-4
write_each-requires-in-4 c =
    let both = given (goal.at.write_each-requires-in-4 c).Start 4 true c.args.e c.in-4.is c.if-masked.true refl in record { ends = both.0; holds = both.1 }

pub write_each-requires-in_default : goal.write_each-requires-in_default
write_each-requires-in_default c =
    let both = given (goal.at.write_each-requires-in_default c).Start 8 true c.args.e (let r = c.in_default.in_default-own.rest in sized (goal.at.write_each-requires-in_default c).Start r.0.0.1 r.0.1 r.1) c.if-masked.true refl in record { ends = both.0; holds = both.1 }

pub returns-in-1 : goal.returns-in-1
returns-in-1 c =
    whole (goal.at.returns-in-1 c).Start 1 true c.args.e c.write_each.new.room c.in-1.is c.if-masked.true refl c.write_each.ensures

pub returns-in-2 : goal.returns-in-2
returns-in-2 c =
    whole (goal.at.returns-in-2 c).Start 2 true c.args.e c.write_each-in-2.new.room c.in-2.is c.if-masked.true refl c.write_each-in-2.ensures

pub returns-in-4 : goal.returns-in-4
returns-in-4 c =
    whole (goal.at.returns-in-4 c).Start 4 true c.args.e c.write_each-in-4.new.room c.in-4.is c.if-masked.true refl c.write_each-in-4.ensures

pub returns-in_default : goal.returns-in_default
returns-in_default c =
    whole (goal.at.returns-in_default c).Start 8 true c.args.e c.write_each-in_default.new.room (let r = c.in_default.in_default-own.rest in sized (goal.at.returns-in_default c).Start r.0.0.1 r.0.1 r.1) c.if-masked.true refl c.write_each-in_default.ensures

pub write_plain-requires : goal.write_plain-requires
write_plain-requires c =
    let both = given (goal.at.write_plain-requires c).Start 1 false 4 c.in-1-w.is c.if-masked.false c.if-e-eq4.true in record { ends = both.0; holds = both.1 }

pub write_plain-requires-in-2-w : goal.write_plain-requires-in-2-w
write_plain-requires-in-2-w c =
    let both = given (goal.at.write_plain-requires-in-2-w c).Start 2 false 4 c.in-2-w.is c.if-masked.false c.if-e-eq4.true in record { ends = both.0; holds = both.1 }

pub write_plain-requires-in-4-w : goal.write_plain-requires-in-4-w
write_plain-requires-in-4-w c =
    let both = given (goal.at.write_plain-requires-in-4-w c).Start 4 false 4 c.in-4-w.is c.if-masked.false c.if-e-eq4.true in record { ends = both.0; holds = both.1 }

pub write_plain-requires-in_default-w : goal.write_plain-requires-in_default-w
write_plain-requires-in_default-w c =
    let both = given (goal.at.write_plain-requires-in_default-w c).Start 8 false 4 (let r = c.in_default-w.in_default-w-own.rest in sized (goal.at.write_plain-requires-in_default-w c).Start r.0.0.1 r.0.1 r.1) c.if-masked.false c.if-e-eq4.true in record { ends = both.0; holds = both.1 }

pub returns-in-1-w : goal.returns-in-1-w
returns-in-1-w c =
    whole (goal.at.returns-in-1-w c).Start 1 false 4 c.write_plain.new.room c.in-1-w.is c.if-masked.false c.if-e-eq4.true c.write_plain.ensures

pub returns-in-2-w : goal.returns-in-2-w
returns-in-2-w c =
    whole (goal.at.returns-in-2-w c).Start 2 false 4 c.write_plain-in-2-w.new.room c.in-2-w.is c.if-masked.false c.if-e-eq4.true c.write_plain-in-2-w.ensures

pub returns-in-4-w : goal.returns-in-4-w
returns-in-4-w c =
    whole (goal.at.returns-in-4-w c).Start 4 false 4 c.write_plain-in-4-w.new.room c.in-4-w.is c.if-masked.false c.if-e-eq4.true c.write_plain-in-4-w.ensures

pub returns-in_default-w : goal.returns-in_default-w
returns-in_default-w c =
    whole (goal.at.returns-in_default-w c).Start 8 false 4 c.write_plain-in_default-w.new.room (let r = c.in_default-w.in_default-w-own.rest in sized (goal.at.returns-in_default-w c).Start r.0.0.1 r.0.1 r.1) c.if-masked.false c.if-e-eq4.true c.write_plain-in_default-w.ensures

pub write_each-requires-in-1-w-2 : goal.write_each-requires-in-1-w-2
write_each-requires-in-1-w-2 c =
    let both = given (goal.at.write_each-requires-in-1-w-2 c).Start 1 false c.args.e c.in-1-w-2.is c.if-masked.false refl in record { ends = both.0; holds = both.1 }

pub write_each-requires-in-2-w-2 : goal.write_each-requires-in-2-w-2
write_each-requires-in-2-w-2 c =
    let both = given (goal.at.write_each-requires-in-2-w-2 c).Start 2 false c.args.e c.in-2-w-2.is c.if-masked.false refl in record { ends = both.0; holds = both.1 }

pub write_each-requires-in-4-w-2 : goal.write_each-requires-in-4-w-2
write_each-requires-in-4-w-2 c =
    let both = given (goal.at.write_each-requires-in-4-w-2 c).Start 4 false c.args.e c.in-4-w-2.is c.if-masked.false refl in record { ends = both.0; holds = both.1 }

pub write_each-requires-in_default-w-2 : goal.write_each-requires-in_default-w-2
write_each-requires-in_default-w-2 c =
    let both = given (goal.at.write_each-requires-in_default-w-2 c).Start 8 false c.args.e (let r = c.in_default-w-2.in_default-w-2-own.rest in sized (goal.at.write_each-requires-in_default-w-2 c).Start r.0.0.1 r.0.1 r.1) c.if-masked.false refl in record { ends = both.0; holds = both.1 }

pub returns-in-1-w-2 : goal.returns-in-1-w-2
returns-in-1-w-2 c =
    whole (goal.at.returns-in-1-w-2 c).Start 1 false c.args.e c.write_each-in-1-w-2.new.room c.in-1-w-2.is c.if-masked.false refl c.write_each-in-1-w-2.ensures

pub returns-in-2-w-2 : goal.returns-in-2-w-2
returns-in-2-w-2 c =
    whole (goal.at.returns-in-2-w-2 c).Start 2 false c.args.e c.write_each-in-2-w-2.new.room c.in-2-w-2.is c.if-masked.false refl c.write_each-in-2-w-2.ensures

pub returns-in-4-w-2 : goal.returns-in-4-w-2
returns-in-4-w-2 c =
    whole (goal.at.returns-in-4-w-2 c).Start 4 false c.args.e c.write_each-in-4-w-2.new.room c.in-4-w-2.is c.if-masked.false refl c.write_each-in-4-w-2.ensures

pub returns-in_default-w-2 : goal.returns-in_default-w-2
returns-in_default-w-2 c =
    whole (goal.at.returns-in_default-w-2 c).Start 8 false c.args.e c.write_each-in_default-w-2.new.room (let r = c.in_default-w-2.in_default-w-2-own.rest in sized (goal.at.returns-in_default-w-2 c).Start r.0.0.1 r.0.1 r.1) c.if-masked.false refl c.write_each-in_default-w-2.ensures
