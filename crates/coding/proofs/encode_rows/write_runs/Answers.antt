-- `run_coding::encode::write_runs` meets its contract. Assumes nothing.
use mathlib.Core.Path.{◌≡◌, sym, ap, subst}
use mathlib.Core.Bool.{Bool, true, false}
use mathlib.Core.List.{List}
use Prim.Native.Nat.{ℕ, ◌≤◌, ◌<◌, ◌^◌}
use lib.ListN.{length}
use Rattle.aggregates.specs.patterns.Parts.{Sized}
use Rattle.coding.specs.run_coding.Rows.{Held, last_rows}
use Rattle.coding.specs.run_coding.Writes.{Fits, runs_written}
use Rattle.coding.proofs.run_coding.Laws.{no_runs, some_rows}
use Rattle.coding.proofs.encode_rows.write_runs.Goals.{Start}
use Rattle.coding.proofs.encode_rows.write_runs.Goals as goal

-- what is asked, at the width and the validity that a branch found
abbrev Asked : (c : Start) → ℕ → Bool → Type 0
Asked c w b =
    ((c.args.m < 2 ^ 63) × Sized c.args.e × Held c.args.body.now w b c.args.s.start c.args.s.mask c.args.s.bit c.args.m)
    × Fits w b c.args.e c.args.t.ends c.args.t.values c.args.t.mask (length c.args.room.now) (length (last_rows c.args.body.now w b c.args.s.start c.args.s.mask c.args.s.bit c.args.m))

given : (c : Start) (w : ℕ) (b : Bool) → (c.args.m ≡ 0 → ⊥) → c.args.w ≡ w → c.args.masked ≡ b
    → ((1 ≤ c.args.m) × (c.args.m < 2 ^ 63) × Sized c.args.e × Held c.args.body.now w b c.args.s.start c.args.s.mask c.args.s.bit c.args.m)
    × Fits w b c.args.e c.args.t.ends c.args.t.values c.args.t.mask (length c.args.room.now) (length (last_rows c.args.body.now w b c.args.s.start c.args.s.mask c.args.s.bit c.args.m))
given c w b h e f =
    let a : Asked c w b = subst (λ k. Asked c k b) e (subst (λ k. Asked c c.args.w k) f (c.requires.m_bound, c.requires.fits)) in
    ((some_rows _ h, a.0.0, a.0.1, a.0.2), a.1)

sized : (c : Start) → (c.args.w ≡ 1 → ⊥) → (c.args.w ≡ 2 → ⊥) → (c.args.w ≡ 4 → ⊥) → c.args.w ≡ 8
sized c = c.requires.m_bound.2.sized

-- what was written, at the arguments' width and validity
abbrev Done : (c : Start) → List ℕ → ℕ → ℕ → Bool → Type 0
Done c y k w b =
    let z = c.args in
    (y ≡ runs_written z.body.now w b z.s.start z.s.mask z.s.bit z.e z.t.ends z.t.values z.t.mask 0 (last_rows z.body.now w b z.s.start z.s.mask z.s.bit z.m) z.room.now)
    × (k ≡ length (last_rows z.body.now w b z.s.start z.s.mask z.s.bit z.m))

whole : (c : Start) (w : ℕ) (b : Bool) (y : List ℕ) (k : ℕ) → c.args.w ≡ w → c.args.masked ≡ b → Done c y k w b → Done c y k c.args.w c.args.masked
whole c w b y k e f d = subst (λ v. Done c y k c.args.w v) (sym f) (subst (λ v. Done c y k v b) (sym e) d)

pub returns-then-m-eq0 : goal.returns-then-m-eq0
returns-then-m-eq0 c =
    record { room_value = no_runs c.args.body.now c.args.w c.args.masked c.args.s.start c.args.s.mask c.args.s.bit c.args.e c.args.t.ends c.args.t.values c.args.t.mask c.args.m c.args.room.now c.if-m-eq0.true; value = ap (λ n. length (last_rows c.args.body.now c.args.w c.args.masked c.args.s.start c.args.s.mask c.args.s.bit n)) (sym c.if-m-eq0.true) }

pub write_masked-requires : goal.write_masked-requires
write_masked-requires c =
    let both = given (goal.at.write_masked-requires c).Start 1 true c.if-m-eq0.false c.in-1.is c.if-masked.true in record { le_m = both.0; fits = both.1 }

pub write_masked-requires-in-2 : goal.write_masked-requires-in-2
write_masked-requires-in-2 c =
    let both = given (goal.at.write_masked-requires-in-2 c).Start 2 true c.if-m-eq0.false c.in-2.is c.if-masked.true in record { le_m = both.0; fits = both.1 }

pub write_masked-requires-in-4 : goal.write_masked-requires-in-4
write_masked-requires-in-4 c =
    let both = given (goal.at.write_masked-requires-in-4 c).Start 4 true c.if-m-eq0.false c.in-4.is c.if-masked.true in record { le_m = both.0; fits = both.1 }

pub write_masked-requires-in_default : goal.write_masked-requires-in_default
write_masked-requires-in_default c =
    let both = given (goal.at.write_masked-requires-in_default c).Start 8 true c.if-m-eq0.false (let r = c.in_default.in_default-own.rest in sized (goal.at.write_masked-requires-in_default c).Start r.0.0.1 r.0.1 r.1) c.if-masked.true in record { le_m = both.0; fits = both.1 }

pub returns-in-1 : goal.returns-in-1
returns-in-1 c =
    let both = whole (goal.at.returns-in-1 c).Start 1 true c.write_masked.new.room c.write_masked.result c.in-1.is c.if-masked.true (c.write_masked.ensures.room_value, c.write_masked.ensures.value) in record { room_value = both.0; value = both.1 }

pub returns-in-2 : goal.returns-in-2
returns-in-2 c =
    let both = whole (goal.at.returns-in-2 c).Start 2 true c.write_masked-in-2.new.room c.write_masked-in-2.result c.in-2.is c.if-masked.true (c.write_masked-in-2.ensures.room_value, c.write_masked-in-2.ensures.value) in record { room_value = both.0; value = both.1 }

pub returns-in-4 : goal.returns-in-4
returns-in-4 c =
    let both = whole (goal.at.returns-in-4 c).Start 4 true c.write_masked-in-4.new.room c.write_masked-in-4.result c.in-4.is c.if-masked.true (c.write_masked-in-4.ensures.room_value, c.write_masked-in-4.ensures.value) in record { room_value = both.0; value = both.1 }

pub returns-in_default : goal.returns-in_default
returns-in_default c =
    let both = whole (goal.at.returns-in_default c).Start 8 true c.write_masked-in_default.new.room c.write_masked-in_default.result (let r = c.in_default.in_default-own.rest in sized (goal.at.returns-in_default c).Start r.0.0.1 r.0.1 r.1) c.if-masked.true (c.write_masked-in_default.ensures.room_value, c.write_masked-in_default.ensures.value) in record { room_value = both.0; value = both.1 }

pub write_plain-requires : goal.write_plain-requires
write_plain-requires c =
    let both = given (goal.at.write_plain-requires c).Start 1 false c.if-m-eq0.false c.in-1-w.is c.if-masked.false in record { le_m = both.0; fits = both.1 }

pub write_plain-requires-in-2-w : goal.write_plain-requires-in-2-w
write_plain-requires-in-2-w c =
    let both = given (goal.at.write_plain-requires-in-2-w c).Start 2 false c.if-m-eq0.false c.in-2-w.is c.if-masked.false in record { le_m = both.0; fits = both.1 }

pub write_plain-requires-in-4-w : goal.write_plain-requires-in-4-w
write_plain-requires-in-4-w c =
    let both = given (goal.at.write_plain-requires-in-4-w c).Start 4 false c.if-m-eq0.false c.in-4-w.is c.if-masked.false in record { le_m = both.0; fits = both.1 }

pub write_plain-requires-in_default-w : goal.write_plain-requires-in_default-w
write_plain-requires-in_default-w c =
    let both = given (goal.at.write_plain-requires-in_default-w c).Start 8 false c.if-m-eq0.false (let r = c.in_default-w.in_default-w-own.rest in sized (goal.at.write_plain-requires-in_default-w c).Start r.0.0.1 r.0.1 r.1) c.if-masked.false in record { le_m = both.0; fits = both.1 }

pub returns-in-1-w : goal.returns-in-1-w
returns-in-1-w c =
    let both = whole (goal.at.returns-in-1-w c).Start 1 false c.write_plain.new.room c.write_plain.result c.in-1-w.is c.if-masked.false (c.write_plain.ensures.room_value, c.write_plain.ensures.value) in record { room_value = both.0; value = both.1 }

pub returns-in-2-w : goal.returns-in-2-w
returns-in-2-w c =
    let both = whole (goal.at.returns-in-2-w c).Start 2 false c.write_plain-in-2-w.new.room c.write_plain-in-2-w.result c.in-2-w.is c.if-masked.false (c.write_plain-in-2-w.ensures.room_value, c.write_plain-in-2-w.ensures.value) in record { room_value = both.0; value = both.1 }

pub returns-in-4-w : goal.returns-in-4-w
returns-in-4-w c =
    let both = whole (goal.at.returns-in-4-w c).Start 4 false c.write_plain-in-4-w.new.room c.write_plain-in-4-w.result c.in-4-w.is c.if-masked.false (c.write_plain-in-4-w.ensures.room_value, c.write_plain-in-4-w.ensures.value) in record { room_value = both.0; value = both.1 }

pub returns-in_default-w : goal.returns-in_default-w
returns-in_default-w c =
    let both = whole (goal.at.returns-in_default-w c).Start 8 false c.write_plain-in_default-w.new.room c.write_plain-in_default-w.result (let r = c.in_default-w.in_default-w-own.rest in sized (goal.at.returns-in_default-w c).Start r.0.0.1 r.0.1 r.1) c.if-masked.false (c.write_plain-in_default-w.ensures.room_value, c.write_plain-in_default-w.ensures.value) in record { room_value = both.0; value = both.1 }
