-- `used_entries::key_at` meets its contract. Assumes nothing.
use mathlib.Core.Path.{◌≡◌, sym, ap, ◌∙◌}
use Prim.Native.Nat.{ℕ, ◌+◌, ◌*◌}
use native.Mathlib.Omega.{arith}
use lib.ListN.{drop}
use Rattle.number.specs.Number.{number}
use Rattle.reclaim.proofs.used_entries.key_at.Goals as goal

pub read-requires-in_default : goal.read-requires-in_default
read-requires-in_default c =
    let q = c.requires.key_width c.in_default.in_default-own.rest.0.0.1 c.in_default.in_default-own.rest.0.1 c.in_default.in_default-own.rest.1 in omega (arith, q)

pub returns-in-1 : goal.returns-in-1
returns-in-1 c =
    let a = c.args in
    c.read.ensures ∙ ap (λ (z : ℕ). number z (drop (a.at + a.w * a.k) a.body.now)) (sym c.in-1.is)

pub returns-in-2 : goal.returns-in-2
returns-in-2 c =
    let a = c.args in
    c.read-in-2.ensures ∙ ap (λ (z : ℕ). number z (drop (a.at + a.w * a.k) a.body.now)) (sym c.in-2.is)

pub returns-in-4 : goal.returns-in-4
returns-in-4 c =
    let a = c.args in
    c.read-in-4.ensures ∙ ap (λ (z : ℕ). number z (drop (a.at + a.w * a.k) a.body.now)) (sym c.in-4.is)

pub returns-in_default : goal.returns-in_default
returns-in_default c =
    let a = c.args in
    let q : a.w ≡ 8 = c.requires.key_width c.in_default.in_default-own.rest.0.0.1 c.in_default.in_default-own.rest.0.1 c.in_default.in_default-own.rest.1 in
    c.read-in_default.ensures ∙ ap (λ (z : ℕ). number z (drop (a.at + a.w * a.k) a.body.now)) (sym q)
