-- `used_entries::block_slot` meets its contract. Assumes nothing.
use mathlib.Core.Path.{sym, ap, ◌∙◌}
use Prim.Native.Nat.{ℕ, ◌+◌, ◌-◌}
use native.Mathlib.Nat.{mul-le-mul_left}
use native.Mathlib.Omega.{arith}
use Rattle.reclaim.specs.used_entries.Keys.{keys}
use Rattle.reclaim.proofs.used_entries.Laws.{slot_null, slot_low, slot_high, slot_in_lem, valid_is, key_is, not_true, not_false}
use Rattle.reclaim.proofs.used_entries.block_slot.Goals as goal

pub is_valid-requires : goal.is_valid-requires
is_valid-requires c e = omega (arith, c.requires.0.bits_in_lem e)

pub returns-then-not-is_valid : goal.returns-then-not-is_valid
returns-then-not-is_valid c =
    let a = c.args in
    let x = keys a.body.now a.w a.at a.masked a.mask a.off a.n in
    (slot_null x a.base a.count a.r (valid_is x a.r c.is_valid.result c.is_valid.ensures ∙ not_true _ c.if-not-is_valid.true-raw), omega arith)

pub key_at-key-requires : goal.key_at-key-requires
key_at-key-requires c =
    let a = c.args in
    let p = c.requires.0 in
    record { key_width = p.width; k_in_bounds = omega (arith, p.keys_in_lem, mul-le-mul_left {m = a.off + a.r + 1} {n = a.off + a.n} a.w (omega arith)) }

pub returns-then-key-base : goal.returns-then-key-base
returns-then-key-base c =
    let a = c.args in
    let x = keys a.body.now a.w a.at a.masked a.mask a.off a.n in
    let k = key_is x a.r c.key_at-key.result c.key_at-key.ensures in
    (slot_low x a.base a.count a.r (omega (arith, k)), omega arith)

pub returns-then-count-key : goal.returns-then-count-key
returns-then-count-key c =
    let a = c.args in
    let x = keys a.body.now a.w a.at a.masked a.mask a.off a.n in
    let k = key_is x a.r c.key_at-key.result c.key_at-key.ensures in
    (slot_high x a.base a.count a.r (omega (arith, k)), omega arith)

pub returns : goal.returns
returns c =
    let a = c.args in
    let x = keys a.body.now a.w a.at a.masked a.mask a.off a.n in
    let k = key_is x a.r c.key_at-key.result c.key_at-key.ensures in
    let v = valid_is x a.r c.is_valid.result c.is_valid.ensures ∙ not_false _ c.if-not-is_valid.false-raw in
    (ap (λ (z : ℕ). z - a.base) (sym k) ∙ slot_in_lem x a.base a.count a.r v (omega (arith, k)) (omega (arith, k)), omega arith)
