-- `primitive::extend_with_offset_signed` meets its contract: room has the first i keys, rebased, at `at`. Assumes nothing.
use Rattle.std.proofs.Common.{◌≡◌, ◌+◌, ◌%◌, ◌^◌, sym, ◌∙◌, arith}
use native.Mathlib.Nat.{add-mod-mod, mod-lt, one-le-pow}
use Rattle.number.specs.Number.{entry}
use Rattle.utils.proofs.Laws.{next_within, entry_lt}
use Rattle.utils.proofs.primitive.Laws.{rebased_none, rebased_step, same_pattern_of}
use Rattle.utils.proofs.primitive.extend_with_offset_signed.Goals as goal

pub loop-i-init : goal.loop-i-init
loop-i-init g c = sym (rebased_none _ _ _ _ _ _)

pub loop-i-preserved : goal.loop-i-preserved
loop-i-preserved g c =
    let a = c.args in
    let w = g.S.Pattern.Unsigned.SIZE in
    let i = c.loop-i.i in
    let top = one-le-pow w 256 (omega arith) in
    let f = entry_lt w a.body.now a.from i (λ k. (c.type_inv.body k).fits) in
    let e : g.S.Pattern.Unsigned.amount c.pattern.result ≡ (entry w a.body.now a.from i + a.base) % 256 ^ w
    = same_pattern_of w (entry w a.body.now a.from i) (a.base % 256 ^ w) (g.S.Pattern.Unsigned.amount c.pattern.result) (g.S.Signed.whole c.read.result) (g.S.Signed.whole c.from_pattern-offset.result) (g.S.Signed.whole c.signed_sum-key.result) f (mod-lt a.base top) (cc) (cc) c.signed_sum-key.ensures c.pattern.ensures ∙ add-mod-mod (entry w a.body.now a.from i) a.base (256 ^ w) in
    cc (e, rebased_step w a.room.now a.body.now a.at a.from a.base i (omega (arith, next_within w i a.n c.loop-i-test.true)))
