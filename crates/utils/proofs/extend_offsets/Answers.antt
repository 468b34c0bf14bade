-- `utils::extend_offsets` meets its contract: room has the first i moved offsets at `at`. Assumes nothing.
use Rattle.std.proofs.Common.{◌≡◌, ◌+◌, ◌-◌, ◌%◌, ◌^◌, sym, ◌∙◌, arith}
use Rattle.number.specs.Number.{entry}
use Rattle.utils.proofs.Laws.{next_within, entry_lt, first_entry_lem, moved_none, moved_step}
use Rattle.utils.proofs.extend_offsets.Goals as goal

pub loop-i-init : goal.loop-i-init
loop-i-init g c = sym (moved_none _ _ _ _ _ _)

pub loop-i-preserved : goal.loop-i-preserved
loop-i-preserved g c =
    let a = c.args in
    let w = g.N.Unsigned.SIZE in
    let f = entry_lt w a.body.now a.from 0 (λ k. (c.type_inv.body k).fits) in
    let s : g.N.Unsigned.amount c.wrapping_sub-shift.result ≡ (g.N.Unsigned.amount a.last + (256 ^ w - entry w a.body.now a.from 0)) % 256 ^ w
    = rw (c.read.ensures ∙ first_entry_lem w a.body.now a.from) at c.wrapping_sub-shift.ensures in
    cc (moved_step w a.room.now a.body.now a.at a.from (g.N.Unsigned.amount a.last) (g.N.Unsigned.amount c.wrapping_sub-shift.result) c.loop-i.i (omega (arith, next_within w c.loop-i.i a.n c.loop-i-test.true)) f s)
