-- `recode::offsets::less` meets its contract: room has the first i entries at `at`. Assumes nothing.
use Rattle.std.proofs.Common.{◌≡◌, ◌+◌, length, sym, refl, ◌∙◌, arith}
use Rattle.number.specs.Number.{entry}
use Rattle.recode.proofs.Laws.{less_none, less_step}
use Rattle.recode.proofs.Masks.{fits_part}
use Rattle.recode.proofs.offsets.less.Goals as goal

pub loop-i-init : goal.loop-i-init
loop-i-init g c = sym (less_none _ _ _ _ _ _ _)

pub loop-i-preserved : goal.loop-i-preserved
loop-i-preserved g c =
    let z = c.args in
    let i = c.loop-i.i in
    let v : c.to_u64-v.result ≡ entry g.N.Unsigned.SIZE z.body.now z.from i = c.to_u64-v.ensures ∙ c.read.ensures ∙ rw c.SIZE.ensures refl in
    let l = fits_part g.M.Unsigned.SIZE z.at (i + 1) z.n (length z.room.now) (omega arith) c.requires.n_in_bounds in
    c.write.ensures
    ∙ rw (c.truncate.ensures, c.SIZE-in-loop-i.ensures, c.loop-i.invariant)
    (less_step g.N.Unsigned.SIZE g.M.Unsigned.SIZE z.room.now z.body.now z.at z.from z.base i c.to_u64-v.result l v c.ranges.base.fits)
