-- `recode::keys::recode_valid` meets its contract. Assumes nothing.
use Rattle.std.proofs.Common.{◌+◌, ◌*◌}
use Rattle.recode.proofs.Masks.{valid_done}
use Rattle.recode.proofs.keys.recode_valid.Goals as goal

pub returns : goal.returns
returns c =
    let z = c.args in
    valid_done z.w z.w2 z.body.now z.room.now z.from z.at (8 * z.valid + z.a) z.n _ _ c.requires.n_in_bounds.0 c.recode.ensures c.mask_nulls.ensures
