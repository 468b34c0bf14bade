-- `recode::keys::mask_one` meets its contract. Assumes nothing.
use Rattle.std.proofs.Common.{refl, ◌∙◌}
use Rattle.number.proofs.Laws.{encode_mod}
use Rattle.recode.proofs.keys.mask_one.Goals as goal

pub returns : goal.returns
returns g c = c.write.ensures ∙ rw (c.truncate.ensures, encode_mod, c.to_u64.ensures, c.read.ensures) refl
