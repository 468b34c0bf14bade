-- `kind_rules::no_mask` meets its contract. Assumes nothing.
use Rattle.source_rules.proofs.kinds.no_mask.Goals as goal

pub returns : goal.returns
returns c = c.mask_holds.ensures
