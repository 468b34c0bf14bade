-- `sharing::largest_key` meets its contract. Assumes nothing.
use Rattle.plan.proofs.dictionaries.Keys.{top_limit}
use Rattle.plan.proofs.dictionaries.largest_key.Goals as goal

pub returns : goal.returns
returns c = top_limit c.args.code c.requires
