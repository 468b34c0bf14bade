-- `growth::code_of` meets its contract. Assumes nothing.
use native.Mathlib.Nat.{add-zero}
use Prim.Native.Nat.{◌*◌}
use Rattle.walk.proofs.plan_words.code_of.Goals as goal

pub returns : goal.returns
returns c = rw (c.at_u64.ensures, add-zero (8 * c.args.i))
