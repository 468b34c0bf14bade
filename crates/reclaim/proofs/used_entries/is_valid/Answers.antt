-- `used_entries::is_valid` meets its contract. Assumes nothing.
use native.Mathlib.Omega.{arith}
use Rattle.reclaim.proofs.used_entries.Laws.{bit_none, bit_there}
use Rattle.reclaim.proofs.used_entries.is_valid.Goals as goal

pub get_bit-requires : goal.get_bit-requires
get_bit-requires c = omega (arith, c.requires c.if-masked.true)

pub returns-then-masked : goal.returns-then-masked
returns-then-masked c = let a = c.args in bit_there a.body.now a.masked a.mask a.k c.get_bit.result c.if-masked.true c.get_bit.ensures

pub returns : goal.returns
returns c = let a = c.args in bit_none a.body.now a.masked a.mask a.k c.if-masked.false
