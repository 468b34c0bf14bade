-- `recode::keys::block_1_4` meets its contract. Assumes nothing.
use Rattle.std.proofs.Common.{ℕ, replicate, arith}
use lib.ListN.{length-replicate}
use Rattle.recode.proofs.Blocks.{two_done}
use Rattle.recode.proofs.keys.block_1_4.Goals as goal

pub returns : goal.returns
returns c =
    let z = c.args in
    two_done 4 z.body.now z.room.now (replicate 128 0) _ _ z.at z.from 64 (omega (arith, length-replicate {A = ℕ} 128 0)) (λ k. (c.type_inv.body k).fits) c.less.ensures c.less-2.ensures
