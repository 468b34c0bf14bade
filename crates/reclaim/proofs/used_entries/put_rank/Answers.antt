-- `used_entries::put_rank` meets its contract. Assumes nothing.
use borrow.Author.Tests.{lt-ltb, le-ltb}
use Rattle.reclaim.proofs.used_entries.put_rank.Goals as goal

pub returns-then-s-lt512 : goal.returns-then-s-lt512
returns-then-s-lt512 c =
    let a = c.args in
    rw (lt-ltb a.s 512 c.if-s-lt512.true) c.write_number.ensures

pub returns-else-s-lt512 : goal.returns-else-s-lt512
returns-else-s-lt512 c = rw (le-ltb c.args.s 512 c.if-s-lt512.false)
