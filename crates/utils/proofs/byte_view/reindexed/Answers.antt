-- `byte_view::reindexed` meets its contract. Assumes nothing.
use Rattle.std.proofs.Common.{le-ltb, lt-ltb}
use Rattle.utils.proofs.byte_view.reindexed.Goals as goal

pub returns-then-v-le-MAX_INLINE_VIEW_LEN : goal.returns-then-v-le-MAX_INLINE_VIEW_LEN
returns-then-v-le-MAX_INLINE_VIEW_LEN c = rw (le-ltb _ _ c.if-v-le-MAX_INLINE_VIEW_LEN.true)

pub returns : goal.returns
returns c = rw (lt-ltb _ _ c.if-v-le-MAX_INLINE_VIEW_LEN.false)
