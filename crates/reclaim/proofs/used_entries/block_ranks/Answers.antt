-- `used_entries::block_ranks` meets its contract. Assumes nothing.
use mathlib.Core.Path.{◌≡◌, ap, ◌∙◌}
use Prim.Native.Nat.{◌+◌}
use native.Mathlib.Omega.{arith}
use Rattle.reclaim.specs.used_entries.Keys.{keys, rank}
use Rattle.reclaim.proofs.used_entries.block_ranks.Goals as goal

pub returns-then-base-eq0 : goal.returns-then-base-eq0
returns-then-base-eq0 c =
    let a = c.args in
    let x = keys a.body.now a.w a.at a.masked a.mask a.off a.n in
    λ j l. let z : j ≡ a.base + j = omega (arith, c.if-base-eq0.true) in c.requires.head j (omega arith) (omega arith) ∙ ap (rank x) z
