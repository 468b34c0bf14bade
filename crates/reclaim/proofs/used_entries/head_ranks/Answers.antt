-- `used_entries::head_ranks` meets its contract. Assumes nothing.
use mathlib.Core.Path.{sym, ap, ◌∙◌}
use native.Mathlib.Nat.{zero-add}
use native.Mathlib.Omega.{arith}
use Rattle.reclaim.specs.used_entries.Keys.{keys, rank}
use Rattle.reclaim.proofs.used_entries.Laws.{rank_none}
use Rattle.reclaim.proofs.used_entries.head_ranks.Goals as goal

pub ranks_of-requires : goal.ranks_of-requires
ranks_of-requires c =
    let a = c.args in
    let x = keys a.body.now a.w a.at a.masked a.mask a.off a.n in
    (c.requires, omega (arith, c.head_len-count.ensures), omega (arith, c.head_len-count.ensures), sym (rank_none x))

pub returns : goal.returns
returns c =
    let a = c.args in
    let x = keys a.body.now a.w a.at a.masked a.mask a.off a.n in
    λ j l h. c.ranks_of.ensures j (omega (arith, c.head_len-count.ensures)) ∙ ap (rank x) (zero-add j)
