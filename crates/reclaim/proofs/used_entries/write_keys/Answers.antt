-- `used_entries::write_keys` meets its contract. The invariant: the keys of the entries below `base` are written, the others 0. Assumes nothing.
use mathlib.Core.Path.{◌≡◌, refl, sym, ap, ◌∙◌}
use Prim.Native.Nat.{◌-◌}
use native.Mathlib.Nat.{zero-add}
use native.Mathlib.Omega.{arith}
use Rattle.number.specs.Number.{splice}
use Rattle.columnar.specs.Row.{seg}
use Rattle.columnar.specs.Entries.{encodes}
use Rattle.reclaim.specs.used_entries.Keys.{keys, rank, new_key}
use Rattle.reclaim.proofs.used_entries.Laws.{rank_none}
use Rattle.reclaim.proofs.used_entries.Rewrites.{none_yet, all_keys}
use Rattle.reclaim.proofs.used_entries.write_keys.Goals as goal

pub write_by-requires : goal.write_by-requires
write_by-requires c = record { within = (c.requires.within.0, omega arith, omega arith); by_index = λ j h. c.requires.head j (omega arith) (omega arith) ∙ ap (rank (keys c.args.body.now c.args.w c.args.at c.args.masked c.args.mask c.args.off c.args.n)) (sym (zero-add j)) }

pub returns-then-entries-le-BLOCK : goal.returns-then-entries-le-BLOCK
returns-then-entries-le-BLOCK c =
    let a = c.args in
    let x = keys a.body.now a.w a.at a.masked a.mask a.off a.n in
    c.write_by.ensures a.room.now (omega arith) (c.fill_zeros.ensures ∙ ap (λ s. splice a.to s a.room.now) (none_yet x a.n 0))
    ∙ ap (λ e. splice a.to (encodes a.w (seg (new_key x e) 0 a.n)) a.room.now) (zero-add a.entries)
    ∙ ap (λ s. splice a.to s a.room.now) (all_keys x a.entries)

pub loop-base-init : goal.loop-base-init
loop-base-init c = (omega arith, refl, sym (rank_none (keys c.args.body.now c.args.w c.args.at c.args.masked c.args.mask c.args.off c.args.n)), λ old l e. e)

pub block_ranks-ranks-requires : goal.block_ranks-ranks-requires
block_ranks-ranks-requires c = record { within = (c.requires.within.0, omega arith, omega arith, c.loop-base.invariant.2); head = λ j h g. c.requires.head j (omega arith) g }

pub write_by-requires-in-loop-base : goal.write_by-requires-in-loop-base
write_by-requires-in-loop-base c = record { within = (c.requires.within.0, omega arith, omega arith); by_index = λ j h. c.block_ranks-ranks.ensures j (omega arith) }

pub loop-base-preserved : goal.loop-base-preserved
loop-base-preserved c = (omega arith, omega arith, c.block_ranks-ranks.ensures c.block_len-count.result (omega arith), λ old h e. c.write_by-in-loop-base.ensures old h (c.loop-base.invariant.3 old h e))

pub returns : goal.returns
returns c =
    let a = c.args in
    let x = keys a.body.now a.w a.at a.masked a.mask a.off a.n in
    let l = c.loop-base in
    let z : l.base ≡ a.entries = omega arith in
    l.invariant.3 a.room.now (omega arith) (c.fill_zeros.ensures ∙ ap (λ s. splice a.to s a.room.now) (none_yet x a.n 0))
    ∙ ap (λ e. splice a.to (encodes a.w (seg (new_key x e) 0 a.n)) a.room.now) z
    ∙ ap (λ s. splice a.to s a.room.now) (all_keys x a.entries)
