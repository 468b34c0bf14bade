-- `batch_walk::numbers::copy_words` meets its contract. Assumes nothing.
use mathlib.Core.Path.{◌≡◌, sym, ap, ◌∙◌}
use mathlib.Core.List.{List}
use Prim.Native.Nat.{ℕ, ◌+◌, ◌*◌}
use native.Mathlib.Omega.{arith}
use lib.ListN.{take, drop}
use Rattle.number.specs.Number.{splice}
use Rattle.number.proofs.Laws.{splice_nil}
use Rattle.batch.proofs.batch_walk.Sums.{words_step}
use Rattle.batch.proofs.numbers.copy_words.Goals as goal

pub loop-q-preserved : goal.loop-q-preserved
loop-q-preserved c =
    let a = c.args in
    let l = c.loop-q in
    c.copy_number.ensures ∙ ap (λ (z : List ℕ). splice (a.at + 4 * l.q) (take 4 (drop (a.from + 4 * l.q) a.body.now)) z) l.invariant ∙ words_step a.room.now a.body.now a.at a.from l.q a.m c.requires.0 c.requires.1 (omega arith)

pub loop-q-init : goal.loop-q-init
loop-q-init c = sym (splice_nil _ _)
