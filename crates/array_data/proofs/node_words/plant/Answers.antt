-- `node_table::plant` meets its contract. The invariant: the first q words are written. Assumes nothing.
use mathlib.Core.Path.{refl, ◌∙◌}
use native.Mathlib.Omega.{arith}
use lib.ListN.{length-set}
use lib.Seq.{get_or-set_other}
use Rattle.array_data.proofs.node_words.Laws.{wrote, zeros_at_lem, all_words}
use Rattle.array_data.proofs.node_words.plant.Goals as goal

pub loop-q-init : goal.loop-q-init
loop-q-init c = (refl, refl, λ x h. zeros_at_lem 256 x)

pub loop-q-preserved : goal.loop-q-preserved
loop-q-preserved c =
    let l = c.loop-q in
    (length-set l.tree l.q _ ∙ l.invariant.0, wrote _ l.tree l.q _ (omega arith) l.invariant.1 c.word_of.ensures, λ x h. get_or-set_other l.tree l.q x _ 0 (λ e. omega arith) ∙ l.invariant.2 x (omega arith))

pub returns : goal.returns
returns c =
    let z = c.args in
    let l = c.loop-q in
    let w = c.words_of-m.ensures in
    all_words z.formats.now z.schema.now z.first z.n l.tree l.q l.invariant.1 (λ x a b. w.1 x (omega arith) b) l.invariant.2 l.invariant.0
