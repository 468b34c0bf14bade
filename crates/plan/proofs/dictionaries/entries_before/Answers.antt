-- `sharing::entries_before` meets its contract. The invariant: the sum is that of the sources below s. Assumes nothing.
use mathlib.Core.Path.{◌≡◌, refl, ap, ◌∙◌}
use mathlib.Core.Bool.{true}
use mathlib.Core.List.{[]}
use native.Mathlib.Numerals.{add-one}
use native.Mathlib.Omega.{arith}
use Rattle.array_data.specs.lent_tables.Lent.{tables}
use Rattle.plan.specs.dictionaries.Sources.{dict_at, capped}
use Rattle.plan.proofs.dictionaries.Laws.{length_at_lem}
use Rattle.plan.proofs.dictionaries.Keys.{sum_more, entries_same}
use Rattle.plan.proofs.dictionaries.entries_before.Goals as goal

pub loop-s-preserved : goal.loop-s-preserved
loop-s-preserved c =
    let a = c.args in
    let s = c.loop-s.s in
    rw (add-one s) (sum_more (dict_at (tables a.lengths.now [] []) a.sources.now true a.i) s c.loop-s.invariant (length_at_lem (tables a.lengths.now [] []) a.sources.now a.i s c.length_of.ensures c.node_of-k.ensures.value) c.add_capped-sum.ensures)

pub returns : goal.returns
returns c =
    let a = c.args in
    let e : c.loop-s.s ≡ a.j = omega arith in
    λ places body string. (rw e at c.loop-s.invariant) ∙ ap capped (entries_same (dict_at (tables a.lengths.now [] []) a.sources.now true a.i) (dict_at (tables a.lengths.now places body) a.sources.now string a.i) (λ s. refl) a.j)
