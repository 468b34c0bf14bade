-- `nodes::run_end_rule` meets its contract. Assumes nothing.
use mathlib.Core.Path.{◌≡◌, ◌∙◌, sym}
use mathlib.Core.Bool.{false}
use Prim.Native.Nat.{◌+◌}
use native.Mathlib.Numerals.{add-one}
use native.Mathlib.Omega.{arith}
use lib.Dec.{eqb}
use Rattle.array_data.specs.lent_tables.Lent.{tables}
use Rattle.source_rules.proofs.nodes.RunEnds.{run_end_parts, run_end_is, ends_are}
use Rattle.source_rules.proofs.nodes.run_end_rule.Goals as goal

pub returns-then-not-runs_valid : goal.returns-then-not-runs_valid
returns-then-not-runs_valid g c =
    let a = c.args in
    let x = tables a.lengths.now a.places.now a.body.now in
    let t : false ≡ run_end_parts x a.k g.N.Unsigned.SIZE (a.k + 1) (a.k + 2) = rw (sym c.runs_valid.ensures ∙ c.if-not-runs_valid.true) in
    t ∙ run_end_is x a.k g.N.Unsigned.SIZE (add-one a.k) (omega arith)

pub returns-then-not-ends : goal.returns-then-not-ends
returns-then-not-ends g c =
    let a = c.args in
    let x = tables a.lengths.now a.places.now a.body.now in
    let t : false ≡ run_end_parts x a.k g.N.Unsigned.SIZE (a.k + 1) (a.k + 2) =
    rw (sym c.runs_valid.ensures ∙ c.if-not-runs_valid.false, sym (ends_are x a.k g.N.Unsigned.SIZE (a.k + 1) c.ends.ensures c.part_start-start.ensures c.part_len-size.ensures c.place-at.ensures c.place.ensures c.offset_of-off.ensures c.length_of-len.ensures c.count_of-reach.ensures) ∙ c.if-not-ends.true) in
    t ∙ run_end_is x a.k g.N.Unsigned.SIZE (add-one a.k) (omega arith)

pub returns : goal.returns
returns g c =
    let a = c.args in
    let x = tables a.lengths.now a.places.now a.body.now in
    let t : eqb c.length_of.result c.length_of-2.result ≡ run_end_parts x a.k g.N.Unsigned.SIZE (a.k + 1) (a.k + 2) =
    rw (sym c.runs_valid.ensures ∙ c.if-not-runs_valid.false, sym (ends_are x a.k g.N.Unsigned.SIZE (a.k + 1) c.ends.ensures c.part_start-start.ensures c.part_len-size.ensures c.place-at.ensures c.place.ensures c.offset_of-off.ensures c.length_of-len.ensures c.count_of-reach.ensures) ∙ c.if-not-ends.false, ← c.length_of.ensures, ← c.length_of-2.ensures) in
    t ∙ run_end_is x a.k g.N.Unsigned.SIZE (add-one a.k) (omega arith)
