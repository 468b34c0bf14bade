-- `source_rules::field_lengths` meets its contract. The invariant: the children before j are written, and `node` is child j. Assumes nothing.
use Prim.Native.Nat.{ℕ, ◌+◌}
use mathlib.Core.Path.{ap, ◌∙◌, refl}
use mathlib.Core.List.{[]}
use native.Mathlib.Omega.{arith}
use lib.ListN.{length-set}
use Rattle.schema.specs.Tree.{child_at}
use Rattle.array_data.specs.Tables.{length_of}
use Rattle.array_data.specs.lent_tables.Lent.{tables}
use Rattle.source_rules.proofs.Fields.{child_first, child_next, child_below, set_more}
use Rattle.source_rules.proofs.field_lengths.Goals as goal

pub loop-j-init : goal.loop-j-init
loop-j-init c =
    let z = c.args in
    (refl, omega arith, child_first z.schema.now z.first z.n z.i, λ k h. absurd (omega arith))

pub loop-j-preserved : goal.loop-j-preserved
loop-j-preserved c =
    let z = c.args in
    let l = c.loop-j in
    let f : ℕ → ℕ = λ k. length_of (tables z.lengths.now [] []) (z.first + child_at z.schema.now z.first z.n z.i k) in (
      length-set l.lens l.j _ ∙ l.invariant.0,
      child_below z.schema.now z.first z.n z.i l.node _ l.invariant.1 c.end_of-node.ensures,
      child_next z.schema.now z.first z.n z.i l.j l.node _ l.invariant.2 c.end_of-node.ensures,
      set_more f l.lens l.j _ (omega arith) l.invariant.3 (c.length_of.ensures ∙ ap (λ k. length_of (tables z.lengths.now [] []) (z.first + k)) l.invariant.2),
    )

pub returns : goal.returns
returns c = λ j h. c.loop-j.invariant.3 j (omega arith)
