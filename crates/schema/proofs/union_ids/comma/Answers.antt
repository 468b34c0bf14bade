-- `format_ids::comma` meets its contract. Assumes nothing.
use mathlib.Core.Path.{ap, ◌≡◌, ◌∙◌}
use Prim.Native.Nat.{◌+◌, ◌-◌}
use lib.Dec.{eqb}
use lib.ListN.{length, take, drop, length-drop}
use lib.Seq.{take_all}
use Rattle.std.proofs.Common.{rules, tests, arith}
use Rattle.std.specs.Option.{unwrap_or}
use Rattle.std.proofs.lemmas.Iterator.{YieldsList-from_slice}
use Rattle.std.proofs.lemmas.Iterator.Search.{position_from_yields_List}
use Rattle.schema.specs.union_ids.Ids.{first_comma}
use Rattle.schema.proofs.union_ids.Laws.{found}
use Rattle.schema.proofs.union_ids.comma.Goals as goal

pub returns : goal.returns
returns c =
    let z = c.args in
    let rest = take (length z.t.now - z.p) (drop z.p z.t.now) in
    let e = position_from_yields_List (λ b. eqb b 44) _ _ c.position.result c.position.ensures.ran (YieldsList-from_slice _ c.iter.ensures.rest) (λ x b q k. search (rules, tests)) in
    let whole : rest ≡ drop z.p z.t.now = take_all (length z.t.now - z.p) (drop z.p z.t.now) (omega (arith, length-drop z.p z.t.now)) in
    ap (λ r. z.p + r) (c.unwrap_or.ensures ∙ ap (λ r. unwrap_or r (length rest)) e ∙ found rest ∙ ap first_comma whole)
