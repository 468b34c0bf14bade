-- `kinds::key_bound` meets its contract. Assumes nothing.
use mathlib.Core.Path.{◌≡◌, ◌∙◌}
use Prim.Native.Nat.{min}
use native.Mathlib.Omega.{arith}
use lib.ListN.{get_or, get_or-eq_default}
use Rattle.source_rules.proofs.kinds.Laws.{limits, bound_is}
use Rattle.source_rules.proofs.kinds.key_bound.Goals as goal

pub returns-then-c-gt10 : goal.returns-then-c-gt10
returns-then-c-gt10 c =
    let a = c.args in
    λ m e.
    let z : get_or limits a.code 0 ≡ 0 = get_or-eq_default limits 0 {n = a.code} (omega arith) in
    let t : 0 ≡ min (get_or limits a.code 0) a.values = omega arith in
    t ∙ bound_is a.code m a.values (omega arith) e

pub returns : goal.returns
returns c =
    let a = c.args in
    λ m e.
    let t : c.min.result ≡ min (get_or limits a.code 0) a.values = omega arith in
    t ∙ bound_is a.code m a.values (omega arith) e
