-- `run_coding::encode::count_runs` meets its contract. Assumes nothing.
use mathlib.Core.Path.{◌≡◌, refl, sym, ap, ◌∙◌}
use mathlib.Core.Bool.{Bool}
use mathlib.Core.List.{List}
use Prim.Native.Nat.{ℕ, ◌+◌, ◌-◌}
use native.Mathlib.Omega.{arith}
use lib.ListN.{length}
use Rattle.anew.proofs.runs.Those.{those_few}
use Rattle.coding.specs.run_coding.Rows.{change_in, last_rows}
use Rattle.coding.proofs.run_coding.Laws.{last_count, some_rows}
use Rattle.coding.proofs.encode_rows.count_runs.Goals as goal

none : (body : List ℕ) (w : ℕ) (masked : Bool) (start mask bit m : ℕ) → m ≡ 0 → 0 ≡ length (last_rows body w masked start mask bit m)
none body w masked start mask bit m e = rw e refl

pub returns-then-m-eq0 : goal.returns-then-m-eq0
returns-then-m-eq0 c = let z = c.args in none z.body.now z.w z.masked z.s.start z.s.mask z.s.bit z.m c.if-m-eq0.true

pub count_by-requires : goal.count_by-requires
count_by-requires c = (some_rows _ c.if-m-eq0.false, c.requires)

pub overflow_add-result : goal.overflow_add-result
overflow_add-result c =
    let z = c.args in
    let f = those_few (change_in z.body.now z.w z.masked z.s.start z.s.mask z.s.bit) (z.m - 1) 0 in
    let h = some_rows _ c.if-m-eq0.false in
    omega (arith, f, h, c.count_by.ensures)

pub returns : goal.returns
returns c =
    let z = c.args in
    ap (λ k. 1 + k) c.count_by.ensures ∙ sym (last_count z.body.now z.w z.masked z.s.start z.s.mask z.s.bit z.m (some_rows _ c.if-m-eq0.false))
