-- `sharing::key_fits` meets its contract. Assumes nothing.
use mathlib.Core.Path.{◌≡◌, ap, ◌∙◌}
use Prim.Native.Nat.{◌+◌, ◌-◌}
use native.Mathlib.Omega.{arith}
use lib.Dec.{leb}
use Rattle.plan.proofs.dictionaries.Keys.{key_over, key_none, key_last}
use Rattle.plan.proofs.dictionaries.key_fits.Goals as goal

pub returns-then-top-start : goal.returns-then-top-start
returns-then-top-start c =
    let a = c.args in
    λ k e. key_over k a.start a.n (c.largest_key-top.ensures k e) (omega arith)

pub returns-then-n-eq0 : goal.returns-then-n-eq0
returns-then-n-eq0 c =
    let a = c.args in
    λ k e. key_none k a.start a.n (c.largest_key-top.ensures k e) (omega arith) (omega arith)

pub returns : goal.returns
returns c =
    let a = c.args in
    let top = c.largest_key-top.result in
    let last : a.start + (a.n - 1) ≡ a.start + a.n - 1 = omega arith in
    λ k e. key_last k a.start a.n (c.largest_key-top.ensures k e) (omega arith) (c.fits.ensures ∙ ap (λ z. leb z top) last)
