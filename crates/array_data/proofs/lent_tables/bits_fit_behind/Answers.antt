-- `lent_tables::bits_fit_behind` meets its contract. Assumes nothing.
use mathlib.Core.Path.{◌≡◌, ap, ◌∙◌}
use Prim.Native.Nat.{◌+◌, ◌*◌}
use native.Mathlib.Omega.{arith}
use lib.Dec.{leb}
use Rattle.array_data.proofs.lent_tables.Laws.{start_no, bits_behind}
use Rattle.array_data.proofs.lent_tables.bits_fit_behind.Goals as goal

pub returns-then-bytes-start : goal.returns-then-bytes-start
returns-then-bytes-start c =
    let a = c.args in
    let e : 8 * a.start + (a.a + a.n) ≡ 8 * a.start + a.a + a.n = omega arith in
    start_no (8 * a.start) (a.a + a.n) (8 * a.bytes) (omega arith) ∙ ap (λ k. leb k (8 * a.bytes)) e

pub returns : goal.returns
returns c =
    let a = c.args in
    c.bits_fit.ensures ∙ bits_behind a.start a.a a.n a.bytes (omega arith)
