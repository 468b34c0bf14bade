-- `nodes::strings` meets its contract: no offsets, or offsets that fit into their buffer. Assumes nothing.
use Prim.Native.Nat.{ℕ, ◌+◌, ◌*◌, ◌≤◌}
use mathlib.Core.Path.{◌≡◌, ap, sym, ◌∙◌}
use mathlib.Core.Bool.{true, false}
use native.Mathlib.Omega.{arith}
use lib.Dec.{leb}
use borrow.Author.Tests.{leb-true, eq-eqb, ne_eqb}
use Rattle.number.specs.Number.{entry}
use Rattle.row_rules.specs.Rules.{offsets_rows}
use Rattle.source_rules.specs.nodes.Rows.{string_rows}
use Rattle.source_rules.proofs.nodes.Laws.{fit, slots_in}
use Rattle.source_rules.proofs.nodes.strings.Goals as goal

pub returns-then-size-eq0 : goal.returns-then-size-eq0
unfolding string_rows
returns-then-size-eq0 g c = rw (eq-eqb c.args.size 0 c.if-size-eq0.true)

pub returns-then-not-rows_fit : goal.returns-then-not-rows_fit
unfolding string_rows
returns-then-not-rows_fit g c = rw (ne_eqb c.args.size 0 c.if-size-eq0.false, fit (c.args.off + c.args.len + 1) c.args.size c.SIZE.ensures c.rows_fit.ensures c.if-not-rows_fit.true)

pub returns-then-not-offsets : goal.returns-then-not-offsets
unfolding string_rows
returns-then-not-offsets g c =
    let a = c.args in
    let w = g.N.Unsigned.SIZE in
    let o : offsets_rows w a.body.now (a.start + w * a.off) a.len ≡ false = rw c.SIZE-2.ensures at (sym c.offsets.ensures ∙ c.if-not-offsets.true) in
    rw (ne_eqb a.size 0 c.if-size-eq0.false, fit (c.args.off + c.args.len + 1) c.args.size c.SIZE.ensures c.rows_fit.ensures c.if-not-rows_fit.false, o)

pub returns : goal.returns
unfolding string_rows
returns g c =
    let a = c.args in
    let w = g.N.Unsigned.SIZE in
    let o : offsets_rows w a.body.now (a.start + w * a.off) a.len ≡ true = rw c.SIZE-2.ensures at (sym c.offsets.ensures ∙ c.if-not-offsets.false) in
    let v : c.to_u64.result ≡ entry w a.body.now (a.start + w * a.off) a.len = c.to_u64.ensures ∙ (rw (c.SIZE-2.ensures, c.SIZE-3.ensures) at c.read.ensures) in
    rw (ne_eqb a.size 0 c.if-size-eq0.false, fit (c.args.off + c.args.len + 1) c.args.size c.SIZE.ensures c.rows_fit.ensures c.if-not-rows_fit.false, o) (ap (λ (k : ℕ). leb k a.most) v)

pub read-requires : goal.read-requires
read-requires g c =
    let a = c.args in
    let w = g.N.Unsigned.SIZE in
    let h : (a.off + a.len + 1) * w ≤ a.size = leb-true _ _ (fit (c.args.off + c.args.len + 1) c.args.size c.SIZE.ensures c.rows_fit.ensures c.if-not-rows_fit.false) in
    let off : c.SIZE-2.result * a.off ≡ w * a.off = ap (λ (k : ℕ). k * a.off) c.SIZE-2.ensures in
    let len : c.SIZE-3.result * a.len ≡ w * a.len = ap (λ (k : ℕ). k * a.len) c.SIZE-3.ensures in
    omega (arith, slots_in w a.off a.len)
