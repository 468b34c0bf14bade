-- `batch::text_rows::list_chars` meets its contract. Assumes nothing.
use mathlib.Core.Path.{refl, ap, subst, ◌∙◌}
use Prim.Native.Nat.{◌+◌, ◌≤◌}
use native.Mathlib.Omega.{arith}
use lib.ListN.{length}
use Rattle.number.specs.Number.{entry}
use Rattle.batch.specs.batch_walk.Texts.{chars_of, Rising}
use Rattle.batch.proofs.batch_walk.Sums.{entry_in_lem, grown_none, grown_more}
use Rattle.batch.proofs.batch_walk.TextRows.{row_in, rows_more, not_top}
use Rattle.batch.proofs.text_rows.list_chars.Goals as goal

pub loop-r-preserved : goal.loop-r-preserved
loop-r-preserved c = let a = c.args in let l = c.loop-r in let ens = c.chars_of-d.ensures c.if-d.false in let e1 = c.entry_at-a.ensures in let e2 = c.entry_at-m.ensures in (rows_more (λ q. Rising a.v a.body.now a.at a.most (a.offset + entry a.w a.body.now a.offsets (a.slot + q)) (entry a.w a.body.now a.sizes (a.slot + q))) l.r l.invariant.0 (subst (λ z. Rising a.v a.body.now a.at a.most (a.offset + z) (entry a.w a.body.now a.sizes (a.slot + l.r))) e1 (subst (λ z. Rising a.v a.body.now a.at a.most (a.offset + c.entry_at-a.result) z) e2 ens.0)), grown_more (λ q. chars_of a.v a.body.now a.at (a.offset + entry a.w a.body.now a.offsets (a.slot + q)) (entry a.w a.body.now a.sizes (a.slot + q))) 0 l.r l.invariant.1 (ens.1 ∙ ap (λ z. chars_of a.v a.body.now a.at (a.offset + z) c.entry_at-m.result) e1 ∙ ap (λ z. chars_of a.v a.body.now a.at (a.offset + entry a.w a.body.now a.offsets (a.slot + l.r)) z) e2) c.grow-sum.ensures)

pub loop-r-init : goal.loop-r-init
loop-r-init c = let a = c.args in (λ q h. absurd (omega arith), grown_none (λ q. chars_of a.v a.body.now a.at (a.offset + entry a.w a.body.now a.offsets (a.slot + q)) (entry a.w a.body.now a.sizes (a.slot + q))) 0 (omega arith))

pub returns : goal.returns
returns c = let a = c.args in let l = c.loop-r in λ ne. (λ q h. l.invariant.0 q (omega arith), not_top (λ q. chars_of a.v a.body.now a.at (a.offset + entry a.w a.body.now a.offsets (a.slot + q)) (entry a.w a.body.now a.sizes (a.slot + q))) l.r a.n l.invariant.1 (omega arith) ne)
