-- `batch::dense_rows::taken_chars` meets its contract. Assumes nothing.
use mathlib.Core.Path.{refl, ap, subst, ◌∙◌}
use Prim.Native.Nat.{◌+◌, ◌≤◌}
use native.Mathlib.Omega.{arith}
use lib.ListN.{length}
use Rattle.number.specs.Number.{entry}
use Rattle.batch.specs.batch_walk.Fall.{home_by, takes_of, takes_from}
use Rattle.batch.specs.batch_walk.Texts.{chars_of, Rising}
use Rattle.batch.proofs.batch_walk.Sums.{entry_in_lem, grown_none, grown_more}
use Rattle.batch.proofs.batch_walk.TextRows.{row_in, rows_more, not_top}
use Rattle.batch.proofs.dense_rows.taken_chars.Goals as goal

pub loop-r-preserved : goal.loop-r-preserved
loop-r-preserved c = let a = c.args in let l = c.loop-r in let ens = c.chars_of-d.ensures c.if-d.false in let e1 = c.start_at-a.ensures in let e2 = c.size_at-m.ensures in (rows_more (λ q. Rising a.v a.body.now a.at a.most (a.offset + takes_from (λ q. home_by a.homes.now a.body.now (a.ids + (a.slot + q))) (λ q. entry 4 a.body.now a.positions (a.slot + q)) a.k (q)) (takes_of (λ q. home_by a.homes.now a.body.now (a.ids + (a.slot + q))) a.k (q))) l.r l.invariant.0 (subst (λ y. Rising a.v a.body.now a.at a.most (a.offset + y) (takes_of (λ q. home_by a.homes.now a.body.now (a.ids + (a.slot + q))) a.k l.r)) e1 (subst (λ y. Rising a.v a.body.now a.at a.most (a.offset + c.start_at-a.result) y) e2 ens.0)), grown_more (λ q. chars_of a.v a.body.now a.at (a.offset + takes_from (λ q. home_by a.homes.now a.body.now (a.ids + (a.slot + q))) (λ q. entry 4 a.body.now a.positions (a.slot + q)) a.k (q)) (takes_of (λ q. home_by a.homes.now a.body.now (a.ids + (a.slot + q))) a.k (q))) 0 l.r l.invariant.1 (ens.1 ∙ ap (λ y. chars_of a.v a.body.now a.at (a.offset + y) c.size_at-m.result) e1 ∙ ap (λ y. chars_of a.v a.body.now a.at (a.offset + takes_from (λ q. home_by a.homes.now a.body.now (a.ids + (a.slot + q))) (λ q. entry 4 a.body.now a.positions (a.slot + q)) a.k l.r) y) e2) c.grow-sum.ensures)

pub returns : goal.returns
returns c = let a = c.args in let l = c.loop-r in λ ne. (λ q h. l.invariant.0 q (omega arith), not_top (λ q. chars_of a.v a.body.now a.at (a.offset + takes_from (λ q. home_by a.homes.now a.body.now (a.ids + (a.slot + q))) (λ q. entry 4 a.body.now a.positions (a.slot + q)) a.k (q)) (takes_of (λ q. home_by a.homes.now a.body.now (a.ids + (a.slot + q))) a.k (q))) l.r a.n l.invariant.1 (omega arith) ne)

pub loop-r-init : goal.loop-r-init
loop-r-init c = let a = c.args in (λ q h. absurd (omega arith), grown_none (λ q. chars_of a.v a.body.now a.at (a.offset + takes_from (λ q. home_by a.homes.now a.body.now (a.ids + (a.slot + q))) (λ q. entry 4 a.body.now a.positions (a.slot + q)) a.k (q)) (takes_of (λ q. home_by a.homes.now a.body.now (a.ids + (a.slot + q))) a.k (q))) 0 (omega arith))
