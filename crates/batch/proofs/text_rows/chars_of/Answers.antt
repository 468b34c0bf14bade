-- `batch::text_rows::chars_of` meets its contract. Assumes nothing.
use mathlib.Core.Path.{◌≡◌, refl}
use mathlib.Core.Bool.{true}
use Prim.Native.Nat.{◌+◌, ◌*◌}
use native.Mathlib.Nat.{le_refl}
use native.Mathlib.Omega.{arith}
use lib.ListN.{length}
use Rattle.array_data.proofs.lent_tables.Laws.{yes}
use Rattle.batch.specs.Stretch.{never_falls}
use Rattle.batch.proofs.Strings.{rises}
use Rattle.batch.proofs.batch_walk.Sums.{step_in}
use Rattle.batch.proofs.text_rows.chars_of.Goals as goal

pub overflow_sub-result : goal.overflow_sub-result
overflow_sub-result c = let a = c.args in let t : never_falls a.w a.body.now (a.at + a.w * a.slot) a.m ≡ true = yes c.never_falls.ensures c.if-not-never_falls.false-raw in let u = rises a.w a.body.now (a.at + a.w * a.slot) a.m t 0 a.m (omega arith) (le_refl a.m) in omega (arith, c.entry_at.ensures, c.entry_at-end.ensures)
