-- `parts::first_fits` meets its contract. Assumes nothing.
use Prim.Native.Nat.{◌+◌, ◌*◌}
use mathlib.Core.Path.{sym, ap, ap₂, ◌∙◌}
use mathlib.Core.Bool.{◌||◌}
use lib.Dec.{leb}
use Rattle.plan.proofs.parts.first_fits.Goals as goal

pub returns-then-is_string-is_list : goal.returns-then-is_string-is_list
returns-then-is_string-is_list c = rw (sym (ap₂ ◌||◌ c.is_string.ensures c.is_list.ensures) ∙ c.if-is_string-is_list.true) (c.offsets_fit.ensures ∙ ap (λ x. leb ((c.args.r + 1) * x) c.args.size) c.width_of.ensures)

pub returns : goal.returns
returns c = rw (sym (ap₂ ◌||◌ c.is_string.ensures c.is_list.ensures) ∙ c.if-is_string-is_list.false) (c.rows_fit.ensures ∙ ap (λ x. leb (c.args.r * x) c.args.size) c.entry_size.ensures)
