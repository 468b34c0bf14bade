-- `parts::second_fits` meets its contract. Assumes nothing.
use Prim.Native.Nat.{◌*◌}
use mathlib.Core.Path.{sym, ap, ◌∙◌}
use lib.Dec.{leb}
use Rattle.plan.proofs.parts.second_fits.Goals as goal

pub returns-then-is_string : goal.returns-then-is_string
returns-then-is_string c = rw (sym c.is_string.ensures ∙ c.if-is_string.true)

pub returns-then-is_list_view : goal.returns-then-is_list_view
returns-then-is_list_view c = rw (sym c.is_string.ensures ∙ c.if-is_string.false, sym c.is_list_view.ensures ∙ c.if-is_list_view.true) (c.rows_fit.ensures ∙ ap (λ x. leb (c.args.r * x) c.args.size) c.width_of.ensures)

pub returns : goal.returns
returns c = rw (sym c.is_string.ensures ∙ c.if-is_string.false, sym c.is_list_view.ensures ∙ c.if-is_list_view.false) c.rows_fit-2.ensures
