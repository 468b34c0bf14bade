-- `leaf_data::null_list_view` meets its contract. Assumes nothing.
use Rattle.walk.specs.Nulls.{null_list_view}
use Rattle.walk.proofs.Laws.{next_no, next_ok}
use Rattle.nested_rows.proofs.node_data.null_list_view.Goals as goal

pub returns-then-r-ne0 : goal.returns-then-r-ne0
unfolding null_list_view
returns-then-r-ne0 c = λ lengths places body first source child. next_no _ (c.null_numbers-r.ensures lengths places body first source) c.if-r-ne0.true

pub returns : goal.returns
unfolding null_list_view
returns c = λ lengths places body first source child. next_ok _ (c.null_numbers-r.ensures lengths places body first source) c.if-r-ne0.false (c.null_numbers.ensures lengths places body first source)
