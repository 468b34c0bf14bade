-- A column that is named where it stands and not copied: "validity with no zero bit among the rows counts as absent" (01), at every node.
-- Assumes nothing.
use Rattle.std.specs.Prelude.{cond, eqb}
use Rattle.std.proofs.Math.Option.{none}
use Rattle.columnar.specs.Types.{Ty, t_plain, t_view, t_list_view, t_list, t_sparse, t_dense, t_run_end, t_dictionary}
use Rattle.columnar.specs.Array.{Array, null_count_of}
use Rattle.columnar.specs.Reading.{Body, Column}
use Rattle.model.specs.Opening.{present}

-- the same rows of the same slots, over the body that `f` makes of its own
abbrev pub named_node : {B : Type 0} → (B → B) → Array B → Array B
named_node f x = record { len = x.len; off = x.off; valid = cond (eqb (null_count_of x) 0) none x.valid; body = f x.body }

-- the same buffers, over children that are named
abbrev pub named_body : (t : Ty) → Body t → Body t
named_body (t_plain p) = λ b. b
named_body t_view = λ b. b
named_body (t_list_view w t) = λ b. record { offsets = b.offsets; sizes = b.sizes; child = named_node (named_body t) b.child }
named_body (t_list w t) = λ b. record { offsets = b.offsets; child = named_node (named_body t) b.child }
named_body (t_sparse ids nullable f) = λ b. record { ids = b.ids; children = λ c. named_node (named_body (f c)) (b.children c) }
named_body (t_dense ids nullable f) = λ b. record { ids = b.ids; positions = b.positions; children = λ c. named_node (named_body (f c)) (b.children c) }
named_body (t_run_end w t) = λ b. record { ends = present b.ends; values = named_node (named_body t) b.values }
named_body (t_dictionary k p) = λ b. record { keys = b.keys; values = present b.values; starts = b.starts }

-- A COLUMN NAMED
abbrev pub named : (t : Ty) → Column t → Column t
named t = named_node (named_body t)
