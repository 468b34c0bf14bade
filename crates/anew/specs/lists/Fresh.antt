-- A destination with no rows for a copy of one column: "a node keeping nulls exactly where the node it comes from has one" (W1).
-- Assumes nothing.
use Rattle.std.specs.Prelude.{false, [], ◌≤◌, length, ltb}
use Rattle.number.specs.Number.{encode}
use Rattle.columnar.specs.Types.{Ty, t_plain, t_view, t_list_view, t_list, t_sparse, t_dense, t_run_end, t_dictionary}
use Rattle.columnar.specs.Array.{Array, null_count_of}
use Rattle.columnar.specs.Reading.{Body, Column}
use Rattle.model.specs.Mutable.{Mutable, start_node}
use Rattle.model.specs.Primitive.{plain_start}
use Rattle.model.specs.Sources.{EachView}
use Rattle.model.specs.Transform.{Grown, Destination}

abbrev pub fresh_node : {B D : Type 0} → (B → D) → Array B → Mutable D
fresh_node f x = start_node (ltb 0 (null_count_of x)) (f x.body)

abbrev pub fresh_data : (t : Ty) → Body t → Grown t
fresh_data (t_plain p) = λ b. plain_start p
fresh_data t_view = λ b. []
fresh_data (t_list_view w t) = λ b. record { buffer1 = []; buffer2 = []; child = fresh_node (fresh_data t) b.child }
fresh_data (t_list w t) = λ b. record { buffer1 = encode w 0; child = fresh_node (fresh_data t) b.child }
fresh_data (t_sparse ids nullable f) = λ b. record { buffer1 = []; children = λ c. fresh_node (fresh_data (f c)) (b.children c) }
fresh_data (t_dense ids nullable f) = λ b. record { buffer1 = []; buffer2 = []; children = λ c. fresh_node (fresh_data (f c)) (b.children c) }
fresh_data (t_run_end w t) = λ b. record { ends = start_node false []; values = fresh_node (fresh_data t) b.values; gap = 0 }
fresh_data (t_dictionary k p) = λ b. []

abbrev pub fresh : (t : Ty) → Column t → Destination t
fresh t = fresh_node (fresh_data t)

-- "at most 32 data buffers per view node" (01): a ceiling that every lent column keeps
abbrev pub FewBuffers : (t : Ty) → Column t → Type 0
FewBuffers t x = EachView (λ v. length v.buffers ≤ 32) t x.body
