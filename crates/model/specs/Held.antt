-- What a destination holds, counted: the rows of each node and the bytes of byte strings. Assumes nothing.
use Rattle.std.specs.Prelude.{List, ℕ, length}
use Rattle.columnar.specs.Types.{Plain, fixed, string, Ty, t_plain, t_view, t_list_view, t_list, t_sparse, t_dense, t_run_end, t_dictionary}
use Rattle.columnar.specs.Plain.{PlainBody}
use Rattle.model.specs.Grounds.{Counts, counts, leaf, among}
use Rattle.model.specs.Mutable.{Mutable}
use Rattle.model.specs.Transform.{Grown, Destination}

abbrev pub held_node : {D : Type 0} → (D → ℕ → Counts) → Mutable D → Counts
held_node f d = f d.«data» d.len

abbrev pub held_plain : (p : Plain) → PlainBody p → ℕ → Counts
held_plain (fixed k) b l = counts l 0 leaf
held_plain (string w) b l = counts l (length b.chars) leaf

-- the data and the rows of a node
abbrev pub held_data : (t : Ty) → Grown t → ℕ → Counts
held_data (t_plain p) = held_plain p
held_data t_view = λ d l. counts l 0 leaf
held_data (t_list_view w t) = λ d l. counts l 0 (λ e. held_node (held_data t) d.child)
held_data (t_list w t) = λ d l. counts l 0 (λ e. held_node (held_data t) d.child)
held_data (t_sparse ids nullable f) = λ d l. counts l 0 (among ids (λ e. held_node (held_data (f e)) (d.children e)))
held_data (t_dense ids nullable f) = λ d l. counts l 0 (among ids (λ e. held_node (held_data (f e)) (d.children e)))
held_data (t_run_end w t) = λ d l. counts l d.gap (λ e. held_node (held_data t) d.values)
held_data (t_dictionary k p) = λ d l. counts l 0 leaf

abbrev pub held : (t : Ty) → Destination t → Counts
held t = held_node (held_data t)
