-- EVERY TYPE IS LAWFUL. Assumes nothing.
use Prim.Native.Nat.{ℕ, ◌<◌}
use Rattle.columnar.specs.Types.{Ty, t_plain, t_view, t_list_view, t_list, t_sparse, t_dense, t_run_end, t_dictionary}
use Rattle.columnar.specs.Reading.{Column, Source}
use Rattle.model.specs.Ordered.{null_row}
use Rattle.model.proofs.Law.{Law}
use Rattle.model.proofs.Nodes.{kind_of, null_is}
use Rattle.model.proofs.Owed.{Ready}
use Rattle.model.proofs.PlainLaw.{plain_law}
use Rattle.model.proofs.ViewLaw.{view_law}
use Rattle.model.proofs.ListLaw.{list_law}
use Rattle.model.proofs.ListsLaw.{lists_law}
use Rattle.model.proofs.SparseLaw.{sparse_law}
use Rattle.model.proofs.DenseLaw.{dense_law}
use Rattle.model.proofs.RunsLaw.{runs_law}
use Rattle.model.proofs.DictionaryLaw.{dictionary_law}

pub law : (t : Ty) (m : ℕ) (ss : ℕ → Column t) → ((j : ℕ) → j < m → Source t (ss j)) → Ready t m (λ i. (ss i).body) → Law (kind_of t m (λ i. (ss i).body)) m ss
law (t_plain p) m ss g r = plain_law p m ss g
law t_view m ss g r = view_law m ss g r
law (t_list_view w t) m ss g r =
    list_law w (kind_of t m (λ i. (ss i).body.child.body)) m ss g (law t m (λ i. (ss i).body.child) (λ j h. (g j h).slots.child_rule) r)
law (t_list w t) m ss g r =
    lists_law w (kind_of t m (λ i. (ss i).body.child.body)) m ss g (law t m (λ i. (ss i).body.child) (λ j h. (g j h).slots.child_rule) r)
law (t_sparse ids nullable f) m ss g r =
    sparse_law ids nullable (λ c. kind_of (f c) m (λ i. ((ss i).body.children c).body)) (λ c. null_row (f c)) m ss g
    (λ c q. law (f c) m (λ i. (ss i).body.children c) (λ j h. (g j h).slots.child_rule c q) (r c q))
    (λ c. null_is (f c) m (λ i. ((ss i).body.children c).body))
law (t_dense ids nullable f) m ss g r =
    dense_law ids nullable (λ c. kind_of (f c) m (λ i. ((ss i).body.children c).body)) (λ c. null_row (f c)) m ss g
    (λ c q. law (f c) m (λ i. (ss i).body.children c) (λ j h. (g j h).slots.child_rule c q) (r c q))
    (λ c. null_is (f c) m (λ i. ((ss i).body.children c).body))
law (t_run_end w t) m ss g r =
    runs_law w (kind_of t m (λ i. (ss i).body.values.body)) (null_row t) m ss g
    (law t m (λ i. (ss i).body.values) (λ j h. (g j h).slots.child_rule) r) (null_is t m (λ i. (ss i).body.values.body))
law (t_dictionary k p) m ss g r = dictionary_law k p m ss g r.0 r.1
