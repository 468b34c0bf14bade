-- ONE SOURCE OF EVERY TYPE IS LAWFUL, with nothing asked of its dictionaries but the rules of a source. Assumes nothing.
use native.Mathlib.Omega.{arith}
use lib.ListN.{length-append}
use Rattle.columnar.specs.Types.{Ty, t_plain, t_view, t_list_view, t_list, t_sparse, t_dense, t_run_end, t_dictionary}
use Rattle.columnar.specs.Reading.{Column, Source}
use Rattle.model.specs.Ordered.{null_row}
use Rattle.model.proofs.Law.{Law}
use Rattle.model.proofs.Nodes.{kind_of, null_is}
use Rattle.model.proofs.PlainLaw.{plain_law}
use Rattle.model.proofs.ViewLaw.{view_law}
use Rattle.model.proofs.ListLaw.{list_law}
use Rattle.model.proofs.ListsLaw.{lists_law}
use Rattle.model.proofs.SparseLaw.{sparse_law}
use Rattle.model.proofs.DenseLaw.{dense_law}
use Rattle.model.proofs.RunsLaw.{runs_law}
use Rattle.anew.specs.lists.Fresh.{FewBuffers}
use Rattle.anew.proofs.lists.OneDictionary.{one_dictionary}

pub one_law : (t : Ty) (x : Column t) → Source t x → FewBuffers t x → Law (kind_of t 1 (λ i. x.body)) 1 (λ i. x)
one_law (t_plain p) x s v = plain_law p 1 (λ i. x) (λ j q. s)
one_law t_view x s v = view_law 1 (λ i. x) (λ j q. s) (rw length-append (omega (arith, v)))
one_law (t_list_view w t) x s v = list_law w (kind_of t 1 (λ i. x.body.child.body)) 1 (λ i. x) (λ j q. s) (one_law t x.body.child s.slots.child_rule v)
one_law (t_list w t) x s v = lists_law w (kind_of t 1 (λ i. x.body.child.body)) 1 (λ i. x) (λ j q. s) (one_law t x.body.child s.slots.child_rule v)
one_law (t_sparse ids nullable f) x s v =
    sparse_law ids nullable (λ c. kind_of (f c) 1 (λ i. (x.body.children c).body)) (λ c. null_row (f c)) 1 (λ i. x) (λ j q. s)
    (λ c m. one_law (f c) (x.body.children c) (s.slots.child_rule c m) (v c m)) (λ c. null_is (f c) 1 (λ i. (x.body.children c).body))
one_law (t_dense ids nullable f) x s v =
    dense_law ids nullable (λ c. kind_of (f c) 1 (λ i. (x.body.children c).body)) (λ c. null_row (f c)) 1 (λ i. x) (λ j q. s)
    (λ c m. one_law (f c) (x.body.children c) (s.slots.child_rule c m) (v c m)) (λ c. null_is (f c) 1 (λ i. (x.body.children c).body))
one_law (t_run_end w t) x s v =
    runs_law w (kind_of t 1 (λ i. x.body.values.body)) (null_row t) 1 (λ i. x) (λ j q. s) (one_law t x.body.values s.slots.child_rule v)
    (null_is t 1 (λ i. x.body.values.body))
one_law (t_dictionary k p) x s v = one_dictionary k p x s
