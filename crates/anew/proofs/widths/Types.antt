-- EVERY TYPE in other widths: where all numbers fit, each valid slot holds the same and the rules hold. Assumes nothing.
use Rattle.columnar.specs.Types.{Ty}
use Rattle.anew.specs.widths.Widths.{Widths, s_plain, s_view, s_list_view, s_list, s_sparse, s_dense, s_run_end, s_dictionary}
use Rattle.anew.proofs.widths.Node.{Made}
use Rattle.anew.proofs.widths.Lists.{plain_made, view_made, list_view_made, list_made}
use Rattle.anew.proofs.widths.Unions.{sparse_made, dense_made}
use Rattle.anew.proofs.widths.Runs.{run_end_made}
use Rattle.anew.proofs.widths.Keys.{dictionary_made}

pub made : (t t' : Ty) (d : Widths t t') → Made t t' d
made t t' (s_plain p p' d) = plain_made p p' d
made t t' s_view = view_made
made t t' (s_list_view w w' u u' d) = list_view_made w w' u u' d (made u u' d)
made t t' (s_list w w' u u' d) = list_made w w' u u' d (made u u' d)
made t t' (s_sparse ids nullable nullable' f f' e d) = sparse_made ids nullable nullable' f f' e d (λ c m. made (f c) (f' c) (d c m))
made t t' (s_dense ids nullable nullable' f f' e d) = dense_made ids nullable nullable' f f' e d (λ c m. made (f c) (f' c) (d c m))
made t t' (s_run_end w w' u u' d) = run_end_made w w' u u' d (made u u' d)
made t t' (s_dictionary k k' p p' i i' d) = dictionary_made k k' p p' i i' d
