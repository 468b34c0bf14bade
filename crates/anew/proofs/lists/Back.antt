-- A list column as a list-view column and back. Assumes nothing.
use mathlib.Core.Path.{◌≡◌, ◌∙◌}
use Prim.Native.Nat.{ℕ}
use Rattle.columnar.specs.Types.{Ty, t_list}
use Rattle.columnar.specs.Formed.{Formed}
use Rattle.columnar.specs.Reading.{Column, read_all, Source}
use Rattle.model.specs.Try.{done}
use Rattle.anew.specs.lists.Fresh.{FewBuffers}
use Rattle.anew.specs.lists.Viewed.{viewed}
use Rattle.anew.specs.lists.Listed.{listed}
use Rattle.anew.proofs.lists.Named.{named_views}
use Rattle.anew.proofs.lists.Viewed.{viewed_rows, viewed_source}
use Rattle.anew.proofs.lists.Listed.{listed_rows}

-- THERE AND BACK: where it is accepted, the rows are those of the beginning
pub back : (w : ℕ) (t : Ty) (x y : Column (t_list w t)) → Formed (t_list w t) → Source (t_list w t) x → FewBuffers (t_list w t) x → listed w t (viewed w t x) ≡ done y
    → read_all (t_list w t) y ≡ read_all (t_list w t) x
back w t x y g s few e =
    listed_rows w t (viewed w t x) g (viewed_source w t x s) (named_views _ t x.body.child.body few) y e ∙ viewed_rows w t x s
