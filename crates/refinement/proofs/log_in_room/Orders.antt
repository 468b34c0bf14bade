-- What an order writes at the nodes of a type. Assumes nothing.
use mathlib.Core.List.{List}
use Prim.Native.Nat.{ℕ}
use native.Mathlib.Nat.{le_refl}
use Rattle.columnar.specs.Types.{Ty}
use Rattle.walk.specs.State.{Join, end_of}
use Rattle.walk.specs.Copy.{copy_walk}
use Rattle.walk.specs.Nulls.{null_walk}
use Rattle.refinement.specs.walk_is_model.Holds.{Worded}
use Rattle.refinement.specs.log_in_room.Room.{AllBelow, AllUsed}
use Rattle.refinement.specs.log_in_room.Reach.{UsedAt, Typed, typed, Among, Free, Tabled}
use Rattle.refinement.proofs.log_in_room.Copies.{used_copies}
use Rattle.refinement.proofs.log_in_room.Fills.{used_nulls}
use Rattle.refinement.proofs.log_in_room.Closure.{closed_free}

module _ (x : Join) (k : ℕ) (t : Ty) (i : ℕ) (worded : Worded x.plan k t i) (free : Free x.plan i) (table : Tabled x.plan (end_of x.plan i)) where
  -- a buffer of a node of the type, its dictionaries' values aside
  abbrev pub Own : ℕ → ℕ → Type 0
  Own = UsedAt x.plan (λ j. Among i (end_of x.plan i) j × Free x.plan j)

  root : Typed x.plan i (end_of x.plan i) i × Free x.plan i
  root = (typed k t worded (le_refl i) (le_refl (end_of x.plan i)), free)

  pub copy_used : AllBelow 256 x.body → (depth a n : ℕ) (c : List ℕ) → AllUsed Own (copy_walk x depth i a n c).log
  copy_used body depth a n c = used_copies x _ _ (closed_free x.plan i (end_of x.plan i) table) body depth i a n c root

  pub nulls_used : (depth n : ℕ) (c : List ℕ) → AllUsed Own (null_walk x depth i n c).log
  nulls_used depth n c = used_nulls x _ _ (closed_free x.plan i (end_of x.plan i) table) depth i n c root
