-- AN ACCEPTED CONVERSION IS LAID OUT AS BY ONE COPY OF THE COLUMN'S ROWS (W13), over lent memory. Assumes nothing.
use mathlib.Core.Path.{◌≡◌}
use mathlib.Core.Bool.{true}
use mathlib.Core.List.{List, [], ◌∷◌}
use Prim.Native.Nat.{ℕ, zero, suc, ◌+◌}
use native.Mathlib.Omega.{arith}
use lib.ListN.{take, drop}
use lib.Seq.{get_or-drop}
use Rattle.columnar.specs.Types.{Ty}
use Rattle.columnar.specs.Formed.{Formed}
use Rattle.columnar.specs.Reading.{Column}
use Rattle.columnar.specs.Kids.{kid_node, body_down}
use Rattle.columnar.proofs.Kids.{below_from}
use Rattle.refinement.proofs.plan_is_type.Kids.{body_kid}
use Rattle.model.specs.Transform.{extend}
use Rattle.array_data.specs.Tables.{Tables, place}
use Rattle.array_data.specs.Typed.{Tree, node_of, tables_from, body_of, column_of}
use Rattle.array_data.specs.type_tree.Lent.{tree_of, type_of}
use Rattle.array_data.proofs.type_tree.Lent.{formed}
use Rattle.refinement.specs.log_in_room.Room.{AllBelow}
use Rattle.columns.specs.Grounds.{column_ground}
use Rattle.anew.specs.lists.Fresh.{fresh}
use Rattle.anew.specs.widths.OneCopy.{ByteViews}
use Rattle.anew.specs.widths.Layout.{LaidAs, Steady}
use Rattle.anew.proofs.widths.Layout.{laid_as}
use Rattle.anew.proofs.widths.Copied.{Done, copy_done}
use Rattle.width_walks.specs.target_rules.Target.{is_target}
use Rattle.width_walks.specs.Call.{convert}
use Rattle.width_walks.proofs.Lent.{typed_here, low_here, source_here}
use Rattle.width_walks.proofs.Answer.{widths, all_fit}
use Rattle.widths.proofs.Theorems.{turned, walk_done}

-- ---- the views of a lent column are bytes

taken : (n : ℕ) (l : List ℕ) → AllBelow 256 l → AllBelow 256 (take n l)
taken zero l h i = omega arith
taken (suc n) [] h i = omega arith
taken (suc n) (x ∷ l) h zero = h 0
taken (suc n) (x ∷ l) h (suc i) = taken n l (λ j. h (suc j)) i

dropped : (n : ℕ) (l : List ℕ) → AllBelow 256 l → AllBelow 256 (drop n l)
dropped n l h i = rw get_or-drop (h (n + i))

views_bytes : (tree : Tree) (y : Tables) → AllBelow 256 y.body → (t : Ty) (i : ℕ) → ByteViews t (body_of tree y t i)
views_bytes tree y h t i =
    below_from body_down _ _ {S = λ t. ℕ} (λ t i. body_of tree y t i) (λ t i k. (kid_node (node_of tree) t i k, body_kid tree y t i k))
    (λ i. taken (place y i 4) (drop (place y i 3) y.body) (dropped (place y i 3) y.body h)) (λ n p i. tt) t i

module _ (formats schema : List ℕ) (x : Tables) (first n target : ℕ) (parts plan counters room : List ℕ) (ok : column_ground formats schema x first n ≡ 0) (h : is_target formats schema first n target n ≡ true)
    (bytes : AllBelow 256 x.body) where
  abbrev from : Ty
  from = type_of formats schema first n

  abbrev to : Ty
  to = type_of formats schema target n

  abbrev here : Column from
  here = column_of (tree_of formats schema first n) (tables_from x first) from 0

  admitted : Formed from
  admitted = formed formats schema first n (typed_here formats schema x first n ok) (low_here formats schema x first n ok)

  -- "LAID OUT AS BY ONE COPY OF THE COLUMN'S ROWS, save that ..", whatever the widths: so is the column that the finished tables describe (`convert-result`)
  pub laid_out_lem : AllBelow 256 room → (convert formats schema x first n target n parts plan counters room).refusal ≡ 0
      → LaidAs from to (widths formats schema x first n target parts ok h bytes) here 0 here.len (turned formats schema x first n target parts plan counters room ok h bytes)
  laid_out_lem room_bytes accepted =
      laid_as from to (widths formats schema x first n target parts ok h bytes) here admitted (source_here formats schema x first n ok) (views_bytes (tree_of formats schema first n) (tables_from x first) bytes from 0)
      (all_fit formats schema x first n target parts ok h bytes (walk_done formats schema x first n target parts plan counters room ok h bytes room_bytes accepted))

  -- there is such a copy, where no list-view and no dense union is below
  pub copy_there : Steady from → Done (extend from 1 (λ j. here) 0 0 here.len (fresh from here))
  copy_there steady = copy_done from steady admitted here (source_here formats schema x first n ok)
