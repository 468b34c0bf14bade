-- The walk of a list-view column reads no parts: they only say where its log goes. Assumes nothing.
use mathlib.Core.Path.{◌≡◌, ap, fun_ext}
use mathlib.Core.Bool.{cond, ◌&&◌}
use mathlib.Core.List.{List, []}
use Prim.Native.Nat.{ℕ, ◌+◌}
use lib.Dec.{ltb}
use Rattle.columnar.specs.Types.{half}
use Rattle.columnar.specs.Array.{ok}
use Rattle.array_data.specs.Tables.{Tables}
use Rattle.walk.specs.State.{bytes_of, rows, add_rows, place, length_of, offset_of, rows_in}
use Rattle.walk.specs.Log.{done, need, next, each}
use Rattle.walk.specs.Leaves.{copy_bits, copy_mask}
use Rattle.measure.proofs.Placeless.{walk_same}
use Rattle.plan.specs.parts.Parts.{nodes_of}
use Rattle.refinement.specs.orders.Order.{Lent, join_of}
use Rattle.refinement.specs.opening.Open.{first_offset}
use Rattle.convert.specs.convert_lists.Listing.{validity, offset_at, size_at, end_row, copy_row, list_row, list_rows, list_walk}
use Rattle.convert.specs.convert_lists.ToList.{lent_with}

module _ (z : Tables) (plan parts : List ℕ) (first n : ℕ) where
  abbrev l : Lent
  l = lent_with z plan parts first n

  abbrev bare : Lent
  bare = lent_with z plan [] first n

  row_same : (w r : ℕ) (c : List ℕ) → list_row (join_of l 0) w r c ≡ list_row (join_of bare 0) w r c
  unfolding list_row copy_row end_row
  row_same w r c =
      ap (λ o.
      cond (ok (validity (join_of bare 0) w) (offset_of (join_of bare 0) 0 + r)) (need (ltb (rows c 1 + size_at (join_of bare 0) w r) (half w)) 6 c (next o (λ c2. end_row (join_of bare 0) w r c2)))
      (end_row (join_of bare 0) w r c))
      (walk_same plan parts [] z.lengths z.places z.body first 0 7 1 (offset_at (join_of bare 0) w r) (size_at (join_of bare 0) w r) c)

  rows_same : (w m : ℕ) (c : List ℕ) → list_rows (join_of l 0) w m c ≡ list_rows (join_of bare 0) w m c
  unfolding list_rows rows_in
  rows_same w m c =
      ap (λ f. need (rows_in (join_of bare 0) (place (join_of bare 0) 0 3) w (offset_of (join_of bare 0) 0) m && rows_in (join_of bare 0) (place (join_of bare 0) 0 5) w (offset_of (join_of bare 0) 0) m) 12 c (each f m 0 c))
      (fun_ext (λ r. fun_ext (λ c2. row_same w r c2)))

  pub list_same : (c : List ℕ) → list_walk l c ≡ list_walk bare c
  unfolding list_walk copy_mask copy_bits first_offset
  list_same c =
      ap (λ f.
      next (each (first_offset bare) (nodes_of plan) 0 c)
      (λ c1. next (copy_mask (join_of bare 0) 0 (offset_of (join_of bare 0) 0) (length_of (join_of bare 0) 0) c1) (λ c2. next (f c2) (λ c3. done (add_rows 0 (length_of (join_of bare 0) 0) c3)))))
      (fun_ext (λ c2. rows_same (bytes_of plan 0) (length_of (join_of bare 0) 0) c2))
