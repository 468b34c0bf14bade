-- A destination that the parts hold has fewer rows than a slot counts. Assumes nothing.
use mathlib.Core.Path.{◌≡◌, ap}
use mathlib.Core.Bool.{true, ◌&&◌}
use mathlib.Core.List.{List, [], ◌∷◌}
use Prim.Native.Nat.{ℕ, zero, suc, ◌*◌, ◌≤◌, ◌<◌, ◌^◌}
use native.Mathlib.Nat.{mul-suc}
use native.Mathlib.Omega.{arith}
use lib.ListN.{length}
use lib.Dec.{leb}
use borrow.Author.Tests.{leb-true}
use Rattle.array_data.proofs.lent_tables.Laws.{and_left, and_right}
use Rattle.columnar.specs.Types.{Number, int, uint, w1, w2, w4, w8, f32, f64, width, fixed, string, Ty, t_plain, t_view, t_list_view, t_list, t_sparse, t_dense, t_run_end, t_dictionary}
use Rattle.columnar.specs.Formed.{OffsetWidth, Formed}
use Rattle.columnar.specs.Reading.{Column, masks}
use Rattle.walk.specs.State.{code_of, far}
use Rattle.model.specs.Transform.{Destination}
use Rattle.model.proofs.Law.{FineNode}
use Rattle.model.proofs.Nodes.{FineOf}
use Rattle.refinement.specs.walk_is_model.Holds.{Worded}
use Rattle.plan.specs.parts.Parts.{buffer_count, size_of}
use Rattle.refinement.specs.orders.Fits.{buffers_of, fits_bits, fits_all, fits_below, fits}
use Rattle.refinement.proofs.orders.Buffers.{fixed_one, string_two, view_one, list_two, lists_one}
use Rattle.refinement.proofs.orders.Far.{half_run}

le_mul : (l w : ℕ) → 0 < w → l ≤ l * w
le_mul l zero p = absurd (omega arith)
le_mul l (suc w) p = rw (mul-suc l w) (omega arith)

width_pos : (n : Number) → 0 < width n
width_pos (int w1) = omega arith
width_pos (uint w1) = omega arith
width_pos (int w2) = omega arith
width_pos (uint w2) = omega arith
width_pos (int w4) = omega arith
width_pos (uint w4) = omega arith
width_pos (int w8) = omega arith
width_pos (uint w8) = omega arith
width_pos f32 = omega arith
width_pos f64 = omega arith

offset_pos : (w : ℕ) → OffsetWidth w → 0 < w
offset_pos _ OffsetWidth.four = omega arith
offset_pos _ OffsetWidth.eight = omega arith

module _ (plan parts : List ℕ) (m : ℕ) where
  pub own_in : (t : Ty) (i : ℕ) (d : Destination t) → fits plan parts t i d ≡ true → fits_all plan parts i 0 (buffers_of t d.«data») ≡ true
  own_in t i d h =
      and_right (fits_bits plan parts i (masks t) d.bits d.len) (fits_all plan parts i 0 (buffers_of t d.«data»))
      (and_left (fits_bits plan parts i (masks t) d.bits d.len && fits_all plan parts i 0 (buffers_of t d.«data»)) (fits_below plan parts t i d.«data») h)

  first_in : (i : ℕ) (s : List ℕ) (rest : List (List ℕ)) → fits_all plan parts i 0 (s ∷ rest) ≡ true → length s ≤ size_of plan parts i 1
  first_in i s rest h = leb-true _ _ (and_left (leb (length s) (size_of plan parts i 1)) (fits_all plan parts i 1 rest) h)

  -- a part has fewer bytes than a room may have: the root's own buffers say so
  pub short_own : (k : ℕ) (t : Ty) (ss : ℕ → Column t) (d : Destination t) → Worded plan k t 0 → Formed t → FineNode (masks t) (FineOf t m (λ j. (ss j).body)) m ss d
      → fits_all plan parts 0 0 (buffers_of t d.«data») ≡ true → (0 < buffer_count (code_of plan 0) → size_of plan parts 0 1 < 2 ^ 63) → d.len < far
  short_own (suc k) (t_plain (fixed n)) ss d w o f h r =
      let z = fixed_one (code_of plan 0) w.3.0 in
      omega (arith, r (omega arith), first_in 0 d.«data» [] h, f.data_fine, le_mul d.len (width n) (width_pos n))
  short_own (suc k) (t_plain (string v)) ss d w o f h r =
      let z = string_two (code_of plan 0) w.3.0 in
      omega (arith, r (omega arith), first_in 0 d.«data».offsets (d.«data».chars ∷ []) h, f.data_fine.offsets_are, le_mul (suc d.len) v (offset_pos v o))
  short_own (suc k) t_view ss d w o f h r =
      let z = view_one (code_of plan 0) w.2 in
      omega (arith, r (omega arith), first_in 0 d.«data» [] h, f.data_fine.views_are, le_mul d.len 16 (omega arith))
  short_own (suc k) (t_list_view v t) ss d w o f h r =
      let z = list_two (code_of plan 0) w.2 in
      omega (arith, r (omega arith), first_in 0 d.«data».buffer1 (d.«data».buffer2 ∷ []) h, f.data_fine.offsets_are, le_mul d.len v (offset_pos v o.0))
  short_own (suc k) (t_list v t) ss d w o f h r =
      let z = lists_one (code_of plan 0) w.2 in
      omega (arith, r (omega arith), first_in 0 d.«data».buffer1 [] h, f.data_fine.offsets_fine.offsets_are, le_mul (suc d.len) v (offset_pos v o.0))
  short_own (suc k) (t_sparse ids nullable g) ss d w o f h r =
      let z : buffer_count (code_of plan 0) ≡ 1 = ap buffer_count w.1 in
      omega (arith, r (omega arith), first_in 0 d.«data».buffer1 [] h, f.data_fine.ids_are)
  short_own (suc k) (t_dense ids nullable g) ss d w o f h r =
      let z : buffer_count (code_of plan 0) ≡ 2 = ap buffer_count w.1 in
      omega (arith, r (omega arith), first_in 0 d.«data».buffer1 (d.«data».buffer2 ∷ []) h, f.data_fine.ids_are)
  short_own (suc k) (t_run_end v t) ss d w o f h r = let z = half_run v o.0 in omega (arith, f.data_fine.fits)
  short_own (suc k) (t_dictionary n p) ss d w o f h r =
      let z = fixed_one (code_of plan 0) w.3 in
      omega (arith, r (omega arith), first_in 0 d.«data» [] h, f.data_fine.keys_are, le_mul d.len (width n) (width_pos n))
  short_own zero t ss d w o f h r = elim w [ ]

  pub short : (k : ℕ) (t : Ty) (ss : ℕ → Column t) (d : Destination t) → Worded plan k t 0 → Formed t → FineNode (masks t) (FineOf t m (λ j. (ss j).body)) m ss d
      → fits plan parts t 0 d ≡ true → (0 < buffer_count (code_of plan 0) → size_of plan parts 0 1 < 2 ^ 63) → d.len < far
  short k t ss d w o f h r = short_own k t ss d w o f (own_in t 0 d h) r
