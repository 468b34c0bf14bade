-- What stops a copy: node by node as its walk (walk/specs/Copy.antt), whose tests these are. Assumes nothing.
use Rattle.std.specs.Prelude.{Bool, true, false, cond, ◌&&◌, List, ℕ, zero, suc, ◌+◌, ◌*◌, ◌-◌, ltb, eqb, Option, Some, None}
use Rattle.number.specs.Number.{entry}
use Rattle.columnar.specs.Types.{half}
use Rattle.schema.specs.formats.Code.{is_fixed, is_string, is_view, is_list_view, is_list}
use Rattle.utils.specs.Extension.{extended}
use Rattle.utils.specs.declared.Extended.{Extended}
use Rattle.utils.specs.declared.Extended.TheVariants.{Fits, Over, Falls}
use Rattle.run_ends.specs.declared.RunRange.{RunRange}
use Rattle.walk.specs.State.{Join, code_of, end_of, bytes_of, rows, bytes, place, length_of, offset_of, far, slot_of, rows_in}
use Rattle.walk.specs.Log.{Out, done}
use Rattle.walk.specs.Leaves.{copy_mask, put_string}
use Rattle.walk.specs.Copy.{Walk, child_with, is_width, masked, list_view_row, id_at, position_at, dense_row, runs_at, copy_data, copy_walk}
use Rattle.explain.specs.declared.stops.Why.{Why}
use Rattle.explain.specs.stops.Why.{only, nothing, clash, unless, past, first_of}

-- node, first row, rows, counters
abbrev pub WhyWalk : Type 0
WhyWalk = ℕ → ℕ → ℕ → List ℕ → Why

-- the largest offset, size, position or run end of w bytes
abbrev pub most : ℕ → ℕ
most w = half w - 1

module _ (x : Join) (walk : Walk) (why : WhyWalk) where
  -- 6, list-view: the row; child rows + size
  unfoldable pub why_list_row : ℕ → ℕ → ℕ → ℕ → List ℕ → Why
  why_list_row w i slot r c =
      unless (ltb (rows c (suc i) + entry w x.body (place x i 5) (slot + r)) (half w))
      (clash 6 i r (rows c (suc i) + entry w x.body (place x i 5) (slot + r)) (most w))
      (why (suc i) (entry w x.body (place x i 3) (slot + r)) (entry w x.body (place x i 5) (slot + r)) c)

  unfoldable pub why_list_view : ℕ → ℕ → ℕ → ℕ → List ℕ → Why
  why_list_view w i slot n c =
      unless (ltb (suc i) 32) (only 12)
      (unless (rows_in x (place x i 3) w slot n && rows_in x (place x i 5) w slot n) (only 12)
      (first_of (list_view_row x walk w i slot) (why_list_row w i slot) n 0 c))

  -- 6, list: the first row whose new offset does not fit; that offset
  abbrev pub why_stretch : ℕ → ℕ → Extended → List ℕ → Why
  why_stretch w i (Fits last first) c = why (suc i) first (last - rows c (suc i)) c
  why_stretch w i (Over row needed) c = clash 6 i row needed (most w)
  why_stretch w i Falls c = only 12

  unfoldable pub why_list : ℕ → ℕ → ℕ → ℕ → List ℕ → Why
  why_list w i slot n c =
      cond (eqb n 0) nothing
      (unless (ltb (suc i) 32) (only 12)
      (unless (rows_in x (place x i 3) w slot (suc n)) (only 12)
      (why_stretch w i (extended w x.body (place x i 3 + w * slot) n (rows c (suc i))) c)))

  -- 6, byte string: likewise
  abbrev pub why_bytes : ℕ → ℕ → ℕ → ℕ → Extended → List ℕ → Why
  why_bytes w i from n (Fits last first) c = only (put_string x i w from n last first c).ans
  why_bytes w i from n (Over row needed) c = clash 6 i row needed (most w)
  why_bytes w i from n Falls c = only 12

  unfoldable pub why_string : ℕ → ℕ → ℕ → ℕ → List ℕ → Why
  why_string w i slot n c =
      cond (eqb n 0) nothing
      (unless (rows_in x (place x i 3) w slot (suc n)) (only 12)
      (why_bytes w i (place x i 3 + w * slot) n (extended w x.body (place x i 3 + w * slot) n (bytes c i)) c))

  -- sparse: the first child that stops
  unfoldable pub why_fields : ℕ → ℕ → ℕ → ℕ → ℕ → List ℕ → Why
  why_fields slot n end zero k c = nothing
  why_fields slot n end (suc f) k c =
      cond (ltb k end) (past (walk k slot n c) (why k slot n c) (λ c2. why_fields slot n end f (end_of x.plan k) c2)) nothing

  unfoldable pub why_sparse : ℕ → ℕ → ℕ → List ℕ → Why
  why_sparse i slot n c =
      unless (rows_in x (place x i 3) 1 slot n) (only 12) (why_fields slot n (end_of x.plan i) 32 (suc i) c)

  -- 6, dense: the row; the child's rows, which are its position
  unfoldable pub why_dense_to : ℕ → ℕ → ℕ → ℕ → List ℕ → Why
  why_dense_to i slot r k c =
      unless (ltb (rows c k) (half 4)) (clash 6 i r (rows c k) (most 4)) (why k (position_at x walk i (slot + r)) 1 c)

  unfoldable pub why_dense_at : ℕ → ℕ → ℕ → ℕ → List ℕ → Why
  why_dense_at i slot r k c = unless (ltb k 32) (only 12) (why_dense_to i slot r k c)

  unfoldable pub why_dense_row : ℕ → ℕ → ℕ → List ℕ → Why
  why_dense_row i slot r c = why_dense_at i slot r (child_with x.plan (id_at x walk i (slot + r)) (end_of x.plan i) 32 (suc i)) c

  unfoldable pub why_dense : ℕ → ℕ → ℕ → List ℕ → Why
  why_dense i slot n c =
      unless (rows_in x (place x i 3) 1 slot n && rows_in x (place x i 5) 4 slot n) (only 12)
      (first_of (dense_row x walk i slot) (why_dense_row i slot) n 0 c)

  -- 7: "the last run end plus the row count", at the run-end node, row 0
  abbrev pub why_run : ℕ → Option RunRange → List ℕ → Why
  why_run i None c = only 12
  why_run i (Some r) c = why (suc (suc i)) r.first.0 r.count c

  unfoldable pub why_runs : ℕ → ℕ → ℕ → List ℕ → Why
  why_runs i slot n c =
      cond (eqb n 0) nothing
      (unless (ltb (suc (suc i)) 32 && is_width (bytes_of x.plan (suc i))) (only 12)
      (unless (ltb (rows c i + n) (half (bytes_of x.plan (suc i)))) (clash 7 i 0 (rows c i + n) (most (bytes_of x.plan (suc i))))
      (unless (rows_in x (place x (suc i) 3) (bytes_of x.plan (suc i)) (offset_of x (suc i)) (length_of x (suc i))) (only 12)
      (why_run i (runs_at x walk (bytes_of x.plan (suc i)) i slot n) c))))

  -- by the format's code; other nodes have no ground but 12
  unfoldable pub why_data : ℕ → ℕ → ℕ → ℕ → List ℕ → Why
  why_data code i slot n c =
      cond (is_string code) (why_string (bytes_of x.plan i) i slot n c)
      (cond (is_list_view code) (why_list_view (bytes_of x.plan i) i slot n c)
      (cond (is_list code) (why_list (bytes_of x.plan i) i slot n c)
      (cond (eqb code 21) (why_sparse i slot n c)
      (cond (eqb code 22) (why_dense i slot n c)
      (cond (eqb code 23) (why_runs i slot n c)
      (only (copy_data x walk code i slot n c).ans))))))

  unfoldable pub why_slots : ℕ → ℕ → ℕ → List ℕ → Why
  why_slots i slot n c =
      past (cond (masked (code_of x.plan i)) (copy_mask x i slot n c) (done c)) (only 12) (λ c2. why_data (code_of x.plan i) i slot n c2)

  unfoldable pub why_node : ℕ → ℕ → ℕ → List ℕ → Why
  why_node i a n c = unless (ltb i 32) (only 12) (unless (ltb (slot_of x i a n) far) (only 12) (why_slots i (slot_of x i a n) n c))

-- WHAT STOPS A COPY of the rows a .. a + n - 1 of node i, at most `depth` levels down
unfoldable pub why_copy : Join → ℕ → WhyWalk
why_copy x zero i a n c = only 12
why_copy x (suc depth) i a n c = why_node x (copy_walk x depth) (why_copy x depth) i a n c
