-- Fixed-width numbers: the walk does what the model does. Assumes nothing.
use mathlib.Core.Path.{◌≡◌, refl, sym}
use Prim.Native.Nat.{ℕ, suc, ◌+◌, ◌*◌, ◌≤◌}
use native.Mathlib.Nat.{mul_comm, add-mul, mul-le-mul_right, le_trans}
use native.Mathlib.Omega.{arith}
use lib.ListN.{length, take, drop}
use Rattle.columnar.specs.Types.{Number, width, fixed, t_plain}
use Rattle.columnar.specs.Reading.{Column}
use Rattle.walk.specs.State.{Join, end_of, rows, place, rows_in}
use Rattle.walk.specs.Copy.{Walk, copy_data}
use Rattle.walk.specs.Nulls.{NullWalk, null_data}
use Rattle.walk.specs.Leaves.{copy_numbers, null_numbers}
use Rattle.refinement.proofs.walk_is_model.Goes.{goes_need}
use Rattle.refinement.proofs.walk_is_model.Owed.{Given, CopiesData, FillsData}
use Rattle.refinement.proofs.walk_is_model.Parts.{part_length, part_cut, rows_in_lem}
use Rattle.refinement.proofs.walk_is_model.Writes.{first_grows}

pub fixed_copies : (x : Join) (inner : Walk) (k : ℕ) (q : Number) (i m : ℕ) (ss : ℕ → Column (t_plain (fixed q))) → Given x (suc k) (t_plain (fixed q)) i m ss
    → CopiesData x inner (t_plain (fixed q)) i m ss
unfolding copy_data copy_numbers
fixed_copies x inner k q i m ss g slot n d c μ lo hi f small long e h =
    let w = width q in
    let s = (ss x.source).body in
    let p = g.lent.body_is in
    let y : (slot + n) * w ≤ length s = le_trans (mul-le-mul_right w hi) (g.obey x.source g.known).slots in
    let z : take (w * n) (drop (place x i 3 + w * slot) x.body) ≡ take (n * w) (drop (slot * w) s)
    = rw (mul_comm w n, mul_comm w slot) (sym (part_cut p (n * w) (slot * w) (omega (arith, add-mul slot n w, part_length p, y)))) in
    rw (g.worded.3.0, g.worded.2, g.worded.3.1)
    (goes_need (rows_in x (place x i 3) w slot n) 12 c (rows_in_lem x (place x i 3) (place x i 4) s w slot n p y)
    (first_grows i (end_of x.plan i) (rows c i * w) d.«data» _ _ c μ g.worded.1 h (rw e (sym f.data_fine)) z))

pub fixed_fills : (x : Join) (inner : NullWalk) (k : ℕ) (q : Number) (i m : ℕ) (ss : ℕ → Column (t_plain (fixed q))) → Given x (suc k) (t_plain (fixed q)) i m ss
    → FillsData x inner (t_plain (fixed q)) i m ss
unfolding null_data null_numbers
fixed_fills x inner k q i m ss g n d c μ p f t small long h =
    rw (g.worded.3.0, g.worded.3.1)
    (first_grows i (end_of x.plan i) (rows c i * width q) d.«data» _ _ c μ g.worded.1 h.data_are (rw h.rows_are (sym f.data_fine)) refl)
