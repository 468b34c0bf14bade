-- Views: the walk does what the model does. Assumes nothing.
use mathlib.Core.Path.{◌≡◌, refl, sym, ap, ◌∙◌}
use mathlib.Core.Bool.{Bool, true, false, cond}
use mathlib.Core.List.{List, [], ◌∷◌, ◌++◌}
use Prim.Native.Nat.{ℕ, zero, suc, ◌+◌, ◌*◌, ◌%◌, ◌^◌, ◌≤◌}
use native.Mathlib.Nat.{zero-add, suc-add, mul-le-mul_right, le_trans}
use native.Mathlib.Omega.{arith}
use lib.ListN.{length, take, drop}
use lib.Seq.{take-take, take-nil}
use lib.Dec.{leb, ltb}
use borrow.Author.Tests.{leb-true, leb-false, lt-ltb, le-ltb}
use Rattle.number.specs.Number.{number, encode}
use Rattle.number.proofs.Laws.{encode_mod}
use Rattle.columnar.specs.Types.{t_view}
use Rattle.columnar.specs.View.{view_of}
use Rattle.columnar.specs.Reading.{Column}
use Rattle.columnar.proofs.Items.{number_take}
use Rattle.utils.proofs.Pieces.{pieces_same}
use Rattle.utils.specs.byte_view.View.{reviewed_one, reviewed}
use Rattle.model.specs.Primitive.{new_views, reindexed}
use Rattle.walk.specs.State.{Join, code_of, end_of, rows, place, rows_in}
use Rattle.walk.specs.Copy.{Walk, copy_data}
use Rattle.walk.specs.Nulls.{NullWalk, null_data}
use Rattle.walk.specs.Leaves.{copy_views, null_numbers}
use Rattle.refinement.specs.walk_is_model.Lent.{Part}
use Rattle.refinement.proofs.walk_is_model.Goes.{goes_need}
use Rattle.refinement.proofs.walk_is_model.Owed.{Given, CopiesData, FillsData}
use Rattle.refinement.proofs.walk_is_model.Codes.{view_apart}
use Rattle.refinement.proofs.walk_is_model.Parts.{part_length, part_cut, rows_in_lem}
use Rattle.refinement.proofs.walk_is_model.Entries.{views_pieces}
use Rattle.refinement.proofs.walk_is_model.Writes.{first_grows}

-- what is left of a cut
drop_cut : (a n : ℕ) (l : List ℕ) → drop a (take (a + n) l) ≡ take n (drop a l)
drop_cut zero n l = rw zero-add
drop_cut (suc a) n [] = rw suc-add (sym (take-nil n))
drop_cut (suc a) n (v ∷ l) = rw suc-add (drop_cut a n l)

-- one view, by its 16 bytes or with what stands behind them
reviewed_one_lem : (s : List ℕ) (base : ℕ) → reviewed_one s base ≡ reindexed base (take 16 s)
unfolding reviewed_one reindexed
reviewed_one_lem s base = rw (number_take 4 16 s (omega arith)) (go (leb (number 4 s) 12) refl)
  where
    index : number 4 (drop 8 (take 16 s)) ≡ number 4 (drop 8 s)
    index = ap (number 4) (drop_cut 8 8 s) ∙ number_take 4 8 (drop 8 s) (omega arith)

    go : (b : Bool) → leb (number 4 s) 12 ≡ b
        → cond (ltb 12 (number 4 s)) (take 8 s ++ encode 4 ((number 4 (drop 8 s) + base) % 256 ^ 4) ++ take 4 (drop 12 s)) (take 16 s)
        ≡ cond b (take 16 s) (take 8 (take 16 s) ++ encode 4 (number 4 (drop 8 (take 16 s)) + base) ++ drop 12 (take 16 s))
    go true e = rw (le-ltb 12 (number 4 s) (leb-true _ _ e))
    go false e =
        rw (lt-ltb 12 (number 4 s) (leb-false _ _ e), take-take 8 16 s (omega arith), index, drop_cut 12 4 s, encode_mod 4 (number 4 (drop 8 s) + base))

-- views read of the body are those of the buffer
reviewed_is : {body : List ℕ} {at size : ℕ} {s : List ℕ} (base slot n : ℕ) → Part body at size s → (slot + n) * 16 ≤ length s
    → reviewed body (at + 16 * slot) base n ≡ new_views base s slot n
unfolding reviewed
reviewed_is {body} {at} {size} {s} base slot n p h =
    pieces_same (λ k. reviewed_one (drop (at + 16 * slot + 16 * k) body) base) (λ k. reindexed base (view_of s (slot + k))) n
    (λ k l.
    let e : at + 16 * slot + 16 * k ≡ at + (slot + k) * 16 = omega arith in
    reviewed_one_lem (drop (at + 16 * slot + 16 * k) body) base
    ∙ ap (reindexed base) (ap (λ z. take 16 (drop z body)) e ∙ sym (part_cut p 16 ((slot + k) * 16) (omega (arith, part_length p)))))
    ∙ sym (views_pieces base s slot n)

pub view_copies : (x : Join) (inner : Walk) (k i m : ℕ) (ss : ℕ → Column t_view) → Given x (suc k) t_view i m ss → CopiesData x inner t_view i m ss
unfolding copy_data copy_views
view_copies x inner k i m ss g slot n d c μ lo hi f small long e h =
    let s = (ss x.source).body.views in
    let a = view_apart (code_of x.plan i) g.worded.2 in
    let y : (slot + n) * 16 ≤ length s = le_trans (mul-le-mul_right 16 hi) (g.obey x.source g.known).slots.hold in
    rw (a.0, a.1, g.worded.2, g.based)
    (goes_need (rows_in x (place x i 3) 16 slot n) 12 c (rows_in_lem x (place x i 3) (place x i 4) s 16 slot n g.lent.body_is y)
    (first_grows i (end_of x.plan i) (rows c i * 16) d.«data» _ _ c μ g.worded.1 h (rw e (sym f.data_fine.views_are)) (reviewed_is _ slot n g.lent.body_is y)))

pub view_fills : (x : Join) (inner : NullWalk) (k i m : ℕ) (ss : ℕ → Column t_view) → Given x (suc k) t_view i m ss → FillsData x inner t_view i m ss
unfolding null_data null_numbers
view_fills x inner k i m ss g n d c μ t f v small long h =
    let a = view_apart (code_of x.plan i) g.worded.2 in
    rw (a.0, a.1, g.worded.2)
    (first_grows i (end_of x.plan i) (rows c i * 16) d.«data» _ _ c μ g.worded.1 h.data_are (rw h.rows_are (sym f.data_fine.views_are)) refl)
