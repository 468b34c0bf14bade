-- Keys of a dictionary: the walk does what the model does. Assumes nothing.
use mathlib.Core.Path.{◌≡◌, refl, sym, ◌∙◌}
use mathlib.Core.List.{List}
use Prim.Native.Nat.{ℕ, suc, ◌+◌, ◌*◌, ◌%◌, ◌^◌, ◌≤◌}
use native.Mathlib.Nat.{mul-le-mul_right, le_trans}
use native.Mathlib.Omega.{arith}
use lib.ListN.{length}
use borrow.Author.Tests.{ne_eqb}
use Rattle.number.specs.Number.{encode, entry}
use Rattle.number.proofs.Laws.{encode_mod}
use Rattle.columnar.specs.Types.{Number, width, Plain, t_dictionary}
use Rattle.columnar.specs.Array.{item}
use Rattle.columnar.specs.Reading.{Column}
use Rattle.columnar.proofs.Items.{entry_end}
use Rattle.utils.proofs.Pieces.{pieces_same}
use Rattle.utils.specs.primitive.Primitive.{rebased}
use Rattle.walk.specs.State.{Join, dictionary_of, end_of, rows, place, rows_in}
use Rattle.walk.specs.Copy.{Walk, copy_data}
use Rattle.walk.specs.Nulls.{NullWalk, null_data}
use Rattle.walk.specs.Leaves.{copy_keys, null_numbers}
use Rattle.refinement.specs.walk_is_model.Lent.{Part}
use Rattle.refinement.proofs.walk_is_model.Goes.{goes_need}
use Rattle.refinement.proofs.walk_is_model.Owed.{Given, CopiesData, FillsData}
use Rattle.refinement.proofs.walk_is_model.Parts.{part_length, part_entry, rows_in_lem}
use Rattle.refinement.proofs.walk_is_model.Entries.{keys_pieces}
use Rattle.refinement.proofs.walk_is_model.Writes.{first_grows}
use Rattle.model.proofs.Names.{new_keys}

-- keys read of the body are those of the buffer
rebased_is : {body : List ℕ} {at size : ℕ} {s : List ℕ} (w base slot n : ℕ) → Part body at size s → (slot + n) * w ≤ length s
    → rebased w body (at + w * slot) base n ≡ new_keys w base s slot n
unfolding rebased
rebased_is {body} {at} {size} {s} w base slot n p h =
    pieces_same (λ k. encode w ((entry w body (at + w * slot) k + base) % 256 ^ w)) (λ k. encode w (item w s (slot + k) + base)) n
    (λ k l.
    let e : (slot + k) * w + w ≤ (slot + n) * w = entry_end w (omega arith) in
    encode_mod w (entry w body (at + w * slot) k + base) ∙ rw (part_entry p w slot k (omega (arith, part_length p))))
    ∙ sym (keys_pieces w base s slot n)

pub keys_copies : (x : Join) (inner : Walk) (k : ℕ) (q : Number) (p : Plain) (i m : ℕ) (ss : ℕ → Column (t_dictionary q p)) → Given x (suc k) (t_dictionary q p) i m ss
    → CopiesData x inner (t_dictionary q p) i m ss
unfolding copy_data copy_keys
keys_copies x inner k q p i m ss g slot n d c μ lo hi f small long e h =
    let w = width q in
    let s = (ss x.source).body.keys in
    let y : (slot + n) * w ≤ length s = le_trans (mul-le-mul_right w hi) (g.obey x.source g.known).slots.hold in
    rw (g.worded.3, ne_eqb (dictionary_of x.plan i) 0 g.worded.2, g.worded.4, g.based)
    (goes_need (rows_in x (place x i 3) w slot n) 12 c (rows_in_lem x (place x i 3) (place x i 4) s w slot n g.lent.body_is y)
    (first_grows i (end_of x.plan i) (rows c i * w) d.«data» _ _ c μ g.worded.1 h (rw e (sym f.data_fine.keys_are)) (rebased_is w _ slot n g.lent.body_is y)))

pub keys_fills : (x : Join) (inner : NullWalk) (k : ℕ) (q : Number) (p : Plain) (i m : ℕ) (ss : ℕ → Column (t_dictionary q p)) → Given x (suc k) (t_dictionary q p) i m ss
    → FillsData x inner (t_dictionary q p) i m ss
unfolding null_data null_numbers
keys_fills x inner k q p i m ss g n d c μ t f v small long h =
    rw (g.worded.3, g.worded.4)
    (first_grows i (end_of x.plan i) (rows c i * width q) d.«data» _ _ c μ g.worded.1 h.data_are (rw h.rows_are (sym f.data_fine.keys_are)) refl)
