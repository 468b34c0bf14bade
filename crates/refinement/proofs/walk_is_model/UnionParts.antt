-- What a union's walk reads of the body is what its column holds; and positions counted up. Assumes nothing.
use mathlib.Core.Path.{◌≡◌, refl, sym, ap, ap₂, ◌∙◌}
use mathlib.Core.Bool.{true}
use mathlib.Core.List.{List, ◌++◌, append_assoc, append-nil}
use Prim.Native.Nat.{ℕ, zero, suc, ◌+◌, ◌*◌, ◌≤◌, ◌<◌}
use native.Mathlib.Nat.{add-zero, add-suc, suc-add, mul_comm}
use native.Mathlib.Omega.{arith}
use lib.ListN.{length, take, drop, get_or, length-drop}
use lib.Seq.{length-take-le, get_or-take, get_or-drop, drop-drop}
use borrow.Author.Tests.{le-leb}
use Rattle.number.specs.Number.{number, encode, entry}
use Rattle.number.proofs.Laws.{encode_mod}
use Rattle.columnar.specs.Types.{Ty, t_plain, t_view, t_list_view, t_sparse, t_dense, t_run_end, t_dictionary}
use Rattle.columnar.specs.Array.{item}
use Rattle.columnar.proofs.Items.{number_take}
use Rattle.model.proofs.Pieces.{cut_cut}
use Rattle.utils.specs.Pieces.{pieces}
use Rattle.utils.specs.Offsets.{counted_up}
use Rattle.utils.proofs.Pieces.{pieces_same}
use Rattle.walk.specs.State.{Join, far, rows_in}
use Rattle.refinement.specs.walk_is_model.Lent.{Part}
use Rattle.model.proofs.Names.{positions_from}

module _ (body : List ℕ) (at size : ℕ) (s : List ℕ) (part : Part body at size s) where
  pub part_size : length s ≡ size
  part_size =
      let h : at + size ≤ length body = part.inside in
      ap length part.bytes_are ∙ length-take-le size (drop at body) (simp length-drop (omega arith))

  -- bytes of a part
  pub part_cut : (a n : ℕ) → a + n ≤ length s → take n (drop a s) ≡ take n (drop (at + a) body)
  part_cut a n h =
      let e = part_size in
      ap (λ z. take n (drop a z)) part.bytes_are ∙ cut_cut n a size (drop at body) (omega arith) ∙ ap (take n) (drop-drop a at body)

  pub part_byte : (a : ℕ) → a < length s → get_or s a 0 ≡ get_or body (at + a) 0
  part_byte a h =
      let e = part_size in
      ap (λ z. get_or z a 0) part.bytes_are ∙ get_or-take size (drop at body) a 0 (omega arith) ∙ get_or-drop at body a 0

  -- an entry of w bytes
  pub part_entry : (w k : ℕ) → k * w + w ≤ length s → item w s k ≡ entry w body at k
  unfolding item
  part_entry w k h =
      sym (number_take w w (drop (k * w) s) (omega arith))
      ∙ ap (number w) (part_cut (k * w) w h)
      ∙ number_take w w (drop (at + k * w) body) (omega arith)
      ∙ ap (λ z. number w (drop (at + z) body)) (mul_comm k w)

-- rows of a part stand in the body
pub part_rows : (x : Join) (at size w slot n : ℕ) (s : List ℕ) → Part x.body at size s → w * (slot + n) ≤ length s → rows_in x at w slot n ≡ true
unfolding rows_in
part_rows x at size w slot n s part h =
    let e = part_size x.body at size s part in
    let i : at + size ≤ length x.body = part.inside in
    le-leb (at + w * (slot + n)) (length x.body) (omega arith)

-- ---- positions

pieces_front : (f : ℕ → List ℕ) (n : ℕ) → pieces f (suc n) ≡ f 0 ++ pieces (λ k. f (suc k)) n
unfolding pieces
pieces_front f zero = sym (append-nil (f 0))
pieces_front f (suc n) = ap (λ z. z ++ f (suc n)) (pieces_front f n) ∙ append_assoc (f 0) (pieces (λ k. f (suc k)) n) (f (suc n))

positions_pieces : (p n : ℕ) → pieces (λ k. encode 4 (p + k)) n ≡ positions_from p n
unfolding pieces
positions_pieces p zero = refl
positions_pieces p (suc n) =
    pieces_front (λ k. encode 4 (p + k)) n
    ∙ ap₂ ◌++◌ (ap (encode 4) (add-zero p)) (pieces_same _ _ n (λ k h. ap (encode 4) (add-suc p k ∙ sym (suc-add p k))) ∙ positions_pieces (suc p) n)

pub counted_positions : (p n : ℕ) → counted_up 4 p n ≡ positions_from p n
unfolding counted_up
counted_positions p n = pieces_same _ _ n (λ k h. encode_mod 4 (p + k)) ∙ positions_pieces p n
