-- `transform::leaf_bits::bits_in` meets its contract. Assumes nothing.
use mathlib.Core.Path.{ap, ◌∙◌}
use Prim.Native.Nat.{ℕ, ◌+◌, ◌*◌}
use lib.ListN.{length}
use lib.Dec.{leb}
use Rattle.array_data.proofs.lent_tables.Laws.{is_none, is_some}
use Rattle.transform.proofs.leaf_bits.bits_in.Goals as goal

pub returns : goal.returns
returns c =
    let a = c.args in
    λ parts lengths source. rw (is_some c.keeps_of.ensures c.if-keeps_of-eq0.false, is_some c.place.ensures c.if-place-eq0.false) (c.bits_fit_behind.ensures ∙ ap (λ (z : ℕ). leb (8 * z + a.slot + a.n) (8 * length a.body.now)) c.place-at.ensures)
