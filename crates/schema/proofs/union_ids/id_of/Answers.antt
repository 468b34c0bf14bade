-- `format_ids::id_of` meets its contract. Assumes nothing.
use mathlib.Core.Path.{sym, ◌∙◌}
use native.Mathlib.Omega.{arith}
use lib.ListN.{get_or}
use borrow.Author.Count.{below_more}
use Rattle.schema.proofs.union_ids.Laws.{no_id, no_piece, long_piece, an_id, decimal_step, decimal_end, is_digit}
use Rattle.schema.proofs.union_ids.id_of.Goals as goal

pub returns-then-is_empty : goal.returns-then-is_empty
returns-then-is_empty c = sym (no_piece c.args.piece.now (grind (arith, c.is_empty.ensures)))

pub returns-then-piece-gt3 : goal.returns-then-piece-gt3
returns-then-piece-gt3 c = sym (long_piece c.args.piece.now (omega arith))

pub returns-then-not-is_ascii_digit : goal.returns-then-not-is_ascii_digit
returns-then-not-is_ascii_digit c = sym (no_id c.args.piece.now c.loop-b.b-index (omega arith) (sym c.if-not-is_ascii_digit.ensures.value))

pub loop-b-preserved : goal.loop-b-preserved
loop-b-preserved c =
    let s = c.args.piece.now in
    let l = c.loop-b in
    let d = is_digit (get_or s l.b-index 0) (sym c.if-not-is_ascii_digit.ensures.value) in (
      sym (decimal_step s l.x l.b-index (omega arith)) ∙ l.invariant.0,
      below_more _ _ l.invariant.1 (sym c.if-not-is_ascii_digit.ensures.value),
      omega arith,
      omega (arith, d),
      omega (arith, d),
    )

pub returns : goal.returns
returns c =
    let s = c.args.piece.now in
    let l = c.loop-b in
    sym (decimal_end s l.x l.b-index (omega arith))
    ∙ l.invariant.0
    ∙ sym (an_id s (grind (arith, c.is_empty.ensures)) (omega arith) (λ k h. l.invariant.1 k (omega arith)))
