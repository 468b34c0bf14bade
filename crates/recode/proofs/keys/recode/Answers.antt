-- `recode::keys::recode` meets its contract. Assumes nothing.
use Rattle.std.proofs.Common.{◌∙◌}
use Rattle.recode.proofs.Laws.{same_width, less_zero, width_small, entry_small}
use Rattle.recode.proofs.keys.recode.Goals as goal

pub returns-then-w-w2 : goal.returns-then-w-w2
returns-then-w-w2 c =
    let z = c.args in
    c.copy_bytes.ensures ∙ rw (same_width z.w z.body.now z.from z.n (λ k. (c.type_inv.body k).fits) c.requires.n_in_bounds.1, c.if-w-w2.true)

pub returns : goal.returns
returns c =
    let z = c.args in
    c.recode_less.ensures ∙ rw (less_zero z.w z.w2 z.body.now z.from z.n (entry_small z.w z.body.now z.from (width_small z.w c.requires.w_value) (λ k. (c.type_inv.body k).fits)))
