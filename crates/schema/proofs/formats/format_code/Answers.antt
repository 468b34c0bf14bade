-- `formats::format_code` meets its contract. Assumes nothing.
use mathlib.Core.Path.{sym, ◌∙◌}
use native.Mathlib.Omega.{arith}
use Rattle.schema.proofs.formats.Laws.{code_out, code_in}
use Rattle.schema.proofs.formats.format_code.Goals as goal

pub returns-then-n-at : goal.returns-then-n-at
returns-then-n-at c = let z = c.args in sym (code_out z.formats.now z.at z.len (omega arith))

pub returns-then-n-at-2 : goal.returns-then-n-at-2
returns-then-n-at-2 c = let z = c.args in sym (code_out z.formats.now z.at z.len (omega arith))

pub returns : goal.returns
returns c = let z = c.args in c.code_of.ensures ∙ sym (code_in z.formats.now z.at z.len (omega arith))
