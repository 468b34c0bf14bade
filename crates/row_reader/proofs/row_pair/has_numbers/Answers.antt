-- `row_pair::has_numbers` meets its contract. Assumes nothing.
use mathlib.Core.Path.{◌≡◌, sym, ap, ◌∙◌}
use mathlib.Core.Bool.{Bool, true, false}
use mathlib.Core.List.{List}
use Prim.Native.Nat.{ℕ}
use Rattle.schema.specs.formats.Code.{is_run_end}
use Rattle.schema.specs.Tree.{code_of}
use Rattle.row_reader.specs.row_pair.Same.{number_node, of_numbers}
use Rattle.row_reader.proofs.row_pair.has_numbers.Goals as goal

module _ (formats schema : List ℕ) (first k : ℕ) (e : k ≡ code_of formats schema first 0) (b : Bool) (p : b ≡ is_run_end k) where
  ran : b ≡ true → number_node formats schema first 2 ≡ of_numbers formats schema first
  unfolding of_numbers
  ran q = rw (sym (ap is_run_end e) ∙ sym p ∙ q)

  plain : b ≡ false → number_node formats schema first 0 ≡ of_numbers formats schema first
  unfolding of_numbers
  plain q = rw (sym (ap is_run_end e) ∙ sym p ∙ q)

pub returns-then-is_run_end : goal.returns-then-is_run_end
returns-then-is_run_end c =
    let z = c.args in
    c.is_number.ensures ∙ ran z.formats.now z.schema.now z.first _ c.code_of.ensures _ c.is_run_end.ensures c.if-is_run_end.true

pub returns : goal.returns
returns c =
    let z = c.args in
    c.is_number-2.ensures ∙ plain z.formats.now z.schema.now z.first _ c.code_of.ensures _ c.is_run_end.ensures c.if-is_run_end.false
