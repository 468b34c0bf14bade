-- `coding::expand::row_of` meets its contract. Assumes nothing.
use mathlib.Core.Path.{◌≡◌, ap, sym, ◌∙◌}
use Prim.Native.Nat.{ℕ}
use Rattle.schema.specs.formats.Code.{is_fixed}
use Rattle.array_data.specs.lent_tables.Lent.{tables}
use Rattle.anew.specs.ResultPlan.{keeps_from}
use Rattle.coding.specs.Expand.{from_values}
use Rattle.coding.specs.Planned.{row_plan_of}
use Rattle.coding.proofs.Accepted.{plain_is}
use Rattle.coding.proofs.PlanRows.{plan_rows}
use Rattle.coding.proofs.expand.row_of.Goals as goal

words_as : {a b c d e f : ℕ} → a ≡ d → b ≡ e → c ≡ f → row_plan_of a b c ≡ row_plan_of d e f
words_as p q s = rw (p, q, s)

pub returns : goal.returns
returns c =
    let z = c.args in
    let p = plain_is z.formats.now z.schema.now z.target 0 c.requires.target_value in
    let n = c.null_word-nulls.ensures in
    let e = c.code_of-code.ensures in record {
      nulls_value = words_as e c.flag_of-nullable.ensures n.value
          ∙ sym (plan_rows z.formats.now z.schema.now z.target (keeps_from (tables z.lengths.now z.places.now z.body.now) z.first from_values) p.alone p.is_fixed_lem);
      nulls_value_2 = (n.value, n.upper_bound, ap is_fixed e ∙ p.is_fixed_lem);
    }
