-- `coding::encode::planned` meets its contract. Assumes nothing.
use mathlib.Core.Path.{◌≡◌, refl, sym, ◌∙◌}
use mathlib.Core.List.{List}
use Prim.Native.Nat.{ℕ}
use native.Mathlib.Omega.{arith}
use Rattle.schema.proofs.Known.{typed_shape}
use Rattle.array_data.specs.lent_tables.Lent.{tables}
use Rattle.anew.specs.ResultPlan.{keeps_from}
use Rattle.anew.proofs.Comes.{new_keeps}
use Rattle.coding.specs.Encode.{from_column}
use Rattle.coding.specs.Planned.{run_plan}
use Rattle.coding.proofs.Accepted.{due_is}
use Rattle.coding.proofs.PlanRuns.{run_nodes, plan_runs}
use Rattle.coding.proofs.encode.planned.Goals as goal

words_as : {a b c d e f a' b' c' d' e' f' : ℕ} {r : List ℕ} → r ≡ run_plan a b c d e f → a ≡ a' → b ≡ b' → c ≡ c' → d ≡ d' → e ≡ e' → f ≡ f' → r ≡ run_plan a' b' c' d' e' f'
words_as h p q s t u v = h ∙ rw (p, q, s, t, u, v) refl

pub run_words-requires : goal.run_words-requires
run_words-requires c = c.null_word-k.ensures.upper_bound

pub returns : goal.returns
returns c =
    let z = c.args in
    let x = tables z.lengths.now z.places.now z.body.now in
    let d = due_is z.formats.now z.schema.now z.first z.target c.requires.target_value in
    let n = run_nodes z.formats.now z.schema.now z.target d.is_run_lem (typed_shape z.formats.now z.schema.now z.target 3 d.of_type 0 (omega arith)) d.values.is_fixed_lem d.values.alone in
    words_as c.run_words.ensures c.code_of-ends.ensures c.code_of-values.ensures c.flag_of-f0.ensures c.flag_of-f1.ensures c.flag_of-f2.ensures c.null_word-k.ensures.value
    ∙ sym (plan_runs z.formats.now z.schema.now z.target n (keeps_from x z.first from_column) (new_keeps x z.first from_column 0 refl) (new_keeps x z.first from_column 1 refl))
