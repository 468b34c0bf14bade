-- `aggregates::find_shape` meets its contract. Assumes nothing.
use Rattle.std.proofs.Common.{◌≡◌, ℕ, Bool, true, false, List, sym, ap, ◌∙◌}
use Rattle.schema.specs.formats.Code.{is_run_end, width_of}
use Rattle.schema.specs.Tree.{code_of}
use Rattle.aggregates.specs.Shape.{whole_code, shape_of}
use Rattle.aggregates.proofs.find_shape.Goals as goal

module _ (formats schema : List ℕ) (first k : ℕ) (e : k ≡ code_of formats schema first 0) (b : Bool) (p : b ≡ is_run_end k) where
  ran : b ≡ true → (d : ℕ) → d ≡ whole_code formats schema first 2 → (f : ℕ) → f ≡ code_of formats schema first 1 → (v : ℕ) → v ≡ width_of f
      → record { runs = true; code = d; width = v } ≡ shape_of formats schema first
  unfolding shape_of
  ran q d g f h v i = rw (sym (ap is_run_end e) ∙ sym p ∙ q, g, i, h)

  plain : b ≡ false → (d : ℕ) → d ≡ whole_code formats schema first 0 → record { runs = false; code = d; width = 0 } ≡ shape_of formats schema first
  unfolding shape_of
  plain q d g = rw (sym (ap is_run_end e) ∙ sym p ∙ q, g)

pub returns-then-is_run_end : goal.returns-then-is_run_end
returns-then-is_run_end c =
    ran c.args.formats.now c.args.schema.now c.args.first _ c.code_of.ensures _ c.is_run_end.ensures c.if-is_run_end.true _ c.whole_code-code.ensures _ c.code_of-then-is_run_end.ensures _ c.width_of-width.ensures

pub returns : goal.returns
returns c =
    plain c.args.formats.now c.args.schema.now c.args.first _ c.code_of.ensures _ c.is_run_end.ensures c.if-is_run_end.false _ c.whole_code-code-2.ensures
