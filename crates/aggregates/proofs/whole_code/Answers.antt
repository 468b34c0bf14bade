-- `aggregates::whole_code` meets its contract. Assumes nothing.
use Rattle.std.proofs.Common.{◌≡◌, ℕ, Bool, true, false, List, sym, ap, ◌∙◌, eq-eqb, ne_eqb}
use Rattle.schema.specs.formats.Code.{is_integer}
use Rattle.schema.specs.Tree.{dictionary, code_of}
use Rattle.aggregates.specs.Shape.{whole_code}
use Rattle.aggregates.proofs.whole_code.Goals as goal

module _ (formats schema : List ℕ) (first i d : ℕ) (e : d ≡ dictionary schema first i) where
  keyed : (d ≡ 0 → ⊥) → 0 ≡ whole_code formats schema first i
  unfolding whole_code
  keyed h = rw (ne_eqb (dictionary schema first i) 0 (λ q. h (e ∙ q)))

  module _ (h : d ≡ 0) (k : ℕ) (f : k ≡ code_of formats schema first i) (b : Bool) (p : b ≡ is_integer k) where
    coded : b ≡ true → k ≡ whole_code formats schema first i
    unfolding whole_code
    coded q = rw (eq-eqb (dictionary schema first i) 0 (sym e ∙ h), sym (ap is_integer f) ∙ sym p ∙ q) f

    other : b ≡ false → 0 ≡ whole_code formats schema first i
    unfolding whole_code
    other q = rw (eq-eqb (dictionary schema first i) 0 (sym e ∙ h), sym (ap is_integer f) ∙ sym p ∙ q)

pub returns-then-dictionary_of-ne0 : goal.returns-then-dictionary_of-ne0
returns-then-dictionary_of-ne0 c =
    keyed c.args.formats.now c.args.schema.now c.args.first c.args.i _ c.dictionary_of.ensures c.if-dictionary_of-ne0.true

pub returns-then-is_integer : goal.returns-then-is_integer
returns-then-is_integer c =
    coded c.args.formats.now c.args.schema.now c.args.first c.args.i _ c.dictionary_of.ensures c.if-dictionary_of-ne0.false _ c.code_of-code.ensures _ c.is_integer.ensures c.if-is_integer.true

pub returns-else-is_integer : goal.returns-else-is_integer
returns-else-is_integer c =
    other c.args.formats.now c.args.schema.now c.args.first c.args.i _ c.dictionary_of.ensures c.if-dictionary_of-ne0.false _ c.code_of-code.ensures _ c.is_integer.ensures c.if-is_integer.false
