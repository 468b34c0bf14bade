-- `transform::sparse_rows::is_sparse` meets its contract. Assumes nothing.
use mathlib.Core.Path.{sym, ◌∙◌}
use native.Mathlib.Omega.{arith}
use Rattle.transform.proofs.null_ways.Laws.{never}
use Rattle.transform.proofs.sparse_rows.is_sparse.Goals as goal

pub returns : goal.returns
returns c = λ z.
    record {
      code = sym c.code_of.ensures ∙ c.if-code_of-ne-SPARSE.false;
      plain = sym c.dictionary_of.ensures ∙ c.if-dictionary_of-ne0.false;
      some = omega (arith, c.node_count-n.ensures.value, c.if-n-eq0.false);
      end = sym c.end_of.ensures.value ∙ c.if-end_of-n.false ∙ c.node_count-n.ensures.value;
      fields = λ k a b. c.are_fields.ensures z k a (omega (arith, b, c.node_count-n.ensures.value));
    }
