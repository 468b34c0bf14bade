-- A column that is accepted and a target that passes. Assumes nothing.
use mathlib.Core.Path.{◌≡◌, refl, sym, ap₂, subst, ◌∙◌}
use mathlib.Core.Bool.{Bool, true, not, ◌&&◌, ◌||◌}
use mathlib.Core.List.{List, [], ◌∷◌}
use Prim.Native.Nat.{ℕ, ◌+◌, ◌*◌, ◌^◌, ◌≤◌, ◌<◌}
use native.Mathlib.Omega.{arith}
use lib.ListN.{length, get_or}
use lib.Dec.{T, leb}
use lib.Ieee.Bits.{is_true}
use borrow.Author.Tests.{leb-true, ltb-true}
use Rattle.columnar.specs.Row.{seg}
use Rattle.columnar.specs.Reading.{Source}
use Rattle.columnar.proofs.Test.{every_out}
use Rattle.schema.specs.formats.Code.{is_view}
use Rattle.schema.specs.Tree.{ceilings, typed}
use Rattle.schema.specs.Tree as trees
use Rattle.schema.proofs.Known.{every_at, typed_shape}
use Rattle.array_data.specs.Tables.{Tables, length_of, offset_of, place, data_buffer, data_buffers, in_body}
use Rattle.array_data.specs.Rules.{one_in, buffers_in, view_rule}
use Rattle.array_data.specs.NodeKinds.{view_node}
use Rattle.array_data.specs.Typed.{tables_from, column_of, kind_rule, node_rule, source_rule, kind_in}
use Rattle.array_data.specs.type_tree.Lent.{tree_of, type_of}
use Rattle.array_data.proofs.type_tree.Ids.{both}
use Rattle.array_data.proofs.lent_tables.Laws.{and_left, and_right}
use Rattle.plan.proofs.parts.Placed as placed
use Rattle.plan.proofs.dictionaries.Laws.{length_from, place_from}
use Rattle.columns.specs.Grounds.{count_fits, few_buffers, node_fits, within_ceilings, obeys, column_ground}
use Rattle.columns.proofs.Grounds.{Accepted, accepted, within_low, within_at_lem, typed_at, obeys_at, sources_accepted}
use Rattle.columns.proofs.Itself.{one_source}
use Rattle.model.proofs.Bits.{length_seg}
use Rattle.walk.specs.State.{top}
use Rattle.refinement.specs.walk_is_model.Memory.{Memory}
use Rattle.refinement.specs.log_in_room.Room.{AllBelow}
use Rattle.anew.specs.Stood.{BuffersNamed}
use Rattle.width_walks.specs.target_rules.Target.{is_target}
use Rattle.width_walks.proofs.target_rules.Inverse.{ReadsAs, reads_at}
use Rattle.width_walks.proofs.target_rules.Rules.{target_test}
use Rattle.width_walks.proofs.Target.{lent, given}
use Rattle.width_walks.proofs.Whole.{Given}
use Rattle.columnar.specs.Test.{every}

module _ (formats schema : List ℕ) (x : Tables) (first n : ℕ) (ok : column_ground formats schema x first n ≡ 0) where
  abbrev sources : List ℕ
  sources = first ∷ n ∷ []

  abbrev own : Tables
  own = tables_from x first

  all : Accepted formats schema x sources
  all = accepted formats schema x sources (one_source formats schema x sources refl ∙ ok)

  within : within_ceilings formats schema x first n ≡ true
  within = within_at_lem formats schema x sources all.within 0 (omega arith)

  pub typed_here : typed formats schema first n ≡ true
  typed_here = typed_at formats schema x sources all.of_types 0 (omega arith)

  pub low_here : ceilings formats schema first n ≡ true
  low_here = within_low formats schema x first n within

  pub source_here : Source (type_of formats schema first n) (column_of (tree_of formats schema first n) own (type_of formats schema first n) 0)
  source_here = sources_accepted formats schema x sources (one_source formats schema x sources refl ∙ ok) 0 (omega arith)

  pub rule_here : T (source_rule (tree_of formats schema first n) own)
  unfolding obeys
  rule_here = subst T (sym (obeys_at formats schema x sources all.obey 0 (omega arith))) tt

  pub fits_at : (i : ℕ) → i < n → node_fits formats schema x first i ≡ true
  unfolding within_ceilings
  fits_at i l = every_at (node_fits formats schema x first) n i (both (ceilings formats schema first n) (every (node_fits formats schema x first) n) within).1 l

  pub small_here : (i : ℕ) → i < n → length_of own i ≤ top
  unfolding node_fits count_fits
  small_here i l =
      let h = ltb-true (offset_of x (first + i) + length_of x (first + i)) (2 ^ 63) (both (count_fits x (first + i)) (few_buffers formats schema x first i) (fits_at i l)).0 in
      omega (arith, h, length_from x first i)

  -- ---- the data buffers of views

  few_here : (i : ℕ) → i < n → kind_in (tree_of formats schema first n) i ≡ view_node → place x (first + i) 8 ≤ 32
  unfolding node_fits few_buffers
  few_here i l e =
      let v : is_view (trees.code_of formats schema first i) ≡ true = subst (ReadsAs formats schema first i) e (reads_at formats schema first i (typed_shape formats schema first n typed_here i l)) in
      let h = (both (count_fits x (first + i)) (not (is_view (trees.code_of formats schema first i)) || leb (place x (first + i) 8) 32) (fits_at i l)).1 in
      leb-true (place x (first + i) 8) 32 (subst (λ b. not b || leb (place x (first + i) 8) 32 ≡ true) v h)

  view_rule_lem : (i : ℕ) → i < n → kind_in (tree_of formats schema first n) i ≡ view_node → view_rule own i ≡ true
  view_rule_lem i l e = is_true _ (subst (λ k. T (kind_rule (tree_of formats schema first n) own k i)) e (every_out (node_rule (tree_of formats schema first n) own) n rule_here i l))

  abbrev named : ℕ → ℕ → Bool
  named i q = in_body own (get_or x.buffers (2 * (place own i 7 + q)) 0) (get_or x.buffers (2 * (place own i 7 + q) + 1) 0)

  module _ (first' : ℕ) (parts : List ℕ) (h : is_target formats schema first n first' n ≡ true) where
    named_here : (i : ℕ) → i < n → kind_in (tree_of formats schema first n) i ≡ view_node → (c : List ℕ) (μ : Memory)
        → BuffersNamed (lent formats schema x first n first' parts typed_here low_here h) x.buffers c μ i (data_buffers own i)
    named_here i l e c μ =
        let r = and_left (one_in own i && buffers_in own i) _ (view_rule_lem i l e) in
        let b = and_right (one_in own i) (buffers_in own i) r in
        let a = and_right (leb (2 * (place own i 7 + place own i 8)) (length x.buffers)) _ b in
        let p = place_from x first i 7 in
        let m = place_from x first i 8 in
        record {
          buffers_are = ap₂ (seg (data_buffer own)) p m;
          inside = λ q j. subst (λ k. get_or x.buffers (2 * (k + q)) 0 + get_or x.buffers (2 * (k + q) + 1) 0 ≤ length x.body) p (leb-true _ _ (placed.every_at (named i) (place own i 8) a q (omega (arith, m))));
          few = omega (arith, length_seg (data_buffer own) (place own i 7) (place own i 8), m, few_here i l e);
        }

    -- ALL THAT THE LOOP NEEDS, of a column that is accepted and a target that passes
    pub given_here : AllBelow 256 x.body
        → Given (tree_of formats schema first n) (tree_of formats schema first' n) own (lent formats schema x first n first' parts typed_here low_here h) x.buffers (type_of formats schema first n) (type_of formats schema first' n)
        (target_test formats schema first n first' n typed_here low_here h)
    given_here bytes =
        given formats schema x first n first' parts typed_here low_here h (target_test formats schema first n first' n typed_here low_here h) source_here small_here bytes named_here
