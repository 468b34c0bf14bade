-- The column's type is a target for the target's: what was converted can be converted back. Assumes nothing.
use mathlib.Core.Path.{◌≡◌, refl, sym, ap, subst, ◌∙◌}
use mathlib.Core.Bool.{Bool, true, false≢true}
use mathlib.Core.List.{List}
use Prim.Native.Nat.{ℕ, zero, suc, ◌<◌}
use native.Mathlib.Omega.{arith}
use lib.Dec.{eqb}
use Rattle.schema.specs.Tree.{is_values, code_of, ceilings, typed}
use Rattle.width_walks.specs.target_rules.Target.{ends_at, is_target, CodeWidths, same_code, strings, list_views, plain_lists, keys, run_ends_lem, NodeWidths}
use Rattle.width_walks.proofs.target_rules.Codes.{near, back, run_kept, union_kept}
use Rattle.width_walks.proofs.target_rules.Rules.{target_is, is_target_lem}

turn_code : {k k' e e' : Bool} {c c' : ℕ} → k ≡ k' → (e ≡ true → e' ≡ true) → CodeWidths k e c c' → CodeWidths k' e' c' c
turn_code q f (same_code h) = same_code (sym h)
turn_code q f (strings a b t) = strings b a (sym t)
turn_code q f (list_views a b) = list_views b a
turn_code q f (plain_lists a b) = plain_lists b a
turn_code q f (keys k a b) = keys (sym q ∙ k) b a
turn_code q f (run_ends_lem k a b) = run_ends_lem (f k) b a

module _ (formats schema : List ℕ) (first first' n : ℕ) (nodes : (i : ℕ) → i < n → NodeWidths formats schema first first' i) where
  ends_turned : (i : ℕ) → i < n → ends_at formats schema first i ≡ true → ends_at formats schema first' i ≡ true
  unfolding ends_at
  ends_turned zero l h = absurd (false≢true h)
  ends_turned (suc i) l h = run_kept (code_of formats schema first i) (code_of formats schema first' i) (near (nodes i (omega arith)).code_widths) h

  values_turned : (i : ℕ) → i < n → is_values schema first i ≡ is_values schema first' i
  unfolding is_values
  values_turned zero l = refl
  values_turned (suc i) l = ap (λ d. eqb d 1) (nodes i (omega arith)).same_dictionary

  pub turned_node : (i : ℕ) → i < n → NodeWidths formats schema first' first i
  turned_node i l =
      let g = nodes i l in
      let c = code_of formats schema first i in
      let c' = code_of formats schema first' i in
      record {
        code_widths = turn_code (ap (λ d. eqb d 1) g.same_dictionary) (ends_turned i l) g.code_widths;
        same_ids_lem = λ u. sym (g.same_ids_lem (union_kept c' c (back (near g.code_widths)) u));
        same_children = sym g.same_children;
        same_dictionary = sym g.same_dictionary;
        same_flag_lem = λ z v. sym (g.same_flag_lem z (values_turned i l ∙ v));
      }

pub turned : (formats schema : List ℕ) (first n first' n' : ℕ) → typed formats schema first n ≡ true → ceilings formats schema first n ≡ true
    → is_target formats schema first n first' n' ≡ true → is_target formats schema first' n' first n ≡ true
turned formats schema first n first' n' t c h =
    let g = target_is formats schema first n first' n' h in
    is_target_lem formats schema first' n' first n
    (record {
      same_size = sym g.same_size;
      low = c;
      of_type = t;
      nodes = λ i l. turned_node formats schema first first' n g.nodes i (subst (λ k. i < k) (sym g.same_size) l);
    })
