-- The plan of a reclaiming's result, and the column that accepted tables hold, have what the walk is given. Assumes nothing.
use mathlib.Core.Path.{◌≡◌, refl, sym, ap, subst, ◌∙◌}
use mathlib.Core.Bool.{Bool, true, false, cond}
use mathlib.Core.List.{List, [], ◌∷◌}
use Prim.Native.Nat.{ℕ, zero, suc, ◌+◌, ◌*◌, ◌≤◌, ◌<◌, ◌^◌}
use native.Mathlib.Omega.{arith}
use lib.ListN.{get_or}
use lib.Dec.{eqb}
use borrow.Author.Tests.{ne_eqb}
use Rattle.columnar.specs.Types.{Number, Plain, fixed, string, t_plain, t_dictionary}
use Rattle.columnar.specs.Formed.{Formed}
use Rattle.columnar.specs.Reading.{Column, Source}
use Rattle.schema.specs.Tree.{below, dictionary, ceilings, typed}
use Rattle.schema.proofs.Known.{typed_shape}
use Rattle.array_data.specs.Tables.{Tables}
use Rattle.array_data.specs.NodeKinds.{NodeKind, fixed_node, string_node, kind_at}
use Rattle.array_data.specs.Typed.{Tree, MeansPlain, Means, tables_from, column_of}
use Rattle.array_data.specs.type_tree.Lent.{tree_of, type_of}
use Rattle.array_data.specs.lent_tables.Lent.{tables}
use Rattle.array_data.proofs.type_tree.Lent.{means, formed}
use Rattle.array_data.proofs.type_tree.Shaped.{Shaped, of_plain_lem, of_view, of_list, of_lists_lem, of_sparse, of_dense, of_run_lem, of_dictionary, shaped}
use Rattle.columns.specs.Grounds.{column_ground}
use Rattle.columns.proofs.Itself.{same_itself}
use Rattle.walk.specs.State.{code_of, dictionary_of, end_of}
use Rattle.plan.specs.Plan.{planned}
use Rattle.refinement.specs.walk_is_model.Holds.{flag, WordedPlain, Worded}
use Rattle.refinement.specs.plan_is_type.Taken.{Taken}
use Rattle.refinement.proofs.log_in_room.Found.{between_both}
use Rattle.refinement.proofs.plan_is_type.Codes.{no_dictionary}
use Rattle.refinement.proofs.plan_is_type.Planted.{dictionary_is}
use Rattle.refinement.proofs.plan_is_type.Lent.{lent_at}
use Rattle.refinement.proofs.plan_is_type.Opened.{same_child_lem, all_obey_lem}
use Rattle.refinement.proofs.opening.Taken.{is_typed, is_low, taken}
use Rattle.refinement.specs.orders.Order.{Lent}
use Rattle.walk.specs.Log.{Out}
use Rattle.anew.specs.Anew.{or_else, ahead}
use Rattle.anew.specs.ResultPlan.{keeps_from, plan_anew}
use Rattle.anew.proofs.Laws.{or_zero}
use Rattle.anew.proofs.Bits.{keeps_typed}
use Rattle.anew.proofs.Comes.{source_good, new_keeps}
use Rattle.anew.proofs.Parts.{copied_is, root_copied}
use Rattle.anew.proofs.PlanWords.{keeps_is, joined_is}
use Rattle.anew.proofs.Planted.{few, planted, worded, root_is, nodes_is, stands, type_plan}
use Rattle.anew.proofs.Result.{lent_for}
use Rattle.reclaim.specs.Reclaim.{from_column, reclaim_own}
use Rattle.reclaim.proofs.Fills.{Given}
use Rattle.reclaim.proofs.Uses.{InParts}

-- ---- a plain node stands alone

abbrev plain_kind : Plain → NodeKind
plain_kind (fixed m) = fixed_node m
plain_kind (string w) = string_node w

never : {A : Type 0} → ◌≡◌ {A = ℕ} 0 1 → A
never e = absurd (omega (arith, e))

fixed_alone : (formats schema : List ℕ) (first i : ℕ) (m : Number) → Shaped formats schema first i → kind_at formats schema first i ≡ fixed_node m → below schema first i ≡ 0
fixed_alone formats schema first i m (of_plain_lem p e z d) h = z
fixed_alone formats schema first i m (of_view e z) h = z
fixed_alone formats schema first i m (of_list w e z d) h = let q = sym e ∙ h in never (cc q)
fixed_alone formats schema first i m (of_lists_lem w e z d) h = let q = sym e ∙ h in never (cc q)
fixed_alone formats schema first i m (of_sparse ids e z d o) h = let q = sym e ∙ h in never (cc q)
fixed_alone formats schema first i m (of_dense ids e z d o) h = let q = sym e ∙ h in never (cc q)
fixed_alone formats schema first i m (of_run_lem w e z e1 z1 d) h = let q = sym e ∙ h in never (cc q)
fixed_alone formats schema first i m (of_dictionary w p e z e1 z1 g d) h = let q = sym e ∙ h in never (cc q)

string_alone : (formats schema : List ℕ) (first i v : ℕ) → Shaped formats schema first i → kind_at formats schema first i ≡ string_node v → below schema first i ≡ 0
string_alone formats schema first i v (of_plain_lem p e z d) h = z
string_alone formats schema first i v (of_view e z) h = z
string_alone formats schema first i v (of_list w e z d) h = let q = sym e ∙ h in never (cc q)
string_alone formats schema first i v (of_lists_lem w e z d) h = let q = sym e ∙ h in never (cc q)
string_alone formats schema first i v (of_sparse ids e z d o) h = let q = sym e ∙ h in never (cc q)
string_alone formats schema first i v (of_dense ids e z d o) h = let q = sym e ∙ h in never (cc q)
string_alone formats schema first i v (of_run_lem w e z e1 z1 d) h = let q = sym e ∙ h in never (cc q)
string_alone formats schema first i v (of_dictionary w p e z e1 z1 g d) h = let q = sym e ∙ h in never (cc q)

plain_alone : (formats schema : List ℕ) (first n i : ℕ) (p : Plain) → typed formats schema first n ≡ true → MeansPlain (tree_of formats schema first n) p i → below schema first i ≡ 0
plain_alone formats schema first n i (fixed m) t h = fixed_alone formats schema first i m (shaped formats schema first i (typed_shape formats schema first n t i h.0)) h.1
plain_alone formats schema first n i (string v) t h = string_alone formats schema first i v (shaped formats schema first i (typed_shape formats schema first n t i h.0)) h.1

plain_in : (t : Tree) (p : Plain) (i : ℕ) → MeansPlain t p i → i < t.count
plain_in t (fixed m) i h = h.0
plain_in t (string v) i h = h.0

worded_low : (plan : List ℕ) (p : Plain) (i : ℕ) → WordedPlain plan p i → code_of plan i < 15
worded_low plan (fixed m) i w = omega (arith, (between_both 1 10 (code_of plan i) w.0).1)
worded_low plan (string v) i w = omega (arith, (between_both 11 14 (code_of plan i) w.0).1)

-- ---- an accepted dictionary column

module _ (formats schema : List ℕ) (x : Tables) (first n : ℕ) (low : first < 2 ^ 32) (good : column_ground formats schema x first n ≡ 0) (k : Number) (p : Plain)
    (e : type_of formats schema first n ≡ t_dictionary k p) where
  abbrev sources : List ℕ
  sources = first ∷ n ∷ []

  accepted : Rattle.columns.specs.Grounds.sources_ground formats schema x sources ≡ 0
  accepted = source_good formats schema x first n low good

  pub typed_is : typed formats schema first n ≡ true
  typed_is = is_typed formats schema sources x false false accepted

  pub low_is : ceilings formats schema first n ≡ true
  low_is = is_low formats schema sources x false false accepted

  abbrev tree : Tree
  tree = tree_of formats schema first n

  abbrev own : Tables
  own = tables_from x first

  abbrev keep : ℕ → Bool
  keep = keeps_from (tables x.lengths x.places x.body) first from_column

  abbrev plan : List ℕ
  plan = plan_anew formats schema first n keep true 0

  -- THE COLUMN, as the Columnar Format has it
  abbrev pub column : Column (t_dictionary k p)
  column = column_of tree own (t_dictionary k p) 0

  small : n ≤ 32
  small = few formats schema first n keep true 0 typed_is low_is

  meant : Means tree (t_dictionary k p) 0
  meant = subst (λ t. Means tree t 0) e (means formats schema first n typed_is low_is)

  words : Worded plan 8 (t_dictionary k p) 0
  words = subst (λ t. Worded plan 8 t 0) e (worded formats schema first n keep true 0 typed_is low_is)

  formed_is : Formed (t_dictionary k p)
  formed_is = subst Formed e (formed formats schema first n typed_is low_is)

  -- run ends keep no nulls: there are none
  pub no_ends_lem : (i : ℕ) → suc i < n → code_of plan i ≡ 23 → keep (suc i) ≡ false
  no_ends_lem zero l q = let b = between_both 1 10 (code_of plan 0) words.3 in absurd (omega (arith, b.1, q))
  no_ends_lem (suc i) l q = new_keeps (tables x.lengths x.places x.body) first from_column (suc (suc i)) refl

  two : 1 < n
  two = plain_in tree p 1 meant.1

  entries_words : WordedPlain plan p 1
  entries_words = (type_plan formats schema first n keep true 0 typed_is low_is no_ends_lem).plain_words p 1 meant.1

  no_keys : dictionary_of plan 1 ≡ 0
  no_keys =
      dictionary_is formats schema first n plan typed_is low_is (planted formats schema first n keep true 0 typed_is low_is) 1 two
      ∙ no_dictionary formats schema first 1 (plain_alone formats schema first n 1 p typed_is meant.1)

  pub all_ends : end_of plan 1 ≡ 2
  all_ends =
      (stands formats schema first n keep true 0 typed_is low_is no_ends_lem).laid.plain_ends 1 (omega (arith, root_is formats schema first n keep true 0 typed_is low_is, two)) (worded_low plan p 1 entries_words) no_keys

  -- two nodes
  keys_end : end_of plan 0 ≡ 2
  keys_end = (stands formats schema first n keep true 0 typed_is low_is no_ends_lem).laid.tabled.keys_end 0 (omega (arith, words.1)) words.2

  pub two_nodes : n ≡ 2
  two_nodes = sym (root_is formats schema first n keep true 0 typed_is low_is) ∙ keys_end

  -- ---- what the tables hold

  held : Taken formats schema x (λ s. get_or sources (2 * s) 0) (λ s. get_or sources (2 * s + 1) 0) (planned formats schema x sources false false) 1
  held = taken formats schema sources x false false accepted

  module _ (parts : List ℕ) where
    abbrev lent : Lent
    lent = lent_for x plan parts first n

    -- WHAT THE WALK IS GIVEN
    pub given : Given lent k p column
    given =
        record {
          keys_fixed = words.3;
          keys_wide = words.4;
          worded = entries_words;
          no_keys = no_keys;
          ends = all_ends;
          rows_keep = keeps_is formats schema first n keep true 0 small 0 (omega (arith, two)) ∙ ap flag (keeps_typed x first from_column 0 0 refl column.body);
          entries_keep = keeps_is formats schema first n keep true 0 small 1 two ∙ ap flag (keeps_typed x first from_column 1 1 refl column.body.values.body);
          in_parts = joined_is formats schema first n keep true 0 small 0 (omega (arith, two)) ∙ ap (λ b. cond b 0 1) (ne_eqb (dictionary_of plan 0) 0 words.2);
          lent_keys =
              lent_at tree x first plan parts 0 (held.rules 0 (omega arith)) (held.sums 0 (omega arith)) (same_child_lem formats schema first n plan typed_is low_is (planted formats schema first n keep true 0 typed_is low_is) first n (same_itself formats schema first n typed_is))
              (t_dictionary k p) 0 meant;
          lent_values =
              lent_at tree x first plan parts 0 (held.rules 0 (omega arith)) (held.sums 0 (omega arith)) (same_child_lem formats schema first n plan typed_is low_is (planted formats schema first n keep true 0 typed_is low_is) first n (same_itself formats schema first n typed_is))
              (t_plain p) 1 meant.1;
          formed = formed_is.1;
          source = subst (λ t. Source t (column_of tree own t 0)) e (all_obey_lem formats schema x (λ s. get_or sources (2 * s) 0) (λ s. get_or sources (2 * s + 1) 0) (planned formats schema x sources false false) 1 held 0 (omega arith));
        }

  pub in_parts : InParts plan
  in_parts =
      record {
        nodes = nodes_is formats schema first n keep true 0 typed_is low_is ∙ two_nodes;
        keys_copied = root_copied formats schema first n keep true 0 small;
        entries_copied = copied_is formats schema first n keep true 0 small 0 two;
        keys_fixed = words.3;
        entries_low = worded_low plan p 1 entries_words;
      }

  -- the schema says that it has a dictionary
  pub has_dictionary : dictionary schema first 0 ≡ 0 → ⊥
  has_dictionary z = words.2 (dictionary_is formats schema first n plan typed_is low_is (planted formats schema first n keep true 0 typed_is low_is) 0 (omega (arith, two)) ∙ z)

-- no ground stands before room is asked
pub ahead_none : (formats schema : List ℕ) (x : Tables) (first n : ℕ) {own : ℕ} (made : List ℕ) (walk : Out) → column_ground formats schema x first n ≡ 0 → own ≡ 0 → walk.ans ≡ 0
    → ahead formats schema x first n own made walk ≡ 0
unfolding ahead
ahead_none formats schema x first n {own} made walk c o w = or_zero (column_ground formats schema x first n) _ c ∙ or_zero own walk.ans o ∙ w

pub own_by : (schema : List ℕ) (first : ℕ) (b : Bool) → eqb (dictionary schema first 0) 0 ≡ b → reclaim_own schema first ≡ cond b 10 0
unfolding reclaim_own
own_by schema first b e = ap (λ z. cond z 10 0) e
