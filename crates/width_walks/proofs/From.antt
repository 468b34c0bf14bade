-- Where the nodes of a result come from, as words: the plan by them is that of the call. Assumes nothing.
use mathlib.Core.Path.{◌≡◌, refl, sym, ap, fun_ext, ◌∙◌}
use mathlib.Core.Bool.{Bool, true, false, cond, ◌&&◌}
use mathlib.Core.List.{List, [], ◌∷◌}
use Prim.Native.Nat.{ℕ, zero, suc, ◌+◌, ◌-◌, ◌≤◌}
use native.Mathlib.Omega.{arith}
use lib.ListN.{length, get_or, replicate, length-replicate}
use lib.Dec.{ltb, eqb}
use borrow.Author.Tests.{ltb-true, ltb-false}
use Rattle.columnar.specs.Array.{null_count_of}
use Rattle.columnar.specs.Types.{Number, int, w1}
use Rattle.schema.specs.formats.Code.{is_fixed, is_string, is_view, is_list_view, is_list, is_union, is_run_end, width_of}
use Rattle.schema.specs.formats.Types.{number_of, number_or}
use Rattle.schema.specs.Tree.{dictionary, code_of, ids_of}
use Rattle.array_data.specs.Tables.{Tables}
use Rattle.array_data.specs.NodeKinds.{fixed_node, string_node, view_node, list_view_node, list_node, run_end_node, kind_at}
use Rattle.array_data.specs.Typed.{Tree}
use Rattle.array_data.specs.lent_tables.Lent.{tables}
use Rattle.array_data.specs.type_tree.Lent.{tree_of}
use Rattle.array_data.proofs.type_tree.Shaped.{at_run}
use Rattle.model.proofs.Bits.{length_seg}
use Rattle.plan.specs.dictionaries.Sources.{array_of}
use Rattle.plan.specs.Plan.{filled}
use Rattle.plan.proofs.Words.{filled_at, filled_other}
use Rattle.anew.specs.ResultPlan.{keeps_from, plan_anew}
use Rattle.width_walks.specs.target_rules.Target.{ends_at}
use Rattle.width_walks.specs.Nodes.{is_run, ends_in, comes_from}
use Rattle.width_walks.specs.Call.{from_words, planned}
use Rattle.width_walks.proofs.Readiness.{came}
use Rattle.array_data.proofs.Names.{ids_or, number_kind, union_kind}

-- ---- one word

module _ (formats schema : List ℕ) (first i : ℕ) where
  pub none_word : ends_at formats schema first i ≡ true → 0 ≡ cond (ends_at formats schema first i) 0 (suc i)
  none_word e = rw e refl

  pub own_word : ends_at formats schema first i ≡ false → i + 1 ≡ cond (ends_at formats schema first i) 0 (suc i)
  own_word e = rw e (omega arith)

-- ---- words behind all

beyond : (l : List ℕ) (i : ℕ) → length l ≤ i → get_or l i 0 ≡ 0
beyond [] i h = refl
beyond (v ∷ l) zero h = absurd (omega arith)
beyond (v ∷ l) (suc i) h = beyond l i (omega arith)

zeros : (k i : ℕ) → ◌≡◌ {A = ℕ} (get_or (replicate k 0) i 0) 0
zeros zero i = refl
zeros (suc k) zero = refl
zeros (suc k) (suc i) = zeros k i

none_behind : (t : Tree) (i : ℕ) → t.count ≤ i → get_or (comes_from t) i 0 ≡ 0
unfolding comes_from
none_behind t i l = beyond (comes_from t) i (omega (arith, length_seg (λ j. cond (ends_in t j) 0 (suc j)) 0 t.count))

-- ---- run ends by formats are those of the tree

no_run : (a b c d e f s u : Bool) (m o : Number) (ids : List ℕ) (v w : ℕ)
    → is_run (cond a (number_kind s m) (cond b (string_node v) (cond c view_node (cond d (list_view_node v) (cond e (list_node v) (cond f (union_kind u ids) (cond false (run_end_node w) (fixed_node o)))))))) ≡ false
no_run true b c d e f true u m o ids v w = refl
no_run true b c d e f false u m o ids v w = refl
no_run false true c d e f s u m o ids v w = refl
no_run false false true d e f s u m o ids v w = refl
no_run false false false true e f s u m o ids v w = refl
no_run false false false false true f s u m o ids v w = refl
no_run false false false false false true s true m o ids v w = refl
no_run false false false false false true s false m o ids v w = refl
no_run false false false false false false s u m o ids v w = refl

module _ (formats schema : List ℕ) (first n : ℕ) where
  is_run_lem : (i : ℕ) → is_run (kind_at formats schema first i) ≡ is_run_end (code_of formats schema first i)
  unfolding kind_at
  is_run_lem i = go (is_run_end (code_of formats schema first i)) refl
    where
      go : (b : Bool) → is_run_end (code_of formats schema first i) ≡ b → is_run (kind_at formats schema first i) ≡ b
      go true e = ap is_run (at_run formats schema first i e)
      go false e = rw e (no_run (is_fixed (code_of formats schema first i)) (is_string (code_of formats schema first i)) (is_view (code_of formats schema first i)) (is_list_view (code_of formats schema first i)) (is_list (code_of formats schema first i)) (is_union (code_of formats schema first i)) (eqb (dictionary schema first i) 0) (eqb (code_of formats schema first i) 21) (number_or (number_of (code_of formats schema first i))) (int w1) (ids_or (ids_of formats schema first i)) (width_of (code_of formats schema first i)) (width_of (code_of formats schema first (suc i))))

  pub ends_same : (i : ℕ) → ends_at formats schema first i ≡ ends_in (tree_of formats schema first n) i
  unfolding ends_at
  ends_same zero = refl
  ends_same (suc i) = sym (is_run_lem i)

  abbrev value : List ℕ → ℕ → ℕ
  value s k = cond (ends_at formats schema first k) 0 (suc k)

  -- THE WORDS ARE WHERE EACH NODE COMES FROM
  from_same : n ≤ 32 → (i : ℕ) → get_or (from_words formats schema first n (replicate 32 0)) i 0 ≡ get_or (comes_from (tree_of formats schema first n)) i 0
  unfolding from_words
  from_same few i = go (ltb i n) refl
    where
      go : (b : Bool) → ltb i n ≡ b → get_or (filled (λ k. k) value n (replicate 32 0)) i 0 ≡ get_or (comes_from (tree_of formats schema first n)) i 0
      go true e =
          let l = ltb-true i n e in
          filled_at (λ k. k) value (λ a b q. q) n (replicate 32 0) i l (omega (arith, length-replicate {A = ℕ} 32 0)) ∙ ap (λ z. cond z 0 (suc i)) (ends_same i) ∙ sym (came (tree_of formats schema first n) i l)
      go false e =
          let l = ltb-false i n e in
          filled_other (λ k. k) value n (replicate 32 0) i (λ j q z. omega arith) ∙ zeros 32 i ∙ sym (none_behind (tree_of formats schema first n) i l)

  -- SO THE PLAN BY THEM IS THAT OF THE CALL
  pub plan_same : (x : Tables) (target : ℕ) → n ≤ 32
      → plan_anew formats schema target n (keeps_from (tables x.lengths x.places x.body) first (from_words formats schema first n (replicate 32 0))) true 0 ≡ planned formats schema x first n target n
  unfolding keeps_from
  plan_same x target few = ap (λ k. plan_anew formats schema target n k true 0) (fun_ext (λ i. same i))
    where
      same : (i : ℕ) → keeps_from (tables x.lengths x.places x.body) first (from_words formats schema first n (replicate 32 0)) i ≡ keeps_from (tables x.lengths x.places x.body) first (comes_from (tree_of formats schema first n)) i
      same i = ap (λ v. ltb 0 v && ltb 0 (null_count_of (array_of (tables x.lengths x.places x.body) (first + (v - 1))))) (from_same few i)
