-- The plan of a result whose type is admitted stands as a walk and finishing want it. Assumes nothing.
use mathlib.Core.Path.{◌≡◌, sym, ap, subst, ◌∙◌}
use mathlib.Core.Bool.{Bool, true, false, cond, ◌&&◌}
use mathlib.Core.List.{List}
use Prim.Native.Nat.{ℕ, suc, ◌≤◌, ◌<◌}
use native.Mathlib.Omega.{arith}
use lib.ListN.{length}
use lib.Dec.{eqb}
use borrow.Author.Tests.{leb-true, eqb-true}
use Rattle.schema.specs.Tree.{ceilings, typed}
use Rattle.schema.proofs.Known.{within_nodes}
use Rattle.schema.specs.Tree as trees
use Rattle.columnar.specs.Types.{Plain, fixed, string}
use Rattle.schema.specs.formats.Code.{is_fixed, is_string, width_of}
use Rattle.array_data.specs.NodeKinds.{NodeKind, kind_at}
use Rattle.array_data.specs.Typed.{MeansPlain}
use Rattle.array_data.specs.type_tree.Lent.{tree_of, type_of}
use Rattle.array_data.proofs.type_tree.Lent.{means, formed}
use Rattle.walk.specs.State.{code_of, end_of, keeps_of}
use Rattle.refinement.specs.walk_is_model.Holds.{WordedPlain, Worded}
use Rattle.refinement.specs.log_in_room.Room.{Placed}
use Rattle.refinement.specs.plan_is_type.Planted.{Planted}
use Rattle.refinement.proofs.plan_is_type.Codes.{Coded}
use Rattle.refinement.proofs.plan_is_type.Planted.{code_is, coded_is}
use Rattle.refinement.proofs.plan_is_type.Worded.{planted_worded}
use Rattle.refinement.proofs.plan_is_type.Opened.{same_child_lem}
use Rattle.columns.specs.Grounds.{small_body}
use Rattle.columns.proofs.Itself.{same_itself}
use Rattle.plan.specs.parts.Parts.{nodes_of, part_total, parts_placed, Used}
use Rattle.plan.proofs.parts.Placed.{placed_within}
use Rattle.refinement.proofs.orders.Placed.{placed_by}
use Rattle.refinement.proofs.opening.Laid.{root_end, laid_by, sound_by}
use Rattle.refinement.proofs.opening.Laid as opening
use Rattle.plan.specs.Plan.{flag}
use Rattle.anew.specs.ResultPlan.{plan_anew}
use Rattle.anew.proofs.Standing.{TypePlan}
use Rattle.anew.proofs.PlanWords.{plan_length, anew_planted, keeps_is, parts_are, source_is, nodes_are, numbered_is}

module _ (formats schema : List ℕ) (target n : ℕ) (keep : ℕ → Bool) (joined : Bool) (keptFrom : ℕ) (t : typed formats schema target n ≡ true) (c : ceilings formats schema target n ≡ true) where
  abbrev plan : List ℕ
  plan = plan_anew formats schema target n keep joined keptFrom

  pub few : n ≤ 32
  few = within_nodes formats schema target n c

  pub planted : Planted plan formats schema target n
  planted = anew_planted formats schema target n keep joined keptFrom few

  -- ITS WORDS STAND FOR THE TYPE
  pub worded : Worded plan 8 (type_of formats schema target n) 0
  worded = planted_worded formats schema target n plan t c planted

  pub root_is : end_of plan 0 ≡ n
  root_is = root_end formats schema target n plan t c planted

  pub nodes_is : nodes_of plan ≡ n
  nodes_is = omega (arith, nodes_are formats schema target n keep joined keptFrom few, few)

  -- THE PLAN OF A RESULT stands as that of a join of one source, where run ends keep no nulls
  pub stands : ((i : ℕ) → suc i < n → code_of plan i ≡ 23 → keep (suc i) ≡ false) → opening.Stood plan 1 n
  stands ends =
      let numbered = numbered_is formats schema target n keep joined keptFrom few in
      record {
        few = few;
        long = plan_length formats schema target n keep joined keptFrom few;
        source_count_lem = source_is formats schema target n keep joined keptFrom few;
        node_count = nodes_is;
        all_nodes_lem = nodes_is ∙ sym root_is;
        part_count = parts_are formats schema target n keep joined keptFrom few;
        laid = laid_by formats schema target n plan t c planted (λ i l e. keeps_is formats schema target n keep joined keptFrom few (suc i) l ∙ ap flag (ends i l e));
        sound = sound_by formats schema target n plan t c planted nodes_is;
        numbered = numbered;
        placed = λ parts r h l. placed_by plan parts r numbered h (omega arith);
        within = λ parts r h. placed_within plan parts r numbered h;
      }

  -- THE PARTS LIE WELL where ground 14 lets them through
  pub placed_well : ((i : ℕ) → suc i < n → code_of plan i ≡ 23 → keep (suc i) ≡ false) → (parts room : List ℕ) → small_body room ≡ true → parts_placed parts (part_total plan) (length room) ≡ true
      → Placed plan parts (Used plan) (length room)
  unfolding small_body
  placed_well ends parts room s h = (stands ends).placed parts (length room) h (leb-true _ _ s)

  -- ---- the words of a plain node

  module _ (i : ℕ) (l : i < n) where
    same_code : code_of plan i ≡ trees.code_of formats schema target i
    same_code = code_is formats schema target n plan t c planted i l

    coded_at : (k : NodeKind) → kind_at formats schema target i ≡ k
        → Coded (trees.code_of formats schema target i) (eqb (trees.dictionary schema target i) 0) (trees.ids_of formats schema target i) (trees.code_of formats schema target (suc i)) k
    coded_at k e =
        subst (Coded (trees.code_of formats schema target i) (eqb (trees.dictionary schema target i) 0) (trees.ids_of formats schema target i) (trees.code_of formats schema target (suc i))) e
        (coded_is formats schema target n plan t c planted i l)

  plain_worded : (p : Plain) (j : ℕ) → MeansPlain (tree_of formats schema target n) p j → WordedPlain plan p j
  plain_worded (fixed m) j h = let k = coded_at j h.0 _ h.1 in (ap is_fixed (same_code j h.0) ∙ k.0, ap width_of (same_code j h.0) ∙ k.1)
  plain_worded (string w) j h = let k = coded_at j h.0 _ h.1 in (ap is_string (same_code j h.0) ∙ k.0, ap width_of (same_code j h.0) ∙ k.1)

  -- THE PLAN OF A RESULT IS ONE OF ITS TYPE, where run ends keep no nulls
  pub type_plan : ((i : ℕ) → suc i < n → code_of plan i ≡ 23 → keep (suc i) ≡ false) → TypePlan plan (tree_of formats schema target n) (type_of formats schema target n)
  type_plan ends =
      let s = stands ends in
      record {
        one_source = s.source_count_lem;
        worded = worded;
        formed = formed formats schema target n t c;
        laid = s.laid;
        all_nodes_lem = s.all_nodes_lem;
        means = means formats schema target n t c;
        kids = same_child_lem formats schema target n plan t c planted target n (same_itself formats schema target n t);
        plain_words = plain_worded;
      }
