-- The plan of an accepted opening has what the model settles, and what every order is then lent is a join. Assumes nothing.
use mathlib.Core.Path.{◌≡◌, refl, sym, subst, ◌∙◌}
use mathlib.Core.Bool.{Bool, true, false}
use mathlib.Core.List.{List, Memᴰ}
use Prim.Native.Nat.{ℕ, zero, suc, ◌+◌, ◌-◌, ◌≤◌, ◌<◌}
use native.Mathlib.Decide.{dec_lt}
use native.Mathlib.Omega.{arith}
use lib.Dec.{ltb}
use borrow.Author.Tests.{ltb-true}
use Rattle.columnar.specs.Types.{Number, int, uint, w1, w2, w4, w8, f32, f64, limit, Ty, t_plain, t_view, t_list_view, t_list, t_sparse, t_dense, t_run_end, t_dictionary}
use Rattle.columnar.specs.Dictionary.{Dictionary}
use Rattle.columnar.specs.Reading.{Body, Column}
use Rattle.columnar.specs.Kids.{kid_at, nodes_down}
use Rattle.columnar.proofs.Kids.{below_by}
use Rattle.model.specs.Try.{Try, done, then, guard}
use Rattle.model.specs.Opening.{keeps, entries_fit, start_of_keys, all_keys_fit}
use Rattle.model.specs.Transform.{the_dictionary, open_data}
use Rattle.model.proofs.Follow.{guard_done}
use Rattle.model.proofs.Joined.{then_done}
use Rattle.model.proofs.Owed.{Ready}
use Rattle.model.proofs.Ready.{opened_kid, ready}
use Rattle.model.proofs.SameBody.{same_entries}
use Rattle.schema.specs.Tree.{ceilings, typed}
use Rattle.array_data.specs.Tables.{Tables}
use Rattle.array_data.specs.Typed.{Tree, node_of, Is, Means}
use Rattle.array_data.specs.type_tree.Lent.{tree_of, type_of}
use Rattle.array_data.proofs.type_tree.Ids.{both}
use Rattle.array_data.proofs.type_tree.Lent.{means}
use Rattle.array_data.specs.lent_tables.Lent.{tables}
use Rattle.plan.specs.dictionaries.Sources.{capped}
use Rattle.walk.specs.State.{end_of, keeps_of}
use Rattle.refinement.specs.walk_is_model.Holds.{child_of, in_plan}
use Rattle.refinement.specs.walk_is_model.Lent.{Based}
use Rattle.refinement.specs.log_in_room.Room.{AllBelow}
use Rattle.array_data.specs.Sources as Sources
use Rattle.columns.specs.Grounds.{sources_ground}
use Rattle.array_data.specs.Sources.{source_count, first_of}
use Rattle.refinement.specs.plan_is_type.Planted.{Planted}
use Rattle.refinement.specs.plan_is_type.Taken.{columns_as}
use Rattle.refinement.proofs.plan_is_type.Planted.{child_node_lem}
use Rattle.refinement.proofs.plan_is_type.Opened.{opened_one}
use Rattle.plan.specs.parts.Parts.{nodes_of}
use Rattle.plan.specs.Plan.{flag, keep_word, with_keeps, joined_word, with_joined, base_word, with_bases, laid_out, planned}
use Rattle.plan.specs.Opened.{OpenedBelow, Opened}
use Rattle.plan.proofs.Words.{sources_are}
use Rattle.plan.proofs.Typed as planned-words
use Rattle.refinement.specs.orders.Sound.{plan_sound}
use Rattle.refinement.proofs.orders.Cover.{Laid}
use Rattle.refinement.proofs.orders.Step.{Joined}
use Rattle.refinement.specs.opening.Open.{opened}
use Rattle.refinement.specs.opening.Kept.{Kept}
use Rattle.refinement.proofs.opening.Kept.{kept_kid}
use Rattle.refinement.proofs.opening.Taken.{some_sources, few_sources_lem, is_typed, is_low, few_nodes, few_named, planted, taken, sources_of}
use Rattle.model.proofs.Names.{keys_fit}
use Rattle.array_data.proofs.Names.{union_kind}

-- ---- the children of unions by the plan

module _ (formats schema : List ℕ) (first n : ℕ) (plan : List ℕ)
    (ty : typed formats schema first n ≡ true) (low : ceilings formats schema first n ≡ true) (words : Planted plan formats schema first n) where
  abbrev tree : Tree
  tree = tree_of formats schema first n

  same_node_lem : (i : ℕ) (b : Bool) (ids : List ℕ) → Is tree i (union_kind b ids) → (e : ℕ) → Memᴰ e ids → node_of tree i ids e ≡ child_of plan i e
  same_node_lem i b ids h e q = sym (child_node_lem formats schema first n plan ty low words i h.0 b ids h.1 e q)

  kept_below : (m : ℕ) (u : Ty) (i : ℕ) (b : Bool) (bodies : ℕ → Body u) → Means tree u i → OpenedBelow plan (node_of tree) m u i b bodies → Kept plan m u i b bodies
  kept_below m (t_plain p) i b bodies h o = tt
  kept_below m t_view i b bodies h o = o
  kept_below m (t_list_view w u) i b bodies h o = (o.0, kept_below m u (suc i) _ _ h.1 o.1)
  kept_below m (t_list w u) i b bodies h o = (o.0, kept_below m u (suc i) _ _ h.1 o.1)
  kept_below m (t_sparse ids nullable f) i b bodies h o = λ c q.
      subst (λ k. (keeps_of plan k ≡ flag (keeps b m (λ s. (bodies s).children c))) × Kept plan m (f c) k (keeps b m (λ s. (bodies s).children c)) (λ s. ((bodies s).children c).body))
      (same_node_lem i true ids h.0 c q)
      ((o c q).0, kept_below m (f c) (node_of tree i ids c) _ _ (h.1 c q).1 (o c q).1)
  kept_below m (t_dense ids nullable f) i b bodies h o = λ c q.
      subst (λ k. (keeps_of plan k ≡ flag (keeps b m (λ s. (bodies s).children c))) × Kept plan m (f c) k (keeps b m (λ s. (bodies s).children c)) (λ s. ((bodies s).children c).body))
      (same_node_lem i false ids h.0 c q)
      ((o c q).0, kept_below m (f c) (node_of tree i ids c) _ _ (h.1 c q).1 (o c q).1)
  kept_below m (t_run_end w u) i b bodies h o = (o.0, o.1, kept_below m u (suc (suc i)) _ _ h.2 o.2)
  kept_below m (t_dictionary k p) i b bodies h o = o

-- ---- what ground 8 says of the bases

then_guard : {A : Type 0} (a : Try A) (b : Bool) (g : ℕ) → then a (λ v. guard b g (done (tt {0}))) ≡ done (tt {0}) → b ≡ true
then_guard a b g e = (guard_done b g (done (tt {0})) (tt {0}) (then_done a (λ v. guard b g (done (tt {0}))) (tt {0}) e).1.1).0

limit_le : (k : Number) → limit k ≤ 18446744073709551616
limit_le (int w1) = omega arith
limit_le (uint w1) = omega arith
limit_le (int w2) = omega arith
limit_le (uint w2) = omega arith
limit_le (int w4) = omega arith
limit_le (uint w4) = omega arith
limit_le (int w8) = omega arith
limit_le (uint w8) = omega arith
limit_le f32 = omega arith
limit_le f64 = omega arith

module _ {P : Type 0} (k : Number) (m : ℕ) (ds : ℕ → Dictionary P) where
  start_small : (n : ℕ) → all_keys_fit k m n ds ≡ true → (s : ℕ) → s < n → start_of_keys m ds s < limit k
  start_small zero h s l = absurd (omega arith)
  start_small (suc n) h s l = go (dec_lt s n) (start_small n (both (all_keys_fit k m n ds) (keys_fit k m ds n) h).0 s)
    where
      go : Dec (s < n) → (s < n → start_of_keys m ds s < limit k) → start_of_keys m ds s < limit k
      go (yes q) f = f q
      go (no q) f =
          let e : s ≡ n = omega arith in
          let fits = (both (all_keys_fit k m n ds) (keys_fit k m ds n) h).1 in
          let last = (both (ltb (start_of_keys m ds n + (ds n).values.len - 1) (limit k)) (ltb (start_of_keys m ds n) (limit k)) fits).1 in
          subst (λ j. start_of_keys m ds j < limit k) (sym e) (ltb-true (start_of_keys m ds n) (limit k) last)

  -- a start that fits the key is not capped
  not_capped : all_keys_fit k m m ds ≡ true → (s : ℕ) → s < m → capped (start_of_keys m ds s) ≡ start_of_keys m ds s
  not_capped h s l =
      let a = start_small m h s l in
      let b = limit_le k in
      omega arith

-- WHERE GROUND 8 DOES NOT STAND, the words of a plan have the bases
based_by : (plan : List ℕ) (m : ℕ) (u : Ty) (i : ℕ) (b : Bool) (bodies : ℕ → Body u) → Kept plan m u i b bodies → open_data u m bodies ≡ done tt → (s : ℕ) → s < m
    → Based plan s u i m bodies
based_by plan m u i b bodies h o s l =
    below_by (nodes_down (in_plan plan)) _ _ (λ u y. ((b : Bool) × Kept plan m u y.0 b y.1) × (open_data u m y.1 ≡ done tt))
    (λ u y g c. ((keeps g.0.0 m (λ j. kid_at u (y.1 j) c), kept_kid plan m u y.0 g.0.0 y.1 g.0.1 c), opened_kid u m y.1 g.1 c))
    (λ y g. g.0.1 s l)
    (λ k p y g. g.0.1.2 s l ∙ not_capped k m y.1 (then_guard (the_dictionary p m y.1) (all_keys_fit k m m y.1) 8 (guard_done (entries_fit m y.1) 6 _ tt g.1).1) s l)
    u (i, bodies) ((b, h), o)

-- ---- an accepted opening

-- the plan does not go by the data buffers of views
pub without_buffers : (formats schema : List ℕ) (x : Tables) (sources : List ℕ) (keep gaps : Bool)
    → planned formats schema (tables x.lengths x.places x.body) sources keep gaps ≡ planned formats schema x sources keep gaps
unfolding planned laid_out with_keeps keep_word with_joined joined_word with_bases base_word
without_buffers formats schema x sources keep gaps = refl

module _ (formats schema sources : List ℕ) (x : Tables) (keep gaps : Bool) (ok : sources_ground formats schema x sources ≡ 0) where
  abbrev m : ℕ
  m = source_count sources

  abbrev t : Ty
  t = type_of formats schema (first_of sources 0) (Sources.nodes_of sources 0)

  abbrev ss : ℕ → Column t
  ss = columns_as formats schema x (first_of sources) (Sources.nodes_of sources)

  abbrev plan : List ℕ
  plan = planned formats schema x sources keep gaps

  opened_plan : Opened plan (tree_of formats schema (first_of sources 0) (Sources.nodes_of sources 0)) m t keep ss
  opened_plan =
      subst (λ p. Opened p (tree_of formats schema (first_of sources 0) (Sources.nodes_of sources 0)) m t keep ss) (without_buffers formats schema x sources keep gaps)
      (planned-words.opened formats schema x sources keep gaps (few_sources_lem formats schema sources x keep gaps ok) (few_nodes formats schema sources x keep gaps ok) (is_typed formats schema sources x keep gaps ok) (few_named formats schema sources x keep gaps ok) (is_low formats schema sources x keep gaps ok))

  -- THE PLAN KEEPS NULLS AND JOINS DICTIONARIES where the model does
  pub kept : (keeps_of plan 0 ≡ flag (keeps keep m ss)) × Kept plan m t 0 (keeps keep m ss) (λ j. (ss j).body)
  kept =
      let ty = is_typed formats schema sources x keep gaps ok in
      let low = is_low formats schema sources x keep gaps ok in (
        opened_plan.0,
        kept_below formats schema (first_of sources 0) (Sources.nodes_of sources 0) plan ty low (planted formats schema sources x keep gaps ok) m t 0 (keeps keep m ss) (λ j. (ss j).body)
            (means formats schema (first_of sources 0) (Sources.nodes_of sources 0) ty low) opened_plan.1,
      )

  -- o: neither 6 nor 8 stands
  module _ (o : open_data t m (λ j. (ss j).body) ≡ done tt) where
    -- WHAT IS ADDED TO KEYS AND BUFFER NUMBERS is what the model adds
    pub based : (s : ℕ) → s < m → Based plan s t 0 m (λ j. (ss j).body)
    based s l = based_by plan m t 0 (keeps keep m ss) (λ j. (ss j).body) kept.1 o s l

    -- few data buffers, and dictionaries that are shared or joined
    pub all_ready : Ready t m (λ j. (ss j).body)
    all_ready =
        let given = sources_of formats schema sources x keep gaps ok in
        ready x.body m given.few (same_entries x.body m) t ss given.obey given.few_buffers_lem given.stand o

    -- WHAT EVERY ORDER IS LENT IS A JOIN of these sources
    pub joined : (parts : List ℕ) → AllBelow 256 x.body → Laid plan → nodes_of plan ≡ end_of plan 0 → plan_sound plan ≡ true → Joined (opened formats schema sources x keep gaps parts) t m ss
    joined parts bytes laid all sound =
        record {
          some_source = some_sources formats schema sources x keep gaps ok;
          count_is = sources_are formats schema x sources keep gaps (few_sources_lem formats schema sources x keep gaps ok) (few_nodes formats schema sources x keep gaps ok);
          opened = λ s l.
              opened_one formats schema x (first_of sources) (Sources.nodes_of sources) plan m (taken formats schema sources x keep gaps ok) parts s l (based s l) all_ready;
          laid = laid;
          all_nodes_lem = all;
          sound = sound;
          body_bytes = bytes;
        }
