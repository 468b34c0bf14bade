-- The question and the call, by the ways that the code goes. Assumes nothing.
use mathlib.Core.Path.{◌≡◌, refl, sym, ap, subst, ◌∙◌}
use mathlib.Core.Bool.{Bool, true, false, not, cond, ◌&&◌}
use mathlib.Core.List.{List}
use Prim.Native.Nat.{ℕ, suc, ◌≤◌, ◌<◌, ◌^◌}
use native.Mathlib.Omega.{arith}
use lib.ListN.{length, get_or, replicate, length-replicate}
use lib.Dec.{eqb}
use borrow.Author.Tests.{eq-eqb, ne_eqb, eqb-true, lt-leb, le-leb}
use Rattle.schema.proofs.Known.{within_nodes}
use Rattle.array_data.specs.Tables.{Tables}
use Rattle.array_data.specs.Typed.{tables_from}
use Rattle.array_data.specs.lent_tables.Lent.{tables}
use Rattle.array_data.specs.type_tree.Lent.{tree_of}
use Rattle.source_rules.specs.kinds.Rows.{tables_of}
use Rattle.walk.specs.Log.{Out, Did, apply_if}
use Rattle.plan.proofs.Words.{filled_at}
use Rattle.plan.specs.parts.Parts.{part_total, parts_placed, parts_hold}
use Rattle.columns.specs.Grounds.{ceiling, small_body, column_ground}
use Rattle.with_capacities.specs.Answer.{Answers}
use Rattle.anew.specs.Anew.{or_else, join_lengths, room_ground, ahead}
use Rattle.anew.specs.ResultPlan.{keeps_from, Comes, words_anew, plan_by}
use Rattle.anew.proofs.Laws.{or_none, or_zero, or_first}
use Rattle.anew.proofs.Comes.{comes}
use Rattle.anew.proofs.ByWords.{same_word, by_same, words_length, plan_by_words}
use Rattle.anew.specs.result_plan.Answer.{Asks}
use Rattle.anew.proofs.result_plan.Answered.{tried_room, made_room_lem, before_walk, asks_refused, asks_lengths, asks_done, answers_large, answers_refused, answers_room, answers_made}
use Rattle.width_walks.specs.target_rules.Target.{ends_at, is_target, Target}
use Rattle.width_walks.proofs.target_rules.Rules.{target_is}
use Rattle.width_walks.specs.Nodes.{tree_walk}
use Rattle.width_walks.specs.Call.{from_words, target_ground, planned, walked, asked, convert}
use Rattle.width_walks.proofs.From.{plan_same}
use Rattle.widths.proofs.Tried.{tree_same}

-- the counters that a walk leaves, under another name
pub recount : {s p room room2 c q : List ℕ} {wr : Bool} {o : Out} {g : ℕ} → q ≡ c → Did s p wr o room g c room2 → Did s p wr o room g q room2
recount e d = rw e d

-- .. and the plan that it goes by
pub replan : (walk : List ℕ → Out) {s t p room room2 c : List ℕ} {wr : Bool} {g : ℕ} → s ≡ t → Did s p wr (walk s) room g c room2 → Did t p wr (walk t) room g c room2
replan walk {p = p} {room = room} {room2 = room2} {c = c} {wr = wr} {g = g} e d = subst (λ l. Did l p wr (walk l) room g c room2) e d

-- plan and counters that pass 14 are of a join's lengths
pub room_lengths : {g : ℕ} (made tally parts : List ℕ) (plan counters room : ℕ) → g ≡ room_ground made tally parts plan counters room → g ≡ 0 → (plan ≡ 872) × (counters ≡ 96)
unfolding room_ground join_lengths
room_lengths made tally parts plan counters room e z = go (eqb plan 872) refl (eqb counters 96) refl (parts_placed parts (part_total made) room) (parts_hold made tally parts) (sym e ∙ z)
  where
    go : (a : Bool) → eqb plan 872 ≡ a → (b : Bool) → eqb counters 96 ≡ b → (c d : Bool) → ◌≡◌ {A = ℕ} (cond (a && b && c) (cond d 0 13) 14) 0 → (plan ≡ 872) × (counters ≡ 96)
    go true p true q c d h = (eqb-true plan 872 p, eqb-true counters 96 q)
    go true p false q c d h = absurd (omega (arith, h))
    go false p b q c d h = absurd (omega (arith, h))

-- two grounds, of which one stands
or_stands : (c o a : ℕ) {g : ℕ} → g ≡ or_else c o → (g ≡ 0 → ⊥) → g ≡ or_else c (or_else o a)
or_stands c o a {g} e d = go (eqb c 0) e
  where
    go : (b : Bool) → g ≡ cond b o c → g ≡ cond b (or_else o a) c
    go true h = h ∙ sym (or_first o a (λ z. d (h ∙ z)))
    go false h = h

passes : (t : Bool) → ◌≡◌ {A = ℕ} (cond t 0 10) 0 → t ≡ true
passes true e = refl
passes false e = absurd (omega (arith, e))

-- a word of a node says none, or the node itself
word_low : (b : Bool) (i n : ℕ) → i < n → cond b 0 (suc i) ≤ n
word_low true i n l = omega arith
word_low false i n l = omega arith

pub from_low : (formats schema : List ℕ) (first n i : ℕ) → n ≤ 32 → i < n → get_or (from_words formats schema first n (replicate 32 0)) i 0 ≤ n
unfolding from_words
from_low formats schema first n i few l =
    let e = filled_at (λ k. k) (λ s k. cond (ends_at formats schema first k) 0 (suc k)) (λ a b q. q) n (replicate 32 0) i l (omega (arith, length-replicate {A = ℕ} 32 0)) in
    omega (arith, e, word_low (ends_at formats schema first i) i n l)

-- words under another name
pub comes_by : {x : Tables} {first n : ℕ} {from words : List ℕ} → from ≡ words → Comes x first n words → Comes x first n from
comes_by e h = rw e h

pub words_by : (formats schema : List ℕ) (target n : ℕ) (x : Tables) (first : ℕ) {r from words : List ℕ} → r ≡ words_anew formats schema target n (keeps_from x first from) true → from ≡ words
    → r ≡ words_anew formats schema target n (keeps_from x first words) true
words_by formats schema target n x first e f = e ∙ ap (λ w. words_anew formats schema target n (keeps_from x first w) true) f

module _ (formats schema lengths places buffers body : List ℕ) (first n target tn : ℕ) where
  abbrev x : Tables
  x = tables_of lengths places buffers body

  abbrev column : ℕ
  column = column_ground formats schema x first n

  abbrev own : ℕ
  own = target_ground formats schema x first n target tn

  abbrev made : List ℕ
  made = planned formats schema x first n target tn

  abbrev walk : Out
  walk = walked formats schema x first n target tn

  abbrev words : List ℕ
  words = from_words formats schema first n (replicate 32 0)

  -- what the loop does for a target of k nodes by a plan
  abbrev walk_by : ℕ → List ℕ → Out
  walk_by k draft = tree_walk (tree_of formats schema first n) (tree_of formats schema target k) (tables_from x first) draft (replicate 96 0)

  -- ---- the ground

  pub ground_column : {g : ℕ} → g ≡ column → (g ≡ 0 → ⊥) → g ≡ or_else column own
  ground_column e h = e ∙ sym (or_first column own (λ z. h (e ∙ z)))

  pub ground_other : {g : ℕ} {t : Bool} → g ≡ column → g ≡ 0 → t ≡ is_target formats schema first n target tn → not t ≡ true → 10 ≡ or_else column own
  unfolding target_ground
  ground_other {t = t} e z f h = sym (or_zero column _ (sym e ∙ z) ∙ ap (λ b. cond b 0 10) (sym f) ∙ go t h)
    where
      go : (t : Bool) → not t ≡ true → ◌≡◌ {A = ℕ} (cond t 0 10) 10
      go true h = absurd (let k : ◌≡◌ {A = ℕ} 0 1 = ap (λ t. cond t 1 0) h in omega (arith, k))
      go false h = refl

  pub ground_none : {g : ℕ} {t : Bool} → g ≡ column → g ≡ 0 → t ≡ is_target formats schema first n target tn → not t ≡ false → 0 ≡ or_else column own
  unfolding target_ground
  ground_none {t = t} e z f h = sym (or_zero column _ (sym e ∙ z) ∙ ap (λ b. cond b 0 10) (sym f) ∙ go t h)
    where
      go : (t : Bool) → not t ≡ false → ◌≡◌ {A = ℕ} (cond t 0 10) 0
      go true h = refl
      go false h = absurd (let k : ◌≡◌ {A = ℕ} 0 1 = ap (λ t. cond t 0 1) h in omega (arith, k))

  module _ {g0 : ℕ} (e0 : g0 ≡ or_else column own) where
    -- ---- a ground of the column or of the target

    refused : (g0 ≡ 0 → ⊥) → g0 ≡ ahead formats schema x first n own made walk
    unfolding ahead
    refused h = or_stands column own walk.ans e0 h

    pub ask_refused : (g0 ≡ 0 → ⊥) → (plan counters : List ℕ) → Asks (asked formats schema x first n target tn plan counters) g0 plan counters
    ask_refused h plan counters = asks_refused formats schema x first n own made walk plan counters (refused h) h

    pub make_refused : (g0 ≡ 0 → ⊥) → (parts plan counters room : List ℕ) → length room ≤ ceiling → Answers (convert formats schema x first n target tn parts plan counters room) g0 plan counters room
    unfolding small_body
    make_refused h parts plan counters room l = answers_refused formats schema x first n own made walk parts plan counters room (le-leb (length room) ceiling l) (refused h) h

    -- ---- none

    module _ (z0 : g0 ≡ 0) where
      both_none : (column ≡ 0) × (own ≡ 0)
      both_none = or_none column own (sym e0 ∙ z0)

      is_target_lem : is_target formats schema first n target tn ≡ true
      unfolding target_ground
      is_target_lem = passes (is_target formats schema first n target tn) both_none.1

      differs : Target formats schema first n target tn
      differs = target_is formats schema first n target tn is_target_lem

      -- what the plan and the loop ask
      pub small_nodes : n ≤ 32
      small_nodes = omega (arith, within_nodes formats schema target tn differs.low, differs.same_size)

      pub comes_from_lem : first < 2 ^ 32 → Comes (tables lengths places body) first n words
      comes_from_lem low = comes formats schema x first n low both_none.0 n words small_nodes (λ i l. from_low formats schema first n i small_nodes l)

      pub column_good : column_ground formats schema (tables_of lengths places buffers body) first n ≡ 0
      column_good = both_none.0

      pub target_good : is_target formats schema first n target n ≡ true
      target_good = subst (λ k. is_target formats schema first n target k ≡ true) (sym differs.same_size) is_target_lem

      module _ (nodes : List ℕ) (es : nodes ≡ words_anew formats schema target n (keeps_from (tables lengths places body) first words) true) where
        -- the plan by the words of the nodes
        abbrev draft : List ℕ
        draft = plan_by nodes n 0

        made_is : draft ≡ made
        made_is =
            ap (λ w. plan_by w n 0) es
            ∙ plan_by_words formats schema target n (keeps_from (tables lengths places body) first words) true 0 small_nodes
            ∙ plan_same formats schema first n x target small_nodes
            ∙ ap (planned formats schema x first n target) differs.same_size

        pub nodes_length : length nodes ≡ 256
        nodes_length = ap length es ∙ words_length formats schema target n (keeps_from (tables lengths places body) first words) true 0 small_nodes

        -- a walk that only tries reads the words of the nodes alone
        tried : (parts : List ℕ) {room room2 c : List ℕ} {g : ℕ} → Did nodes parts false (walk_by n nodes) room g c room2 → Did draft parts false (walk_by n draft) room g c room2
        unfolding apply_if
        tried parts {room} {room2} {c} {g} d =
            let e : walk_by n nodes ≡ walk_by n draft = tree_same (tree_of formats schema first n) (tree_of formats schema target n) (tables_from x first) nodes draft (λ i l. same_word nodes draft (by_same nodes n 0) i 5 l (omega arith)) small_nodes (replicate 96 0) in
            let f = subst (λ o. Did nodes parts false o room g c room2) e d in
            record { answer = f.answer; counters = f.counters; bytes = f.bytes }

        module _ (parts : List ℕ) {wr : Bool} {room room2 c : List ℕ} {g : ℕ} (d : Did draft parts wr (walk_by n draft) room g c room2) where
          did : Did made parts wr walk room g c room2
          did = subst (λ k. Did made parts wr (walk_by k made) room g c room2) differs.same_size (subst (λ s. Did s parts wr (walk_by n s) room g c room2) made_is d)

          before_is : g ≡ ahead formats schema x first n own made walk
          before_is = before_walk formats schema x first n own made walk both_none.0 both_none.1 did.answer

        -- ---- the question

        module _ (parts : List ℕ) {room room2 c : List ℕ} {g : ℕ} (d : Did nodes parts false (walk_by n nodes) room g c room2) where
          module _ (plan counters : List ℕ) where
            pub ask_walk : (g ≡ 0 → ⊥) → Asks (asked formats schema x first n target tn plan counters) g plan counters
            ask_walk h = asks_refused formats schema x first n own made walk plan counters (before_is parts (tried parts d)) h

            module _ (z : g ≡ 0) where
              pub ask_plan : (length plan ≡ 872 → ⊥) → Asks (asked formats schema x first n target tn plan counters) 14 plan counters
              unfolding join_lengths
              ask_plan h = asks_lengths formats schema x first n own made walk plan counters (sym (before_is parts (tried parts d)) ∙ z) (rw (ne_eqb (length plan) 872 h))

              pub ask_counters : length plan ≡ 872 → (length counters ≡ 96 → ⊥) → Asks (asked formats schema x first n target tn plan counters) 14 plan counters
              unfolding join_lengths
              ask_counters l h = asks_lengths formats schema x first n own made walk plan counters (sym (before_is parts (tried parts d)) ∙ z) (rw (eq-eqb (length plan) 872 l, ne_eqb (length counters) 96 h))

              pub ask_done : length plan ≡ 872 → length counters ≡ 96 → {p q : List ℕ} → p ≡ draft → q ≡ c → Asks (asked formats schema x first n target tn plan counters) 0 p q
              unfolding join_lengths
              ask_done l m e f =
                  asks_done formats schema x first n own made walk plan counters (sym (before_is parts (tried parts d)) ∙ z) (rw (eq-eqb (length plan) 872 l, eq-eqb (length counters) 96 m)) refl (e ∙ made_is) (f ∙ (did parts (tried parts d)).counters)

        -- ---- the call

        module _ (parts plan counters room : List ℕ) (l : length room ≤ ceiling) {room2 c : List ℕ} {g : ℕ} (d : Did nodes parts false (walk_by n nodes) room g c room2) where
          abbrev Answered : ℕ → List ℕ → List ℕ → List ℕ → Type 0
          Answered = Answers (convert formats schema x first n target tn parts plan counters room)

          small : small_body room ≡ true
          unfolding small_body
          small = le-leb (length room) ceiling l

          same_room : room2 ≡ room
          same_room = tried_room nodes parts _ room d

          pub make_walk : (g ≡ 0 → ⊥) → Answered g plan counters room2
          make_walk h = rw same_room (answers_refused formats schema x first n own made walk parts plan counters room small (before_is parts (tried parts d)) h)

          module _ (z : g ≡ 0) {c2 : List ℕ} (ec : c2 ≡ c) {k : ℕ} (e : k ≡ room_ground draft c2 parts (length plan) (length counters) (length room2)) where
            room_is : k ≡ room_ground made walk.counters parts (length plan) (length counters) (length room)
            room_is = e ∙ rw (same_room, made_is, ec, (did parts (tried parts d)).counters)

            pub make_room : (k ≡ 0 → ⊥) → Answered k plan counters room2
            make_room h = rw same_room (answers_room formats schema x first n own made walk parts plan counters room small (sym (before_is parts (tried parts d)) ∙ z) room_is h)

            pub make_made : k ≡ 0 → {r : ℕ} {p q b : List ℕ} → p ≡ draft → Did draft parts true (walk_by n draft) room2 r q b → Answered r p q b
            make_made h ep dm =
                let m = did parts (rw same_room at dm) in
                answers_made formats schema x first n own made walk parts plan counters room small (sym (before_is parts (tried parts d)) ∙ z) (sym room_is ∙ h) (m.answer ∙ sym (did parts (tried parts d)).answer ∙ z) (ep ∙ made_is) m.counters (made_room_lem made parts walk room m)

  -- a room above the ceiling
  pub make_large : (parts plan counters room : List ℕ) → ceiling < length room → Answers (convert formats schema x first n target tn parts plan counters room) 9 plan counters room
  unfolding small_body
  make_large parts plan counters room l = answers_large formats schema x first n own made walk parts plan counters room (lt-leb (length room) ceiling l)
