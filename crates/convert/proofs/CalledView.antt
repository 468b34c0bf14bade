-- The question and the call of list to list-view, by the ways that the code goes. Assumes nothing.
use mathlib.Core.Path.{◌≡◌, refl, sym, ap, subst, ◌∙◌}
use mathlib.Core.Bool.{Bool, true, false, not, cond}
use mathlib.Core.List.{List, []}
use Prim.Native.Nat.{ℕ, zero, suc, ◌+◌, ◌≤◌, ◌<◌, ◌^◌}
use native.Mathlib.Omega.{arith}
use lib.ListN.{length, replicate}
use borrow.Author.Tests.{eq-eqb, ne_eqb, lt-leb, le-leb}
use Rattle.schema.specs.Tree.{typed}
use Rattle.schema.proofs.Known.{within_nodes}
use Rattle.array_data.specs.Tables.{Tables}
use Rattle.array_data.specs.lent_tables.Lent.{tables}
use Rattle.source_rules.specs.kinds.Rows.{tables_of}
use Rattle.walk.specs.State.{bytes_of, length_of, offset_of, rows_in}
use Rattle.walk.specs.Leaves.{copy_bits, copy_mask}
use Rattle.walk.specs.Log.{Out, Did}
use Rattle.leaf_walk.specs.Join.{join}
use Rattle.columns.specs.Grounds.{ceiling, small_body, column_ground}
use Rattle.with_capacities.specs.Answer.{Answers}
use Rattle.anew.specs.Anew.{or_else, join_lengths, room_ground, ahead}
use Rattle.anew.specs.ResultPlan.{keeps_from, Comes, plan_anew}
use Rattle.anew.proofs.Laws.{or_none, or_zero, or_first}
use Rattle.anew.proofs.PlanWords.{plan_length}
use Rattle.anew.proofs.Comes.{comes}
use Rattle.anew.specs.result_plan.Answer.{Asks}
use Rattle.anew.proofs.result_plan.Answered.{tried_room, made_room_lem, before_walk, asks_refused, asks_lengths, asks_done, answers_large, answers_refused, answers_room, answers_made}
use Rattle.convert.specs.convert_lists.Turned.{all_nodes, to_view}
use Rattle.convert.specs.convert_lists.Viewing.{view_row, view_rows, view_walk}
use Rattle.convert.specs.convert_lists.ToView.{view_own, view_plan, view_filled, ask_view, make_view}
use Rattle.convert.proofs.convert_lists.ViewLent.{ViewDue, view_due, root_lent, made_bytes, wide_formed}
use Rattle.convert.proofs.Called.{first_of_lem, own_none, wide_either, no_type}
use Rattle.convert.proofs.convert_lists.Column.{from_same}

module _ (formats schema lengths places buffers body : List ℕ) (first n target tn : ℕ) where
  abbrev x : Tables
  x = tables_of lengths places buffers body

  abbrev column : ℕ
  column = column_ground formats schema x first n

  abbrev own : ℕ
  own = view_own formats schema x first n target tn

  abbrev made : List ℕ
  made = view_plan formats schema x first n target tn

  abbrev walk : Out
  walk = view_filled formats schema x first n target tn

  abbrev keep : ℕ → Bool
  keep = keeps_from (tables lengths places body) first all_nodes

  -- ---- the ground

  pub ground_column : {g : ℕ} → g ≡ column → (g ≡ 0 → ⊥) → g ≡ or_else column own
  ground_column e h = e ∙ sym (or_first column own (λ z. h (e ∙ z)))

  pub ground_other : {g : ℕ} {t : Bool} → g ≡ column → g ≡ 0 → t ≡ to_view formats schema first n target tn → not t ≡ true → 10 ≡ or_else column own
  ground_other {t = t} e z f h = sym (or_zero column own (sym e ∙ z) ∙ go t f h)
    where
      go : (t : Bool) → t ≡ to_view formats schema first n target tn → not t ≡ true → own ≡ 10
      go true f h = absurd (let k : ◌≡◌ {A = ℕ} 0 1 = ap (λ t. cond t 1 0) h in omega (arith, k))
      go false f h = rw (sym f)

  pub ground_none : {g : ℕ} {t : Bool} → g ≡ column → g ≡ 0 → t ≡ to_view formats schema first n target tn → not t ≡ false → 0 ≡ or_else column own
  ground_none {t = t} e z f h = sym (or_zero column own (sym e ∙ z) ∙ go t f h)
    where
      go : (t : Bool) → t ≡ to_view formats schema first n target tn → not t ≡ false → own ≡ 0
      go true f h = rw (sym f)
      go false f h = absurd (let k : ◌≡◌ {A = ℕ} 0 1 = ap (λ t. cond t 0 1) h in omega (arith, k))

  module _ {g0 : ℕ} (e0 : g0 ≡ or_else column own) where
    -- ---- a ground of the column or of the target

    refused : (g0 ≡ 0 → ⊥) → g0 ≡ ahead formats schema x first n own made walk
    unfolding ahead
    refused h = first_of_lem column own walk.ans e0 h

    pub ask_refused : (g0 ≡ 0 → ⊥) → (plan counters : List ℕ) → Asks (ask_view formats schema x first n target tn plan counters) g0 plan counters
    ask_refused h plan counters = asks_refused formats schema x first n own made walk plan counters (refused h) h

    pub make_refused : (g0 ≡ 0 → ⊥) → (parts plan counters room : List ℕ) → length room ≤ ceiling → Answers (make_view formats schema x first n target tn parts plan counters room) g0 plan counters room
    unfolding small_body
    make_refused h parts plan counters room l = answers_refused formats schema x first n own made walk parts plan counters room (le-leb (length room) ceiling l) (refused h) h

    -- ---- none

    module _ (z0 : g0 ≡ 0) where
      both_none : (column ≡ 0) × (own ≡ 0)
      both_none = or_none column own (sym e0 ∙ z0)

      due : ViewDue formats schema first n target tn
      due = view_due formats schema first n target tn (own_none (to_view formats schema first n target tn) both_none.1)

      pub small_nodes : n ≤ 32
      small_nodes = omega (arith, within_nodes formats schema target tn due.below.low, due.below.sizes)

      some_node : 1 ≤ n
      some_node = go n due.below.sizes
        where
          go : (k : ℕ) → k ≡ tn → 1 ≤ k
          go zero e = absurd (no_type formats schema target (subst (λ k. typed formats schema target k ≡ true) (sym e) due.below.is_typed))
          go (suc k) e = omega arith

      pub comes_from_lem : first < 2 ^ 32 → Comes (tables lengths places body) first 1 all_nodes
      comes_from_lem low = comes formats schema x first n low both_none.0 1 all_nodes small_nodes (λ i l. omega (arith, from_same i (omega arith), l, some_node))

      abbrev Given : ℕ → Type 0
      Given k =
          (offset_of (join [] [] lengths [] [] first 0) 0 + length_of (join [] [] lengths [] [] first 0) 0 < 2 ^ 63)
          × ((bytes_of (plan_anew formats schema target 1 keep false 0) 0 ≡ 4 → ⊥) → bytes_of (plan_anew formats schema target 1 keep false 0) 0 ≡ 8)

      given_at : (k : ℕ) → column_ground formats schema x first k ≡ 0 → ViewDue formats schema first k target k → Given k
      given_at zero c d = absurd (no_type formats schema target d.below.is_typed)
      given_at (suc m) c d =
          let v = root_lent formats schema x first m target c d [] in
          let e = made_bytes formats schema x first m target c d in
          (omega (arith, v.off_is, v.len_is, v.sum), λ h. e ∙ wide_either _ (wide_formed formats schema x first m target c d) (λ q. h (e ∙ q)))

      given : Given n
      given = given_at n both_none.0 (subst (λ k. ViewDue formats schema first n target k) (sym due.below.sizes) due)

      module _ (draft : List ℕ) (es : draft ≡ plan_anew formats schema target 1 keep false 0) where
        -- what the walk asks
        pub walk_sum : offset_of (join [] [] lengths [] [] first 0) 0 + length_of (join [] [] lengths [] [] first 0) 0 < 2 ^ 63
        walk_sum = given.0

        pub walk_wide : (bytes_of draft 0 ≡ 4 → ⊥) → bytes_of draft 0 ≡ 8
        walk_wide = rw es given.1

        pub draft_long : length draft ≡ 872
        draft_long = ap length es ∙ plan_length formats schema target 1 keep false 0 (omega arith)

        made_is : draft ≡ made
        made_is = es

        module _ (parts : List ℕ) {wr : Bool} {room room2 c : List ℕ} {g : ℕ} (d : Did draft parts wr (view_walk (join draft parts lengths places body first 0) (bytes_of draft 0) (replicate 96 0)) room g c room2) where
          same_parts : view_walk (join made parts lengths places body first 0) (bytes_of made 0) (replicate 96 0) ≡ walk
          unfolding view_walk view_rows view_row copy_mask copy_bits rows_in
          same_parts = refl

          walked : Did made parts wr walk room g c room2
          walked =
              subst (λ o. Did made parts wr o room g c room2) same_parts
              (subst (λ s. Did s parts wr (view_walk (join s parts lengths places body first 0) (bytes_of s 0) (replicate 96 0)) room g c room2) made_is d)

          before_is : g ≡ ahead formats schema x first n own made walk
          before_is = before_walk formats schema x first n own made walk both_none.0 both_none.1 walked.answer

          -- ---- the question

          module _ (plan counters : List ℕ) where
            pub ask_walk : (g ≡ 0 → ⊥) → Asks (ask_view formats schema x first n target tn plan counters) g plan counters
            ask_walk h = asks_refused formats schema x first n own made walk plan counters before_is h

            module _ (z : g ≡ 0) where
              pub ask_plan : (length plan ≡ 872 → ⊥) → Asks (ask_view formats schema x first n target tn plan counters) 14 plan counters
              unfolding join_lengths
              ask_plan h = asks_lengths formats schema x first n own made walk plan counters (sym before_is ∙ z) (rw (ne_eqb (length plan) 872 h))

              pub ask_counters : length plan ≡ 872 → (length counters ≡ 96 → ⊥) → Asks (ask_view formats schema x first n target tn plan counters) 14 plan counters
              unfolding join_lengths
              ask_counters l h = asks_lengths formats schema x first n own made walk plan counters (sym before_is ∙ z) (rw (eq-eqb (length plan) 872 l, ne_eqb (length counters) 96 h))

              pub ask_done : length plan ≡ 872 → length counters ≡ 96 → {p q : List ℕ} → p ≡ draft → q ≡ c → Asks (ask_view formats schema x first n target tn plan counters) 0 p q
              unfolding join_lengths
              ask_done l m e f =
                  asks_done formats schema x first n own made walk plan counters (sym before_is ∙ z) (rw (eq-eqb (length plan) 872 l, eq-eqb (length counters) 96 m)) refl (e ∙ made_is) (f ∙ walked.counters)

        -- ---- the call

        module _ (parts plan counters room : List ℕ) (l : length room ≤ ceiling) {room2 c : List ℕ} {g : ℕ}
            (d : Did draft parts false (view_walk (join draft parts lengths places body first 0) (bytes_of draft 0) (replicate 96 0)) room g c room2) where
          abbrev Answered : ℕ → List ℕ → List ℕ → List ℕ → Type 0
          Answered = Answers (make_view formats schema x first n target tn parts plan counters room)

          small : small_body room ≡ true
          unfolding small_body
          small = le-leb (length room) ceiling l

          pub same_room : room2 ≡ room
          same_room = tried_room draft parts _ room d

          pub make_walk : (g ≡ 0 → ⊥) → Answered g plan counters room2
          make_walk h = rw same_room (answers_refused formats schema x first n own made walk parts plan counters room small (before_is parts d) h)

          module _ (z : g ≡ 0) {c2 : List ℕ} (ec : c2 ≡ c) {k : ℕ} (e : k ≡ room_ground draft c2 parts (length plan) (length counters) (length room2)) where
            room_is : k ≡ room_ground made walk.counters parts (length plan) (length counters) (length room)
            room_is = e ∙ rw (same_room, made_is, ec, (walked parts d).counters)

            pub make_room : (k ≡ 0 → ⊥) → Answered k plan counters room2
            make_room h = rw same_room (answers_room formats schema x first n own made walk parts plan counters room small (sym (before_is parts d) ∙ z) room_is h)

            pub make_made : k ≡ 0 → {r : ℕ} {p q b : List ℕ} → p ≡ draft → Did draft parts true (view_walk (join draft parts lengths places body first 0) (bytes_of draft 0) (replicate 96 0)) room2 r q b → Answered r p q b
            make_made h {r} {p} {q} {b} ep dm =
                let m = walked parts (rw same_room at dm) in
                answers_made formats schema x first n own made walk parts plan counters room small (sym (before_is parts d) ∙ z) (sym room_is ∙ h) (m.answer ∙ sym (walked parts d).answer ∙ z) (ep ∙ made_is) m.counters (made_room_lem made parts walk room m)

  -- a room above the ceiling
  pub make_large : (parts plan counters room : List ℕ) → ceiling < length room → Answers (make_view formats schema x first n target tn parts plan counters room) 9 plan counters room
  unfolding small_body
  make_large parts plan counters room l = answers_large formats schema x first n own made walk parts plan counters room (lt-leb (length room) ceiling l)
