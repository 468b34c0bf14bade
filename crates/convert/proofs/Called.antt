-- The question and the call, by the ways that the code goes. Assumes nothing.
use mathlib.Core.Path.{◌≡◌, refl, sym, ap, subst, ◌∙◌}
use mathlib.Core.Bool.{Bool, true, false, not, cond, ◌&&◌}
use mathlib.Core.List.{List, []}
use Prim.Native.Nat.{ℕ, zero, suc, ◌+◌, ◌≤◌, ◌<◌, ◌^◌}
use native.Mathlib.Omega.{arith}
use lib.ListN.{length, replicate}
use lib.Dec.{eqb}
use borrow.Author.Tests.{eq-eqb, ne_eqb, eqb-true, lt-leb, le-leb}
use Rattle.columnar.specs.Formed.{OffsetWidth}
use Rattle.schema.specs.Tree.{end_from, whole, typed}
use Rattle.schema.proofs.Known.{within_nodes}
use Rattle.array_data.specs.Tables.{Tables}
use Rattle.array_data.specs.lent_tables.Lent.{tables}
use Rattle.source_rules.specs.kinds.Rows.{tables_of}
use Rattle.walk.specs.State.{bytes_of, length_of, offset_of}
use Rattle.walk.specs.Log.{Out, Did}
use Rattle.leaf_walk.specs.Join.{join}
use Rattle.plan.specs.parts.Parts.{part_total, parts_placed, parts_hold}
use Rattle.columns.specs.Grounds.{ceiling, small_body, column_ground}
use Rattle.with_capacities.specs.Answer.{Answers}
use Rattle.anew.specs.Anew.{or_else, join_lengths, room_ground, ahead}
use Rattle.anew.specs.ResultPlan.{keeps_from, Comes, plan_anew}
use Rattle.anew.proofs.Laws.{or_none, or_zero, or_first}
use Rattle.anew.proofs.Comes.{comes}
use Rattle.anew.specs.result_plan.Answer.{Asks}
use Rattle.anew.proofs.result_plan.Answered.{tried_room, made_room_lem, before_walk, asks_refused, asks_lengths, asks_done, answers_large, answers_refused, answers_room, answers_made}
use Rattle.convert.specs.convert_lists.Turned.{all_nodes, to_list}
use Rattle.convert.specs.convert_lists.Listing.{list_walk}
use Rattle.convert.specs.convert_lists.ToList.{lent_with, list_own, list_plan, list_filled, ask_list, make_list}
use Rattle.convert.proofs.convert_lists.ListParts.{list_same}
use Rattle.convert.proofs.convert_lists.ListLent.{Due, due_is, list_view}
use Rattle.convert.proofs.convert_lists.Column.{from_same}

-- the counters that a walk leaves, under another name
pub recount : {s p room room2 c q : List ℕ} {wr : Bool} {o : Out} {g : ℕ} → q ≡ c → Did s p wr o room g c room2 → Did s p wr o room g q room2
recount e d = rw e d

-- plan and counters that pass 14 are of a join's lengths
pub room_lengths : {g : ℕ} (made tally parts : List ℕ) (plan counters room : ℕ) → g ≡ room_ground made tally parts plan counters room → g ≡ 0 → (plan ≡ 872) × (counters ≡ 96)
unfolding room_ground join_lengths
room_lengths made tally parts plan counters room e z = go (eqb plan 872) refl (eqb counters 96) refl (parts_placed parts (part_total made) room) (parts_hold made tally parts) (sym e ∙ z)
  where
    go : (a : Bool) → eqb plan 872 ≡ a → (b : Bool) → eqb counters 96 ≡ b → (c d : Bool) → ◌≡◌ {A = ℕ} (cond (a && b && c) (cond d 0 13) 14) 0 → (plan ≡ 872) × (counters ≡ 96)
    go true p true q c d h = (eqb-true plan 872 p, eqb-true counters 96 q)
    go true p false q c d h = absurd (omega (arith, h))
    go false p b q c d h = absurd (omega (arith, h))

-- ---- grounds in order

pub first_of_lem : (a b w : ℕ) {g : ℕ} → g ≡ or_else a b → (g ≡ 0 → ⊥) → g ≡ or_else a (or_else b w)
first_of_lem a b w {g} e h = go (eqb a 0) refl
  where
    go : (t : Bool) → eqb a 0 ≡ t → g ≡ or_else a (or_else b w)
    go true q =
        let z = eqb-true a 0 q in
        let f : g ≡ b = e ∙ or_zero a b z in
        f ∙ sym (or_first b w (λ y. h (f ∙ y))) ∙ sym (or_zero a (or_else b w) z)
    go false q =
        let ne : a ≡ 0 → ⊥ = λ y. absurd (false_true (sym q ∙ eq-eqb a 0 y)) in
        e ∙ or_first a b ne ∙ sym (or_first a (or_else b w) ne)
      where
        false_true : false ≡ true → ⊥
        false_true y = let k : ◌≡◌ {A = ℕ} 0 1 = ap (λ t. cond t 1 0) y in omega (arith, k)

pub own_none : (t : Bool) → ◌≡◌ {A = ℕ} (cond t 0 10) 0 → t ≡ true
own_none true e = refl
own_none false e = absurd (omega (arith, e))

pub wide_either : (w : ℕ) → OffsetWidth w → (w ≡ 4 → ⊥) → w ≡ 8
wide_either _ OffsetWidth.four h = absurd (h refl)
wide_either _ OffsetWidth.eight h = refl

pub no_type : (formats schema : List ℕ) (target : ℕ) → typed formats schema target 0 ≡ true → ⊥
unfolding typed whole end_from
no_type formats schema target e = let k : ◌≡◌ {A = ℕ} 0 1 = ap (λ t. cond t 1 0) e in omega (arith, k)

module _ (formats schema lengths places buffers body : List ℕ) (first n target tn : ℕ) where
  abbrev x : Tables
  x = tables_of lengths places buffers body

  abbrev column : ℕ
  column = column_ground formats schema x first n

  abbrev own : ℕ
  own = list_own formats schema x first n target tn

  abbrev made : List ℕ
  made = list_plan formats schema x first n target tn

  abbrev walk : Out
  walk = list_filled formats schema x first n target tn

  abbrev keep : ℕ → Bool
  keep = keeps_from (tables lengths places body) first all_nodes

  -- ---- the ground

  pub ground_column : {g : ℕ} → g ≡ column → (g ≡ 0 → ⊥) → g ≡ or_else column own
  ground_column e h = e ∙ sym (or_first column own (λ z. h (e ∙ z)))

  pub ground_other : {g : ℕ} {t : Bool} → g ≡ column → g ≡ 0 → t ≡ to_list formats schema first n target tn → not t ≡ true → 10 ≡ or_else column own
  ground_other {t = t} e z f h = sym (or_zero column own (sym e ∙ z) ∙ go t f h)
    where
      go : (t : Bool) → t ≡ to_list formats schema first n target tn → not t ≡ true → own ≡ 10
      go true f h = absurd (let k : ◌≡◌ {A = ℕ} 0 1 = ap (λ t. cond t 1 0) h in omega (arith, k))
      go false f h = rw (sym f)

  pub ground_none : {g : ℕ} {t : Bool} → g ≡ column → g ≡ 0 → t ≡ to_list formats schema first n target tn → not t ≡ false → 0 ≡ or_else column own
  ground_none {t = t} e z f h = sym (or_zero column own (sym e ∙ z) ∙ go t f h)
    where
      go : (t : Bool) → t ≡ to_list formats schema first n target tn → not t ≡ false → own ≡ 0
      go true f h = rw (sym f)
      go false f h = absurd (let k : ◌≡◌ {A = ℕ} 0 1 = ap (λ t. cond t 0 1) h in omega (arith, k))

  module _ {g0 : ℕ} (e0 : g0 ≡ or_else column own) where
    -- ---- a ground of the column or of the target

    refused : (g0 ≡ 0 → ⊥) → g0 ≡ ahead formats schema x first n own made walk
    unfolding ahead
    refused h = first_of_lem column own walk.ans e0 h

    pub ask_refused : (g0 ≡ 0 → ⊥) → (plan counters : List ℕ) → Asks (ask_list formats schema x first n target tn plan counters) g0 plan counters
    ask_refused h plan counters = asks_refused formats schema x first n own made walk plan counters (refused h) h

    pub make_refused : (g0 ≡ 0 → ⊥) → (parts plan counters room : List ℕ) → length room ≤ ceiling → Answers (make_list formats schema x first n target tn parts plan counters room) g0 plan counters room
    unfolding small_body
    make_refused h parts plan counters room l = answers_refused formats schema x first n own made walk parts plan counters room (le-leb (length room) ceiling l) (refused h) h

    -- ---- none

    module _ (z0 : g0 ≡ 0) where
      both_none : (column ≡ 0) × (own ≡ 0)
      both_none = or_none column own (sym e0 ∙ z0)

      due : Due formats schema first n target tn
      due = due_is formats schema first n target tn (own_none (to_list formats schema first n target tn) both_none.1)

      pub small_nodes : n ≤ 32
      small_nodes = omega (arith, within_nodes formats schema target tn due.low, due.sizes)

      pub comes_from_lem : first < 2 ^ 32 → Comes (tables lengths places body) first n all_nodes
      comes_from_lem low = comes formats schema x first n low both_none.0 n all_nodes small_nodes (λ i l. omega (arith, from_same i (omega (arith, small_nodes)), l))

      abbrev Given : ℕ → Type 0
      Given k =
          (offset_of (join [] [] lengths [] [] first 0) 0 + length_of (join [] [] lengths [] [] first 0) 0 < 2 ^ 63)
          × ((bytes_of (plan_anew formats schema target k keep false 0) 0 ≡ 4 → ⊥) → bytes_of (plan_anew formats schema target k keep false 0) 0 ≡ 8)

      given_at : (k : ℕ) → column_ground formats schema x first k ≡ 0 → Due formats schema first k target k → Given k
      given_at zero c d = absurd (no_type formats schema target d.is_typed)
      given_at (suc m) c d =
          let v = list_view formats schema x first m target c d [] in
          (omega (arith, v.lent.off_is, v.lent.len_is, v.lent.sum), λ h. v.worded.3 ∙ wide_either _ v.formed.0 (λ q. h (v.worded.3 ∙ q)))

      given : Given n
      given = given_at n both_none.0 (subst (λ k. Due formats schema first n target k) (sym due.sizes) due)

      module _ (draft : List ℕ) (es : draft ≡ plan_anew formats schema target n keep false 0) where
        -- what the walk asks
        pub walk_sum : offset_of (join [] [] lengths [] [] first 0) 0 + length_of (join [] [] lengths [] [] first 0) 0 < 2 ^ 63
        walk_sum = given.0

        pub walk_wide : (bytes_of draft 0 ≡ 4 → ⊥) → bytes_of draft 0 ≡ 8
        walk_wide = rw es given.1

        made_is : draft ≡ made
        made_is = es ∙ ap (λ k. plan_anew formats schema target k keep false 0) due.sizes

        module _ (parts : List ℕ) {wr : Bool} {room room2 c : List ℕ} {g : ℕ} (d : Did draft parts wr (list_walk (lent_with (tables lengths places body) draft parts first n) (replicate 96 0)) room g c room2) where
          walked : Did made parts wr walk room g c room2
          walked =
              subst (λ o. Did made parts wr o room g c room2) (list_same x made parts first n (replicate 96 0))
              (subst (λ s. Did s parts wr (list_walk (lent_with x s parts first n) (replicate 96 0)) room g c room2) made_is d)

          before_is : g ≡ ahead formats schema x first n own made walk
          before_is = before_walk formats schema x first n own made walk both_none.0 both_none.1 walked.answer

          -- ---- the question

          module _ (plan counters : List ℕ) where
            pub ask_walk : (g ≡ 0 → ⊥) → Asks (ask_list formats schema x first n target tn plan counters) g plan counters
            ask_walk h = asks_refused formats schema x first n own made walk plan counters before_is h

            module _ (z : g ≡ 0) where
              pub ask_plan : (length plan ≡ 872 → ⊥) → Asks (ask_list formats schema x first n target tn plan counters) 14 plan counters
              unfolding join_lengths
              ask_plan h = asks_lengths formats schema x first n own made walk plan counters (sym before_is ∙ z) (rw (ne_eqb (length plan) 872 h))

              pub ask_counters : length plan ≡ 872 → (length counters ≡ 96 → ⊥) → Asks (ask_list formats schema x first n target tn plan counters) 14 plan counters
              unfolding join_lengths
              ask_counters l h = asks_lengths formats schema x first n own made walk plan counters (sym before_is ∙ z) (rw (eq-eqb (length plan) 872 l, ne_eqb (length counters) 96 h))

              pub ask_done : length plan ≡ 872 → length counters ≡ 96 → {p q : List ℕ} → p ≡ draft → q ≡ c → Asks (ask_list formats schema x first n target tn plan counters) 0 p q
              unfolding join_lengths
              ask_done l m e f =
                  asks_done formats schema x first n own made walk plan counters (sym before_is ∙ z) (rw (eq-eqb (length plan) 872 l, eq-eqb (length counters) 96 m)) refl (e ∙ made_is) (f ∙ walked.counters)

        -- ---- the call

        module _ (parts plan counters room : List ℕ) (l : length room ≤ ceiling) {room2 c : List ℕ} {g : ℕ}
            (d : Did draft parts false (list_walk (lent_with (tables lengths places body) draft parts first n) (replicate 96 0)) room g c room2) where
          abbrev Answered : ℕ → List ℕ → List ℕ → List ℕ → Type 0
          Answered = Answers (make_list formats schema x first n target tn parts plan counters room)

          small : small_body room ≡ true
          unfolding small_body
          small = le-leb (length room) ceiling l

          pub same_room : room2 ≡ room
          same_room = tried_room draft parts _ room d

          pub make_walk : (g ≡ 0 → ⊥) → Answered g plan counters room2
          make_walk h = rw same_room (answers_refused formats schema x first n own made walk parts plan counters room small (before_is parts d) h)

          module _ (z : g ≡ 0) {c2 : List ℕ} (ec : c2 ≡ c) {k : ℕ} (e : k ≡ room_ground draft c2 parts (length plan) (length counters) (length room2)) where
            room_is : k ≡ room_ground made walk.counters parts (length plan) (length counters) (length room)
            room_is = e ∙ rw (same_room, made_is, ec, (walked parts d).counters)

            pub make_room : (k ≡ 0 → ⊥) → Answered k plan counters room2
            make_room h = rw same_room (answers_room formats schema x first n own made walk parts plan counters room small (sym (before_is parts d) ∙ z) room_is h)

            pub make_made : k ≡ 0 → {r : ℕ} {p q b : List ℕ} → p ≡ draft → Did draft parts true (list_walk (lent_with (tables lengths places body) draft parts first n) (replicate 96 0)) room2 r q b → Answered r p q b
            make_made h {r} {p} {q} {b} ep dm =
                let m = walked parts (rw same_room at dm) in
                answers_made formats schema x first n own made walk parts plan counters room small (sym (before_is parts d) ∙ z) (sym room_is ∙ h) (m.answer ∙ sym (walked parts d).answer ∙ z) (ep ∙ made_is) m.counters (made_room_lem made parts walk room m)

  -- a room above the ceiling
  pub make_large : (parts plan counters room : List ℕ) → ceiling < length room → Answers (make_list formats schema x first n target tn parts plan counters room) 9 plan counters room
  unfolding small_body
  make_large parts plan counters room l = answers_large formats schema x first n own made walk parts plan counters room (lt-leb (length room) ceiling l)
