-- In a sound plan a walk comes to nodes that have parts, and to each node below another once. Assumes nothing.
use mathlib.Core.Path.{◌≡◌, refl, subst}
use mathlib.Core.Bool.{Bool, true, false, cond, ◌&&◌}
use mathlib.Core.List.{List}
use Prim.Native.Nat.{ℕ, zero, suc, ◌+◌, ◌-◌, ◌≤◌, ◌<◌}
use native.Mathlib.Omega.{arith}
use lib.Dec.{leb, ltb, eqb}
use borrow.Author.Tests.{leb-true, leb-false, le-leb, ltb-true, lt-ltb, eqb-true, eq-eqb, ne_eqb}
use Rattle.columnar.specs.Test.{every, only_if}
use Rattle.array_data.proofs.lent_tables.Laws.{and_left, and_right}
use Rattle.schema.specs.formats.Code.{is_fixed, is_union, is_run_end}
use Rattle.walk.specs.State.{code_of, dictionary_of, end_of}
use Rattle.refinement.specs.log_in_room.Reach.{Child, first, later, has_item, Closed, UsedAt}
use Rattle.refinement.proofs.log_in_room.Found.{between_both}
use Rattle.plan.specs.parts.Parts.{nodes_of, copied, Used}
use Rattle.plan.proofs.parts.Placed.{every_at}
use Rattle.refinement.specs.orders.Sound.{nested_in, ends_sound, kind_sound, node_sound, plan_sound}
use Rattle.refinement.proofs.orders.Buffers.{copied_part}

only_in : {a b : Bool} → a ≡ true → only_if a b ≡ true → b ≡ true
only_in e h = rw e at h

pub every_all : (p : ℕ → Bool) (n : ℕ) → ((i : ℕ) → i < n → p i ≡ true) → every p n ≡ true
every_all p zero h = refl
every_all p (suc n) h = rw (every_all p n (λ i l. h i (omega arith)), h n (omega arith))

module _ (plan : List ℕ) where
  pub free_copied : (i : ℕ) → dictionary_of plan i ≡ 0 → copied plan (suc i) ≡ true
  unfolding copied
  free_copied i h = rw (eq-eqb (dictionary_of plan i) 0 h)

  -- what the test says of a node
  pub record Stands (n i : ℕ) : Type 0 where
    pub rises : i < end_of plan i
    pub inside : end_of plan i ≤ n
    pub below_inside : (j : ℕ) → i < j → j < end_of plan i → end_of plan j ≤ end_of plan i
    pub no_keys : 10 < code_of plan i → dictionary_of plan i ≡ 0
    pub list : has_item (code_of plan i) ≡ true → suc i < end_of plan i
    pub runs : code_of plan i ≡ 23 → (suc (suc i) < end_of plan i) × (dictionary_of plan (suc i) ≡ 0) × (is_fixed (code_of plan (suc i)) ≡ true)
    pub next_copied : end_of plan i < n → copied plan (end_of plan i) ≡ true

  above : (i : ℕ) → kind_sound plan i ≡ true → 10 < code_of plan i
      → (dictionary_of plan i ≡ 0) × (cond (has_item (code_of plan i)) (ltb (suc i) (end_of plan i)) (cond (is_run_end (code_of plan i)) (ends_sound plan i) true) ≡ true)
  unfolding kind_sound
  above i h l =
      let g = rw (lt_false (code_of plan i) l) at h in
      (eqb-true _ _ (and_left (eqb (dictionary_of plan i) 0) _ g), and_right (eqb (dictionary_of plan i) 0) _ g)
    where
      lt_false : (z : ℕ) → 10 < z → leb z 10 ≡ false
      lt_false z q = go (leb z 10) refl
        where
          go : (b : Bool) → leb z 10 ≡ b → b ≡ false
          go true e = absurd (let k = leb-true z 10 e in omega arith)
          go false e = refl

  ends_of_lem : (i : ℕ) → ends_sound plan i ≡ true → (suc (suc i) < end_of plan i) × (dictionary_of plan (suc i) ≡ 0) × (is_fixed (code_of plan (suc i)) ≡ true)
  unfolding ends_sound
  ends_of_lem i h =
      let a = and_left (ltb (suc (suc i)) (end_of plan i) && eqb (dictionary_of plan (suc i)) 0) _ h in
      (ltb-true _ _ (and_left (ltb (suc (suc i)) (end_of plan i)) _ a), eqb-true _ _ (and_right (ltb (suc (suc i)) (end_of plan i)) _ a), and_right (ltb (suc (suc i)) (end_of plan i) && eqb (dictionary_of plan (suc i)) 0) _ h)

  stands : (n i : ℕ) → node_sound plan n i ≡ true → Stands n i
  unfolding node_sound nested_in
  stands n i h =
      let a4 = and_right (ltb i (end_of plan i) && leb (end_of plan i) n && nested_in plan i && kind_sound plan i) _ h in
      let b4 = and_left (ltb i (end_of plan i) && leb (end_of plan i) n && nested_in plan i && kind_sound plan i) _ h in
      let a3 = and_right (ltb i (end_of plan i) && leb (end_of plan i) n && nested_in plan i) (kind_sound plan i) b4 in
      let b3 = and_left (ltb i (end_of plan i) && leb (end_of plan i) n && nested_in plan i) (kind_sound plan i) b4 in
      let a2 = and_right (ltb i (end_of plan i) && leb (end_of plan i) n) (nested_in plan i) b3 in
      let b2 = and_left (ltb i (end_of plan i) && leb (end_of plan i) n) (nested_in plan i) b3 in
      record {
        rises = ltb-true _ _ (and_left (ltb i (end_of plan i)) (leb (end_of plan i) n) b2);
        inside = leb-true _ _ (and_right (ltb i (end_of plan i)) (leb (end_of plan i) n) b2);
        below_inside = λ j p q. in_nest a2 j p q;
        no_keys = λ l. (above i a3 l).0;
        list = λ e. let z = between_both 17 20 (code_of plan i) e in ltb-true _ _ (rw e at (above i a3 (omega (arith, z.0))).1);
        runs = λ e. ends_of_lem i (rw e at (above i a3 (omega arith)).1);
        next_copied = λ l. only_in (lt-ltb _ _ l) a4;
      }
    where
      in_nest : nested_in plan i ≡ true → (j : ℕ) → i < j → j < end_of plan i → end_of plan j ≤ end_of plan i
      in_nest g j p q =
          let e : suc i + (j - suc i) ≡ j = omega arith in
          let t = every_at (λ k. leb (end_of plan (suc i + k)) (end_of plan i)) (end_of plan i - suc i) g (j - suc i) (omega arith) in
          leb-true _ _ (subst (λ v. leb (end_of plan v) (end_of plan i) ≡ true) e t)

  -- a node that has parts
  abbrev pub Reached : ℕ → Type 0
  Reached j = (j < nodes_of plan) × (copied plan j ≡ true)

  module _ (sound : plan_sound plan ≡ true) where
    pub node_stands : (i : ℕ) → i < nodes_of plan → Stands (nodes_of plan) i
    unfolding plan_sound
    node_stands i l = stands (nodes_of plan) i (every_at (node_sound plan (nodes_of plan)) (nodes_of plan) (and_right (ltb 0 (nodes_of plan)) _ sound) i l)

    pub root_reached : Reached 0
    unfolding plan_sound copied
    root_reached = (ltb-true _ _ (and_left (ltb 0 (nodes_of plan)) _ sound), refl)

    -- A CHILD stands in its union's subtree with its own, behind those before it: a walk comes to each of its nodes once
    pub child_inside : (i k : ℕ) → i < nodes_of plan → Child plan i k → (i < k) × (k < end_of plan i) × (end_of plan k ≤ end_of plan i)
    child_inside i k l (first h) = (omega arith, h, (node_stands i l).below_inside (suc i) (omega arith) h)
    child_inside i _ l (later k c h) =
        let r = child_inside i k l c in
        let s = node_stands i l in
        let a = s.inside in
        let t = (node_stands k (omega (arith, r.1))).rises in
        (omega (arith, r.0), h, s.below_inside (end_of plan k) (omega (arith, r.0)) h)

    child_reached : (i k : ℕ) → i < nodes_of plan → is_union (code_of plan i) ≡ true → Child plan i k → Reached k
    child_reached i k l u (first h) =
        let s = node_stands i l in
        let a = s.inside in
        let z = between_both 21 22 (code_of plan i) u in
        (omega arith, free_copied i (s.no_keys (omega (arith, z.0))))
    child_reached i _ l u (later k c h) =
        let a = (node_stands i l).inside in
        let r = child_reached i k l u c in
        (omega arith, (node_stands k r.0).next_copied (omega arith))

    -- A WALK STAYS at nodes that have parts
    pub closed_sound : Closed plan Reached Reached
    closed_sound =
        record {
          own = λ i r. r;
          item = λ i r h.
              let s = node_stands i r.0 in
              let z = between_both 17 20 (code_of plan i) h in
              let a = s.inside in
              let b = s.list h in
              (omega arith, free_copied i (s.no_keys (omega (arith, z.0))));
          child = λ i k r h c. child_reached i k r.0 h c;
          ends = λ i r h.
              let s = node_stands i r.0 in
              let a = s.inside in
              let b = s.runs h in
              (omega (arith, b.0), free_copied i (s.no_keys (omega arith)));
          values = λ i r h.
              let s = node_stands i r.0 in
              let a = s.inside in
              let b = s.runs h in
              (omega (arith, b.0), free_copied (suc i) b.1);
        }

    -- .. and, from any node on, at nodes
    pub closed_nodes : Closed plan (λ j. j < nodes_of plan) (λ j. j < nodes_of plan)
    closed_nodes =
        record {
          own = λ i r. r;
          item = λ i r h. let s = node_stands i r in let a = s.inside in let b = s.list h in omega arith;
          child = λ i k r h c. let a = (node_stands i r).inside in let b = child_inside i k r c in omega (arith, b.1);
          ends = λ i r h. let s = node_stands i r in let a = s.inside in let b = s.runs h in omega (arith, b.0);
          values = λ i r h. let s = node_stands i r in let a = s.inside in let b = s.runs h in omega (arith, b.0);
        }

    pub ends_fixed : (i : ℕ) → i < nodes_of plan → code_of plan i ≡ 23 → is_fixed (code_of plan (suc i)) ≡ true
    ends_fixed i l h = ((node_stands i l).runs h).2

    pub run_ends_fixed : (i : ℕ) → Reached i → code_of plan i ≡ 23 → is_fixed (code_of plan (suc i)) ≡ true
    run_ends_fixed i r h = ends_fixed i r.0 h

    -- and a buffer of such a node has a part
    pub reached_used : (i b : ℕ) → UsedAt plan Reached i b → Used plan i b
    reached_used i b u = record { node = u.node.0; part = copied_part plan i b u.node.1 u.buffer }
