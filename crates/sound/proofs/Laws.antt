-- The tests of a node, one after the other: each value of the code is a variable with its equation. Assumes nothing.
use mathlib.Core.Path.{◌≡◌, refl, sym, ap, ap₂, subst, ◌∙◌}
use mathlib.Core.Bool.{Bool, true, false, ◌||◌}
use mathlib.Core.List.{List}
use Prim.Native.Nat.{ℕ, suc, ◌+◌, ◌-◌, ◌≤◌, ◌<◌}
use native.Mathlib.Numerals.{add-one}
use native.Mathlib.Omega.{arith}
use lib.Dec.{leb, ltb}
use borrow.Author.Tests.{lt-ltb, le-ltb, le-leb, lt-leb, leb-true, leb-false, eq-eqb, ne_eqb}
use Rattle.columnar.specs.Test.{every}
use Rattle.columnar.proofs.Test.{every_false}
use Rattle.schema.specs.formats.Code.{is_fixed, is_list_view, is_list, is_run_end}
use Rattle.walk.specs.State.{code_of, dictionary_of, end_of}
use Rattle.refinement.specs.log_in_room.Reach.{has_item}
use Rattle.plan.specs.parts.Parts.{nodes_of, copied}
use Rattle.plan.proofs.parts.Laws.{every_one, every_now}
use Rattle.refinement.specs.orders.Sound.{nested_in, ends_sound, kind_sound, node_sound, plan_sound, walkable}
use Rattle.columns.specs.Grounds.{ceiling}

-- a list-view or a list has its child behind it
item_is : (z : ℕ) → is_list_view z || is_list z ≡ has_item z
item_is z = go (leb 17 z) (leb z 18) refl refl
  where
    go : (a b : Bool) → leb 17 z ≡ a → leb z 18 ≡ b → is_list_view z || is_list z ≡ has_item z
    go false b e f = rw (e, lt-leb 19 z (omega (arith, leb-false 17 z e)))
    go true true e f = rw (e, f, le-leb z 20 (omega (arith, leb-true z 18 f)))
    go true false e f = rw (e, f, le-leb 19 z (omega (arith, leb-false z 18 f)))

module _ (plan : List ℕ) (i : ℕ) where
  -- ---- the nodes below

  abbrev pub Inside : ℕ → Bool
  Inside k = leb (end_of plan (suc i + k)) (end_of plan i)

  module _ {e : ℕ} (q : e ≡ end_of plan i) where
    pub nested_no : (k j : ℕ) {f : ℕ} → j ≡ suc i + k → j < e → f ≡ end_of plan j → e < f → false ≡ nested_in plan i
    unfolding nested_in
    nested_no k j p l g h = sym (every_false Inside (end_of plan i - suc i) k (omega arith) (lt-leb (end_of plan (suc i + k)) (end_of plan i) (omega (arith, ap (end_of plan) p))))

    pub nested_more : (k k2 j : ℕ) {f : ℕ} → j ≡ suc i + k → k2 ≡ k + 1 → every Inside k ≡ true → f ≡ end_of plan j → f ≤ e → every Inside k2 ≡ true
    nested_more k k2 j p r h g l = rw r (every_one Inside k h (le-leb (end_of plan (suc i + k)) (end_of plan i) (omega (arith, ap (end_of plan) p))))

    pub nested_all : (k : ℕ) → k ≤ e - suc i → e ≤ i + 1 + k → every Inside k ≡ true → true ≡ nested_in plan i
    unfolding nested_in
    nested_all k l g h = sym (every_now Inside (end_of plan i - suc i) k (omega arith) (omega arith) h)

    pub nested_none : e ≤ i → true ≡ nested_in plan i
    unfolding nested_in
    nested_none l = let z : end_of plan i - suc i ≡ 0 = omega arith in rw z refl

    pub nested_end : (j : ℕ) → (i + 1 ≤ e → j ≤ e) → e ≤ j → every Inside (j - suc i) ≡ true → true ≡ nested_in plan i
    nested_end j l g h = go (leb (i + 1) e) refl
      where
        go : (t : Bool) → leb (i + 1) e ≡ t → true ≡ nested_in plan i
        go true t = let b = l (leb-true (i + 1) e t) in nested_all (j - suc i) (omega arith) (omega arith) h
        go false t = let b = leb-false (i + 1) e t in nested_none (omega arith)

  -- ---- run ends

  module _ {e : ℕ} (q : e ≡ end_of plan i) where
    pub ends_past : e ≤ i + 2 → false ≡ ends_sound plan i
    unfolding ends_sound
    ends_past h = rw (le-ltb (suc (suc i)) (end_of plan i) (omega arith))

    module _ (l : i + 2 < e) {d : ℕ} (p : d ≡ dictionary_of plan (i + 1)) where
      keys_are : d ≡ dictionary_of plan (suc i)
      keys_are = subst (λ z. d ≡ dictionary_of plan z) (add-one i) p

      pub ends_keyed : (d ≡ 0 → ⊥) → false ≡ ends_sound plan i
      unfolding ends_sound
      ends_keyed h = rw (lt-ltb (suc (suc i)) (end_of plan i) (omega arith), ne_eqb (dictionary_of plan (suc i)) 0 (λ z. h (keys_are ∙ z)))

      pub ends_by : {z : ℕ} {r : Bool} → d ≡ 0 → z ≡ code_of plan (i + 1) → r ≡ is_fixed z → r ≡ ends_sound plan i
      unfolding ends_sound
      ends_by {z} {r} h g f =
          let k : z ≡ code_of plan (suc i) = subst (λ v. z ≡ code_of plan v) (add-one i) g in
          rw (lt-ltb (suc (suc i)) (end_of plan i) (omega arith), eq-eqb (dictionary_of plan (suc i)) 0 (sym keys_are ∙ h)) (f ∙ ap is_fixed k)

  -- ---- kinds

  module _ {z : ℕ} (q : z ≡ code_of plan i) where
    pub kind_number : z ≤ 10 → true ≡ kind_sound plan i
    unfolding kind_sound
    kind_number h = rw (le-leb (code_of plan i) 10 (omega arith))

    module _ (l : 10 < z) {d : ℕ} (p : d ≡ dictionary_of plan i) where
      pub kind_keyed : (d ≡ 0 → ⊥) → false ≡ kind_sound plan i
      unfolding kind_sound
      kind_keyed h = rw (lt-leb (code_of plan i) 10 (omega arith), ne_eqb (dictionary_of plan i) 0 (λ v. h (p ∙ v)))

      module _ (h : d ≡ 0) {a u : Bool} (f : a ≡ is_list_view z) (o : u ≡ is_list z) where
        list_is : has_item (code_of plan i) ≡ a || u
        list_is = ap has_item (sym q) ∙ sym (item_is z) ∙ sym (ap₂ ◌||◌ f o)

        pub kind_list : {e : ℕ} → a || u ≡ true → e ≡ end_of plan i → ltb (i + 1) e ≡ kind_sound plan i
        unfolding kind_sound
        kind_list {e} t g = rw (lt-leb (code_of plan i) 10 (omega arith), eq-eqb (dictionary_of plan i) 0 (sym p ∙ h), list_is ∙ t, add-one i, g)

        module _ (t : a || u ≡ false) {b : Bool} (g : b ≡ is_run_end z) where
          run_is : is_run_end (code_of plan i) ≡ b
          run_is = ap is_run_end (sym q) ∙ sym g

          pub kind_run : {r : Bool} → b ≡ true → r ≡ ends_sound plan i → r ≡ kind_sound plan i
          unfolding kind_sound
          kind_run s k = rw (lt-leb (code_of plan i) 10 (omega arith), eq-eqb (dictionary_of plan i) 0 (sym p ∙ h), list_is ∙ t, run_is ∙ s) k

          pub kind_else : b ≡ false → true ≡ kind_sound plan i
          unfolding kind_sound
          kind_else s = rw (lt-leb (code_of plan i) 10 (omega arith), eq-eqb (dictionary_of plan i) 0 (sym p ∙ h), list_is ∙ t, run_is ∙ s)

  -- ---- nodes

  module _ (n : ℕ) {e : ℕ} (q : e ≡ end_of plan i) where
    pub node_low : e ≤ i → false ≡ node_sound plan n i
    unfolding node_sound
    node_low h = rw (le-ltb i (end_of plan i) (omega arith))

    module _ (l : i < e) where
      pub node_past : n < e → false ≡ node_sound plan n i
      unfolding node_sound
      node_past h = rw (lt-ltb i (end_of plan i) (omega arith), lt-leb (end_of plan i) n (omega arith))

      module _ (m : e ≤ n) where
        pub node_loose : nested_in plan i ≡ false → false ≡ node_sound plan n i
        unfolding node_sound
        node_loose h = rw (lt-ltb i (end_of plan i) (omega arith), le-leb (end_of plan i) n (omega arith), h)

        module _ (a : nested_in plan i ≡ true) where
          pub node_other : kind_sound plan i ≡ false → false ≡ node_sound plan n i
          unfolding node_sound
          node_other h = rw (lt-ltb i (end_of plan i) (omega arith), le-leb (end_of plan i) n (omega arith), a, h)

          module _ (b : kind_sound plan i ≡ true) where
            pub node_last : n ≤ e → true ≡ node_sound plan n i
            unfolding node_sound
            node_last h = rw (lt-ltb i (end_of plan i) (omega arith), le-leb (end_of plan i) n (omega arith), a, b, le-ltb (end_of plan i) n (omega arith))

            pub node_next : {r : Bool} → e < n → r ≡ copied plan e → r ≡ node_sound plan n i
            unfolding node_sound
            node_next {r} h k =
                rw (lt-ltb i (end_of plan i) (omega arith), le-leb (end_of plan i) n (omega arith), a, b, lt-ltb (end_of plan i) n (omega arith)) (k ∙ ap (copied plan) q)

-- ---- plans

module _ (plan : List ℕ) {n : ℕ} (q : n ≡ nodes_of plan) where
  pub plan_none : n ≡ 0 → false ≡ plan_sound plan
  unfolding plan_sound
  plan_none h = rw (sym q ∙ h)

  module _ (l : n ≡ 0 → ⊥) where
    some_node : ltb 0 (nodes_of plan) ≡ true
    some_node = lt-ltb 0 (nodes_of plan) (positive n l q)
      where
        positive : (k : ℕ) → (k ≡ 0 → ⊥) → k ≡ nodes_of plan → 0 < nodes_of plan
        positive k h g = omega arith

    pub plan_no : (i : ℕ) → i < n → node_sound plan n i ≡ false → false ≡ plan_sound plan
    unfolding plan_sound
    plan_no i h f = rw some_node (sym (every_false (node_sound plan (nodes_of plan)) (nodes_of plan) i (omega arith) (subst (λ k. node_sound plan k i ≡ false) q f)))

    pub plan_all : (i : ℕ) → i ≤ n → n ≤ i → every (node_sound plan n) i ≡ true → true ≡ plan_sound plan
    unfolding plan_sound
    plan_all i h g f = rw some_node (sym (every_now (node_sound plan (nodes_of plan)) (nodes_of plan) i (omega arith) (omega arith) (subst (λ k. every (node_sound plan k) i ≡ true) q f)))

module _ (plan : List ℕ) (m : ℕ) where
  pub walk_large : ceiling < m → false ≡ walkable plan m
  unfolding walkable
  walk_large h = rw (lt-leb m ceiling h)

  pub walk_by_lem : {r : Bool} → m ≤ ceiling → r ≡ plan_sound plan → r ≡ walkable plan m
  unfolding walkable
  walk_by_lem h f = rw (le-leb m ceiling h) f
