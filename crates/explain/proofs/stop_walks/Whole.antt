-- What a node says by its code, and the tree from its top downward. Assumes nothing.
use mathlib.Core.Path.{◌≡◌, refl, sym, ap, subst, ◌∙◌}
use mathlib.Core.Bool.{Bool, true, false, not, cond}
use mathlib.Core.List.{List}
use Prim.Native.Nat.{ℕ, zero, suc, ◌+◌, ◌-◌, ◌≤◌, ◌<◌}
use native.Mathlib.Omega.{arith}
use lib.Dec.{leb, ltb, eqb}
use borrow.Author.Tests.{eq-eqb, ne_eqb, lt-ltb, le-ltb, le-leb, leb-false}
use Rattle.schema.specs.formats.Code.{between, is_string, is_list_view, is_list}
use Rattle.walk.specs.State.{Join, code_of, bytes_of, far, slot_of}
use Rattle.walk.specs.Log.{Out, done}
use Rattle.walk.specs.Leaves.{copy_mask}
use Rattle.walk.specs.Copy.{Walk, masked, copy_data, copy_walk}
use Rattle.explain.specs.declared.stops.Why.{Why}
use Rattle.explain.specs.stops.Why.{only, unless, past}
use Rattle.explain.specs.stops.Copy.{why_string, why_list_view, why_list, why_sparse, why_dense, why_runs, why_data, why_slots, why_node, why_copy}

-- a code that is none of those from low to high
outside : (low high code : ℕ) → between low high code ≡ false → low ≤ code → high < code
outside low high code h l = go (leb code high) refl (rw (le-leb low code l) at h)
  where
    go : (t : Bool) → leb code high ≡ t → t ≡ false → high < code
    go true e q = absurd (let z : ◌≡◌ {A = ℕ} 0 1 = cc in omega arith)
    go false e q = leb-false code high e

module _ (x : Join) (depth : ℕ) where
  abbrev walk : Walk
  walk = copy_walk x depth

  abbrev why : ℕ → ℕ → ℕ → List ℕ → Why
  why = why_copy x depth

  -- ---- by the code

  module _ (i slot n : ℕ) (c : List ℕ) {code w : ℕ} (e : code ≡ code_of x.plan i) (f : w ≡ bytes_of x.plan i) where
    abbrev says : Why
    says = why_data x walk why (code_of x.plan i) i slot n c

    is : (g : ℕ → Bool) {t v : Bool} → t ≡ g code → t ≡ v → g (code_of x.plan i) ≡ v
    is g p q = ap g (sym e) ∙ sym p ∙ q

    pub on_string : {t : Bool} → t ≡ is_string code → t ≡ true → says ≡ why_string x walk why w i slot n c
    unfolding why_data
    on_string p q = rw (is is_string p q, f) refl

    module _ {t : Bool} (p : t ≡ is_string code) (q : t ≡ false) where
      pub on_view : {u : Bool} → u ≡ is_list_view code → u ≡ true → says ≡ why_list_view x walk why w i slot n c
      unfolding why_data
      on_view h k = rw (is is_string p q, is is_list_view h k, f) refl

      module _ {u : Bool} (h : u ≡ is_list_view code) (k : u ≡ false) where
        pub on_list : {v : Bool} → v ≡ is_list code → v ≡ true → says ≡ why_list x walk why w i slot n c
        unfolding why_data
        on_list l m = rw (is is_string p q, is is_list_view h k, is is_list l m, f) refl

        module _ {v : Bool} (l : v ≡ is_list code) (m : v ≡ false) where
          pub on_sparse : code ≡ 21 → says ≡ why_sparse x walk why i slot n c
          unfolding why_data
          on_sparse z = rw (sym e ∙ z) refl

          pub on_dense : code ≡ 22 → says ≡ why_dense x walk why i slot n c
          unfolding why_data
          on_dense z = rw (sym e ∙ z) refl

          pub on_runs : code ≡ 23 → says ≡ why_runs x walk why i slot n c
          unfolding why_data
          on_runs z = rw (sym e ∙ z) refl

          module _ (a : code ≡ 21 → ⊥) (b : code ≡ 22 → ⊥) (d : code ≡ 23 → ⊥) where
            pub on_leaf : {g : ℕ} → g ≡ (copy_data x walk (code_of x.plan i) i slot n c).ans → says ≡ only g
            unfolding why_data
            on_leaf o =
                rw (is is_string p q, is is_list_view h k, is is_list l m, ne_eqb (code_of x.plan i) 21 (λ z. a (e ∙ z)), ne_eqb (code_of x.plan i) 22 (λ z. b (e ∙ z)), ne_eqb (code_of x.plan i) 23 (λ z. d (e ∙ z)), o)
                refl

            -- what the walk of a leaf asks
            pub leaf_code : 17 ≤ code_of x.plan i → 23 < code_of x.plan i
            leaf_code s =
                let v = outside 17 18 (code_of x.plan i) (is is_list_view h k) s in
                let w = outside 19 20 (code_of x.plan i) (is is_list l m) (omega (arith, v)) in
                omega (arith, w, a, b, d, e)

  -- ---- a node

  module _ (i a n : ℕ) (c : List ℕ) where
    pub node_out : 32 ≤ i → why_node x walk why i a n c ≡ only 12
    unfolding why_node unless
    node_out h = rw (le-ltb i 32 h) refl

    module _ (l : i < 32) {slot : ℕ} (e : slot ≡ slot_of x i a n) where
      pub node_far : 9223372036854775808 ≤ slot → why_node x walk why i a n c ≡ only 12
      unfolding why_node unless
      node_far h = rw (lt-ltb i 32 l, ← e, le-ltb slot far h) refl

      module _ (h : slot < 9223372036854775808) {o : Out} (k : o ≡ cond (masked (code_of x.plan i)) (copy_mask x i slot n c) (done c)) where
        node_slots : why_node x walk why i a n c ≡ past o (only 12) (λ c2. why_data x walk why (code_of x.plan i) i slot n c2)
        unfolding why_node why_slots unless
        node_slots = rw (lt-ltb i 32 l, ← e, lt-ltb slot far h, k) refl

        pub node_mask : (o.ans ≡ 0 → ⊥) → why_node x walk why i a n c ≡ only 12
        unfolding past
        node_mask z = node_slots ∙ rw (ne_eqb o.ans 0 z) refl

        pub node_data : o.ans ≡ 0 → {c2 : List ℕ} → c2 ≡ o.counters → why_node x walk why i a n c ≡ why_data x walk why (code_of x.plan i) i slot n c2
        unfolding past
        node_data z q = node_slots ∙ rw (eq-eqb o.ans 0 z, q) refl

-- ---- one level after the other

module _ (x : Join) (i a n : ℕ) (c : List ℕ) where
  pub level : (left less : ℕ) → left ≡ suc less → why_copy x left i a n c ≡ why_node x (copy_walk x less) (why_copy x less) i a n c
  unfolding why_copy
  level left less e = rw e refl

  pub bottom : (left : ℕ) → left ≡ 0 → why_copy x left i a n c ≡ only 12
  unfolding why_copy
  bottom left e = rw e refl
