-- What each kind of node says of nulls, by the ways that the code goes. Assumes nothing.
use mathlib.Core.Path.{◌≡◌, refl, sym, ap, subst, ◌∙◌}
use mathlib.Core.Bool.{Bool, true, false, not, cond, ◌&&◌}
use mathlib.Core.List.{List}
use Prim.Native.Nat.{ℕ, zero, suc, ◌+◌, ◌*◌, ◌-◌, ◌≤◌, ◌<◌, min, max}
use native.Mathlib.Omega.{arith}
use native.Mathlib.Numerals.{add-one}
use native.Mathlib.Nat.{min-eq_left}
use lib.ListN.{length, get_or}
use lib.Dec.{leb, ltb, eqb}
use borrow.Author.Tests.{eq-eqb, ne_eqb, lt-ltb, le-ltb, le-leb, lt-leb}
use Rattle.array_data.proofs.lent_tables.Laws.{no, yes}
use Rattle.columnar.specs.Types.{half}
use Rattle.walk.specs.State.{Join, code_of, end_of, bytes_of, rows, bytes, gap, far, grown, top}
use Rattle.walk.specs.Log.{Out, Did}
use Rattle.walk.specs.Copy.{is_width}
use Rattle.walk.specs.Nulls.{NullWalk, nullable_child, no_home, null_data, null_walk}
use Rattle.nested_rows.proofs.Laws.{ends_ready}
use Rattle.explain.specs.declared.stops.Why.{Why}
use Rattle.explain.specs.stops.Why.{only, nothing, named, clash, unless, past}
use Rattle.explain.specs.stops.Copy.{most}
use Rattle.explain.specs.stops.Nulls.{walked, first_position, why_null_fields, why_null_sparse, why_null_home, why_null_dense, why_null_end, why_null_runs, why_null_data, why_null_node, why_nulls}
use Rattle.explain.specs.stop_walks.Step.{Tried}
use Rattle.explain.proofs.stop_walks.Laws.{cut}
use Rattle.explain.specs.declared.nulls.NullStep.{NullStep}
use Rattle.explain.specs.declared.nulls.NullStep.TheVariants.{On, Here, Below}
use Rattle.explain.specs.nulls.Step.{why_after, RowSays}

module _ (x : Join) (depth : ℕ) where
  abbrev walk : NullWalk
  walk = null_walk x depth

  abbrev why : ℕ → ℕ → List ℕ → Why
  why = why_nulls x depth

  module _ (k n : ℕ) {o : Out} {c : List ℕ} {g : ℕ} {c2 : List ℕ} (t : Tried o c g c2) where
    pub into_stop : (g ≡ 0 → ⊥) → RowSays o (why_nulls x depth k n c) x depth (Below k n) c2
    into_stop h = record { row = (λ z. h (t.answer ∙ z), ap (why_nulls x depth k n) (sym (rw (ne_eqb g 0 h) at t.counters))) }

    pub into_on : (w : Why) → g ≡ 0 → RowSays o w x depth On c2
    into_on w h = record { row = (sym t.answer ∙ h, rw (eq-eqb g 0 h) at t.counters) }

  -- ---- unions

  module _ (n end : ℕ) where
    pub fields_end : (f k : ℕ) (c : List ℕ) → end ≤ k → why_null_fields x walk why n end f k c ≡ nothing
    unfolding why_null_fields
    fields_end zero k c h = refl
    fields_end (suc f) k c h = rw (le-ltb k end h) refl

    pub fields_none : (f k : ℕ) (c : List ℕ) → f ≡ 0 → why_null_fields x walk why n end f k c ≡ nothing
    unfolding why_null_fields
    fields_none f k c e = rw e refl

    module _ (f f' k : ℕ) (c : List ℕ) (e : f ≡ suc f') (l : k < end) {s : NullStep} {c2 : List ℕ} (h : RowSays (walk k (walked n) c) (why k n c) x depth s c2) where
      field_on : (walk k (walked n) c).ans ≡ 0 → why_null_fields x walk why n end f k c ≡ why_null_fields x walk why n end f' (end_of x.plan k) (walk k (walked n) c).counters
      unfolding why_null_fields past
      field_on z = rw (e, lt-ltb k end l, eq-eqb (walk k (walked n) c).ans 0 z) refl

      field_stop : ((walk k (walked n) c).ans ≡ 0 → ⊥) → why_null_fields x walk why n end f k c ≡ why k n c
      unfolding why_null_fields past
      field_stop z = rw (e, lt-ltb k end l, ne_eqb (walk k (walked n) c).ans 0 z) refl

      pub fields_on : {k2 : ℕ} → k2 ≡ end_of x.plan k → s ≡ On → why_null_fields x walk why n end f k c ≡ why_null_fields x walk why n end f' k2 c2
      fields_on q z = let d = rw z at h.row in field_on d.0 ∙ rw (q, d.1) refl

      pub fields_here : {w : Why} → s ≡ Here w → why_null_fields x walk why n end f k c ≡ w
      fields_here z = let d = rw z at h.row in field_stop d.0 ∙ d.1

      pub fields_below : {j m : ℕ} → s ≡ Below j m → why_null_fields x walk why n end f k c ≡ why j m c2
      fields_below z = let d = rw z at h.row in field_stop d.0 ∙ d.1

  module _ (i n : ℕ) (c : List ℕ) {h : ℕ} (e : h ≡ nullable_child x.plan (end_of x.plan i) 32 (suc i)) where
    pub sparse_home : 32 ≤ h → why_null_sparse x walk why i n c ≡ named (no_home x.plan i) i
    unfolding why_null_sparse unless
    sparse_home l = rw (← e, le-ltb h 32 l) refl

    pub sparse_fields : h < 32 → {end k : ℕ} → end ≡ end_of x.plan i → k ≡ suc i → why_null_sparse x walk why i n c ≡ why_null_fields x walk why n end 32 k c
    unfolding why_null_sparse unless
    sparse_fields l p q = rw (← e, lt-ltb h 32 l, p, q) refl

    pub dense_home : 32 ≤ h → why_null_dense x walk why i n c ≡ named (no_home x.plan i) i
    unfolding why_null_dense why_null_home unless
    dense_home l = rw (← e, le-ltb h 32 l) refl

    module _ (l : h < 32) {v m s : ℕ} (p : v ≡ rows c h) (q : m ≡ walked n) (r : s ≡ grown v m) where
      pub dense_over : 2147483648 < s → {a b d : ℕ} → a ≡ first_position v → a ≤ top → b ≡ a - v → d ≡ 2147483647 → why_null_dense x walk why i n c ≡ record { refusal = 6; node = i; row = b; needed = a; allowed = d }
      unfolding why_null_dense why_null_home unless
      dense_over h2 {a} f t g k =
          let o : half 4 < rows c h + walked n = omega (arith, cut v m r, p, q, h2) in
          let y : min (first_position (rows c h)) top ≡ first_position (rows c h) = min-eq_left (subst (λ z. z ≤ top) (f ∙ ap first_position p) t) in
          rw (← e, lt-ltb h 32 l, lt-leb (rows c h + walked n) (half 4) o, g, f, k, p, y) refl

      pub dense_below : s ≤ 2147483648 → why_null_dense x walk why i n c ≡ why h n c
      unfolding why_null_dense why_null_home unless
      dense_below h2 =
          let o : rows c h + walked n ≤ half 4 = omega (arith, cut v m r, p, q, h2) in
          rw (← e, lt-ltb h 32 l, le-leb (rows c h + walked n) (half 4) o) refl

  -- ---- run-end nodes

  module _ (i n : ℕ) (c : List ℕ) {w j v m : ℕ} (p : j ≡ suc i) (q : w ≡ bytes_of x.plan j) (k : v ≡ rows c i) (l : m ≡ walked n) {t : Bool} (f : t ≡ ltb (v + m) (half w)) where
    abbrev W : ℕ
    W = bytes_of x.plan (suc i)

    test_is : ltb (rows c i + walked n) (half W) ≡ t
    test_is = sym (f ∙ rw (k, l, q, p) refl)

    pub end_on : t ≡ true → why_null_end x walk why W i n c ≡ nothing
    unfolding why_null_end unless
    end_on h = rw (test_is ∙ h) refl

    pub end_over : t ≡ false → {a b : ℕ} → a ≡ grown v n → b ≡ most w → why_null_end x walk why W i n c ≡ record { refusal = 7; node = i; row = 0; needed = a; allowed = b }
    unfolding why_null_end unless
    end_over h a b = rw (test_is ∙ h, cut v n a, b, k, q, p) refl

  module _ (i n : ℕ) (c : List ℕ) {t : Bool} (f : t ≡ (ltb (suc (suc i)) 32 && is_width (bytes_of x.plan (suc i)))) where
    pub run_foreign : not t ≡ true → why_null_runs x walk why i n c ≡ only 12
    unfolding why_null_runs unless
    run_foreign h = rw (no f h) refl

    module _ (h : not t ≡ false) {v : ℕ} (p : v ≡ bytes c i) where
      module _ (z : v ≡ 2) {j r : ℕ} (q : j ≡ suc i) (k : r ≡ rows c j) where
        pub grow_none : r ≡ 0 → why_null_runs x walk why i n c ≡ only 12
        unfolding why_null_runs unless
        grow_none y = rw (yes f h, eq-eqb (bytes c i) 2 (sym p ∙ z), lt-leb 1 (rows c (suc i)) (omega (arith, rw q at k, y))) refl

        pub grow_end : (r ≡ 0 → ⊥) → why_null_runs x walk why i n c ≡ why_null_end x walk why (bytes_of x.plan (suc i)) i n c
        unfolding why_null_runs unless
        grow_end y = rw (yes f h, eq-eqb (bytes c i) 2 (sym p ∙ z), le-leb 1 (rows c (suc i)) (omega (arith, rw q at k, y))) refl

      module _ (z : v ≡ 2 → ⊥) {j : ℕ} (q : j ≡ suc (suc i)) {s : NullStep} {c2 : List ℕ} (d : RowSays (walk j (walked 1) c) (why j 1 c) x depth s c2) where
        runs_past : why_null_runs x walk why i n c ≡ past (walk j 1 c) (why j 1 c) (λ c3. why_null_end x walk why (bytes_of x.plan (suc i)) i n c3)
        unfolding why_null_runs unless
        runs_past = rw (yes f h, ne_eqb (bytes c i) 2 (λ y. z (p ∙ y)), q) refl

        run_stop : ((walk j 1 c).ans ≡ 0 → ⊥) → why_null_runs x walk why i n c ≡ why j 1 c
        unfolding past
        run_stop y = runs_past ∙ rw (ne_eqb (walk j 1 c).ans 0 y) refl

        pub run_on : s ≡ On → why_null_runs x walk why i n c ≡ why_null_end x walk why (bytes_of x.plan (suc i)) i n c2
        unfolding past
        run_on y = let g = rw y at d.row in runs_past ∙ rw (eq-eqb (walk j 1 c).ans 0 g.0, g.1) refl

        pub run_here : {w : Why} → s ≡ Here w → why_null_runs x walk why i n c ≡ w
        run_here y = let g = rw y at d.row in run_stop g.0 ∙ g.1

        pub run_below : {k a : ℕ} → s ≡ Below k a → why_null_runs x walk why i n c ≡ why k a c2
        run_below y = let g = rw y at d.row in run_stop g.0 ∙ g.1

  -- ---- a node

  module _ (i n : ℕ) (c : List ℕ) {code : ℕ} (e : code ≡ code_of x.plan i) where
    abbrev says : Why
    says = why_null_data x walk why (code_of x.plan i) i n c

    pub on_sparse : code ≡ 21 → says ≡ why_null_sparse x walk why i n c
    unfolding why_null_data
    on_sparse z = rw (sym e ∙ z) refl

    pub on_dense : code ≡ 22 → says ≡ why_null_dense x walk why i n c
    unfolding why_null_data
    on_dense z = rw (sym e ∙ z) refl

    pub on_runs : code ≡ 23 → says ≡ why_null_runs x walk why i n c
    unfolding why_null_data
    on_runs z = rw (sym e ∙ z) refl

    module _ (a : code ≡ 21 → ⊥) (b : code ≡ 22 → ⊥) (d : code ≡ 23 → ⊥) where
      pub on_leaf : {g m : ℕ} → m ≡ walked n → g ≡ (null_data x walk (code_of x.plan i) i m c).ans → says ≡ only g
      unfolding why_null_data
      on_leaf q o = rw (ne_eqb (code_of x.plan i) 21 (λ z. a (e ∙ z)), ne_eqb (code_of x.plan i) 22 (λ z. b (e ∙ z)), ne_eqb (code_of x.plan i) 23 (λ z. d (e ∙ z)), o, q) refl

      pub leaf_code : 21 ≤ code_of x.plan i → 23 < code_of x.plan i
      leaf_code h = omega (arith, a, b, d, e, h)

  module _ (i n : ℕ) (c : List ℕ) where
    pub node_none : n ≡ 0 → why_null_node x walk why i n c ≡ nothing
    unfolding why_null_node
    node_none e = rw e refl

    module _ (s : n ≡ 0 → ⊥) where
      some_null : eqb (walked n) 0 ≡ false
      some_null = ne_eqb (walked n) 0 (λ z. absurd (omega (arith, z, s)))

      pub node_out : 32 ≤ i → why_null_node x walk why i n c ≡ only 12
      unfolding why_null_node unless
      node_out h = rw (some_null, le-ltb i 32 h) refl

      pub node_data : i < 32 → why_null_node x walk why i n c ≡ why_null_data x walk why (code_of x.plan i) i n c
      unfolding why_null_node unless
      node_data h = rw (some_null, lt-ltb i 32 h) refl

  module _ {s : NullStep} where
    pub after_on : s ≡ On → (c : List ℕ) → why_after x depth s c ≡ nothing
    after_on e c = rw e refl

    pub after_here : {w : Why} → s ≡ Here w → (c : List ℕ) → why_after x depth s c ≡ w
    after_here e c = rw e refl

    pub after_below : {k n : ℕ} → s ≡ Below k n → (c : List ℕ) → why_after x depth s c ≡ why_nulls x depth k n c
    after_below e c = rw e refl

-- ---- one level after the other

module _ (x : Join) (i n : ℕ) (c : List ℕ) where
  pub level : (left less : ℕ) → left ≡ suc less → why_nulls x left i n c ≡ why_null_node x (null_walk x less) (why_nulls x less) i n c
  unfolding why_nulls
  level left less e = rw e refl

  pub bottom : (left : ℕ) → left ≡ 0 → why_nulls x left i n c ≡ only 12
  unfolding why_nulls
  bottom left e = rw e refl

-- run ends that are there have one of three widths
module _ (x : Join) (i : ℕ) {t : Bool} (f : t ≡ (ltb (suc (suc i)) 32 && is_width (bytes_of x.plan (suc i)))) (h : not t ≡ false) where
  pub ends_low : i + 2 < 32
  ends_low = (ends_ready i (bytes_of x.plan (suc i)) f h).0

  pub ends_wide : (bytes_of x.plan (suc i) ≡ 2 → ⊥) → (bytes_of x.plan (suc i) ≡ 4 → ⊥) → bytes_of x.plan (suc i) ≡ 8
  ends_wide = (ends_ready i (bytes_of x.plan (suc i)) f h).1

pub width_of_lem : (x : Join) (i : ℕ) {j w : ℕ} → j ≡ suc i → w ≡ bytes_of x.plan j → ((bytes_of x.plan (suc i) ≡ 2 → ⊥) → (bytes_of x.plan (suc i) ≡ 4 → ⊥) → bytes_of x.plan (suc i) ≡ 8) → (w ≡ 2 → ⊥) → (w ≡ 4 → ⊥) → w ≡ 8
width_of_lem x i p q r a b = let e = q ∙ ap (λ (z : ℕ). bytes_of x.plan z) p in e ∙ r (λ z. a (e ∙ z)) (λ z. b (e ∙ z))

-- a count as it is walked
pub tried_at : (x : Join) (depth i n : ℕ) {m : ℕ} {c : List ℕ} {g : ℕ} {c2 : List ℕ} → m ≡ walked n → Tried (null_walk x depth i m c) c g c2 → Tried (null_walk x depth i (walked n) c) c g c2
tried_at x depth i n {c = c} {g} {c2} e t = subst (λ z. Tried (null_walk x depth i z c) c g c2) e t
