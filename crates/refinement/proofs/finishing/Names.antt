-- The data buffers of views: the finished tables name those of all sources, in order. Assumes nothing.
use mathlib.Core.Path.{◌≡◌, refl, sym, ap, ap₂, subst, ◌∙◌}
use mathlib.Core.Bool.{Bool, true, false, cond}
use mathlib.Core.List.{List, [], ◌++◌}
use Prim.Native.Nat.{ℕ, zero, suc, ◌+◌, ◌*◌, ◌-◌, ◌≤◌, ◌<◌}
use native.Mathlib.Nat.{min-eq_left}
use native.Mathlib.Decide.{dec_lt}
use native.Mathlib.Omega.{arith}
use lib.ListN.{length, get_or, length-append, get_or-append}
use lib.Seq.{ext_get_or, get_or-append-add}
use Rattle.columnar.specs.Row.{seg}
use Rattle.columnar.specs.View.{Views}
use Rattle.schema.specs.formats.Code.{is_view}
use Rattle.array_data.specs.Tables.{Tables, part, data_buffer, data_buffers}
use Rattle.model.proofs.Bits.{length_seg, get_d_seg}
use Rattle.model.proofs.Rows.{seg_append}
use Rattle.walk.specs.State.{code_of, place}
use Rattle.plan.specs.parts.Parts.{nodes_of, copied}
use Rattle.refinement.specs.orders.Order.{Lent, join_of}
use Rattle.refinement.specs.finishing.Finish.{sources, data_count, buffers_of, buffers_before, buffers_from, buffers_up_to, copied_place, place_at}
use Rattle.refinement.specs.finishing.Shows.{finished_tables, Bodied}
use Rattle.refinement.proofs.finishing.Given.{Named}
use Rattle.refinement.proofs.finishing.Lookups.{place_at_lem, source_part}

seg_moved : {A : Type 0} (z : A) (f g : ℕ → A) (a b n : ℕ) → ((r : ℕ) → r < n → f (a + r) ≡ g (b + r)) → seg f a n ≡ seg g b n
seg_moved z f g a b n h =
    ext_get_or z (seg f a n) (seg g b n) (length_seg f a n ∙ sym (length_seg g b n))
    (λ r q. let u : r < n = omega (arith, length_seg f a n) in
    get_d_seg f a n r z u ∙ h r u ∙ sym (get_d_seg g b n r z u))

-- what stands behind a list of this length
get_d_behind : (xs ys : List ℕ) (n q : ℕ) → length xs ≡ n → get_or (xs ++ ys) (n + q) 0 ≡ get_or ys q 0
get_d_behind xs ys n q e = subst (λ k. get_or (xs ++ ys) (k + q) 0 ≡ get_or ys q 0) e (get_or-append-add xs ys q 0)

module _ (x : Lent) (buffers counters room : List ℕ) (base : ℕ) where
  abbrev before : ℕ → ℕ
  before = buffers_before x buffers counters room base

  abbrev many : ℕ → ℕ → ℕ
  many = buffers_of x buffers counters room base

  abbrev count : ℕ → ℕ → ℕ
  count = data_count x buffers counters room base

  abbrev names : ℕ → ℕ → List ℕ
  names = buffers_from x buffers counters room base

  abbrev all : ℕ → List ℕ
  all = buffers_up_to x buffers counters room base

  abbrev top : ℕ
  top = sources x buffers counters room base

  -- ---- of one node

  names_long : (i s : ℕ) → length (names i s) ≡ 2 * many i s
  unfolding buffers_from buffers_of
  names_long i zero = refl
  names_long i (suc s) =
      let a = names_long i s in
      let b = length_seg (λ q. get_or buffers q 0) (2 * place (join_of x s) i 7) (2 * count i s) in
      rw length-append (omega (arith, a, b))

  many_in_lem : (i s n : ℕ) → s < n → many i s + count i s ≤ many i n
  unfolding buffers_of
  many_in_lem i s zero l = absurd (omega arith)
  many_in_lem i s (suc n) l = go (dec_lt s n) (many_in_lem i s n)
    where
      go : Dec (s < n) → (s < n → many i s + count i s ≤ many i n) → many i s + count i s ≤ many i n + count i n
      go (yes y) f = omega (arith, f y)
      go (no y) f = let e : s ≡ n = omega arith in rw e (omega arith)

  -- number r of source s
  name_of : (i s n r : ℕ) → s < n → r < 2 * count i s → get_or (names i n) (2 * many i s + r) 0 ≡ get_or buffers (2 * place (join_of x s) i 7 + r) 0
  unfolding buffers_from
  name_of i s zero r l q = absurd (omega arith)
  name_of i s (suc n) r l q = go (dec_lt s n) (λ y. name_of i s n r y q)
    where
      new : List ℕ
      new = seg (λ q. get_or buffers q 0) (2 * place (join_of x n) i 7) (2 * count i n)

      go : Dec (s < n) → (s < n → get_or (names i n) (2 * many i s + r) 0 ≡ get_or buffers (2 * place (join_of x s) i 7 + r) 0)
          → get_or (names i n ++ new) (2 * many i s + r) 0 ≡ get_or buffers (2 * place (join_of x s) i 7 + r) 0
      go (yes y) f = get_or-append (names i n) new 0 (2 * many i s + r) (omega (arith, names_long i n, many_in_lem i s n y)) ∙ f y
      go (no y) f =
          let e : s ≡ n = omega arith in
          let q2 : r < 2 * count i n = rw e at q in
          rw e (get_d_behind (names i n) new (2 * many i n) r (names_long i n) ∙ get_d_seg _ (2 * place (join_of x n) i 7) (2 * count i n) r 0 q2)

  -- few, whatever the tables hold
  many_small : (i s : ℕ) → many i s ≤ 33 * s
  unfolding buffers_of
  many_small i zero = omega arith
  many_small i (suc s) = omega (arith, many_small i s)

  -- ---- of all nodes

  pub before_small : (n : ℕ) → before n ≤ 528 * n
  unfolding buffers_before
  before_small zero = omega arith
  before_small (suc n) = go (is_view (code_of x.plan n)) (before_small n)
    where
      go : (b : Bool) → before n ≤ 528 * n → before n + cond b (many n top) 0 ≤ 528 * suc n
      go true e = omega (arith, e, many_small n top)
      go false e = omega arith

  pub all_long : (i : ℕ) → length (all i) ≡ 2 * before i
  unfolding buffers_up_to buffers_before
  all_long zero = refl
  all_long (suc i) = rw length-append (go (is_view (code_of x.plan i)) (all_long i))
    where
      go : (b : Bool) → length (all i) ≡ 2 * before i → length (all i) + length (cond b (names i top) []) ≡ 2 * (before i + cond b (many i top) 0)
      go true e = omega (arith, names_long i top)
      go false e = omega arith

  pub before_in : (i n : ℕ) → i < n → is_view (code_of x.plan i) ≡ true → before i + many i top ≤ before n
  unfolding buffers_before
  before_in i zero l v = absurd (omega arith)
  before_in i (suc n) l v = go (dec_lt i n) (λ y. before_in i n y v)
    where
      go : Dec (i < n) → (i < n → before i + many i top ≤ before n) → before i + many i top ≤ before n + cond (is_view (code_of x.plan n)) (many n top) 0
      go (yes y) f = omega (arith, f y)
      go (no y) f =
          let e : n ≡ i = omega arith in
          rw (e, v) (omega arith)

  name_in : (i n q : ℕ) → i < n → is_view (code_of x.plan i) ≡ true → q < 2 * many i top → get_or (all n) (2 * before i + q) 0 ≡ get_or (names i top) q 0
  unfolding buffers_up_to
  name_in i zero q l v k = absurd (omega arith)
  name_in i (suc n) q l v k = go (dec_lt i n) (λ y. name_in i n q y v k)
    where
      go : Dec (i < n) → (i < n → get_or (all n) (2 * before i + q) 0 ≡ get_or (names i top) q 0)
          → get_or (all n ++ cond (is_view (code_of x.plan n)) (names n top) []) (2 * before i + q) 0 ≡ get_or (names i top) q 0
      go (yes y) f = get_or-append (all n) _ 0 (2 * before i + q) (omega (arith, all_long n, before_in i n y v)) ∙ f y
      go (no y) f =
          let e : n ≡ i = omega arith in
          rw (e, v) (get_d_behind (all i) (names i top) (2 * before i) q (all_long i))

  -- ---- the buffers that the sources name

  module _ (body : List ℕ) (bodied : Bodied body x room base) (m : ℕ) (few : top ≡ m) (i : ℕ) (l : i < nodes_of x.plan) (c : copied x.plan i ≡ true)
      (v : is_view (code_of x.plan i) ≡ true) (ss : ℕ → Views) (h : (s : ℕ) → s < m → Named x buffers s i (ss s))
      (short : (s : ℕ) → s < m → place (join_of x s) i 8 ≤ 32) where
    abbrev Y : Tables
    Y = finished_tables x buffers counters room base body

    -- number e of the numbers that name the buffers of source s
    number_at : (s e : ℕ) → s < m → e < 2 * place (join_of x s) i 8 → get_or Y.buffers (2 * before i + (2 * many i s + e)) 0 ≡ get_or buffers (2 * place (join_of x s) i 7 + e) 0
    number_at s e q k =
        name_in i (nodes_of x.plan) (2 * many i s + e) l v (omega (arith, k, short s q, many_in_lem i s top (omega arith)))
        ∙ name_of i s top e (omega arith) (omega (arith, k, short s q))

    first_number : (s r : ℕ) → s < m → r < place (join_of x s) i 8 → get_or Y.buffers (2 * (before i + many i s + r)) 0 ≡ get_or buffers (2 * (place (join_of x s) i 7 + r)) 0
    first_number s r q k =
        let p = place (join_of x s) i 7 in
        let a : 2 * (before i + many i s + r) ≡ 2 * before i + (2 * many i s + 2 * r) = omega arith in
        let b : 2 * p + 2 * r ≡ 2 * (p + r) = omega arith in
        ap (λ n. get_or Y.buffers n 0) a ∙ number_at s (2 * r) q (omega arith) ∙ ap (λ n. get_or buffers n 0) b

    second_number : (s r : ℕ) → s < m → r < place (join_of x s) i 8 → get_or Y.buffers (2 * (before i + many i s + r) + 1) 0 ≡ get_or buffers (2 * (place (join_of x s) i 7 + r) + 1) 0
    second_number s r q k =
        let p = place (join_of x s) i 7 in
        let a : 2 * (before i + many i s + r) + 1 ≡ 2 * before i + (2 * many i s + (2 * r + 1)) = omega arith in
        let b : 2 * p + (2 * r + 1) ≡ 2 * (p + r) + 1 = omega arith in
        ap (λ n. get_or Y.buffers n 0) a ∙ number_at s (2 * r + 1) q (omega arith) ∙ ap (λ n. get_or buffers n 0) b

    buffer_at : (s r : ℕ) → s < m → r < place (join_of x s) i 8
        → data_buffer Y (before i + many i s + r) ≡ part x.body (get_or buffers (2 * (place (join_of x s) i 7 + r)) 0) (get_or buffers (2 * (place (join_of x s) i 7 + r) + 1) 0)
    buffer_at s r q k =
        ap₂ (part body) (first_number s r q k) (second_number s r q k) ∙ source_part x buffers counters room base body bodied _ _ ((h s q).inside r k)

    -- each lies in the sources' body
    lie_up : (s : ℕ) → s ≤ m → (q : ℕ) → q < many i s → get_or Y.buffers (2 * (before i + q)) 0 + get_or Y.buffers (2 * (before i + q) + 1) 0 ≤ length x.body
    unfolding buffers_of
    lie_up zero l q k = absurd (omega arith)
    lie_up (suc s) l q k = go (dec_lt q (many i s)) (λ y. lie_up s (omega arith) q y)
      where
        go : Dec (q < many i s) → (q < many i s → get_or Y.buffers (2 * (before i + q)) 0 + get_or Y.buffers (2 * (before i + q) + 1) 0 ≤ length x.body)
            → get_or Y.buffers (2 * (before i + q)) 0 + get_or Y.buffers (2 * (before i + q) + 1) 0 ≤ length x.body
        go (yes y) f = f y
        go (no y) f =
            let r = q - many i s in
            let e : before i + many i s + r ≡ before i + q = omega arith in
            let z : r < place (join_of x s) i 8 = omega arith in
            let g = (h s (omega arith)).inside r z in
            subst (λ n. get_or Y.buffers (2 * n) 0 + get_or Y.buffers (2 * n + 1) 0 ≤ length x.body) e (rw (first_number s r (omega arith) z, second_number s r (omega arith) z) g)

    pub buffers_lie : (q : ℕ) → q < many i top → get_or Y.buffers (2 * (before i + q)) 0 + get_or Y.buffers (2 * (before i + q) + 1) 0 ≤ length x.body
    buffers_lie = subst (λ n. (q : ℕ) → q < many i n → get_or Y.buffers (2 * (before i + q)) 0 + get_or Y.buffers (2 * (before i + q) + 1) 0 ≤ length x.body) (sym few) (lie_up m (omega arith))

    buffers_up : (s : ℕ) → s ≤ m → seg (data_buffer Y) (before i) (many i s) ≡ Rattle.model.specs.Primitive.buffers_before ss s
    unfolding buffers_of
    buffers_up zero q = refl
    buffers_up (suc s) q =
        let e : count i s ≡ place (join_of x s) i 8 = min-eq_left (omega (arith, short s (omega arith))) in
        ap (λ n. seg (data_buffer Y) (before i) (many i s + n)) e
        ∙ seg_append (data_buffer Y) (before i) (many i s) (place (join_of x s) i 8)
        ∙ ap₂ ◌++◌ (buffers_up s (omega arith))
        (seg_moved [] (data_buffer Y) _ (before i + many i s) (place (join_of x s) i 7) (place (join_of x s) i 8) (λ r k. buffer_at s r (omega arith) k) ∙ sym (h s (omega arith)).buffers_are)

    pub from_place : Rattle.array_data.specs.Tables.place Y i 7 ≡ before i
    unfolding place_at copied_place
    from_place = place_at_lem x buffers counters room base body i l 7 (omega arith) ∙ rw (c, v)

    pub many_place : Rattle.array_data.specs.Tables.place Y i 8 ≡ many i top
    unfolding place_at copied_place
    many_place = place_at_lem x buffers counters room base body i l 8 (omega arith) ∙ rw (c, v)

    -- THE DATA BUFFERS OF A FINISHED VIEW NODE are those of the sources
    pub buffers_shown : data_buffers Y i ≡ Rattle.model.specs.Primitive.buffers_before ss m
    buffers_shown = rw (from_place, many_place, few) (buffers_up m (omega arith))
