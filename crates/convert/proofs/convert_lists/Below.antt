-- The nodes below the root in the tables of a list-view: each is the column's, named where it stands. Assumes nothing.
use mathlib.Core.Path.{◌≡◌, refl, sym, ap, ap₂, ◌∙◌}
use mathlib.Core.Bool.{Bool, true, false, cond, ◌&&◌}
use mathlib.Core.Option.{none, some}
use mathlib.Core.List.{List}
use Prim.Native.Nat.{ℕ, zero, suc, ◌+◌, ◌*◌, ◌/◌, ◌%◌, ◌≤◌, ◌<◌}
use native.Mathlib.Nat.{zero-add}
use native.Mathlib.Omega.{arith}
use lib.ListN.{length, get_or}
use lib.Dec.{leb, eqb}
use borrow.Author.Tests.{le-leb, leb-true, lt-ltb, le-ltb}
use Rattle.columnar.specs.Row.{seg}
use Rattle.columnar.specs.Array.{null_count_of}
use Rattle.columnar.proofs.Kept.{seg_same}
use Rattle.model.proofs.Bits.{length_seg, get_d_seg}
use Rattle.array_data.specs.Tables.{Tables, part, length_of, offset_of, place, valid_of, first_buffer, second_buffer, data_buffer, data_buffers, held, in_body, valid_in}
use Rattle.array_data.specs.Rules.{one_in, two_in, buffers_in}
use Rattle.array_data.specs.Typed.{tables_from}
use Rattle.array_data.proofs.lent_tables.Laws.{and_left, and_right, two_one}
use Rattle.plan.proofs.parts.Placed.{every_at}
use Rattle.plan.specs.dictionaries.Sources.{array_of}
use Rattle.plan.proofs.dictionaries.Laws.{length_from, offset_from, place_from, array_from}
use Rattle.refinement.proofs.orders.Enough.{every_all}
use Rattle.convert.specs.convert_lists.ViewTables.{length_at, offset_at, nulls_at, place_at, view_lengths, view_nulls, view_places, view_tables}

entry : (f : ℕ → ℕ) (n q : ℕ) → q < n → get_or (seg f 0 n) q 0 ≡ f q
entry f n q l = get_d_seg f 0 n q 0 l ∙ ap f (zero-add q)

-- ---- the numbers of each node

module _ (x : Tables) (first n : ℕ) (root : Tables) where
  abbrev Y : Tables
  Y = view_tables x first n root

  abbrev own : Tables
  own = tables_from x first

  module _ (i : ℕ) (l : i < n) where
    length_at_lem : length_of Y i ≡ length_at x first n root.lengths i
    unfolding view_lengths
    length_at_lem =
        let q : 2 * i % 2 ≡ 0 = omega arith in
        let r : 2 * i / 2 ≡ i = omega arith in
        entry _ (2 * n) (2 * i) (omega arith) ∙ rw (q, r)

    offset_at_lem : offset_of Y i ≡ offset_at x first n root.lengths i
    unfolding view_lengths
    offset_at_lem =
        let q : (2 * i + 1) % 2 ≡ 1 = omega arith in
        let r : (2 * i + 1) / 2 ≡ i = omega arith in
        entry _ (2 * n) (2 * i + 1) (omega arith) ∙ rw (q, r)

    place_at_lem : (j : ℕ) → j < 9 → place Y i j ≡ place_at x first n root.places i j
    unfolding view_places
    place_at_lem j k =
        let q : (9 * i + j) % 9 ≡ j = omega arith in
        let r : (9 * i + j) / 9 ≡ i = omega arith in
        entry _ (9 * n) (9 * i + j) (omega arith) ∙ rw (q, r)

    null_at : (nulls : List ℕ) → get_or (view_nulls x first n nulls) i 0 ≡ nulls_at x first n nulls i
    unfolding view_nulls
    null_at nulls = entry _ n i l

    pub held_at : held Y i ≡ true
    unfolding view_lengths view_places
    held_at =
        let a : length Y.lengths ≡ 2 * n = length_seg _ 0 (2 * n) in
        let b : length Y.places ≡ 9 * n = length_seg _ 0 (9 * n) in
        rw (le-leb (2 * suc i) (length Y.lengths) (omega arith)) (le-leb (9 * suc i) (length Y.places) (omega arith))

  -- THE ROOT'S are those that it is finished with
  module _ (l : 0 < n) where
    pub root_length : length_of Y 0 ≡ length_of root 0
    root_length = length_at_lem 0 l

    pub root_offset : offset_of Y 0 ≡ offset_of root 0
    root_offset = offset_at_lem 0 l

    pub root_place : (j : ℕ) → j < 9 → place Y 0 j ≡ place root 0 j
    root_place j k = place_at_lem 0 l j k ∙ ap (λ q. get_or root.places q 0) (omega arith)

    pub root_nulls_lem : (nulls : List ℕ) → get_or (view_nulls x first n nulls) 0 0 ≡ get_or nulls 0 0
    root_nulls_lem nulls = null_at 0 l nulls

  -- BELOW IT they are the column's, without a validity that has no zero bit
  module _ (i : ℕ) (p : 0 < i) (l : i < n) where
    abbrev none_null : Bool
    none_null = eqb (null_count_of (array_of own i)) 0

    pub length_same : length_of Y i ≡ length_of own i
    length_same = go i p l
      where
        go : (i : ℕ) → 0 < i → i < n → length_of Y i ≡ length_of own i
        go zero p l = absurd (omega arith)
        go (suc i) p l = length_at_lem (suc i) l ∙ sym (length_from x first (suc i))

    pub offset_same : offset_of Y i ≡ offset_of own i
    offset_same = go i p l
      where
        go : (i : ℕ) → 0 < i → i < n → offset_of Y i ≡ offset_of own i
        go zero p l = absurd (omega arith)
        go (suc i) p l = offset_at_lem (suc i) l ∙ sym (offset_from x first (suc i))

    pub nulls_same : (nulls : List ℕ) → get_or (view_nulls x first n nulls) i 0 ≡ null_count_of (array_of own i)
    nulls_same nulls = go i p l
      where
        go : (i : ℕ) → 0 < i → i < n → get_or (view_nulls x first n nulls) i 0 ≡ null_count_of (array_of own i)
        go zero p l = absurd (omega arith)
        go (suc i) p l = null_at (suc i) l nulls ∙ ap null_count_of (sym (array_from x first (suc i)))

    pub place_same : (j : ℕ) → 3 ≤ j → j < 9 → place Y i j ≡ place own i j
    place_same j a b = go i p l
      where
        go : (i : ℕ) → 0 < i → i < n → place Y i j ≡ place own i j
        go zero p l = absurd (omega arith)
        go (suc i) p l = place_at_lem (suc i) l j b ∙ rw (le-ltb j 3 a) (sym (place_from x first (suc i) j))

    mask_place_lem : (j : ℕ) → j < 3 → place Y i j ≡ cond none_null 0 (place own i j)
    mask_place_lem j a = go i p l
      where
        go : (i : ℕ) → 0 < i → i < n → place Y i j ≡ cond (eqb (null_count_of (array_of own i)) 0) 0 (place own i j)
        go zero p l = absurd (omega arith)
        go (suc i) p l =
            place_at_lem (suc i) l j (omega arith) ∙ rw (lt-ltb j 3 a)
            (ap₂ (λ m q. cond (eqb m 0) 0 q) (ap null_count_of (sym (array_from x first (suc i)))) (sym (place_from x first (suc i) j)))

  -- ---- in a body that has the column's in front

  module _ (longer : length x.body ≤ length root.body) (same_part : (at size : ℕ) → at + size ≤ length x.body → part root.body at size ≡ part x.body at size) where
    module _ (i : ℕ) (p : 0 < i) (l : i < n) where
      pub valid_same : valid_in own i ≡ true → valid_of Y i ≡ cond (none_null i p l) none (valid_of own i)
      valid_same v =
          rw (mask_place_lem i p l 0 (omega arith), mask_place_lem i p l 1 (omega arith), mask_place_lem i p l 2 (omega arith)) (go (none_null i p l) (eqb (place own i 0) 0) refl v)
        where
          go : (z b : Bool) → eqb (place own i 0) 0 ≡ b → cond b true (in_body own (place own i 1) (place own i 2)) ≡ true
              → cond (eqb (cond z 0 (place own i 0)) 0) none (some (part root.body (cond z 0 (place own i 1)) (cond z 0 (place own i 2))))
              ≡ cond z none (cond b none (some (part x.body (place own i 1) (place own i 2))))
          go true b e h = refl
          go false true e h = rw e
          go false false e h = rw e (ap some (same_part (place own i 1) (place own i 2) (leb-true _ _ h)))

      pub first_same : place own i 3 + place own i 4 ≤ length x.body → first_buffer Y i ≡ first_buffer own i
      first_same h = ap₂ (part root.body) (place_same i p l 3 (omega arith) (omega arith)) (place_same i p l 4 (omega arith) (omega arith)) ∙ same_part _ _ h

      pub second_same : place own i 5 + place own i 6 ≤ length x.body → second_buffer Y i ≡ second_buffer own i
      second_same h = ap₂ (part root.body) (place_same i p l 5 (omega arith) (omega arith)) (place_same i p l 6 (omega arith) (omega arith)) ∙ same_part _ _ h

      pub data_same : buffers_in own i ≡ true → data_buffers Y i ≡ data_buffers own i
      data_same h =
          let e = and_right (leb (2 * (place own i 7 + place own i 8)) (length x.buffers)) _ h in
          ap₂ (seg (data_buffer Y)) (place_same i p l 7 (omega arith) (omega arith)) (place_same i p l 8 (omega arith) (omega arith))
          ∙ seg_same (data_buffer Y) (data_buffer own) (place own i 7) (place own i 8)
          (λ k q. same_part _ _ (leb-true _ _ (every_at (λ k. in_body own (get_or x.buffers (2 * (place own i 7 + k)) 0) (get_or x.buffers (2 * (place own i 7 + k) + 1) 0)) (place own i 8) e k q)))

      -- ---- where they lie

      in_longer : (a b : ℕ) → in_body own a b ≡ true → in_body Y a b ≡ true
      in_longer a b h = let e = leb-true (a + b) (length x.body) h in le-leb (a + b) (length root.body) (omega (arith, e, longer))

      pub valid_in_lem : valid_in own i ≡ true → valid_in Y i ≡ true
      valid_in_lem v =
          rw (mask_place_lem i p l 0 (omega arith), mask_place_lem i p l 1 (omega arith), mask_place_lem i p l 2 (omega arith)) (go (none_null i p l) (eqb (place own i 0) 0) refl v)
        where
          go : (z b : Bool) → eqb (place own i 0) 0 ≡ b → cond b true (in_body own (place own i 1) (place own i 2)) ≡ true
              → cond (eqb (cond z 0 (place own i 0)) 0) true (in_body Y (cond z 0 (place own i 1)) (cond z 0 (place own i 2))) ≡ true
          go true b e h = refl
          go false true e h = rw e
          go false false e h = rw e (in_longer _ _ h)

      pub one_in_lem : one_in own i ≡ true → one_in Y i ≡ true
      one_in_lem h =
          let a = and_left (held own i && valid_in own i) _ h in
          rw (held_at i l, valid_in_lem (and_right (held own i) _ a), place_same i p l 3 (omega arith) (omega arith), place_same i p l 4 (omega arith) (omega arith))
          (in_longer _ _ (and_right (held own i && valid_in own i) _ h))

      pub two_in_lem : two_in own i ≡ true → two_in Y i ≡ true
      two_in_lem h =
          rw (one_in_lem (two_one own i h), place_same i p l 5 (omega arith) (omega arith), place_same i p l 6 (omega arith) (omega arith)) (in_longer _ _ (and_right (one_in own i) _ h))

      pub buffers_in_lem : buffers_in own i ≡ true → buffers_in Y i ≡ true
      buffers_in_lem h =
          let a = and_left (leb (2 * (place own i 7 + place own i 8)) (length x.buffers)) _ h in
          let e = and_right (leb (2 * (place own i 7 + place own i 8)) (length x.buffers)) _ h in
          rw (place_same i p l 7 (omega arith) (omega arith), place_same i p l 8 (omega arith) (omega arith), a)
          (every_all _ _
          (λ k q. in_longer _ _ (every_at (λ k. in_body own (get_or x.buffers (2 * (place own i 7 + k)) 0) (get_or x.buffers (2 * (place own i 7 + k) + 1) 0)) (place own i 8) e k q)))
