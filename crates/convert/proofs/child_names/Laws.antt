-- Tables of n nodes, written behind their first node, are those of the list-view (convert_lists/specs/ViewTables). Assumes nothing.
use mathlib.Core.Path.{◌≡◌, refl, sym, ap, ap₂, ◌∙◌}
use mathlib.Core.Bool.{Bool, true, false, cond, ◌&&◌}
use mathlib.Core.List.{List, [], ◌∷◌, ◌++◌}
use Prim.Native.Nat.{ℕ, zero, suc, ◌+◌, ◌*◌, ◌-◌, ◌/◌, ◌%◌, ◌≤◌, ◌<◌, ◌^◌}
use native.Mathlib.Nat.{zero-add}
use native.Mathlib.Omega.{arith}
use lib.ListN.{length, take, get_or, set, length-take}
use lib.Seq.{get_or-take, take_all, ext_get_or}
use lib.Dec.{ltb, eqb}
use borrow.Author.Tests.{lt-ltb, le-ltb, eq-eqb, ne_eqb, eqb-true, eqb-false}
use Rattle.columnar.specs.Row.{seg}
use Rattle.columnar.specs.Array.{null_count_of}
use Rattle.model.proofs.Bits.{length_seg, get_d_seg}
use Rattle.model.proofs.Rows.{seg_append}
use Rattle.schema.specs.Tree.{typed, end_from, whole}
use Rattle.array_data.specs.Tables.{Tables, length_of, offset_of, place}
use Rattle.array_data.specs.lent_tables.Lent.{tables}
use Rattle.array_data.proofs.lent_tables.Laws.{and_left, and_right}
use Rattle.plan.specs.dictionaries.Sources.{array_of, Countable}
use Rattle.columns.specs.Grounds.{column_ground}
use Rattle.refinement.proofs.opening.Taken.{taken}
use Rattle.anew.proofs.Comes.{source_good, column_countable}
use Rattle.into_builder.specs.buffers.Names.{Behind}
use Rattle.into_builder.proofs.buffers.Written.{seg_more}
use Rattle.convert.specs.convert_lists.ViewTables.{length_at, offset_at, nulls_at, place_at, view_lengths, view_nulls, view_places}
use Rattle.convert.specs.child_names.Names.{tables_fit, below_place, naming, Names}

-- ---- a table that is written behind its first a numbers

pub one_more : (g : ℕ → ℕ) (l m : List ℕ) (a k v : ℕ) → a + k < length l → Behind l m a k (seg g 0 k) → v ≡ g k → Behind l (set m (a + k) v) a (k + 1) (seg g 0 (k + 1))
one_more g l m a k v h b e = seg_more g l m 0 a k v h b (e ∙ ap g (sym (zero-add k)))

pub all_of : (g : ℕ → ℕ) (l m : List ℕ) (a k r : ℕ) → k ≡ r → length l ≡ a + r → Behind l m a k (seg g 0 k) → m ≡ take a l ++ seg g 0 r
all_of g l m a k r e h b = sym (take_all (a + k) m (omega (arith, b.same, h, e))) ∙ b.first ∙ ap (λ z. take a l ++ seg g 0 z) e

-- .. is one written from its beginning
from_start : (f g : ℕ → ℕ) (l : List ℕ) (a k n : ℕ) → a + k ≡ n → length l ≡ n → ((q : ℕ) → q < a → f q ≡ get_or l q 0) → ((q : ℕ) → q < k → f (a + q) ≡ g q) → take a l ++ seg g 0 k ≡ seg f 0 n
from_start f g l a k n e h u v = ap₂ ◌++◌ front back ∙ sym (seg_append f 0 a k) ∙ ap (seg f 0) e
  where
    front : take a l ≡ seg f 0 a
    front =
        let z : length (take a l) ≡ a = let y = length-take a l in omega (arith, y, h, e) in
        ext_get_or 0 (take a l) (seg f 0 a) (z ∙ sym (length_seg f 0 a))
        (λ i q. let j : i < a = omega (arith, z, q) in
        get_or-take a l i 0 j ∙ sym (u i j) ∙ ap f (sym (zero-add i)) ∙ sym (get_d_seg f 0 a i 0 j))

    back : seg g 0 k ≡ seg f (0 + a) k
    back =
        ext_get_or 0 (seg g 0 k) (seg f (0 + a) k) (length_seg g 0 k ∙ sym (length_seg f (0 + a) k))
        (λ i q. let j : i < k = omega (arith, length_seg g 0 k, q) in
        get_d_seg g 0 k i 0 j ∙ ap g (zero-add i) ∙ sym (v i j) ∙ ap (λ z. f (z + i)) (sym (zero-add a)) ∙ sym (get_d_seg f (0 + a) k i 0 j))

entry : (f : ℕ → ℕ) (n q : ℕ) → q < n → get_or (seg f 0 n) q 0 ≡ f q
entry f n q l = get_d_seg f 0 n q 0 l ∙ ap f (zero-add q)

-- ---- the three tables

module _ (x : Tables) (first n : ℕ) (some_node : 1 ≤ n) where
  pub lengths_below : (l : List ℕ) → length l ≡ 2 * n → {m : List ℕ} → m ≡ take 2 l ++ seg (λ k. get_or x.lengths (2 * (first + 1) + k) 0) 0 (2 * (n - 1)) → m ≡ view_lengths x first n l
  unfolding view_lengths
  lengths_below l h e =
      e
      ∙ from_start (λ q. cond (eqb (q % 2) 0) (length_at x first n l (q / 2)) (offset_at x first n l (q / 2))) (λ k. get_or x.lengths (2 * (first + 1) + k) 0) l 2 (2 * (n - 1)) (2 * n) (omega (arith, some_node)) h root (λ q k. below q)
    where
      root : (q : ℕ) → q < 2 → cond (eqb (q % 2) 0) (length_at x first n l (q / 2)) (offset_at x first n l (q / 2)) ≡ get_or l q 0
      root zero k = refl
      root (suc zero) k = refl
      root (suc (suc q)) k = absurd (omega arith)

      below : (q : ℕ) → cond (eqb ((2 + q) % 2) 0) (length_at x first n l ((2 + q) / 2)) (offset_at x first n l ((2 + q) / 2)) ≡ get_or x.lengths (2 * (first + 1) + q) 0
      below q =
          let e : (2 + q) / 2 ≡ suc (q / 2) = omega arith in
          let r : (2 + q) % 2 ≡ q % 2 = omega arith in
          rw (e, r) (go (eqb (q % 2) 0) refl)
        where
          go : (b : Bool) → eqb (q % 2) 0 ≡ b → cond b (length_of x (first + suc (q / 2))) (offset_of x (first + suc (q / 2))) ≡ get_or x.lengths (2 * (first + 1) + q) 0
          go true p = let z = eqb-true (q % 2) 0 p in ap (λ k. get_or x.lengths k 0) (omega (arith, z))
          go false p = let z = eqb-false (q % 2) 0 p in ap (λ k. get_or x.lengths k 0) (omega (arith, z))

  pub nulls_below : (l : List ℕ) → length l ≡ n → {m : List ℕ} → m ≡ take 1 l ++ seg (λ k. null_count_of (array_of x (first + 1 + k))) 0 (n - 1) → m ≡ view_nulls x first n l
  unfolding view_nulls
  nulls_below l h p =
      p
      ∙ from_start (nulls_at x first n l) (λ k. null_count_of (array_of x (first + 1 + k))) l 1 (n - 1) n (omega (arith, some_node)) h root
      (λ q k. let e : 1 + q ≡ suc q = omega arith in let z : first + suc q ≡ first + 1 + q = omega arith in rw e (ap (λ k. null_count_of (array_of x k)) z))
    where
      root : (q : ℕ) → q < 1 → nulls_at x first n l q ≡ get_or l q 0
      root zero k = refl
      root (suc q) k = absurd (omega arith)

  pub places_below : (root nulls l : List ℕ) → nulls ≡ view_nulls x first n root → length l ≡ 9 * n
      → {m : List ℕ} → m ≡ take 9 l ++ seg (below_place x.places nulls first) 0 (9 * (n - 1)) → m ≡ view_places x first n l
  unfolding view_places view_nulls
  places_below root nulls l p h e =
      e
      ∙ from_start (λ q. place_at x first n l (q / 9) (q % 9)) (below_place x.places nulls first) l 9 (9 * (n - 1)) (9 * n) (omega (arith, some_node)) h first_nine below
    where
      first_nine : (q : ℕ) → q < 9 → place_at x first n l (q / 9) (q % 9) ≡ get_or l q 0
      first_nine q k =
          let e : q / 9 ≡ 0 = omega (arith, k) in
          let r : q % 9 ≡ q = omega (arith, k) in
          rw (e, r) refl

      counted : (i : ℕ) → i < n → get_or nulls i 0 ≡ nulls_at x first n root i
      counted i j = ap (λ s. get_or s i 0) p ∙ entry (nulls_at x first n root) n i j

      below : (q : ℕ) → q < 9 * (n - 1) → place_at x first n l ((9 + q) / 9) ((9 + q) % 9) ≡ below_place x.places nulls first q
      below q k =
          let e : (9 + q) / 9 ≡ suc (q / 9) = omega arith in
          let r : (9 + q) % 9 ≡ q % 9 = omega arith in
          let f : q / 9 + 1 ≡ suc (q / 9) = omega arith in
          let j : suc (q / 9) < n = omega (arith, k) in
          rw (e, r, f, counted (suc (q / 9)) j) refl

-- ---- one number of the places

pub dropped_low : (nulls j : ℕ) {b : Bool} → b ≡ eqb nulls 0 → j < 3 → b ≡ (ltb j 3 && eqb nulls 0)
dropped_low nulls j e h = rw (lt-ltb j 3 h) e

pub dropped_high : (nulls j : ℕ) → 3 ≤ j → false ≡ (ltb j 3 && eqb nulls 0)
dropped_high nulls j h = rw (le-ltb j 3 h)

module _ (places nulls : List ℕ) (first k : ℕ) {a : ℕ} {d : Bool} (ea : a ≡ get_or nulls (k / 9 + 1) 0) (ed : d ≡ (ltb (k % 9) 3 && eqb a 0)) where
  test : d ≡ (ltb (k % 9) 3 && eqb (get_or nulls (k / 9 + 1) 0) 0)
  test = ed ∙ ap (λ z. ltb (k % 9) 3 && eqb z 0) ea

  pub word_none : d ≡ true → 0 ≡ below_place places nulls first k
  word_none h = rw (sym test ∙ h)

  pub word_some : d ≡ false → {v : ℕ} → v ≡ place (tables [] places []) (first + (k / 9 + 1)) (k % 9) → v ≡ below_place places nulls first k
  word_some h e = rw (sym test ∙ h) e

-- ---- the whole

some_nodes : (formats schema : List ℕ) (first n : ℕ) → typed formats schema first n ≡ true → 1 ≤ n
unfolding typed whole end_from
some_nodes formats schema first zero e = absurd (let k : ◌≡◌ {A = ℕ} 0 1 = ap (λ t. cond t 1 0) e in omega (arith, k))
some_nodes formats schema first (suc n) e = omega arith

module _ (formats schema : List ℕ) (x : Tables) (first n : ℕ) (low : first < 2 ^ 32) {g : ℕ} (e : g ≡ column_ground formats schema x first n) (h : g ≡ 0) where
  good : column_ground formats schema x first n ≡ 0
  good = sym e ∙ h

  -- AN ACCEPTED COLUMN has a node, and its nulls can be counted
  pub at_least_one : 1 ≤ n
  at_least_one = some_nodes formats schema first n (taken formats schema (first ∷ n ∷ []) x false false (source_good formats schema x first n low good)).is_typed

  pub countable : (j : ℕ) → j < n → Countable (tables x.lengths x.places x.body) (first + j)
  countable = column_countable formats schema x first n low good

pub record Fitting (n lengths nulls places : ℕ) : Type 0 where
  pub of_lengths : lengths ≡ 2 * n
  pub of_nulls : nulls ≡ n
  pub of_places : places ≡ 9 * n

pub fitting : (n lengths nulls places : ℕ) → tables_fit n lengths nulls places ≡ true → Fitting n lengths nulls places
unfolding tables_fit
fitting n lengths nulls places h =
    let a = and_left (eqb lengths (2 * n) && eqb nulls n) (eqb places (9 * n)) h in
    record {
      of_lengths = eqb-true _ _ (and_left (eqb lengths (2 * n)) (eqb nulls n) a);
      of_nulls = eqb-true _ _ (and_right (eqb lengths (2 * n)) (eqb nulls n) a);
      of_places = eqb-true _ _ (and_right (eqb lengths (2 * n) && eqb nulls n) (eqb places (9 * n)) h);
    }

module _ (formats schema : List ℕ) (x : Tables) (first n : ℕ) (lengths nulls places : List ℕ) where
  pub names_refused : {g : ℕ} → g ≡ column_ground formats schema x first n → (g ≡ 0 → ⊥) → Names (naming formats schema x first n lengths nulls places) g lengths nulls places
  unfolding naming
  names_refused e h = rw (ne_eqb (column_ground formats schema x first n) 0 (λ z. h (e ∙ z))) (record { refusal = e; lengths_are = refl; nulls_are = refl; places_are = refl })

  module _ {g : ℕ} (eg : g ≡ column_ground formats schema x first n) (hg : g ≡ 0) where
    pub names_short : tables_fit n (length lengths) (length nulls) (length places) ≡ false → Names (naming formats schema x first n lengths nulls places) 14 lengths nulls places
    unfolding naming
    names_short h = rw (eq-eqb (column_ground formats schema x first n) 0 (sym eg ∙ hg), h) (record { refusal = refl; lengths_are = refl; nulls_are = refl; places_are = refl })

    pub names_made : tables_fit n (length lengths) (length nulls) (length places) ≡ true → {a b c : List ℕ} → a ≡ view_lengths x first n lengths → b ≡ view_nulls x first n nulls → c ≡ view_places x first n places
        → Names (naming formats schema x first n lengths nulls places) 0 a b c
    unfolding naming
    names_made h p q r = rw (eq-eqb (column_ground formats schema x first n) 0 (sym eg ∙ hg), h) (record { refusal = refl; lengths_are = p; nulls_are = q; places_are = r })
