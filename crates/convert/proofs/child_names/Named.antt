-- THE TABLES AFTER NAMING, where the first node's numbers are a finished root's, are those of the list-view (convert_lists/specs/ViewTables). Assumes nothing.
use mathlib.Core.Path.{◌≡◌, refl, sym, ap, ap₂, ◌∙◌}
use mathlib.Core.Bool.{Bool, true, false, cond}
use mathlib.Core.List.{List}
use Prim.Native.Nat.{ℕ, zero, suc, ◌+◌, ◌*◌, ◌/◌, ◌%◌, ◌<◌}
use native.Mathlib.Omega.{arith}
use lib.ListN.{length, take, get_or}
use lib.Seq.{get_or-take}
use lib.Dec.{eqb}
use borrow.Author.Tests.{eqb-false}
use Rattle.columnar.proofs.Kept.{seg_same}
use Rattle.array_data.specs.Tables.{Tables}
use Rattle.columns.specs.Grounds.{column_ground}
use Rattle.convert.specs.convert_lists.ViewTables.{length_at, offset_at, nulls_at, place_at, view_lengths, view_nulls, view_places, view_tables}
use Rattle.convert.specs.child_names.Names.{Naming, tables_fit, refused, naming}

-- the first numbers of a table
front : (a : ℕ) (l r : List ℕ) → take a l ≡ r → (j : ℕ) → j < a → get_or l j 0 ≡ get_or r j 0
front a l r e j h = sym (get_or-take a l j 0 h) ∙ ap (λ s. get_or s j 0) e

module _ (x : Tables) (first n : ℕ) where
  lengths_root : (l r : List ℕ) → take 2 l ≡ r → view_lengths x first n l ≡ view_lengths x first n r
  unfolding view_lengths
  lengths_root l r e =
      seg_same (λ q. cond (eqb (q % 2) 0) (length_at x first n l (q / 2)) (offset_at x first n l (q / 2))) (λ q. cond (eqb (q % 2) 0) (length_at x first n r (q / 2)) (offset_at x first n r (q / 2))) 0 (2 * n)
      (λ q h. ap₂ (cond (eqb ((0 + q) % 2) 0)) (at ((0 + q) / 2)) (off ((0 + q) / 2)))
    where
      at : (i : ℕ) → length_at x first n l i ≡ length_at x first n r i
      at zero = front 2 l r e 0 (omega arith)
      at (suc i) = refl

      off : (i : ℕ) → offset_at x first n l i ≡ offset_at x first n r i
      off zero = front 2 l r e 1 (omega arith)
      off (suc i) = refl

  nulls_root : (l r : List ℕ) → take 1 l ≡ r → view_nulls x first n l ≡ view_nulls x first n r
  unfolding view_nulls
  nulls_root l r e = seg_same (nulls_at x first n l) (nulls_at x first n r) 0 n (λ q h. at (0 + q))
    where
      at : (i : ℕ) → nulls_at x first n l i ≡ nulls_at x first n r i
      at zero = front 1 l r e 0 (omega arith)
      at (suc i) = refl

  places_root : (l r : List ℕ) → take 9 l ≡ r → view_places x first n l ≡ view_places x first n r
  unfolding view_places
  places_root l r e =
      seg_same (λ q. place_at x first n l (q / 9) (q % 9)) (λ q. place_at x first n r (q / 9) (q % 9)) 0 (9 * n) (λ q h. at ((0 + q) / 9) ((0 + q) % 9) (omega arith))
    where
      at : (i j : ℕ) → j < 9 → place_at x first n l i j ≡ place_at x first n r i j
      at zero j h = front 9 l r e j h
      at (suc i) j h = refl

module _ (formats schema : List ℕ) (x : Tables) (first n : ℕ) (lengths nulls places : List ℕ) where
  abbrev answer : Naming
  answer = naming formats schema x first n lengths nulls places

  abbrev made : Naming
  made = record { refusal = 0; lengths = view_lengths x first n lengths; nulls = view_nulls x first n nulls; places = view_places x first n places }

  accepted : answer.refusal ≡ 0 → answer ≡ made
  unfolding naming
  accepted = go (eqb (column_ground formats schema x first n) 0) refl (tables_fit n (length lengths) (length nulls) (length places))
    where
      by : Bool → Bool → Naming
      by a b = cond a (cond b made (refused formats schema x first n lengths nulls places 14)) (refused formats schema x first n lengths nulls places (column_ground formats schema x first n))

      go : (a : Bool) → eqb (column_ground formats schema x first n) 0 ≡ a → (b : Bool) → (by a b).refusal ≡ 0 → by a b ≡ made
      go true p true h = refl
      go true p false h = absurd (omega (arith, h))
      go false p b h = absurd (eqb-false _ _ p h)

  -- ACCEPTED, where the column is and the tables are those of n nodes
  pub naming_accepts : column_ground formats schema x first n ≡ 0 → tables_fit n (length lengths) (length nulls) (length places) ≡ true → answer.refusal ≡ 0
  unfolding naming
  naming_accepts g t = rw (g, t)

  -- A REFUSED CALL leaves the tables
  pub naming_keeps : (answer.refusal ≡ 0 → ⊥) → (answer.lengths ≡ lengths) × (answer.nulls ≡ nulls) × (answer.places ≡ places)
  unfolding naming
  naming_keeps = go (eqb (column_ground formats schema x first n) 0) (tables_fit n (length lengths) (length nulls) (length places))
    where
      by : Bool → Bool → Naming
      by a b = cond a (cond b made (refused formats schema x first n lengths nulls places 14)) (refused formats schema x first n lengths nulls places (column_ground formats schema x first n))

      go : (a b : Bool) → ((by a b).refusal ≡ 0 → ⊥) → ((by a b).lengths ≡ lengths) × ((by a b).nulls ≡ nulls) × ((by a b).places ≡ places)
      go true true h = absurd (h refl)
      go true false h = (refl, refl, refl)
      go false b h = (refl, refl, refl)

  -- AN ACCEPTED CALL behind a finished root leaves the tables and null counts of the list-view
  pub named_tables : (root : Tables) (root_nulls : List ℕ) → answer.refusal ≡ 0 → take 2 lengths ≡ root.lengths → take 1 nulls ≡ root_nulls → take 9 places ≡ root.places
      → (answer.lengths ≡ (view_tables x first n root).lengths) × (answer.nulls ≡ view_nulls x first n root_nulls) × (answer.places ≡ (view_tables x first n root).places)
  named_tables root root_nulls g a b c =
      let e = accepted g in
      (ap (λ o. o.lengths) e ∙ lengths_root x first n lengths root.lengths a, ap (λ o. o.nulls) e ∙ nulls_root x first n nulls root_nulls b, ap (λ o. o.places) e ∙ places_root x first n places root.places c)
