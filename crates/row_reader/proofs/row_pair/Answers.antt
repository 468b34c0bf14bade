-- Each answer by the test that gives it, and what an answer tells. Assumes nothing.
use mathlib.Core.Path.{◌≡◌, refl, sym, ap, ap₂, ◌∙◌}
use mathlib.Core.Bool.{Bool, true, false, cond, ◌&&◌, and-eq-true_iff}
use mathlib.Core.List.{List}
use Prim.Native.Nat.{ℕ, ◌≤◌, ◌<◌, ◌^◌}
use native.Mathlib.Omega.{arith}
use lib.ListN.{get_or}
use lib.Dec.{ltb, eqb}
use borrow.Author.Tests.{eqb-true, eqb-false, eq-eqb, ne_eqb, ltb-true, lt-ltb, le-ltb}
use Rattle.std.specs.Prelude.{Result, Ok, Err}
use Rattle.array_data.specs.Tables.{Tables, length_of}
use Rattle.array_data.specs.Typed.{tables_from}
use Rattle.array_data.specs.type_tree.Lent.{type_of}
use Rattle.array_data.specs.node_words.Words.{planted}
use Rattle.columns.proofs.column_pair.Pair.{pair_none}
use Rattle.slot_reader.specs.declared.leaf_row.Leaf.{Leaf}
use Rattle.slot_reader.specs.leaf_row.Reading.{leaf_row_of}
use Rattle.row_reader.specs.Walk.{row_at}
use Rattle.row_reader.specs.row_pair.Same.{leaf_in, same_leaf, number_type, row_of, both_ground, rows_ground, same_row}
use Rattle.row_reader.proofs.row_pair.Leaves.{same_self, same_is, same_told}
use Rattle.row_reader.proofs.row_pair.Rows.{its_leaf, leaf_found}

module _ (formats schema : List ℕ) (x : Tables) (a n b m r s : ℕ) where
  abbrev G : ℕ
  G = both_ground formats schema x a n b m r s

  abbrev A : ℕ
  A = length_of (tables_from x a) 0

  abbrev B : ℕ
  B = length_of (tables_from x b) 0

  -- ---- the ground

  pub columns_ground : (g : ℕ) → g ≡ G → (g ≡ 0 → ⊥) → g ≡ rows_ground formats schema x a n b m r s
  unfolding rows_ground
  columns_ground g e h = rw (ne_eqb G 0 (λ z. h (e ∙ z))) e

  pub no_row_a : G ≡ 0 → A ≤ r → 2 ≡ rows_ground formats schema x a n b m r s
  unfolding rows_ground
  no_row_a z h = rw (eq-eqb G 0 z, le-ltb r A h)

  pub no_row_b : G ≡ 0 → r < A → B ≤ s → 2 ≡ rows_ground formats schema x a n b m r s
  unfolding rows_ground
  no_row_b z p h = rw (eq-eqb G 0 z, lt-ltb r A p, le-ltb s B h)

  pub no_numbers_a : G ≡ 0 → r < A → s < B → number_type (type_of formats schema a n) ≡ false → 10 ≡ rows_ground formats schema x a n b m r s
  unfolding rows_ground
  no_numbers_a z p q h = rw (eq-eqb G 0 z, lt-ltb r A p, lt-ltb s B q, h)

  pub no_numbers_b : G ≡ 0 → r < A → s < B → number_type (type_of formats schema a n) ≡ true → number_type (type_of formats schema b m) ≡ false → 10 ≡ rows_ground formats schema x a n b m r s
  unfolding rows_ground
  no_numbers_b z p q o h = rw (eq-eqb G 0 z, lt-ltb r A p, lt-ltb s B q, o, h)

  pub no_ground : G ≡ 0 → r < A → s < B → number_type (type_of formats schema a n) ≡ true → number_type (type_of formats schema b m) ≡ true → 0 ≡ rows_ground formats schema x a n b m r s
  unfolding rows_ground
  no_ground z p q o h = rw (eq-eqb G 0 z, lt-ltb r A p, lt-ltb s B q, o, h)

  -- WHAT STANDS WHERE NO GROUND DOES
  pub record Fine : Type 0 where
    pub accepted : G ≡ 0
    pub row_a : r < A
    pub row_b : s < B
    pub numbers_a : number_type (type_of formats schema a n) ≡ true
    pub numbers_b : number_type (type_of formats schema b m) ≡ true

  pub fine : rows_ground formats schema x a n b m r s ≡ 0 → Fine
  unfolding rows_ground
  fine h = go (eqb G 0) refl (ltb r A && ltb s B) refl (number_type (type_of formats schema a n) && number_type (type_of formats schema b m)) refl h
    where
      go : (c : Bool) → eqb G 0 ≡ c → (d : Bool) → ltb r A && ltb s B ≡ d → (e : Bool) → number_type (type_of formats schema a n) && number_type (type_of formats schema b m) ≡ e
          → cond c (cond d (cond e 0 10) 2) G ≡ 0 → Fine
      go false p d q e w k = absurd (eqb-false G 0 p k)
      go true p false q e w k = absurd (omega arith)
      go true p true q false w k = absurd (omega arith)
      go true p true q true w k =
          let l = (and-eq-true_iff (ltb r A) (ltb s B)).0 q in
          let o = (and-eq-true_iff (number_type (type_of formats schema a n)) (number_type (type_of formats schema b m))).0 w in
          record { accepted = eqb-true G 0 p; row_a = ltb-true r A l.0; row_b = ltb-true s B l.1; numbers_a = o.0; numbers_b = o.1 }

  -- ---- the answer

  pub same_refused : (g : ℕ) → g ≡ rows_ground formats schema x a n b m r s → (g ≡ 0 → ⊥) → Err g ≡ same_row formats schema x a n b m r s
  unfolding same_row
  same_refused g e h = rw (ne_eqb (rows_ground formats schema x a n b m r s) 0 (λ z. h (e ∙ z))) (ap Err e)

  -- IT IS ANSWERED where no ground stands
  pub answers : rows_ground formats schema x a n b m r s ≡ 0 → Ok (same_leaf (row_of formats schema x a n r) (row_of formats schema x b m s)) ≡ same_row formats schema x a n b m r s
  unfolding same_row
  answers z = rw (eq-eqb (rows_ground formats schema x a n b m r s) 0 z)

  -- the leaves that are read, and what is told of them
  pub same_answer : a < 2 ^ 32 → b < 2 ^ 32 → ((j : ℕ) → get_or x.body j 0 < 256) → rows_ground formats schema x a n b m r s ≡ 0
      → (k l : Leaf) → k ≡ leaf_in (row_at (planted formats schema a n) (tables_from x a) r).read → l ≡ leaf_in (row_at (planted formats schema b m) (tables_from x b) s).read
      → (t : Bool) → (t ≡ true → leaf_row_of k ≡ leaf_row_of l) → (leaf_row_of k ≡ leaf_row_of l → t ≡ true) → Ok t ≡ same_row formats schema x a n b m r s
  same_answer la lb bytes z k l p q t f g =
      let e = fine z in
      let o = pair_none _ _ e.accepted in
      let u = ap leaf_row_of p ∙ leaf_found formats schema x a n la bytes o.0 e.numbers_a r e.row_a in
      let v = ap leaf_row_of q ∙ leaf_found formats schema x b m lb bytes o.1 e.numbers_b s e.row_b in
      ap Ok (same_told k l t f g ∙ ap₂ same_leaf u v) ∙ answers z

  -- WHAT IS TOLD: both rows read the same where it is true, and only there
  pub record Tells (t : Bool) : Type 0 where
    pub unrefused : Fine
    pub yes : t ≡ true → row_of formats schema x a n r ≡ row_of formats schema x b m s
    pub only : row_of formats schema x a n r ≡ row_of formats schema x b m s → t ≡ true

  pub tells : (t : Bool) → same_row formats schema x a n b m r s ≡ Ok t → Tells t
  unfolding same_row
  tells t e = go (eqb (rows_ground formats schema x a n b m r s) 0) refl e
    where
      told_by : {u v : Bool} → ◌≡◌ {A = Result Bool ℕ} (Ok u) (Ok v) → u ≡ v
      told_by q = cc

      go : (c : Bool) → eqb (rows_ground formats schema x a n b m r s) 0 ≡ c
          → cond {A = Result Bool ℕ} c (Ok (same_leaf (row_of formats schema x a n r) (row_of formats schema x b m s))) (Err (rows_ground formats schema x a n b m r s)) ≡ Ok t → Tells t
      go false p q = let y : ◌≡◌ {A = ℕ} 0 1 = cc in absurd (omega arith)
      go true p q =
          let f = fine (eqb-true _ 0 p) in
          let w = told_by q in
          record {
            unrefused = f;
            yes = λ h. same_is _ _ (its_leaf formats schema x a n f.numbers_a r) (its_leaf formats schema x b m f.numbers_b s) (w ∙ h);
            only = λ h. sym w ∙ same_self _ _ h;
          }
