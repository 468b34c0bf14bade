-- The converter's functions by the ways that the code goes. Assumes nothing.
use mathlib.Core.Path.{◌≡◌, refl, sym, ◌∙◌}
use mathlib.Core.Bool.{Bool, true, false, not, cond, ◌&&◌}
use mathlib.Core.Option.{Option, none, some}
use mathlib.Core.List.{List, [], ◌∷◌}
use Prim.Native.Nat.{ℕ, zero, suc, ◌+◌, ◌-◌, ◌/◌, ◌%◌, ◌≤◌, ◌<◌, ◌^◌}
use native.Mathlib.Nat.{zero-div}
use native.Mathlib.Decide.{dec_lt}
use native.Mathlib.Omega.{arith}
use lib.ListN.{length, get_or}
use lib.Dec.{ltb}
use borrow.Author.Tests.{lt-ltb, le-ltb, eq-eqb, ne_eqb, ltb-false}
use Rattle.columnar.specs.Array.{bit, ok}
use Rattle.schema.specs.formats.Code.{is_list_view, is_list}
use Rattle.schema.specs.Tree.{end_from, whole, code_of, ceilings, typed, same_type}
use Rattle.array_data.specs.Tables.{Tables, valid_of}
use Rattle.array_data.specs.entries.Entries.{column, valid_in}
use Rattle.array_data.specs.declared.entries.Validity.TheVariants as validity
use Rattle.array_data.proofs.lent_tables.Laws.{no, yes}
use Rattle.plan.proofs.dictionaries.Laws.{place_from}
use Rattle.leaf_walk.specs.Join.{join}
use Rattle.convert.specs.convert_lists.Turned.{list_of, view_of, same_child, child_named, same_below, to_list, to_view}
use Rattle.convert.specs.convert_lists.Listing as walks

get_d_past : (m : List ℕ) (k d : ℕ) → length m ≤ k → get_or m k d ≡ d
get_d_past [] k d h = refl
get_d_past (x ∷ m) zero d h = absurd (omega arith)
get_d_past (x ∷ m) (suc k) d h = get_d_past m k d (omega arith)

no_right : (a : Bool) → a && false ≡ false
no_right true = refl
no_right false = refl

-- ---- the target

module _ (formats schema : List ℕ) (first target : ℕ) (c : ℕ) (e : c ≡ code_of formats schema first 0) where
  pub roots_other : {t : Bool} → t ≡ is_list_view c → not t ≡ true → false ≡ list_of formats schema first target
  unfolding list_of
  roots_other f h = sym (rw (← e, no f h))

  module _ (d : ℕ) (f : d ≡ code_of formats schema target 0) where
    pub roots_wide : (d ≡ c + 2 → ⊥) → false ≡ list_of formats schema first target
    unfolding list_of
    roots_wide h = sym (rw (← e, ← f, ne_eqb d (c + 2) h) (no_right (is_list_view c)))

    pub roots_turned : {t : Bool} → t ≡ is_list_view c → not t ≡ false → d ≡ c + 2 → true ≡ list_of formats schema first target
    unfolding list_of
    roots_turned g k h = sym (rw (← e, ← f, yes g k, eq-eqb d (c + 2) h))

module _ (formats schema : List ℕ) (first target : ℕ) (c : ℕ) (e : c ≡ code_of formats schema first 0) where
  pub views_other : {t : Bool} → t ≡ is_list c → not t ≡ true → false ≡ view_of formats schema first target
  unfolding view_of
  views_other f h = sym (rw (← e, no f h))

  module _ (d : ℕ) (f : d ≡ code_of formats schema target 0) where
    pub views_wide : (d + 2 ≡ c → ⊥) → false ≡ view_of formats schema first target
    unfolding view_of
    views_wide h = sym (rw (← e, ← f, ne_eqb (d + 2) c h) (no_right (is_list c)))

    pub views_turned : {t : Bool} → t ≡ is_list c → not t ≡ false → d + 2 ≡ c → true ≡ view_of formats schema first target
    unfolding view_of
    views_turned g k h = sym (rw (← e, ← f, yes g k, eq-eqb (d + 2) c h))

module _ (formats schema : List ℕ) (first n target tn : ℕ) where
  abbrev Below : Bool
  Below = same_below formats schema first n target tn

  pub due_first : first ≡ 4294967295 → false ≡ Below
  unfolding same_below child_named
  due_first h = sym (rw (le-ltb (suc first) 4294967296 (omega (arith, h))))

  pub due_target : target ≡ 4294967295 → false ≡ Below
  unfolding same_below child_named
  due_target h = sym (rw (le-ltb (suc target) 4294967296 (omega (arith, h)), no_right))

  child_no : same_child formats schema first n target tn ≡ false → false ≡ Below
  unfolding same_below
  child_no h = sym (rw (h, no_right))

  pub due_low : {t : Bool} → t ≡ ceilings formats schema target tn → not t ≡ true → false ≡ Below
  unfolding same_child
  due_low e h = child_no (rw (no e h))

  pub due_typed : {t : Bool} → t ≡ typed formats schema target tn → not t ≡ true → false ≡ Below
  unfolding same_child
  due_typed e h = child_no (rw (no e h, no_right))

  pub due_sizes : (n ≡ tn → ⊥) → false ≡ Below
  unfolding same_child
  due_sizes h = child_no (rw (ne_eqb n tn h, no_right))

  typed_none : typed formats schema target 0 ≡ false
  unfolding typed whole end_from
  typed_none = refl

  pub due_none : n ≡ tn → n ≡ 0 → false ≡ Below
  unfolding same_child
  due_none e h = let z : tn ≡ 0 = sym e ∙ h in child_no (rw (z, typed_none, no_right))

  below : (k : ℕ) → (k ≡ 4294967295 → ⊥) → k < 4294967296 → suc k < 4294967296
  below k h l = go (dec_lt (suc k) 4294967296)
    where
      go : Dec (suc k < 4294967296) → suc k < 4294967296
      go (Dec.yes y) = y
      go (Dec.no y) = absurd (h (omega arith))

  pub due_same : {b c : Bool} (r : Bool) (f t m : ℕ) → (first ≡ 4294967295 → ⊥) → first < 4294967296 → (target ≡ 4294967295 → ⊥) → target < 4294967296
      → b ≡ ceilings formats schema target tn → not b ≡ false → c ≡ typed formats schema target tn → not c ≡ false → n ≡ tn → t ≡ target + 1 → f ≡ first + 1 → m ≡ n - 1 → r ≡ same_type formats schema t m f m → r ≡ Below
  unfolding same_below same_child child_named
  due_same r f t m n1 l1 n2 l2 eb hb ec hc sizes et ef em er =
      let k : tn - 1 ≡ m = omega (arith, sizes, em) in
      let k2 : n - 1 ≡ m = omega (arith, em) in
      let st : suc target ≡ t = omega (arith, et) in
      let sf : suc first ≡ f = omega (arith, ef) in
      sym (rw (lt-ltb _ _ (below first n1 l1), lt-ltb _ _ (below target n2 l2), yes eb hb, yes ec hc, eq-eqb n tn sizes, k, k2, st, sf, ← er) (and_true r))
    where
      and_true : (a : Bool) → a && true ≡ a
      and_true true = refl
      and_true false = refl

  -- ---- with the roots

  pub list_roots : {t : Bool} → t ≡ list_of formats schema first target → not t ≡ true → false ≡ to_list formats schema first n target tn
  unfolding to_list
  list_roots e h = sym (rw (no e h))

  pub list_below : {t r : Bool} → t ≡ list_of formats schema first target → not t ≡ false → r ≡ Below → r ≡ to_list formats schema first n target tn
  unfolding to_list
  list_below e h f = f ∙ sym (rw (yes e h))

  pub view_roots : {t : Bool} → t ≡ view_of formats schema first target → not t ≡ true → false ≡ to_view formats schema first n target tn
  unfolding to_view
  view_roots e h = sym (rw (no e h))

  pub view_below : {t r : Bool} → t ≡ view_of formats schema first target → not t ≡ false → r ≡ Below → r ≡ to_view formats schema first n target tn
  unfolding to_view
  view_below e h f = f ∙ sym (rw (yes e h))

-- ---- a slot of the root

module _ (places body : List ℕ) (first slot : ℕ) (plan parts lengths : List ℕ) (w : ℕ) where
  abbrev own : Option (List ℕ)
  own = valid_of (column [] places [] body first) 0

  own_is : walks.validity (join plan parts lengths places body first 0) w ≡ own
  own_is =
      let z : Tables = record { lengths = []; places = places; buffers = []; body = body } in
      sym (rw (place_from z first 0 0, place_from z first 0 1, place_from z first 0 2))

  pub slot_valid_lem : validity.Valid ≡ valid_in own slot → true ≡ ok (walks.validity (join plan parts lengths places body first 0) w) slot
  slot_valid_lem e = rw own_is (go own e)
    where
      at : (b c : Bool) → validity.Valid ≡ cond b (cond c validity.Valid validity.Null) validity.Outside → true ≡ c
      at true true e = refl
      at true false e = absurd (let q : ◌≡◌ {A = ℕ} 0 1 = cc in omega arith)
      at false c e = absurd (let q : ◌≡◌ {A = ℕ} 0 1 = cc in omega arith)

      go : (o : Option (List ℕ)) → validity.Valid ≡ valid_in o slot → true ≡ ok o slot
      go none e = refl
      go (some m) e = at (ltb (slot / 8) (length m)) (bit m slot) e

  pub slot_null : validity.Null ≡ valid_in own slot → false ≡ ok (walks.validity (join plan parts lengths places body first 0) w) slot
  slot_null e = rw own_is (go own e)
    where
      at : (b c : Bool) → validity.Null ≡ cond b (cond c validity.Valid validity.Null) validity.Outside → false ≡ c
      at true true e = absurd (let q : ◌≡◌ {A = ℕ} 0 1 = cc in omega arith)
      at true false e = refl
      at false c e = absurd (let q : ◌≡◌ {A = ℕ} 0 1 = cc in omega arith)

      go : (o : Option (List ℕ)) → validity.Null ≡ valid_in o slot → false ≡ ok o slot
      go none e = absurd (let q : ◌≡◌ {A = ℕ} 0 1 = cc in omega arith)
      go (some m) e = at (ltb (slot / 8) (length m)) (bit m slot) e

  pub slot_outside : validity.Outside ≡ valid_in own slot → false ≡ ok (walks.validity (join plan parts lengths places body first 0) w) slot
  unfolding bit
  slot_outside e = rw own_is (go own e)
    where
      at : (m : List ℕ) (b c : Bool) → ltb (slot / 8) (length m) ≡ b → validity.Outside ≡ cond b (cond c validity.Valid validity.Null) validity.Outside → false ≡ bit m slot
      at m true true q e = absurd (let q : ◌≡◌ {A = ℕ} 0 1 = cc in omega arith)
      at m true false q e = absurd (let q : ◌≡◌ {A = ℕ} 0 1 = cc in omega arith)
      at m false c q e = rw (get_d_past m (slot / 8) 0 (ltb-false _ _ q), zero-div (2 ^ (slot % 8)))

      go : (o : Option (List ℕ)) → validity.Outside ≡ valid_in o slot → false ≡ ok o slot
      go none e = absurd (let q : ◌≡◌ {A = ℕ} 0 1 = cc in omega arith)
      go (some m) e = at m (ltb (slot / 8) (length m)) (bit m slot) refl e
