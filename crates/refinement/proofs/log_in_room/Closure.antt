-- Nodes that a walk does not leave: those of a type, and those that are not a dictionary's values. Assumes nothing.
use mathlib.Core.Path.{◌≡◌, refl}
use mathlib.Core.Bool.{Bool, true, false}
use mathlib.Core.List.{List, [], ◌∷◌}
use Prim.Native.Nat.{ℕ, zero, suc, ◌≤◌, ◌<◌}
use native.Mathlib.Omega.{arith}
use lib.Dec.{ltb, eqb}
use borrow.Author.Tests.{ltb-true, ltb-false, eqb-true, eqb-false}
use Rattle.columnar.specs.Types.{fixed, string, Ty, t_plain, t_view, t_list_view, t_list, t_sparse, t_dense, t_run_end, t_dictionary}
use Rattle.schema.specs.formats.Code.{is_union}
use Rattle.walk.specs.State.{code_of, dictionary_of, end_of}
use Rattle.refinement.specs.walk_is_model.Holds.{Fields, Worded}
use Rattle.refinement.proofs.walk_is_model.Frame.{worded_span}
use Rattle.refinement.specs.log_in_room.Reach.{has_item, Child, first, later, Closed, Typed, typed, Among, Free, Tabled}
use Rattle.refinement.proofs.log_in_room.Found.{between_both}

module _ (plan : List ℕ) where
  -- ---- the nodes of a type

  -- the codes of a type's formats, from .. to
  abbrev codes_from : Ty → ℕ
  codes_from (t_plain (fixed n)) = 1
  codes_from (t_plain (string w)) = 11
  codes_from t_view = 15
  codes_from (t_list_view w t) = 17
  codes_from (t_list w t) = 19
  codes_from (t_sparse ids nullable f) = 21
  codes_from (t_dense ids nullable f) = 22
  codes_from (t_run_end w t) = 23
  codes_from (t_dictionary n p) = 1

  abbrev codes_to : Ty → ℕ
  codes_to (t_plain (fixed n)) = 10
  codes_to (t_plain (string w)) = 14
  codes_to t_view = 16
  codes_to (t_list_view w t) = 18
  codes_to (t_list w t) = 20
  codes_to (t_sparse ids nullable f) = 21
  codes_to (t_dense ids nullable f) = 22
  codes_to (t_run_end w t) = 23
  codes_to (t_dictionary n p) = 10

  worded_code : (k : ℕ) (t : Ty) (i : ℕ) → Worded plan k t i → (codes_from t ≤ code_of plan i) × (code_of plan i ≤ codes_to t)
  worded_code (suc k) (t_plain (fixed n)) i w = between_both 1 10 (code_of plan i) w.3.0
  worded_code (suc k) (t_plain (string v)) i w = between_both 11 14 (code_of plan i) w.3.0
  worded_code (suc k) t_view i w = between_both 15 16 (code_of plan i) w.2
  worded_code (suc k) (t_list_view v t) i w = between_both 17 18 (code_of plan i) w.2
  worded_code (suc k) (t_list v t) i w = between_both 19 20 (code_of plan i) w.2
  worded_code (suc k) (t_sparse ids nullable f) i w = let e : code_of plan i ≡ 21 = w.1 in (omega arith, omega arith)
  worded_code (suc k) (t_dense ids nullable f) i w = let e : code_of plan i ≡ 22 = w.1 in (omega arith, omega arith)
  worded_code (suc k) (t_run_end v t) i w = let e : code_of plan i ≡ 23 = w.2 in (omega arith, omega arith)
  worded_code (suc k) (t_dictionary n p) i w = between_both 1 10 (code_of plan i) w.3
  worded_code zero t i w = elim w [ ]

  -- a type whose codes are all below or all above one of its node's
  code_never : (k : ℕ) (t : Ty) (i low high : ℕ) → Worded plan k t i → low ≤ code_of plan i → code_of plan i ≤ high → (codes_to t < low → ⊥) × (high < codes_from t → ⊥)
  code_never k t i low high w p q = let z = worded_code k t i w in (λ l. omega (arith, z.1), λ l. omega (arith, z.0))

  -- the children of node i from child k on
  record Behind (kid : ℕ → ℕ → Type 0) (nullable : ℕ → Bool) (i k : ℕ) : Type 0 where
    ids : List ℕ
    fields : Fields plan kid nullable (end_of plan i) ids k
    above : i < k
    before_end : k < end_of plan i

  behind_next : (kid : ℕ → ℕ → Type 0) (nullable : ℕ → Bool) (i k : ℕ) → end_of plan k < end_of plan i → Behind kid nullable i k → Behind kid nullable i (end_of plan k)
  behind_next kid nullable i k h b = go b.ids b.fields
    where
      go : (es : List ℕ) → Fields plan kid nullable (end_of plan i) es k → Behind kid nullable i (end_of plan k)
      go [] e = absurd (omega (arith, b.before_end, e))
      go (e ∷ es) g = record { ids = es; fields = g.5; above = omega (arith, b.above, g.2); before_end = h }

  child_behind : (kid : ℕ → ℕ → Type 0) (nullable : ℕ → Bool) (ids : List ℕ) (i k : ℕ) → Fields plan kid nullable (end_of plan i) ids (suc i) → Child plan i k
      → Behind kid nullable i k
  child_behind kid nullable ids i k f (first h) = record { ids = ids; fields = f; above = omega arith; before_end = h }
  child_behind kid nullable ids i k f (later j c h) = behind_next kid nullable i j h (child_behind kid nullable ids i j f c)

  module _ (lo hi : ℕ) where
    child_typed : (k : ℕ) (f : ℕ → Ty) (nullable : ℕ → Bool) (i j : ℕ) → lo ≤ i → end_of plan i ≤ hi → Behind (λ c. Worded plan k (f c)) nullable i j → Typed plan lo hi j
    child_typed k f nullable i j p q b = go b.ids b.fields
      where
        go : (es : List ℕ) → Fields plan (λ c. Worded plan k (f c)) nullable (end_of plan i) es j → Typed plan lo hi j
        go [] e = absurd (omega (arith, b.before_end, e))
        go (e ∷ es) g = typed k (f e) g.4 (omega (arith, b.above)) (omega (arith, g.3))

    typed_item : (i : ℕ) → Typed plan lo hi i → has_item (code_of plan i) ≡ true → Typed plan lo hi (suc i)
    typed_item i (typed k t w p q) h = go k t w
      where
        never : (k : ℕ) (t : Ty) → Worded plan k t i → (codes_to t < 17 → ⊥) × (20 < codes_from t → ⊥)
        never k t w = let c = between_both 17 20 (code_of plan i) h in code_never k t i 17 20 w c.0 c.1

        go : (k : ℕ) (t : Ty) → Worded plan k t i → Typed plan lo hi (suc i)
        go (suc k) (t_plain (fixed n)) w = absurd ((never (suc k) (t_plain (fixed n)) w).0 (omega arith))
        go (suc k) (t_plain (string v)) w = absurd ((never (suc k) (t_plain (string v)) w).0 (omega arith))
        go (suc k) t_view w = absurd ((never (suc k) t_view w).0 (omega arith))
        go (suc k) (t_list_view v t) w = let e : end_of plan i ≡ end_of plan (suc i) = w.1 in typed k t w.4 (omega arith) (omega arith)
        go (suc k) (t_list v t) w = let e : end_of plan i ≡ end_of plan (suc i) = w.1 in typed k t w.4 (omega arith) (omega arith)
        go (suc k) (t_sparse ids nullable f) w = absurd ((never (suc k) (t_sparse ids nullable f) w).1 (omega arith))
        go (suc k) (t_dense ids nullable f) w = absurd ((never (suc k) (t_dense ids nullable f) w).1 (omega arith))
        go (suc k) (t_run_end v t) w = absurd ((never (suc k) (t_run_end v t) w).1 (omega arith))
        go (suc k) (t_dictionary n p) w = absurd ((never (suc k) (t_dictionary n p) w).0 (omega arith))
        go zero _ w = elim w [ ]

    typed_child : (i j : ℕ) → Typed plan lo hi i → is_union (code_of plan i) ≡ true → Child plan i j → Typed plan lo hi j
    typed_child i j (typed k t w p q) h d = go k t w
      where
        never : (k : ℕ) (t : Ty) → Worded plan k t i → (codes_to t < 21 → ⊥) × (22 < codes_from t → ⊥)
        never k t w = let c = between_both 21 22 (code_of plan i) h in code_never k t i 21 22 w c.0 c.1

        go : (k : ℕ) (t : Ty) → Worded plan k t i → Typed plan lo hi j
        go (suc k) (t_plain (fixed n)) w = absurd ((never (suc k) (t_plain (fixed n)) w).0 (omega arith))
        go (suc k) (t_plain (string v)) w = absurd ((never (suc k) (t_plain (string v)) w).0 (omega arith))
        go (suc k) t_view w = absurd ((never (suc k) t_view w).0 (omega arith))
        go (suc k) (t_list_view v t) w = absurd ((never (suc k) (t_list_view v t) w).0 (omega arith))
        go (suc k) (t_list v t) w = absurd ((never (suc k) (t_list v t) w).0 (omega arith))
        go (suc k) (t_sparse ids nullable f) w = child_typed k f nullable i j p q (child_behind (λ c. Worded plan k (f c)) nullable ids i j w.4 d)
        go (suc k) (t_dense ids nullable f) w = child_typed k f nullable i j p q (child_behind (λ c. Worded plan k (f c)) nullable ids i j w.4 d)
        go (suc k) (t_run_end v t) w = absurd ((never (suc k) (t_run_end v t) w).1 (omega arith))
        go (suc k) (t_dictionary n p) w = absurd ((never (suc k) (t_dictionary n p) w).0 (omega arith))
        go zero _ w = elim w [ ]

    typed_values : (i : ℕ) → Typed plan lo hi i → code_of plan i ≡ 23 → Typed plan lo hi (suc (suc i))
    typed_values i (typed k t w p q) h = go k t w
      where
        never : (k : ℕ) (t : Ty) → Worded plan k t i → (codes_to t < 23 → ⊥) × (23 < codes_from t → ⊥)
        never k t w = code_never k t i 23 23 w (omega arith) (omega arith)

        go : (k : ℕ) (t : Ty) → Worded plan k t i → Typed plan lo hi (suc (suc i))
        go (suc k) (t_plain (fixed n)) w = absurd ((never (suc k) (t_plain (fixed n)) w).0 (omega arith))
        go (suc k) (t_plain (string v)) w = absurd ((never (suc k) (t_plain (string v)) w).0 (omega arith))
        go (suc k) t_view w = absurd ((never (suc k) t_view w).0 (omega arith))
        go (suc k) (t_list_view v t) w = absurd ((never (suc k) (t_list_view v t) w).0 (omega arith))
        go (suc k) (t_list v t) w = absurd ((never (suc k) (t_list v t) w).0 (omega arith))
        go (suc k) (t_sparse ids nullable f) w = absurd ((never (suc k) (t_sparse ids nullable f) w).0 (omega arith))
        go (suc k) (t_dense ids nullable f) w = absurd ((never (suc k) (t_dense ids nullable f) w).0 (omega arith))
        go (suc k) (t_run_end v t) w = let e : end_of plan i ≡ end_of plan (suc (suc i)) = w.1 in typed k t w.4 (omega arith) (omega arith)
        go (suc k) (t_dictionary n p) w = absurd ((never (suc k) (t_dictionary n p) w).0 (omega arith))
        go zero _ w = elim w [ ]

    typed_among : (i : ℕ) → Typed plan lo hi i → Among lo hi i
    typed_among i (typed k t w p q) = (p, omega (arith, worded_span plan k t i w))

    -- a walk does not leave the nodes of its type
    pub closed_typed : Closed plan (Typed plan lo hi) (Among lo hi)
    closed_typed =
        record {
          own = typed_among;
          item = typed_item;
          child = typed_child;
          ends = λ i t h.
              let a = typed_among i t in
              let b = typed_among (suc (suc i)) (typed_values i t h) in
              (omega (arith, a.0), omega (arith, b.1));
          values = typed_values;
        }

    typed_span : (i : ℕ) → Typed plan lo hi i → (i < end_of plan i) × (end_of plan i ≤ hi)
    typed_span i (typed k t w p q) = (worded_span plan k t i w, q)

    -- ---- nodes that are not a dictionary's values

    module _ (table : Tabled plan hi) where
      -- a node that has no key's code has no dictionary
      other_free : (i : ℕ) → i < hi → 10 < code_of plan i → dictionary_of plan i ≡ 0
      other_free i h c = go (eqb (dictionary_of plan i) 0) refl
        where
          go : (b : Bool) → eqb (dictionary_of plan i) 0 ≡ b → dictionary_of plan i ≡ 0
          go true e = eqb-true (dictionary_of plan i) 0 e
          go false e =
              let z = between_both 1 10 (code_of plan i) (table.keys_fixed i h (eqb-false (dictionary_of plan i) 0 e)) in
              absurd (omega (arith, z.1))

      -- nor has the last node of a subtree
      last_free : (i k : ℕ) → end_of plan i ≡ suc k → i ≤ k → suc k ≤ hi → dictionary_of plan k ≡ 0
      last_free i k q l h = go (eqb (dictionary_of plan k) 0) refl (ltb i k) refl
        where
          go : (b : Bool) → eqb (dictionary_of plan k) 0 ≡ b → (s : Bool) → ltb i k ≡ s → dictionary_of plan k ≡ 0
          go true a s c = eqb-true (dictionary_of plan k) 0 a
          go false a true c =
              let f = table.keys_end k (omega arith) (eqb-false (dictionary_of plan k) 0 a) in
              let g = table.nested i k (ltb-true i k c) (omega arith) (omega arith) in
              absurd (omega arith)
          go false a false c =
              let f = table.keys_end k (omega arith) (eqb-false (dictionary_of plan k) 0 a) in
              let m : i ≡ k = omega (arith, ltb-false i k c) in
              let g : end_of plan k ≡ suc k = rw m at q in
              absurd (omega arith)

      free_at : (e : ℕ) → ((k : ℕ) → e ≡ suc k → dictionary_of plan k ≡ 0) → Free plan e
      free_at zero f = tt
      free_at (suc k) f = f k refl

      child_free : (i j : ℕ) → Typed plan lo hi i → is_union (code_of plan i) ≡ true → Child plan i j → Free plan j
      child_free i j t u (first h) = let z = between_both 21 22 (code_of plan i) u in other_free i (typed_among i t).1 (omega (arith, z.0))
      child_free i j t u (later m c h) =
          let s = typed_span m (typed_child i m t u c) in
          free_at (end_of plan m) (λ k e. last_free m k e (omega (arith, s.0)) (omega (arith, s.1)))

      -- a walk comes to no dictionary's values
      pub closed_free : Closed plan (λ j. Typed plan lo hi j × Free plan j) (λ j. Among lo hi j × Free plan j)
      closed_free =
          record {
            own = λ i t. (typed_among i t.0, t.1);
            item = λ i t h. let z = between_both 17 20 (code_of plan i) h in (typed_item i t.0 h, other_free i (typed_among i t.0).1 (omega (arith, z.0)));
            child = λ i k t h c. (typed_child i k t.0 h c, child_free i k t.0 h c);
            ends = λ i t h. (closed_typed.ends i t.0 h, other_free i (typed_among i t.0).1 (omega arith));
            values = λ i t h.
                let v = typed_values i t.0 h in
                let s = typed_among (suc (suc i)) v in
                (v, table.ends_plain i (omega (arith, s.1)) h);
          }
