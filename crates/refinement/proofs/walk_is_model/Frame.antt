-- What a step leaves as it was, and that a destination is still held where its nodes are left as they were. Assumes nothing.
use mathlib.Core.Path.{◌≡◌, refl, sym, ap, subst, ◌∙◌}
use mathlib.Core.Bool.{Bool, true, false, cond}
use mathlib.Core.Option.{Option, none, some}
use mathlib.Core.List.{List, [], ◌∷◌, Memᴰ}
use Prim.Native.Nat.{ℕ, zero, suc, ◌+◌, ◌≤◌, ◌<◌}
use native.Mathlib.Omega.{arith}
use lib.ListN.{length}
use lib.Dec.{ltb, eqb}
use borrow.Author.Tests.{lt-ltb, eq-eqb, eqb-true, eqb-false}
use Rattle.columnar.specs.Types.{Plain, fixed, string, Ty, t_plain, t_view, t_list_view, t_list, t_sparse, t_dense, t_run_end, t_dictionary}
use Rattle.columnar.specs.Reading.{masks}
use Rattle.model.specs.Mutable.{Mutable}
use Rattle.model.specs.Transform.{Grown, Destination}
use Rattle.walk.specs.State.{end_of, id_of, rows, nulls, bytes, keeps_of}
use Rattle.walk.specs.Copy.{child_with}
use Rattle.refinement.specs.walk_is_model.Memory.{Memory}
use Rattle.refinement.specs.walk_is_model.Holds.{child_of, Fields, Worded, HoldsBits, HoldsNode, HoldsPlain, HoldsData, Holds}

-- node j is as it was
pub record SameAt (c c' : List ℕ) (μ μ' : Memory) (j : ℕ) : Type 0 where
  pub rows_same : rows c' j ≡ rows c j
  pub nulls_same : nulls c' j ≡ nulls c j
  pub bytes_same : bytes c' j ≡ bytes c j
  pub at_same : (b : ℕ) → μ'.at j b ≡ μ.at j b
  pub bits_same : μ'.bits j ≡ μ.bits j

pub same_refl : (c : List ℕ) (μ : Memory) (j : ℕ) → SameAt c c μ μ j
same_refl c μ j = record { rows_same = refl; nulls_same = refl; bytes_same = refl; at_same = λ b. refl; bits_same = refl }

pub same_then : {c c1 c2 : List ℕ} {μ μ1 μ2 : Memory} {j : ℕ} → SameAt c c1 μ μ1 j → SameAt c1 c2 μ1 μ2 j → SameAt c c2 μ μ2 j
same_then a b =
    record {
      rows_same = b.rows_same ∙ a.rows_same;
      nulls_same = b.nulls_same ∙ a.nulls_same;
      bytes_same = b.bytes_same ∙ a.bytes_same;
      at_same = λ e. b.at_same e ∙ a.at_same e;
      bits_same = b.bits_same ∙ a.bits_same;
    }

-- all nodes but i .. e - 1 are as they were
pub record Kept (i e : ℕ) (c c' : List ℕ) (μ μ' : Memory) : Type 0 where
  pub long : length c' ≡ length c
  pub outside : (j : ℕ) → (i ≤ j → j < e → ⊥) → SameAt c c' μ μ' j

pub kept_refl : (i e : ℕ) (c : List ℕ) (μ : Memory) → Kept i e c c μ μ
kept_refl i e c μ = record { long = refl; outside = λ j h. same_refl c μ j }

pub kept_then : {i e : ℕ} {c c1 c2 : List ℕ} {μ μ1 μ2 : Memory} → Kept i e c c1 μ μ1 → Kept i e c1 c2 μ1 μ2 → Kept i e c c2 μ μ2
kept_then a b = record { long = b.long ∙ a.long; outside = λ j h. same_then (a.outside j h) (b.outside j h) }

pub kept_wide : {i e : ℕ} {c c' : List ℕ} {μ μ' : Memory} (i2 e2 : ℕ) → i2 ≤ i → e ≤ e2 → Kept i e c c' μ μ' → Kept i2 e2 c c' μ μ'
kept_wide i2 e2 p q k = record { long = k.long; outside = λ j h. k.outside j (λ a b. h (omega arith) (omega arith)) }

module _ (plan : List ℕ) where
  -- a node has a span
  pub worded_span : (k : ℕ) (t : Ty) (i : ℕ) → Worded plan k t i → i < end_of plan i
  worded_span (suc k) (t_plain p) i w = w.1
  worded_span (suc k) t_view i w = w.1
  worded_span (suc k) (t_list_view v t) i w = let s = worded_span k t (suc i) w.4 in let e : end_of plan i ≡ end_of plan (suc i) = w.1 in omega arith
  worded_span (suc k) (t_list v t) i w = let s = worded_span k t (suc i) w.4 in let e : end_of plan i ≡ end_of plan (suc i) = w.1 in omega arith
  worded_span (suc k) (t_sparse ids nullable f) i w = w.3
  worded_span (suc k) (t_dense ids nullable f) i w = w.3
  worded_span (suc k) (t_run_end v t) i w = let s = worded_span k t (suc (suc i)) w.4 in let e : end_of plan i ≡ end_of plan (suc (suc i)) = w.1 in omega arith
  worded_span (suc k) (t_dictionary n p) i w = w.1
  worded_span zero t i w = elim w [ ]

  -- ---- the children of a union

  -- child c of those from node k on
  pub record Field (kid : ℕ → ℕ → Type 0) (end k c n : ℕ) : Type 0 where
    pub behind : k ≤ n
    pub has_id : id_of plan n ≡ c
    pub span : n < end_of plan n
    pub ends : end_of plan n ≤ end
    pub is_kid : kid c n

  field_step : {kid : ℕ → ℕ → Type 0} {end k k2 c n : ℕ} → k ≤ k2 → Field kid end k2 c n → Field kid end k c n
  field_step p h = record { behind = omega (arith, h.behind); has_id = h.has_id; span = h.span; ends = h.ends; is_kid = h.is_kid }

  pub field_of : (kid : ℕ → ℕ → Type 0) (nullable : ℕ → Bool) (end : ℕ) (ids : List ℕ) (k fuel c : ℕ) → Fields plan kid nullable end ids k → length ids ≤ fuel → Memᴰ c ids
      → Field kid end k c (child_with plan c end fuel k)
  unfolding child_with
  field_of kid nullable end (d ∷ ds) k zero c f l m = absurd (omega arith)
  field_of kid nullable end (d ∷ ds) k (suc fuel) c f l m =
      rw (lt-ltb k end (omega (arith, f.2, f.3))) (go (eqb (id_of plan k) c) refl (λ h. field_of kid nullable end ds (end_of plan k) fuel c f.5 (omega arith) h))
    where
      behind : eqb (id_of plan k) c ≡ false → Memᴰ c (d ∷ ds) → Memᴰ c ds
      behind e (Memᴰ.head h) = absurd (eqb-false (id_of plan k) c e (f.0 ∙ sym h))
      behind e (Memᴰ.tail h) = h

      go : (b : Bool) → eqb (id_of plan k) c ≡ b → (Memᴰ c ds → Field kid end (end_of plan k) c (child_with plan c end fuel (end_of plan k)))
          → Field kid end k c (cond b k (child_with plan c end fuel (end_of plan k)))
      go true e rest =
          let q = eqb-true (id_of plan k) c e in
          record { behind = omega arith; has_id = q; span = f.2; ends = f.3; is_kid = subst (λ z. kid z k) (sym f.0 ∙ q) f.4 }
      go false e rest = field_step (omega (arith, f.2)) (rest (behind e m))
  field_of kid nullable end [] k fuel c f l m = elim m [ ]

  -- two children stand apart
  pub apart_of : (kid : ℕ → ℕ → Type 0) (nullable : ℕ → Bool) (end : ℕ) (ids : List ℕ) (k fuel c d : ℕ) → Fields plan kid nullable end ids k → length ids ≤ fuel → Memᴰ c ids → Memᴰ d ids
      → (c ≡ d → ⊥) → (j : ℕ) → child_with plan c end fuel k ≤ j → j < end_of plan (child_with plan c end fuel k) → child_with plan d end fuel k ≤ j → j < end_of plan (child_with plan d end fuel k) → ⊥
  unfolding child_with
  apart_of kid nullable end (e ∷ es) k zero c d f l m p ne j = absurd (omega arith)
  apart_of kid nullable end (e ∷ es) k (suc fuel) c d f l m p ne j =
      rw (lt-ltb k end (omega (arith, f.2, f.3)))
      (go (eqb (id_of plan k) c) refl (eqb (id_of plan k) d) refl
      (λ h g. apart_of kid nullable end es (end_of plan k) fuel c d f.5 (omega arith) h g ne j)
      (λ h. field_of kid nullable end es (end_of plan k) fuel c f.5 (omega arith) h)
      (λ h. field_of kid nullable end es (end_of plan k) fuel d f.5 (omega arith) h))
    where
      behind : (z : ℕ) → eqb (id_of plan k) z ≡ false → Memᴰ z (e ∷ es) → Memᴰ z es
      behind z q (Memᴰ.head h) = absurd (eqb-false (id_of plan k) z q (f.0 ∙ sym h))
      behind z q (Memᴰ.tail h) = h

      go : (a : Bool) → eqb (id_of plan k) c ≡ a → (b : Bool) → eqb (id_of plan k) d ≡ b
          → (Memᴰ c es → Memᴰ d es → child_with plan c end fuel (end_of plan k) ≤ j → j < end_of plan (child_with plan c end fuel (end_of plan k)) → child_with plan d end fuel (end_of plan k) ≤ j → j < end_of plan (child_with plan d end fuel (end_of plan k)) → ⊥)
          → (Memᴰ c es → Field kid end (end_of plan k) c (child_with plan c end fuel (end_of plan k))) → (Memᴰ d es → Field kid end (end_of plan k) d (child_with plan d end fuel (end_of plan k)))
          → cond a k (child_with plan c end fuel (end_of plan k)) ≤ j → j < end_of plan (cond a k (child_with plan c end fuel (end_of plan k))) → cond b k (child_with plan d end fuel (end_of plan k)) ≤ j → j < end_of plan (cond b k (child_with plan d end fuel (end_of plan k))) → ⊥
      go true qa true qb h x y p1 p2 p3 p4 = ne (sym (eqb-true (id_of plan k) c qa) ∙ eqb-true (id_of plan k) d qb)
      go true qa false qb h x y p1 p2 p3 p4 = omega (arith, (y (behind d qb p)).behind)
      go false qa true qb h x y p1 p2 p3 p4 = omega (arith, (x (behind c qa m)).behind)
      go false qa false qb h x y p1 p2 p3 p4 = h (behind c qa m) (behind d qb p) p1 p2 p3 p4
  apart_of kid nullable end [] k fuel c d f l m p ne j = elim m [ ]

  -- ---- still held

  module _ (c c' : List ℕ) (μ μ' : Memory) where
    -- what a node's data is held by: its own buffers, and the nodes below it
    pub record SameData (i : ℕ) : Type 0 where
      pub at_same : (b : ℕ) → μ'.at i b ≡ μ.at i b
      pub bytes_same : bytes c' i ≡ bytes c i
      pub below_same : (j : ℕ) → i < j → j < end_of plan i → SameAt c c' μ μ' j

    pub bits_held : (i : ℕ) (m : Bool) (o : Option (List Bool)) → μ'.bits i ≡ μ.bits i → HoldsBits plan i m o μ → HoldsBits plan i m o μ'
    bits_held i m none e h = h
    bits_held i true (some l) e h = (h.0, e ∙ h.1)
    bits_held i false (some l) e h = h

    node_held : {D : Type 0} (i : ℕ) (m : Bool) (inner : D → List ℕ → Memory → Type 0) (d : Mutable D) → SameAt c c' μ μ' i → (inner d.«data» c μ → inner d.«data» c' μ')
        → HoldsNode plan i m inner d c μ → HoldsNode plan i m inner d c' μ'
    node_held i m inner d s f h =
        record {
          rows_are = s.rows_same ∙ h.rows_are;
          nulls_are = s.nulls_same ∙ h.nulls_are;
          few_nulls = h.few_nulls;
          bits_are = bits_held i m d.bits s.bits_same h.bits_are;
          data_are = f h.data_are;
        }

    data_from : (i : ℕ) → ((j : ℕ) → i ≤ j → j < end_of plan i → SameAt c c' μ μ' j) → i < end_of plan i → SameData i
    data_from i h p =
        record { at_same = (h i (omega arith) p).at_same; bytes_same = (h i (omega arith) p).bytes_same; below_same = λ j a b. h j (omega arith) b }

    pub plain_held : (p : Plain) (i : ℕ) (d : Grown (t_plain p)) → SameData i → HoldsPlain plan p i d c μ → HoldsPlain plan p i d c' μ'
    plain_held (fixed n) i d s h = s.at_same 1 ∙ h
    plain_held (string w) i d s h = (s.at_same 1 ∙ h.0, s.at_same 2 ∙ h.1, s.bytes_same ∙ h.2)

    -- a node below, where its data is still held
    below_held : (k : ℕ) (t : Ty) (i : ℕ) (d : Destination t) → Worded plan k t i → ((j : ℕ) → i ≤ j → j < end_of plan i → SameAt c c' μ μ' j)
        → (SameData i → HoldsData plan t i d.«data» c μ → HoldsData plan t i d.«data» c' μ') → Holds plan t i d c μ → Holds plan t i d c' μ'
    below_held k t i d w s f h =
        let p = worded_span k t i w in
        node_held i (masks t) (HoldsData plan t i) d (s i (omega arith) p) (f (data_from i s p)) h

    pub data_held : (k : ℕ) (t : Ty) (i : ℕ) (d : Grown t) → Worded plan k t i → SameData i → HoldsData plan t i d c μ → HoldsData plan t i d c' μ'
    data_held (suc k) (t_plain p) i d w s h = plain_held p i d s h
    data_held (suc k) t_view i d w s h = s.at_same 1 ∙ h
    data_held (suc k) (t_list_view v t) i d w s h =
        let e : end_of plan i ≡ end_of plan (suc i) = w.1 in (
          s.at_same 1 ∙ h.0,
          s.at_same 2 ∙ h.1,
          below_held k t (suc i) d.child w.4 (λ j a b. s.below_same j (omega arith) (omega arith)) (data_held k t (suc i) d.child.«data» w.4) h.2,
        )
    data_held (suc k) (t_list v t) i d w s h =
        let e : end_of plan i ≡ end_of plan (suc i) = w.1 in (
          s.at_same 1 ∙ h.0,
          below_held k t (suc i) d.child w.4 (λ j a b. s.below_same j (omega arith) (omega arith)) (data_held k t (suc i) d.child.«data» w.4) h.1,
        )
    data_held (suc k) (t_sparse ids nullable f) i d w s h = (
      s.at_same 1 ∙ h.0,
      λ e m. let g = field_of (λ c. Worded plan k (f c)) nullable (end_of plan i) ids (suc i) 32 e w.4 (omega (arith, w.2)) m in
          below_held k (f e) (child_of plan i e) (d.children e) g.is_kid (λ j a b. s.below_same j (omega (arith, g.behind)) (omega (arith, g.ends)))
          (data_held k (f e) (child_of plan i e) (d.children e).«data» g.is_kid) (h.1 e m),
    )
    data_held (suc k) (t_dense ids nullable f) i d w s h = (
      s.at_same 1 ∙ h.0,
      s.at_same 2 ∙ h.1,
      λ e m. let g = field_of (λ c. Worded plan k (f c)) nullable (end_of plan i) ids (suc i) 32 e w.4 (omega (arith, w.2)) m in
          below_held k (f e) (child_of plan i e) (d.children e) g.is_kid (λ j a b. s.below_same j (omega (arith, g.behind)) (omega (arith, g.ends)))
          (data_held k (f e) (child_of plan i e) (d.children e).«data» g.is_kid) (h.2 e m),
    )
    data_held (suc k) (t_run_end v t) i d w s h =
        let e : end_of plan i ≡ end_of plan (suc (suc i)) = w.1 in
        let p = worded_span k t (suc (suc i)) w.4 in
        let n = s.below_same (suc i) (omega arith) (omega arith) in (
          n.rows_same ∙ h.0,
          n.at_same 1 ∙ h.1,
          below_held k t (suc (suc i)) d.values w.4 (λ j a b. s.below_same j (omega arith) (omega arith)) (data_held k t (suc (suc i)) d.values.«data» w.4) h.2,
          s.bytes_same ∙ h.3,
        )
    data_held (suc k) (t_dictionary n p) i d w s h = s.at_same 1 ∙ h
    data_held zero t i d w s h = elim w [ ]

    pub held_same : (k : ℕ) (t : Ty) (i : ℕ) (d : Destination t) → Worded plan k t i → ((j : ℕ) → i ≤ j → j < end_of plan i → SameAt c c' μ μ' j)
        → Holds plan t i d c μ → Holds plan t i d c' μ'
    held_same k t i d w s h = below_held k t i d w s (data_held k t i d.«data» w) h
