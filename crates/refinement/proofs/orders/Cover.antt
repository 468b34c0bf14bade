-- The parts of all nodes: they hold what is needed and what lies in the memory exactly where they hold the model's destination.
-- Assumes nothing.
use mathlib.Core.Path.{◌≡◌, refl, sym, subst, ◌∙◌}
use mathlib.Core.Bool.{Bool, true, ◌&&◌}
use mathlib.Core.Option.{none}
use mathlib.Core.List.{List, [], ◌∷◌, Memᴰ}
use Prim.Native.Nat.{ℕ, zero, suc, ◌≤◌, ◌<◌}
use native.Mathlib.Decide.{dec_lt}
use native.Mathlib.Omega.{arith}
use lib.ListN.{length}
use lib.Dec.{leb}
use borrow.Author.Tests.{leb-true, le-leb, lt-ltb}
use Rattle.array_data.proofs.lent_tables.Laws.{and_left, and_right}
use Rattle.columnar.specs.Types.{fixed, string, Ty, t_plain, t_view, t_list_view, t_list, t_sparse, t_dense, t_run_end, t_dictionary}
use Rattle.columnar.specs.Formed.{Formed, Ids}
use Rattle.columnar.specs.Reading.{Column, masks}
use Rattle.columnar.specs.Test.{each}
use Rattle.schema.specs.formats.Code.{is_fixed, is_view}
use Rattle.walk.specs.State.{code_of, dictionary_of, end_of, keeps_of, rows, bytes}
use Rattle.walk.specs.Copy.{child_with}
use Rattle.model.specs.Transform.{Destination}
use Rattle.model.proofs.Law.{FineNode}
use Rattle.model.proofs.Nodes.{FineOf}
use Rattle.refinement.specs.walk_is_model.Memory.{Memory}
use Rattle.refinement.specs.walk_is_model.Holds.{child_of, Fields, Worded, Holds}
use Rattle.refinement.proofs.walk_is_model.Frame.{field_of, worded_span}
use Rattle.refinement.proofs.walk_is_model.UnionFields.{with_first, with_later}
use Rattle.refinement.specs.log_in_room.Reach.{Free, Tabled}
use Rattle.refinement.proofs.log_in_room.Found.{between_both}
use Rattle.plan.specs.parts.Parts.{has_part, size_of}
use Rattle.refinement.specs.orders.Fits.{buffers_of, fits_bits, fits_all, fits_below, fits}
use Rattle.refinement.proofs.orders.Buffers.{fixed_one, needed_fixed, masks_code}
use Rattle.refinement.proofs.orders.Own.{Bounded, Own, own_covers, one_own, own_of, times}

-- how the nodes of a plan stand: a node without children ends behind itself, run ends are numbers that keep no nulls
pub record Laid (plan : List ℕ) : Type 0 where
  pub tabled : Tabled plan (end_of plan 0)
  pub plain_ends : (i : ℕ) → i < end_of plan 0 → code_of plan i < 15 → dictionary_of plan i ≡ 0 → end_of plan i ≡ suc i
  pub view_ends : (i : ℕ) → i < end_of plan 0 → is_view (code_of plan i) ≡ true → end_of plan i ≡ suc i
  pub run_ends_lem : (i : ℕ) → i < end_of plan 0 → code_of plan i ≡ 23 → (is_fixed (code_of plan (suc i)) ≡ true) × (keeps_of plan (suc i) ≡ 0)

-- ---- all members

pub each_at : (p : ℕ → Bool) (l : List ℕ) → each p l ≡ true → (e : ℕ) → Memᴰ e l → p e ≡ true
each_at p (c ∷ cs) h e (Memᴰ.head q) = rw q (and_left (p c) (each p cs) h)
each_at p (c ∷ cs) h e (Memᴰ.tail q) = each_at p cs (and_right (p c) (each p cs) h) e q
each_at p [] h e x'' = elim x'' [ ]

pub each_all : (p : ℕ → Bool) (l : List ℕ) → ((e : ℕ) → Memᴰ e l → p e ≡ true) → each p l ≡ true
each_all p [] h = refl
each_all p (c ∷ cs) h = rw (h c (Memᴰ.head refl)) (each_all p cs (λ e q. h e (Memᴰ.tail q)))

module _ (plan : List ℕ) where
  -- the child that a node below a union stands in
  pub record Within (ids : List ℕ) (end fuel k j : ℕ) : Type 0 where
    pub id : ℕ
    pub member : Memᴰ id ids
    pub from : child_with plan id end fuel k ≤ j
    pub to : j < end_of plan (child_with plan id end fuel k)

  pub within : (kid : ℕ → ℕ → Type 0) (nullable : ℕ → Bool) (end : ℕ) (ids : List ℕ) (k fuel : ℕ) → Fields plan kid nullable end ids k → Ids ids → length ids ≤ fuel
      → (j : ℕ) → k ≤ j → j < end → Within ids end fuel k j
  within kid nullable end [] k fuel f d l j p q = absurd (omega (arith, f))
  within kid nullable end (e ∷ es) k zero f d l j p q = absurd (omega arith)
  within kid nullable end (e ∷ es) k (suc fuel) f d l j p q = go (dec_lt j (end_of plan k)) (λ h. within kid nullable end es (end_of plan k) fuel f.5 d.2 (omega arith) j h q)
    where
      small : k < end
      small = omega (arith, f.2, f.3)

      go : Dec (j < end_of plan k) → (end_of plan k ≤ j → Within es end fuel (end_of plan k) j) → Within (e ∷ es) end (suc fuel) k j
      go (yes y) g =
          let z = with_first plan e end fuel k small f.0 in
          record { id = e; member = Memᴰ.head refl; from = rw z p; to = rw z y }
      go (no y) g =
          let r = g (omega arith) in
          let z = with_later plan r.id end fuel k small (λ x. d.1 (subst (λ v. Memᴰ v es) (sym x ∙ f.0) r.member)) in
          record { id = r.id; member = Memᴰ.tail r.member; from = rw z r.from; to = rw z r.to }

module _ (plan parts : List ℕ) (laid : Laid plan) (c : List ℕ) (μ : Memory) (m : ℕ) where
  abbrev pub FineAt : (t : Ty) → (ℕ → Column t) → Destination t → Type 0
  FineAt t ss d = FineNode (masks t) (FineOf t m (λ j. (ss j).body)) m ss d

  -- ---- where the parts hold the destination, each part holds its bytes

  abbrev Covered : ℕ → Type 0
  Covered i = (j b : ℕ) → i ≤ j → j < end_of plan i → Free plan j → has_part plan j b ≡ true → Bounded plan parts c μ j b

  -- the nodes below node i
  abbrev CoveredBelow : ℕ → Type 0
  CoveredBelow i = (j b : ℕ) → i < j → j < end_of plan i → Free plan j → has_part plan j b ≡ true → Bounded plan parts c μ j b

  node_covered : (k : ℕ) (t : Ty) (i : ℕ) (ss : ℕ → Column t) (d : Destination t) → Worded plan k t i → FineAt t ss d → Holds plan t i d c μ → fits plan parts t i d ≡ true
      → (fits_below plan parts t i d.«data» ≡ true → CoveredBelow i) → Covered i
  node_covered k t i ss d w f h e below j b p q free has = go (dec_lt i j)
    where
      own_test : fits_bits plan parts i (masks t) d.bits d.len && fits_all plan parts i 0 (buffers_of t d.«data») ≡ true
      own_test = and_left (fits_bits plan parts i (masks t) d.bits d.len && fits_all plan parts i 0 (buffers_of t d.«data»)) (fits_below plan parts t i d.«data») e

      go : Dec (i < j) → Bounded plan parts c μ j b
      go (yes y) = below (and_right (fits_bits plan parts i (masks t) d.bits d.len && fits_all plan parts i 0 (buffers_of t d.«data»)) (fits_below plan parts t i d.«data») e) j b y q free has
      go (no y) =
          let z : i ≡ j = omega arith in
          let own_free : Free plan i = subst (Free plan) (sym z) free in
          let own-has : has_part plan i b ≡ true = subst (λ v. has_part plan v b ≡ true) (sym z) has in
          subst (λ v. Bounded plan parts c μ v b) z
          (own_covers plan parts c μ i (buffers_of t d.«data») (own_of plan parts c μ k t i m (λ j. (ss j).body) _ d.«data» d.len w h.rows_are f.data_fine h.data_are) own_free (masks t)
          (masks_code plan k t i w) d.bits d.len h.rows_are h.bits_are f.bits_are
          (and_left (fits_bits plan parts i (masks t) d.bits d.len) (fits_all plan parts i 0 (buffers_of t d.«data»)) own_test)
          (and_right (fits_bits plan parts i (masks t) d.bits d.len) (fits_all plan parts i 0 (buffers_of t d.«data»)) own_test)
          b own-has)

  no_kids : (i : ℕ) → end_of plan i ≡ suc i → CoveredBelow i
  no_kids i e j b p q free has = absurd (omega arith)

  union_covered : (k : ℕ) (g : ℕ → Ty) (nullable : ℕ → Bool) (ids : List ℕ) (i : ℕ) → Ids ids → length ids ≤ 16 → Fields plan (λ z. Worded plan k (g z)) nullable (end_of plan i) ids (suc i)
      → ((e : ℕ) → Memᴰ e ids → Covered (child_of plan i e)) → CoveredBelow i
  union_covered k g nullable ids i ds few f kid j b p q free has =
      let r = within plan (λ z. Worded plan k (g z)) nullable (end_of plan i) ids (suc i) 32 f ds (omega arith) j (omega arith) q in
      kid r.id r.member j b r.from r.to free has

  pub covered : (k : ℕ) (t : Ty) (i : ℕ) (ss : ℕ → Column t) (d : Destination t) → Worded plan k t i → Formed t → end_of plan i ≤ end_of plan 0 → FineAt t ss d → Holds plan t i d c μ
      → fits plan parts t i d ≡ true → Covered i
  covered (suc k) (t_plain (fixed n)) i ss d w o l f h e =
      let z = between_both 1 10 (code_of plan i) w.3.0 in
      node_covered (suc k) (t_plain (fixed n)) i ss d w f h e (λ g. no_kids i (laid.plain_ends i (omega (arith, w.1)) (omega (arith, z.1)) w.2))
  covered (suc k) (t_plain (string v)) i ss d w o l f h e =
      let z = between_both 11 14 (code_of plan i) w.3.0 in
      node_covered (suc k) (t_plain (string v)) i ss d w f h e (λ g. no_kids i (laid.plain_ends i (omega (arith, w.1)) (omega (arith, z.1)) w.2))
  covered (suc k) t_view i ss d w o l f h e =
      node_covered (suc k) t_view i ss d w f h e (λ g. no_kids i (laid.view_ends i (omega (arith, w.1)) w.2))
  covered (suc k) (t_list_view v t) i ss d w o l f h e =
      node_covered (suc k) (t_list_view v t) i ss d w f h e
      (λ g j b p q. let z : end_of plan i ≡ end_of plan (suc i) = w.1 in
      covered k t (suc i) (λ j. (ss j).body.child) d.«data».child w.4 o.1 (omega arith) f.data_fine.child_fine h.data_are.2 g j b (omega arith) (omega arith))
  covered (suc k) (t_list v t) i ss d w o l f h e =
      node_covered (suc k) (t_list v t) i ss d w f h e
      (λ g j b p q. let z : end_of plan i ≡ end_of plan (suc i) = w.1 in
      covered k t (suc i) (λ j. (ss j).body.child) d.«data».child w.4 o.1 (omega arith) f.data_fine.child_fine h.data_are.1 g j b (omega arith) (omega arith))
  covered (suc k) (t_sparse ids nullable g) i ss d w o l f h e =
      node_covered (suc k) (t_sparse ids nullable g) i ss d w f h e
      (λ a. union_covered k g nullable ids i o.0 w.2 w.4
      (λ v q. let x = field_of plan (λ z. Worded plan k (g z)) nullable (end_of plan i) ids (suc i) 32 v w.4 (omega (arith, w.2)) q in
      covered k (g v) (child_of plan i v) (λ j. (ss j).body.children v) (d.«data».children v) x.is_kid (o.1 v q) (omega (arith, x.ends)) (f.data_fine.kids_fine v q) (h.data_are.1 v q) (each_at _ ids a v q)))
  covered (suc k) (t_dense ids nullable g) i ss d w o l f h e =
      node_covered (suc k) (t_dense ids nullable g) i ss d w f h e
      (λ a. union_covered k g nullable ids i o.0 w.2 w.4
      (λ v q. let x = field_of plan (λ z. Worded plan k (g z)) nullable (end_of plan i) ids (suc i) 32 v w.4 (omega (arith, w.2)) q in
      covered k (g v) (child_of plan i v) (λ j. (ss j).body.children v) (d.«data».children v) x.is_kid (o.1 v q) (omega (arith, x.ends)) (f.data_fine.kids_fine v q) (h.data_are.2 v q) (each_at _ ids a v q)))
  covered (suc k) (t_run_end v t) i ss d w o l f h e =
      node_covered (suc k) (t_run_end v t) i ss d w f h e
      (λ a. below (covered k t (suc (suc i)) (λ j. (ss j).body.values) d.«data».values w.4 o.1 (omega (arith, ends_same)) f.data_fine.values_fine h.data_are.2
      (and_right (leb (length d.«data».ends.«data») (size_of plan parts (suc i) 1)) _ a)) (leb-true _ _ (and_left (leb (length d.«data».ends.«data») (size_of plan parts (suc i) 1)) _ a)))
    where
      ends_same : end_of plan i ≡ end_of plan (suc (suc i))
      ends_same = w.1

      span : i < end_of plan i
      span = worded_span plan (suc k) (t_run_end v t) i w

      ends : (is_fixed (code_of plan (suc i)) ≡ true) × (keeps_of plan (suc i) ≡ 0)
      ends = laid.run_ends_lem i (omega (arith, span)) w.2

      own : Own plan parts c μ (suc i) (d.«data».ends.«data» ∷ [])
      own =
          one_own plan parts c μ (suc i) d.«data».ends.«data» (fixed_one (code_of plan (suc i)) ends.0)
          (needed_fixed (code_of plan (suc i)) (rows c (suc i)) (bytes c (suc i)) ends.0 ∙ times plan parts c μ h.data_are.0 w.3 ∙ sym f.data_fine.ends_are) h.data_are.1

      below : Covered (suc (suc i)) → length d.«data».ends.«data» ≤ size_of plan parts (suc i) 1 → CoveredBelow i
      below g s j b p q free has = go (dec_lt (suc i) j)
        where
          low : code_of plan (suc i) < 21
          low = let z = between_both 1 10 (code_of plan (suc i)) ends.0 in omega (arith, z.1)

          go : Dec (suc i < j) → Bounded plan parts c μ j b
          go (yes y) = g j b (omega arith) (omega (arith, ends_same)) free has
          go (no y) =
              let z : suc i ≡ j = omega arith in
              subst (λ v. Bounded plan parts c μ v b) z
              (own_covers plan parts c μ (suc i) (d.«data».ends.«data» ∷ []) own (subst (Free plan) (sym z) free) true (sym (lt-ltb (code_of plan (suc i)) 21 low)) none
              d.«data».ends.len h.data_are.0 ends.1 tt refl (rw (le-leb _ _ s)) b (subst (λ v. has_part plan v b ≡ true) (sym z) has))
  covered (suc k) (t_dictionary n p) i ss d w o l f h e =
      node_covered (suc k) (t_dictionary n p) i ss d w f h e
      (λ a j b p q free has. let z = laid.tabled.keys_end i (omega (arith, w.1)) w.2 in
      let y : j ≡ suc i = omega arith in
      absurd (w.2 (subst (Free plan) y free)))
  covered zero t i ss d w o l f h e = elim w [ ]
