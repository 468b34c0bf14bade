-- Ranges: what a node settles of the nodes below it, and that the walk of a subtree leaves the others as they were. Assumes nothing.
use mathlib.Core.Path.{◌≡◌, refl, sym, ap, subst, ◌∙◌}
use mathlib.Core.Bool.{Bool, true, false}
use mathlib.Core.List.{List, [], ◌∷◌}
use Prim.Native.Nat.{ℕ, zero, suc, ◌+◌, ◌*◌, ◌≤◌, ◌<◌}
use native.Mathlib.Omega.{arith}
use lib.ListN.{length, set, length-set}
use lib.Seq.{get_or-set_same, get_or-set_other}
use lib.Dec.{ltb}
use borrow.Author.Tests.{ltb-true, ltb-false}
use Rattle.array_data.specs.Tables.{Tables, offset_of}
use Rattle.array_data.specs.NodeKinds.{NodeKind}
use Rattle.array_data.specs.Typed.{Tree, child_node, kind_in, subtree_end}
use Rattle.width_walks.specs.Nodes.{from_in, many_in, range, child_ranges, settle_as, settle, ranges_behind}

-- ---- one range

pub record SameRange (rs rs' : List ℕ) (j : ℕ) : Type 0 where
  pub same_from : from_in rs' j ≡ from_in rs j
  pub same_many : many_in rs' j ≡ many_in rs j

pub same_refl : (rs : List ℕ) (j : ℕ) → SameRange rs rs j
same_refl rs j = record { same_from = refl; same_many = refl }

pub same_then : {rs r1 r2 : List ℕ} {j : ℕ} → SameRange rs r1 j → SameRange r1 r2 j → SameRange rs r2 j
same_then a b = record { same_from = b.same_from ∙ a.same_from; same_many = b.same_many ∙ a.same_many }

module _ (k a n : ℕ) (rs : List ℕ) where
  pub range_long : length (range k a n rs) ≡ length rs
  range_long = length-set (set rs (2 * k) a) (2 * k + 1) n ∙ length-set rs (2 * k) a

  pub range_other : (j : ℕ) → (j ≡ k → ⊥) → SameRange rs (range k a n rs) j
  range_other j h =
      record {
        same_from = get_or-set_other (set rs (2 * k) a) (2 * k + 1) (2 * j) n 0 (λ (e : 2 * j ≡ 2 * k + 1). omega arith) ∙ get_or-set_other rs (2 * k) (2 * j) a 0 (λ (e : 2 * j ≡ 2 * k). h (omega arith));
        same_many = get_or-set_other (set rs (2 * k) a) (2 * k + 1) (2 * j + 1) n 0 (λ (e : 2 * j + 1 ≡ 2 * k + 1). h (omega arith)) ∙ get_or-set_other rs (2 * k) (2 * j + 1) a 0 (λ (e : 2 * j + 1 ≡ 2 * k). omega arith);
      }

  module _ (long : length rs ≡ 64) (low : k < 32) where
    pub own_from : from_in (range k a n rs) k ≡ a
    own_from = get_or-set_other (set rs (2 * k) a) (2 * k + 1) (2 * k) n 0 (λ (e : 2 * k ≡ 2 * k + 1). omega arith) ∙ get_or-set_same rs (2 * k) a 0 (omega arith)

    pub own_many : many_in (range k a n rs) k ≡ n
    own_many = get_or-set_same (set rs (2 * k) a) (2 * k + 1) n 0 (omega (arith, length-set rs (2 * k) a))

-- ---- where subtrees end

module _ (t : Tree) where
  -- children one behind the other, from node k to e
  abbrev pub SpansFields : (ℕ → ℕ → Type 0) → List ℕ → ℕ → ℕ → Type 0
  SpansFields kid [] k e = k ≡ e
  SpansFields kid (c ∷ cs) k e = kid c k × (k < subtree_end t k) × (subtree_end t k ≤ e) × SpansFields kid cs (subtree_end t k) e

  -- child j of node i, where the first p stand before node k
  child_at_lem : (kid : ℕ → ℕ → Type 0) (cs : List ℕ) (i k e p j : ℕ) → SpansFields kid cs k e → child_node t i p ≡ k → j < length cs → (k ≤ child_node t i (p + j)) × (child_node t i (p + j) < e)
  child_at_lem kid [] i k e p j h q l = absurd (omega arith)
  child_at_lem kid (c ∷ cs) i k e p zero h q l =
      let z : child_node t i (p + 0) ≡ k = ap (child_node t i) (let y : p + 0 ≡ p = omega arith in y) ∙ q in (omega (arith, z), omega (arith, z, h.1, h.2))
  child_at_lem kid (c ∷ cs) i k e p (suc j) h q l =
      let z : suc p + j ≡ p + suc j = omega arith in
      let r = child_at_lem kid cs i (subtree_end t k) e (suc p) j h.3 (ap (subtree_end t) q) (omega arith) in
      let y : child_node t i (p + suc j) ≡ child_node t i (suc p + j) = ap (child_node t i) (sym z) in
      (omega (arith, y, r.0, h.1), omega (arith, y, r.1))

  -- .. and before those behind it
  child_rises : (kid : ℕ → ℕ → Type 0) (cs : List ℕ) (i k e p j m : ℕ) → SpansFields kid cs k e → child_node t i p ≡ k → j < m → m < length cs → child_node t i (p + j) < child_node t i (p + m)
  child_rises kid [] i k e p j m h q a b = absurd (omega arith)
  child_rises kid (c ∷ cs) i k e p zero zero h q a b = absurd (omega arith)
  child_rises kid (c ∷ cs) i k e p zero (suc m) h q a b =
      let z : child_node t i (p + 0) ≡ k = ap (child_node t i) (let y : p + 0 ≡ p = omega arith in y) ∙ q in
      let w : child_node t i (p + suc m) ≡ child_node t i (suc p + m) = ap (child_node t i) (let y : p + suc m ≡ suc p + m = omega arith in y) in
      omega (arith, z, w, h.1, (child_at_lem kid cs i (subtree_end t k) e (suc p) m h.3 (ap (subtree_end t) q) (omega arith)).0)
  child_rises kid (c ∷ cs) i k e p (suc j) zero h q a b = absurd (omega arith)
  child_rises kid (c ∷ cs) i k e p (suc j) (suc m) h q a b =
      let w : child_node t i (p + suc m) ≡ child_node t i (suc p + m) = ap (child_node t i) (let y : p + suc m ≡ suc p + m = omega arith in y) in
      let v : child_node t i (p + suc j) ≡ child_node t i (suc p + j) = ap (child_node t i) (let y : p + suc j ≡ suc p + j = omega arith in y) in
      omega (arith, w, v, child_rises kid cs i (subtree_end t k) e (suc p) j m h.3 (ap (subtree_end t) q) (omega arith) (omega arith))

  module _ (kid : ℕ → ℕ → Type 0) (ids : List ℕ) (i : ℕ) (h : SpansFields kid ids (suc i) (subtree_end t i)) where
    zero_plus : (j : ℕ) → child_node t i (0 + j) ≡ child_node t i j
    zero_plus j = ap (child_node t i) (let y : 0 + j ≡ j = omega arith in y)

    pub child_in : (j : ℕ) → j < length ids → (i < child_node t i j) × (child_node t i j < subtree_end t i)
    child_in j l = let r = child_at_lem kid ids i (suc i) (subtree_end t i) 0 j h refl l in (omega (arith, r.0, zero_plus j), omega (arith, r.1, zero_plus j))

    pub child_before : (j m : ℕ) → j < m → m < length ids → child_node t i j < child_node t i m
    child_before j m a b = omega (arith, child_rises kid ids i (suc i) (subtree_end t i) 0 j m h refl a b, zero_plus j, zero_plus m)

-- ---- ranges of a subtree's nodes alone are changed

pub record RangesKept (i e : ℕ) (rs rs' : List ℕ) : Type 0 where
  pub long : length rs' ≡ length rs
  pub outside : (j : ℕ) → (i ≤ j → j < e → ⊥) → SameRange rs rs' j

pub kept_none : (i e : ℕ) (rs : List ℕ) → RangesKept i e rs rs
kept_none i e rs = record { long = refl; outside = λ j h. same_refl rs j }

pub kept_range : (i e k a n : ℕ) (rs : List ℕ) → i ≤ k → k < e → RangesKept i e rs (range k a n rs)
kept_range i e k a n rs p q = record { long = range_long k a n rs; outside = λ j h. range_other k a n rs j (λ z. h (omega (arith, z)) (omega (arith, z))) }

pub kept_then : {i e : ℕ} {rs r1 r2 : List ℕ} → RangesKept i e rs r1 → RangesKept i e r1 r2 → RangesKept i e rs r2
kept_then a b = record { long = b.long ∙ a.long; outside = λ j h. same_then (a.outside j h) (b.outside j h) }

pub kept_wide : {i e j f : ℕ} {rs r1 : List ℕ} → i ≤ j → f ≤ e → RangesKept j f rs r1 → RangesKept i e rs r1
kept_wide p q a = record { long = a.long; outside = λ k h. a.outside k (λ u v. h (omega arith) (omega arith)) }

module _ (t t' : Tree) (x : Tables) (plan : List ℕ) where
  -- ---- the children of a union

  module _ (a n : ℕ → ℕ) (i : ℕ) (kid : ℕ → ℕ → Type 0) (ids : List ℕ) (h : SpansFields t kid ids (suc i) (subtree_end t i)) where
    pub children_kept : (k : ℕ) → k ≤ length ids → (rs : List ℕ) → RangesKept (suc i) (subtree_end t i) rs (child_ranges t t' x plan a n i k rs)
    children_kept zero l rs = kept_none (suc i) (subtree_end t i) rs
    children_kept (suc k) l rs =
        let c = child_in t kid ids i h k (omega arith) in
        kept_then (children_kept k (omega arith) rs)
        (kept_range (suc i) (subtree_end t i) (child_node t i k) (a (child_node t i k)) (n (child_node t i k)) (child_ranges t t' x plan a n i k rs) (omega (arith, c.0)) c.1)

    pub child_range : (low : subtree_end t i ≤ 32) (k : ℕ) → k ≤ length ids → (rs : List ℕ) → length rs ≡ 64 → (j : ℕ) → j < k
        → (from_in (child_ranges t t' x plan a n i k rs) (child_node t i j) ≡ a (child_node t i j)) × (many_in (child_ranges t t' x plan a n i k rs) (child_node t i j) ≡ n (child_node t i j))
    child_range low zero l rs long j q = absurd (omega arith)
    child_range low (suc k) l rs long j q = go (ltb j k) refl (child_range low k (omega arith) rs long j)
      where
        go : (b : Bool) → ltb j k ≡ b
            → (j < k → (from_in (child_ranges t t' x plan a n i k rs) (child_node t i j) ≡ a (child_node t i j)) × (many_in (child_ranges t t' x plan a n i k rs) (child_node t i j) ≡ n (child_node t i j)))
            → (from_in (range (child_node t i k) (a (child_node t i k)) (n (child_node t i k)) (child_ranges t t' x plan a n i k rs)) (child_node t i j) ≡ a (child_node t i j))
            × (many_in (range (child_node t i k) (a (child_node t i k)) (n (child_node t i k)) (child_ranges t t' x plan a n i k rs)) (child_node t i j) ≡ n (child_node t i j))
        go true e ih =
            let p = ltb-true j k e in
            let o = range_other (child_node t i k) (a (child_node t i k)) (n (child_node t i k)) (child_ranges t t' x plan a n i k rs) (child_node t i j) (λ z. omega (arith, z, child_before t kid ids i h j k p (omega arith))) in
            (o.same_from ∙ (ih p).0, o.same_many ∙ (ih p).1)
        go false e ih =
            let p : j ≡ k = omega (arith, ltb-false j k e) in
            let c = child_in t kid ids i h k (omega arith) in
            let m : length (child_ranges t t' x plan a n i k rs) ≡ 64 = (children_kept k (omega arith) rs).long ∙ long in (
              subst (λ z. from_in (range (child_node t i k) (a (child_node t i k)) (n (child_node t i k)) (child_ranges t t' x plan a n i k rs)) (child_node t i z) ≡ a (child_node t i z)) (sym p)
                  (own_from (child_node t i k) (a (child_node t i k)) (n (child_node t i k)) (child_ranges t t' x plan a n i k rs) m (omega (arith, c.1))),
              subst (λ z. many_in (range (child_node t i k) (a (child_node t i k)) (n (child_node t i k)) (child_ranges t t' x plan a n i k rs)) (child_node t i z) ≡ n (child_node t i z)) (sym p)
                  (own_many (child_node t i k) (a (child_node t i k)) (n (child_node t i k)) (child_ranges t t' x plan a n i k rs) m (omega (arith, c.1))),
            )

  -- ---- a subtree

  pub settle_is : (i : ℕ) (k : NodeKind) (rs : List ℕ) → kind_in t i ≡ k → settle t t' x plan i rs ≡ settle_as t t' x plan k i (offset_of x i + from_in rs i) (many_in rs i) rs
  unfolding settle
  settle_is i k rs e = ap (λ z. settle_as t t' x plan z i (offset_of x i + from_in rs i) (many_in rs i) rs) e

  pub behind_split : (m1 m2 m i : ℕ) (rs : List ℕ) → m ≡ m1 + m2 → ranges_behind t t' x plan m i rs ≡ ranges_behind t t' x plan m2 (m1 + i) (ranges_behind t t' x plan m1 i rs)
  unfolding ranges_behind
  behind_split zero m2 m i rs e =
      let a : m ≡ m2 = omega arith in
      let b : i ≡ 0 + i = omega arith in
      ap (λ z. ranges_behind t t' x plan z i rs) a ∙ ap (λ z. ranges_behind t t' x plan m2 z rs) b
  behind_split (suc m1) m2 zero i rs e = absurd (omega arith)
  behind_split (suc m1) m2 (suc m) i rs e =
      let a : m1 + suc i ≡ suc m1 + i = omega arith in
      behind_split m1 m2 m (suc i) (settle t t' x plan i rs) (omega arith) ∙ ap (λ z. ranges_behind t t' x plan m2 z (ranges_behind t t' x plan m1 (suc i) (settle t t' x plan i rs))) a
