-- The three counters of one node. Assumes nothing.
use mathlib.Core.Path.{◌≡◌, refl, sym, ap, subst, ◌∙◌}
use mathlib.Core.Bool.{Bool, true, false}
use mathlib.Core.List.{List, [], ◌∷◌}
use Prim.Native.Nat.{ℕ, zero, suc, ◌+◌, ◌*◌, ◌≤◌, ◌<◌}
use native.Mathlib.Omega.{arith}
use lib.ListN.{length, get_or, set, length-set}
use lib.Seq.{get_or-set_same, get_or-set_other, ext_get_or}
use lib.Dec.{eqb}
use borrow.Author.Tests.{eqb-true, eqb-false}
use Rattle.walk.specs.State.{rows, nulls, bytes, top, grown, add_rows, add_nulls, set_bytes}

-- 96 counters of 64 bits
pub record Counts (c : List ℕ) : Type 0 where
  pub long : length c ≡ 96
  pub small : (q : ℕ) → get_or c q 0 ≤ top

-- n rows, z nulls and d bytes more at node k
abbrev pub tally : ℕ → ℕ → ℕ → ℕ → List ℕ → List ℕ
tally k n z d c = add_rows k n (set_bytes k (bytes c k + d) (add_nulls k z c))

-- a counter of no node but k
abbrev pub Else : ℕ → ℕ → Type 0
Else k q = (q ≡ 3 * k → ⊥) × (q ≡ 3 * k + 1 → ⊥) × (q ≡ 3 * k + 2 → ⊥)

-- counters are those of node k, or none of them
pub at_node : (k q : ℕ) (P : ℕ → Type 0) → P (3 * k) → P (3 * k + 1) → P (3 * k + 2) → (Else k q → P q) → P q
at_node k q P a b d e = go (eqb q (3 * k)) refl (eqb q (3 * k + 1)) refl (eqb q (3 * k + 2)) refl
  where
    go : (s : Bool) → eqb q (3 * k) ≡ s → (t : Bool) → eqb q (3 * k + 1) ≡ t → (u : Bool) → eqb q (3 * k + 2) ≡ u → P q
    go true f t g u h = rw (eqb-true q (3 * k) f) a
    go false f true g u h = rw (eqb-true q (3 * k + 1) g) b
    go false f false g true h = rw (eqb-true q (3 * k + 2) h) d
    go false f false g false h = e (eqb-false q (3 * k) f, eqb-false q (3 * k + 1) g, eqb-false q (3 * k + 2) h)

pub set_same : (l : List ℕ) (q v : ℕ) → get_or l q 0 ≡ v → set l q v ≡ l
set_same [] q v h = refl
set_same (y ∷ l) zero v h = ap (λ z. z ∷ l) (sym h)
set_same (y ∷ l) (suc q) v h = ap (λ z. y ∷ z) (set_same l q v h)

module _ (k n z d : ℕ) (c : List ℕ) where
  pub tally_long : length (tally k n z d c) ≡ length c
  tally_long =
      length-set (set_bytes k (bytes c k + d) (add_nulls k z c)) (3 * k) (grown (rows (set_bytes k (bytes c k + d) (add_nulls k z c)) k) n)
      ∙ length-set (add_nulls k z c) (3 * k + 2) (bytes c k + d)
      ∙ length-set c (3 * k + 1) (grown (nulls c k) z)

  pub tally_else : (q : ℕ) → Else k q → get_or (tally k n z d c) q 0 ≡ get_or c q 0
  tally_else q e =
      get_or-set_other (set_bytes k (bytes c k + d) (add_nulls k z c)) (3 * k) q (grown (rows (set_bytes k (bytes c k + d) (add_nulls k z c)) k) n) 0 e.0
      ∙ get_or-set_other (add_nulls k z c) (3 * k + 2) q (bytes c k + d) 0 e.2
      ∙ get_or-set_other c (3 * k + 1) q (grown (nulls c k) z) 0 e.1

  module _ (long : length c ≡ 96) (small : k < 32) where
    long_nulls : length (add_nulls k z c) ≡ 96
    long_nulls = length-set c (3 * k + 1) (grown (nulls c k) z) ∙ long

    long_bytes : length (set_bytes k (bytes c k + d) (add_nulls k z c)) ≡ 96
    long_bytes = length-set (add_nulls k z c) (3 * k + 2) (bytes c k + d) ∙ long_nulls

    pub tally_rows : rows (tally k n z d c) k ≡ grown (rows c k) n
    tally_rows =
        get_or-set_same (set_bytes k (bytes c k + d) (add_nulls k z c)) (3 * k) (grown (rows (set_bytes k (bytes c k + d) (add_nulls k z c)) k) n) 0 (omega (arith, long_bytes))
        ∙ ap (λ v. grown v n)
        (get_or-set_other (add_nulls k z c) (3 * k + 2) (3 * k) (bytes c k + d) 0 (λ (e : 3 * k ≡ 3 * k + 2). omega arith)
        ∙ get_or-set_other c (3 * k + 1) (3 * k) (grown (nulls c k) z) 0 (λ (e : 3 * k ≡ 3 * k + 1). omega arith))

    pub tally_nulls : nulls (tally k n z d c) k ≡ grown (nulls c k) z
    tally_nulls =
        get_or-set_other (set_bytes k (bytes c k + d) (add_nulls k z c)) (3 * k) (3 * k + 1) (grown (rows (set_bytes k (bytes c k + d) (add_nulls k z c)) k) n) 0 (λ (e : 3 * k + 1 ≡ 3 * k). omega arith)
        ∙ get_or-set_other (add_nulls k z c) (3 * k + 2) (3 * k + 1) (bytes c k + d) 0 (λ (e : 3 * k + 1 ≡ 3 * k + 2). omega arith)
        ∙ get_or-set_same c (3 * k + 1) (grown (nulls c k) z) 0 (omega arith)

    pub tally_bytes : bytes (tally k n z d c) k ≡ bytes c k + d
    tally_bytes =
        get_or-set_other (set_bytes k (bytes c k + d) (add_nulls k z c)) (3 * k) (3 * k + 2) (grown (rows (set_bytes k (bytes c k + d) (add_nulls k z c)) k) n) 0 (λ (e : 3 * k + 2 ≡ 3 * k). omega arith)
        ∙ get_or-set_same (add_nulls k z c) (3 * k + 2) (bytes c k + d) 0 (omega (arith, long_nulls))

    pub tally_counters : Counts c → bytes c k + d ≤ top → Counts (tally k n z d c)
    unfolding grown
    tally_counters f h =
        record {
          long = tally_long ∙ long;
          small = λ q. at_node k q (λ p. get_or (tally k n z d c) p 0 ≤ top) (let e = tally_rows in omega arith) (let e = tally_nulls in omega arith)
              (let e = tally_bytes in omega arith) (λ e. let g = tally_else q e in let s = f.small q in omega arith);
        }

-- the same counters
pub counters_same : (k : ℕ) (c d : List ℕ) → length c ≡ length d → rows c k ≡ rows d k → nulls c k ≡ nulls d k → bytes c k ≡ bytes d k
    → ((q : ℕ) → Else k q → get_or c q 0 ≡ get_or d q 0) → c ≡ d
counters_same k c d l a b e f = ext_get_or 0 c d l (λ q h. at_node k q (λ p. get_or c p 0 ≡ get_or d p 0) a b e (λ g. f q g))

module _ (k : ℕ) (small : k < 32) (c : List ℕ) (f : Counts c) where
  -- nothing more
  pub tally_none : tally k 0 0 0 c ≡ c
  unfolding grown
  tally_none =
      let r = tally_rows k 0 0 0 c f.long small in
      let n = tally_nulls k 0 0 0 c f.long small in
      let b = tally_bytes k 0 0 0 c f.long small in
      let s = f.small (3 * k) in
      let t = f.small (3 * k + 1) in
      counters_same k (tally k 0 0 0 c) c (tally_long k 0 0 0 c) (omega arith) (omega arith) (omega arith) (λ q e. tally_else k 0 0 0 c q e)

  -- one after the other
  pub tally_twice : (n z d m y e : ℕ) → tally k m y e (tally k n z d c) ≡ tally k (n + m) (z + y) (d + e) c
  unfolding grown
  tally_twice n z d m y e =
      let l = tally_long k n z d c ∙ f.long in
      let one = tally k n z d c in
      let r = tally_rows k n z d c f.long small in
      let u = tally_nulls k n z d c f.long small in
      let b = tally_bytes k n z d c f.long small in
      let r2 = tally_rows k m y e one l small in
      let u2 = tally_nulls k m y e one l small in
      let b2 = tally_bytes k m y e one l small in
      let r3 = tally_rows k (n + m) (z + y) (d + e) c f.long small in
      let u3 = tally_nulls k (n + m) (z + y) (d + e) c f.long small in
      let b3 = tally_bytes k (n + m) (z + y) (d + e) c f.long small in
      counters_same k (tally k m y e one) (tally k (n + m) (z + y) (d + e) c)
      (tally_long k m y e one ∙ tally_long k n z d c ∙ sym (tally_long k (n + m) (z + y) (d + e) c)) (omega arith) (omega arith) (omega arith)
      (λ q g. tally_else k m y e one q g ∙ tally_else k n z d c q g ∙ sym (tally_else k (n + m) (z + y) (d + e) c q g))

-- two nodes, either first
pub tally_swap : (k h : ℕ) → k < 32 → h < 32 → (h ≡ k → ⊥) → (c : List ℕ) → length c ≡ 96 → (n z d m y e : ℕ)
    → tally k n z d (tally h m y e c) ≡ tally h m y e (tally k n z d c)
tally_swap k h a b ne c l n z d m y e =
    ext_get_or 0 (tally k n z d H) (tally h m y e L)
    (tally_long k n z d H ∙ tally_long h m y e c ∙ sym (tally_long h m y e L ∙ tally_long k n z d c))
    (λ q u. at_node k q (λ p. get_or (tally k n z d H) p 0 ≡ get_or (tally h m y e L) p 0)
    (tally_rows k n z d H lh a ∙ ap (λ v. grown v n) (tally_else h m y e c (3 * k) o0) ∙ sym (tally_else h m y e L (3 * k) o0 ∙ tally_rows k n z d c l a))
    (tally_nulls k n z d H lh a ∙ ap (λ v. grown v z) (tally_else h m y e c (3 * k + 1) o1) ∙ sym (tally_else h m y e L (3 * k + 1) o1 ∙ tally_nulls k n z d c l a))
    (tally_bytes k n z d H lh a ∙ ap (λ v. v + d) (tally_else h m y e c (3 * k + 2) o2) ∙ sym (tally_else h m y e L (3 * k + 2) o2 ∙ tally_bytes k n z d c l a))
    (λ g. at_node h q (λ p. Else k p → get_or (tally k n z d H) p 0 ≡ get_or (tally h m y e L) p 0)
    (λ f. tally_else k n z d H (3 * h) f ∙ tally_rows h m y e c l b ∙ sym (tally_rows h m y e L ll b ∙ ap (λ v. grown v m) (tally_else k n z d c (3 * h) f)))
    (λ f. tally_else k n z d H (3 * h + 1) f ∙ tally_nulls h m y e c l b ∙ sym (tally_nulls h m y e L ll b ∙ ap (λ v. grown v y) (tally_else k n z d c (3 * h + 1) f)))
    (λ f. tally_else k n z d H (3 * h + 2) f ∙ tally_bytes h m y e c l b ∙ sym (tally_bytes h m y e L ll b ∙ ap (λ v. v + e) (tally_else k n z d c (3 * h + 2) f)))
    (λ i f. tally_else k n z d H q f ∙ tally_else h m y e c q i ∙ sym (tally_else h m y e L q i ∙ tally_else k n z d c q f)) g))
  where
    H : List ℕ
    H = tally h m y e c

    L : List ℕ
    L = tally k n z d c

    lh : length H ≡ 96
    lh = tally_long h m y e c ∙ l

    ll : length L ≡ 96
    ll = tally_long k n z d c ∙ l

    o0 : Else h (3 * k)
    o0 = (λ (q : 3 * k ≡ 3 * h). ne (omega arith), λ (q : 3 * k ≡ 3 * h + 1). omega arith, λ (q : 3 * k ≡ 3 * h + 2). omega arith)

    o1 : Else h (3 * k + 1)
    o1 = (λ (q : 3 * k + 1 ≡ 3 * h). omega arith, λ (q : 3 * k + 1 ≡ 3 * h + 1). ne (omega arith), λ (q : 3 * k + 1 ≡ 3 * h + 2). omega arith)

    o2 : Else h (3 * k + 2)
    o2 = (λ (q : 3 * k + 2 ≡ 3 * h). omega arith, λ (q : 3 * k + 2 ≡ 3 * h + 1). omega arith, λ (q : 3 * k + 2 ≡ 3 * h + 2). ne (omega arith))

-- ---- rows alone

pub rows_alone : (j m : ℕ) (c : List ℕ) → Counts c → tally j m 0 0 c ≡ add_rows j m c
unfolding grown
rows_alone j m c f =
    let s = f.small (3 * j + 1) in
    let e : add_nulls j 0 c ≡ c = set_same c (3 * j + 1) (grown (nulls c j) 0) (omega arith) in
    let g : set_bytes j (bytes c j + 0) c ≡ c = set_same c (3 * j + 2) (bytes c j + 0) (omega arith) in
    ap (λ y. add_rows j m (set_bytes j (bytes c j + 0) y)) e ∙ ap (add_rows j m) g

pub rows_counters : (j m : ℕ) (c : List ℕ) → j < 32 → Counts c → Counts (add_rows j m c)
rows_counters j m c h f =
    let s = f.small (3 * j + 2) in
    subst Counts (rows_alone j m c f) (tally_counters j m 0 0 c f.long h f (omega arith))

pub rows_none : (k : ℕ) (c : List ℕ) → k < 32 → Counts c → add_rows k 0 c ≡ c
rows_none k c h f = sym (rows_alone k 0 c f) ∙ tally_none k h c f

pub rows_twice : (k m s : ℕ) (c : List ℕ) → k < 32 → Counts c → add_rows k s (add_rows k m c) ≡ add_rows k (m + s) c
rows_twice k m s c h f =
    sym (rows_alone k s (add_rows k m c) (rows_counters k m c h f))
    ∙ ap (tally k s 0 0) (sym (rows_alone k m c f))
    ∙ tally_twice k h c f m 0 0 s 0 0
    ∙ rows_alone k (m + s) c f

-- rows of another node, either first
pub tally_frame : (k j : ℕ) → k < 32 → j < 32 → (j ≡ k → ⊥) → (n z d m : ℕ) (c : List ℕ) → Counts c → Counts (tally k n z d c)
    → tally k n z d (add_rows j m c) ≡ add_rows j m (tally k n z d c)
tally_frame k j a b ne n z d m c f g =
    ap (tally k n z d) (sym (rows_alone j m c f)) ∙ tally_swap k j a b ne c f.long n z d m 0 0 ∙ rows_alone j m (tally k n z d c) g

pub rows_either : (k j : ℕ) → k < 32 → j < 32 → (j ≡ k → ⊥) → (n m : ℕ) (c : List ℕ) → Counts c → add_rows k n (add_rows j m c) ≡ add_rows j m (add_rows k n c)
rows_either k j a b ne n m c f =
    let e = rows_alone k n c f in
    sym (rows_alone k n (add_rows j m c) (rows_counters j m c b f))
    ∙ tally_frame k j a b ne n 0 0 m c f (subst Counts (sym e) (rows_counters k n c a f))
    ∙ ap (add_rows j m) e
