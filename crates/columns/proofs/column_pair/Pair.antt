-- What the grounds of two columns mean, and the type of a column of one node. Assumes nothing.
use mathlib.Core.Path.{◌≡◌, refl, sym, ap, subst, ◌∙◌}
use mathlib.Core.Bool.{Bool, true, false, cond, ◌&&◌, false≢true}
use mathlib.Core.List.{List}
use Prim.Native.Nat.{ℕ, zero, suc, ◌+◌, ◌≤◌, ◌<◌}
use native.Mathlib.Omega.{arith}
use lib.Dec.{leb, ltb, eqb}
use borrow.Author.Tests.{eqb-true, eqb-false, ltb-true, ltb-false, leb-true, leb-false, eq-eqb, ne_eqb, lt-ltb, le-ltb, le-leb, lt-leb}
use Rattle.columnar.specs.Types.{fixed, t_plain}
use Rattle.schema.specs.formats.Code.{is_fixed}
use Rattle.schema.specs.formats.Types.{number_of, number_or}
use Rattle.schema.proofs.Due.{due_from, whole_is}
use Rattle.schema.specs.Tree.{shape, dictionary, below, end_of, whole, code_of, typed}
use Rattle.array_data.specs.Tables.{Tables, length_of}
use Rattle.array_data.specs.NodeKinds.{kind_at}
use Rattle.array_data.specs.type_tree.Lent.{tree_of, type_of}
use Rattle.array_data.proofs.lent_tables.Laws.{and_left, and_right}
use Rattle.array_data.proofs.type_tree.ByKind.{type_by_lem}
use Rattle.columns.specs.Grounds.{small_body, within_ceilings, obeys, column_ground}
use Rattle.columns.specs.column_pair.Pair.{pair_ground, plain_code, range_in}
use Rattle.columnar.specs.Test.{every}

-- ---- two columns

first_of_lem : (s w v t u o p : Bool)
    → pair_ground (cond (s && w) (cond t (cond o 0 12) 10) 9) (cond (s && v) (cond u (cond p 0 12) 10) 9)
    ≡ cond (s && (w && v)) (cond (t && u) (cond (o && p) 0 12) 10) 9
unfolding pair_ground
first_of_lem false w v t u o p = refl
first_of_lem true false false t u o p = refl
first_of_lem true false true t false o p = refl
first_of_lem true false true t true o false = refl
first_of_lem true false true t true o true = refl
first_of_lem true true false false u o p = refl
first_of_lem true true false true u false p = refl
first_of_lem true true false true u true p = refl
first_of_lem true true true false false o p = refl
first_of_lem true true true false true o false = refl
first_of_lem true true true false true o true = refl
first_of_lem true true true true false false p = refl
first_of_lem true true true true false true p = refl
first_of_lem true true true true true false false = refl
first_of_lem true true true true true false true = refl
first_of_lem true true true true true true false = refl
first_of_lem true true true true true true true = refl

-- EACH GROUND IS ASKED OF BOTH COLUMNS BEFORE THE NEXT: 9 of either, then 10 of either, then 12 of either
pub pair_first : (formats schema : List ℕ) (x : Tables) (a n b m : ℕ)
    → pair_ground (column_ground formats schema x a n) (column_ground formats schema x b m)
    ≡ cond (small_body x.body && (within_ceilings formats schema x a n && within_ceilings formats schema x b m))
    (cond (typed formats schema a n && typed formats schema b m)
    (cond (obeys formats schema x a n && obeys formats schema x b m) 0 12)
    10)
    9
unfolding column_ground
pair_first formats schema x a n b m =
    first_of_lem (small_body x.body) (within_ceilings formats schema x a n) (within_ceilings formats schema x b m) (typed formats schema a n) (typed formats schema b m) (obeys formats schema x a n) (obeys formats schema x b m)

-- none stands exactly where neither column has one
pub pair_none : (g h : ℕ) → pair_ground g h ≡ 0 → (g ≡ 0) × (h ≡ 0)
unfolding pair_ground
pair_none g h = go (eqb g 0) refl (eqb h 0) refl (ltb h g)
  where
    go : (a : Bool) → eqb g 0 ≡ a → (b : Bool) → eqb h 0 ≡ b → (d : Bool) → cond a h (cond b g (cond d h g)) ≡ 0 → (g ≡ 0) × (h ≡ 0)
    go true p b q d e = (eqb-true g 0 p, e)
    go false p true q d e = absurd (eqb-false g 0 p e)
    go false p false q true e = absurd (eqb-false h 0 q e)
    go false p false q false e = absurd (eqb-false g 0 p e)

-- ---- a column of one node

module _ (formats schema : List ℕ) (first n : ℕ) where
  pub plain_one : (c : ℕ) → plain_code formats schema first n ≡ c → 0 < c → (n ≡ 1) × (code_of formats schema first 0 ≡ c)
  unfolding plain_code
  plain_one c e l = go (eqb n 1) refl e
    where
      go : (b : Bool) → eqb n 1 ≡ b → cond b (code_of formats schema first 0) 0 ≡ c → (n ≡ 1) × (code_of formats schema first 0 ≡ c)
      go true d h = (eqb-true n 1 d, h)
      go false d h = absurd (omega (arith, h))

nothing_below : (schema : List ℕ) (first : ℕ) → whole schema first 1 ≡ true → below schema first 0 ≡ 0
unfolding due_from
nothing_below schema first h =
    let e = eqb-true (0 + below schema first 0) 0 (and_left (eqb (0 + below schema first 0) 0) (eqb (end_of schema first 1 0) 1) (sym (whole_is schema first 1) ∙ h)) in
    omega (arith, e)

no_dictionary : (schema : List ℕ) (first : ℕ) → below schema first 0 ≡ 0 → eqb (dictionary schema first 0) 0 ≡ true
unfolding below
no_dictionary schema first = go (eqb (dictionary schema first 0) 0) (Rattle.schema.specs.Tree.children schema first 0)
  where
    go : (b : Bool) (k : ℕ) → k + cond b 0 1 ≡ 0 → b ≡ true
    go true k h = refl
    go false k h = absurd (omega (arith, h))

typed_whole : (formats schema : List ℕ) (first n : ℕ) → typed formats schema first n ≡ true → whole schema first n ≡ true
unfolding typed
typed_whole formats schema first n h = and_left (whole schema first n) (every (shape formats schema first) n) h

-- ITS TYPE is that of its code
pub plain_type : (formats schema : List ℕ) (first n : ℕ) → typed formats schema first n ≡ true
    → (c : ℕ) → plain_code formats schema first n ≡ c → is_fixed c ≡ true → type_of formats schema first n ≡ t_plain (fixed (number_or (number_of c)))
unfolding kind_at
plain_type formats schema first n t c e f =
    let l : 1 ≤ c = leb-true 1 c (and_left (leb 1 c) (leb c 10) f) in
    let o = plain_one formats schema first n c e (omega arith) in
    let w : whole schema first 1 ≡ true = subst (λ k. whole schema first k ≡ true) o.0 (typed_whole formats schema first n t) in
    let d = no_dictionary schema first (nothing_below schema first w) in
    type_by_lem (tree_of formats schema first n) 7 0 ∙ rw (o.1, f, d)

-- ---- a range of rows

module _ (x : Tables) (k start end : ℕ) where
  pub range_known : range_in x k start end ≡ true → (start ≤ end) × (end ≤ length_of x k)
  unfolding range_in
  range_known h = (
    leb-true start end (and_left (leb start end) (leb end (length_of x k)) h),
    leb-true end (length_of x k) (and_right (leb start end) (leb end (length_of x k)) h),
  )

  pub range_falls : end < start → false ≡ range_in x k start end
  unfolding range_in
  range_falls h = rw (lt-leb start end h)

  pub range_rises : start ≤ end → (len : ℕ) → len ≡ length_of x k → leb end len ≡ range_in x k start end
  unfolding range_in
  range_rises h len e = rw (le-leb start end h, e)

-- ---- what the code answers

module _ (g h : ℕ) where
  pub ground_left : g ≡ 0 → h ≡ pair_ground g h
  unfolding pair_ground
  ground_left e = rw (eq-eqb g 0 e)

  pub ground_right : (g ≡ 0 → ⊥) → h ≡ 0 → g ≡ pair_ground g h
  unfolding pair_ground
  ground_right e d = rw (ne_eqb g 0 e, eq-eqb h 0 d)

  pub ground_lesser : (g ≡ 0 → ⊥) → (h ≡ 0 → ⊥) → h < g → h ≡ pair_ground g h
  unfolding pair_ground
  ground_lesser e d l = rw (ne_eqb g 0 e, ne_eqb h 0 d, lt-ltb h g l)

  pub ground_other : (g ≡ 0 → ⊥) → (h ≡ 0 → ⊥) → g ≤ h → g ≡ pair_ground g h
  unfolding pair_ground
  ground_other e d l = rw (ne_eqb g 0 e, ne_eqb h 0 d, le-ltb h g l)
