-- The data buffers of views, by node and source. Assumes nothing.
use mathlib.Core.Path.{◌≡◌, refl, sym, ap, ap₂, ◌∙◌}
use mathlib.Core.Bool.{Bool, true, false, cond}
use mathlib.Core.List.{List, [], ◌++◌}
use Prim.Native.Nat.{ℕ, zero, suc, ◌+◌, ◌*◌, ◌≤◌, ◌<◌, min}
use native.Mathlib.Decide.{dec_lt}
use native.Mathlib.Numerals.{add-one}
use native.Mathlib.Omega.{arith}
use lib.ListN.{length, get_or}
use Rattle.schema.specs.formats.Code.{is_view}
use Rattle.columnar.specs.Row.{seg}
use Rattle.walk.specs.State.{code_of, place}
use Rattle.array_data.specs.Sources.{first_of}
use Rattle.refinement.specs.orders.Order.{Lent, join_of, source_count}
use Rattle.plan.specs.Plan as settles
use Rattle.refinement.specs.finishing.Finish.{data_count, buffers_of, buffers_before, buffers_from, buffers_up_to}
use Rattle.into_builder.specs.buffers.Names.{lent, count_at, count_before, names_at, names_before, Behind}
use Rattle.into_builder.proofs.buffers.Written.{behind_none, behind_then, behind_all}

-- ---- they depend on the plan, the sources and their places alone

pub of_is : (x : Lent) (bs c r : List ℕ) (b i s : ℕ) → buffers_of x bs c r b i s ≡ settles.buffers_up_to x.places x.sources i s
unfolding buffers_of settles.buffers_up_to
of_is x bs c r b i zero = refl
of_is x bs c r b i (suc s) = ap (λ k. k + min (get_or x.places (9 * (first_of x.sources s + i) + 8) 0) 33) (of_is x bs c r b i s)

module _ (x : Lent) (bs c r : List ℕ) (b : ℕ) where
  pub of_same : (i s : ℕ) → buffers_of x bs c r b i s ≡ buffers_of (lent x.plan [] x.sources [] x.places []) [] [] [] 0 i s
  of_same i s = of_is x bs c r b i s ∙ sym (of_is (lent x.plan [] x.sources [] x.places []) [] [] [] 0 i s)

  pub before_same : (n : ℕ) → buffers_before x bs c r b n ≡ count_before x.plan x.sources x.places n
  unfolding buffers_before
  before_same zero = refl
  before_same (suc n) =
      ap₂ (λ k l. k + cond (is_view (code_of x.plan n)) l 0) (before_same n) (of_same n (min (source_count x.plan) 16))

  from_same : (i s : ℕ) → buffers_from x bs c r b i s ≡ buffers_from (lent x.plan [] x.sources [] x.places []) bs [] [] 0 i s
  unfolding buffers_from
  from_same i zero = refl
  from_same i (suc s) =
      ap (λ l. l ++ seg (λ q. get_or bs q 0) (2 * place (join_of x s) i 7) (2 * min (place (join_of x s) i 8) 33)) (from_same i s)

  pub names_same : (n : ℕ) → buffers_up_to x bs c r b n ≡ names_before x.plan x.sources x.places bs n
  unfolding buffers_up_to
  names_same zero = refl
  names_same (suc n) =
      ap₂ (λ k l. k ++ cond (is_view (code_of x.plan n)) l []) (names_same n) (from_same n (min (source_count x.plan) 16))

module _ (plan sources places : List ℕ) where
  abbrev x : Lent
  x = lent plan [] sources [] places []

  -- ---- how many

  pub count_none : (i : ℕ) {c : ℕ} {v : Bool} → c ≡ code_of plan i → v ≡ is_view c → v ≡ false → count_at plan sources places i ≡ 0
  count_none i e f h = rw (← e, ← f, h)

  pub count_some : (i : ℕ) {c m r : ℕ} {v : Bool} → c ≡ code_of plan i → v ≡ is_view c → v ≡ true → m ≡ min (source_count plan) 16
      → r ≡ settles.buffers_up_to places sources i m → r ≡ count_at plan sources places i
  count_some i {m = m} e f h k g =
      let q : is_view (code_of plan i) ≡ true = sym (f ∙ ap is_view e) ∙ h in
      rw q (g ∙ ap (settles.buffers_up_to places sources i) k ∙ sym (of_is x [] [] [] 0 i (min (source_count plan) 16)))

  pub count_is : (i : ℕ) {c : ℕ} {v : Bool} → c ≡ code_of plan i → v ≡ is_view c → v ≡ true
      → count_at plan sources places i ≡ buffers_of x [] [] [] 0 i (min (source_count plan) 16)
  count_is i e f h = let q : is_view (code_of plan i) ≡ true = sym (f ∙ ap is_view e) ∙ h in rw q

  pub before_none : count_before plan sources places 0 ≡ 0
  unfolding buffers_before
  before_none = refl

  pub before_more : (i : ℕ) → count_before plan sources places (i + 1) ≡ count_before plan sources places i + count_at plan sources places i
  unfolding buffers_before
  before_more i = rw (add-one i)

  -- those of node i are among those before node n
  pub before_within : (i n : ℕ) → i < n → count_before plan sources places i + count_at plan sources places i ≤ count_before plan sources places n
  unfolding buffers_before
  before_within i zero l = absurd (omega arith)
  before_within i (suc n) l = go (dec_lt i n) (before_within i n)
    where
      go : Dec (i < n) → (i < n → count_before plan sources places i + count_at plan sources places i ≤ count_before plan sources places n)
          → count_before plan sources places i + count_at plan sources places i ≤ count_before plan sources places n + count_at plan sources places n
      go (yes y) f = let h = f y in omega arith
      go (no y) f = let e : i ≡ n = omega arith in rw e (omega arith)

  -- those of source s are among those of the first m
  pub of_within : (i s m : ℕ) → s < m → buffers_of x [] [] [] 0 i s + data_count x [] [] [] 0 i s ≤ buffers_of x [] [] [] 0 i m
  unfolding buffers_of
  of_within i s zero l = absurd (omega arith)
  of_within i s (suc m) l = go (dec_lt s m) (of_within i s m)
    where
      go : Dec (s < m) → (s < m → buffers_of x [] [] [] 0 i s + data_count x [] [] [] 0 i s ≤ buffers_of x [] [] [] 0 i m)
          → buffers_of x [] [] [] 0 i s + data_count x [] [] [] 0 i s ≤ buffers_of x [] [] [] 0 i m + data_count x [] [] [] 0 i m
      go (yes y) f = let h = f y in omega arith
      go (no y) f = let e : s ≡ m = omega arith in rw e (omega arith)

  pub of_none : (i : ℕ) → buffers_of x [] [] [] 0 i 0 ≡ 0
  unfolding buffers_of
  of_none i = refl

  pub of_more : (i s : ℕ) → buffers_of x [] [] [] 0 i (s + 1) ≡ buffers_of x [] [] [] 0 i s + data_count x [] [] [] 0 i s
  unfolding buffers_of
  of_more i s = rw (add-one s)

  -- ---- which

  module _ (bs : List ℕ) where
    abbrev Sources : List ℕ → List ℕ → ℕ → ℕ → ℕ → Type 0
    Sources l m at i s = Behind l m at (2 * buffers_of x [] [] [] 0 i s) (buffers_from x bs [] [] 0 i s)

    pub sources_none : (l : List ℕ) (at i : ℕ) → Sources l l at i 0
    unfolding buffers_of buffers_from
    sources_none l at i = behind_none l at

    pub sources_more : (i s : ℕ) {l m n : List ℕ} {at k end from count : ℕ} → Sources l m at i s → end ≡ at + 2 * buffers_of x [] [] [] 0 i s
        → k ≡ first_of sources s + i → from ≡ get_or places (9 * k + 7) 0 → count ≡ min (get_or places (9 * k + 8) 0) 33
        → Behind m n end (2 * count) (seg (λ q. get_or bs q 0) (2 * from) (2 * count)) → Sources l n at i (s + 1)
    unfolding buffers_of buffers_from
    sources_more i s {l} {m} {n} {at} {k} {end} {from} {count} b e f g h d =
        let p : from ≡ place (join_of x s) i 7 = g ∙ ap (λ a. get_or places (9 * a + 7) 0) f in
        let q : count ≡ data_count x [] [] [] 0 i s = h ∙ ap (λ a. min (get_or places (9 * a + 8) 0) 33) f in
        let t : 2 * buffers_of x [] [] [] 0 i s + 2 * data_count x [] [] [] 0 i s ≡ 2 * (buffers_of x [] [] [] 0 i s + data_count x [] [] [] 0 i s) = omega arith in
        let d2 : Behind m n (at + 2 * buffers_of x [] [] [] 0 i s) (2 * data_count x [] [] [] 0 i s) (seg (λ a. get_or bs a 0) (2 * place (join_of x s) i 7) (2 * data_count x [] [] [] 0 i s)) = rw (e, p, q) at d in
        rw (add-one s, ← t) (behind_then b d2)

    pub sources_all : (i : ℕ) {l m : List ℕ} {at s t : ℕ} → s ≡ t → Sources l m at i s → Sources l m at i t
    sources_all i e b = rw e at b

    pub node_not : (i : ℕ) {c : ℕ} {v : Bool} (l : List ℕ) (at : ℕ) → c ≡ code_of plan i → v ≡ is_view c → v ≡ false
        → Behind l l at (2 * count_at plan sources places i) (names_at plan sources places bs i)
    node_not i l at e f h = rw (← e, ← f, h) (behind_none l at)

    pub node_is : (i : ℕ) {c : ℕ} {v : Bool} {l m : List ℕ} {at : ℕ} → c ≡ code_of plan i → v ≡ is_view c → v ≡ true → Sources l m at i (min (source_count plan) 16)
        → Behind l m at (2 * count_at plan sources places i) (names_at plan sources places bs i)
    node_is i e f h b = let q : is_view (code_of plan i) ≡ true = sym (f ∙ ap is_view e) ∙ h in rw q b

    abbrev Nodes : List ℕ → List ℕ → ℕ → Type 0
    Nodes l m i = Behind l m 0 (2 * count_before plan sources places i) (names_before plan sources places bs i)

    pub nodes_none : (l : List ℕ) → Nodes l l 0
    unfolding buffers_before buffers_up_to
    nodes_none l = behind_none l 0

    pub nodes_more : (i : ℕ) {l m n : List ℕ} {at : ℕ} → Nodes l m i → at ≡ 2 * count_before plan sources places i
        → Behind m n at (2 * count_at plan sources places i) (names_at plan sources places bs i) → Nodes l n (i + 1)
    unfolding buffers_before buffers_up_to
    nodes_more i {l} {m} {n} {at} b e d =
        let t : 2 * count_before plan sources places i + 2 * count_at plan sources places i ≡ 2 * (count_before plan sources places i + count_at plan sources places i) = omega arith in
        let z : at ≡ 0 + 2 * count_before plan sources places i = omega arith in
        let d2 : Behind m n (0 + 2 * count_before plan sources places i) (2 * count_at plan sources places i) (names_at plan sources places bs i) = rw z at d in
        rw (add-one i, ← t) (behind_then b d2)

    pub nodes_all : {l m : List ℕ} {i n : ℕ} → i ≡ n → length l ≡ 2 * count_before plan sources places n → Nodes l m i → m ≡ names_before plan sources places bs n
    nodes_all {l} {m} {i} {n} e h b = let d : Nodes l m n = rw e at b in behind_all d (omega arith)
