-- A run of entries in use: one order copies what copies one by one do. Assumes nothing.
use mathlib.Core.Path.{◌≡◌, refl, sym, ap, subst, ◌∙◌}
use mathlib.Core.Bool.{Bool, true, false, cond}
use mathlib.Core.List.{List, [], ◌∷◌, ◌++◌}
use Prim.Native.Nat.{ℕ, zero, suc, ◌+◌, ◌-◌, ◌≤◌, max}
use native.Mathlib.Nat.{add-zero, sub-zero}
use native.Mathlib.Numerals.{add-one}
use native.Mathlib.Omega.{arith}
use Rattle.columnar.specs.Row.{seg}
use Rattle.columnar.specs.Types.{Plain, t_plain}
use Rattle.columnar.specs.Array.{Array, Obeys}
use Rattle.columnar.specs.Plain.{PlainBody, PlainRule}
use Rattle.model.specs.Try.{Try, done}
use Rattle.model.specs.Mutable.{Mutable, extend_node}
use Rattle.model.specs.Primitive.{plain_extend}
use Rattle.model.proofs.Law.{Fine}
use Rattle.model.proofs.Nodes.{kind_of}
use Rattle.model.proofs.Node.{node_copies}
use Rattle.model.proofs.Types.{law}
use Rattle.model.proofs.CutTries.{then_done, then_is}
use Rattle.model.proofs.CutBytes.{SameNode, node_seam, seams}
use Rattle.refinement.proofs.walk_is_model.UnionFields.{agrees_value}
use Rattle.walk.specs.State.{Join}
use Rattle.anew.specs.runs.Runs.{those}
use Rattle.anew.specs.entries.Reclaimed.{copy_each}
use Rattle.reclaim.specs.used_entries.Keys.{used}
use Rattle.reclaim.specs.reclaim_walk.Walk.{keys_of, run_of}

-- k entries from e on
abbrev pub stretch : ℕ → ℕ → List ℕ
stretch e k = seg (λ z. z) e k

-- ---- the entries in use, run by run

module _ (y : Join) where
  abbrev u : ℕ → Bool
  u = used (keys_of y)

  pub run_within : (n e : ℕ) → run_of y e n ≤ n
  unfolding run_of
  run_within zero e = omega arith
  run_within (suc n) e = go (u e) (run_within n (suc e))
    where
      go : (b : Bool) → run_of y (suc e) n ≤ n → cond b (suc (run_of y (suc e) n)) 0 ≤ suc n
      go true h = omega (arith, h)
      go false h = omega arith

  run_split : (n e : ℕ) → those u e n ≡ stretch e (run_of y e n) ++ those u (e + run_of y e n) (n - run_of y e n)
  unfolding run_of
  run_split zero e = refl
  run_split (suc n) e = go (u e) refl (run_split n (suc e))
    where
      go : (b : Bool) → u e ≡ b → those u (suc e) n ≡ stretch (suc e) (run_of y (suc e) n) ++ those u (suc e + run_of y (suc e) n) (n - run_of y (suc e) n)
          → cond b (e ∷ those u (suc e) n) (those u (suc e) n)
          ≡ stretch e (cond b (suc (run_of y (suc e) n)) 0) ++ those u (e + cond b (suc (run_of y (suc e) n)) 0) (suc n - cond b (suc (run_of y (suc e) n)) 0)
      go true q h =
          let a : suc e + run_of y (suc e) n ≡ e + suc (run_of y (suc e) n) = omega arith in
          let b : n - run_of y (suc e) n ≡ suc n - suc (run_of y (suc e) n) = omega arith in
          ap (e ∷◌) (h ∙ ap (λ z. stretch (suc e) (run_of y (suc e) n) ++ those u z (n - run_of y (suc e) n)) a ∙ ap (λ z. stretch (suc e) (run_of y (suc e) n) ++ those u (e + suc (run_of y (suc e) n)) z) b)
      go false q h =
          let z : those u e (suc n) ≡ those u (suc e) n = rw q in
          sym z ∙ ap (λ i. those u i (suc n)) (sym (add-zero e)) ∙ ap (those u (e + 0)) (sym (sub-zero (suc n)))

  run_skip : (n e : ℕ) → run_of y e (suc n) ≡ 0 → those u e (suc n) ≡ those u (e + 1) (suc n - 1)
  unfolding run_of
  run_skip n e h = go (u e) refl
    where
      go : (b : Bool) → u e ≡ b → those u e (suc n) ≡ those u (e + 1) (suc n - 1)
      go true q = absurd (let z : suc (run_of y (suc e) n) ≡ 0 = rw q at h in omega (arith, z))
      go false q =
          let z : those u e (suc n) ≡ those u (suc e) n = rw q in
          let b : n ≡ suc n - 1 = omega arith in
          z ∙ ap (λ i. those u i n) (sym (add-one e)) ∙ ap (those u (e + 1)) b

  -- the first run, and the entries behind it
  pub run_those : (n e : ℕ) → those u e (suc n) ≡ stretch e (run_of y e (suc n)) ++ those u (e + max (run_of y e (suc n)) 1) (suc n - max (run_of y e (suc n)) 1)
  run_those n e = go (run_of y e (suc n)) refl
    where
      go : (k : ℕ) → run_of y e (suc n) ≡ k → those u e (suc n) ≡ stretch e k ++ those u (e + max k 1) (suc n - max k 1)
      go zero q = run_skip n e q
      go (suc k) q =
          let m : suc k ≡ max (suc k) 1 = omega arith in
          subst (λ z. those u e (suc n) ≡ stretch e (suc k) ++ those u (e + z) (suc n - z)) m (subst (λ z. those u e (suc n) ≡ stretch e z ++ those u (e + z) (suc n - z)) q (run_split (suc n) e))

-- ---- the model's copies

module _ (p : Plain) (v : Array (PlainBody p)) (obey : Obeys true (PlainRule p) v) where
  abbrev vs : ℕ → Array (PlainBody p)
  vs j = v

  abbrev FineEntries : Mutable (PlainBody p) → Type 0
  FineEntries d = Fine (kind_of (t_plain p) 1 (λ j. v.body)) 1 vs d

  -- n slots from e on, by one order
  abbrev pub order : ℕ → ℕ → Mutable (PlainBody p) → Try (Mutable (PlainBody p))
  order e n d = extend_node true (λ ss j. plain_extend p (ss j)) vs 0 e n d

  -- copies in two parts
  pub record Cut (es fs : List ℕ) (d D : Mutable (PlainBody p)) : Type 0 where
    pub mid : Mutable (PlainBody p)
    pub one : copy_each p v es d ≡ done mid
    pub two : copy_each p v fs mid ≡ done D

  pub each_cut : (es fs : List ℕ) (d D : Mutable (PlainBody p)) → copy_each p v (es ++ fs) d ≡ done D → Cut es fs d D
  each_cut [] fs d D h = record { mid = d; one = refl; two = h }
  each_cut (e ∷ es) fs d D h =
      let t = then_done (order e 1 d) (copy_each p v (es ++ fs)) D h in
      let r = each_cut es fs t.first D t.rest_done in
      record { mid = r.mid; one = then_is (order e 1 d) (copy_each p v es) t.first t.first_done ∙ r.one; two = r.two }

  pub order_fine : (e n : ℕ) (d d₁ : Mutable (PlainBody p)) → e + n ≤ v.len → FineEntries d → order e n d ≡ done d₁ → FineEntries d₁ × (d₁.len ≡ d.len + n)
  order_fine e n d d₁ l f h =
      let lawful = law (t_plain p) 1 vs (λ j q. obey) tt in
      let g = agrees_value (node_copies (kind_of (t_plain p) 1 (λ j. v.body)) 1 vs lawful (λ j q. obey.mask) 0 e n d (omega arith) (omega arith) f) d₁ h in
      (g.fine', g.len_is)

  same_node_lem : (x z : Mutable (PlainBody p)) → SameNode (λ a b. a ≡ b) x z → x ≡ z
  same_node_lem x z s = rw (s.len_same, s.count_same, s.bits_same, s.data_same)

  -- ONE ORDER COPIES WHAT COPIES ONE BY ONE DO
  pub whole_run : (k e : ℕ) (d D : Mutable (PlainBody p)) → e + suc k ≤ v.len → FineEntries d → copy_each p v (stretch e (suc k)) d ≡ done D → order e (suc k) d ≡ done D
  whole_run zero e d D l f h =
      let t = then_done (order e 1 d) (copy_each p v []) D h in
      t.first_done ∙ t.rest_done
  whole_run (suc k) e d D l f h =
      let t = then_done (order e 1 d) (copy_each p v (stretch (suc e) (suc k))) D h in
      let f₁ = (order_fine e 1 d t.first (omega arith) f t.first_done).0 in
      let q = whole_run k (suc e) t.first D (omega arith) f₁ t.rest_done in
      let s = node_seam (t_plain p) 1 vs 0 (seams (t_plain p) tt 1 vs 0 obey) e 1 (suc k) (omega arith) d t.first D f f₁ t.first_done (ap (λ i. order i (suc k) t.first) (add-one e) ∙ q) in
      let z : 1 + suc k ≡ suc (suc k) = omega arith in
      ap (λ n. order e n d) (sym z) ∙ s.is ∙ ap done (same_node_lem s.value D s.holds)
