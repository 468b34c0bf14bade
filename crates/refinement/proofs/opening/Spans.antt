-- A walk over a range of nodes, split at a node. Assumes nothing.
use mathlib.Core.Path.{◌≡◌, refl, sym, ap, fun_ext, ◌∙◌}
use mathlib.Core.List.{List}
use Prim.Native.Nat.{ℕ, zero, suc, ◌+◌, ◌-◌, ◌≤◌, ◌<◌}
use native.Mathlib.Nat.{add-zero, add-suc, suc-add, zero-add}
use native.Mathlib.Omega.{arith}
use Rattle.walk.specs.Log.{Out, done, next, each}
use Rattle.refinement.proofs.orders.Grows.{next_next}

pub next_done : (c : List ℕ) (k : List ℕ → Out) → next (done c) k ≡ k c
unfolding next done
next_done c k = refl

each_split : (f : ℕ → List ℕ → Out) (a b r : ℕ) (c : List ℕ) → each f (a + b) r c ≡ next (each f a r c) (λ c2. each f b (r + a) c2)
unfolding each
each_split f zero b r c = rw (zero-add, add-zero) (sym (next_done c (λ c2. each f b r c2)))
each_split f (suc a) b r c =
    rw suc-add
    (ap (next (f r c)) (fun_ext (λ c2. each_split f a b (suc r) c2 ∙ ap (λ z. next (each f a (suc r) c2) (λ c3. each f b z c3)) (suc-add r a ∙ sym (add-suc r a))))
    ∙ sym (next_next (f r c) (λ c2. each f a (suc r) c2) (λ c3. each f b (r + suc a) c3)))

-- f lo, f (lo + 1), .., up to hi
abbrev pub span : (ℕ → List ℕ → Out) → ℕ → ℕ → List ℕ → Out
span f lo hi c = each f (hi - lo) lo c

module _ (f : ℕ → List ℕ → Out) where
  pub span_none : (lo hi : ℕ) (c : List ℕ) → lo ≡ hi → span f lo hi c ≡ done c
  unfolding each
  span_none lo hi c e = let z : hi - lo ≡ 0 = omega arith in rw z

  pub span_one : (lo hi : ℕ) (c : List ℕ) → lo < hi → span f lo hi c ≡ next (f lo c) (λ c2. span f (suc lo) hi c2)
  unfolding each
  span_one lo hi c h = let z : hi - lo ≡ suc (hi - suc lo) = omega arith in rw z

  pub span_skip : (lo hi : ℕ) (c : List ℕ) → lo < hi → f lo c ≡ done c → span f lo hi c ≡ span f (suc lo) hi c
  span_skip lo hi c h e = span_one lo hi c h ∙ ap (λ o. next o (λ c2. span f (suc lo) hi c2)) e ∙ next_done c (λ c2. span f (suc lo) hi c2)

  pub span_split : (lo mid hi : ℕ) (c : List ℕ) → lo ≤ mid → mid ≤ hi → span f lo hi c ≡ next (span f lo mid c) (λ c2. span f mid hi c2)
  span_split lo mid hi c p q =
      let z : hi - lo ≡ mid - lo + (hi - mid) = omega arith in
      let y : lo + (mid - lo) ≡ mid = omega arith in
      ap (λ n. each f n lo c) z ∙ each_split f (mid - lo) (hi - mid) lo c ∙ ap (λ n. next (span f lo mid c) (λ c2. each f (hi - mid) n c2)) y
