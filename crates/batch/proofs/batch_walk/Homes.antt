-- The table of children by id, filled child by child. Assumes nothing.
use mathlib.Core.Path.{◌≡◌, refl, sym, ap, ◌∙◌}
use mathlib.Core.Bool.{Bool, true, false, cond}
use mathlib.Core.List.{List}
use Prim.Native.Nat.{ℕ, suc, ◌+◌, ◌-◌, ◌≤◌, ◌<◌}
use native.Mathlib.Numerals.{add-one}
use native.Mathlib.Omega.{arith}
use lib.ListN.{length, get_or, set, replicate, length-set, length-replicate, get_or-replicate}
use lib.Seq.{get_or-set_same, get_or-set_other}
use lib.Dec.{eqb}
use borrow.Author.Tests.{eqb-true, eqb-false, ne_eqb}
use Rattle.walk.specs.State.{id_of, end_of}
use Rattle.walk.specs.Copy.{child_with}
use Rattle.batch.specs.batch_walk.Fall.{Homed}
use Rattle.nested_rows.proofs.lookups.Laws.{child_here, child_next}

module _ (plan : List ℕ) (end first : ℕ) where
  -- t children are in the table, and child k is next
  abbrev pub Homing : ℕ → ℕ → List ℕ → Type 0
  Homing t k homes = (length homes ≡ 256) × ((id : ℕ) → id < 256 → child_with plan id end 32 first ≡ cond (eqb (get_or homes id 0) 32) (child_with plan id end (32 - t) k) (get_or homes id 0))

  pub homing_none : Homing 0 first (replicate 256 32)
  homing_none = (length-replicate {A = ℕ} 256 32, λ id h. rw (get_or-replicate {A = ℕ} 256 id 32 0 h) refl)

  pub homing_end : (t k : ℕ) (homes : List ℕ) → Homing t k homes → ((id : ℕ) → child_with plan id end (32 - t) k ≡ 32) → (id : ℕ) → id < 256 → get_or homes id 0 ≡ child_with plan id end 32 first
  homing_end t k homes f none id h = go (eqb (get_or homes id 0) 32) refl (f.1 id h)
    where
      go : (u : Bool) → eqb (get_or homes id 0) 32 ≡ u → child_with plan id end 32 first ≡ cond u (child_with plan id end (32 - t) k) (get_or homes id 0) → get_or homes id 0 ≡ child_with plan id end 32 first
      go true e q = eqb-true (get_or homes id 0) 32 e ∙ sym (q ∙ none id)
      go false e q = sym q

  module _ (t k : ℕ) (homes : List ℕ) (f : Homing t k homes) (room : t < 32) (in_end : k < end) (few : end ≤ 32) {v k2 t2 : ℕ} (is : v ≡ id_of plan k) (after : k2 ≡ end_of plan k) (more : t2 ≡ t + 1) where
    turn : 32 - t ≡ suc (32 - t2)
    turn = omega arith

    -- an id that is not that child's
    other : (id : ℕ) → (v ≡ id → ⊥) → child_with plan id end (32 - t) k ≡ child_with plan id end (32 - t2) k2
    other id ne = child_next plan end k id turn in_end is ne after

    pub homing_had : (get_or homes v 0 ≡ 32 → ⊥) → Homing t2 k2 homes
    homing_had had = (f.0, λ id h. go id (eqb (get_or homes id 0) 32) refl (f.1 id h))
      where
        go : (id : ℕ) (u : Bool) → eqb (get_or homes id 0) 32 ≡ u → child_with plan id end 32 first ≡ cond u (child_with plan id end (32 - t) k) (get_or homes id 0)
            → child_with plan id end 32 first ≡ cond u (child_with plan id end (32 - t2) k2) (get_or homes id 0)
        go id true e q = q ∙ other id (λ z. had (ap (λ y. get_or homes y 0) z ∙ eqb-true (get_or homes id 0) 32 e))
        go id false e q = q

    pub homing_new : v < 256 → get_or homes v 0 ≡ 32 → Homing t2 k2 (set homes v k)
    homing_new small none = (length-set homes v k ∙ f.0, λ id h. go id (eqb v id) refl h)
      where
        here : child_with plan v end 32 first ≡ k
        here = (rw none at (f.1 v small)) ∙ child_here plan end k v turn in_end is refl

        else_is : (id : ℕ) → (v ≡ id → ⊥) → (u : Bool) → eqb (get_or homes id 0) 32 ≡ u → child_with plan id end 32 first ≡ cond u (child_with plan id end (32 - t) k) (get_or homes id 0)
            → child_with plan id end 32 first ≡ cond u (child_with plan id end (32 - t2) k2) (get_or homes id 0)
        else_is id ne true e q = q ∙ other id ne
        else_is id ne false e q = q

        go : (id : ℕ) (u : Bool) → eqb v id ≡ u → id < 256 → child_with plan id end 32 first ≡ cond (eqb (get_or (set homes v k) id 0) 32) (child_with plan id end (32 - t2) k2) (get_or (set homes v k) id 0)
        go id true e h =
            let z : v ≡ id = eqb-true v id e in
            let same : get_or (set homes v k) v 0 ≡ k = get_or-set_same homes v k 0 (omega (arith, f.0)) in
            rw (← z, same, ne_eqb k 32 (λ (y : k ≡ 32). omega arith)) here
        go id false e h =
            let ne : v ≡ id → ⊥ = eqb-false v id e in
            let same : get_or (set homes v k) id 0 ≡ get_or homes id 0 = get_or-set_other homes v id k 0 (λ y. ne (sym y)) in
            rw same (else_is id ne (eqb (get_or homes id 0) 32) refl (f.1 id h))

    -- that child, if the id had none
    pub homing_more : v < 256 → {n : ℕ} → n ≡ cond (eqb (get_or homes v 0) 32) k (get_or homes v 0) → Homing t2 k2 (set homes v n)
    homing_more small {n} e = go (eqb (get_or homes v 0) 32) refl e
      where
        same : (id : ℕ) (u : Bool) → eqb id v ≡ u → n ≡ get_or homes v 0 → get_or (set homes v n) id 0 ≡ get_or homes id 0
        same id true q y = let z : id ≡ v = eqb-true id v q in rw z (get_or-set_same homes v n 0 (omega (arith, f.0)) ∙ y)
        same id false q y = get_or-set_other homes v id n 0 (eqb-false id v q)

        go : (u : Bool) → eqb (get_or homes v 0) 32 ≡ u → n ≡ cond u k (get_or homes v 0) → Homing t2 k2 (set homes v n)
        go true q y = rw y (homing_new small (eqb-true (get_or homes v 0) 32 q))
        go false q y =
            let g = homing_had (eqb-false (get_or homes v 0) 32 q) in
            (length-set homes v n ∙ f.0, λ id h. rw (same id (eqb id v) refl y) (g.1 id h))

-- no child is left
pub child_zero : (plan : List ℕ) (id end f k : ℕ) → f ≡ 0 → child_with plan id end f k ≡ 32
unfolding child_with
child_zero plan id end f k e = rw e refl

-- THE TABLE is whole when no child is left
pub homed : (plan : List ℕ) (i t k : ℕ) (homes : List ℕ) {end : ℕ} → end ≡ end_of plan i → Homing plan end (i + 1) t k homes → ((id : ℕ) → child_with plan id end (32 - t) k ≡ 32) → Homed plan i homes
homed plan i t k homes {end} e f none id h =
    homing_end plan end (i + 1) t k homes f none id h ∙ ap (λ v. child_with plan id v 32 (i + 1)) e ∙ ap (λ v. child_with plan id (end_of plan i) 32 v) (add-one i)
