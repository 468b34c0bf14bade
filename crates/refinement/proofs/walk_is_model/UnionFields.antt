-- The children of a union, each in field order: by nodes in the walk, by ids in the model. Assumes nothing.
use mathlib.Core.Path.{◌≡◌, refl, sym, ap, subst, fun_ext, ◌∙◌}
use mathlib.Core.Bool.{Bool, cond}
use mathlib.Core.List.Memᴰ
use mathlib.Core.List.{List, [], ◌∷◌, Memᴰ}
use Prim.Native.Nat.{ℕ, zero, suc, ◌≤◌, ◌<◌}
use native.Mathlib.Omega.{arith}
use lib.ListN.{length}
use lib.Dec.{ltb}
use borrow.Author.Tests.{lt-ltb, le-ltb, eq-eqb, ne_eqb}
use Rattle.columnar.specs.Types.{Ty}
use Rattle.columnar.specs.Formed.{Ids}
use Rattle.model.specs.Try.{Try, done, then, after}
use Rattle.model.specs.Unions.{in_order}
use Rattle.model.specs.Transform.{Destination}
use Rattle.model.proofs.Agree.{Agrees, both, neither}
use Rattle.walk.specs.State.{Join, end_of, id_of}
use Rattle.walk.specs.Log.{Out, next}
use Rattle.walk.specs.Copy.{Walk, child_with, each_field}
use Rattle.walk.specs.Nulls.{NullWalk}
use Rattle.refinement.specs.walk_is_model.Memory.{Memory}
use Rattle.refinement.specs.walk_is_model.Holds.{Fields, Worded, Holds}
use Rattle.refinement.proofs.walk_is_model.Goes.{Goes, good, over, goes_done, goes_map, goes_then}
use Rattle.refinement.proofs.walk_is_model.Frame.{Kept, kept_refl, kept_then, kept_wide, field_of, held_same}
use Rattle.walk.proofs.Names.{copy_fields, null_fields}

-- ---- rules

-- what is done is the answer
pub goes_known : {A : Type 0} {μ : Memory} {Q : A → List ℕ → Memory → Type 0} {t : Try A} {o : Out} → Goes μ Q t o → Goes μ (λ x c ν. Q x c ν × (t ≡ done x)) t o
goes_known (good x o e p q) = good x o e p (q, refl)
goes_known (over g o e p) = over g o e p

-- what is done is made into another thing
pub goes_wrap : {A B : Type 0} {μ : Memory} {Q : A → List ℕ → Memory → Type 0} {R : B → List ℕ → Memory → Type 0} {t : Try A} {o : Out} (f : A → B)
    → ((x : A) (c : List ℕ) (ν : Memory) → Q x c ν → R (f x) c ν) → Goes μ Q t o → Goes μ R (then t (λ x. done (f x))) o
goes_wrap f r (good x o e p q) = good (f x) o e p (r x o.counters _ q)
goes_wrap f r (over g o e p) = over g o e p

-- what the model says of an answer
pub agrees_value : {A C : Type 0} {see : A → C} {P : A → Type 0} {t : Try A} {s : Try C} → Agrees see P t s → (x : A) → t ≡ done x → P x
agrees_value {P = P} (both y q) x e = let h : y ≡ x = cc in subst P h q
agrees_value (neither g) x e = absurd (let z : ◌≡◌ {A = ℕ} 0 1 = cc in omega arith)

-- ---- the walk over the children

-- step at each child from node k on
unfoldable pub visit : List ℕ → (ℕ → List ℕ → Out) → ℕ → ℕ → ℕ → List ℕ → Out
visit plan step end zero k c = Rattle.walk.specs.Log.done c
visit plan step end (suc f) k c = cond (ltb k end) (next (step k c) (λ c2. visit plan step end f (end_of plan k) c2)) (Rattle.walk.specs.Log.done c)

pub copy_visits : (x : Join) (child : Walk) (slot n end f k : ℕ) (c : List ℕ) → copy_fields x child slot n end f k c ≡ visit x.plan (λ k c. child k slot n c) end f k c
unfolding each_field visit
copy_visits x child slot n end zero k c = refl
copy_visits x child slot n end (suc f) k c =
    ap (λ z. cond (ltb k end) (next (child k slot n c) z) (Rattle.walk.specs.Log.done c)) (fun_ext (λ c2. copy_visits x child slot n end f (end_of x.plan k) c2))

pub null_visits : (x : Join) (child : NullWalk) (n end f k : ℕ) (c : List ℕ) → null_fields x child n end f k c ≡ visit x.plan (λ k c. child k n c) end f k c
unfolding each_field visit
null_visits x child n end zero k c = refl
null_visits x child n end (suc f) k c =
    ap (λ z. cond (ltb k end) (next (child k n c) z) (Rattle.walk.specs.Log.done c)) (fun_ext (λ c2. null_visits x child n end f (end_of x.plan k) c2))

module _ (plan : List ℕ) where
  -- the first child has its id
  pub with_first : (id end fuel k : ℕ) → k < end → id_of plan k ≡ id → child_with plan id end (suc fuel) k ≡ k
  unfolding child_with
  with_first id end fuel k p e = rw (lt-ltb k end p, eq-eqb (id_of plan k) id e)

  -- another id is further on
  pub with_later : (id end fuel k : ℕ) → k < end → (id_of plan k ≡ id → ⊥) → child_with plan id end (suc fuel) k ≡ child_with plan id end fuel (end_of plan k)
  unfolding child_with
  with_later id end fuel k p e = rw (lt-ltb k end p, ne_eqb (id_of plan k) id e)

  visit_none : (step : ℕ → List ℕ → Out) (end fuel : ℕ) (c : List ℕ) → visit plan step end fuel end c ≡ Rattle.walk.specs.Log.done c
  unfolding visit
  visit_none step end zero c = refl
  visit_none step end (suc fuel) c = rw (le-ltb end end (omega arith))

  visit_one : (step : ℕ → List ℕ → Out) (end fuel k : ℕ) (c : List ℕ) → k < end
      → visit plan step end (suc fuel) k c ≡ next (step k c) (λ c2. visit plan step end fuel (end_of plan k) c2)
  unfolding visit
  visit_one step end fuel k c p = rw (lt-ltb k end p)

  module _ (depth : ℕ) (nullable : ℕ → Bool) (f : ℕ → Ty) (end : ℕ) (node : ℕ → ℕ) (step : ℕ → List ℕ → Out)
      (d : (e : ℕ) → Destination (f e)) (g : (e : ℕ) → Try (Destination (f e))) where
    abbrev kid : ℕ → ℕ → Type 0
    kid e = Worded plan depth (f e)

    abbrev Held : (e : ℕ) → Destination (f e) → List ℕ → Memory → Type 0
    Held e = Holds plan (f e) (node e)

    -- the step at child e goes with its answer
    abbrev pub Steps : ℕ → Type 0
    Steps e =
        (c : List ℕ) (μ : Memory) → length c ≡ 96 → Held e (d e) c μ
        → Goes μ (λ y c' μ'. Held e y c' μ' × Kept (node e) (end_of plan (node e)) c c' μ μ') (g e) (step (node e) c)

    abbrev Result : {B : Type 0} → B → List ℕ → ℕ → List ℕ → Memory → B → List ℕ → Memory → Type 0
    Result x cs k c μ y c' μ' = (y ≡ x) × ((e : ℕ) → Memᴰ e cs → Held e (after (g e) (d e)) c' μ') × Kept k end c c' μ μ'

    -- child b stands at node k, and was visited
    abbrev Here : (b k : ℕ) → List ℕ → Memory → Destination (f b) → List ℕ → Memory → Type 0
    Here b k c μ y c2 ν = Held b y c2 ν × Kept k (end_of plan k) c c2 μ ν

    -- THE CHILDREN IN ORDER, those of cs, which stand from node k on
    pub in_order_goes : {B : Type 0} (x : B) (cs : List ℕ) (k fuel : ℕ) (c : List ℕ) (μ : Memory) → Fields plan kid nullable end cs k → Ids cs → length cs ≤ fuel
        → ((e : ℕ) → Memᴰ e cs → child_with plan e end fuel k ≡ node e) → ((e : ℕ) → Memᴰ e cs → Steps e)
        → length c ≡ 96 → ((e : ℕ) → Memᴰ e cs → Held e (d e) c μ) → Goes μ (Result x cs k c μ) (in_order g cs x) (visit plan step end fuel k c)
    in_order_goes x [] k fuel c μ w a l at steps long h =
        let e : k ≡ end = w in
        subst (Goes μ (Result x [] k c μ) (done x)) (sym (ap (λ z. visit plan step end fuel z c) e ∙ visit_none step end fuel c))
        (goes_done x c (refl, (λ e m. absurd (Memᴰ.not-nil m)), kept_refl k end c μ))
    in_order_goes x (b ∷ cs) k zero c μ w a l at steps long h = absurd (omega arith)
    in_order_goes {B} x (b ∷ cs) k (suc fuel) c μ w a l at steps long h =
        subst (Goes μ (Result x (b ∷ cs) k c μ) (in_order g (b ∷ cs) x)) (sym (visit_one step end fuel k c before))
        (goes_then (λ y. in_order g cs x) (λ c2. visit plan step end fuel (end_of plan k) c2) (goes_known here)
        (λ y c2 ν q.
        goes_map (λ z c3 ξ r. (r.0, all y c2 ν q c3 ξ r, kept_then (kept_wide k end (omega arith) w.3 q.0.1) (kept_wide k end (omega (arith, w.2)) (omega arith) r.2)))
        (in_order_goes x cs (end_of plan k) fuel c2 ν w.5 a.2 (omega arith) later (λ e m. steps e (Memᴰ.tail m)) (q.0.1.long ∙ long)
        (λ e m. rest y c2 ν q e m))))
      where
        before : k < end
        before = omega (arith, w.2, w.3)

        node_is : node b ≡ k
        node_is = sym (at b (Memᴰ.head refl)) ∙ with_first b end fuel k before w.0

        here : Goes μ (Here b k c μ) (g b) (step k c)
        here =
            subst (λ z. Goes μ (λ y c2 ν. Held b y c2 ν × Kept z (end_of plan z) c c2 μ ν) (g b) (step z c)) node_is
            (steps b (Memᴰ.head refl) c μ long (h b (Memᴰ.head refl)))

        later : (e : ℕ) → Memᴰ e cs → child_with plan e end fuel (end_of plan k) ≡ node e
        later e m =
            sym (with_later e end fuel k before (λ q. a.1 (subst (λ z. Memᴰ z cs) (sym q ∙ w.0) m))) ∙ at e (Memᴰ.tail m)

        -- a child not yet visited is as it was
        rest : (y : Destination (f b)) (c2 : List ℕ) (ν : Memory) → Here b k c μ y c2 ν × (g b ≡ done y) → (e : ℕ) → Memᴰ e cs → Held e (d e) c2 ν
        rest y c2 ν q e m =
            let s = field_of plan kid nullable end cs (end_of plan k) fuel e w.5 (omega arith) m in
            let p : end_of plan k ≤ node e = subst (λ z. end_of plan k ≤ z) (later e m) s.behind in
            held_same plan c c2 μ ν depth (f e) (node e) (d e) (subst (kid e) (later e m) s.is_kid) (λ j u v. q.0.1.outside j (λ u2 v2. omega arith)) (h e (Memᴰ.tail m))

        -- the child visited is still as its visit left it
        all : (y : Destination (f b)) (c2 : List ℕ) (ν : Memory) → Here b k c μ y c2 ν × (g b ≡ done y) → {z : B} (c3 : List ℕ) (ξ : Memory) → Result x cs (end_of plan k) c2 ν z c3 ξ
            → (e : ℕ) → Memᴰ e (b ∷ cs) → Held e (after (g e) (d e)) c3 ξ
        all y c2 ν q c3 ξ r e (Memᴰ.tail m) = r.1 e m
        all y c2 ν q c3 ξ r e (Memᴰ.head i) =
            subst (λ z. Held z (after (g z) (d z)) c3 ξ) (sym i)
            (held_same plan c2 c3 ν ξ depth (f b) (node b) (after (g b) (d b)) (rw node_is w.4)
            (λ j u v. r.2.outside j (λ u2 v2. let z : end_of plan (node b) ≡ end_of plan k = ap (end_of plan) node_is in omega arith))
            (subst (λ z. Held b (after z (d b)) c2 ν) (sym q.1) q.0.0))
