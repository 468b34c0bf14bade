-- What the joining of dictionaries leaves as it was: every node that is not a dictionary's values. Assumes nothing.
use mathlib.Core.Path.{◌≡◌, refl, ap, subst, ◌∙◌}
use mathlib.Core.Bool.{Bool, true, false}
use mathlib.Core.List.{List}
use Prim.Native.Nat.{ℕ, zero, suc, ◌≤◌, ◌<◌}
use native.Mathlib.Decide.{dec_lt}
use native.Mathlib.Omega.{arith}
use lib.ListN.{length}
use lib.Dec.{eqb}
use borrow.Author.Tests.{eqb-true, eqb-false}
use Rattle.columnar.specs.Types.{Number, Plain, Ty, t_plain, t_dictionary}
use Rattle.columnar.specs.Reading.{Body}
use Rattle.columnar.specs.Kids.{nodes_down}
use Rattle.columnar.proofs.Kids.{below_kid, below_by}
use Rattle.schema.specs.formats.Code.{is_fixed}
use Rattle.walk.specs.State.{code_of, dictionary_of, end_of}
use Rattle.refinement.specs.walk_is_model.Memory.{Memory}
use Rattle.refinement.specs.walk_is_model.Holds.{in_plan, Worded}
use Rattle.refinement.proofs.walk_is_model.Frame.{SameAt, same_refl, same_then, Kept, held_same}
use Rattle.refinement.proofs.walk_is_model.Kids.{kid_at_lem}
use Rattle.refinement.proofs.walk_is_model.Codes.{between_apart}
use Rattle.refinement.specs.log_in_room.Reach.{Typed, typed, Free}
use Rattle.plan.specs.parts.Parts.{copied}
use Rattle.refinement.specs.orders.Order.{Lent}
use Rattle.refinement.proofs.orders.Cover.{Laid}
use Rattle.refinement.specs.opening.Entries.{EntriesLent, Joins}
use Rattle.refinement.proofs.opening.Zeros.{Fresh, fresh_same}
use Rattle.refinement.proofs.opening.Starts.{Here, closed_here}

module _ (plan : List ℕ) where
  -- all nodes but dictionaries' values among i .. e - 1 are as they were
  pub record Left (i e : ℕ) (c c' : List ℕ) (μ μ' : Memory) : Type 0 where
    pub long : length c' ≡ length c
    pub same : (j : ℕ) → (i ≤ j → j < e → Free plan j) → SameAt c c' μ μ' j

  pub left_refl : (i e : ℕ) (c : List ℕ) (μ : Memory) → Left i e c c μ μ
  left_refl i e c μ = record { long = refl; same = λ j h. same_refl c μ j }

  pub left_then : {i e : ℕ} {c c1 c2 : List ℕ} {μ μ1 μ2 : Memory} → Left i e c c1 μ μ1 → Left i e c1 c2 μ1 μ2 → Left i e c c2 μ μ2
  left_then a b = record { long = b.long ∙ a.long; same = λ j h. same_then (a.same j h) (b.same j h) }

  pub left_wide : {c c' : List ℕ} {μ μ' : Memory} (i e i2 e2 : ℕ) → i2 ≤ i → e ≤ e2 → Left i e c c' μ μ' → Left i2 e2 c c' μ μ'
  left_wide i e i2 e2 p q k = record { long = k.long; same = λ j h. k.same j (λ a b. h (omega arith) (omega arith)) }

  -- only the values of the dictionary at node i changed
  pub left_values : {c c' : List ℕ} {μ μ' : Memory} (i e : ℕ) → suc (suc i) ≤ e → (dictionary_of plan i ≡ 0 → ⊥) → Kept (suc i) (suc (suc i)) c c' μ μ' → Left i e c c' μ μ'
  left_values i e q d k =
      record {
        long = k.long;
        same = λ j h. k.outside j (λ a b. let z : j ≡ suc i = omega arith in d (subst (Free plan) z (h (omega arith) (omega arith))));
      }

  -- the nodes i .. e - 1 that are copied have no rows
  abbrev pub AllFresh : ℕ → ℕ → List ℕ → Memory → Type 0
  AllFresh i e c μ = (j : ℕ) → i ≤ j → j < e → copied plan j ≡ true → Fresh plan c μ j

  pub fresh_part : {c : List ℕ} {μ : Memory} (i e i2 e2 : ℕ) → i ≤ i2 → e2 ≤ e → AllFresh i e c μ → AllFresh i2 e2 c μ
  fresh_part i e i2 e2 p q f j a b = f j (omega arith) (omega arith)

  -- .. those behind the nodes that a step went through are as they were
  pub fresh_left : {c c' : List ℕ} {μ μ' : Memory} (i mid e : ℕ) → i ≤ mid → Left i mid c c' μ μ' → AllFresh i e c μ → AllFresh mid e c' μ'
  fresh_left {c} {c'} {μ} {μ'} i mid e p l f j a b q = fresh_same plan c c' μ μ' j (l.same j (λ x y. absurd (omega arith))) (f j (omega arith) b q)

  module _ (laid : Laid plan) where
    -- only keys have a dictionary
    pub no_dictionary : (i : ℕ) → Here plan i → is_fixed (code_of plan i) ≡ false → dictionary_of plan i ≡ 0
    no_dictionary i here n = go (eqb (dictionary_of plan i) 0) refl
      where
        go : (b : Bool) → eqb (dictionary_of plan i) 0 ≡ b → dictionary_of plan i ≡ 0
        go true e = eqb-true (dictionary_of plan i) 0 e
        go false e =
            let f = laid.tabled.keys_fixed i ((closed_here plan laid).own i here).0.1 (eqb-false (dictionary_of plan i) 0 e) in
            absurd (let z : ◌≡◌ {A = ℕ} 0 1 = cc (f, n) in omega arith)

    pub not_fixed : (i low high : ℕ) → 10 < low → Rattle.schema.specs.formats.Code.between low high (code_of plan i) ≡ true → is_fixed (code_of plan i) ≡ false
    not_fixed i low high p h = between_apart low high 1 10 (code_of plan i) p h

    pub keys_end : (i : ℕ) → Here plan i → (dictionary_of plan i ≡ 0 → ⊥) → end_of plan i ≡ suc (suc i)
    keys_end i here d = laid.tabled.keys_end i ((closed_here plan laid).own i here).0.1 d

-- the nodes of a type end where the column does
pub ends_in_lem : (plan : List ℕ) (i : ℕ) → Typed plan 0 (end_of plan 0) i → end_of plan i ≤ end_of plan 0
ends_in_lem plan i (typed k t w l e) = e

module _ (x : Lent) (m : ℕ) (c c' : List ℕ) (μ μ' : Memory) where
  abbrev plan : List ℕ
  plan = x.plan

  keyed : (k : ℕ) (n : Number) (p : Plain) (i : ℕ) → Worded plan k (t_dictionary n p) i → (i < end_of plan i) × (dictionary_of plan i ≡ 0 → ⊥)
  keyed (suc k) n p i w = (w.1, w.2)
  keyed zero n p i w = elim w [ ]

  -- the values of the dictionaries from node i on are as they were
  abbrev pub ValuesSame : ℕ → Type 0
  ValuesSame i = (j : ℕ) → i ≤ j → j < end_of plan i → (dictionary_of plan j ≡ 0 → ⊥) → SameAt c c' μ μ' (suc j)

  -- JOINED DICTIONARIES are still held where their values' nodes are as they were
  pub joins_kept : (k : ℕ) (t : Ty) (i : ℕ) (ss : ℕ → Body t) → Worded plan k t i → EntriesLent x t i m ss → ValuesSame i → Joins plan t i m ss c μ → Joins plan t i m ss c' μ'
  joins_kept k t i ss w l s h =
      below_by (nodes_down (in_plan plan)) _ _
      (λ t y. ((k : ℕ) × Worded plan k t y.0) × EntriesLent x t y.0 m y.1 × ValuesSame y.0 × Joins plan t y.0 m y.1 c μ)
      (λ t y g b. let a = kid_at_lem plan g.0.0 t y.0 g.0.1 b in (
        (a.depth, a.is_kid),
        below_kid (nodes_down (in_plan plan)) _ _ t y g.1 b,
        (λ j p q. g.2 j (omega (arith, a.behind)) (omega (arith, a.ends))),
        below_kid (nodes_down (in_plan plan)) _ _ t y g.3 b,
      ))
      (λ y g. tt)
      (λ n p y g e. let a = g.1 in
      let r = g.3 e in
      let w = keyed g.0.0 n p y.0 g.0.1 in
      let one : (j : ℕ) → suc y.0 ≤ j → j < end_of plan (suc y.0) → SameAt c c' μ μ' j = λ j u v. let z : suc y.0 ≡ j = omega (arith, a.ends) in subst (SameAt c c' μ μ') z (g.2 y.0 (omega arith) w.0 w.1) in
      (r.0, r.1, held_same plan c c' μ μ' 1 (t_plain p) (suc y.0) r.0 (a.small, omega (arith, a.ends), a.no_keys, a.plain_is) one r.2))
      t (i, ss) ((k, w), l, s, h)

  module _ (laid : Laid plan) where
    -- node i and the nodes below it are as they were
    abbrev pub SameFrom : ℕ → Type 0
    SameFrom i = (j : ℕ) → i ≤ j → j < end_of plan i → SameAt c c' μ μ' j

    values_same : (i : ℕ) → Here plan i → SameFrom i → ValuesSame i
    values_same i here s j p q d = s (suc j) (omega arith) (go (dec_lt i j))
      where
        within : end_of plan i ≤ end_of plan 0
        within = ends_in_lem plan i here.0

        ends : end_of plan j ≡ suc (suc j)
        ends = laid.tabled.keys_end j (omega (arith, within)) d

        go : Dec (i < j) → suc j < end_of plan i
        go (yes h) = omega (arith, laid.tabled.nested i j h q within, ends)
        go (no h) = let z : end_of plan j ≡ end_of plan i = ap (end_of plan) (let y : j ≡ i = omega arith in y) in omega (arith, ends)

    pub joins_same : (k : ℕ) (t : Ty) (i : ℕ) (ss : ℕ → Body t) → Worded plan k t i → Here plan i → EntriesLent x t i m ss → SameFrom i → Joins plan t i m ss c μ → Joins plan t i m ss c' μ'
    joins_same k t i ss w here l s h = joins_kept k t i ss w l (values_same i here s) h
