-- 13: the part that is named is the first that cannot hold its bytes. Assumes nothing.
use mathlib.Core.Path.{◌≡◌, refl, sym, subst, ◌∙◌}
use mathlib.Core.Bool.{Bool, true, false, cond, ◌&&◌}
use mathlib.Core.List.{List}
use Prim.Native.Nat.{ℕ, zero, suc, ◌+◌, ◌*◌, ◌≤◌, ◌<◌, min, max}
use native.Mathlib.Omega.{arith}
use native.Mathlib.Decide.{dec_lt}
use lib.ListN.{length}
use lib.Dec.{leb, ltb, eqb}
use borrow.Author.Tests.{leb-true, leb-false, eqb-true}
use Rattle.array_data.proofs.lent_tables.Laws.{and_right}
use Rattle.columnar.specs.Test.{every, only_if}
use Rattle.columnar.proofs.Test.{every_false}
use Rattle.walk.specs.State.{code_of, rows, bytes, top}
use Rattle.plan.specs.parts.Parts.{nodes_of, has_part, number_of, needed, start_at, size_at, size_of, in_room, part_holds, parts_hold, part_within, parts_within}
use Rattle.plan.proofs.parts.Placed.{every_at}
use Rattle.refinement.proofs.orders.Sound.{every_all}
use Rattle.refinement.proofs.orders.Needed.{needed_more}
use Rattle.explain.specs.declared.stops.Why.{Why}
use Rattle.explain.specs.stops.Why.{nothing, clash, unless}
use Rattle.explain.specs.stops.Parts.{rows_due, bytes_due, why_part, why_parts_from, why_parts}
use Rattle.explain.specs.stops.Table.{accepted, part, Stated, blank, above}

module _ (plan counters parts : List ℕ) (all : ℕ) where
  abbrev Holds : ℕ → ℕ → Type 0
  Holds j b = part_holds plan counters parts j b ≡ true

  -- the parts of node j below buffer b hold their bytes
  abbrev HoldsTo : ℕ → ℕ → Type 0
  HoldsTo j b = (k : ℕ) → k < b → Holds j k

  -- of the nodes from i to i + n - 1
  pub data PartsSay (n i : ℕ) : Why → Type 0 where
    all_hold : ((j : ℕ) → i ≤ j → j < i + n → HoldsTo j 3) → PartsSay n i nothing
    first_short : (j b : ℕ) → i ≤ j → j < i + n → b < 3 → part_holds plan counters parts j b ≡ false
        → ((k : ℕ) → i ≤ k → k < j → HoldsTo k 3) → HoldsTo j b
        → PartsSay n i (clash 13 j 0 (bytes_due plan counters parts all j b) (size_of plan parts j b))

  none_before : (i : ℕ) (k : ℕ) → i ≤ k → k < i → HoldsTo k 3
  none_before i k h l = absurd (omega arith)

  three : (i : ℕ) → Holds i 0 → Holds i 1 → Holds i 2 → HoldsTo i 3
  three i p q r zero l = p
  three i p q r (suc zero) l = q
  three i p q r (suc (suc zero)) l = r
  three i p q r (suc (suc (suc k))) l = absurd (omega arith)

  onward : (n i : ℕ) (w : Why) → HoldsTo i 3 → PartsSay n (suc i) w → PartsSay (suc n) i w
  onward n i _ h (all_hold f) = all_hold (λ j p q. at j (dec_lt i j) p (λ r. f j r (omega arith)))
    where
      at : (j : ℕ) → Dec (i < j) → i ≤ j → (suc i ≤ j → HoldsTo j 3) → HoldsTo j 3
      at j (yes y) p g = g (omega arith)
      at j (no y) p g = let e : i ≡ j = omega arith in subst (λ z. HoldsTo z 3) e h
  onward n i _ h (first_short j b p q r s f t) = first_short j b (omega arith) (omega arith) r s (λ k u v. at k (dec_lt i k) u (λ y. f k y v)) t
    where
      at : (k : ℕ) → Dec (i < k) → i ≤ k → (suc i ≤ k → HoldsTo k 3) → HoldsTo k 3
      at k (yes y) p g = g (omega arith)
      at k (no y) p g = let e : i ≡ k = omega arith in subst (λ z. HoldsTo z 3) e h

  pub parts_say : (n i : ℕ) → PartsSay n i (why_parts_from plan counters parts all n i)
  unfolding why_parts_from why_part unless
  parts_say zero i = all_hold (λ j p q. absurd (omega arith))
  parts_say (suc n) i = go (part_holds plan counters parts i 0) (part_holds plan counters parts i 1) (part_holds plan counters parts i 2) refl refl refl (parts_say n (suc i))
    where
      short : ℕ → Why
      short b = clash 13 i 0 (bytes_due plan counters parts all i b) (size_of plan parts i b)

      go : (a b d : Bool) → part_holds plan counters parts i 0 ≡ a → part_holds plan counters parts i 1 ≡ b → part_holds plan counters parts i 2 ≡ d → PartsSay n (suc i) (why_parts_from plan counters parts all n (suc i))
          → PartsSay (suc n) i (cond a (cond b (cond d (why_parts_from plan counters parts all n (suc i)) (short 2)) (short 1)) (short 0))
      go true true true p q r t = onward n i _ (three i p q r) t
      go true true false p q r t = first_short i 2 (omega arith) (omega arith) (omega arith) r (none_before i) (two p q)
        where
          two : Holds i 0 → Holds i 1 → HoldsTo i 2
          two p q zero l = p
          two p q (suc zero) l = q
          two p q (suc (suc k)) l = absurd (omega arith)
      go true false d p q r t = first_short i 1 (omega arith) (omega arith) (omega arith) q (none_before i) (one p)
        where
          one : Holds i 0 → HoldsTo i 1
          one p zero l = p
          one p (suc k) l = absurd (omega arith)
      go false b d p q r t = first_short i 0 (omega arith) (omega arith) (omega arith) p (none_before i) (λ k l. absurd (omega arith))

  -- 13 exactly where a part is short
  said_ground : (w : Why) → PartsSay (nodes_of plan) 0 w → w.refusal ≡ cond (parts_hold plan counters parts) 0 13
  unfolding parts_hold
  said_ground _ (all_hold f) = rw (every_all (λ i. every (λ b. part_holds plan counters parts i b) 3) (nodes_of plan) (λ i l. every_all (λ b. part_holds plan counters parts i b) 3 (f i (omega arith) (omega arith)))) refl
  said_ground _ (first_short j b p q r s f t) =
      rw (every_false (λ i. every (λ b. part_holds plan counters parts i b) 3) (nodes_of plan) j (omega arith) (every_false (λ b. part_holds plan counters parts j b) 3 b r s)) refl

  pub parts_ground : (why_parts plan counters parts all).refusal ≡ cond (parts_hold plan counters parts) 0 13
  parts_ground = said_ground _ (parts_say (nodes_of plan) 0)

  -- ---- the bytes due are more than the part has

  rows_more : (i : ℕ) → rows counters i ≤ rows_due plan counters parts all i
  rows_more i = go (eqb i 0) refl
    where
      go : (b : Bool) → eqb i 0 ≡ b → rows counters i ≤ cond b (max all (rows counters 0)) (rows counters i)
      go true e = rw (eqb-true i 0 e) (omega arith)
      go false e = omega arith

  due_more : (i b : ℕ) → needed plan counters i b ≤ bytes_due plan counters parts all i b
  due_more i b = needed_more (code_of plan i) (rows counters i) (rows_due plan counters parts all i) (bytes counters i) (bytes counters i) b (rows_more i) (λ z. omega arith)

  short_there : (j b : ℕ) → part_holds plan counters parts j b ≡ false → (has_part plan j b ≡ true) × (size_of plan parts j b < needed plan counters j b)
  unfolding part_holds
  short_there j b h = go (has_part plan j b) refl h
    where
      go : (a : Bool) → has_part plan j b ≡ a → only_if a (leb (needed plan counters j b) (size_of plan parts j b)) ≡ false → (has_part plan j b ≡ true) × (size_of plan parts j b < needed plan counters j b)
      go true e h = (e, leb-false _ _ h)
      go false e h = absurd (let z : ◌≡◌ {A = ℕ} 0 1 = cc h in omega arith)

  module _ (m : ℕ) (small : m < top) (within : parts_within plan parts m ≡ true) where
    pub part_size : (j b : ℕ) → j < nodes_of plan → b < 3 → has_part plan j b ≡ true → size_of plan parts j b ≤ m
    unfolding parts_within part_within
    part_size j b p q h =
        let e = every_at (λ c. part_within plan parts m j c) 3 (every_at (λ i. every (λ c. part_within plan parts m i c) 3) (nodes_of plan) within j p) b q in
        let f = rw h at e in
        let g : start_at parts (number_of plan j b) + size_at parts (number_of plan j b) ≤ m = leb-true _ _ (and_right (ltb (2 * number_of plan j b + 1) (length parts)) _ f) in
        omega (arith, g)

    pub parts_stated : Stated (why_parts plan counters parts all)
    parts_stated = go _ (parts_say (nodes_of plan) 0)
      where
        go : (w : Why) → PartsSay (nodes_of plan) 0 w → Stated w
        go _ (all_hold f) = blank 0 accepted
        go _ (first_short j b p q r s f t) =
            let h = short_there j b s in
            let size = part_size j b (omega arith) r h.0 in
            above 13 j 0 (bytes_due plan counters parts all j b) (size_of plan parts j b) part refl (omega (arith, size, h.1, due_more j b))
