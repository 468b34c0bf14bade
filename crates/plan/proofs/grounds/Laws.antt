-- The grounds of parts taken together: the worst of them is the ground of all. Assumes nothing.
use mathlib.Core.Path.{◌≡◌, refl, ap, ◌∙◌}
use mathlib.Core.Bool.{Bool, true, false, not, cond, ◌&&◌}
use mathlib.Core.List.{List}
use Prim.Native.Nat.{ℕ, zero, suc, ◌+◌, ◌*◌, ◌≤◌, ◌<◌}
use native.Mathlib.Omega.{arith}
use native.Mathlib.Numerals.{add-one}
use lib.ListN.{length}
use lib.Dec.{leb, ltb, eqb}
use borrow.Author.Tests.{le-ltb}
use Rattle.columnar.specs.Test.{every}
use Rattle.walk.specs.State.{code_of, keeps_of}
use Rattle.plan.specs.parts.Parts.{nodes_of, buffer_count, copied, validity_parts, buffer_parts, has_part, number_of, needed, size_of, in_room, part_within, part_holds, parts_within, parts_hold}
use Rattle.plan.specs.grounds.Verdict.{verdict, worse_of}

-- THE WORSE OF TWO GROUNDS IS THE GROUND OF BOTH
pub both : (w h v k : Bool) → worse_of (verdict w h) (verdict v k) ≡ verdict (w && v) (h && k)
both true true true true = refl
both true true true false = refl
both true true false true = refl
both true true false false = refl
both true false true true = refl
both true false true false = refl
both true false false true = refl
both true false false false = refl
both false true true true = refl
both false true true false = refl
both false true false true = refl
both false true false false = refl
both false false true true = refl
both false false true false = refl
both false false false true = refl
both false false false false = refl

worse_both : (w h v k : Bool) {a b g : ℕ} → a ≡ verdict w h → b ≡ verdict v k → g ≡ worse_of a b → g ≡ verdict (w && v) (h && k)
worse_both w h v k {a} {b} {g} e f q = q ∙ ap (λ (z : ℕ). worse_of z b) e ∙ ap (worse_of (verdict w h)) f ∙ both w h v k

-- nothing is said where the answer is no
pub never : {P : Type 0} → false ≡ true → P
never z = absurd (let y : ◌≡◌ {A = ℕ} 0 1 = cc in omega arith)

-- ---- one part

module _ (plan counters parts : List ℕ) (m i b : ℕ) where
  pub part_none : has_part plan i b ≡ false → 0 ≡ verdict (part_within plan parts m i b) (part_holds plan counters parts i b)
  unfolding part_within part_holds
  part_none h = rw h

  pub part_some : {p g : ℕ} {holds : Bool} → has_part plan i b ≡ true → p ≡ number_of plan i b → holds ≡ leb (needed plan counters i b) (size_of plan parts i b)
      → g ≡ verdict (ltb (2 * p + 1) (length parts) && in_room parts m p) holds → g ≡ verdict (part_within plan parts m i b) (part_holds plan counters parts i b)
  unfolding part_within part_holds
  part_some {holds = holds} h e q k = k ∙ ap (λ (z : ℕ). verdict (ltb (2 * z + 1) (length parts) && in_room parts m z) holds) e ∙ rw (h, q)

-- ---- which parts a node has

module _ (plan : List ℕ) (i : ℕ) where
  pub no_bits : keeps_of plan i ≡ 0 → has_part plan i 0 ≡ false
  unfolding has_part validity_parts
  no_bits h = go (copied plan i) (keeps_of plan i) h
    where
      go : (t : Bool) (k : ℕ) → k ≡ 0 → eqb (cond (t && not (eqb k 0) && ltb (code_of plan i) 21) 1 0) 1 ≡ false
      go true k e = rw e
      go false k e = refl

  pub no_mask_lem : 21 ≤ code_of plan i → has_part plan i 0 ≡ false
  unfolding has_part validity_parts
  no_mask_lem h = rw (le-ltb (code_of plan i) 21 h) (go (copied plan i && not (eqb (keeps_of plan i) 0)))
    where
      go : (t : Bool) → eqb (cond (t && false) 1 0) 1 ≡ false
      go true = refl
      go false = refl

  pub no_buffer : (b : ℕ) → buffer_count (code_of plan i) < suc b → has_part plan i (suc b) ≡ false
  unfolding has_part buffer_parts
  no_buffer b h = go (copied plan i)
    where
      go : (t : Bool) → ltb b (cond t (buffer_count (code_of plan i)) 0) ≡ false
      go true = le-ltb b (buffer_count (code_of plan i)) (omega arith)
      go false = le-ltb b 0 (omega arith)

  pub no_part : (b : ℕ) → copied plan i ≡ false → has_part plan i b ≡ false
  unfolding has_part validity_parts buffer_parts
  no_part zero h = rw h
  no_part (suc b) h = rw h (le-ltb b 0 (omega arith))

-- how many buffers a node's code has, as code read it
pub counted : (plan : List ℕ) (i : ℕ) {code n : ℕ} → code ≡ code_of plan i → n ≡ buffer_count code → n ≡ buffer_count (code_of plan i)
counted plan i e q = q ∙ ap buffer_count e

-- ---- a node, and all nodes

module _ (plan counters parts : List ℕ) (m : ℕ) where
  abbrev pub within_at : ℕ → Bool
  within_at i = every (λ b. part_within plan parts m i b) 3

  abbrev pub hold_at : ℕ → Bool
  hold_at i = every (λ b. part_holds plan counters parts i b) 3

  -- its three parts one after the other
  pub node_three : (i : ℕ) {a b c g k : ℕ} → a ≡ verdict (part_within plan parts m i 0) (part_holds plan counters parts i 0)
      → b ≡ verdict (part_within plan parts m i 1) (part_holds plan counters parts i 1) → c ≡ verdict (part_within plan parts m i 2) (part_holds plan counters parts i 2)
      → g ≡ worse_of a b → k ≡ worse_of g c → k ≡ verdict (within_at i) (hold_at i)
  node_three i e f h q r =
      let w : ℕ → Bool = part_within plan parts m i in
      let t : ℕ → Bool = part_holds plan counters parts i in
      worse_both (w 0 && w 1) (t 0 && t 1) (w 2) (t 2) (worse_both (w 0) (t 0) (w 1) (t 1) e f q) h r

  pub node_none : (i : ℕ) → copied plan i ≡ false → 0 ≡ verdict (within_at i) (hold_at i)
  node_none i h =
      let p : (b : ℕ) → 0 ≡ verdict (part_within plan parts m i b) (part_holds plan counters parts i b) = λ b. part_none plan counters parts m i b (no_part plan i b h) in
      node_three i (p 0) (p 1) (p 2) refl refl

  pub nodes_more : (i : ℕ) {a b g : ℕ} → a ≡ verdict (every within_at i) (every hold_at i) → b ≡ verdict (within_at i) (hold_at i) → g ≡ worse_of a b
      → g ≡ verdict (every within_at (i + 1)) (every hold_at (i + 1))
  nodes_more i e f q = rw (add-one i) (worse_both (every within_at i) (every hold_at i) (within_at i) (hold_at i) e f q)

  pub nodes_all : (i n : ℕ) {g : ℕ} → n ≡ nodes_of plan → n ≤ i → i ≤ n → g ≡ verdict (every within_at i) (every hold_at i)
      → g ≡ cond (parts_within plan parts m) (cond (parts_hold plan counters parts) 0 13) 14
  unfolding parts_within parts_hold
  nodes_all i n e l u q = let k : i ≡ nodes_of plan = omega arith in rw k at q
