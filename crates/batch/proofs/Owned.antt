-- The parts of a node that the plan counts, and what they hold. Assumes nothing.
use mathlib.Core.Path.{◌≡◌, refl, sym, ap, ◌∙◌}
use mathlib.Core.Bool.{Bool, true, false, cond, not}
use mathlib.Core.List.{List}
use Prim.Native.Nat.{ℕ, ◌+◌, ◌*◌, ◌-◌, ◌≤◌, ◌<◌}
use native.Mathlib.Nat.{mul-le-mul_left}
use native.Mathlib.Omega.{arith}
use lib.Dec.{leb, ltb, eqb}
use borrow.Author.Tests.{ltb-true, leb-true, lt-ltb, le-leb, leb-false}
use Rattle.columnar.specs.Test.{every}
use Rattle.schema.specs.formats.Code.{width_of, between, is_fixed, is_string, is_list_view}
use Rattle.walk.specs.State.{code_of, keeps_of}
use Rattle.plan.specs.parts.Parts.{nodes_of, copied, buffer_count, validity_parts, buffer_parts, has_part, needed_by, Used}
use Rattle.plan.proofs.parts.Placed.{every_at}
use Rattle.refinement.proofs.orders.Buffers.{needed_fixed, needed_offsets, needed_views}
use Rattle.batch.specs.Batch.{is_leaf, owned}
use Rattle.batch.proofs.Stretches.{and_left, and_right}

-- what a table says of the codes from a on says it of one of them
from_table : (p : ℕ → Bool) (a n : ℕ) → every (λ j. p (a + j)) n ≡ true → (v : ℕ) → a ≤ v → v < a + n → p v ≡ true
from_table p a n h v l m =
    let e : a + (v - a) ≡ v = omega arith in
    ap p (sym e) ∙ every_at (λ j. p (a + j)) n h (v - a) (omega arith)

between_low : (a b v : ℕ) → between a b v ≡ true → a ≤ v
between_low a b v h = leb-true a v (and_left (leb a v) (leb v b) h)

between_high : (a b v : ℕ) → between a b v ≡ true → v ≤ b
between_high a b v h = leb-true v b (and_right (leb a v) (leb v b) h)

pub one_buffer : (code : ℕ) → 1 ≤ code → code ≤ 22 → 1 ≤ buffer_count code
one_buffer code l m = leb-true 1 (buffer_count code) (from_table (λ v. leb 1 (buffer_count v)) 1 22 refl code l (omega arith))

pub string_buffers : (code : ℕ) → is_string code ≡ true → 2 ≤ buffer_count code
string_buffers code h =
    let a = between_low 11 14 code h in
    let b = between_high 11 14 code h in
    leb-true 2 (buffer_count code) (from_table (λ v. leb 2 (buffer_count v)) 11 4 refl code a (omega arith))

pub list_buffers : (code : ℕ) → is_list_view code ≡ true → 2 ≤ buffer_count code
list_buffers code h =
    let a = between_low 17 18 code h in
    let b = between_high 17 18 code h in
    leb-true 2 (buffer_count code) (from_table (λ v. leb 2 (buffer_count v)) 17 2 refl code a (omega arith))

width_some : (code : ℕ) → 1 ≤ code → code ≤ 14 → 1 ≤ width_of code
width_some code l m = leb-true 1 (width_of code) (from_table (λ v. leb 1 (width_of v)) 1 14 refl code l (omega arith))

pub list_width_some : (code : ℕ) → is_list_view code ≡ true → 1 ≤ width_of code
list_width_some code h =
    let a = between_low 17 18 code h in
    let b = between_high 17 18 code h in
    leb-true 1 (width_of code) (from_table (λ v. leb 1 (width_of v)) 17 2 refl code a (omega arith))

scaled_up : (r w : ℕ) → 1 ≤ w → r ≤ r * w
scaled_up r w h = let a : r * 1 ≤ r * w = mul-le-mul_left r h in omega arith

-- the first buffer has at least a byte a row
pub byte_a_row : (code r n : ℕ) → is_leaf code ≡ true → r ≤ needed_by code r n 1
byte_a_row code r n h = go (is_fixed code) refl (is_string code) refl
  where
    low : 1 ≤ code
    low = between_low 1 16 code h

    high : code ≤ 16
    high = between_high 1 16 code h

    go : (s : Bool) → is_fixed code ≡ s → (t : Bool) → is_string code ≡ t → r ≤ needed_by code r n 1
    go true e t f = let a = between_high 1 10 code e in let b = scaled_up r (width_of code) (width_some code low (omega arith)) in rw (needed_fixed code r n e) b
    go false e true f =
        let a = between_high 11 14 code f in
        let b = scaled_up (r + 1) (width_of code) (width_some code low (omega arith)) in
        rw (needed_offsets code r n f) (omega arith)
    go false e false f = last (leb code 10) refl (leb code 14) refl
      where
        bad : ◌≡◌ {A = Bool} false true → ⊥
        bad y = let z : ◌≡◌ {A = ℕ} 0 1 = ap (λ t. cond t 1 0) y in omega arith

        last : (p : Bool) → leb code 10 ≡ p → (q : Bool) → leb code 14 ≡ q → r ≤ needed_by code r n 1
        last true a q b = absurd (bad (sym e ∙ rw (le-leb 1 code low, a)))
        last false a true b = let g = leb-false code 10 a in absurd (bad (sym f ∙ rw (le-leb 11 code (omega arith), b)))
        last false a false b = let g = leb-false code 14 b in rw (needed_views code r n (rw (le-leb 15 code (omega arith), le-leb code 16 high))) (omega arith)

module _ (plan : List ℕ) (k : ℕ) (own : owned plan k ≡ true) where
  pub own_node : k < nodes_of plan
  own_node = ltb-true k (nodes_of plan) (and_left _ (copied plan k) own)

  own_copied : copied plan k ≡ true
  own_copied = and_right (ltb k (nodes_of plan)) _ own

  pub used_one : 1 ≤ buffer_count (code_of plan k) → Used plan k 1
  unfolding has_part buffer_parts
  used_one h = record { node = own_node; part = rw own_copied (lt-ltb 0 (buffer_count (code_of plan k)) (omega arith)) }

  pub used_two : 2 ≤ buffer_count (code_of plan k) → Used plan k 2
  unfolding has_part buffer_parts
  used_two h = record { node = own_node; part = rw own_copied (lt-ltb 1 (buffer_count (code_of plan k)) (omega arith)) }

  pub used_bits : not (eqb (keeps_of plan k) 0) ≡ true → code_of plan k < 21 → Used plan k 0
  unfolding has_part validity_parts
  used_bits h l = record { node = own_node; part = rw (own_copied, h, lt-ltb (code_of plan k) 21 l) refl }
