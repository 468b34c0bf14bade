-- Entries and rows of lent buffers, what a write leaves of the other buffers, and what words of the plan say. Assumes nothing.
use mathlib.Core.Path.{◌≡◌, refl, ◌∙◌}
use mathlib.Core.Bool.{Bool, true, false, ◌&&◌}
use mathlib.Core.List.{List, [], ◌∷◌, ◌++◌}
use Prim.Native.Nat.{ℕ, zero, suc, ◌+◌, ◌-◌, ◌*◌, ◌^◌, ◌≤◌, ◌<◌}
use native.Mathlib.Nat.{mul_comm, pow-le-pow_right}
use native.Mathlib.Omega.{arith}
use lib.ListN.{length, take, drop, get_or, length-take, length-drop}
use lib.Seq.{drop-drop}
use lib.Dec.{leb}
use borrow.Author.Tests.{le-leb, lt-leb, eq-eqb, ne_eqb, leb-true}
use Rattle.number.specs.Number.{number, entry}
use Rattle.columnar.specs.Types.{half}
use Rattle.columnar.specs.Array.{item}
use Rattle.columnar.proofs.Items.{number_take, entry_end}
use Rattle.schema.specs.formats.Code.{between, widths, width_of}
use Rattle.walk.specs.State.{Join, far, rows_in}
use Rattle.refinement.specs.walk_is_model.Memory.{Memory, put_in, amend_in}
use Rattle.refinement.specs.walk_is_model.Lent.{Part}
use Rattle.refinement.proofs.walk_is_model.Frame.{SameAt, same_refl, same_then}
use Rattle.refinement.proofs.walk_is_model.Owed.{DataKept, Small}

-- ---- lent buffers

number_of_take : (j n w : ℕ) (s : List ℕ) → j + w ≤ n → number w (drop j (take n s)) ≡ number w (drop j s)
unfolding number
number_of_take zero n w s h = number_take w n s (omega arith)
number_of_take (suc j) zero w s h = absurd (omega arith)
number_of_take (suc j) (suc n) w [] h = refl
number_of_take (suc j) (suc n) w (x ∷ s) h = number_of_take j n w s (omega arith)

module _ {body : List ℕ} {at size : ℕ} {s : List ℕ} (p : Part body at size s) where
  pub part_long : length s ≡ size
  part_long = rw p.bytes_are (simp (length-take, length-drop) (omega (arith, p.inside)))

  -- an entry of a lent buffer is read where it stands in the body
  pub part_entry : (w k n : ℕ) → k < n → n * w ≤ length s → entry w body at k ≡ item w s k
  unfolding item
  part_entry w k n q h =
      let e : k * w + w ≤ n * w = entry_end w q in
      rw (p.bytes_are, number_of_take (k * w) size w (drop at body) (omega (arith, part_long)), drop-drop, mul_comm w k)

-- the rows of a lent buffer lie in the body
pub rows_in_lem : (x : Join) (at size : ℕ) (s : List ℕ) (w slot n : ℕ) → Part x.body at size s → (slot + n) * w ≤ length s → rows_in x at w slot n ≡ true
unfolding rows_in
rows_in_lem x at size s w slot n p h =
    let b : w * (slot + n) ≡ (slot + n) * w = mul_comm w (slot + n) in
    let l : length s ≡ size = part_long p in
    le-leb (at + w * (slot + n)) (length x.body) (omega (arith, p.inside))

-- ---- what a write leaves

module _ (i b : ℕ) (bs : List ℕ) (μ : Memory) where
  pub put_here : (put_in i b bs μ).at i b ≡ μ.at i b ++ bs
  put_here = rw (eq-eqb i i refl, eq-eqb b b refl)

  pub put_beside : (e : ℕ) → (e ≡ b → ⊥) → (put_in i b bs μ).at i e ≡ μ.at i e
  put_beside e h = rw (eq-eqb i i refl, ne_eqb e b h)

  pub put_other : (c : List ℕ) (j : ℕ) → (j ≡ i → ⊥) → SameAt c c μ (put_in i b bs μ) j
  put_other c j h = record { rows_same = refl; nulls_same = refl; bytes_same = refl; at_same = λ e. rw (ne_eqb j i h); bits_same = refl }

-- .. a write over the last bytes
module _ (i b o : ℕ) (bs : List ℕ) (μ : Memory) where
  pub amend_here : (amend_in i b o bs μ).at i b ≡ take o (μ.at i b) ++ bs
  amend_here = rw (eq-eqb i i refl, eq-eqb b b refl)

  pub amend_other : (c : List ℕ) (j : ℕ) → (j ≡ i → ⊥) → SameAt c c μ (amend_in i b o bs μ) j
  amend_other c j h = record { rows_same = refl; nulls_same = refl; bytes_same = refl; at_same = λ e. rw (ne_eqb j i h); bits_same = refl }

-- the data of a node, left as it was, and changed twice
pub data_kept_refl : (i e : ℕ) (c : List ℕ) (μ : Memory) → DataKept i e c c μ μ
data_kept_refl i e c μ = record { long = refl; rows_own = refl; nulls_own = refl; bits_own = refl; outside = λ j h. same_refl c μ j }

pub data_kept_then : {i e : ℕ} {c c1 c2 : List ℕ} {μ μ1 μ2 : Memory} → DataKept i e c c1 μ μ1 → DataKept i e c1 c2 μ1 μ2 → DataKept i e c c2 μ μ2
data_kept_then a b =
    record {
      long = b.long ∙ a.long;
      rows_own = b.rows_own ∙ a.rows_own;
      nulls_own = b.nulls_own ∙ a.nulls_own;
      bits_own = b.bits_own ∙ a.bits_own;
      outside = λ j h. same_then (a.outside j h) (b.outside j h);
    }

-- ---- words of the plan

-- rows below the limit are held by a counter
pub small_of : (n : ℕ) → n ≤ far → Small n
small_of n h = omega arith

-- no code has entries of more than eight bytes
all_small : List ℕ → Bool
all_small [] = true
all_small (x ∷ xs) = leb x 8 && all_small xs

get_small : (xs : List ℕ) (i : ℕ) → all_small xs ≡ true → get_or xs i 0 ≤ 8
unfolding all_small
get_small [] i h = omega arith
get_small (x ∷ xs) zero h = go (leb x 8) refl h
  where
    go : (b : Bool) → leb x 8 ≡ b → (b && all_small xs) ≡ true → x ≤ 8
    go true e q = leb-true x 8 e
    go false e q = absurd (let z : ◌≡◌ {A = ℕ} 0 1 = cc in omega arith)
get_small (x ∷ xs) (suc i) h = get_small xs i (go (leb x 8) h)
  where
    go : (b : Bool) → (b && all_small xs) ≡ true → all_small xs ≡ true
    go true q = q
    go false q = absurd (let z : ◌≡◌ {A = ℕ} 0 1 = cc in omega arith)

pub width_small : (code : ℕ) → width_of code ≤ 8
unfolding all_small
width_small code = get_small widths code refl

pub half_far : (w : ℕ) → w ≤ 8 → half w ≤ far
half_far w h = let e : 256 ^ w ≤ 256 ^ 8 = pow-le-pow_right (omega arith) h in omega arith

-- a code is in one range only
pub between_apart : (low high low2 high2 code : ℕ) → between low high code ≡ true → high2 < low → between low2 high2 code ≡ false
between_apart low high low2 high2 code h q = go (leb low code) refl (leb low2 code) h
  where
    go : (b : Bool) → leb low code ≡ b → (c : Bool) → (b && leb code high) ≡ true → (c && leb code high2) ≡ false
    go true e true g = lt-leb code high2 (omega (arith, leb-true low code e))
    go true e false g = refl
    go false e c g = absurd (let z : ◌≡◌ {A = ℕ} 0 1 = cc in omega arith)
