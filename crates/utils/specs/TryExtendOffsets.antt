-- The Rust's `try_extend_offsets`, as a function on the list of offsets. Follows arrow-data 60.1.0 src/transform/utils.rs, Apache-2.0; see NOTICE. Assumes nothing.
use Rattle.std.specs.Prelude.{ℕ, zero, suc, ◌+◌, ◌-◌, ◌<◌, ◌≤◌, Bool, true, false, List, [], ◌∷◌, nat_le}
use Rattle.utils.specs.declared.Extended.{Extended}
use Rattle.utils.specs.declared.Extended.TheVariants.{Fits, Over, Falls}

-- Result<(), ArrowError>, with what was pushed
pub data Pushed : Type 0 where
  ok : List ℕ → Pushed
  err : Pushed

-- buffer.push, before what later windows push
abbrev pub push : ℕ → Pushed → Pushed
push x (ok xs) = ok (x ∷ xs)
push x err = err

-- checked_add in a type whose largest number is max, and what follows it
abbrev pub checked : Bool → Pushed → Pushed
checked true p = p
checked false p = err

-- the windows of two that begin with a: each adds its length, which is not negative where offsets never fall, to the last offset
unfoldable pub windows : ℕ → ℕ → ℕ → List ℕ → Pushed
windows max last a [] = ok []
windows max last a (b ∷ s) = checked (nat_le (last + (b - a)) max) (push (last + (b - a)) (windows max (last + (b - a)) b s))

-- all windows of two of the offsets, or an error
abbrev pub try_extend_offsets : ℕ → ℕ → List ℕ → Pushed
try_extend_offsets max last [] = ok []
try_extend_offsets max last (a ∷ s) = windows max last a s

-- f 0, f 1, .. f (n - 1)
unfoldable pub listed : (ℕ → ℕ) → ℕ → List ℕ
listed f zero = []
listed f (suc n) = f 0 ∷ listed (λ k. f (suc k)) n

-- n + 1 offsets never fall
abbrev pub NeverFalls : (ℕ → ℕ) → ℕ → Type 0
NeverFalls f n = (k : ℕ) → k < n → f k ≤ f (k + 1)

-- the Rust's answer that goes with an answer of ours: the new offsets where they fit
abbrev pub answer_of : Extended → List ℕ → Pushed
answer_of (Fits last first) xs = ok xs
answer_of (Over row needed) xs = err
answer_of Falls xs = err
