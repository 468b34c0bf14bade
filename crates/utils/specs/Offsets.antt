-- Offsets of w bytes, which stand in s from the byte `from` on. 01: each new offset is the last one plus the source difference. Assumes nothing.
use Rattle.std.specs.Prelude.{ℕ, zero, suc, ◌+◌, ◌-◌, ◌/◌, ◌%◌, ◌^◌, cond, List, nat_lt}
use Rattle.number.specs.Number.{entry}
use Rattle.utils.specs.Pieces.{numbers}

-- the largest offset that w bytes hold, which is a signed number
abbrev pub largest : ℕ → ℕ
largest w = 256 ^ w / 2 - 1

-- where offset k of the source goes: as far after `last` as it stands after the source's first
abbrev pub moved : ℕ → List ℕ → ℕ → ℕ → ℕ → ℕ
moved w s from last k = last + (entry w s from k - entry w s from 0)

-- the first k below n at which f is above max, and n where there is none
unfoldable pub first_above : ℕ → (ℕ → ℕ) → ℕ → ℕ
first_above max f zero = 0
first_above max f (suc n) = cond (nat_lt max (f 0)) 0 (suc (first_above max (λ k. f (suc k)) n))

-- the n offsets after the first, moved to follow `last`, as the machine adds and subtracts: modulo 256 ^ w
unfoldable pub moved_offsets : ℕ → List ℕ → ℕ → ℕ → ℕ → List ℕ
moved_offsets w s from last n = numbers w (λ k. (last + (entry w s from (k + 1) + 256 ^ w - entry w s from 0)) % 256 ^ w) n

-- the number v, n times
unfoldable pub repeated : ℕ → ℕ → ℕ → List ℕ
repeated w v n = numbers w (λ k. v) n

-- first, first + 1, and so on, modulo 256 ^ w
unfoldable pub counted_up : ℕ → ℕ → ℕ → List ℕ
counted_up w first n = numbers w (λ k. (first + k) % 256 ^ w) n
