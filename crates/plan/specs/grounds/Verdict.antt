-- The grounds of parts. Assumes nothing.
use Rattle.std.specs.Prelude.{Bool, cond, ℕ, ltb}

-- 14 where parts do not lie in the room, and else 13 where they do not hold their bytes
abbrev pub verdict : Bool → Bool → ℕ
verdict within holds = cond within (cond holds 0 13) 14

-- the worse of two
abbrev pub worse_of : ℕ → ℕ → ℕ
worse_of a b = cond (ltb a b) b a
