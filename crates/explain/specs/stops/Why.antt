-- WHAT STOPPED AN ORDER: "the node's number in tree order and the row within that node's range at which the order stopped (both from 0, and 0
-- where none applies), the ground, and for 6, 7 and 13 the number needed and the largest allowed, else two zeros". Nothing here walks again
-- what the walk of the order (crate `walk`) walks: a stop is looked for from the top of the tree downward, and the walk itself says which row
-- or child is the first that it refuses. Assumes nothing.
use Rattle.std.specs.Prelude.{Bool, cond, List, ℕ, zero, suc, min, eqb}
use Rattle.walk.specs.State.{top}
use Rattle.walk.specs.Log.{Out}
use Rattle.explain.specs.declared.stops.Why.{Why}

-- a ground that names no node; 0: nothing stopped it
abbrev pub only : ℕ → Why
only g = record { refusal = g; node = 0; row = 0; needed = 0; allowed = 0 }

abbrev pub nothing : Why
nothing = only 0

-- a ground that names node i alone
abbrev pub named : ℕ → ℕ → Why
named g i = record { refusal = g; node = i; row = 0; needed = 0; allowed = 0 }

-- row r of node i needs n where m is the largest allowed: "The needed number, cut to 2^64−1"
abbrev pub clash : ℕ → ℕ → ℕ → ℕ → ℕ → Why
clash g i r n m = record { refusal = g; node = i; row = r; needed = min n top; allowed = m }

-- w unless the test holds
unfoldable pub unless : Bool → Why → Why → Why
unless b w rest = cond b rest w

-- a walk that comes first: w where it is refused, else what stops the rest
unfoldable pub past : Out → Why → (List ℕ → Why) → Why
past o w rest = cond (eqb o.ans 0) (rest o.counters) w

-- what stops the first of f r, f (r + 1), .., n of them, that is refused
unfoldable pub first_of : (ℕ → List ℕ → Out) → (ℕ → List ℕ → Why) → ℕ → ℕ → List ℕ → Why
first_of f why zero r c = nothing
first_of f why (suc n) r c = past (f r c) (why r c) (λ c2. first_of f why n (suc r) c2)
