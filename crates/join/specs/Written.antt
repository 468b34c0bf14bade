-- WHAT AN ORDER WRITES, by the counters before and after it (refinement/specs/orders/Written.antt): which run ends may be written over is said of each order.
-- Assumes nothing.
use Rattle.std.specs.Prelude.{◌≡◌, List, ℕ, suc, ◌+◌, ◌*◌, ◌<◌, length, get_or}
use Rattle.bits.specs.Bits.{bits}
use Rattle.walk.specs.State.{rows}
use Rattle.walk.specs.Log.{start_of}
use Rattle.plan.specs.parts.Parts.{Used}
use Rattle.refinement.specs.orders.Written.{Gained, LastEnd}

-- none: bytes that no part has gained are as they were, and so are the bits of the rows before
pub record OnlyGains (plan parts c room d after : List ℕ) : Type 0 where
  pub same_length : length after ≡ length room
  pub other_bytes : (p : ℕ) → ((i b : ℕ) → Used plan i b → Gained plan parts c d p i b → ⊥) → get_or after p 0 ≡ get_or room p 0
  pub earlier_bits : (i q : ℕ) → Used plan i 0 → q < rows c i → get_or (bits after) (8 * start_of plan parts i 0 + q) 0 ≡ get_or (bits room) (8 * start_of plan parts i 0 + q) 0

-- the last run end of nodes in K alone
pub record OnlyAmends (K : ℕ → Type 0) (plan parts c room d after : List ℕ) : Type 0 where
  pub same_length : length after ≡ length room
  pub other_bytes : (p : ℕ) → ((i b : ℕ) → Used plan i b → Gained plan parts c d p i b → ⊥) → ((h : ℕ) → K h → Used plan (suc h) 1 → LastEnd plan parts c p h → ⊥)
      → get_or after p 0 ≡ get_or room p 0
  pub earlier_bits : (i q : ℕ) → Used plan i 0 → q < rows c i → get_or (bits after) (8 * start_of plan parts i 0 + q) 0 ≡ get_or (bits room) (8 * start_of plan parts i 0 + q) 0
