-- What a walk comes to: its answer, the counters that it leaves, and the log of what it writes. Assumes nothing.
use Rattle.std.specs.Prelude.{◌≡◌, Bool, true, false, cond, List, [], ◌∷◌, ◌++◌, ℕ, zero, suc, ◌+◌, ◌*◌, ◌-◌, length, get_or, leb, ltb, eqb}
use Rattle.number.specs.Number.{splice}
use Rattle.bits.specs.Bits.{put_bits}
use Rattle.walk.specs.State.{part_of}

-- one write: bytes into buffer b of node i from its byte o on, bits into the validity of node i from its bit p on, or bytes over the last ones of
-- buffer b of node i, from its byte o on
pub data Entry : Type 0 where
  put : ℕ → ℕ → ℕ → List ℕ → Entry
  mask : ℕ → ℕ → List ℕ → Entry
  amend : ℕ → ℕ → ℕ → List ℕ → Entry

abbrev pub Log : Type 0
Log = List Entry

-- where the part of buffer b of node i starts in the room: buffer 0 is the validity
abbrev pub start_of : List ℕ → List ℕ → ℕ → ℕ → ℕ
start_of plan parts i b = get_or parts (2 * (part_of plan i + b - 1)) 0

-- n bytes from byte o of a part on lie in a room of m bytes
unfoldable pub in_room : ℕ → ℕ → ℕ → ℕ → Bool
in_room start o n m = leb (start + o + n) m

-- a write that would leave the room is not made
module _ (plan parts : List ℕ) where
  unfoldable pub enter : Entry → List ℕ → List ℕ
  enter (put i b o bs) room = cond (in_room (start_of plan parts i b) o (length bs) (length room)) (splice (start_of plan parts i b + o) bs room) room
  enter (mask i p vs) room = cond (in_room (8 * start_of plan parts i 0) p (length vs) (8 * length room)) (put_bits (8 * start_of plan parts i 0 + p) vs room) room
  enter (amend i b o bs) room = cond (in_room (start_of plan parts i b) o (length bs) (length room)) (splice (start_of plan parts i b + o) bs room) room

  unfoldable pub apply : Log → List ℕ → List ℕ
  apply [] room = room
  apply (e ∷ log) room = apply log (enter e room)

  -- a walk that only tries writes nothing
  unfoldable pub apply_if : Bool → Log → List ℕ → List ℕ
  apply_if true log room = apply log room
  apply_if false log room = room

-- ---- walks as small programs

-- ans: 0, or the ground of refusal
pub record Out : Type 0 where
  pub ans : ℕ
  pub counters : List ℕ
  pub log : Log

unfoldable pub fail : ℕ → List ℕ → Out
fail g c = record { ans = g; counters = c; log = [] }

unfoldable pub done : List ℕ → Out
done c = record { ans = 0; counters = c; log = [] }

unfoldable pub wrote : Entry → List ℕ → Out
wrote e c = record { ans = 0; counters = c; log = e ∷ [] }

-- ground g unless the test holds
unfoldable pub need : Bool → ℕ → List ℕ → Out → Out
need b g c o = cond b o (fail g c)

-- a number below m that was looked up, or ground g
unfoldable pub found : ℕ → ℕ → ℕ → List ℕ → (ℕ → Out) → Out
found m x g c k = cond (ltb x m) (k x) (fail g c)

-- one walk and then another, from the counters that the first leaves
unfoldable pub next : Out → (List ℕ → Out) → Out
next o k = cond (eqb o.ans 0) (record { ans = (k o.counters).ans; counters = (k o.counters).counters; log = o.log ++ (k o.counters).log }) o

-- f r, f (r + 1), .., n of them
unfoldable pub each : (ℕ → List ℕ → Out) → ℕ → ℕ → List ℕ → Out
each f zero r c = done c
each f (suc n) r c = next (f r c) (λ c2. each f n (suc r) c2)

-- what a function that walks does: the answer r, the counters and the room after it, from the room before it
pub record Did (plan parts : List ℕ) (write : Bool) (o : Out) (room : List ℕ) (r : ℕ) (tally room2 : List ℕ) : Type 0 where
  pub answer : r ≡ o.ans
  pub counters : tally ≡ o.counters
  pub bytes : room2 ≡ apply_if plan parts write o.log room
