-- A TRIP: a list of up to 256 orders as one. "If each would be accepted when given one after the other, all are carried out and the result is
-- the same; otherwise none is. .. It refuses with the number the first failing order would get, together with that order's place, counted
-- from 0, and with 9, place 0, a list longer than 256 before anything else; an empty list is accepted." Assumes nothing.
use Rattle.std.specs.Prelude.{cond, List, [], ◌∷◌, ℕ, zero, suc, ◌+◌, ◌*◌, ◌/◌, min, length, get_or, leb, eqb}
use Rattle.model.specs.Book.{Call, copy, nulls}
use Rattle.refinement.specs.orders.Order.{Lent, ordered}
use Rattle.refinement.specs.orders.Measure.{Measured, copy_measure, null_measure}

-- "up to 256 orders"
abbrev pub longest : ℕ
longest = 256

-- ---- the orders as words: four each. A copy is 0, its source, start and end; any other first word is an order of nulls, and the second how
-- many. No join has as many sources as 32 bits hold. What is behind the last four is not looked at.

abbrev pub call_of : ℕ → ℕ → ℕ → ℕ → Call
call_of kind a b c = cond (eqb kind 0) (copy (min a 4294967295) b c) (nulls a)

module _ (words : List ℕ) where
  -- order number k
  abbrev pub call_at : ℕ → Call
  call_at k = call_of (get_or words (4 * k) 0) (get_or words (4 * k + 1) 0) (get_or words (4 * k + 2) 0) (get_or words (4 * k + 3) 0)

  -- n orders from number k on
  unfoldable pub calls_from : ℕ → ℕ → List Call
  calls_from zero k = []
  calls_from (suc n) k = call_at k ∷ calls_from n (suc k)

  abbrev pub calls_of : List Call
  calls_of = calls_from (length words / 4) 0

-- ---- carried out

-- ground: 0, or the number of the refusal; place: that of the order which got it
pub record AfterTrip : Type 0 where
  pub refusal : ℕ
  pub place : ℕ
  pub counters : List ℕ
  pub room : List ℕ

module _ (x : Lent) (counters room : List ℕ) where
  -- "otherwise none is": the counters and every byte stay
  abbrev pub given_up : ℕ → ℕ → AfterTrip
  given_up g k = record { refusal = g; place = k; counters = counters; room = room }

  -- the orders from number k on: the first gets the counters c and the room r, each of the others what the one before it left
  unfoldable pub carried : ℕ → List ℕ → List ℕ → List Call → AfterTrip
  carried k c r [] = record { refusal = 0; place = 0; counters = c; room = r }
  carried k c r (o ∷ os) =
      cond (eqb (ordered x c r o).refusal 0) (carried (suc k) (ordered x c r o).counters (ordered x c r o).room os) (given_up (ordered x c r o).refusal k)

  -- A TRIP
  unfoldable pub trip_order : List Call → AfterTrip
  trip_order os = cond (leb (length os) longest) (carried 0 counters room os) (given_up 9 0)

-- ---- what is asked before room is lent: the same over the questions about single orders

pub record AskedTrip : Type 0 where
  pub refusal : ℕ
  pub place : ℕ
  pub counters : List ℕ

abbrev pub order_measure : Lent → List ℕ → Call → Measured
order_measure x c (copy s a e) = copy_measure c x s a e
order_measure x c (nulls n) = null_measure c x n

module _ (x : Lent) (counters : List ℕ) where
  abbrev pub unasked : ℕ → ℕ → AskedTrip
  unasked g k = record { refusal = g; place = k; counters = counters }

  unfoldable pub measured_trip : ℕ → List ℕ → List Call → AskedTrip
  measured_trip k c [] = record { refusal = 0; place = 0; counters = c }
  measured_trip k c (o ∷ os) =
      cond (eqb (order_measure x c o).refusal 0) (measured_trip (suc k) (order_measure x c o).counters os) (unasked (order_measure x c o).refusal k)

  unfoldable pub trip_measure : List Call → AskedTrip
  trip_measure os = cond (leb (length os) longest) (measured_trip 0 counters os) (unasked 9 0)
