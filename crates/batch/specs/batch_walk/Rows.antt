-- What the rows of a list-view and of a dense union take of a child, by lent bytes. Assumes nothing.
use Rattle.std.specs.Prelude.{List, ℕ, suc, ◌+◌}
use Rattle.number.specs.Number.{entry}
use Rattle.walk.specs.State.{Join, place}
use Rattle.walk.specs.Log.{Out}
use Rattle.walk.specs.Copy.{Walk}
use Rattle.batch.specs.Stretch.{stretches}
use Rattle.batch.specs.Batch.{batch_leaf}
use Rattle.batch.specs.batch_walk.Fall.{home_by, takes_of, takes_from}

-- entry r behind `slot` of those of w bytes that stand at `at`
abbrev pub entries_from : ℕ → List ℕ → ℕ → ℕ → ℕ → ℕ
entries_from w body at slot r = entry w body at (slot + r)

-- the stretches of the child of a list-view at node i
abbrev pub list_stretches : Join → Walk → ℕ → ℕ → ℕ → ℕ → List ℕ → Out
list_stretches x child w i slot n =
    stretches (λ a m d. child (suc i) a m d) (λ r. entry w x.body (place x i 3) (slot + r)) (λ r. entry w x.body (place x i 5) (slot + r)) n

-- the stretches of a node k without children that offsets and sizes in the body name
abbrev pub named_stretches : Join → ℕ → ℕ → ℕ → ℕ → ℕ → ℕ → List ℕ → Out
named_stretches x w offsets sizes slot k n =
    stretches (λ a m d. batch_leaf x k a m d) (λ q. entry w x.body offsets (slot + q)) (λ q. entry w x.body sizes (slot + q)) n

-- of row r of a dense union: whether it takes a row of node k, and which
abbrev pub taken_of : List ℕ → List ℕ → ℕ → ℕ → ℕ → ℕ → ℕ
taken_of homes body ids slot k = takes_of (λ r. home_by homes body (ids + (slot + r))) k

abbrev pub taken_from : List ℕ → List ℕ → ℕ → ℕ → ℕ → ℕ → ℕ → ℕ
taken_from homes body ids positions slot k = takes_from (λ r. home_by homes body (ids + (slot + r))) (λ r. entry 4 body positions (slot + r)) k

-- the stretches of node k, which has no children, below a dense union
abbrev pub taken_stretches : Join → List ℕ → ℕ → ℕ → ℕ → ℕ → ℕ → List ℕ → Out
taken_stretches x homes ids positions slot k n =
    stretches (λ a m d. batch_leaf x k a m d) (taken_from homes x.body ids positions slot k) (taken_of homes x.body ids slot k) n
