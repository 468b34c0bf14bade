-- A sliced list-view of numbers, a sliced dense union and a sliced list-view of list-views, some rows of each copied by stretches. Assumes nothing.
use Rattle.std.specs.Prelude.{List, [], ◌∷◌, ◌++◌, ℕ, replicate}
use Rattle.walk.specs.State.{Join}
use Rattle.walk.specs.Log.{Out, apply}
use Rattle.walk.specs.Copy.{copy_walk}
use Rattle.batch.specs.Batch.{batch_walk_of}

-- rows 2 2, 0 0 (a null), 4 1, 5 0 and 1 3 of the child are the stretches 2 3 and 1 3
abbrev pub sliced : Join
sliced =
    record {
      plan = (17 ∷ 0 ∷ 2 ∷ 0 ∷ 0 ∷ 0 ∷ 0 ∷ 0 ∷ 3 ∷ 0 ∷ 2 ∷ 0 ∷ 0 ∷ 1 ∷ 3 ∷ 0 ∷ []) ++ replicate 849 0 ++ (2 ∷ []);
      parts = 0 ∷ 24 ∷ 24 ∷ 24 ∷ 48 ∷ 2 ∷ 50 ∷ 16 ∷ [];
      lengths = 6 ∷ 1 ∷ 9 ∷ 1 ∷ [];
      places = 0 ∷ 0 ∷ 0 ∷ 0 ∷ 0 ∷ 28 ∷ 0 ∷ 0 ∷ 0 ∷ 1 ∷ 56 ∷ 0 ∷ 58 ∷ 0 ∷ 0 ∷ 0 ∷ 0 ∷ 0 ∷ [];
      body = 99 ∷ 0 ∷ 0 ∷ 0 ∷ 99 ∷ 0 ∷ 0 ∷ 0 ∷ 2 ∷ 0 ∷ 0 ∷ 0 ∷ 0 ∷ 0 ∷ 0 ∷ 0 ∷ 4 ∷ 0 ∷ 0 ∷ 0 ∷ 5 ∷ 0 ∷ 0 ∷ 0 ∷ 1 ∷ 0 ∷ 0 ∷ 0 ∷ 1 ∷ 0 ∷ 0 ∷ 0 ∷ 1 ∷ 0 ∷ 0 ∷ 0 ∷ 2 ∷ 0 ∷ 0 ∷ 0 ∷ 0 ∷ 0 ∷ 0 ∷ 0 ∷ 1 ∷ 0 ∷ 0 ∷ 0 ∷ 0 ∷ 0 ∷ 0 ∷ 0 ∷ 3 ∷ 0 ∷ 0 ∷ 0 ∷ 110 ∷ 3 ∷ 10 ∷ 0 ∷ 11 ∷ 0 ∷ 12 ∷ 0 ∷ 13 ∷ 0 ∷ 14 ∷ 0 ∷ 15 ∷ 0 ∷ 16 ∷ 0 ∷ 17 ∷ 0 ∷ 18 ∷ 0 ∷ 19 ∷ 0 ∷ [];
      first = 0;
      source = 0;
    }

-- the answer, the counters and the room after a walk
abbrev pub comes_to : Join → Out → List ℕ → ℕ × List ℕ × List ℕ
comes_to x o room = (o.ans, o.counters, apply x.plan x.parts o.log room)

abbrev pub by_rows : ℕ × List ℕ × List ℕ
by_rows = comes_to sliced (copy_walk sliced 2 0 1 5 (replicate 96 0)) (replicate 66 255)

abbrev pub by_stretches : ℕ × List ℕ × List ℕ
by_stretches = comes_to sliced (batch_walk_of sliced 0 1 5 (replicate 96 0)) (replicate 66 255)

-- the rows of the first child stand at 2, 3 and 4, one stretch, those of the second at 1, 2 and 0
abbrev pub union : Join
union =
    record {
      plan = (22 ∷ 0 ∷ 3 ∷ 0 ∷ 0 ∷ 0 ∷ 0 ∷ 0 ∷ 3 ∷ 0 ∷ 2 ∷ 0 ∷ 0 ∷ 1 ∷ 3 ∷ 0 ∷ 12 ∷ 0 ∷ 3 ∷ 5 ∷ 0 ∷ 0 ∷ 4 ∷ 0 ∷ []) ++ replicate 841 0 ++ (3 ∷ []);
      parts = 0 ∷ 6 ∷ 6 ∷ 24 ∷ 30 ∷ 1 ∷ 31 ∷ 6 ∷ 37 ∷ 16 ∷ 53 ∷ 7 ∷ [];
      lengths = 6 ∷ 1 ∷ 7 ∷ 1 ∷ 3 ∷ 0 ∷ [];
      places = 0 ∷ 0 ∷ 0 ∷ 0 ∷ 0 ∷ 7 ∷ 0 ∷ 0 ∷ 0 ∷ 1 ∷ 35 ∷ 0 ∷ 36 ∷ 0 ∷ 0 ∷ 0 ∷ 0 ∷ 0 ∷ 0 ∷ 0 ∷ 0 ∷ 52 ∷ 0 ∷ 68 ∷ 0 ∷ 0 ∷ 0 ∷ [];
      body = 9 ∷ 0 ∷ 0 ∷ 5 ∷ 0 ∷ 5 ∷ 5 ∷ 9 ∷ 0 ∷ 0 ∷ 0 ∷ 2 ∷ 0 ∷ 0 ∷ 0 ∷ 3 ∷ 0 ∷ 0 ∷ 0 ∷ 1 ∷ 0 ∷ 0 ∷ 0 ∷ 4 ∷ 0 ∷ 0 ∷ 0 ∷ 2 ∷ 0 ∷ 0 ∷ 0 ∷ 0 ∷ 0 ∷ 0 ∷ 0 ∷ 174 ∷ 30 ∷ 0 ∷ 31 ∷ 0 ∷ 32 ∷ 0 ∷ 33 ∷ 0 ∷ 34 ∷ 0 ∷ 35 ∷ 0 ∷ 36 ∷ 0 ∷ 37 ∷ 0 ∷ 0 ∷ 0 ∷ 0 ∷ 0 ∷ 2 ∷ 0 ∷ 0 ∷ 0 ∷ 3 ∷ 0 ∷ 0 ∷ 0 ∷ 7 ∷ 0 ∷ 0 ∷ 0 ∷ 65 ∷ 66 ∷ 67 ∷ 68 ∷ 69 ∷ 70 ∷ 71 ∷ [];
      first = 0;
      source = 0;
    }

abbrev pub union_by_rows : ℕ × List ℕ × List ℕ
union_by_rows = comes_to union (copy_walk union 2 0 0 6 (replicate 96 0)) (replicate 60 255)

abbrev pub union_by_stretches : ℕ × List ℕ × List ℕ
union_by_stretches = comes_to union (batch_walk_of union 0 0 6 (replicate 96 0)) (replicate 60 255)

-- rows 2 2, 0 0, 4 1 and 0 2 of a list-view of list-views are the stretches 2 3 and 0 2, whose rows are 3 3 and, of the second one, 0 1 and 5 2
abbrev pub nested : Join
nested =
    record {
      plan = (17 ∷ 0 ∷ 3 ∷ 0 ∷ 0 ∷ 0 ∷ 0 ∷ 0 ∷ 17 ∷ 0 ∷ 3 ∷ 0 ∷ 0 ∷ 0 ∷ 2 ∷ 0 ∷ 3 ∷ 0 ∷ 3 ∷ 0 ∷ 0 ∷ 1 ∷ 5 ∷ 0 ∷ []) ++ replicate 841 0 ++ (3 ∷ []);
      parts = 0 ∷ 16 ∷ 16 ∷ 16 ∷ 32 ∷ 20 ∷ 52 ∷ 20 ∷ 72 ∷ 1 ∷ 73 ∷ 12 ∷ [];
      lengths = 5 ∷ 1 ∷ 6 ∷ 1 ∷ 9 ∷ 1 ∷ [];
      places = 0 ∷ 0 ∷ 0 ∷ 0 ∷ 0 ∷ 24 ∷ 0 ∷ 0 ∷ 0 ∷ 0 ∷ 0 ∷ 0 ∷ 48 ∷ 0 ∷ 76 ∷ 0 ∷ 0 ∷ 0 ∷ 1 ∷ 104 ∷ 0 ∷ 106 ∷ 0 ∷ 0 ∷ 0 ∷ 0 ∷ 0 ∷ [];
      body = 99 ∷ 0 ∷ 0 ∷ 0 ∷ 99 ∷ 0 ∷ 0 ∷ 0 ∷ 2 ∷ 0 ∷ 0 ∷ 0 ∷ 0 ∷ 0 ∷ 0 ∷ 0 ∷ 4 ∷ 0 ∷ 0 ∷ 0 ∷ 0 ∷ 0 ∷ 0 ∷ 0 ∷ 1 ∷ 0 ∷ 0 ∷ 0 ∷ 1 ∷ 0 ∷ 0 ∷ 0 ∷ 2 ∷ 0 ∷ 0 ∷ 0 ∷ 0 ∷ 0 ∷ 0 ∷ 0 ∷ 1 ∷ 0 ∷ 0 ∷ 0 ∷ 2 ∷ 0 ∷ 0 ∷ 0 ∷ 99 ∷ 0 ∷ 0 ∷ 0 ∷ 0 ∷ 0 ∷ 0 ∷ 0 ∷ 5 ∷ 0 ∷ 0 ∷ 0 ∷ 3 ∷ 0 ∷ 0 ∷ 0 ∷ 1 ∷ 0 ∷ 0 ∷ 0 ∷ 5 ∷ 0 ∷ 0 ∷ 0 ∷ 0 ∷ 0 ∷ 0 ∷ 0 ∷ 1 ∷ 0 ∷ 0 ∷ 0 ∷ 1 ∷ 0 ∷ 0 ∷ 0 ∷ 2 ∷ 0 ∷ 0 ∷ 0 ∷ 2 ∷ 0 ∷ 0 ∷ 0 ∷ 0 ∷ 0 ∷ 0 ∷ 0 ∷ 1 ∷ 0 ∷ 0 ∷ 0 ∷ 0 ∷ 0 ∷ 0 ∷ 0 ∷ 110 ∷ 3 ∷ 10 ∷ 0 ∷ 11 ∷ 0 ∷ 12 ∷ 0 ∷ 13 ∷ 0 ∷ 14 ∷ 0 ∷ 15 ∷ 0 ∷ 16 ∷ 0 ∷ 17 ∷ 0 ∷ 18 ∷ 0 ∷ 19 ∷ 0 ∷ [];
      first = 0;
      source = 0;
    }

abbrev pub nested_by_rows : ℕ × List ℕ × List ℕ
nested_by_rows = comes_to nested (copy_walk nested 8 0 1 4 (replicate 96 0)) (replicate 85 255)

abbrev pub nested_by_stretches : ℕ × List ℕ × List ℕ
nested_by_stretches = comes_to nested (batch_walk_of nested 0 1 4 (replicate 96 0)) (replicate 85 255)
