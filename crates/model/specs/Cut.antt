-- An order cut in two: the copies start .. middle and middle .. end of one source against the copy start .. end, by what is held after
-- them and by the finished columns. Assumes nothing.
use Rattle.std.specs.Prelude.{◌≡◌, ℕ, suc, ◌≤◌}
use mathlib.Core.List.{Memᴰ}
use Rattle.columnar.specs.Types.{Plain, fixed, string, Ty, t_plain, t_view, t_list_view, t_list, t_sparse, t_dense, t_run_end, t_dictionary}
use Rattle.columnar.specs.Array.{Array}
use Rattle.columnar.specs.Reading.{Body, Column}
use Rattle.model.specs.Grounds.{Counts, rows_of, bytes_of, kid_of}

-- where a node stands: below no run-end node; below one; below a list-view or list that itself stands below one
pub data Under : Type 0 where
  outside : Under
  in_runs : Under
  exempt : Under

abbrev pub under_runs : Under → Under
under_runs outside = in_runs
under_runs in_runs = in_runs
under_runs exempt = exempt

abbrev pub under_list : Under → Under
under_list outside = outside
under_list in_runs = exempt
under_list exempt = exempt

-- x runs after the single order, y after the two halves
abbrev pub OneRunMore : Under → ℕ → ℕ → Type 0
OneRunMore outside x y = y ≤ suc x
OneRunMore in_runs x y = y ≤ suc x
OneRunMore exempt x y = Unit {0}

-- x is held after the single order, y after the two halves: no more rows
pub record CutNode (below : Counts → Counts → Type 0) (x y : Counts) : Type 0 where
  pub rows_less : rows_of x ≤ rows_of y
  pub below_less : below x y

-- no more bytes of a byte string
abbrev pub CutPlain : Plain → Counts → Counts → Type 0
CutPlain (fixed k) x y = Unit {0}
CutPlain (string w) x y = bytes_of x ≤ bytes_of y

-- the bytes, and the nodes below; a run-end node has as many runs as values
abbrev pub CutBelow : (t : Ty) → Under → Counts → Counts → Type 0
CutBelow (t_plain p) u x y = CutPlain p x y
CutBelow t_view u x y = Unit {0}
CutBelow (t_list_view w t) u x y = CutNode (CutBelow t (under_list u)) (kid_of x 0) (kid_of y 0)
CutBelow (t_list w t) u x y = CutNode (CutBelow t (under_list u)) (kid_of x 0) (kid_of y 0)
CutBelow (t_sparse ids nullable f) u x y = (e : ℕ) → Memᴰ e ids → CutNode (CutBelow (f e) u) (kid_of x e) (kid_of y e)
CutBelow (t_dense ids nullable f) u x y = (e : ℕ) → CutNode (CutBelow (f e) u) (kid_of x e) (kid_of y e)
CutBelow (t_run_end w t) u x y = OneRunMore u (rows_of (kid_of x 0)) (rows_of (kid_of y 0)) × CutNode (CutBelow t (under_runs u)) (kid_of x 0) (kid_of y 0)
CutBelow (t_dictionary k p) u x y = Unit {0}

-- WHAT IS HELD AFTER THE SINGLE ORDER AND AFTER ITS HALVES: no node of the single order has more, and of the halves no run-end node has
-- more than one run more, but for those below a list-view or list that itself stands below a run-end node
abbrev pub Cut : Ty → Under → Counts → Counts → Type 0
Cut t u = CutNode (CutBelow t u)

-- THE RUNS of the finished columns x, of the single order, and y, of its halves: each run-end node of y has at most one more
abbrev pub RunsCut : (t : Ty) → Under → Body t → Body t → Type 0
RunsCut (t_plain p) u x y = Unit {0}
RunsCut t_view u x y = Unit {0}
RunsCut (t_list_view w t) u x y = RunsCut t (under_list u) x.child.body y.child.body
RunsCut (t_list w t) u x y = RunsCut t (under_list u) x.child.body y.child.body
RunsCut (t_sparse ids nullable f) u x y = (e : ℕ) → Memᴰ e ids → RunsCut (f e) u (x.children e).body (y.children e).body
RunsCut (t_dense ids nullable f) u x y = (e : ℕ) → Memᴰ e ids → RunsCut (f e) u (x.children e).body (y.children e).body
RunsCut (t_run_end w t) u x y = OneRunMore u x.ends.len y.ends.len × RunsCut t (under_runs u) x.values.body y.values.body
RunsCut (t_dictionary k p) u x y = Unit {0}

-- no run-end node in the tree
abbrev pub NoRuns : Ty → Type 0
NoRuns (t_plain p) = Unit {0}
NoRuns t_view = Unit {0}
NoRuns (t_list_view w t) = NoRuns t
NoRuns (t_list w t) = NoRuns t
NoRuns (t_sparse ids nullable f) = (e : ℕ) → Memᴰ e ids → NoRuns (f e)
NoRuns (t_dense ids nullable f) = (e : ℕ) → Memᴰ e ids → NoRuns (f e)
NoRuns (t_run_end w t) = ⊥
NoRuns (t_dictionary k p) = Unit {0}

-- two arrays with the same length, offset and validity, and bodies that are the same
pub record SameArray {B : Type 0} (same : B → B → Type 0) (x y : Array B) : Type 0 where
  pub len_same : x.len ≡ y.len
  pub off_same : x.off ≡ y.off
  pub valid_same : x.valid ≡ y.valid
  pub body_same : same x.body y.body

-- the same buffers; a union's children only where their ids are declared; where a dictionary's values begin is not compared
abbrev pub SameBody : (t : Ty) → Body t → Body t → Type 0
SameBody (t_plain p) x y = x ≡ y
SameBody t_view x y = x ≡ y
SameBody (t_list_view w t) x y = (x.offsets ≡ y.offsets) × (x.sizes ≡ y.sizes) × SameArray (SameBody t) x.child y.child
SameBody (t_list w t) x y = (x.offsets ≡ y.offsets) × SameArray (SameBody t) x.child y.child
SameBody (t_sparse ids nullable f) x y = (x.ids ≡ y.ids) × ((e : ℕ) → Memᴰ e ids → SameArray (SameBody (f e)) (x.children e) (y.children e))
SameBody (t_dense ids nullable f) x y =
    (x.ids ≡ y.ids) × (x.positions ≡ y.positions) × ((e : ℕ) → Memᴰ e ids → SameArray (SameBody (f e)) (x.children e) (y.children e))
SameBody (t_run_end w t) x y = (x.ends ≡ y.ends) × SameArray (SameBody t) x.values y.values
SameBody (t_dictionary k p) x y = (x.keys ≡ y.keys) × (x.values ≡ y.values)

-- THE SAME COLUMN, byte for byte
abbrev pub SameColumn : (t : Ty) → Column t → Column t → Type 0
SameColumn t = SameArray (SameBody t)
