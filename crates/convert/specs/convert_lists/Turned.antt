-- Which targets a converter takes: the same child below the other kind of list, of the same width (02, W4). Assumes nothing.
use Rattle.std.specs.Prelude.{Bool, ◌&&◌, List, ℕ, suc, ◌+◌, ◌-◌, ltb, eqb}
use Rattle.columnar.specs.Row.{seg}
use Rattle.schema.specs.formats.Code.{is_list_view, is_list}
use Rattle.schema.specs.Tree.{code_of, ceilings, typed, same_type}

-- "the same width": +vl to +l, +vL to +L
unfoldable pub list_of : List ℕ → List ℕ → ℕ → ℕ → Bool
list_of formats schema first target = is_list_view (code_of formats schema first 0) && eqb (code_of formats schema target 0) (code_of formats schema first 0 + 2)

-- .. and the other way
unfoldable pub view_of : List ℕ → List ℕ → ℕ → ℕ → Bool
view_of formats schema first target = is_list (code_of formats schema first 0) && eqb (code_of formats schema target 0 + 2) (code_of formats schema first 0)

-- the tn nodes from node `target` on are an admitted type, whose child is of the type of the child of the n nodes from node `first` on
unfoldable pub same_child : List ℕ → List ℕ → ℕ → ℕ → ℕ → ℕ → Bool
same_child formats schema first n target tn =
    ceilings formats schema target tn && typed formats schema target tn && same_type formats schema (suc target) (tn - 1) (suc first) (n - 1) && eqb n tn

-- nodes are named by numbers of 32 bits, a child too
unfoldable pub child_named : ℕ → Bool
child_named k = ltb (suc k) 4294967296

unfoldable pub same_below : List ℕ → List ℕ → ℕ → ℕ → ℕ → ℕ → Bool
same_below formats schema first n target tn = child_named first && child_named target && same_child formats schema first n target tn

-- THE TARGET IS THE LIST of this list-view: ground 10 where not
unfoldable pub to_list : List ℕ → List ℕ → ℕ → ℕ → ℕ → ℕ → Bool
to_list formats schema first n target tn = list_of formats schema first target && same_below formats schema first n target tn

-- THE TARGET IS THE LIST-VIEW of this list: ground 10 where not
unfoldable pub to_view : List ℕ → List ℕ → ℕ → ℕ → ℕ → ℕ → Bool
to_view formats schema first n target tn = view_of formats schema first target && same_below formats schema first n target tn

-- each node of the result comes from that of the same number
abbrev pub all_nodes : List ℕ
all_nodes = seg suc 0 32
