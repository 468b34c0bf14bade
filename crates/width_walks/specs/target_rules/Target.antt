-- A type that differs from a column's "in the widths named" alone (W13): those of byte strings, list-views, lists, run ends and keys, "these between
-- any integer formats". Both type trees stand in one table of nodes. Assumes nothing.
use Rattle.std.specs.Prelude.{◌≡◌, Bool, true, false, ◌&&◌, ◌||◌, List, ℕ, zero, suc, ◌%◌, ◌<◌, eqb}
use Rattle.schema.specs.formats.Code.{is_integer, is_string, is_view, is_list_view, is_list, is_union, is_run_end}
use Rattle.schema.specs.Tree.{flag, children, dictionary, is_values, code_of, ids_of, ceilings, typed, same_flag, same_formats}
use Rattle.columnar.specs.Test.{every}

-- "Run ends are `s`, `i` or `l`."
unfoldable pub is_ends : ℕ → Bool
is_ends c = eqb c 3 || eqb c 5 || eqb c 7

-- two byte strings of one kind: z and Z, which are odd codes, or u and U
unfoldable pub same_text : ℕ → ℕ → Bool
same_text c c' = is_string c && is_string c' && eqb (c % 2) (c' % 2)

-- two codes of one kind of entries, in any widths; keys where the node has a dictionary, run ends where it stands behind a run-end node
unfoldable pub other_width : Bool → Bool → ℕ → ℕ → Bool
other_width keyed ended c c' =
    same_text c c'
    || (is_list_view c && is_list_view c')
    || (is_list c && is_list c')
    || (keyed && is_integer c && is_integer c')
    || (ended && is_ends c && is_ends c')

module _ (formats schema : List ℕ) (first : ℕ) where
  -- node i is run ends
  unfoldable pub ends_at : ℕ → Bool
  ends_at zero = false
  ends_at (suc i) = is_run_end (code_of formats schema first i)

module _ (formats schema : List ℕ) (first first' : ℕ) where
  -- the nodes i of both trees have the same format, ids included, or one of another width
  unfoldable pub like_formats : ℕ → Bool
  like_formats i =
      same_formats formats schema first first' i
      || other_width (eqb (dictionary schema first i) 1) (ends_at formats schema first i) (code_of formats schema first i) (code_of formats schema first' i)

  -- .. and as many children, both a dictionary or neither, and the same flag, as ground 11 compares them
  unfoldable pub like_node : ℕ → Bool
  like_node i =
      like_formats i
      && eqb (children schema first i) (children schema first' i)
      && eqb (dictionary schema first i) (dictionary schema first' i)
      && same_flag schema first first' i

-- THE TEST of a target, n' nodes from node first' on, for a column's type, n nodes from node `first` on: ground 10 where it fails
unfoldable pub is_target : List ℕ → List ℕ → ℕ → ℕ → ℕ → ℕ → Bool
is_target formats schema first n first' n' =
    eqb n n' && ceilings formats schema first' n' && typed formats schema first' n' && every (like_node formats schema first first') n

-- ---- the same as a statement

-- two formats that are the same, or differ in a width named
pub data CodeWidths (keyed ended : Bool) (c c' : ℕ) : Type 0 where
  same_code : c ≡ c' → CodeWidths keyed ended c c'
  strings : is_string c ≡ true → is_string c' ≡ true → c % 2 ≡ c' % 2 → CodeWidths keyed ended c c'
  list_views : is_list_view c ≡ true → is_list_view c' ≡ true → CodeWidths keyed ended c c'
  plain_lists : is_list c ≡ true → is_list c' ≡ true → CodeWidths keyed ended c c'
  keys : keyed ≡ true → is_integer c ≡ true → is_integer c' ≡ true → CodeWidths keyed ended c c'
  run_ends_lem : ended ≡ true → is_ends c ≡ true → is_ends c' ≡ true → CodeWidths keyed ended c c'

-- the nodes i of a column's tree and of a target's
pub record NodeWidths (formats schema : List ℕ) (first first' i : ℕ) : Type 0 where
  pub code_widths : CodeWidths (eqb (dictionary schema first i) 1) (ends_at formats schema first i) (code_of formats schema first i) (code_of formats schema first' i)
  pub same_ids_lem : is_union (code_of formats schema first i) ≡ true → ids_of formats schema first i ≡ ids_of formats schema first' i
  pub same_children : children schema first i ≡ children schema first' i
  pub same_dictionary : dictionary schema first i ≡ dictionary schema first' i
  pub same_flag_lem : (i ≡ 0 → ⊥) → is_values schema first i ≡ false → flag schema first i ≡ flag schema first' i

-- A TARGET THAT DIFFERS IN THE WIDTHS NAMED ALONE
pub record Target (formats schema : List ℕ) (first n first' n' : ℕ) : Type 0 where
  pub same_size : n ≡ n'
  pub low : ceilings formats schema first' n' ≡ true
  pub of_type : typed formats schema first' n' ≡ true
  pub nodes : (i : ℕ) → i < n → NodeWidths formats schema first first' i

-- ---- what types do not show

-- byte strings are both z or Z, or both u or U, and views both vz or both vu
pub record SameLetters (c c' : ℕ) : Type 0 where
  pub texts : is_string c ≡ true → is_string c' ≡ true → c % 2 ≡ c' % 2
  pub views : is_view c ≡ true → is_view c' ≡ true → c ≡ c'

-- as many nodes, children and dictionaries, the same flags, the letters that types do not tell apart, and a target that is a type
pub record Alike (formats schema : List ℕ) (first n first' n' : ℕ) : Type 0 where
  pub same_size : n ≡ n'
  pub low : ceilings formats schema first' n' ≡ true
  pub of_type : typed formats schema first' n' ≡ true
  pub same_children : (i : ℕ) → i < n → children schema first i ≡ children schema first' i
  pub same_dictionary : (i : ℕ) → i < n → dictionary schema first i ≡ dictionary schema first' i
  pub same_flag_lem : (i : ℕ) → i < n → (i ≡ 0 → ⊥) → is_values schema first i ≡ false → flag schema first i ≡ flag schema first' i
  pub letters : (i : ℕ) → i < n → SameLetters (code_of formats schema first i) (code_of formats schema first' i)
