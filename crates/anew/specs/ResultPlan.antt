-- The plan of a column that is written anew: the words of its type, "a node keeping nulls exactly where the node it comes from has one",
-- its dictionaries in parts or kept, and its parts (02, W1). Assumes nothing.
use Rattle.std.specs.Prelude.{Bool, cond, ◌&&◌, List, ℕ, ◌+◌, ◌*◌, ◌-◌, ◌≤◌, ◌<◌, get_or, set, ltb, eqb}
use Rattle.columnar.specs.Array.{null_count_of}
use Rattle.array_data.specs.Tables.{Tables}
use Rattle.plan.specs.dictionaries.Sources.{array_of, Countable}
use Rattle.array_data.specs.node_words.Words.{planted}
use Rattle.walk.specs.State.{dictionary_of}
use Rattle.plan.specs.parts.Parts.{parts_before}
use Rattle.plan.specs.Plan.{filled, flag, with_tree, with_counts, with_parts, with_total}

-- ---- which nodes keep nulls

-- from: for each node of the result one more than the number of the column's node that it comes from; 0 where it is new or holds run ends.
-- It comes from a node with a null, among all that node's rows
unfoldable pub keeps_from : Tables → ℕ → List ℕ → ℕ → Bool
keeps_from x first from i = ltb 0 (get_or from i 0) && ltb 0 (null_count_of (array_of x (first + (get_or from i 0 - 1))))

-- the nulls of those nodes can be counted
pub record Comes (x : Tables) (first n : ℕ) (from : List ℕ) : Type 0 where
  pub low : (i : ℕ) → i < n → get_or from i 0 ≤ 32
  pub countable : (i : ℕ) → i < n → 0 < get_or from i 0 → Countable x (first + (get_or from i 0 - 1))

unfoldable pub with_nulls : (ℕ → Bool) → ℕ → List ℕ → List ℕ
with_nulls keep n plan = filled (λ i. 8 * i + 5) (λ s i. flag (keep i)) n plan

-- ---- dictionaries: all in parts, or all kept

unfoldable pub dictionary_word : Bool → List ℕ → ℕ → ℕ
dictionary_word joined plan i = cond (eqb (dictionary_of plan i) 0) 0 (flag joined)

unfoldable pub with_dictionaries : Bool → ℕ → List ℕ → List ℕ
with_dictionaries joined n plan = filled (λ i. 8 * i + 7) (dictionary_word joined) n plan

-- ---- the whole

-- the word of the first node from which on all are kept, named in the column's body without a part; 0 where there is none
abbrev pub kept_word : ℕ
kept_word = 868

-- all but the parts
unfoldable pub typed_anew : List ℕ → List ℕ → ℕ → ℕ → (ℕ → Bool) → Bool → ℕ → List ℕ
typed_anew formats schema target n keep joined keptFrom =
    set (with_dictionaries joined n (with_nulls keep n (with_counts 1 n (with_tree (planted formats schema target n))))) kept_word keptFrom

-- THE PLAN OF A RESULT whose type is that of the n nodes from node `target` on, for one source; bases stay 0
unfoldable pub plan_anew : List ℕ → List ℕ → ℕ → ℕ → (ℕ → Bool) → Bool → ℕ → List ℕ
plan_anew formats schema target n keep joined keptFrom = with_total (with_parts n (typed_anew formats schema target n keep joined keptFrom))

-- ---- the same by the words of its nodes

unfoldable pub words_anew : List ℕ → List ℕ → ℕ → ℕ → (ℕ → Bool) → Bool → List ℕ
words_anew formats schema target n keep joined = with_parts n (with_dictionaries joined n (with_nulls keep n (planted formats schema target n)))

-- a plan by the words of its n nodes, which decide its parts
unfoldable pub plan_by : List ℕ → ℕ → ℕ → List ℕ
plan_by words n keptFrom = set (set (with_counts 1 n (with_tree words)) 866 (parts_before words n)) kept_word keptFrom
