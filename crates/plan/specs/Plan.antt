-- The plan of a join (walk/specs/State.antt) as the opening plans it, before any dictionary is joined: one kind of word after the other.
-- Assumes nothing.
use Rattle.std.specs.Prelude.{Bool, false, not, cond, List, ℕ, zero, suc, ◌+◌, ◌*◌, ◌/◌, ◌%◌, ◌≤◌, ◌<◌, min, get_or, set, replicate, ltb, eqb}
use Rattle.schema.specs.formats.Code.{is_string, is_view, is_run_end}
use Rattle.columnar.specs.Row.{sum}
use Rattle.columnar.specs.Dictionary.{Dictionary}
use Rattle.model.specs.Opening.{keeps, shared, start_of_keys}
use Rattle.array_data.specs.Tables.{Tables}
use Rattle.plan.specs.dictionaries.Sources.{array_at, dict_at, Countable, capped}
use Rattle.array_data.specs.Sources.{source_count, first_of, nodes_of}
use Rattle.array_data.specs.node_words.Words.{planted}
use Rattle.plan.specs.parts.Parts.{part_word, part_total}
use Rattle.walk.specs.State.{code_of, dictionary_of, end_of, keeps_of}

-- words written one after the other: for each k the word `at k`, by the words that stand there so far
module _ (at : ℕ → ℕ) (value : List ℕ → ℕ → ℕ) where
  unfoldable pub filled : ℕ → List ℕ → List ℕ
  filled zero plan = plan
  filled (suc k) plan = set (filled k plan) (at k) (value (filled k plan) k)

-- 1 for true
abbrev pub flag : Bool → ℕ
flag b = cond b 1 0

-- ---- the type tree: crate `array_data::node_words`; all else is 0

unfoldable pub with_tree : List ℕ → List ℕ
with_tree tree = filled (λ q. q) (λ plan q. get_or tree q 0) 256 (replicate 872 0)

-- ---- which nodes keep nulls

-- the last node below p whose subtree holds node i; 0 where there is none
unfoldable pub holder : List ℕ → ℕ → ℕ → ℕ
holder plan zero i = 0
holder plan (suc p) i = cond (ltb i (end_of plan p)) p (holder plan p i)

-- the node above node i
abbrev pub parent_of : List ℕ → ℕ → ℕ
parent_of plan i = holder plan i i

-- the caller or the node above asks for the nulls of node i: "this passes to union, list-view and run-value children, not to run ends and
-- dictionaries"; a dictionary's values are the node behind its keys
unfoldable pub asked : List ℕ → Bool → ℕ → Bool
asked plan keep zero = keep
asked plan keep (suc i) = cond (eqb (dictionary_of plan i) 0) (not (eqb (keeps_of plan (parent_of plan (suc i))) 0)) false

-- node i is the run ends of the run-end node before it
unfoldable pub is_ends : List ℕ → ℕ → Bool
is_ends plan zero = false
is_ends plan (suc i) = is_run_end (code_of plan i)

-- "the number of data buffers in earlier sources" than source s, at node i; a source has at most 32, so that 33 stands for any number above
unfoldable pub buffers_up_to : List ℕ → List ℕ → ℕ → ℕ → ℕ
buffers_up_to places sources i s = sum (λ j. min (get_or places (9 * (first_of sources j + i) + 8) 0) 33) s

module _ (x : Tables) (sources : List ℕ) (m : ℕ) where
  -- "A node keeps nulls if the caller says so or any source has a null at that node"; run ends keep none
  unfoldable pub keep_word : Bool → List ℕ → ℕ → ℕ
  keep_word keep plan i = cond (is_ends plan i) 0 (flag (keeps (asked plan keep i) m (array_at x sources i)))

  unfoldable pub with_keeps : Bool → ℕ → List ℕ → List ℕ
  with_keeps keep n plan = filled (λ i. 8 * i + 5) (keep_word keep) n plan

  -- ---- which dictionaries are joined

  -- the dictionaries whose keys are node i, one for each source
  abbrev pub dictionaries_at : List ℕ → ℕ → ℕ → Dictionary (Unit {0})
  dictionaries_at plan i = dict_at x sources (is_string (code_of plan (suc i))) (suc i)

  -- "Only if all neighbouring sources share is source 0's dictionary kept; else all are joined"
  unfoldable pub joined_word : List ℕ → ℕ → ℕ
  joined_word plan i = cond (eqb (dictionary_of plan i) 0) 0 (flag (not (shared m (dictionaries_at plan i))))

  unfoldable pub with_joined : ℕ → List ℕ → List ℕ
  with_joined n plan = filled (λ i. 8 * i + 7) joined_word n plan

  -- ---- what is added to keys and buffer numbers

  -- "A view's buffer index rises by the number of data buffers in earlier sources"; "start is 0 if shared, else the entries of earlier
  -- sources", or the largest number of 64 bits, which ground 8 refuses
  unfoldable pub base_word : List ℕ → ℕ → ℕ → ℕ
  base_word plan s i =
      cond (is_view (code_of plan i)) (buffers_up_to x.places sources i s)
      (cond (eqb (dictionary_of plan i) 0) 0 (capped (start_of_keys m (dictionaries_at plan i) s)))

  unfoldable pub with_bases : List ℕ → List ℕ
  with_bases plan = filled (λ q. 352 + q) (λ words q. base_word words (q / 32) (q % 32)) (32 * m) plan

-- ---- parts, and how many sources, nodes and parts there are

unfoldable pub with_counts : ℕ → ℕ → List ℕ → List ℕ
with_counts m n plan = set (set plan 864 m) 865 n

-- "Parts stand in tree order": the part of each node's first buffer
unfoldable pub with_parts : ℕ → List ℕ → List ℕ
with_parts n plan = filled (λ i. 8 * i + 6) part_word n plan

unfoldable pub with_total : List ℕ → List ℕ
with_total plan = set plan 866 (part_total plan)

-- all words but the choice: the type tree is source 0's, and no node has rows yet
unfoldable pub laid_out : List ℕ → List ℕ → Tables → List ℕ → Bool → List ℕ
laid_out formats schema x sources keep =
    let m = source_count sources in
    let n = nodes_of sources 0 in
    let tree = with_counts m n (with_tree (planted formats schema (first_of sources 0) n)) in
    with_total (with_parts n (with_bases x sources m (with_joined x sources m n (with_keeps x sources m keep n tree))))

-- THE STATE AS IT IS PLANNED: word 867 is 1 where one run for a gap is chosen
unfoldable pub planned : List ℕ → List ℕ → Tables → List ℕ → Bool → Bool → List ℕ
planned formats schema x sources keep gaps = set (laid_out formats schema x sources keep) 867 (flag gaps)

-- ---- what the grounds 9 to 12 give

-- 1 to 16 sources, at most 32 nodes, and nulls that can be counted at every node
pub record Plannable (x : Tables) (sources : List ℕ) : Type 0 where
  pub few : source_count sources ≤ 16
  pub small : nodes_of sources 0 ≤ 32
  pub countable : (s i : ℕ) → s < source_count sources → i < nodes_of sources 0 → Countable x (first_of sources s + i)
