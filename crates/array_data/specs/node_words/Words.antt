-- A lent type tree (docs/FORMAT.md) as numbers, 8 a node: 0 the format's code, 1 whether it has a dictionary, 2 where its subtree ends,
-- 3 the id it has as the child of a union, 4 whether it is nullable. Assumes nothing.
use Rattle.std.specs.Prelude.{cond, List, [], ◌∷◌, ℕ, zero, suc, ◌+◌, ◌*◌, ◌/◌, ◌%◌, get_or, ltb, eqb}
use Rattle.std.proofs.Math.Option
use Rattle.columnar.specs.Row.{seg}
use Rattle.schema.specs.Tree.{flag, dictionary, end_of, code_of, ids_of}

-- word j of node i; 0 past the table's end
abbrev pub word : List ℕ → ℕ → ℕ → ℕ
word tree i j = get_or tree (8 * i + j) 0

module _ (schema : List ℕ) (first n : ℕ) where
  -- the id of node i among children that begin at node k and have these ids; 0 where it is none of them
  unfoldable pub id_from : List ℕ → ℕ → ℕ → ℕ
  id_from [] k i = 0
  id_from (d ∷ ds) k i = cond (eqb k i) d (id_from ds (end_of schema first n k) i)

module _ (formats schema : List ℕ) (first n : ℕ) where
  -- the id that node i has as a child of node p
  abbrev pub id_under : ℕ → ℕ → ℕ
  id_under p i = id_from schema first n (Option.get_or (ids_of formats schema first p) []) (suc p) i

  -- .. of the last node below p whose subtree holds node i
  unfoldable pub id_below : ℕ → ℕ → ℕ
  id_below zero i = 0
  id_below (suc p) i = cond (ltb i (end_of schema first n p)) (id_under p i) (id_below p i)

  -- the id that node i has as a child of the union it stands in, which is the last earlier node whose subtree holds it; 0 where it has none
  abbrev pub child_id : ℕ → ℕ
  child_id i = id_below i i

  -- word j of node i, 0 for a node that the tree does not have
  unfoldable pub word_of : ℕ → ℕ → ℕ
  word_of i j = cond (ltb i n) (get_or (code_of formats schema first i ∷ dictionary schema first i ∷ end_of schema first n i ∷ child_id i ∷ flag schema first i ∷ []) j 0) 0

  -- THE TABLE: 32 nodes
  unfoldable pub planted : List ℕ
  planted = seg (λ q. word_of (q / 8) (q % 8)) 0 256
