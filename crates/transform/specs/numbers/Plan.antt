-- Types whose orders go a shorter way: one node of numbers, keys with a kept dictionary, run ends over numbers, a list of numbers. Assumes nothing.
use Rattle.std.specs.Prelude.{Bool, not, ◌&&◌, ◌||◌, List, ℕ, suc, leb, ltb, eqb}
use Rattle.schema.specs.formats.Code.{is_fixed, is_list}
use Rattle.walk.specs.State.{code_of, dictionary_of, end_of}
use Rattle.plan.specs.parts.Parts.{nodes_of, copied}

-- the plan has one node, which ends behind itself and is of numbers without a dictionary
abbrev pub one_of_numbers : List ℕ → Bool
one_of_numbers plan = eqb (nodes_of plan) 1 && eqb (end_of plan 0) 1 && eqb (dictionary_of plan 0) 0 && is_fixed (code_of plan 0)

-- the plan has two nodes: keys, and the values of their dictionary, which is kept and is a leaf
abbrev pub kept_keys : List ℕ → Bool
kept_keys plan =
    eqb (nodes_of plan) 2 && eqb (end_of plan 0) 2 && eqb (end_of plan 1) 2 && eqb (dictionary_of plan 1) 0 && leb (code_of plan 1) 16 && not (copied plan 1) && is_fixed (code_of plan 0)

-- the first node is of numbers or keys, and no other has a part
abbrev pub first_of_numbers : List ℕ → Bool
first_of_numbers plan = one_of_numbers plan || kept_keys plan

-- node i ends behind itself and is of numbers without a dictionary
abbrev pub numbers_at : List ℕ → ℕ → Bool
numbers_at plan i = eqb (end_of plan i) (suc i) && eqb (dictionary_of plan i) 0 && is_fixed (code_of plan i)

-- the plan has three nodes: a run-end node, its run ends, which have more than one byte, and its values, of numbers
abbrev pub runs_of_numbers : List ℕ → Bool
runs_of_numbers plan =
    eqb (nodes_of plan) 3 && eqb (code_of plan 0) 23 && eqb (dictionary_of plan 0) 0 && eqb (end_of plan 0) 3 && numbers_at plan 1 && numbers_at plan 2 && ltb 2 (code_of plan 1)

-- the plan has two nodes: a list, and its items, of numbers
abbrev pub list_of_numbers : List ℕ → Bool
list_of_numbers plan = eqb (nodes_of plan) 2 && is_list (code_of plan 0) && eqb (dictionary_of plan 0) 0 && eqb (end_of plan 0) 2 && numbers_at plan 1
