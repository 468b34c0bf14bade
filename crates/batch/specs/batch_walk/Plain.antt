-- Children whose stretches are copies of bytes, or of offsets and bytes. Assumes nothing.
use Rattle.std.specs.Prelude.{Bool, true, false, cond, ◌&&◌, List, ℕ, zero, suc, ◌+◌, ◌*◌, ◌-◌, ltb, eqb}
use Rattle.columnar.specs.Test.{every}
use Rattle.schema.specs.formats.Code.{is_fixed, is_string, is_list_view}
use Rattle.walk.specs.State.{Join, code_of, dictionary_of, end_of, keeps_of, place, far, slot_of, rows_in}
use Rattle.walk.specs.Log.{Out, need}
use Rattle.walk.specs.Leaves.{copy_string}
use Rattle.batch.specs.Stretch.{never_falls}

-- node k is of numbers, and keeps no nulls
abbrev pub is_plain : List ℕ → ℕ → Bool
is_plain plan k = is_fixed (code_of plan k) && (eqb (dictionary_of plan k) 0 && eqb (keeps_of plan k) 0)

-- node k is of byte strings, and keeps no nulls
abbrev pub is_text : List ℕ → ℕ → Bool
is_text plan k = is_string (code_of plan k) && eqb (keeps_of plan k) 0

abbrev pub is_flat : List ℕ → ℕ → Bool
is_flat plan k = cond (is_text plan k) true (is_plain plan k)

-- the byte strings of node k from `slot` on, where their offsets never fall
abbrev pub steady_string : Join → ℕ → ℕ → ℕ → ℕ → List ℕ → Out
steady_string x k w slot n c = need (never_falls w x.body (place x k 3 + w * slot) n) 12 c (copy_string x k w slot n c)

-- the entries of w bytes of node k before row `end` stand in the body
unfoldable pub reached : Join → ℕ → ℕ → ℕ → Bool
reached x k w end = ltb (slot_of x k end 0) far && rows_in x (place x k 3) w (slot_of x k end 0) 0

-- node k is a list-view that keeps no nulls
abbrev pub is_nested : List ℕ → ℕ → Bool
is_nested plan k = is_list_view (code_of plan k) && eqb (keeps_of plan k) 0

-- .. and is at most `depth` such list-views over numbers or byte strings that keep none
unfoldable pub is_listed : List ℕ → ℕ → ℕ → Bool
is_listed plan zero k = false
is_listed plan (suc depth) k = is_nested plan k && cond (is_flat plan (suc k)) true (is_listed plan depth (suc k))

-- the nodes below the root are of numbers or byte strings, and keep no nulls
abbrev pub flat_below : List ℕ → Bool
flat_below plan = every (λ j. is_flat plan (suc j)) (end_of plan 0 - 1)

-- the root is such a list-view, or a dense union of such nodes
abbrev pub is_stretched : List ℕ → Bool
is_stretched plan = cond (eqb (code_of plan 0) 22) (flat_below plan) (is_listed plan 7 0)
