-- The rows of a node as tests of the body itself, where its buffers lie in it: what the rules of `array_data` come to, with the offset
-- in slots and every place in bytes of the body. Assumes nothing.
use Rattle.std.specs.Prelude.{Bool, true, cond, ◌&&◌, List, ℕ, ◌+◌, ◌*◌, min, length, leb, eqb}
use Rattle.number.specs.Number.{entry}
use Rattle.columnar.specs.Array.{ok}
use Rattle.columnar.specs.Test.{every}
use Rattle.run_ends.specs.Lookup.{last_end}
use Rattle.array_data.specs.Tables.{Tables, length_of, offset_of, valid_of, place, held}
use Rattle.array_data.specs.lent_tables.Lent.{mask_of}
use Rattle.row_rules.specs.Rules.{offsets_rows, list_view_rows, ends_rows}

-- byte strings: "may have an empty offsets buffer" at length 0; else one offset more than rows, that never fall and end in the data
unfoldable pub string_rows : ℕ → List ℕ → ℕ → ℕ → ℕ → ℕ → ℕ → Bool
string_rows w s start size off len chars =
    cond (eqb size 0) (eqb len 0)
    (leb ((off + len + 1) * w) size && offsets_rows w s (start + w * off) len && leb (entry w s (start + w * off) len) chars)

-- list-views: an offset and a size for each row, null rows included
unfoldable pub views_rows : ℕ → List ℕ → ℕ → ℕ → ℕ → ℕ → ℕ → ℕ → ℕ → Bool
views_rows w s start size begin room off len child =
    leb ((off + len) * w) size && leb ((off + len) * w) room && list_view_rows w s (start + w * off) (begin + w * off) child len

-- where a range begins in the body, which may end before it
abbrev pub start_in : List ℕ → ℕ → ℕ
start_in s at = min at (length s)

-- no row of node k is null
unfoldable pub valid_rows : Tables → ℕ → Bool
valid_rows x k = every (λ i. ok (valid_of x k) (offset_of x k + i)) (length_of x k)

-- node k is there without validity, and its run ends e have no null
unfoldable pub runs_valid : Tables → ℕ → ℕ → Bool
runs_valid x k e = held x k && eqb (place x k 0) 0 && (mask_of x e true && valid_rows x e)

-- run ends: one for each run, rising strictly from at least 1, and the last at least `reach`
unfoldable pub ends_reach : ℕ → List ℕ → ℕ → ℕ → ℕ → ℕ → ℕ → Bool
ends_reach w s start size off len reach =
    leb ((off + len) * w) size && ends_rows w s (start + w * off) len && leb reach (last_end w s (start + w * off) len)
