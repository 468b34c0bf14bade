-- Rows of 01's table over lent tables: a source here is one node, the values of a dictionary of numbers. Assumes nothing.
use mathlib.Core.Path.{◌≡◌, refl}
use mathlib.Core.Bool.{Bool, true, false}
use mathlib.Core.List.{List, [], ◌∷◌}
use Prim.Native.Nat.{ℕ}
use Rattle.columnar.specs.Types.{Number, uint, w1, w8}
use Rattle.columnar.specs.Array.{bit}
use Rattle.model.specs.Opening.{shared, all_keys_fit}
use Rattle.array_data.specs.lent_tables.Lent.{tables}
use Rattle.plan.specs.dictionaries.Sources.{dict_at}

-- two sources of a and b entries, whose buffers begin at 100 and at `at`; b's offset is `off`
abbrev fits : Number → ℕ → ℕ → ℕ → ℕ → Bool
fits k a b off at =
    all_keys_fit k 2 2 (dict_at (tables (a ∷ 0 ∷ b ∷ off ∷ []) (0 ∷ 0 ∷ 0 ∷ 100 ∷ 9 ∷ 0 ∷ 0 ∷ 0 ∷ 0 ∷ 0 ∷ 0 ∷ 0 ∷ at ∷ 9 ∷ 0 ∷ 0 ∷ 0 ∷ 0 ∷ []) []) (0 ∷ 1 ∷ 1 ∷ 1 ∷ []) false 0)

-- K7 and K8, K9, K16, and the last two with an offset that differs: then they are not shared
abbrev answers : List Bool
answers =
    fits (uint w1) 200 56 0 200
    ∷ fits (uint w1) 200 57 0 200
    ∷ fits (uint w1) 256 0 0 200
    ∷ fits (uint w1) 0 256 0 200
    ∷ fits (uint w1) 256 256 0 100
    ∷ fits (uint w1) 257 257 0 100
    ∷ fits (uint w1) 128 128 1 100
    ∷ fits (uint w1) 129 129 1 100
    ∷ fits (uint w8) 18446744073709551615 1 0 200
    ∷ fits (uint w8) 18446744073709551615 2 0 200
    ∷ []

pub checked : answers ≡ true ∷ false ∷ false ∷ true ∷ true ∷ false ∷ true ∷ false ∷ true ∷ false ∷ []
checked = refl

-- two sources of n entries from slot 1 on, whose buffers begin at 0; the first has a validity that begins at u, the second at v, where 0
-- stands for none. Byte 1 of the body has ones for the slots 1 to 3, the bytes 2 and 3 have a zero for slot 3.
abbrev share : ℕ → ℕ → ℕ → Bool
share n u v =
    shared 2
    (dict_at (tables (n ∷ 1 ∷ n ∷ 1 ∷ []) (u ∷ u ∷ 1 ∷ 0 ∷ 9 ∷ 0 ∷ 0 ∷ 0 ∷ 0 ∷ v ∷ v ∷ 1 ∷ 0 ∷ 9 ∷ 0 ∷ 0 ∷ 0 ∷ 0 ∷ []) (0 ∷ 14 ∷ 6 ∷ 6 ∷ [])) (0 ∷ 1 ∷ 1 ∷ 1 ∷ []) false 0)

-- "Validity with no zero bit among the rows counts as absent": none beside none, ones beside none, none beside ones, ones at two places;
-- with a zero among the rows: beside none, at one place, at two
abbrev sharing : List Bool
sharing = share 3 0 0 ∷ share 3 0 1 ∷ share 3 1 0 ∷ share 2 1 2 ∷ share 3 0 2 ∷ share 3 2 2 ∷ share 3 2 3 ∷ []

pub sharing_checked : sharing ≡ true ∷ true ∷ true ∷ true ∷ false ∷ true ∷ false ∷ []
unfolding bit
sharing_checked = refl
