-- The ids of a union's format (01: "at most 16 union fields with distinct ids 0 to 127"). Assumes nothing.
use Rattle.std.specs.Prelude.{Some, None, Bool, true, false, not, cond, ◌&&◌, ◌||◌, List, [], ◌∷◌, ◌++◌, map, ℕ, suc, ◌+◌, ◌*◌, ◌-◌, length, take, drop, leb, eqb}
use Rattle.std.proofs.Math.Option.{Option, none, some}
use Rattle.schema.specs.formats.Code.{code_of, code_at, between, is_union}
use Rattle.std.specs.declared.option.Option as answer
use Rattle.columnar.specs.Test.{each, member, same}

-- ---- the texts between commas, and the number of each

-- the pieces of a text with a byte before it: the byte belongs to the first
abbrev pub before : ℕ → List (List ℕ) → List (List ℕ)
before b [] = (b ∷ []) ∷ []
before b (p ∷ ps) = (b ∷ p) ∷ ps

-- the pieces of a text that stand between commas: one more than it has commas
unfoldable pub pieces : List ℕ → List (List ℕ)
pieces [] = [] ∷ []
pieces (b ∷ s) = cond (eqb b 44) ([] ∷ pieces s) (before b (pieces s))

-- how many bytes stand before the first comma
unfoldable pub first_comma : List ℕ → ℕ
first_comma [] = 0
first_comma (b ∷ s) = cond (eqb b 44) 0 (suc (first_comma s))

-- the number whose decimal digits are those of n and then these
unfoldable pub decimal : ℕ → List ℕ → ℕ
decimal n [] = n
decimal n (b ∷ s) = decimal (10 * n + (b - 48)) s

-- the number of a piece of one to three decimal digits; 128, which is no id, for any other piece
unfoldable pub id_of : List ℕ → ℕ
id_of p = cond (between 1 3 (length p) && each (between 48 57) p) (decimal 0 p) 128

-- ---- the rules of ids

-- no two are the same
unfoldable pub distinct : List ℕ → Bool
distinct [] = true
distinct (x ∷ xs) = not (member x xs) && distinct xs

-- the ids, where a union may have them: each is at most 127, no two are the same, and there are at most 16
unfoldable pub allowed : List ℕ → Option (List ℕ)
allowed ids = cond (each (λ x. leb x 127) ids && distinct ids && leb (length ids) 16) (some ids) none

-- the ids that a text lists; an empty text lists no id
abbrev pub id_list : List ℕ → Option (List ℕ)
id_list [] = some []
id_list (b ∷ s) = allowed (map id_of (pieces (b ∷ s)))

-- the ids of a union's format stand after its first four bytes; other formats have none
abbrev pub ids_of : List ℕ → Option (List ℕ)
ids_of t = cond (is_union (code_of t)) (id_list (drop 4 t)) none

-- the ids of the format that stands in s at `at`, len bytes long
abbrev pub ids_at : List ℕ → ℕ → ℕ → Option (List ℕ)
ids_at s at len = cond (leb (at + len) (length s)) (ids_of (take len (drop at s))) none

-- ---- how they are answered

-- how many there are; none where a union may not have them
abbrev pub answer_of : Option (List ℕ) → answer.Option ℕ
answer_of (some ids) = Some (length ids)
answer_of none = None

-- the ids written over the front of an array; without ids it stays as it was
abbrev pub written : Option (List ℕ) → List ℕ → List ℕ
written (some ids) s = ids ++ drop (length ids) s
written none s = s

-- ---- the same type

-- both have ids, and they are the same ids in the same order
abbrev pub same_ids : Option (List ℕ) → Option (List ℕ) → Bool
same_ids (some a) (some b) = same a b
same_ids (some a) none = false
same_ids none o = false

-- two formats of s stand for the same type: their codes are the same and not 0, and so are the ids of unions
abbrev pub same_format : List ℕ → ℕ → ℕ → ℕ → ℕ → Bool
same_format s at len at2 len2 =
    not (eqb (code_at s at len) 0)
    && eqb (code_at s at len) (code_at s at2 len2)
    && (not (is_union (code_at s at len)) || same_ids (ids_at s at len) (ids_at s at2 len2))
