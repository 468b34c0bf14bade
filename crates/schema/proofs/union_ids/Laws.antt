-- Laws of the pieces between commas, their numbers, and the rules of ids. Assumes nothing.
use mathlib.Core.Path.{◌≡◌, refl, ap, sym, ◌∙◌}
use mathlib.Core.Bool.{Bool, true, false, not, cond, ◌&&◌, ◌||◌, and-false, or-true, and-eq-true_iff, false≢true}
use mathlib.Core.List.{List, [], ◌∷◌, ◌++◌}
use mathlib.Core.Option.{none, some}
use Prim.Native.Nat.{ℕ, zero, suc, ◌+◌, ◌*◌, ◌-◌, ◌≤◌, ◌<◌}
use native.Mathlib.Omega.{arith}
use native.Mathlib.Numerals.{add-one}
use lib.ListN.{length, take, drop, get_or, drop_of_length-le}
use lib.Seq.{drop-cons}
use lib.Dec.{leb, ltb, eqb}
use borrow.Author.Tests.{ltb-false, le-leb, lt-leb, eq-eqb, ne_eqb, eqb-true, eqb-false, leb-true, not-true}
use Rattle.std.specs.Prelude.{Some, None}
use Rattle.std.specs.Option.{unwrap_or}
use Rattle.std.specs.List.{list_any, position_or_len}
use Rattle.std.specs.Cmp.Lexicographic.{pointwise}
use Rattle.schema.specs.formats.Code.{between}
use Rattle.schema.specs.union_ids.Ids.{before, pieces, first_comma, decimal, id_of, distinct, allowed}
use Rattle.columnar.specs.Test.{each, member, same}

-- ---- commas

comma_le_by : (x : Bool) (n m : ℕ) → n ≤ m → cond x 0 (suc n) ≤ suc m
comma_le_by true n m h = omega arith
comma_le_by false n m h = omega arith

pub comma_le : (s : List ℕ) → first_comma s ≤ length s
unfolding first_comma
comma_le [] = omega arith
comma_le (b ∷ s) = comma_le_by (eqb b 44) _ _ (comma_le s)

place_by : (x : Bool) (m n : ℕ) → m ≡ n → cond (not x) (1 + m) 0 ≡ cond x 0 (suc n)
place_by true m n e = refl
place_by false m n e = omega arith

place : (s : List ℕ) → position_or_len (λ b. eqb b 44) s ≡ first_comma s
unfolding first_comma
place [] = refl
place (b ∷ s) = place_by (eqb b 44) _ _ (place s)

found_by : (n m : ℕ) (x : Bool) → ltb n m ≡ x → n ≤ m → unwrap_or (cond x (Some n) None) m ≡ n
found_by n m true e h = refl
found_by n m false e h = omega (arith, ltb-false n m e)

-- the first comma, or the length, is what `position` finds
pub found : (s : List ℕ) → unwrap_or (cond (ltb (position_or_len (λ b. eqb b 44) s) (length s)) (Some (position_or_len (λ b. eqb b 44) s)) None) (length s) ≡ first_comma s
found s = found_by _ _ _ refl (omega (arith, place s, comma_le s)) ∙ place s

pieces_comma_by : (b : ℕ) (s : List ℕ) (x : Bool)
    → (first_comma s < length s → pieces s ≡ take (first_comma s) s ∷ pieces (drop (suc (first_comma s)) s))
    → cond x 0 (suc (first_comma s)) < suc (length s)
    → cond x ([] ∷ pieces s) (before b (pieces s)) ≡ take (cond x 0 (suc (first_comma s))) (b ∷ s) ∷ pieces (drop (suc (cond x 0 (suc (first_comma s)))) (b ∷ s))
pieces_comma_by b s true ih h = refl
pieces_comma_by b s false ih h = ap (before b) (ih (omega arith))

pub pieces_comma : (s : List ℕ) → first_comma s < length s → pieces s ≡ take (first_comma s) s ∷ pieces (drop (suc (first_comma s)) s)
unfolding first_comma pieces
pieces_comma [] h = absurd (omega arith)
pieces_comma (b ∷ s) h = pieces_comma_by b s (eqb b 44) (pieces_comma s) h

pieces_last_by : (b : ℕ) (s : List ℕ) (x : Bool) → (first_comma s ≡ length s → pieces s ≡ s ∷ [])
    → cond x 0 (suc (first_comma s)) ≡ suc (length s) → cond x ([] ∷ pieces s) (before b (pieces s)) ≡ (b ∷ s) ∷ []
pieces_last_by b s true ih h = absurd (omega arith)
pieces_last_by b s false ih h = ap (before b) (ih (omega arith))

pub pieces_last : (s : List ℕ) → first_comma s ≡ length s → pieces s ≡ s ∷ []
unfolding first_comma pieces
pieces_last [] h = refl
pieces_last (b ∷ s) h = pieces_last_by b s (eqb b 44) (pieces_last s) h

-- ---- the number of a piece

no_digit : (s : List ℕ) (k : ℕ) → k < length s → between 48 57 (get_or s k 0) ≡ false → each (between 48 57) s ≡ false
no_digit [] k h e = absurd (omega arith)
no_digit (b ∷ s) zero h e = rw e
no_digit (b ∷ s) (suc k) h e = rw (no_digit s k (omega arith) e, and-false)

pub no_id : (s : List ℕ) (k : ℕ) → k < length s → between 48 57 (get_or s k 0) ≡ false → id_of s ≡ 128
unfolding id_of
no_id s k h e = rw (no_digit s k h e, and-false)

pub no_piece : (s : List ℕ) → length s ≡ 0 → id_of s ≡ 128
unfolding id_of
no_piece s e = rw e

pub long_piece : (s : List ℕ) → 3 < length s → id_of s ≡ 128
unfolding id_of
long_piece s h = rw (lt-leb (length s) 3 h, and-false)

digits : (s : List ℕ) → ((k : ℕ) → k < length s → between 48 57 (get_or s k 0) ≡ true) → each (between 48 57) s ≡ true
digits [] h = refl
digits (b ∷ s) h = rw (h 0 (omega arith), digits s (λ k lt. h (suc k) (omega arith)))

pub an_id : (s : List ℕ) → 1 ≤ length s → length s ≤ 3 → ((k : ℕ) → k < length s → between 48 57 (get_or s k 0) ≡ true) → id_of s ≡ decimal 0 s
unfolding id_of
an_id s a b h = rw (le-leb 1 (length s) a, le-leb (length s) 3 b, digits s h)

pub decimal_step : (s : List ℕ) (x k : ℕ) → k < length s → decimal x (drop k s) ≡ decimal (10 * x + (get_or s k 0 - 48)) (drop (k + 1) s)
unfolding decimal
decimal_step s x k h = rw (add-one, drop-cons s k 0 h)

pub decimal_end : (s : List ℕ) (x k : ℕ) → length s ≤ k → decimal x (drop k s) ≡ x
unfolding decimal
decimal_end s x k h = rw (drop_of_length-le s h)

pub is_digit : (a : ℕ) → between 48 57 a ≡ true → (48 ≤ a) × (a ≤ 57)
is_digit a h =
    let e = (and-eq-true_iff (leb 48 a) (leb a 57)).0 h in
    (leb-true _ _ e.0, leb-true _ _ e.1)

-- ---- members, and lists compared

swap_by : (x y : ℕ) (t : Bool) → eqb x y ≡ t → eqb y x ≡ t
swap_by x y true e = eq-eqb y x (sym (eqb-true x y e))
swap_by x y false e = ne_eqb y x (λ q. eqb-false x y e (sym q))

pub is_member : (x : ℕ) (l : List ℕ) → list_any (λ y. eqb y x) l ≡ member x l
is_member x [] = refl
is_member x (y ∷ l) = rw (swap_by x y (eqb x y) refl, is_member x l)

is_same_by : (a b : Bool) → (a && b) ≡ (b && a)
is_same_by true true = refl
is_same_by true false = refl
is_same_by false true = refl
is_same_by false false = refl

pub is_same : (a b : List ℕ) → pointwise eqb a b ≡ same a b
is_same [] [] = refl
is_same [] (y ∷ b) = refl
is_same (x ∷ a) [] = refl
is_same (x ∷ a) (y ∷ b) = rw (is_same a b) (is_same_by (eqb x y) (same a b))

-- ---- the rules of ids

pub both : (a b : Bool) → a && b ≡ true → (a ≡ true) × (b ≡ true)
both a b h = (and-eq-true_iff a b).0 h

-- each is at most 127
abbrev pub small : List ℕ → Bool
small ids = each (λ x. leb x 127) ids

pub small_not : (acc : List ℕ) (x : ℕ) (r : List ℕ) → 127 < x → small (acc ++ x ∷ r) ≡ false
small_not [] x r h = rw (lt-leb x 127 h)
small_not (y ∷ acc) x r h = rw (small_not acc x r h, and-false)

pub small_more : (acc : List ℕ) (x : ℕ) → small acc ≡ true → x ≤ 127 → small (acc ++ x ∷ []) ≡ true
small_more [] x s h = rw (le-leb x 127 h)
small_more (y ∷ acc) x s h = let e = both (leb y 127) (small acc) s in rw (e.0, small_more acc x e.1 h)

member_append_by : (t u : Bool) (x : ℕ) (a b : List ℕ) → u ≡ (member x a || member x b) → (t || u) ≡ (t || member x a || member x b)
member_append_by true u x a b h = refl
member_append_by false u x a b h = h

member_append : (x : ℕ) (a b : List ℕ) → member x (a ++ b) ≡ (member x a || member x b)
member_append x [] b = refl
member_append x (y ∷ a) b = member_append_by (eqb x y) (member x (a ++ b)) x a b (member_append x a b)

member_self : (x : ℕ) (r : List ℕ) → member x (x ∷ r) ≡ true
member_self x r = rw (eq-eqb x x refl)

-- x is y, or is among the rest
distinct_not_by : (x y : ℕ) (acc r : List ℕ) (t : Bool) → eqb x y ≡ t → (t || member x acc) ≡ true
    → (member x acc ≡ true → distinct (acc ++ x ∷ r) ≡ false) → distinct (y ∷ acc ++ x ∷ r) ≡ false
unfolding distinct
distinct_not_by x y acc r true e h ih =
    let at : member y (acc ++ x ∷ r) ≡ true = member_append y acc (x ∷ r) ∙ rw (eqb-true x y e, member_self y r, or-true) in
    rw at
distinct_not_by x y acc r false e h ih = rw (ih h, and-false)

pub distinct_not : (acc : List ℕ) (x : ℕ) (r : List ℕ) → member x acc ≡ true → distinct (acc ++ x ∷ r) ≡ false
distinct_not [] x r h = absurd (false≢true h)
distinct_not (y ∷ acc) x r h = distinct_not_by x y acc r (eqb x y) refl h (distinct_not acc x r)

or_rest : (a b : Bool) → (a || b) ≡ false → b ≡ false
or_rest true b h = absurd (false≢true (sym h))
or_rest false b h = h

distinct_more_by : (x y : ℕ) (acc : List ℕ) (t : Bool) → eqb x y ≡ t → (t || member x acc) ≡ false → member y acc ≡ false → member y (acc ++ x ∷ []) ≡ false
distinct_more_by x y acc true e h m = absurd (false≢true (sym h))
distinct_more_by x y acc false e h m = member_append y acc (x ∷ []) ∙ rw (m, ne_eqb y x (λ q. eqb-false x y e (sym q)))

pub distinct_more : (acc : List ℕ) (x : ℕ) → distinct acc ≡ true → member x acc ≡ false → distinct (acc ++ x ∷ []) ≡ true
unfolding distinct
distinct_more [] x d h = refl
distinct_more (y ∷ acc) x d h =
    let e = both (not (member y acc)) (distinct acc) d in
    rw (distinct_more_by x y acc (eqb x y) refl h (not-true _ e.0), distinct_more acc x e.1 (or_rest (eqb x y) (member x acc) h))

pub allowed_small : (l : List ℕ) → small l ≡ false → allowed l ≡ none
unfolding allowed
allowed_small l h = rw h

pub allowed_distinct : (l : List ℕ) → distinct l ≡ false → allowed l ≡ none
unfolding allowed
allowed_distinct l h = rw (h, and-false)

pub allowed_long : (l : List ℕ) → 16 < length l → allowed l ≡ none
unfolding allowed
allowed_long l h = rw (lt-leb (length l) 16 h, and-false)

pub allowed_all : (l : List ℕ) → small l ≡ true → distinct l ≡ true → length l ≤ 16 → allowed l ≡ some l
unfolding allowed
allowed_all l s d h = rw (s, d, le-leb (length l) 16 h)
