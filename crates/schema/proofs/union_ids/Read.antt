-- Reading a list of ids piece by piece. Assumes nothing.
use mathlib.Core.Path.{◌≡◌, refl, ap, sym, ◌∙◌}
use mathlib.Core.Bool.{Bool, true, false, cond}
use mathlib.Core.List.{List, [], ◌∷◌, ◌++◌, map, append_assoc}
use mathlib.Core.Option.{Option, none, some}
use Prim.Native.Nat.{ℕ, suc, ◌+◌, ◌-◌, ◌≤◌, ◌<◌}
use native.Mathlib.Omega.{arith}
use native.Mathlib.Numerals.{add-one}
use lib.ListN.{length, take, drop, set, length-take, length-drop, length-append, length-set, length-map, take-append-drop}
use lib.Seq.{drop-drop, drop-set-lt, take-suc-set, take_all, take-add, drop_at, length-take-le}
use lib.Dec.{leb, ltb, eqb}
use borrow.Author.Tests.{ltb-true, ltb-false}
use Rattle.schema.specs.formats.Code.{code_of, code_at, is_union}
use Rattle.schema.specs.union_ids.Ids.{before, pieces, first_comma, id_of, distinct, allowed, id_list, ids_at, answer_of, written}
use Rattle.std.specs.Prelude.{Some, None}
use Rattle.std.specs.declared.option.Option as answer
use Rattle.schema.proofs.formats.Laws.{either, union_inside}
use Rattle.schema.proofs.union_ids.Laws.{comma_le, pieces_comma, pieces_last, small_not, small_more, distinct_not, distinct_more, allowed_small, allowed_distinct, allowed_long, allowed_all, small}
use Rattle.columnar.specs.Test.{member}

-- k ids are read, up to the byte p of the text t; they stand in the front of trial, whose rest is that of ids
pub record Read (t ids trial : List ℕ) (p k : ℕ) : Type 0 where
  pub text : 0 < length t
  pub place : p ≤ length t
  pub count : k ≤ 16
  pub size : length trial ≡ 16
  pub list : map id_of (pieces t) ≡ take k trial ++ map id_of (pieces (drop p t))
  pub smalls : small (take k trial) ≡ true
  pub apart : distinct (take k trial) ≡ true
  pub rest : drop k trial ≡ drop k ids

pub read_none : (t ids trial : List ℕ) → 0 < length t → length trial ≡ 16 → trial ≡ ids → Read t ids trial 0 0
unfolding distinct
read_none t ids trial h s e =
    record {
      text = h;
      place = omega arith;
      count = omega arith;
      size = s;
      list = refl;
      smalls = refl;
      apart = refl;
      rest = e;
    }

listed : (t : List ℕ) → 0 < length t → id_list t ≡ allowed (map id_of (pieces t))
listed [] h = absurd (omega arith)
listed (b ∷ s) h = refl

pub no_text : (t : List ℕ) → length t ≡ 0 → id_list t ≡ some []
no_text [] h = refl
no_text (b ∷ s) h = absurd (omega arith)

some_piece_by : (b : ℕ) (x : Bool) (ps : List (List ℕ)) → 0 < length (cond x ([] ∷ ps) (before b ps))
some_piece_by b true ps = omega arith
some_piece_by b false [] = omega arith
some_piece_by b false (p ∷ ps) = omega arith

some_piece : (s : List ℕ) → 0 < length (pieces s)
unfolding pieces
some_piece [] = omega arith
some_piece (b ∷ s) = some_piece_by b (eqb b 44) (pieces s)

-- sixteen are read, and the text goes on
pub read_over : (t ids trial : List ℕ) (p k : ℕ) → Read t ids trial p k → 16 ≤ k → id_list t ≡ none
read_over t ids trial p k h full =
    let l = take k trial ++ map id_of (pieces (drop p t)) in
    let more : 16 < length l = simp (length-append, length-take, length-map) (omega (arith, h.size, h.count, some_piece (drop p t))) in
    listed t h.text ∙ ap allowed h.list ∙ allowed_long l more

-- the next piece ends at e, and x is its number
pub record Next (t : List ℕ) (p e x : ℕ) : Type 0 where
  pub end : e ≡ p + first_comma (drop p t)
  pub id : x ≡ id_of (take (e - p) (drop p t))

pub next_end : (t : List ℕ) (p e : ℕ) → p ≤ length t → e ≡ p + first_comma (drop p t) → e ≤ length t
next_end t p e h q = omega (arith, comma_le (drop p t), length-drop p t)

module _ (t : List ℕ) (p e x : ℕ) (inside : p ≤ length t) (n : Next t p e x) where
  more : e < length t → map id_of (pieces (drop p t)) ≡ x ∷ map id_of (pieces (drop (e + 1) t))
  more h =
      let f = first_comma (drop p t) in
      let a : f < length (drop p t) = omega (arith, n.end, length-drop p t) in
      let b : e - p ≡ f = omega (arith, n.end) in
      let d : p + suc f ≡ e + 1 = omega (arith, n.end) in
      let x-is : x ≡ id_of (take f (drop p t)) = n.id ∙ ap (λ i. id_of (take i (drop p t))) b in
      let tail : drop (suc f) (drop p t) ≡ drop (e + 1) t = drop-drop (suc f) p t ∙ ap (λ i. drop i t) d in
      ap (map id_of) (pieces_comma (drop p t) a) ∙ rw (tail, x-is)

  last : e ≡ length t → map id_of (pieces (drop p t)) ≡ x ∷ []
  last h =
      let a : first_comma (drop p t) ≡ length (drop p t) = omega (arith, n.end, length-drop p t) in
      let b : length (drop p t) ≤ e - p = omega (arith, length-drop p t) in
      let x-is : x ≡ id_of (drop p t) = n.id ∙ ap id_of (take_all (e - p) (drop p t) b) in
      ap (map id_of) (pieces_last (drop p t) a) ∙ rw x-is

  any_by : (b : Bool) → ltb e (length t) ≡ b → (r : List ℕ) × (map id_of (pieces (drop p t)) ≡ x ∷ r)
  any_by true q = (map id_of (pieces (drop (e + 1) t)), more (ltb-true e (length t) q))
  any_by false q = ([], last (omega (arith, ltb-false e (length t) q, next_end t p e inside n.end)))

  any : (r : List ℕ) × (map id_of (pieces (drop p t)) ≡ x ∷ r)
  any = any_by (ltb e (length t)) refl

module _ (t ids trial : List ℕ) (p k e x : ℕ) (h : Read t ids trial p k) (n : Next t p e x) where
  whole : (r : List ℕ) → map id_of (pieces (drop p t)) ≡ x ∷ r → id_list t ≡ allowed (take k trial ++ x ∷ r)
  whole r q = listed t h.text ∙ ap allowed (h.list ∙ ap (λ l. take k trial ++ l) q)

  pub read_big : 127 < x → id_list t ≡ none
  read_big big =
      let a = any t p e x h.place n in
      whole a.0 a.1 ∙ allowed_small _ (small_not (take k trial) x a.0 big)

  pub read_twice : member x (take k trial) ≡ true → id_list t ≡ none
  read_twice twice =
      let a = any t p e x h.place n in
      whole a.0 a.1 ∙ allowed_distinct _ (distinct_not (take k trial) x a.0 twice)

module _ (t ids trial : List ℕ) (p k e x : ℕ) (h : Read t ids trial p k) (n : Next t p e x) (lt : k < 16) (small-x : x ≤ 127)
    (new : member x (take k trial) ≡ false) where
  front : take (k + 1) (set trial k x) ≡ take k trial ++ x ∷ []
  front = ap (λ i. take i (set trial k x)) (add-one k) ∙ take-suc-set trial k x (omega (arith, h.size))

  behind : drop (k + 1) (set trial k x) ≡ drop (k + 1) ids
  behind =
      drop-set-lt (k + 1) trial k x (omega arith)
      ∙ sym (drop-drop 1 k trial)
      ∙ ap (drop 1) h.rest
      ∙ drop-drop 1 k ids

  front_small : small (take (k + 1) (set trial k x)) ≡ true
  front_small = ap small front ∙ small_more (take k trial) x h.smalls small-x

  front_distinct : distinct (take (k + 1) (set trial k x)) ≡ true
  front_distinct = ap distinct front ∙ distinct_more (take k trial) x h.apart new

  pub read_length : length (take (k + 1) (set trial k x)) ≡ k + 1
  read_length = length-take-le (k + 1) (set trial k x) (omega (arith, h.size, length-set trial k x))

  pub read_next : e < length t → Read t ids (set trial k x) (e + 1) (k + 1)
  read_next go_on_lem =
      record {
        text = h.text;
        place = omega arith;
        count = omega arith;
        size = length-set trial k x ∙ h.size;
        list =
            h.list
            ∙ ap (λ l. take k trial ++ l) (more t p e x h.place n go_on_lem)
            ∙ sym (append_assoc (take k trial) (x ∷ []) (map id_of (pieces (drop (e + 1) t))))
            ∙ ap (λ l. l ++ map id_of (pieces (drop (e + 1) t))) (sym front);
        smalls = front_small;
        apart = front_distinct;
        rest = behind;
      }

  pub read_all : e ≡ length t → id_list t ≡ some (take (k + 1) (set trial k x))
  read_all stop =
      whole t ids trial p k e x h n [] (last t p e x h.place n stop)
      ∙ ap allowed (sym front)
      ∙ allowed_all _ front_small front_distinct (omega (arith, read_length))

  pub read_array : set trial k x ≡ take (k + 1) (set trial k x) ++ drop (k + 1) ids
  read_array = sym (take-append-drop (k + 1) (set trial k x)) ∙ ap (λ l. take (k + 1) (set trial k x) ++ l) behind

-- ---- the answer with the array

pub bad : (o : Option (List ℕ)) (ids : List ℕ) → o ≡ none → (None ≡ answer_of o) × (ids ≡ written o ids)
bad o ids e = (rw e, rw e)

pub bad_kept : (o : Option (List ℕ)) (out ids : List ℕ) → out ≡ ids → o ≡ none → (None ≡ answer_of o) × (out ≡ written o ids)
bad_kept o out ids q e = (rw e, rw e q)

pub good : (o : Option (List ℕ)) (l out ids : List ℕ) (k : ℕ) → o ≡ some l → length l ≡ k → out ≡ l ++ drop k ids → (Some k ≡ answer_of o) × (out ≡ written o ids)
good o l out ids k e n q = (rw (e, n), rw (e, n) q)

pub same_answer : (o o2 : Option (List ℕ)) (r : answer.Option ℕ) (out ids : List ℕ) → o ≡ o2 → (r ≡ answer_of o2) × (out ≡ written o2 ids) → (r ≡ answer_of o) × (out ≡ written o ids)
same_answer o o2 r out ids e h = rw e h

-- ---- the ids of a format in a slice

drop_of_take : (m n : ℕ) (l : List ℕ) → m ≤ n → n ≤ length l → drop m (take n l) ≡ take (n - m) (drop m l)
drop_of_take m n l le h =
    let q : n ≡ m + (n - m) = omega arith in
    ap (λ i. drop m (take i l)) q
    ∙ ap (drop m) (take-add m (n - m) l)
    ∙ drop_at (take m l) (take (n - m) (drop m l)) m (length-take-le m l (omega arith))

other_by : (x : Bool) (y : ℕ) (o : Option (List ℕ)) → is_union (cond x y 0) ≡ false → cond x (cond (is_union y) o none) none ≡ none
other_by true y o h = rw h
other_by false y o h = refl

pub ids_other : (s : List ℕ) (at len : ℕ) → is_union (code_at s at len) ≡ false → ids_at s at len ≡ none
ids_other s at len h = other_by (leb (at + len) (length s)) (code_of (take len (drop at s))) (id_list (drop 4 (take len (drop at s)))) h

pub ids_union : (s : List ℕ) (at len : ℕ) → is_union (code_at s at len) ≡ true → ids_at s at len ≡ id_list (take (at + len - (at + 4)) (drop (at + 4) s))
ids_union s at len h =
    let e = either (leb (at + len) (length s)) (code_of (take len (drop at s))) h in
    let i = union_inside s at len h in
    let text : drop 4 (take len (drop at s)) ≡ take (len - 4) (drop (at + 4) s) =
    drop_of_take 4 len (drop at s) i.1 (omega (arith, i.0, length-drop at s)) ∙ ap (take (len - 4)) (drop-drop 4 at s) in
    let m : at + len - (at + 4) ≡ len - 4 = omega arith in
    rw (e.0, e.1, m, text)
