-- Entries laid one behind the other: their bytes, the rule that they obey, and that a copy of one more lays it behind. Assumes nothing.
use mathlib.Core.Path.{◌≡◌, refl, sym, ap, ap₂, ◌∙◌}
use mathlib.Core.Bool.{Bool}
use mathlib.Core.List.{List, [], ◌∷◌, ◌++◌, append-nil, append_assoc}
use Prim.Native.Nat.{ℕ, zero, suc, ◌+◌, ◌-◌, ◌*◌, ◌≤◌, ◌<◌}
use native.Mathlib.Nat.{add-zero, zero-add, zero-mul, one-mul, suc-mul, add_assoc}
use native.Mathlib.Numerals.{add-one}
use native.Mathlib.Omega.{arith}
use lib.ListN.{length, take, drop, get_or, length-append}
use lib.Seq.{take_at, drop-append-add}
use borrow.Author.Tests.{lt-ltb}
use Rattle.number.specs.Number.{encode}
use Rattle.columnar.specs.Types.{width, half, Plain, fixed, string}
use Rattle.columnar.specs.Array.{item}
use Rattle.columnar.specs.Entries.{encodes}
use Rattle.columnar.specs.Plain.{PlainBody, stored, span, full, PlainRule}
use Rattle.columnar.proofs.Items.{length_encodes, encodes_append, item_encodes_lt}
use Rattle.model.specs.Try.{done}
use Rattle.model.specs.Primitive.{plain_extend}

abbrev pub joined : List (List ℕ) → List ℕ
joined [] = []
joined (b ∷ bs) = b ++ joined bs

abbrev pub total : List (List ℕ) → ℕ
total [] = 0
total (b ∷ bs) = length b + total bs

-- where each begins, from a on, and where the last ends
abbrev pub sums : ℕ → List (List ℕ) → List ℕ
sums a [] = a ∷ []
sums a (b ∷ bs) = a ∷ sums (a + length b) bs

-- fixed-width numbers or byte strings with these bytes
abbrev pub built : (p : Plain) → List (List ℕ) → PlainBody p
built (fixed k) bs = joined bs
built (string w) bs = record { offsets = encodes w (sums 0 bs); chars = joined bs }

-- numbers are as wide as their format; the bytes of all strings are counted by an offset
abbrev pub Holds : (p : Plain) → List (List ℕ) → Type 0
Holds (fixed k) bs = (j : ℕ) → j < length bs → length (get_or bs j []) ≡ width k
Holds (string w) bs = total bs < half w

-- ---- lengths

pub length_joined : (bs : List (List ℕ)) → length (joined bs) ≡ total bs
length_joined [] = refl
length_joined (b ∷ bs) = length-append b (joined bs) ∙ ap (length b +◌) (length_joined bs)

length_sums : (a : ℕ) (bs : List (List ℕ)) → length (sums a bs) ≡ suc (length bs)
length_sums a [] = refl
length_sums a (b ∷ bs) = ap suc (length_sums (a + length b) bs)

sums_at : (a : ℕ) (bs : List (List ℕ)) (j : ℕ) → j ≤ length bs → get_or (sums a bs) j 0 ≡ a + total (take j bs)
sums_at a [] zero h = sym (add-zero a)
sums_at a [] (suc j) h = absurd (omega arith)
sums_at a (b ∷ bs) zero h = sym (add-zero a)
sums_at a (b ∷ bs) (suc j) h = sums_at (a + length b) bs j (omega arith) ∙ add_assoc a (length b) (total (take j bs))

total_next : (bs : List (List ℕ)) (j : ℕ) → j < length bs → total (take (suc j) bs) ≡ total (take j bs) + length (get_or bs j [])
total_next [] j h = absurd (omega arith)
total_next (b ∷ bs) zero h = omega arith
total_next (b ∷ bs) (suc j) h = rw (total_next bs j (omega arith)) (omega arith)

total_le : (bs : List (List ℕ)) (j : ℕ) → total (take j bs) ≤ total bs
total_le bs zero = omega arith
total_le [] (suc j) = omega arith
total_le (b ∷ bs) (suc j) = omega (arith, total_le bs j)

total_all : (bs : List (List ℕ)) → total (take (length bs) bs) ≡ total bs
total_all [] = refl
total_all (b ∷ bs) = ap (length b +◌) (total_all bs)

-- the bytes of one
piece : (bs : List (List ℕ)) (j : ℕ) → j < length bs → take (length (get_or bs j [])) (drop (total (take j bs)) (joined bs)) ≡ get_or bs j []
piece [] j h = absurd (omega arith)
piece (b ∷ bs) zero h = take_at b (joined bs) (length b) refl
piece (b ∷ bs) (suc j) h = rw drop-append-add (piece bs j (omega arith))

-- ---- fixed-width numbers

total_fixed : (w : ℕ) (bs : List (List ℕ)) → ((j : ℕ) → j < length bs → length (get_or bs j []) ≡ w) → (j : ℕ) → j ≤ length bs → total (take j bs) ≡ j * w
total_fixed w bs h zero q = sym (zero-mul w)
total_fixed w [] h (suc j) q = absurd (omega arith)
total_fixed w (b ∷ bs) h (suc j) q = rw (h 0 (omega arith), total_fixed w bs (λ i r. h (suc i) (omega arith)) j (omega arith), suc-mul) (omega arith)

-- ---- byte strings

module _ (w : ℕ) (bs : List (List ℕ)) (h : total bs < half w) where
  offset_at_lem : (j : ℕ) → j ≤ length bs → item w (encodes w (sums 0 bs)) j ≡ total (take j bs)
  offset_at_lem j q =
      let e : get_or (sums 0 bs) j 0 ≡ total (take j bs) = sums_at 0 bs j q ∙ zero-add _ in
      item_encodes_lt w (sums 0 bs) j (omega (arith, length_sums 0 bs)) (omega (arith, e, total_le bs j)) ∙ e

-- ---- laws

pub built_stored : (p : Plain) (bs : List (List ℕ)) → Holds p bs → (j : ℕ) → j < length bs → stored p (built p bs) j ≡ get_or bs j []
built_stored (fixed k) bs h j q =
    ap₂ (λ n a. take n (drop a (joined bs))) (sym (h j q)) (sym (total_fixed (width k) bs h j (omega arith))) ∙ piece bs j q
built_stored (string w) bs h j q =
    let e : item w (encodes w (sums 0 bs)) (suc j) - item w (encodes w (sums 0 bs)) j ≡ length (get_or bs j [])
    = rw (offset_at_lem w bs h j (omega arith), offset_at_lem w bs h (suc j) (omega arith), total_next bs j q) (omega arith) in
    ap₂ (λ n a. take n (drop a (joined bs))) e (offset_at_lem w bs h j (omega arith)) ∙ piece bs j q

pub built_rule : (p : Plain) (bs : List (List ℕ)) → Holds p bs → (okay : ℕ → Bool) → PlainRule p okay (built p bs) 0 (length bs)
built_rule (fixed k) bs h okay = rw (zero-add, length_joined) (omega (arith, total_fixed (width k) bs h (length bs) (omega arith), total_le bs (length bs)))
built_rule (string w) bs h okay =
    full
    (record {
      hold = rw (length_encodes, length_sums, zero-add, add-one) (omega arith);
      positive = λ i q. rw (zero-add, offset_at_lem w bs h i q) (omega (arith, total_le bs i));
      rises = λ i q.
          rw (zero-add, add-one, offset_at_lem w bs h i (omega arith), offset_at_lem w bs h (suc i) (omega arith), total_next bs i q) (omega arith);
      within = rw (zero-add, offset_at_lem w bs h (length bs) (omega arith), length_joined) (total_le bs (length bs));
    })

-- ---- one more behind

joined_snoc : (bs : List (List ℕ)) (b : List ℕ) → joined (bs ++ (b ∷ [])) ≡ joined bs ++ b
joined_snoc [] b = append-nil b
joined_snoc (c ∷ bs) b = ap (c ++◌) (joined_snoc bs b) ∙ sym (append_assoc c (joined bs) b)

total_snoc : (bs : List (List ℕ)) (b : List ℕ) → total (bs ++ (b ∷ [])) ≡ total bs + length b
total_snoc [] b = omega arith
total_snoc (c ∷ bs) b = rw (total_snoc bs b) (omega arith)

sums_snoc : (a : ℕ) (bs : List (List ℕ)) (b : List ℕ) → sums a (bs ++ (b ∷ [])) ≡ sums a bs ++ ((a + total bs + length b) ∷ [])
sums_snoc a [] b = rw add-zero refl
sums_snoc a (c ∷ bs) b = ap (a ∷◌) (sums_snoc (a + length c) bs b ∙ rw (add_assoc a (length c) (total bs)))

-- the bytes of a string slot are as long as its offsets say
abbrev pub Long : (p : Plain) → PlainBody p → ℕ → Type 0
Long (fixed k) s a = Unit {0}
Long (string w) s a = length (span w s a) ≡ item w s.offsets (suc a) - item w s.offsets a

-- A COPY OF ONE SLOT LAYS ITS BYTES BEHIND
pub built_more : (p : Plain) (s : PlainBody p) (a : ℕ) (bs : List (List ℕ)) → Holds p (bs ++ (stored p s a ∷ [])) → Long p s a
    → plain_extend p s a 1 (length bs) (built p bs) ≡ done (built p (bs ++ (stored p s a ∷ [])))
built_more (fixed k) s a bs h l = rw (one-mul, joined_snoc)
built_more (string w) s a bs h l =
    let t = total bs + length (span w s a) in
    let g : t < half w = omega (arith, h, total_snoc bs (span w s a)) in
    let o : item w (encodes w (sums 0 bs)) (length bs) ≡ total bs = offset_at_lem w bs (omega arith) (length bs) (omega arith) ∙ total_all bs in
    let e : item w (encodes w (sums 0 bs)) (length bs) + (item w s.offsets (suc a) - item w s.offsets a) ≡ t = ap₂ ◌+◌ o (sym l) in
    let f : encodes w (sums 0 bs) ++ (encode w t ++ []) ≡ encodes w (sums 0 (bs ++ (span w s a ∷ []))) = rw (sums_snoc, encodes_append, zero-add) in
    rw (e, lt-ltb t (half w) g, add-one a) (ap₂ (λ x y. done (record { offsets = x; chars = y })) f (sym (joined_snoc bs (span w s a))))
