-- The bytes that the converter's leaves write are those of the walk. Assumes nothing.
use mathlib.Core.Path.{◌≡◌, sym, ap, ap₂, ◌∙◌}
use mathlib.Core.Bool.{cond}
use mathlib.Core.List.{List, [], ◌∷◌, ◌++◌, append-nil}
use Prim.Native.Nat.{ℕ, zero, suc, ◌+◌, ◌*◌, ◌-◌, ◌/◌, ◌%◌, ◌^◌, ◌≤◌, ◌<◌, min}
use native.Mathlib.Omega.{arith}
use lib.ListN.{drop, get_or}
use lib.Seq.{get_or-take, get_or-drop}
use lib.Dec.{eqb}
use Rattle.number.specs.Number.{encode, entry}
use Rattle.bits.specs.Bits.{bits}
use Rattle.bits.proofs.Laws.{bit_at}
use Rattle.utils.proofs.Pieces.{numbers_same}
use Rattle.recode.specs.Recode.{recoded, lessened, valid_only}
use Rattle.recode.proofs.Laws.{less_is, entry_small}
use Rattle.recode.proofs.Masks.{valid_is}
use Rattle.columnar.specs.Row.{seg}
use Rattle.columnar.specs.Array.{item, bit}
use Rattle.columnar.specs.Entries.{encodes}
use Rattle.columnar.specs.Plain.{OffsetsRule}
use Rattle.columnar.specs.RunEnd.{start_of}
use Rattle.columnar.proofs.Items.{entry_end, encodes_append}
use Rattle.model.proofs.Rows.{seg_cong, seg_append}
use Rattle.model.proofs.Ends.{Ends}
use Rattle.refinement.specs.walk_is_model.Lent.{Part}
use Rattle.refinement.proofs.walk_is_model.Parts.{part_entry}
use Rattle.refinement.proofs.walk_is_model.Entries.{encodes_pieces}
use Rattle.anew.specs.widths.Converted.{offsets_of}
use Rattle.anew.proofs.widths.Plain.{first_least}

module _ {body : List ℕ} {at size : ℕ} {s : List ℕ} (p : Part body at size s) where
  -- the entries of a stretch, in place
  entries_in : (w slot n : ℕ) → (slot + n) * w ≤ size → (k : ℕ) → k < n → entry w body (at + w * slot) k ≡ item w s (slot + k)
  entries_in w slot n h k l = part_entry p w slot k (omega (arith, entry_end w {i = slot + k} {n = slot + n} (omega arith)))

  -- AS THEY ARE
  pub recoded_are : (w w' slot n : ℕ) → (slot + n) * w ≤ size → recoded w w' body (at + w * slot) n ≡ encodes w' (seg (item w s) slot n)
  unfolding recoded
  recoded_are w w' slot n h = numbers_same w' (entry w body (at + w * slot)) (λ k. item w s (slot + k)) n (entries_in w slot n h) ∙ sym (encodes_pieces w' (item w s) slot n)

  module _ (small : (i : ℕ) → get_or body i 0 < 256) where
    -- LESS A NUMBER that none of them is below
    pub less_are : (w w' slot base n : ℕ) → w ≤ 8 → (slot + n) * w ≤ size → ((k : ℕ) → k < n → base ≤ item w s (slot + k))
        → lessened w w' body (at + w * slot) base n ≡ encodes w' (seg (λ j. item w s j - base) slot n)
    less_are w w' slot base n l h b =
        less_is w w' body (at + w * slot) base n (entry_small w body (at + w * slot) l small) (λ k q. omega (arith, b k q, entries_in w slot n h k q))
        ∙ numbers_same w' (λ k. entry w body (at + w * slot) k - base) (λ k. item w s (slot + k) - base) n (λ k q. ap (λ z. z - base) (entries_in w slot n h k q))
        ∙ sym (encodes_pieces w' (λ j. item w s j - base) slot n)

    -- THE OFFSETS OF A STRETCH, counted from the first of them
    pub offsets_are : (w w' slot n most : ℕ) → w ≤ 8 → (slot + suc n) * w ≤ size → OffsetsRule w s most slot n
        → lessened w w' body (at + w * slot) (item w s slot) (suc n) ≡ encodes w' (offsets_of w s slot n)
    offsets_are w w' slot n most l h r = less_are w w' slot (item w s slot) (suc n) l h (λ k q. first_least w s most slot n r k (omega arith))

-- ---- keys

module _ {body : List ℕ} {at size : ℕ} {s : List ℕ} (p : Part body at size s) where
  byte_in : (j : ℕ) → j < size → get_or s j 0 ≡ get_or body (at + j) 0
  byte_in j l = ap (λ z. get_or z j 0) p.bytes_are ∙ get_or-take size (drop at body) j 0 l ∙ get_or-drop at body j 0

  -- a bit of a validity, in place
  pub bit_in : (j : ℕ) → j < 8 * size → eqb (get_or (bits body) (8 * at + j) 0) 1 ≡ bit s j
  unfolding bit
  bit_in j l =
      let a : (8 * at + j) / 8 ≡ at + j / 8 = omega arith in
      let b : (8 * at + j) % 8 ≡ j % 8 = omega arith in
      ap (λ z. eqb z 1) (bit_at body (8 * at + j) ∙ ap₂ (λ y z. get_or body y 0 / 2 ^ z % 2) a b) ∙ ap (λ z. eqb (z / 2 ^ (j % 8) % 2) 1) (sym (byte_in (j / 8) (omega arith)))

-- A KEY WHERE IT IS VALID, 0 where it is null
pub keys_are : {body : List ℕ} {at size : ℕ} {s : List ℕ} → Part body at size s → {vat vsize : ℕ} {v : List ℕ} → Part body vat vsize v
    → (w w' slot n : ℕ) → (slot + n) * w ≤ size → slot + n ≤ 8 * vsize
    → valid_only w w' body (at + w * slot) (8 * vat + slot) n ≡ encodes w' (seg (λ j. cond (bit v j) (item w s j) 0) slot n)
keys_are {body} {at} {size} {s} p {vat} {vsize} {v} q w w' slot n h g =
    valid_is w w' body (at + w * slot) (8 * vat + slot) n
    ∙ numbers_same w' (λ k. cond (eqb (get_or (bits body) (8 * vat + slot + k) 0) 1) (entry w body (at + w * slot) k) 0) (λ k. cond (bit v (slot + k)) (item w s (slot + k)) 0) n
    (λ k l. ap₂ (λ b z. cond b z 0) (ap (λ z. eqb (get_or (bits body) z 0) 1) (let e : 8 * vat + slot + k ≡ 8 * vat + (slot + k) = omega arith in e) ∙ bit_in q (slot + k) (omega arith)) (entries_in p w slot n h k l))
    ∙ sym (encodes_pieces w' (λ j. cond (bit v j) (item w s j) 0) slot n)

-- ---- run ends

-- of rising ends each is at most a later one
rising : (e : ℕ → ℕ) (c : ℕ) → ((r : ℕ) → r < c → start_of e r < e r) → (k j : ℕ) → k + j < c → e k ≤ e (k + j)
rising e c h k zero l = let z : k + 0 ≡ k = omega arith in omega (arith, ap e z)
rising e c h k (suc j) l =
    let z : k + suc j ≡ suc (k + j) = omega arith in
    omega (arith, ap e z, rising e c h k j (omega arith), h (suc (k + j)) (omega arith))

-- those before the last are below it
before_last : (f : ℕ → ℕ) (m n : ℕ) → Ends f (suc m) n → (k : ℕ) → k < m → (0 < f k) × (f k < n)
before_last f m n h k l =
    let z : suc k + (m - suc k) ≡ m = omega arith in
    (omega (arith, h.rises k (omega arith)), omega (arith, h.rises (suc k) (omega arith), rising f (suc m) h.rises (suc k) (m - suc k) (omega arith), ap f z, h.covers))

uncut : (y a n : ℕ) → 0 < min y (a + n) - a → min y (a + n) - a < n → (a ≤ y) × (min y (a + n) - a ≡ y - a)
uncut y a n p q = (omega arith, omega arith)

-- all but the last end inside the rows, and the last where they end
module _ (e : ℕ → ℕ) (first m a n : ℕ) (h : Ends (λ k. min (e (first + k)) (a + n) - a) (suc m) n) where
  pub inner_end : (k : ℕ) → k < m → (a ≤ e (first + k)) × (min (e (first + k)) (a + n) - a ≡ e (first + k) - a)
  inner_end k l = let r = before_last (λ k. min (e (first + k)) (a + n) - a) m n h k l in uncut (e (first + k)) a n r.0 r.1

  pub last_end_lem : min (e (first + m)) (a + n) - a ≡ n
  last_end_lem = sym h.covers

-- THE RUN ENDS OF A STRETCH: each less the first slot, and the last is the number of rows
pub ends_are : {body : List ℕ} {at size : ℕ} {s : List ℕ} → Part body at size s → ((i : ℕ) → get_or body i 0 < 256) → (w w' off first m a n : ℕ) → w ≤ 8 → (off + first + m) * w ≤ size
    → Ends (λ k. min (item w s (off + (first + k))) (a + n) - a) (suc m) n
    → lessened w w' body (at + w * (off + first)) a m ++ encode w' n ≡ encodes w' (seg (λ k. min (item w s (off + k)) (a + n) - a) first (suc m))
ends_are {body} {at} {size} {s} p small w w' off first m a n l h g =
    let f : ℕ → ℕ = λ k. min (item w s (off + k)) (a + n) - a in
    let i = inner_end (λ k. item w s (off + k)) first m a n g in
    let z : suc m ≡ m + 1 = omega arith in
    ap₂ ◌++◌
    (less_are p small w w' (off + first) a m l h (λ k q. let e : off + first + k ≡ off + (first + k) = omega arith in omega (arith, (i k q).0, ap (item w s) e))
    ∙ ap (encodes w') (seg_cong (λ j. item w s j - a) (λ k. min (item w s (off + k)) (a + n) - a) (off + first) first m (λ k q. let e : off + first + k ≡ off + (first + k) = omega arith in ap (λ y. item w s y - a) e ∙ sym (i k q).1)))
    (sym (append-nil (encode w' n)) ∙ ap (λ y. encode w' y ++ []) (sym (last_end_lem (λ k. item w s (off + k)) first m a n g)))
    ∙ sym (encodes_append w' (seg (λ k. min (item w s (off + k)) (a + n) - a) first m) ((min (item w s (off + (first + m))) (a + n) - a) ∷ []))
    ∙ ap (encodes w') (sym (seg_append (λ k. min (item w s (off + k)) (a + n) - a) first m 1) ∙ ap (λ y. seg (λ k. min (item w s (off + k)) (a + n) - a) first y) (sym z))
