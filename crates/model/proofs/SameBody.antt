-- Two dictionaries that stand in one body from the same positions on, with the same offset and length, hold the same entries. Assumes nothing.
use mathlib.Core.Path.{◌≡◌, refl, sym, ap, ap₂, ◌∙◌, subst}
use mathlib.Core.Bool.{Bool, true, false, ◌&&◌}
use mathlib.Core.Option.{Option, none, some}
use mathlib.Core.List.{List, [], ◌∷◌}
use Prim.Native.Nat.{ℕ, zero, suc, ◌+◌, ◌-◌, ◌*◌, ◌/◌, ◌%◌, ◌^◌, ◌≤◌, ◌<◌}
use native.Mathlib.Nat.{add-zero}
use native.Mathlib.Numerals.{add-one}
use native.Mathlib.Omega.{arith}
use lib.ListN.{length, take, drop, get_or}
use lib.Seq.{take-take, get_or-take}
use lib.Dec.{eqb}
use borrow.Author.Tests.{eqb-true}
use Rattle.number.specs.Number.{number}
use Rattle.columnar.specs.Types.{Plain, fixed, string, width}
use Rattle.columnar.specs.Row.{Row, bytes}
use Rattle.columnar.specs.Array.{Array, item, bit, ok, sight, read_with, Mask, Obeys}
use Rattle.columnar.specs.Plain.{Text, PlainBody, span, stored, Offsets, StringRule, empty, full, PlainRule}
use Rattle.columnar.specs.Dictionary.{Dictionary, entry_at}
use Rattle.columnar.proofs.Items.{number_take, entry_end}
use Rattle.columnar.specs.Test.{same as same_list}
use Rattle.model.specs.Opening.{ptr_eq}
use Rattle.model.specs.Sources.{Stretch, Buffers, ValidFrom, StandsFrom, Stands}
use Rattle.model.proofs.Start.{no_null_in}
use Rattle.model.proofs.Owed.{SameEntries}

-- ---- what `ptr_eq` says

and_first : (a b : Bool) → a && b ≡ true → a ≡ true
and_first true b e = refl
and_first false b e = e

and_rest : (a b : Bool) → a && b ≡ true → b ≡ true
and_rest true b e = e
and_rest false b e = absurd (let z : false ≡ true = e in let y : ◌≡◌ {A = ℕ} 0 1 = cc in omega arith)

same_list_lem : (xs ys : List ℕ) → same_list xs ys ≡ true → xs ≡ ys
same_list_lem [] [] e = refl
same_list_lem [] (y ∷ ys) e = absurd (let z : false ≡ true = e in let y : ◌≡◌ {A = ℕ} 0 1 = cc in omega arith)
same_list_lem (x ∷ xs) [] e = absurd (let z : false ≡ true = e in let y : ◌≡◌ {A = ℕ} 0 1 = cc in omega arith)
same_list_lem (x ∷ xs) (y ∷ ys) e = ap₂ ◌∷◌ (eqb-true x y (and_rest (same_list xs ys) (eqb x y) e)) (same_list_lem xs ys (and_first (same_list xs ys) (eqb x y) e))

module _ {P : Type 0} (d e : Dictionary P) (h : ptr_eq d e ≡ true) where
  same_places : eqb d.values.off e.values.off && eqb d.values.len e.values.len ≡ true
  same_places = and_first (eqb d.values.off e.values.off && eqb d.values.len e.values.len) (same_list d.starts e.starts) h

  pub same_off : d.values.off ≡ e.values.off
  same_off = eqb-true _ _ (and_first (eqb d.values.off e.values.off) (eqb d.values.len e.values.len) same_places)

  pub same_len : d.values.len ≡ e.values.len
  same_len = eqb-true _ _ (and_rest (eqb d.values.off e.values.off) (eqb d.values.len e.values.len) same_places)

  pub same_starts : d.starts ≡ e.starts
  same_starts = same_list_lem _ _ (and_rest (eqb d.values.off e.values.off && eqb d.values.len e.values.len) (same_list d.starts e.starts) h)

-- ---- a buffer is the body from its position on, as far as it goes

cut_take : (y n x : ℕ) (s : List ℕ) → y + n ≤ x → take n (drop y (take x s)) ≡ take n (drop y s)
cut_take zero n x s h = take-take n x s (omega arith)
cut_take (suc y) n zero s h = absurd (omega arith)
cut_take (suc y) n (suc x) [] h = refl
cut_take (suc y) n (suc x) (b ∷ s) h = cut_take y n x s (omega arith)

module _ (body : List ℕ) (at : ℕ) (s : List ℕ) (h : Stretch body at s) where
  part : (y n : ℕ) → y + n ≤ length s → take n (drop y s) ≡ take n (drop y (drop at body))
  part y n q = ap (λ x. take n (drop y x)) h ∙ cut_take y n (length s) (drop at body) q

  item_part : (w i n : ℕ) → n * w ≤ length s → i < n → item w s i ≡ item w (drop at body) i
  unfolding item
  item_part w i n q p =
      let e : i * w + w ≤ n * w = entry_end w p in
      sym (number_take w w (drop (i * w) s) (omega arith)) ∙ ap (number w) (part (i * w) w (omega arith)) ∙ number_take w w (drop (i * w) (drop at body)) (omega arith)

-- offsets that never fall
offsets_le : (w : ℕ) (b : Text) (off len : ℕ) → Offsets w b off len → (i n : ℕ) → i + n ≤ len → item w b.offsets (off + i) ≤ item w b.offsets (off + (i + n))
offsets_le w b off len o i zero q = rw add-zero (omega arith)
offsets_le w b off len o i (suc n) q =
    let z : off + (i + suc n) ≡ off + (i + n) + 1 = omega arith in
    rw z (omega (arith, offsets_le w b off len o i n (omega arith), o.rises (i + n) (omega arith)))

-- the buffers that reach to the end of the body
rest : List ℕ → (p : Plain) → List ℕ → PlainBody p
rest body (fixed k) [] = []
rest body (fixed k) (at ∷ l) = drop at body
rest body (string w) [] = record { offsets = []; chars = [] }
rest body (string w) (at ∷ []) = record { offsets = []; chars = [] }
rest body (string w) (at ∷ too ∷ l) = record { offsets = drop at body; chars = drop too body }

span_part : (w : ℕ) (body : List ℕ) (at too : ℕ) (b : Text) → Stretch body at b.offsets → Stretch body too b.chars → (off len e : ℕ) → StringRule w b off len → e < len
    → span w b (off + e) ≡ span w (record { offsets = drop at body; chars = drop too body }) (off + e)
span_part w body at too b s t off len e (empty z y) q = absurd (omega arith)
span_part w body at too b s t off len e (full o) q =
    let i : off + (suc e + (len - suc e)) ≡ off + len = omega arith in
    let z : off + suc e ≡ suc (off + e) = omega arith in
    let top : item w b.offsets (suc (off + e)) ≤ length b.chars = omega (arith, rw (i, z) at (offsets_le w b off len o (suc e) (len - suc e) (omega arith)), o.within) in
    let up : item w b.offsets (off + e) ≤ item w b.offsets (suc (off + e)) = rw add-one at (o.rises e q) in
    part body too b.chars t (item w b.offsets (off + e)) (item w b.offsets (suc (off + e)) - item w b.offsets (off + e)) (omega arith)
    ∙ rw (item_part body at b.offsets s w (off + e) (off + len + 1) o.hold (omega arith), item_part body at b.offsets s w (suc (off + e)) (off + len + 1) o.hold (omega arith))

entry_part : (body : List ℕ) (p : Plain) (b : PlainBody p) (l : List ℕ) → Buffers body p b l → (okay : ℕ → Bool) (off len e : ℕ) → PlainRule p okay b off len → e < len
    → stored p b (off + e) ≡ stored p (rest body p l) (off + e)
unfolding rest
entry_part body (fixed k) b [] s okay off len e r q = absurd s
entry_part body (fixed k) b (at ∷ l) s okay off len e r q =
    let z : off + e < off + len = omega arith in
    part body at b s ((off + e) * width k) (width k) (omega (arith, entry_end (width k) z))
entry_part body (string w) b [] s okay off len e r q = absurd s
entry_part body (string w) b (at ∷ []) s okay off len e r q = absurd s
entry_part body (string w) b (at ∷ too ∷ l) s okay off len e r q = span_part w body at too b s.0 s.1 off len e r q

-- the starts of the buffers, behind that of the validity
after_first : List ℕ → List ℕ
after_first [] = []
after_first (x ∷ l) = l

-- the validity that reaches to the end of the body; none where no row is null
valid_rest : List ℕ → List ℕ → Option (List ℕ)
valid_rest body [] = none
valid_rest body (zero ∷ l) = none
valid_rest body (suc at ∷ l) = some (drop at body)

-- a bit that the validity holds is the body's
bit_part : (body : List ℕ) (at : ℕ) (m : List ℕ) → Stretch body at m → (i : ℕ) → i < 8 * length m → bit m i ≡ bit (drop at body) i
unfolding bit
bit_part body at m h i q =
    let e : get_or m (i / 8) 0 ≡ get_or (drop at body) (i / 8) 0 = ap (λ s. get_or s (i / 8) 0) h ∙ get_or-take (length m) (drop at body) (i / 8) 0 (omega arith) in
    ap (λ (x : ℕ). eqb (x / 2 ^ (i % 8) % 2) 1) e

mask_in_lem : (m : List ℕ) (o : Option (List ℕ)) (n : ℕ) → o ≡ some m → Mask true o n → n ≤ 8 * length m
mask_in_lem m none n e h = absurd (let z : ◌≡◌ {A = ℕ} 0 1 = cc in omega arith)
mask_in_lem m (some x) n e h = let z : x ≡ m = cc in subst (λ (y : List ℕ). n ≤ 8 * length y) z h

valid_there : {B : Type 0} (body : List ℕ) (v : Array B) (at : ℕ) (l : List ℕ) → ValidFrom body v at → Mask true v.valid (v.off + v.len) → (e : ℕ) → e < v.len
    → ok v.valid (v.off + e) ≡ ok (valid_rest body (at ∷ l)) (v.off + e)
unfolding valid_rest
valid_there body v zero l h k e q = no_null_in (ok v.valid) v.off v.len h e q
valid_there body v (suc at) l h k e q =
    ap (λ o. ok o (v.off + e)) h.1.0 ∙ bit_part body at h.0 h.1.1 (v.off + e) (omega (arith, mask_in_lem h.0 v.valid (v.off + v.len) h.1.0 k))

-- entry e of values that stand in the body from these positions on
shown_there : List ℕ → (p : Plain) → List ℕ → ℕ → Row
shown_there body p l i = sight (ok (valid_rest body l) i) (bytes (stored p (rest body p (after_first l)) i))

entry_there : (body : List ℕ) (p : Plain) (v : Array (PlainBody p)) (l : List ℕ) → StandsFrom body p v l → Obeys true (PlainRule p) v → (e : ℕ) → e < v.len
    → read_with (entry_at p) v e ≡ shown_there body p l (v.off + e)
unfolding after_first shown_there
entry_there body p v [] s r e q = absurd s
entry_there body p v (x ∷ l) s r e q =
    ap₂ sight (valid_there body v x l s.0 r.mask e q) (ap bytes (entry_part body p v.body l s.1 (ok v.valid) v.off v.len e r.slots q))

-- TWO DICTIONARIES THAT ARE THE SAME ONE HOLD THE SAME ENTRIES, null or not
pub same_entries : (body : List ℕ) (m : ℕ) (p : Plain) (ds : ℕ → Dictionary (PlainBody p)) → ((j : ℕ) → j < m → Obeys true (PlainRule p) (ds j).values)
    → ((j : ℕ) → j < m → Stands body p (ds j)) → SameEntries p m ds
same_entries body m p ds r s i j hi hj h e q =
    entry_there body p (ds i).values (ds i).starts (s i hi) (r i hi) e q
    ∙ rw (same_off (ds i) (ds j) h, same_starts (ds i) (ds j) h)
    (sym (entry_there body p (ds j).values (ds j).starts (s j hj) (r j hj) e (rw (← same_len (ds i) (ds j) h) q)))
