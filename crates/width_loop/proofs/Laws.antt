-- What one node writes, step by step: how `Did` goes along it. Assumes nothing.
use mathlib.Core.Path.{◌≡◌, refl, sym, ap, ap₂, subst, ◌∙◌}
use mathlib.Core.Bool.{Bool, true, false, not, cond, ◌&&◌, false≢true}
use mathlib.Core.Option.{none, some}
use mathlib.Core.List.{List, [], ◌∷◌, map, append-nil}
use Prim.Native.Nat.{ℕ, zero, suc, ◌+◌, ◌*◌, ◌-◌, ◌<◌, ◌≤◌}
use native.Mathlib.Nat.{mul_comm, add-mul, mul-zero, add-zero, mul-le-mul_right}
use native.Mathlib.Numerals.{add-one}
use native.Mathlib.Omega.{arith}
use lib.ListN.{length, take, drop, get_or, replicate}
use lib.Dec.{leb, ltb, eqb}
use borrow.Author.Tests.{eq-eqb, ne_eqb, eqb-true, eqb-false, leb-true, lt-ltb}
use Rattle.number.specs.Number.{number, encode, entry}
use Rattle.bits.specs.Bits.{bits_at}
use Rattle.columnar.specs.Row.{seg}
use Rattle.columnar.specs.Types.{half}
use Rattle.columnar.specs.Array.{item, bit, ok}
use Rattle.columnar.specs.Entries.{encodes}
use Rattle.columnar.specs.Plain.{OffsetsRule, empty, full}
use Rattle.columnar.specs.Test.{mask_test}
use Rattle.columnar.proofs.Items.{entry_end}
use Rattle.array_data.specs.Tables.{Tables, part, place, valid_of, first_buffer, valid_in}
use Rattle.walk.specs.State.{keeps_of}
use Rattle.walk.specs.Log.{Out, Did, put, mask, apply_if, wrote, need}
use Rattle.walk.proofs.Laws.{done_did, wrote_did, need_no, need_ok, next_ok}
use Rattle.refinement.specs.walk_is_model.Holds.{flag}
use Rattle.refinement.specs.walk_is_model.Lent.{Part}
use Rattle.refinement.proofs.walk_is_model.Parts.{part_cut, part_entry, part_length}
use Rattle.refinement.proofs.walk_is_model.Mask.{flags_ones, bits_of}
use Rattle.anew.specs.widths.Converted.{span_of, offsets_of}
use Rattle.anew.proofs.widths.Plain.{first_least}
use Rattle.recode.specs.Recode.{recoded, lessened, valid_only, all_below}
use Rattle.width_walks.specs.Convert.{all_under, bits_walk}
use Rattle.width_loop.specs.Steps.{pairs_walk}
use Rattle.width_walks.proofs.Bytes.{recoded_are, offsets_are, keys_are}

-- a range of the body as a part
pub as_part : (body : List ℕ) (at size : ℕ) → at + size ≤ length body → Part body at size (part body at size)
as_part body at size h = record { bytes_are = refl; inside = h }

pub part_size : (body : List ℕ) (at size : ℕ) → at + size ≤ length body → length (part body at size) ≡ size
part_size body at size h = part_length (as_part body at size h)

-- a width of 4, and else 8
pub wide : (w : ℕ) → ((w ≡ 4 → ⊥) → w ≡ 8) → (4 ≤ w) × (w ≤ 8)
wide w h = go (eqb w 4) refl
  where
    go : (b : Bool) → eqb w 4 ≡ b → (4 ≤ w) × (w ≤ 8)
    go true e = let z = eqb-true w 4 e in (omega arith, omega arith)
    go false e = let z = h (eqb-false w 4 e) in (omega arith, omega arith)

-- what a test that was turned says
pub off_true : {b : Bool} → not b ≡ true → b ≡ false
off_true {b = true} h = absurd (false≢true h)
off_true {b = false} h = refl

pub off_false : {b : Bool} → not b ≡ false → b ≡ true
off_false {b = true} h = refl
off_false {b = false} h = absurd (false≢true (sym h))

-- ---- bits

module _ (plan parts : List ℕ) (write : Bool) (room : List ℕ) (i s n : ℕ) (c : List ℕ) where
  pub bits_off : (okay : ℕ → Bool) {k : ℕ} → k ≡ keeps_of plan i → k ≡ 0 → Did plan parts write (bits_walk plan i okay s n c) room 0 c room
  unfolding bits_walk
  bits_off okay e h = rw (eq-eqb (keeps_of plan i) 0 (sym e ∙ h)) (done_did write c room)

  bits_on : (okay : ℕ → Bool) (vs room2 : List ℕ) {k : ℕ} → k ≡ keeps_of plan i → (k ≡ 0 → ⊥) → vs ≡ map flag (seg okay s n) → room2 ≡ apply_if plan parts write (mask i 0 vs ∷ []) room
      → Did plan parts write (bits_walk plan i okay s n c) room 0 c room2
  unfolding bits_walk
  bits_on okay vs room2 e h v g = rw (ne_eqb (keeps_of plan i) 0 (λ z. h (e ∙ z))) (wrote_did write (mask i 0 (map flag (seg okay s n))) c room room2 (rw v at g))

  module _ (x : Tables) (k : ℕ) where
    pub bits_ones : {v p : ℕ} {room2 : List ℕ} → p ≡ keeps_of plan i → (p ≡ 0 → ⊥) → v ≡ place x k 0 → v ≡ 0 → room2 ≡ apply_if plan parts write (mask i 0 (replicate n 1) ∷ []) room
        → Did plan parts write (bits_walk plan i (ok (valid_of x k)) s n c) room 0 c room2
    bits_ones {v} {p} {room2} e h f z g = rw (eq-eqb (place x k 0) 0 (sym f ∙ z)) (bits_on (ok none) (replicate n 1) room2 e h (sym (flags_ones n s)) g)

    some_valid : (place x k 0 ≡ 0 → ⊥) → valid_of x k ≡ some (part x.body (place x k 1) (place x k 2))
    some_valid h = rw (ne_eqb (place x k 0) 0 h)

    -- where a node's validity lies
    pub mask_inside : (place x k 0 ≡ 0 → ⊥) → valid_in x k ≡ true → place x k 1 + place x k 2 ≤ length x.body
    mask_inside h q = leb-true (place x k 1 + place x k 2) (length x.body) (rw (ne_eqb (place x k 0) 0 h) at q)

    pub mask_long : (place x k 0 ≡ 0 → ⊥) → valid_in x k ≡ true → mask_test true (valid_of x k) (s + n) ≡ true → s + n ≤ 8 * place x k 2
    mask_long h q m =
        let l = part_length (as_part x.body (place x k 1) (place x k 2) (mask_inside h q)) in
        let b : leb (s + n) (8 * length (part x.body (place x k 1) (place x k 2))) ≡ true = subst (λ o. mask_test true o (s + n) ≡ true) (some_valid h) m in
        omega (arith, l, leb-true (s + n) (8 * length (part x.body (place x k 1) (place x k 2))) b)

    pub bits_there : {v p at : ℕ} {room2 : List ℕ} → valid_in x k ≡ true → mask_test true (valid_of x k) (s + n) ≡ true → p ≡ keeps_of plan i → (p ≡ 0 → ⊥) → v ≡ place x k 0 → (v ≡ 0 → ⊥) → at ≡ place x k 1
        → room2 ≡ apply_if plan parts write (mask i 0 (bits_at (8 * at + s) n x.body) ∷ []) room → Did plan parts write (bits_walk plan i (ok (valid_of x k)) s n c) room 0 c room2
    bits_there {v} {p} {at} {room2} q m e h f z a g =
        let y : place x k 0 ≡ 0 → ⊥ = λ w. z (f ∙ w) in
        rw (some_valid y)
        (bits_on (bit (part x.body (place x k 1) (place x k 2))) (bits_at (8 * at + s) n x.body) room2 e h
        (ap (λ w. bits_at (8 * w + s) n x.body) a ∙ bits_of x.body (place x k 1) (place x k 2) (mask_inside y q) n s (mask_long y q m)) g)

-- ---- slots

-- the slots of a stretch, in place
pub slots_are : (body : List ℕ) (at size w slot n : ℕ) → at + size ≤ length body → (slot + n) * w ≤ size → take (w * n) (drop (at + w * slot) body) ≡ take (n * w) (drop (slot * w) (part body at size))
slots_are body at size w slot n h q =
    let a : (slot + n) * w ≡ slot * w + n * w = add-mul slot n w in
    ap₂ (λ y z. take y (drop (at + z) body)) (mul_comm w n) (mul_comm w slot) ∙ sym (part_cut (as_part body at size h) (n * w) (slot * w) (omega (arith, a)))

-- .. and where they end
pub slots_in : (body : List ℕ) (at size w slot n : ℕ) → at + size ≤ length body → (slot + n) * w ≤ size → at + w * (slot + n) ≤ length body
slots_in body at size w slot n h q = let a : w * (slot + n) ≡ (slot + n) * w = mul_comm w (slot + n) in omega (arith, a)

-- ---- offsets

number_none : (w : ℕ) → number w [] ≡ 0
unfolding number
number_none zero = refl
number_none (suc w) = refl

drop_none : (k : ℕ) → ◌≡◌ {A = List ℕ} (drop k []) []
drop_none zero = refl
drop_none (suc k) = refl

-- an empty buffer has none but 0
pub item_none : (w k : ℕ) → item w [] k ≡ 0
unfolding item
item_none w k = ap (number w) (drop_none (k * w)) ∙ number_none w

pub no_offset : (body : List ℕ) (at size w k : ℕ) → size ≡ 0 → 0 ≡ item w (part body at size) k
no_offset body at size w k e = rw e (sym (item_none w k))

pub some_offset : (body : List ℕ) (at size w k : ℕ) → at + size ≤ length body → (k + 1) * w ≤ size → entry w body at k ≡ item w (part body at size) k
some_offset body at size w k h q =
    let a : (0 + k) * w + w ≡ (k + 1) * w = ap (λ z. z * w + w) (let e : 0 + k ≡ k = omega arith in e) ∙ (let e : k * w + w ≡ k * w + 1 * w = omega arith in e) ∙ sym (add-mul k 1 w) in
    let z : at ≡ at + w * 0 = omega (arith, mul-zero w) in
    ap (λ y. entry w body y k) z ∙ part_entry (as_part body at size h) w 0 k (omega (arith, a)) ∙ ap (item w (part body at size)) (let e : 0 + k ≡ k = omega arith in e)

-- offset p of those that a stretch reads
pub offset_in_lem : (w : ℕ) (os : List ℕ) (most s n p size : ℕ) → OffsetsRule w os most s n → length os ≡ size → p ≤ s + n → (size ≡ 0 → ⊥) → (p + 1) * w ≤ size
offset_in_lem w os most s n p size (empty e f) l q h = absurd (h (sym l ∙ ap length f))
offset_in_lem w os most s n p size (full r) l q h =
    let z : (p + 1) * w ≤ (s + n + 1) * w = mul-le-mul_right w (omega arith) in
    omega (arith, r.hold)

pub span_rises : (w : ℕ) (os : List ℕ) (most s n : ℕ) → OffsetsRule w os most s n → item w os s ≤ item w os (s + n)
span_rises w os most s n r = first_least w os most s n r n (omega arith)

-- no offsets where there are slots is no stretch
no_rows : (w : ℕ) (os : List ℕ) (most s n : ℕ) → 1 ≤ w → OffsetsRule w os most s n → length os ≡ 0 → n ≡ 0
no_rows w os most s n p (empty e f) l = e
no_rows w os most s n p (full r) l =
    let z : 1 * w ≤ (s + n + 1) * w = mul-le-mul_right w (omega arith) in
    absurd (omega (arith, r.hold))

no_item : (w : ℕ) (os : List ℕ) (k : ℕ) → length os ≡ 0 → item w os k ≡ 0
no_item w [] k l = item_none w k
no_item w (v ∷ os) k l = absurd (omega arith)

module _ (plan parts : List ℕ) (write : Bool) (room : List ℕ) (i : ℕ) (body : List ℕ) (at size w w2 s n most : ℕ) (inside : at + size ≤ length body) (r : OffsetsRule w (part body at size) most s n) where
  abbrev os : List ℕ
  os = part body at size

  abbrev offsets_step : List ℕ → Out
  offsets_step c = need (ltb (span_of w os s n) (half w2)) 6 c (wrote (put i 1 0 (encodes w2 (offsets_of w os s n))) c)

  long : length os ≡ size
  long = part_length (as_part body at size inside)

  span_is : {base last span : ℕ} {b : Bool} → base ≡ item w os s → last ≡ item w os (s + n) → span ≡ last - base → b ≡ ltb (0 + span) (half w2) → b ≡ ltb (span_of w os s n) (half w2)
  span_is {base} {last} {span} e f g h =
      let z : 0 + span ≡ item w os (s + n) - item w os s = omega (arith, e, f, g) in
      h ∙ ap (λ y. ltb y (half w2)) z

  pub offsets_over : {base last span : ℕ} {b : Bool} → base ≡ item w os s → last ≡ item w os (s + n) → span ≡ last - base → b ≡ ltb (0 + span) (half w2) → not b ≡ true → (c : List ℕ) → Did plan parts write (offsets_step c) room 6 c room
  offsets_over e f g h t c = need_no _ (sym (span_is e f g h) ∙ off_true t)

  pub offsets_none : {base last span : ℕ} {b : Bool} {room2 : List ℕ} → 1 ≤ w → base ≡ item w os s → last ≡ item w os (s + n) → span ≡ last - base → b ≡ ltb (0 + span) (half w2) → not b ≡ false → size ≡ 0
      → room2 ≡ apply_if plan parts write (put i 1 0 (encode w2 0) ∷ []) room → (c : List ℕ) → Did plan parts write (offsets_step c) room 0 c room2
  offsets_none {room2 = room2} p e f g h t z q c =
      let m : n ≡ 0 = no_rows w os most s n p r (long ∙ z) in
      let v : encode w2 0 ≡ encodes w2 (offsets_of w os s n) = sym (ap (λ y. encodes w2 (seg (λ j. item w os j - item w os s) s (suc y))) m ∙ append-nil (encode w2 (item w os s - item w os s)) ∙ ap (encode w2) (let u : item w os s - item w os s ≡ 0 = omega arith in u)) in
      need_ok 6 c (sym (span_is e f g h) ∙ off_false t) (wrote_did write (put i 1 0 (encodes w2 (offsets_of w os s n))) c room room2 (rw v at q))

  pub offsets_some : {base last span : ℕ} {b : Bool} {room2 : List ℕ} → w ≤ 8 → ((j : ℕ) → get_or body j 0 < 256) → base ≡ item w os s → last ≡ item w os (s + n) → span ≡ last - base → b ≡ ltb (0 + span) (half w2) → not b ≡ false
      → (size ≡ 0 → ⊥) → room2 ≡ apply_if plan parts write (put i 1 0 (lessened w w2 body (at + w * s) base (n + 1)) ∷ []) room → (c : List ℕ) → Did plan parts write (offsets_step c) room 0 c room2
  offsets_some {room2 = room2} l small e f g h t z q c =
      let y : s + suc n ≡ s + n + 1 = omega arith in
      let k : (s + suc n) * w ≤ size = subst (λ u. u * w ≤ size) (sym y) (offset_in_lem w os most s n (s + n) size r long (omega arith) z) in
      let v = offsets_are (as_part body at size inside) small w w2 s n most l k r in
      let u = ap₂ (λ y z. lessened w w2 body (at + w * s) y z) e (add-one n) ∙ v in
      need_ok 6 c (sym (span_is e f g h) ∙ off_false t) (wrote_did write (put i 1 0 (encodes w2 (offsets_of w os s n))) c room room2 (rw u at q))

-- ---- offsets and sizes

-- what is below half of a width is below half of one that is no smaller
half_below : (w w2 : ℕ) → ((w ≡ 4 → ⊥) → w ≡ 8) → ((w2 ≡ 4 → ⊥) → w2 ≡ 8) → w ≤ w2 → half w ≤ half w2
half_below w w2 p q l = go (eqb w 4) refl (eqb w2 4) refl
  where
    same : w ≡ w2 → half w ≤ half w2
    same e = omega (arith, ap half e)

    go : (a : Bool) → eqb w 4 ≡ a → (b : Bool) → eqb w2 4 ≡ b → half w ≤ half w2
    go true e true f = same (eqb-true w 4 e ∙ sym (eqb-true w2 4 f))
    go true e false f = omega (arith, ap half (eqb-true w 4 e), ap half (q (eqb-false w2 4 f)))
    go false e true f = let z = p (eqb-false w 4 e) in let y = eqb-true w2 4 f in absurd (omega arith)
    go false e false f = same (p (eqb-false w 4 e) ∙ sym (q (eqb-false w2 4 f)))

all_below_lem : (w : ℕ) (s : List ℕ) (from most n : ℕ) → ((j : ℕ) → j < n → entry w s from j < most) → true ≡ all_below w s from most n
unfolding all_below
all_below_lem w s from most zero h = refl
all_below_lem w s from most (suc n) h = rw (sym (all_below_lem w s from most n (λ j l. h j (omega arith))), lt-ltb (entry w s from n) most (h n (omega arith)))

pub all_small : (w w2 : ℕ) (s : List ℕ) (from n : ℕ) → ((w ≡ 4 → ⊥) → w ≡ 8) → ((w2 ≡ 4 → ⊥) → w2 ≡ 8) → w ≤ w2 → ((j : ℕ) → j < n → entry w s from j < half w) → true ≡ all_below w s from (half w2) n
all_small w w2 s from n p q l h = let z = half_below w w2 p q l in all_below_lem w s from (half w2) n (λ j k. omega (arith, h j k, z))

-- none is above a number that fits
pub all_most : (w w2 : ℕ) (s : List ℕ) (from n most limit : ℕ) → limit ≡ half w2 → most < limit → ((j : ℕ) → j < n → entry w s from j ≤ most) → true ≡ all_below w s from (half w2) n
all_most w w2 s from n most limit e l h = all_below_lem w s from (half w2) n (λ j k. omega (arith, e, l, h j k))

three : (a b c : Bool) → a && (b && c) ≡ a && b && c
three true b c = refl
three false b c = refl

one : (b : Bool) → b && true ≡ true && b
one true = refl
one false = refl

under_last : (most : ℕ) (f : ℕ → ℕ) (slot n : ℕ) → all_under most (seg f slot (suc n)) ≡ all_under most (seg f slot n) && ltb (f (slot + n)) most
under_last most f slot zero = rw add-zero (one (ltb (f slot) most))
under_last most f slot (suc n) =
    ap (λ z. ltb (f slot) most && z) (under_last most f (suc slot) n ∙ ap (λ z. all_under most (seg f (suc slot) n) && ltb (f z) most) (let e : suc slot + n ≡ slot + suc n = omega arith in e))
    ∙ three (ltb (f slot) most) (all_under most (seg f (suc slot) n)) (ltb (f (slot + suc n)) most)

-- the test of entries in place is that of the list
below_under : (w : ℕ) (s : List ℕ) (from most : ℕ) (f : ℕ → ℕ) (slot n : ℕ) → ((k : ℕ) → k < n → entry w s from k ≡ f (slot + k)) → all_below w s from most n ≡ all_under most (seg f slot n)
unfolding all_below
below_under w s from most f slot zero h = refl
below_under w s from most f slot (suc n) h =
    ap₂ (λ a b. a && ltb b most) (below_under w s from most f slot n (λ k l. h k (omega arith))) (h n (omega arith)) ∙ sym (under_last most f slot n)

pub all_under_lem : (body : List ℕ) (at size w slot n most : ℕ) → at + size ≤ length body → (slot + n) * w ≤ size → all_below w body (at + w * slot) most n ≡ all_under most (seg (item w (part body at size)) slot n)
all_under_lem body at size w slot n most h q =
    below_under w body (at + w * slot) most (item w (part body at size)) slot n
    (λ k l. let z : (slot + k) * w + w ≤ (slot + n) * w = entry_end w {i = slot + k} {n = slot + n} (omega arith) in part_entry (as_part body at size h) w slot k (omega arith))

module _ (plan parts : List ℕ) (write : Bool) (room : List ℕ) (i : ℕ) (body : List ℕ) (at too w w2 s n size room2 : ℕ) (c : List ℕ)
    (first : at + size ≤ length body) (second : too + room2 ≤ length body) (p : (s + n) * w ≤ size) (q : (s + n) * w ≤ room2) where
  abbrev step : Out
  step = pairs_walk (part body at size) (part body too room2) w w2 i s n c

  told : (at size : ℕ) → at + size ≤ length body → (s + n) * w ≤ size → {b : Bool} {most : ℕ} → most ≡ half w2 → b ≡ all_below w body (at + w * s) most n → b ≡ all_under (half w2) (seg (item w (part body at size)) s n)
  told at size h g e f = f ∙ ap (λ z. all_below w body (at + w * s) z n) e ∙ all_under_lem body at size w s n (half w2) h g

  pub pairs_first : {b : Bool} {most : ℕ} → most ≡ half w2 → b ≡ all_below w body (at + w * s) most n → not b ≡ true → Did plan parts write step room 6 c room
  pairs_first e f h = need_no _ (sym (told at size first p e f) ∙ off_true h)

  pub pairs_second : {b d : Bool} {most : ℕ} → most ≡ half w2 → b ≡ all_below w body (at + w * s) most n → not b ≡ false → d ≡ all_below w body (too + w * s) most n → not d ≡ true → Did plan parts write step room 6 c room
  pairs_second e f h g k = need_ok 6 c (sym (told at size first p e f) ∙ off_false h) (need_no _ (sym (told too room2 second q e g) ∙ off_true k))

  pub pairs_both : {b d : Bool} {most : ℕ} {r1 r2 : List ℕ} → most ≡ half w2 → b ≡ all_below w body (at + w * s) most n → not b ≡ false → d ≡ all_below w body (too + w * s) most n → not d ≡ false
      → r1 ≡ apply_if plan parts write (put i 1 0 (recoded w w2 body (at + w * s) n) ∷ []) room → r2 ≡ apply_if plan parts write (put i 2 0 (recoded w w2 body (too + w * s) n) ∷ []) r1
      → Did plan parts write step room 0 c r2
  pairs_both {r1 = r1} {r2 = r2} e f h g k u v =
      need_ok 6 c (sym (told at size first p e f) ∙ off_false h)
      (need_ok 6 c (sym (told too room2 second q e g) ∙ off_false k)
      (next_ok _ (wrote_did write (put i 1 0 (encodes w2 (seg (item w (part body at size)) s n))) c room r1 (rw (recoded_are (as_part body at size first) w w2 s n p) at u)) refl
      (wrote_did write (put i 2 0 (encodes w2 (seg (item w (part body too room2)) s n))) c r1 r2 (rw (recoded_are (as_part body too room2 second) w w2 s n q) at v))))

-- ---- keys

module _ (x : Tables) (k w w2 s n : ℕ) (inside : place x k 3 + place x k 4 ≤ length x.body) (fit : (s + n) * w ≤ place x k 4) where
  abbrev pub keys_of : List ℕ
  keys_of = encodes w2 (seg (λ j. cond (ok (valid_of x k) j) (item w (first_buffer x k) j) 0) s n)

  pub keys_plain : {at v : ℕ} → at ≡ place x k 3 → v ≡ place x k 0 → v ≡ 0 → recoded w w2 x.body (at + w * s) n ≡ keys_of
  keys_plain e f z =
      ap (λ y. recoded w w2 x.body (y + w * s) n) e ∙ recoded_are (as_part x.body (place x k 3) (place x k 4) inside) w w2 s n fit
      ∙ ap (λ o. encodes w2 (seg (λ j. cond (ok o j) (item w (first_buffer x k) j) 0) s n)) (sym none_valid)
    where
      none_valid : valid_of x k ≡ none
      none_valid = rw (eq-eqb (place x k 0) 0 (sym f ∙ z))

  pub keys_valid : {at v m : ℕ} → valid_in x k ≡ true → mask_test true (valid_of x k) (s + n) ≡ true → at ≡ place x k 3 → v ≡ place x k 0 → (v ≡ 0 → ⊥) → m ≡ place x k 1
      → valid_only w w2 x.body (at + w * s) (8 * m + s) n ≡ keys_of
  keys_valid q t e f z g =
      let h : place x k 0 ≡ 0 → ⊥ = λ y. z (f ∙ y) in
      ap₂ (λ y u. valid_only w w2 x.body (y + w * s) (8 * u + s) n) e g
      ∙ keys_are (as_part x.body (place x k 3) (place x k 4) inside) (as_part x.body (place x k 1) (place x k 2) (mask_inside [] [] true [] 0 s n [] x k h q)) w w2 s n fit (mask_long [] [] true [] 0 s n [] x k h q t)
      ∙ ap (λ o. encodes w2 (seg (λ j. cond (ok o j) (item w (first_buffer x k) j) 0) s n)) (sym (some_valid [] [] true [] 0 s n [] x k h))

-- where the offsets of a stretch stand
pub offsets_from_lem : (body : List ℕ) (at size w s n most : ℕ) → at + size ≤ length body → OffsetsRule w (part body at size) most s n → (size ≡ 0 → ⊥) → at + w * s + w * (n + 1) ≤ length body
offsets_from_lem body at size w s n most h r z =
    let a = offset_in_lem w (part body at size) most s n (s + n) size r (part_size body at size h) (omega arith) z in
    let b : (s + n + 1) * w ≡ w * s + w * (n + 1) = ap (λ y. y * w) (let e : s + n + 1 ≡ s + (n + 1) = omega arith in e) ∙ add-mul s (n + 1) w ∙ ap₂ ◌+◌ (mul_comm s w) (mul_comm (n + 1) w) in
    omega arith
