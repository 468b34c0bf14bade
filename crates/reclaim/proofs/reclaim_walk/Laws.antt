-- What the walk of a reclaiming goes by: the keys that the tables name, and walks one behind the other. Assumes nothing.
use mathlib.Core.Path.{◌≡◌, refl, sym, ap, ap₂, subst, ◌∙◌}
use mathlib.Core.Bool.{Bool, true, false, not, cond, ◌&&◌, false≢true}
use mathlib.Core.List.{List, [], ◌∷◌, append_assoc}
use Prim.Native.Nat.{ℕ, ◌+◌, ◌*◌, ◌^◌, ◌≤◌, ◌<◌}
use native.Mathlib.Nat.{add-zero, mul_comm}
use native.Mathlib.Decide.{ℕ_discrete}
use native.Mathlib.Omega.{arith}
use lib.ListN.{length, get_or}
use lib.Dec.{leb, ltb, eqb}
use borrow.Author.Tests.{leb-true, ltb-true, lt-ltb, le-ltb, eq-eqb, ne_eqb}
use Rattle.number.specs.Number.{encode}
use Rattle.columnar.specs.Row.{seg}
use Rattle.columnar.proofs.Items.{length_encodes}
use Rattle.model.proofs.Bits.{length_seg}
use Rattle.schema.specs.formats.Code.{is_fixed, is_string, width_of}
use Rattle.array_data.proofs.lent_tables.Laws.{and_left, and_right}
use Rattle.walk.specs.State.{Join, code_of, bytes_of, grown, scaled, top, add_rows, place, length_of, offset_of, far, rows_in}
use Rattle.walk.specs.Log.{Out, Did, put, done, next, apply_if}
use Rattle.walk.proofs.Laws.{done_did, wrote_did, need_no, need_ok, next_ok, next_no}
use Rattle.walk.specs.Leaves.{copy_mask}
use Rattle.walk.specs.Copy.{copy_walk}
use Rattle.room_writes.proofs.Laws.{Made, times_within}
use Rattle.leaf_walk.specs.Join.{join}
use Rattle.leaf_walk.proofs.Widths.{fixed_width, string_width}
use Rattle.reclaim.specs.used_entries.Keys.{Keys, keys, KeyWidth, Within, used, rank, new_key, new_keys}
use Rattle.reclaim.proofs.used_entries.Laws.{rank_more}
use Rattle.reclaim.specs.reclaim_walk.Walk.{keys_of, bits_in, keys_in, first_entry, copy_run, copy_blocks, reclaim_walk_of}

-- ---- walks one behind the other

pub next_next : (o : Out) (f k : List ℕ → Out) → next o (λ c. next (f c) k) ≡ next (next o f) k
unfolding next
next_next o f k = go (eqb o.ans 0) refl (eqb (f o.counters).ans 0) refl
  where
    go : (t : Bool) → eqb o.ans 0 ≡ t → (u : Bool) → eqb (f o.counters).ans 0 ≡ u → next o (λ c. next (f c) k) ≡ next (next o f) k
    go true e true q = rw (e, q, append_assoc)
    go true e false q = rw (e, q)
    go false e u q = rw (e, e)

-- a walk with nothing to do before it
pub next_done : (c : List ℕ) (k : List ℕ → Out) → next (done c) k ≡ k c
unfolding next done
next_done c k = refl

-- what follows is only asked at the counters that are left
pub next_same : (o : Out) (f k : List ℕ → Out) → f o.counters ≡ k o.counters → next o f ≡ next o k
unfolding next
next_same o f k h = rw h

-- ---- the tables as the code reads them

module _ (x : Join) where
  pub place_zero : (j : ℕ) → get_or x.places (9 * x.first + j) 0 ≡ place x 0 j
  place_zero j = ap (λ f. get_or x.places (9 * f + j) 0) (sym (add-zero x.first))

  pub length_zero : get_or x.lengths (2 * x.first) 0 ≡ length_of x 0
  length_zero = ap (λ f. get_or x.lengths (2 * f) 0) (sym (add-zero x.first))

  pub offset_zero : get_or x.lengths (2 * x.first + 1) 0 ≡ offset_of x 0
  offset_zero = ap (λ f. get_or x.lengths (2 * f + 1) 0) (sym (add-zero x.first))

  -- THE KEYS, by what was read of the tables
  pub keys_same : {w at mask off n : ℕ} {masked : Bool} → w ≡ bytes_of x.plan 0 → at ≡ get_or x.places (9 * x.first + 3) 0
      → masked ≡ not (eqb (get_or x.places (9 * x.first + 0) 0) 0) → mask ≡ get_or x.places (9 * x.first + 1) 0
      → off ≡ get_or x.lengths (2 * x.first + 1) 0 → n ≡ get_or x.lengths (2 * x.first) 0 → keys x.body w at masked mask off n ≡ keys_of x
  keys_same {w} {at} {mask} {off} {n} {masked} a b c d e f =
      ap (λ z. keys x.body z at masked mask off n) a
      ∙ ap (λ z. keys x.body (bytes_of x.plan 0) z masked mask off n) (b ∙ place_zero 3)
      ∙ ap (λ z. keys x.body (bytes_of x.plan 0) (place x 0 3) z mask off n) (c ∙ ap (λ q. not (eqb q 0)) (place_zero 0))
      ∙ ap (λ z. keys x.body (bytes_of x.plan 0) (place x 0 3) (not (eqb (place x 0 0) 0)) z off n) (d ∙ place_zero 1)
      ∙ ap (λ z. keys x.body (bytes_of x.plan 0) (place x 0 3) (not (eqb (place x 0 0) 0)) (place x 0 1) z n) (e ∙ offset_zero)
      ∙ ap (λ z. keys x.body (bytes_of x.plan 0) (place x 0 3) (not (eqb (place x 0 0) 0)) (place x 0 1) (offset_of x 0) z) (f ∙ length_zero)

  -- ---- keys that lie in the body

  no_mask_lem : (b : Bool) → not b ≡ true → b ≡ false
  no_mask_lem true e = sym e
  no_mask_lem false e = refl

  -- keys that lie in the body, test by test
  record Tests : Type 0 where
    is_fixed_lem : is_fixed (code_of x.plan 0) ≡ true
    slots : ltb (offset_of x 0 + length_of x 0) far ≡ true
    entries : ltb (length_of x 1) far ≡ true
    rows : rows_in x (place x 0 3) (bytes_of x.plan 0) (offset_of x 0) (length_of x 0) ≡ true
    bits : bits_in x ≡ true

  tests : keys_in x ≡ true → Tests
  unfolding keys_in
  tests h =
      let a = is_fixed (code_of x.plan 0) in
      let b = ltb (offset_of x 0 + length_of x 0) far in
      let c = ltb (length_of x 1) far in
      let d = rows_in x (place x 0 3) (bytes_of x.plan 0) (offset_of x 0) (length_of x 0) in
      let four = and_left (a && b && c && d) (bits_in x) h in
      let three = and_left (a && b && c) d four in
      let two = and_left (a && b) c three in
      record {
        is_fixed_lem = and_left a b two;
        slots = and_right a b two;
        entries = and_right (a && b) c three;
        rows = and_right (a && b && c) d four;
        bits = and_right (a && b && c && d) (bits_in x) h;
      }

  bits_there : (b : Bool) → b ≡ false → cond b true (leb (8 * place x 0 1 + offset_of x 0 + length_of x 0) (8 * length x.body)) ≡ true
      → leb (8 * place x 0 1 + offset_of x 0 + length_of x 0) (8 * length x.body) ≡ true
  bits_there true e q = absurd (false≢true (sym e))
  bits_there false e q = q

  pub keys_within : keys_in x ≡ true → Within (keys_of x)
  unfolding rows_in
  keys_within h =
      let t = tests h in
      record {
        width = fixed_width (code_of x.plan 0) t.is_fixed_lem;
        slots = ltb-true (offset_of x 0 + length_of x 0) far t.slots;
        keys_in_lem = leb-true (place x 0 3 + bytes_of x.plan 0 * (offset_of x 0 + length_of x 0)) (length x.body) t.rows;
        bits_in_lem = λ e.
            omega (arith, leb-true (8 * place x 0 1 + offset_of x 0 + length_of x 0) (8 * length x.body) (bits_there (eqb (place x 0 0) 0) (no_mask_lem (eqb (place x 0 0) 0) e) t.bits));
      }

  pub entries_far : keys_in x ≡ true → length_of x 1 < far
  entries_far h = ltb-true (length_of x 1) far (tests h).entries

-- ---- the test of the keys, as the code goes

far_above : (o n g : ℕ) → g ≡ grown o n → far ≤ g → ltb (o + n) far ≡ false
unfolding grown
far_above o n g e h = le-ltb (o + n) far (omega arith)

far_below : (o n g : ℕ) → g ≡ grown o n → g < far → ltb (o + n) far ≡ true
unfolding grown
far_below o n g e h = lt-ltb (o + n) far (omega arith)

not_true : (b : Bool) → not b ≡ true → b ≡ false
not_true true e = sym e
not_true false e = refl

not_false : (b : Bool) → not b ≡ false → b ≡ true
not_false true e = refl
not_false false e = sym e

module _ (x : Join) {off n code : ℕ} (eo : off ≡ get_or x.lengths (2 * x.first + 1) 0) (en : n ≡ get_or x.lengths (2 * x.first) 0) (ec : code ≡ code_of x.plan 0) {t : Bool} (et : t ≡ is_fixed code) where
  abbrev sum_is : off + n ≡ offset_of x 0 + length_of x 0
  sum_is = ap₂ ◌+◌ (eo ∙ offset_zero x) (en ∙ length_zero x)

  is_fixed_lem : (b : Bool) → t ≡ b → is_fixed (code_of x.plan 0) ≡ b
  is_fixed_lem b h = ap is_fixed (sym ec) ∙ sym et ∙ h

  pub in_code : not t ≡ true → false ≡ keys_in x
  unfolding keys_in
  in_code h = rw (is_fixed_lem false (not_true t h))

  module _ (ht : not t ≡ false) {g : ℕ} (eg : g ≡ grown off n) where
    fixed : is_fixed (code_of x.plan 0) ≡ true
    fixed = is_fixed_lem true (not_false t ht)

    pub in_sum : far ≤ g → false ≡ keys_in x
    unfolding keys_in
    in_sum h = rw (fixed, ap (λ s. ltb s far) (sym sum_is) ∙ far_above off n g eg h)

    module _ (hg : g < far) {m : ℕ} (em : m ≡ get_or x.lengths (2 * (x.first + 1)) 0) where
      summed : ltb (offset_of x 0 + length_of x 0) far ≡ true
      summed = ap (λ s. ltb s far) (sym sum_is) ∙ far_below off n g eg hg

      pub in_entries : far ≤ m → false ≡ keys_in x
      unfolding keys_in
      in_entries h = rw (fixed, summed, le-ltb (length_of x 1) far (omega (arith, em)))

      module _ (hm : m < far) {w at : ℕ} {r : Bool} (ew : w ≡ bytes_of x.plan 0) (ea : at ≡ get_or x.places (9 * x.first + 3) 0) (er : r ≡ rows_in x at w off n) where
        few : ltb (length_of x 1) far ≡ true
        few = lt-ltb (length_of x 1) far (omega (arith, em))

        rows_is : r ≡ rows_in x (place x 0 3) (bytes_of x.plan 0) (offset_of x 0) (length_of x 0)
        rows_is = er ∙ ap (λ z. rows_in x z w off n) (ea ∙ place_zero x 3) ∙ ap (λ z. rows_in x (place x 0 3) z off n) ew
            ∙ ap₂ (λ y z. rows_in x (place x 0 3) (bytes_of x.plan 0) y z) (eo ∙ offset_zero x) (en ∙ length_zero x)

        pub in_rows_lem : not r ≡ true → false ≡ keys_in x
        unfolding keys_in
        in_rows_lem h = rw (fixed, summed, few, sym rows_is ∙ not_true r h)

        module _ (hr : not r ≡ false) {p : ℕ} (ep : p ≡ get_or x.places (9 * x.first + 0) 0) where
          pub in_none : p ≡ 0 → true ≡ keys_in x
          unfolding keys_in
          in_none h = rw (fixed, summed, few, sym rows_is ∙ not_false r hr, eq-eqb (place x 0 0) 0 (sym (ep ∙ place_zero x 0) ∙ h))

          pub in_bits : (p ≡ 0 → ⊥) → {q : ℕ} {v : Bool} → q ≡ get_or x.places (9 * x.first + 1) 0 → v ≡ leb (8 * q + off + n) (8 * length x.body) → v ≡ keys_in x
          unfolding keys_in
          in_bits h {q} {v} eq ev =
              rw (fixed, summed, few, sym rows_is ∙ not_false r hr, ne_eqb (place x 0 0) 0 (λ z. h (ep ∙ place_zero x 0 ∙ z)))
              (ev ∙ ap (λ z. leb (8 * z + off + n) (8 * length x.body)) (eq ∙ place_zero x 1)
              ∙ ap₂ (λ y z. leb (8 * place x 0 1 + y + z) (8 * length x.body)) (eo ∙ offset_zero x) (en ∙ length_zero x))

-- ---- steps of the walk

pub length_new : (k : Keys) (e : ℕ) → length (new_keys k e) ≡ k.wide * k.len
unfolding new_keys
length_new k e = length_encodes k.wide (seg (new_key k e) 0 k.len) ∙ ap (λ n. n * k.wide) (length_seg (new_key k e) 0 k.len) ∙ mul_comm k.len k.wide

-- an entry is in use where its rank is below that of the next one
pub used_told : (k : Keys) (e a b : ℕ) → a ≡ rank k e → b ≡ rank k (e + 1) → ltb a b ≡ used k e
used_told k e a b p q = go (used k e) refl
  where
    go : (t : Bool) → used k e ≡ t → ltb a b ≡ t
    go true h = let z : ◌≡◌ {A = ℕ} (cond (used k e) 1 0) 1 = rw h in lt-ltb a b (omega (arith, rank_more k e, z))
    go false h = let z : ◌≡◌ {A = ℕ} (cond (used k e) 1 0) 0 = rw h in le-ltb a b (omega (arith, rank_more k e, z))

module _ (x : Join) {plan parts : List ℕ} {wr : Bool} {room : List ℕ} where
  pub copy_some : {g : ℕ} {c2 room2 : List ℕ} (e k : ℕ) (c : List ℕ) → (k ≡ 0 → ⊥) → Did plan parts wr (copy_walk x 1 1 e k c) room g c2 room2 → Did plan parts wr (copy_run x e k c) room g c2 room2
  unfolding copy_run
  copy_some e k c h d = rw (ne_eqb k 0 h) d

  pub copy_none : (e k : ℕ) (c : List ℕ) → k ≡ 0 → Did plan parts wr (copy_run x e k c) room 0 c room
  unfolding copy_run
  copy_none e k c h = rw (eq-eqb k 0 h) (done_did wr c room)

  pub first_no : (c : List ℕ) (code : ℕ) (t : Bool) → code ≡ code_of x.plan 1 → t ≡ is_string code → not t ≡ true → Did plan parts wr (first_entry x c) room 0 c room
  unfolding first_entry
  first_no c code t p q h = rw (ap is_string (sym p) ∙ sym q ∙ not_true t h) (done_did wr c room)

  pub first_yes : (c room2 : List ℕ) (code w : ℕ) (t : Bool) → code ≡ code_of x.plan 1 → t ≡ is_string code → not t ≡ false → w ≡ width_of code
      → room2 ≡ apply_if plan parts wr (put 1 1 0 (encode w 0) ∷ []) room → Did plan parts wr (first_entry x c) room 0 c room2
  unfolding first_entry
  first_yes c room2 code w t p q h e r =
      rw (ap is_string (sym p) ∙ sym q ∙ not_false t h)
      (wrote_did wr (put 1 1 0 (encode (bytes_of x.plan 1) 0)) c room room2 (r ∙ ap (λ z. apply_if plan parts wr (put 1 1 0 (encode z 0) ∷ []) room) (e ∙ ap width_of p)))

pub string_key : (code w : ℕ) (t : Bool) → t ≡ is_string code → not t ≡ false → w ≡ width_of code → KeyWidth w
string_key code w t q h e a b d = e ∙ string_width code (sym q ∙ not_false t h) (λ z. d (e ∙ z))

-- slots that are summed are below 2^63
pub below_far : (o n : ℕ) {g : ℕ} → g ≡ grown o n → g < far → o + n < 2 ^ 64
unfolding grown
below_far o n e h = omega arith

pub width_small : (code : ℕ) {c w : ℕ} {t : Bool} → code ≡ c → t ≡ is_fixed code → not t ≡ false → w ≡ width_of c → w ≤ 16
width_small code {c} {w} {t} p q h e = go (fixed_width code (sym q ∙ not_false t h))
  where
    f : w ≡ width_of code
    f = e ∙ ap width_of (sym p)

    go : KeyWidth (width_of code) → w ≤ 16
    go k = by (ℕ_discrete (width_of code) 1) (ℕ_discrete (width_of code) 2) (ℕ_discrete (width_of code) 4)
      where
        by : Dec (width_of code ≡ 1) → Dec (width_of code ≡ 2) → Dec (width_of code ≡ 4) → w ≤ 16
        by (yes a) y z = omega (arith, f, a)
        by (no a) (yes y) z = omega (arith, f, y)
        by (no a) (no y) (yes z) = omega (arith, f, z)
        by (no a) (no y) (no z) = omega (arith, f, k a y z)

-- the keys lie in the room where their write is made
pub keys_room : (x : Join) {n w : ℕ} {write : Bool} {start o m a : ℕ} → Made write start o (scaled n w) m a → m < top → w ≡ bytes_of x.plan 0 → n ≡ length_of x 0
    → a + bytes_of x.plan 0 * length_of x 0 ≤ m
keys_room x {n} {w} {m = m} {a = a} d l e f = subst (λ z. a + z * length_of x 0 ≤ m) e (subst (λ z. a + w * z ≤ m) f (times_within n w d l))

-- ---- the whole

-- what is asked of the keys does not read the parts
pub keys_in_parts : (plan parts lengths places body : List ℕ) (first : ℕ) → keys_in (join plan [] lengths places body first 0) ≡ keys_in (join plan parts lengths places body first 0)
unfolding keys_in rows_in
keys_in_parts plan parts lengths places body first = refl

module _ (x : Join) {plan parts : List ℕ} (wr : Bool) (c room : List ℕ) where
  pub walk_no : (t : Bool) → t ≡ keys_in x → not t ≡ true → Did plan parts wr (reclaim_walk_of x c) room 12 c room
  unfolding reclaim_walk_of
  walk_no t e h = need_no _ (sym e ∙ not_true t h)

  module _ (t : Bool) (e : t ≡ keys_in x) (h : not t ≡ false) {off n g : ℕ} (eo : off ≡ get_or x.lengths (2 * x.first + 1) 0) (en : n ≡ get_or x.lengths (2 * x.first) 0) {c1 room1 : List ℕ}
      (d : Did plan parts wr (copy_mask x 0 off n c) room g c1 room1) where
    mask_did : Did plan parts wr (copy_mask x 0 (offset_of x 0) (length_of x 0) c) room g c1 room1
    mask_did =
        subst (λ z. Did plan parts wr (copy_mask x 0 (offset_of x 0) z c) room g c1 room1) (en ∙ length_zero x)
        (subst (λ z. Did plan parts wr (copy_mask x 0 z n c) room g c1 room1) (eo ∙ offset_zero x) d)

    in_body_lem : keys_in x ≡ true
    in_body_lem = sym e ∙ not_false t h

    pub walk_mask : (g ≡ 0 → ⊥) → Did plan parts wr (reclaim_walk_of x c) room g c1 room1
    unfolding reclaim_walk_of
    walk_mask q = need_ok 12 c in_body_lem (next_no _ mask_did q)

    pub walk_all : g ≡ 0 → {room2 room3 room4 c2 c4 : List ℕ} {g4 : ℕ} → room2 ≡ apply_if plan parts wr (put 0 1 0 (new_keys (keys_of x) (length_of x 1)) ∷ []) room1 → c2 ≡ add_rows 0 n c1
        → ((k : List ℕ) → Did plan parts wr (first_entry x k) room2 0 k room3) → Did plan parts wr (copy_blocks x (length_of x 1) 0 (length_of x 1) c2) room3 g4 c4 room4
        → Did plan parts wr (reclaim_walk_of x c) room g4 c4 room4
    unfolding reclaim_walk_of
    walk_all q {room2} {room3} {room4} {c2} {c4} {g4} r a f m =
        need_ok 12 c in_body_lem
        (next_ok _ mask_did q
        (next_ok _ (wrote_did wr (put 0 1 0 (new_keys (keys_of x) (length_of x 1))) c1 room1 room2 r) refl
        (next_ok _ (f (add_rows 0 (length_of x 0) c1)) refl
        (subst (λ k. Did plan parts wr (copy_blocks x (length_of x 1) 0 (length_of x 1) k) room3 g4 c4 room4) (a ∙ ap (λ z. add_rows 0 z c1) (en ∙ length_zero x)) m))))

pub told : {t u : Bool} → t ≡ u → not t ≡ false → u ≡ true
told {t} e h = sym e ∙ not_false t h

pub told_not : {t u : Bool} → t ≡ u → not t ≡ true → u ≡ true → ⊥
told_not {t} e h q = false≢true (sym (not_true t h) ∙ e ∙ q)

pub slots_below : (x : Join) → keys_in x ≡ true → {off n : ℕ} → off ≡ get_or x.lengths (2 * x.first + 1) 0 → n ≡ get_or x.lengths (2 * x.first) 0 → off + n < 2 ^ 63
slots_below x h e f = omega (arith, (keys_within x h).slots, e ∙ offset_zero x, f ∙ length_zero x)
