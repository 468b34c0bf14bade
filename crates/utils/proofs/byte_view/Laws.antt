-- Laws of views. Assumes nothing.
use Rattle.std.proofs.Common.{◌≡◌, ℕ, ◌+◌, ◌*◌, ◌%◌, ◌^◌, ◌<◌, ◌≤◌, Bool, true, false, cond, ltb, List, [], ◌++◌, length, get_or, take, drop, sym, ap, ◌∙◌, append_assoc, append-nil, mod-eq_of_lt, arith, length-append, length-drop, get_or-drop, get_or-take, drop-drop, take-add, drop_at, le-ltb}
use Rattle.number.specs.Number.{number, encode, splice}
use Rattle.number.proofs.Laws.{length_encode, encode_number, number_encode, number_lt, splice_splice}
use Rattle.utils.proofs.Pieces.{pieces_none, pieces_step, piece_splice, number_same}
use Rattle.utils.specs.byte_view.View.{view_at, view_bytes, reindexed_by, reviewed_one, reviewed}
use Rattle.utils.specs.declared.byte_view.ByteView.{ByteView}

-- four numbers written one after the other are the view's bytes
pub write_four : (room : List ℕ) (at : ℕ) (v : ByteView) → at + 16 ≤ length room
    → splice (at + 12) (encode 4 v.offset) (splice (at + 8) (encode 4 v.buffer_index) (splice (at + 4) (encode 4 v.prefix) (splice at (encode 4 v.length) room)))
    ≡ splice at (view_bytes v) room
unfolding view_bytes
write_four room at v h =
    let a = encode 4 v.length in
    let b = encode 4 v.prefix in
    let c = encode 4 v.buffer_index in
    let d = encode 4 v.offset in
    let la : length a ≡ 4 = length_encode 4 v.length in
    let lb : length b ≡ 4 = length_encode 4 v.prefix in
    let lc : length c ≡ 4 = length_encode 4 v.buffer_index in
    let ld : length d ≡ 4 = length_encode 4 v.offset in
    let lab : length (a ++ b) ≡ 8 = simp (length-append, la, lb) in
    let labc : length (a ++ b ++ c) ≡ 12 = simp (length-append, la, lb, lc) in
    let x : splice (at + 4) b (splice at a room) ≡ splice at (a ++ b) room = rw la at (splice_splice at a b room (omega arith)) in
    let y : splice (at + 8) c (splice at (a ++ b) room) ≡ splice at (a ++ b ++ c) room = rw lab at (splice_splice at (a ++ b) c room (omega arith)) in
    let z : splice (at + 12) d (splice at (a ++ b ++ c) room) ≡ splice at (a ++ b ++ c ++ d) room = rw labc at (splice_splice at (a ++ b ++ c) d room (omega arith)) in
    rw (x, y, z)

length_view : (v : ByteView) → length (view_bytes v) ≡ 16
unfolding view_bytes
length_view v = simp (length-append, length_encode)

module _ (s : List ℕ) (p : ℕ) (h : p + 16 ≤ length s) (small : (i : ℕ) → get_or s i 0 < 256) where
  four : (q : ℕ) → q + 4 ≤ length s → encode 4 (number 4 (drop q s)) ≡ take 4 (drop q s)
  four q l = encode_number 4 (drop q s) (simp length-drop (omega arith)) (λ i. rw get_or-drop (small (q + i)))

  eight : take 8 (drop p s) ≡ take 4 (drop p s) ++ take 4 (drop (p + 4) s)
  eight = take-add 4 4 (drop p s) ∙ rw drop-drop

  sixteen : take 16 (drop p s) ≡ take 4 (drop p s) ++ take 4 (drop (p + 4) s) ++ take 4 (drop (p + 8) s) ++ take 4 (drop (p + 12) s)
  sixteen = take-add 12 4 (drop p s) ∙ rw (take-add 8 4 (drop p s), eight, drop-drop 8 p s, drop-drop 12 p s)

  -- what was read, written, is the same 16 bytes
  pub view_same : view_bytes (view_at s p) ≡ take 16 (drop p s)
  unfolding view_bytes
  view_same = rw (four p (omega arith), four (p + 4) (omega arith), four (p + 8) (omega arith), four (p + 12) (omega arith)) (sym sixteen)

  -- what was read, reindexed and written, by its bytes
  pub review_is : (base : ℕ) → view_bytes (reindexed_by base (view_at s p)) ≡ reviewed_one (drop p s) base
  unfolding view_bytes reviewed_one
  review_is base = go (ltb 12 (number 4 (drop p s)))
    where
      go : (b : Bool)
          → view_bytes (cond b (record { length = number 4 (drop p s); prefix = number 4 (drop (p + 4) s); buffer_index = (number 4 (drop (p + 8) s) + base) % 256 ^ 4; offset = number 4 (drop (p + 12) s) }) (view_at s p))
          ≡ cond b (take 8 (drop p s) ++ encode 4 ((number 4 (drop 8 (drop p s)) + base) % 256 ^ 4) ++ take 4 (drop 12 (drop p s))) (take 16 (drop p s))
      go true =
          rw (four p (omega arith), four (p + 4) (omega arith), four (p + 12) (omega arith), eight, drop-drop 8 p s, drop-drop 12 p s)
      go false = view_same

  pub length_review : (base : ℕ) → length (reviewed_one (drop p s) base) ≡ 16
  length_review base = rw (← review_is base) (length_view _)

pub reviewed_none : (s : List ℕ) (from base at : ℕ) (room : List ℕ) → splice at (reviewed s from base 0) room ≡ room
unfolding reviewed
reviewed_none s from base at room = pieces_none _ at room

-- one more view after the first i
reviewed_step : (room s : List ℕ) (at from base i : ℕ) → at + 16 * (i + 1) ≤ length room → from + 16 * (i + 1) ≤ length s → ((k : ℕ) → get_or s k 0 < 256)
    → splice (at + 16 * i) (view_bytes (reindexed_by base (view_at s (from + 16 * i)))) (splice at (reviewed s from base i) room)
    ≡ splice at (reviewed s from base (i + 1)) room
unfolding reviewed
reviewed_step room s at from base i h g small =
    rw (review_is s (from + 16 * i) (omega arith) small base)
    (pieces_step 16 (λ k. reviewed_one (drop (from + 16 * k) s) base) room at i (λ k l. length_review s (from + 16 * k) (omega arith) small base) h)

-- a turn of the loop: a view is read, reindexed and written
pub reviewed_turn : (room₀ room new s : List ℕ) (at from base i : ℕ) (v u : ByteView)
    → at + 16 * (i + 1) ≤ length room₀ → from + 16 * (i + 1) ≤ length s → ((k : ℕ) → get_or s k 0 < 256)
    → room ≡ splice at (reviewed s from base i) room₀ → v ≡ view_at s (from + 16 * i) → u ≡ reindexed_by base v
    → new ≡ splice (at + 16 * i) (view_bytes u) room → new ≡ splice at (reviewed s from base (i + 1)) room₀
reviewed_turn room₀ room new s at from base i v u h g small er ev eu en =
    en ∙ ap (λ (x : ByteView). splice (at + 16 * i) (view_bytes x) room) (eu ∙ ap (reindexed_by base) ev) ∙ rw er (reviewed_step room₀ s at from base i h g small)

-- an inline view stays as it is
pub inline_same : (s : List ℕ) (base : ℕ) → number 4 s ≤ 12 → reviewed_one s base ≡ take 16 s
unfolding reviewed_one
inline_same s base h = rw (le-ltb 12 (number 4 s) h)

-- ---- reading what was written

-- four of a view's 16 bytes
part : (r : List ℕ) (q d : ℕ) → d + 4 ≤ 16 → number 4 (drop (q + d) r) ≡ number 4 (drop d (take 16 (drop q r)))
part r q d h = number_same 4 _ _ same
  where
    same : (i : ℕ) → i < 4 → get_or (drop (q + d) r) i 0 ≡ get_or (drop d (take 16 (drop q r))) i 0
    same i l =
        let a : q + d + i ≡ q + (d + i) = omega arith in
        let m : d + i < 16 = omega arith in
        rw (get_or-drop (q + d) r i 0, a, get_or-drop d (take 16 (drop q r)) i 0, get_or-take 16 (drop q r) (d + i) 0 m, get_or-drop q r (d + i) 0)

-- a view's numbers are four bytes each
pub record Small (v : ByteView) : Type 0 where
  pub of_length : v.length < 256 ^ 4
  pub of_prefix : v.prefix < 256 ^ 4
  pub of_index : v.buffer_index < 256 ^ 4
  pub of_offset : v.offset < 256 ^ 4

module _ (v : ByteView) (b : Small v) where
  first : number 4 (drop 0 (view_bytes v)) ≡ v.length
  unfolding view_bytes
  first = simp append_assoc (rw (number_encode, mod-eq_of_lt b.of_length))

  second : number 4 (drop 4 (view_bytes v)) ≡ v.prefix
  unfolding view_bytes
  second = simp append_assoc (rw (drop_at (encode 4 v.length) _ 4 (length_encode 4 _), number_encode, mod-eq_of_lt b.of_prefix))

  third : number 4 (drop 8 (view_bytes v)) ≡ v.buffer_index
  unfolding view_bytes
  third =
      rw (
        append_assoc (encode 4 v.length ++ encode 4 v.prefix) (encode 4 v.buffer_index) (encode 4 v.offset),
        drop_at (encode 4 v.length ++ encode 4 v.prefix) _ 8 (simp (length-append, length_encode)),
        number_encode,
        mod-eq_of_lt b.of_index,
      )

  fourth : number 4 (drop 12 (view_bytes v ++ [])) ≡ v.offset
  unfolding view_bytes
  fourth =
      rw (
        append_assoc (encode 4 v.length ++ encode 4 v.prefix ++ encode 4 v.buffer_index) (encode 4 v.offset) [],
        drop_at (encode 4 v.length ++ encode 4 v.prefix ++ encode 4 v.buffer_index) _ 12 (simp (length-append, length_encode)),
        number_encode,
        mod-eq_of_lt b.of_offset,
      )

  -- a view whose bytes stand in r is read there
  pub view_back : (r : List ℕ) (q : ℕ) → take 16 (drop q r) ≡ view_bytes v → view_at r q ≡ v
  view_back r q e =
      let w : number 4 (drop 12 (view_bytes v)) ≡ v.offset = rw append-nil at fourth in
      let z : q + 0 ≡ q = omega arith in
      let a : number 4 (drop q r) ≡ v.length = (rw z at (part r q 0 (omega arith))) ∙ rw e first in
      let c : number 4 (drop (q + 4) r) ≡ v.prefix = part r q 4 (omega arith) ∙ rw e second in
      let d : number 4 (drop (q + 8) r) ≡ v.buffer_index = part r q 8 (omega arith) ∙ rw e third in
      let f : number 4 (drop (q + 12) r) ≡ v.offset = part r q 12 (omega arith) ∙ rw e w in
      rw (a, c, d, f)

small_view : (s : List ℕ) (p base : ℕ) → ((i : ℕ) → get_or s i 0 < 256) → Small (reindexed_by base (view_at s p))
small_view s p base small = go (ltb 12 (number 4 (drop p s)))
  where
    low : (q : ℕ) → number 4 (drop q s) < 256 ^ 4
    low q = number_lt 4 (drop q s) (λ i. rw get_or-drop (small (q + i)))

    go : (b : Bool)
        → Small (cond b (record { length = number 4 (drop p s); prefix = number 4 (drop (p + 4) s); buffer_index = (number 4 (drop (p + 8) s) + base) % 256 ^ 4; offset = number 4 (drop (p + 12) s) }) (view_at s p))
    go true = record { of_length = low p; of_prefix = low (p + 4); of_index = omega arith; of_offset = low (p + 12) }
    go false = record { of_length = low p; of_prefix = low (p + 4); of_index = low (p + 8); of_offset = low (p + 12) }

-- each view that was written is read as the source's, reindexed
pub reviewed_view : (s room : List ℕ) (at from base n k : ℕ) → at + 16 * n ≤ length room → from + 16 * n ≤ length s → ((i : ℕ) → get_or s i 0 < 256) → k < n
    → view_at (splice at (reviewed s from base n) room) (at + 16 * k) ≡ reindexed_by base (view_at s (from + 16 * k))
unfolding reviewed
reviewed_view s room at from base n k h g small l =
    view_back (reindexed_by base (view_at s (from + 16 * k))) (small_view s (from + 16 * k) base small) (splice at (reviewed s from base n) room) (at + 16 * k)
    (piece_splice 16 (λ j. reviewed_one (drop (from + 16 * j) s) base) n at room (λ j i. length_review s (from + 16 * j) (omega arith) small base) h k l
    ∙ sym (review_is s (from + 16 * k) (omega arith) small base))
