-- What the rule of a run-end node goes by: parts that may leave the body, validity without a zero, and the order of the tests. Assumes nothing.
use mathlib.Core.Path.{◌≡◌, refl, sym, ap, ◌∙◌}
use mathlib.Core.Bool.{Bool, true, false, ◌&&◌, and-true, and-false}
use mathlib.Core.List.{List, [], ◌∷◌}
use Prim.Native.Nat.{ℕ, zero, suc, ◌+◌, ◌*◌, ◌-◌, min, ◌≤◌, ◌<◌}
use native.Mathlib.Nat.{add_assoc, zero-min, min-zero, suc-min-suc, add-zero}
use native.Mathlib.Numerals.{add-one}
use native.Mathlib.Omega.{arith}
use lib.ListN.{length, take, drop, get_or, length-take, length-drop}
use lib.Seq.{drop-cons, get_or-take, get_or-drop}
use lib.Dec.{leb, eqb}
use borrow.Author.Tests.{leb-true, eq-eqb, ne_eqb, eqb-true, eqb-false}
use Rattle.columnar.specs.Array.{bit, ok}
use Rattle.columnar.specs.Test.{every}
use Rattle.columnar.specs.RunEnd.{end_of, start_of}
use Rattle.bits.specs.Bits.{bits, bits_at, zeros}
use Rattle.bits.proofs.Laws.{bit_at, take_bits, drop_bits, length_bits, below_at_lem, below_bits}
use Rattle.bits.proofs.Puts.{zeros_add}
use Rattle.bits.proofs.Steps.{zeros_none}
use Rattle.row_rules.specs.Rules.{ends_rows}
use Rattle.row_rules.proofs.Links.{ends_test_lem, ends_last}
use Rattle.array_data.specs.Tables.{Tables, length_of, offset_of, place, held, in_body, first_buffer, part, array_with}
use Rattle.array_data.specs.Rules.{run_end_rule}
use Rattle.array_data.specs.lent_tables.Lent.{mask_of}
use Rattle.source_rules.specs.nodes.Rows.{start_in, valid_rows, runs_valid, ends_reach}

-- ---- a part of the body, of which some may lie outside

last_zero : (z b : ℕ) → b < 2 → eqb (z + (1 - b)) 0 ≡ eqb z 0 && eqb b 1
last_zero z b h = go (eqb z 0) (eqb b 1) refl refl
  where
    go : (t u : Bool) → eqb z 0 ≡ t → eqb b 1 ≡ u → eqb (z + (1 - b)) 0 ≡ t && u
    go true true e f = eq-eqb (z + (1 - b)) 0 (omega (arith, eqb-true z 0 e, eqb-true b 1 f))
    go true false e f = ne_eqb _ 0 (λ (q : z + (1 - b) ≡ 0). eqb-false b 1 f (omega arith))
    go false u e f = ne_eqb _ 0 (λ (q : z + (1 - b) ≡ 0). eqb-false z 0 e (omega arith))

part_length : (s : List ℕ) (at size : ℕ) → length (part s at size) ≡ min size (length s - at)
part_length s at size = simp (length-take, length-drop)

take_take_length : (n : ℕ) (l : List ℕ) → take n l ≡ take (length (take n l)) l
take_take_length zero l = refl
take_take_length (suc n) [] = refl
take_take_length (suc n) (y ∷ l) = ap (λ t. y ∷ t) (take_take_length n l)

drop_start : (s : List ℕ) (at : ℕ) → drop at s ≡ drop (start_in s at) s
drop_start s zero = rw (zero-min)
drop_start [] (suc at) = rw (min-zero)
drop_start (y ∷ s) (suc at) = rw (suc-min-suc) (drop_start s at)

module _ (s : List ℕ) (at size : ℕ) where
  -- it is the part that lies inside
  pub part_inside : part s at size ≡ take (length (part s at size)) (drop (start_in s at) s)
  part_inside = take_take_length size (drop at s) ∙ ap (take (length (part s at size))) (drop_start s at)

  pub inside : start_in s at + length (part s at size) ≤ length s
  inside = rw (part_length s at size) (omega arith)

  -- the bits of a part that is not empty
  pub bits_inside : (n : ℕ) → n ≤ 8 * length (part s at size) → 0 < n → 8 * at + n ≤ 8 * length s
  bits_inside n h p = omega (arith, part_length s at size)

  part_bit : (i : ℕ) → i < 8 * length (part s at size) → bit (part s at size) i ≡ eqb (get_or (bits s) (8 * at + i) 0) 1
  unfolding bit
  part_bit i h =
      let l : i < 8 * size = omega (arith, part_length s at size) in
      rw (← bit_at (part s at size) i, ← take_bits size (drop at s), get_or-take (8 * size) (bits (drop at s)) i 0 l, ← drop_bits at s, get_or-drop (8 * at) (bits s) i 0)

  one_bit : (p : ℕ) → p < 8 * length s → zeros (bits_at p 1 s) ≡ 1 - get_or (bits s) p 0
  unfolding zeros bits_at
  one_bit p h = rw (drop-cons (bits s) p 0 (rw length_bits h)) (add-zero (1 - get_or (bits s) p 0))

  -- no zero among n bits
  pub no_zero : (off n : ℕ) → off + n ≤ 8 * length (part s at size) → eqb (zeros (bits_at (8 * at + off) n s)) 0 ≡ every (λ i. bit (part s at size) (off + i)) n
  no_zero off zero h = eq-eqb _ 0 (sym (zeros_none (8 * at + off) s))
  no_zero off (suc n) h =
      let b = get_or (bits s) (8 * at + (off + n)) 0 in
      let small : b < 2 = below_at_lem 2 (bits s) (omega arith) (below_bits s) (8 * at + (off + n)) in
      let z : zeros (bits_at (8 * at + off) (suc n) s) ≡ zeros (bits_at (8 * at + off) n s) + (1 - b) =
      rw (← add-one n, zeros_add (8 * at + off) n 1 s, one_bit (8 * at + off + n) (omega (arith, bits_inside (off + suc n) h (omega arith))), add_assoc (8 * at) off n) in
      rw (z, part_bit (off + n) (omega arith))
      (last_zero (zeros (bits_at (8 * at + off) n s)) b small ∙ ap (λ t. t && eqb b 1) (no_zero off n (omega arith)))

-- ---- the order of the tests

shuffle : (m l v r b q : Bool) {d : Bool} → (l ≡ true → b ≡ d) → m && l && v && r && b && q && true ≡ m && v && (l && r && d) && q
shuffle true true true r b q {d} f = ap (λ t. r && t && q && true) (f refl) ∙ and-true (r && d && q)
shuffle true true false r b q f = refl
shuffle true false true r b q f = refl
shuffle true false false r b q f = refl
shuffle false l v r b q f = refl

-- ---- the validity of node k

module _ (x : Tables) (k : ℕ) where
  every_true : (n : ℕ) → every (λ i. true) n ≡ true
  every_true zero = refl
  every_true (suc n) = rw (every_true n)

  pub all_none : eqb (place x k 0) 0 ≡ true → true ≡ valid_rows x k
  unfolding valid_rows
  all_none z = rw z (sym (every_true (length_of x k)))

  pub all_empty : length_of x k ≡ 0 → true ≡ valid_rows x k
  unfolding valid_rows
  all_empty e = rw e

  slots : eqb (place x k 0) 0 ≡ false → mask_of x k true ≡ true → offset_of x k + length_of x k ≤ 8 * length (part x.body (place x k 1) (place x k 2))
  slots z m = leb-true _ _ (rw z at m)

  pub slots_inside : eqb (place x k 0) 0 ≡ false → mask_of x k true ≡ true → 0 < length_of x k
      → 8 * place x k 1 + (offset_of x k + length_of x k) ≤ 8 * length x.body
  slots_inside z m p = bits_inside x.body (place x k 1) (place x k 2) (offset_of x k + length_of x k) (slots z m) (omega arith)

  pub all_some : {r from off n : ℕ} → eqb (place x k 0) 0 ≡ false → mask_of x k true ≡ true → r ≡ zeros (bits_at (8 * from + off) n x.body)
      → from ≡ place x k 1 → off ≡ offset_of x k → n ≡ length_of x k → eqb r 0 ≡ valid_rows x k
  unfolding valid_rows
  all_some z m e f o l =
      rw (z, e, f, o, l) (no_zero x.body (place x k 1) (place x k 2) (offset_of x k) (length_of x k) (slots z m))

-- the run ends e of a run-end node k, over w
abbrev pub ends_of : Tables → ℕ → ℕ → ℕ → Bool
ends_of x k w e =
    ends_reach w x.body (start_in x.body (place x e 3)) (length (first_buffer x e)) (offset_of x e) (length_of x e) (offset_of x k + length_of x k)

-- what is asked of a run-end node k, with its run ends e and its values v
abbrev pub run_end_parts : Tables → ℕ → ℕ → ℕ → ℕ → Bool
run_end_parts x k w e v = runs_valid x k e && ends_of x k w e && eqb (length_of x v) (length_of x e)

regroup : (h m v e q : Bool) → h && true && (m && v) && e && q ≡ h && true && (m && v && e && q)
regroup true m v e q = refl
regroup false m v e q = refl

module _ (x : Tables) (k w : ℕ) where
  -- without validity
  plain : eqb (place x k 0) 0 ≡ true → run_end_parts x k w (suc k) (suc (suc k)) ≡ run_end_rule x k w
  unfolding runs_valid valid_rows ends_reach
  plain z =
      let s = x.body in
      let at = place x (suc k) 3 in
      let ends = array_with x (first_buffer x (suc k)) (suc k) in
      let size = length (first_buffer x (suc k)) in
      let i : start_in s at + size ≤ length s = inside s at (place x (suc k) 4) in
      let t = ends_test_lem w s (start_in s at) size i ends (part_inside s at (place x (suc k) 4)) in
      rw (z, t)
      (regroup (held x k) (mask_of x (suc k) true) (every (λ i. ok ends.valid (ends.off + i)) ends.len) (ends_of x k w (suc k)) (eqb (length_of x (suc (suc k))) ends.len)
      ∙ ap (λ a. held x k && true && a)
      (sym (shuffle (mask_of x (suc k) true) (leb ((ends.off + ends.len) * w) size) (every (λ i. ok ends.valid (ends.off + i)) ends.len)
      (ends_rows w s (start_in s at + w * ends.off) ends.len) (leb (offset_of x k + length_of x k) (start_of (end_of w ends) ends.len)) (eqb (length_of x (suc (suc k))) ends.len)
      (λ h. ap (leb (offset_of x k + length_of x k)) (ends_last w s (start_in s at) size i ends (part_inside s at (place x (suc k) 4)) (leb-true _ _ h))))))

  -- "no validity buffer on a .. run-end node"
  masked : eqb (place x k 0) 0 ≡ false → run_end_parts x k w (suc k) (suc (suc k)) ≡ run_end_rule x k w
  unfolding runs_valid
  masked z = rw (z, and-false (held x k)) (sym (and-false (held x k && in_body x (place x k 1) (place x k 2))))

  pub run_end_is : {e v : ℕ} → e ≡ suc k → v ≡ suc (suc k) → run_end_parts x k w e v ≡ run_end_rule x k w
  run_end_is p q = rw (p, q) (go (eqb (place x k 0) 0) refl)
    where
      go : (b : Bool) → eqb (place x k 0) 0 ≡ b → run_end_parts x k w (suc k) (suc (suc k)) ≡ run_end_rule x k w
      go true z = plain z
      go false z = masked z

  pub ends_are : (e : ℕ) {start at size bytes off len reach : ℕ} {r : Bool} → r ≡ ends_reach w x.body start size off len reach
      → start ≡ start_in x.body at → size ≡ length (part x.body at bytes) → at ≡ place x e 3 → bytes ≡ place x e 4
      → off ≡ offset_of x e → len ≡ length_of x e → reach ≡ offset_of x k + length_of x k → r ≡ ends_of x k w e
  ends_are e h a b c d o l g = rw (a, b, c, d, o, l, g) at h
