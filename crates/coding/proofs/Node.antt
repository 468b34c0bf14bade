-- The rows of a fixed-width node as they stand in the body are those of its column. Assumes nothing.
use mathlib.Core.Path.{◌≡◌, refl, sym, ap, ◌∙◌}
use mathlib.Core.Bool.{Bool, true, false, cond}
use mathlib.Core.Option.{none, some}
use mathlib.Core.List.{List, ◌∷◌}
use Prim.Native.Nat.{ℕ, zero, suc, ◌+◌, ◌*◌, ◌/◌, ◌%◌, ◌^◌, ◌≤◌, ◌<◌}
use native.Mathlib.Nat.{le_trans, mul-le-mul_right, add-mul}
use native.Mathlib.Omega.{arith}
use lib.ListN.{length, take, drop, get_or, replicate, length-take, length-drop}
use lib.Seq.{get_or-drop, get_or-take}
use lib.Dec.{ltb, eqb}
use borrow.Author.Tests.{ltb-true, ltb-false}
use Rattle.number.specs.Number.{number, encode}
use Rattle.number.proofs.Laws.{encode_number}
use Rattle.columnar.specs.Types.{Number, width, fixed, t_plain}
use Rattle.columnar.specs.Array.{item, bit, ok, nulls_in, null_count_of, Mask}
use Rattle.columnar.specs.Plain.{stored}
use Rattle.columnar.specs.Reading.{Column}
use Rattle.columnar.proofs.Items.{entry_end}
use Rattle.model.proofs.Start.{no_null_in}
use Rattle.schema.specs.formats.Code.{is_fixed, width_of}
use Rattle.schema.specs.formats.Types.{number_of, number_or}
use Rattle.array_data.specs.Tables.{Tables, part, length_of, offset_of, place, valid_of, first_buffer, array_with}
use Rattle.array_data.proofs.entries.Laws.{holds_in, item_at}
use Rattle.anew.specs.runs.Runs.{ok_at, bits_at}
use Rattle.anew.specs.runs.Picked.{cell}
use Rattle.coding.specs.run_coding.Rows.{cell_of, number_in, valid_in, Held}
use Rattle.coding.proofs.Codes.{code_width_lem, code_sized, code_wide}

-- ---- parts of the body

part_at : (body : List ℕ) (a s j : ℕ) → j < length (part body a s) → get_or (part body a s) j 0 ≡ get_or body (a + j) 0
part_at body a s j l = get_or-take s (drop a body) j 0 (omega (arith, length-take s (drop a body))) ∙ get_or-drop a body j 0

pub part_small : (body : List ℕ) → ((j : ℕ) → get_or body j 0 < 256) → (a s j : ℕ) → get_or (part body a s) j 0 < 256
part_small body small a s j = go (ltb j (length (part body a s))) refl
  where
    go : (t : Bool) → ltb j (length (part body a s)) ≡ t → get_or (part body a s) j 0 < 256
    go true e = rw (part_at body a s j (ltb-true j _ e)) (small (a + j))
    go false e = omega (arith, lib.ListN.get_or-eq_default (part body a s) 0 (ltb-false j _ e))

nulls_none : (a n : ℕ) → nulls_in (ok none) a n ≡ 0
nulls_none a zero = refl
nulls_none a (suc n) = omega (arith, nulls_none (suc a) n)

zero_bytes : (w : ℕ) → encode w 0 ≡ replicate w 0
unfolding encode
zero_bytes zero = refl
zero_bytes (suc w) = ap (0 ∷◌) (zero_bytes w)

-- ---- node i, from row a on, m rows

module _ (x : Tables) (i code : ℕ) (kind : is_fixed code ≡ true) (a m : ℕ) (within : a + m ≤ length_of x i) (sum : offset_of x i + length_of x i < 2 ^ 63)
    (mask : Mask true (valid_of x i) (offset_of x i + length_of x i)) (hold : (offset_of x i + length_of x i) * width (number_or (number_of code)) ≤ length (first_buffer x i))
    (inside : place x i 3 + place x i 4 ≤ length x.body) (low : length x.body < 2 ^ 63) where
  abbrev k : Number
  k = number_or (number_of code)

  abbrev w : ℕ
  w = width_of code

  abbrev v : Column (t_plain (fixed k))
  v = array_with x (first_buffer x i) i

  abbrev at : ℕ
  at = place x i 3 + (offset_of x i + a) * w

  abbrev bit0 : ℕ
  bit0 = offset_of x i + a

  hold_code : (offset_of x i + length_of x i) * w ≤ length (first_buffer x i)
  hold_code = rw (code_width_lem code kind) hold

  rows_end : at + m * w ≤ length x.body
  rows_end =
      let e : (offset_of x i + a) * w + m * w ≡ (offset_of x i + a + m) * w = sym (add-mul (offset_of x i + a) m w) in
      let f : (offset_of x i + a + m) * w ≤ (offset_of x i + length_of x i) * w = mul-le-mul_right w (omega arith) in
      omega (arith, e, f, hold_code, inside, length-take (place x i 4) (drop (place x i 3) x.body))

  -- validity bits lie in the body where there is a null
  bits_end : 0 < null_count_of v → 8 * place x i 1 + (offset_of x i + length_of x i) ≤ 8 * length x.body
  bits_end = go (eqb (place x i 0) 0) mask
    where
      some_len : (f : ℕ → Bool) (b n : ℕ) → 0 < nulls_in f b n → 0 < n
      some_len f b zero h = absurd (omega arith)
      some_len f b (suc n) h = omega arith

      go : (t : Bool) → Mask true (cond t none (some (part x.body (place x i 1) (place x i 2)))) (offset_of x i + length_of x i)
          → 0 < nulls_in (ok (cond t none (some (part x.body (place x i 1) (place x i 2))))) (offset_of x i) (length_of x i)
          → 8 * place x i 1 + (offset_of x i + length_of x i) ≤ 8 * length x.body
      go true h q = absurd (omega (arith, nulls_none (offset_of x i) (length_of x i)))
      go false h q =
          omega (arith, some_len _ (offset_of x i) (length_of x i) q, h, length-take (place x i 2) (drop (place x i 1) x.body), length-drop (place x i 1) x.body)

  module _ (keep : Bool) (exact : keep ≡ ltb 0 (null_count_of v)) where
    some_null : keep ≡ true → 0 < null_count_of v
    some_null e = ltb-true 0 (null_count_of v) (sym exact ∙ e)

    -- THE BODY HOLDS THE ROWS
    pub node_held : Held x.body w keep at (place x i 1) bit0 m
    node_held =
        record {
          sized = code_sized code kind;
          holds = rows_end;
          holds_bits = λ e. omega (arith, bits_end (some_null e));
          low = λ e. omega arith;
        }

    -- ---- a row

    module _ (r : ℕ) (l : r < m) where
      bit_is : offset_of x i + a + r ≡ offset_of x i + (a + r)
      bit_is = omega arith

      pub valid_same : valid_in x.body keep (place x i 1) bit0 r ≡ ok_at v (a + r)
      unfolding valid_in bit
      valid_same = by keep refl
        where
          slot : (t : Bool) → Mask true (cond t none (some (part x.body (place x i 1) (place x i 2)))) (offset_of x i + length_of x i)
              → 0 < nulls_in (ok (cond t none (some (part x.body (place x i 1) (place x i 2))))) (offset_of x i) (length_of x i)
              → eqb (get_or x.body (place x i 1 + (offset_of x i + a + r) / 8) 0 / 2 ^ ((offset_of x i + a + r) % 8) % 2) 1
              ≡ ok (cond t none (some (part x.body (place x i 1) (place x i 2)))) (offset_of x i + (a + r))
          slot true h q = absurd (omega (arith, nulls_none (offset_of x i) (length_of x i)))
          slot false h q =
              ap (λ b. eqb (b / 2 ^ ((offset_of x i + a + r) % 8) % 2) 1) (sym (part_at x.body (place x i 1) (place x i 2) ((offset_of x i + a + r) / 8) (omega arith)))
              ∙ ap (λ s. eqb (get_or (part x.body (place x i 1) (place x i 2)) (s / 8) 0 / 2 ^ (s % 8) % 2) 1) bit_is

          by : (t : Bool) → keep ≡ t
              → cond t (eqb (get_or x.body (place x i 1 + (offset_of x i + a + r) / 8) 0 / 2 ^ ((offset_of x i + a + r) % 8) % 2) 1) true ≡ ok_at v (a + r)
          by true e = slot (eqb (place x i 0) 0) mask (some_null e)
          by false e = sym (no_null_in (ok (valid_of x i)) (offset_of x i) (length_of x i) (let z = ltb-false 0 (null_count_of v) (sym exact ∙ e) in omega (arith, z)) (a + r) (omega arith))

      row_in : (offset_of x i + (a + r)) * w + w ≤ length (first_buffer x i)
      row_in = le_trans (entry_end w (omega arith)) hold_code

      place_is : at + r * w ≡ place x i 3 + (offset_of x i + (a + r)) * w
      place_is =
          let e : (offset_of x i + a) * w + r * w ≡ (offset_of x i + a + r) * w = sym (add-mul (offset_of x i + a) r w) in
          let f : (offset_of x i + a + r) * w ≡ (offset_of x i + (a + r)) * w = ap (λ s. s * w) bit_is in
          omega (arith, e, f)

      number_part : number_in x.body w at r ≡ item w (first_buffer x i) (offset_of x i + (a + r))
      number_part =
          ap (λ p. number w (drop p x.body)) place_is
          ∙ item_at x.body (place x i 3) (place x i 4) w (offset_of x i + (a + r)) (holds_in w (first_buffer x i) (offset_of x i + (a + r)) (code_wide code kind) row_in)

      pub number_same : number_in x.body w at r ≡ bits_at k v (a + r)
      number_same = number_part ∙ ap (λ z. item z (first_buffer x i) (offset_of x i + (a + r))) (code_width_lem code kind)

      -- ITS BYTES: "null slots as zeros"
      pub bytes_same : ((j : ℕ) → get_or x.body j 0 < 256) → encode w (cell_of (ok_at v (a + r)) (number_in x.body w at r)) ≡ cell k v (a + r)
      unfolding item
      bytes_same small = go (ok_at v (a + r))
        where
          buffer : List ℕ
          buffer = drop ((offset_of x i + (a + r)) * w) (first_buffer x i)

          small_part : (j : ℕ) → get_or buffer j 0 < 256
          small_part j = rw (get_or-drop ((offset_of x i + (a + r)) * w) (first_buffer x i) j 0) (part_small x.body small (place x i 3) (place x i 4) ((offset_of x i + (a + r)) * w + j))

          go : (t : Bool) → encode w (cell_of t (number_in x.body w at r)) ≡ cond t (stored (fixed k) (first_buffer x i) (offset_of x i + (a + r))) (replicate (width k) 0)
          go true =
              ap (encode w) number_part
              ∙ encode_number w buffer (omega (arith, row_in, length-drop ((offset_of x i + (a + r)) * w) (first_buffer x i))) small_part
              ∙ ap (λ z. take z (drop ((offset_of x i + (a + r)) * z) (first_buffer x i))) (code_width_lem code kind)
          go false = zero_bytes w ∙ ap (λ z. replicate z 0) (code_width_lem code kind)
