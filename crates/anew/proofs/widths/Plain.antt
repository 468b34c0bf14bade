-- Offsets, byte strings and numbers in other widths. Assumes nothing.
use mathlib.Core.Path.{◌≡◌, ap, ◌∙◌}
use mathlib.Core.Bool.{Bool}
use mathlib.Core.List.{List, []}
use Prim.Native.Nat.{ℕ, suc, ◌+◌, ◌-◌, ◌≤◌, ◌<◌}
use native.Mathlib.Nat.{zero-add, add-zero}
use native.Mathlib.Omega.{arith}
use lib.ListN.{length, take, drop, length-take, length-drop}
use lib.Seq.{drop-drop}
use Rattle.columnar.specs.Row.{bytes}
use Rattle.columnar.specs.Types.{width, half, Plain, fixed, string}
use Rattle.columnar.specs.Array.{item}
use Rattle.columnar.specs.Entries.{encodes}
use Rattle.columnar.specs.Plain.{PlainBody, plain_at, stored, OffsetsRule, empty, full, PlainRule}
use Rattle.columnar.proofs.Items.{length_encodes, length_cut, item_past}
use Rattle.model.proofs.Bits.{length_seg}
use Rattle.model.proofs.Pieces.{cut_cut, piece_cut}
use Rattle.model.proofs.PlainLaw.{row_stored}
use Rattle.model.proofs.TextLaw.{Rising, rising_below}
use Rattle.anew.proofs.lists.Viewed.{entry_is}
use Rattle.anew.specs.widths.Widths.{PlainWidths, s_fixed, s_string}
use Rattle.anew.specs.widths.Converted.{span_of, offsets_of, plain_as}
use Rattle.anew.specs.widths.Fitting.{needs, AllFit, plain_numbers}
use Rattle.anew.proofs.widths.Fits.{seg_fits}

-- ---- offsets

pub rising : (w : ℕ) (os : List ℕ) (most s n : ℕ) → OffsetsRule w os most s n → Rising (item w os) s n
rising w os most s n (empty e f) i q = absurd (omega arith)
rising w os most s n (full h) i q = let z : s + i + 1 ≡ suc (s + i) = omega arith in rw z at (h.rises i q)

module _ (w : ℕ) (os : List ℕ) (most s n : ℕ) (h : OffsetsRule w os most s n) where
  -- the offsets of a stretch never fall
  pub above : (i j : ℕ) → i ≤ j → j ≤ n → item w os (s + i) ≤ item w os (s + j)
  above i j p q = rising_below (item w os) s n (rising w os most s n h) i j p q

  pub first_least : (i : ℕ) → i ≤ n → item w os s ≤ item w os (s + i)
  first_least i q = rw add-zero at (above 0 i (omega arith) q)

  pub last_within : item w os (s + n) ≤ most
  last_within = go h
    where
      go : OffsetsRule w os most s n → item w os (s + n) ≤ most
      go (empty e f) = let z : item w os (s + n) ≡ 0 = rw f (item_past w [] (s + n) (omega arith)) in omega arith
      go (full r) = r.within

  module _ (w' : ℕ) (fit : AllFit (needs 6 (half w') (offsets_of w os s n))) where
    abbrev pub new : List ℕ
    new = encodes w' (offsets_of w os s n)

    new_fits : (i : ℕ) → i ≤ n → item w os (s + i) - item w os s < half w'
    new_fits i q = seg_fits 6 (half w') (λ i. item w os i - item w os s) s (suc n) fit i (omega arith)

    -- each offset less the first
    pub new_offset : (i : ℕ) → i ≤ n → item w' new i ≡ item w os (s + i) - item w os s
    new_offset i q = entry_is w' (λ i. item w os i - item w os s) s (suc n) i (omega arith) (new_fits i q)

    -- how long a row is
    pub new_size : (i : ℕ) → i < n → item w' new (suc i) - item w' new i ≡ item w os (suc (s + i)) - item w os (s + i)
    new_size i q =
        let z : s + suc i ≡ suc (s + i) = omega arith in
        rw (new_offset i (omega arith), new_offset (suc i) (omega arith), z)
        (omega (arith, first_least i (omega arith), rw z at (above i (suc i) (omega arith) (omega arith))))

    pub new_rule : (most' : ℕ) → span_of w os s n ≤ most' → OffsetsRule w' new most' 0 n
    new_rule most' r =
        full
        (record {
          hold = rw (length_encodes, length_seg) (let z : 0 + n + 1 ≡ suc n = omega arith in rw z (omega arith));
          positive = λ i q. rw (zero-add, new_offset i q) (new_fits i q);
          rises = λ i q.
              let e : 0 + i + 1 ≡ suc i = omega arith in
              rw (e, zero-add, new_offset i (omega arith), new_offset (suc i) (omega arith)) (omega (arith, above i (suc i) (omega arith) (omega arith)));
          within = rw (zero-add, new_offset n (omega arith)) r;
        })

-- ---- numbers and byte strings

-- THE STORED BYTES ARE THE SAME
pub plain_stored : (p p' : Plain) (d : PlainWidths p p') (okay : ℕ → Bool) (b : PlainBody p) (s n : ℕ) → PlainRule p okay b s n → AllFit (plain_numbers d b s n)
    → (i : ℕ) → i < n → stored p' (plain_as d okay b s n) i ≡ stored p b (s + i)
plain_stored p p' (s_fixed k) okay b s n h fit i q = piece_cut (width k) s n b i q
plain_stored p p' (s_string w w') okay b s n h fit i q =
    let os = b.offsets in
    let most = length b.chars in
    let z : item w os s + (item w os (s + i) - item w os s) ≡ item w os (s + i) = omega (arith, first_least w os most s n h i (omega arith)) in
    let y : s + suc i ≡ suc (s + i) = omega arith in
    let u = rw y at (above w os most s n h i (suc i) (omega arith) (omega arith)) in
    let v = rw y at (above w os most s n h (suc i) n (omega arith) (omega arith)) in
    rw (new_size w os most s n h w' fit i q, new_offset w os most s n h w' fit i (omega arith))
    (cut_cut (item w os (suc (s + i)) - item w os (s + i)) (item w os (s + i) - item w os s) (span_of w os s n) (drop (item w os s) b.chars) (omega (arith, u, v, first_least w os most s n h i (omega arith)))
    ∙ rw (drop-drop, z))

pub plain_slot : (p p' : Plain) (d : PlainWidths p p') (okay : ℕ → Bool) (b : PlainBody p) (s n : ℕ) → PlainRule p okay b s n → AllFit (plain_numbers d b s n)
    → (i : ℕ) → i < n → plain_at p' (plain_as d okay b s n) i ≡ plain_at p b (s + i)
plain_slot p p' (s_fixed k) okay b s n h fit i q = row_stored (fixed k) _ b i (s + i) (plain_stored (fixed k) (fixed k) (s_fixed k) okay b s n h fit i q)
plain_slot p p' (s_string w w') okay b s n h fit i q = ap bytes (plain_stored (string w) (string w') (s_string w w') okay b s n h fit i q)

pub plain_rule : (p p' : Plain) (d : PlainWidths p p') (okay okay' : ℕ → Bool) (b : PlainBody p) (s n : ℕ) → PlainRule p okay b s n → AllFit (plain_numbers d b s n)
    → PlainRule p' okay' (plain_as d okay b s n) 0 n
plain_rule p p' (s_fixed k) okay okay' b s n h fit = rw (zero-add, length_cut (width k) s n b h) (omega arith)
plain_rule p p' (s_string w w') okay okay' b s n h fit =
    let os = b.offsets in
    let most = length b.chars in
    new_rule w os most s n h w' fit (length (take (span_of w os s n) (drop (item w os s) b.chars)))
    (simp (length-take, length-drop) (omega (arith, last_within w os most s n h)))
