-- Chosen entries of a dictionary: they fit, each reads as the entry that it is of, and they obey the rules. Assumes nothing.
use mathlib.Core.Path.{◌≡◌, refl, ap, ap₂, ◌∙◌}
use mathlib.Core.Bool.{Bool, true, false, cond}
use mathlib.Core.Option.{some}
use mathlib.Core.List.{List, [], ◌∷◌, map}
use Prim.Native.Nat.{ℕ, zero, suc, ◌+◌, ◌-◌, ◌≤◌, ◌<◌}
use native.Mathlib.Nat.{zero-add, add-zero}
use native.Mathlib.Omega.{arith}
use lib.ListN.{length, get_or, length-take, length-drop, length-map}
use Rattle.columnar.specs.Row.{bytes, seg}
use Rattle.columnar.specs.Types.{width, half, Plain, fixed, string}
use Rattle.columnar.specs.Formed.{OffsetWidth, four, eight, FormedPlain}
use Rattle.columnar.specs.Array.{Array, item, ok, sight, read_with, Obeys}
use Rattle.columnar.specs.Plain.{Text, PlainBody, stored, span, OffsetsTo, empty, full, PlainRule}
use Rattle.columnar.specs.Dictionary.{entry_at}
use Rattle.columnar.proofs.WiderKinds.{row_within}
use Rattle.model.specs.Mutable.{validity}
use Rattle.model.proofs.Bits.{length_seg}
use Rattle.model.proofs.Node.{valid_bit_lem}
use Rattle.model.proofs.Joined.{mask_holds}
use Rattle.anew.specs.runs.Runs.{ok_at, those}
use Rattle.anew.proofs.runs.Those.{those_are}
use Rattle.anew.proofs.runs.Picked.{get_d_map, row_inside, Inside}
use Rattle.anew.proofs.entries.Built.{total, built, Holds, Long, built_stored, built_rule}
use Rattle.anew.proofs.entries.Copies.{bytes_at, chosen}

-- ---- entries of a source

-- a string's bytes are as long as its offsets say
pub long_source : (p : Plain) (okay : ℕ → Bool) (b : PlainBody p) (off len : ℕ) → PlainRule p okay b off len → (e : ℕ) → e < len → Long p b (off + e)
long_source (fixed k) okay b off len h e q = tt
long_source (string w) okay b off len h e q =
    let z = row_within w b.offsets (length b.chars) off len h e q in
    simp (length-take, length-drop) (omega (arith, z))

-- ---- they fit

half_pos : (w : ℕ) → OffsetWidth w → 0 < half w
half_pos w four = omega arith
half_pos w eight = omega arith

module _ (f : ℕ → Bool) where
  module _ (w : ℕ) (b : Text) (off len : ℕ) (h : OffsetsTo w b.offsets (length b.chars) off len) where
    one_span : (e : ℕ) → e < len → length (span w b (off + e)) + item w b.offsets (off + e) ≤ item w b.offsets (off + suc e)
    one_span e q =
        let z : off + e + 1 ≡ off + suc e = omega arith in
        let y : suc (off + e) ≡ off + suc e = omega arith in
        let r : item w b.offsets (off + e) ≤ item w b.offsets (off + suc e) = rw z at (h.rises e q) in
        rw (length-take, y) (omega (arith, r))

    -- the bytes of entries in rising order lie apart
    spans_apart : (n r : ℕ) → r + n ≤ len → total (map (λ e. span w b (off + e)) (those f r n)) + item w b.offsets (off + r) ≤ item w b.offsets (off + (r + n))
    spans_apart zero r q = rw add-zero (omega arith)
    spans_apart (suc n) r q = go (f r) (those f (suc r) n) (let z : suc r + n ≡ r + suc n = omega arith in rw z at (spans_apart n (suc r) (omega arith)))
      where
        go : (c : Bool) (l : List ℕ) → total (map (λ e. span w b (off + e)) l) + item w b.offsets (off + suc r) ≤ item w b.offsets (off + (r + suc n))
            → total (map (λ e. span w b (off + e)) (cond c (r ∷ l) l)) + item w b.offsets (off + r) ≤ item w b.offsets (off + (r + suc n))
        go true l g = omega (arith, g, one_span r (omega arith))
        go false l g = omega (arith, g, one_span r (omega arith))

  -- ENTRIES IN RISING ORDER FIT
  pub those_hold : (p : Plain) (okay : ℕ → Bool) (b : PlainBody p) (off len : ℕ) → FormedPlain p → PlainRule p okay b off len
      → Holds p (map (λ e. stored p b (off + e)) (those f 0 len))
  those_hold (fixed k) okay b off len g h =
      λ j q.
      let p : j < length (those f 0 len) = omega (arith, length-map (those f 0 len) (λ e. stored (fixed k) b (off + e))) in
      let i : get_or (those f 0 len) j 0 < len = rw zero-add at (those_are f len 0 j p).below in
      rw (get_d_map (λ e. stored (fixed k) b (off + e)) (those f 0 len) j 0 [] p)
      (simp (length-take, length-drop) (omega (arith, row_inside (width k) off len (length b) (get_or (those f 0 len) j 0) h i)))
  those_hold (string w) okay b off len g (empty e r) = rw e (half_pos w g)
  those_hold (string w) okay b off len g (full h) =
      omega (arith, rw (zero-add len) at (spans_apart w b off len h len 0 (omega arith)), h.positive len (omega arith))

-- ---- chosen entries

-- one after another, by their places
map_all : {A : Type 0} (f g : ℕ → A) (l : List ℕ) (a : ℕ) → ((j : ℕ) → j < length l → f (a + j) ≡ g (get_or l j 0)) → map f (seg (λ i. i) a (length l)) ≡ map g l
map_all f g [] a h = refl
map_all f g (e ∷ l) a h =
    ap₂ ◌∷◌ (rw add-zero at (h 0 (omega arith))) (map_all f g l (suc a) (λ j q. let z : suc a + j ≡ a + suc j = omega arith in rw z (h (suc j) (omega arith))))

module _ (p : Plain) (v : Array (PlainBody p)) (es : List ℕ) (inside : Inside es v.len) (holds : Holds p (map (bytes_at p v) es)) where
  long_bytes : length (map (bytes_at p v) es) ≡ length es
  long_bytes = length-map es (bytes_at p v)

  module _ (j : ℕ) (q : j < length es) where
    -- an entry is null where the old one is
    pub chosen_ok : ok_at (chosen p v es) j ≡ ok_at v (get_or es j 0)
    chosen_ok = rw zero-add (valid_bit_lem true (some (map (ok_at v) es)) (length es) j (length-map es (ok_at v)) q) ∙ get_d_map (ok_at v) es j 0 false q

    -- and has its bytes, null or not
    pub chosen_stored : stored p (built p (map (bytes_at p v) es)) j ≡ bytes_at p v (get_or es j 0)
    chosen_stored = built_stored p (map (bytes_at p v) es) holds j (omega (arith, long_bytes)) ∙ get_d_map (bytes_at p v) es j 0 [] q

    pub chosen_read : read_with (entry_at p) (chosen p v es) j ≡ read_with (entry_at p) v (get_or es j 0)
    chosen_read = ap₂ (λ b s. sight b (bytes s)) chosen_ok (rw (zero-add j) chosen_stored)

  pub chosen_source : Obeys true (PlainRule p) (chosen p v es)
  chosen_source =
      record {
        mask = rw zero-add (mask_holds (some (map (ok_at v) es)) (length es) (length-map es (ok_at v)));
        slots = rw (← long_bytes) (built_rule p (map (bytes_at p v) es) holds (ok (chosen p v es).valid));
      }

  -- CHOOSING ALL OF THEM AGAIN CHANGES NOTHING
  pub chosen_again : chosen p (chosen p v es) (seg (λ i. i) 0 (length es)) ≡ chosen p v es
  chosen_again =
      let all = seg (λ i. i) 0 (length es) in
      let bs : map (bytes_at p (chosen p v es)) all ≡ map (bytes_at p v) es
      = map_all (bytes_at p (chosen p v es)) (bytes_at p v) es 0 (λ j q. rw (zero-add j, zero-add j) (chosen_stored j q)) in
      let vs : map (ok_at (chosen p v es)) all ≡ map (ok_at v) es = map_all (ok_at (chosen p v es)) (ok_at v) es 0 (λ j q. rw (zero-add j) (chosen_ok j q)) in
      ap (λ n. record { len = n; off = 0; valid = validity true (some (map (ok_at (chosen p v es)) all)); body = built p (map (bytes_at p (chosen p v es)) all) })
      (length_seg (λ i. i) 0 (length es))
      ∙ ap₂ (λ x y. record { len = length es; off = 0; valid = validity true (some x); body = built p y }) vs bs
