-- Byte strings of a leaf, tried and made. Assumes nothing.
use mathlib.Core.Path.{◌≡◌, refl, ap, ◌∙◌}
use mathlib.Core.Bool.{Bool, true, false, not, cond}
use mathlib.Core.List.{List}
use Prim.Native.Nat.{ℕ, ◌+◌, ◌*◌, ◌-◌, ◌≤◌, ◌<◌}
use native.Mathlib.Omega.{arith}
use lib.ListN.{length, replicate}
use lib.Seq.{get_or-set_other}
use lib.Dec.{leb, eqb}
use borrow.Author.Tests.{le-leb, lt-leb, leb-true}
use Rattle.bits.specs.Bits.{bits_at, zeros}
use Rattle.schema.specs.formats.Code.{is_fixed, is_string}
use Rattle.utils.specs.Extension.{extended}
use Rattle.utils.specs.declared.Extended.TheVariants.{Fits}
use Rattle.array_data.proofs.lent_tables.Laws.{and_left, and_right}
use Rattle.walk.specs.State.{Join, code_of, bytes_of, keeps_of, rows, nulls, bytes, grown, top, add_nulls, set_bytes, place, rows_in}
use Rattle.walk.specs.Log.{Entry, mask, Did, apply_if, need, next, wrote, done, fail}
use Rattle.walk.specs.Leaves.{copy_bits, copy_mask, put_extended}
use Rattle.walk.specs.Copy.{Walk, copy_data}
use Rattle.leaf_walk.proofs.variable_size.Laws.{string_no, string_yes, extended_fits, copy_out, copy_in}
use Rattle.nested_rows.proofs.node_data.Laws.{to_string}

-- validity leaves the bytes of data
pub mask_bytes : (x : Join) (i slot n : ℕ) (c : List ℕ) → bytes (copy_mask x i slot n c).counters i ≡ bytes c i
unfolding copy_mask copy_bits need next wrote done fail
mask_bytes x i slot n c =
    go (eqb (keeps_of x.plan i) 0) (eqb (place x i 0) 0) (leb (8 * place x i 1 + slot + n) (8 * length x.body)) (mask i (rows c i) (replicate n 1)) (mask i (rows c i) (bits_at (8 * place x i 1 + slot) n x.body)) (zeros (bits_at (8 * place x i 1 + slot) n x.body))
  where
    go : (t u v : Bool) (e f : Entry) (z : ℕ) → bytes (cond t (done c) (cond u (wrote e c) (need v 12 c (next (wrote f c) (λ c2. done (add_nulls i z c2)))))).counters i ≡ bytes c i
    go true u v e f z = refl
    go false true v e f z = refl
    go false false true e f z = get_or-set_other c (3 * i + 1) (3 * i + 2) (grown (nulls c i) z) 0 (λ (q : 3 * i + 2 ≡ 3 * i + 1). omega arith)
    go false false false e f z = refl

pub bytes_kept : (x : Join) (i slot n : ℕ) {wr : Bool} {c c1 c2 room room2 : List ℕ} {g : ℕ} → c1 ≡ c → Did x.plan x.parts wr (copy_mask x i slot n c1) room g c2 room2 → bytes c2 i ≡ bytes c i
bytes_kept x i slot n {c1 = c1} q d = ap (λ l. bytes l i) d.counters ∙ mask_bytes x i slot n c1 ∙ ap (λ l. bytes l i) q

pub string_code : (code : ℕ) → is_string code ≡ true → code < 17
string_code code h = let l = leb-true code 14 (and_right (leb 11 code) (leb code 14) h) in omega arith

pub not_fixed : (code : ℕ) → is_string code ≡ true → is_fixed code ≡ false
not_fixed code h = let l = leb-true 11 code (and_left (leb 11 code) (leb code 14) h) in rw (le-leb 1 code (omega arith), lt-leb code 10 (omega arith))

module _ (x : Join) (child : Walk) (i slot n : ℕ) (s : is_string (code_of x.plan i) ≡ true) {w : ℕ} (e : w ≡ bytes_of x.plan i) (nz : n ≡ 0 → ⊥) (wr : Bool) (c room : List ℕ) where
  pub text_out : {at : ℕ} {r : Bool} → at ≡ place x i 3 → r ≡ rows_in x at w slot (n + 1) → not r ≡ true → Did x.plan x.parts wr (copy_data x child (code_of x.plan i) i slot n c) room 12 c room
  text_out k q h = to_string x child wr i slot n c room refl e refl (not_fixed (code_of x.plan i) s) refl s (copy_out x i wr c room w slot n nz k q h)

  pub text_in : {at from g : ℕ} {c2 room2 : List ℕ} → at ≡ place x i 3 → from ≡ at + w * slot → from + w * (n + 1) ≤ length x.body
      → Did x.plan x.parts wr (put_extended x i w from n (extended w x.body from n (bytes c i)) c) room g c2 room2
      → Did x.plan x.parts wr (copy_data x child (code_of x.plan i) i slot n c) room g c2 room2
  unfolding rows_in
  text_in {at} {from} k q h d =
      let l : at + w * (slot + (n + 1)) ≤ length x.body = omega arith in
      to_string x child wr i slot n c room refl e refl (not_fixed (code_of x.plan i) s) refl s
      (copy_in x i wr c room w slot n nz k refl (ap not (le-leb (at + w * (slot + (n + 1))) (length x.body) l)) (rw q at d))

-- tried: nothing is written
module _ (x : Join) (i w from n last lead : ℕ) (c room : List ℕ) {old : ℕ} (q : old ≡ bytes c i) (f : extended w x.body from n old ≡ Fits last lead) where
  pub fits_no : {at : ℕ} {t : Bool} → at ≡ place x i 5 → t ≡ leb (at + lead + (last - old)) (length x.body) → not t ≡ true
      → Did x.plan x.parts false (put_extended x i w from n (extended w x.body from n (bytes c i)) c) room 12 c room
  fits_no k g h = extended_fits x i false c room w from n q refl f (string_no x i false c room w from n last lead k q g h)

  pub fits_dry : {at : ℕ} {t : Bool} → 1 ≤ w → length room < top → at ≡ place x i 5 → t ≡ leb (at + lead + (last - old)) (length x.body) → not t ≡ false
      → Did x.plan x.parts false (put_extended x i w from n (extended w x.body from n (bytes c i)) c) room 0 (set_bytes i last c) room
  unfolding apply_if
  fits_dry m z k g h = extended_fits x i false c room w from n q refl f (string_yes x i false c room w from n last lead k q g h refl refl refl m z refl refl refl)
