-- Laws of the test of one view, and of a run of views. Assumes nothing.
use Rattle.std.proofs.Common.{◌≡◌, ℕ, ◌+◌, ◌*◌, ◌<◌, ◌≤◌, Bool, true, false, eqb, List, length, get_or, drop, sym, ap, ◌∙◌, arith, le-ltb, lt-ltb, eq-eqb, le-leb}
use borrow.Author.Tests.{lt-leb}
use Rattle.number.specs.Number.{number}
use Rattle.bits.specs.Bits.{bits}
use Rattle.utils.specs.declared.byte_view.ByteView.{ByteView}
use Rattle.utils.specs.byte_view.View.{view_at}
use Rattle.row_rules.specs.slots.Slots.{lies_in, start_at, bytes_at, view_good, views_good, valid_views_good}
use Rattle.row_rules.proofs.slots.Laws.{fail, valid_row}

module _ (s : List ℕ) (start bytes : ℕ) (v : ByteView) where
  -- the data buffer runs past the body
  pub lies_out : length s < start + bytes → false ≡ lies_in s start bytes v
  lies_out h = sym (rw (lt-leb (start + bytes) (length s) h))

  module _ (h : start + bytes ≤ length s) where
    -- the view runs past the data buffer
    pub lies_past : bytes < v.offset + v.length → false ≡ lies_in s start bytes v
    lies_past g = sym (rw (le-leb (start + bytes) (length s) h, lt-leb (v.offset + v.length) bytes g))

    pub lies_prefix : (x : ℕ) → v.offset + v.length ≤ bytes → x ≡ number 4 (drop (start + v.offset) s) → eqb v.prefix x ≡ lies_in s start bytes v
    lies_prefix x g e = sym (rw (le-leb (start + bytes) (length s) h, le-leb (v.offset + v.length) bytes g, e))

module _ (s t : List ℕ) (first count : ℕ) (v : ByteView) where
  pub view_negative : 2147483648 ≤ v.length → false ≡ view_good s t first count v
  view_negative h = sym (rw (le-ltb v.length 2147483648 h))

  pub view_inline : v.length ≤ 12 → true ≡ view_good s t first count v
  view_inline h = sym (rw (lt-ltb v.length 2147483648 (omega arith), le-ltb 12 v.length h))

  module _ (small : v.length < 2147483648) (long : 12 < v.length) where
    pub view_unknown : count ≤ v.buffer_index → false ≡ view_good s t first count v
    view_unknown h = sym (rw (lt-ltb v.length 2147483648 small, lt-ltb 12 v.length long, le-ltb v.buffer_index count h))

    pub view_lies : {r : Bool} → v.buffer_index < count
        → r ≡ lies_in s (start_at t first v.buffer_index) (bytes_at t first v.buffer_index) v → r ≡ view_good s t first count v
    view_lies h e = e ∙ sym (rw (lt-ltb v.length 2147483648 small, lt-ltb 12 v.length long, lt-ltb v.buffer_index count h))

-- v is the view that was read, r what the test said of it
module _ (s : List ℕ) (at : ℕ) (t : List ℕ) (first count : ℕ) where
  said : (i : ℕ) {v : ByteView} {r x : Bool} → v ≡ view_at s (at + 16 * i) → r ≡ view_good s t first count v → r ≡ x
      → view_good s t first count (view_at s (at + 16 * i)) ≡ x
  said i e h x = sym (ap (view_good s t first count) e) ∙ sym h ∙ x

  pub views_fail : (i n : ℕ) {v : ByteView} {r : Bool} → i < n → v ≡ view_at s (at + 16 * i) → r ≡ view_good s t first count v → r ≡ false
      → false ≡ views_good s at t first count n
  views_fail i n l e h x = fail _ i n l (said i e h x)

  module _ (from a : ℕ) where
    pub valid_views_fail : (i n : ℕ) {v : ByteView} {r : Bool} → i < n → get_or (bits s) (8 * from + (a + i)) 0 ≡ 1
        → v ≡ view_at s (at + 16 * i) → r ≡ view_good s t first count v → r ≡ false → false ≡ valid_views_good s at t first count from a n
    valid_views_fail i n l b e h x = fail _ i n l (valid_row _ _ _ (eq-eqb _ _ b) (said i e h x))
