-- A list column as a list-view column: rows, child, rules. Assumes nothing.
use mathlib.Core.Path.{◌≡◌, refl, ap, ◌∙◌}
use mathlib.Core.Bool.{true}
use mathlib.Core.List.{List}
use Prim.Native.Nat.{ℕ, suc, ◌+◌, ◌≤◌, ◌<◌}
use native.Mathlib.Nat.{zero-add, add-zero}
use native.Mathlib.Omega.{arith}
use lib.ListN.{get_or}
use Rattle.columnar.specs.Row.{list, rows, seg}
use Rattle.columnar.specs.Types.{half, Ty, t_list_view, t_list}
use Rattle.columnar.specs.Array.{item}
use Rattle.columnar.specs.Entries.{encodes}
use Rattle.columnar.specs.Plain.{OffsetsRule, empty, full}
use Rattle.columnar.specs.List.{list_at}
use Rattle.columnar.specs.ListView.{list_view_at}
use Rattle.columnar.specs.Reading.{Column, slot_at, read, read_all, Source}
use Rattle.columnar.proofs.Items.{length_encodes, item_encodes_lt}
use Rattle.columnar.proofs.Kept.{seg_same}
use Rattle.columnar.proofs.WiderKinds.{row_within}
use Rattle.model.proofs.Bits.{length_seg, get_d_seg}
use Rattle.anew.specs.lists.Named.{named}
use Rattle.anew.specs.lists.Viewed.{offset_in, size_in, viewed}
use Rattle.anew.proofs.lists.Laid.{laid_mask, laid_read}
use Rattle.anew.proofs.lists.Named.{named_read, named_source}

-- the entries of a buffer made of numbers that fit
pub entry_is : (w : ℕ) (f : ℕ → ℕ) (a n i : ℕ) → i < n → f (a + i) < half w → item w (encodes w (seg f a n)) i ≡ f (a + i)
entry_is w f a n i q h =
    let e : get_or (seg f a n) i 0 ≡ f (a + i) = get_d_seg f a n i 0 q in
    item_encodes_lt w (seg f a n) i (rw length_seg q) (rw e (omega arith)) ∙ e

-- the two offsets of a row
record RowOf (w : ℕ) (o : ℕ → ℕ) (most i : ℕ) : Type 0 where
  first_fits : o i < half w
  next_fits : o (suc i) < half w
  rises : o i ≤ o (suc i)
  within : o (suc i) ≤ most

row_of : (w most off len : ℕ) (os : List ℕ) → OffsetsRule w os most off len → (i : ℕ) → i < len → RowOf w (item w os) most (off + i)
row_of w most off len os (empty e f) i q = absurd (omega arith)
row_of w most off len os (full h) i q =
    let z : off + i + 1 ≡ suc (off + i) = omega arith in
    let y : off + suc i ≡ suc (off + i) = omega arith in
    record {
      first_fits = h.positive i (omega arith);
      next_fits = rw y at (h.positive (suc i) (omega arith));
      rises = rw z at (h.rises i q);
      within = row_within w os most off len (full h) i q;
    }

module _ (w : ℕ) (t : Ty) (x : Column (t_list w t)) (s : Source (t_list w t) x) where
  abbrev made : Column (t_list_view w t)
  made = viewed w t x

  -- THE CHILD IS NAMED, NOT COPIED: the same rows of the same buffers
  pub viewed_child : made.body.child ≡ named t x.body.child
  viewed_child = refl

  module _ (i : ℕ) (q : i < x.len) where
    row : RowOf w (item w x.body.offsets) x.body.child.len (x.off + i)
    row = row_of w x.body.child.len x.off x.len x.body.offsets s.slots.offsets_rule_lem i q

    -- EACH ROW'S OFFSET AND SIZE ARE THE LIST'S, null rows included
    pub viewed_offset : item w made.body.offsets i ≡ offset_in w x.body (x.off + i)
    viewed_offset = entry_is w (offset_in w x.body) x.off x.len i q row.first_fits

    pub viewed_size : item w made.body.sizes i ≡ size_in w x.body (x.off + i)
    viewed_size = entry_is w (size_in w x.body) x.off x.len i q (let z = row.next_fits in omega arith)

    viewed_slot : list_view_at w (slot_at t) made.body i ≡ list_at w (slot_at t) x.body (x.off + i)
    viewed_slot =
        rw (viewed_offset, viewed_size)
        (ap (λ r. list (rows r))
        (seg_same (read t (named t x.body.child)) (read t x.body.child) (offset_in w x.body (x.off + i)) (size_in w x.body (x.off + i))
        (λ j r. named_read t x.body.child s.slots.child_rule (offset_in w x.body (x.off + i) + j) (omega (arith, row.rises, row.within)))))

    -- EACH ROW READS AS BEFORE
    pub viewed_row : read (t_list_view w t) made i ≡ read (t_list w t) x i
    viewed_row =
        laid_read true x 0 x.len made.body (x.off + x.len) s.mask i q (list_at w (slot_at t)) (list_view_at w (slot_at t)) (λ v. rw add-zero viewed_slot)
        ∙ ap (read (t_list w t) x) (zero-add i)

  pub viewed_rows : read_all (t_list_view w t) made ≡ read_all (t_list w t) x
  viewed_rows = seg_same (read (t_list_view w t) made) (read (t_list w t) x) 0 x.len (λ i q. rw (zero-add i) (viewed_row i q))

  -- IT OBEYS THE RULES
  pub viewed_source : Source (t_list_view w t) made
  viewed_source =
      record {
        mask = laid_mask true x 0 x.len made.body;
        slots =
            record {
              hold_offsets = rw (zero-add, length_encodes, length_seg) (omega arith);
              hold_sizes = rw (zero-add, length_encodes, length_seg) (omega arith);
              entries = λ i q.
                  rw zero-add
                  (record {
                    offset = rw (viewed_offset i q) (row i q).first_fits;
                    size = rw (viewed_size i q) (let z = (row i q).next_fits in omega arith);
                    within = rw (viewed_offset i q, viewed_size i q) (omega (arith, (row i q).rises, (row i q).within));
                  });
              child_rule = named_source t x.body.child s.slots.child_rule;
            };
      }
