-- Each kind in other widths, from its children in other widths. Assumes nothing.
use mathlib.Core.Path.{◌≡◌, ap, ◌∙◌}
use mathlib.Core.List.{List, ◌++◌}
use Prim.Native.Nat.{ℕ, suc, ◌+◌, ◌-◌, ◌<◌}
use native.Mathlib.Nat.{zero-add}
use native.Mathlib.Omega.{arith}
use lib.Dec.{T}
use Rattle.columnar.specs.Row.{bytes, list, rows, seg}
use Rattle.columnar.specs.Types.{half, Plain, Ty, t_plain, t_view, t_list_view, t_list}
use Rattle.columnar.specs.Array.{item}
use Rattle.columnar.specs.Entries.{encodes}
use Rattle.columnar.specs.Plain.{OffsetsRule}
use Rattle.columnar.specs.View.{shown}
use Rattle.columnar.specs.Reading.{read}
use Rattle.columnar.proofs.Items.{length_encodes, length_cut}
use Rattle.model.proofs.Bits.{length_seg}
use Rattle.model.proofs.Pieces.{piece_cut}
use Rattle.model.proofs.Rows.{seg_cong}
use Rattle.anew.proofs.lists.Viewed.{entry_is}
use Rattle.anew.specs.widths.Widths.{PlainWidths, Widths, s_plain, s_view, s_list_view, s_list}
use Rattle.anew.specs.widths.Converted.{span_of, offsets_of, column_as}
use Rattle.anew.specs.widths.Fitting.{Demand, needs, AllFit, numbers_of, numbers_in}
use Rattle.anew.proofs.widths.Fits.{all_left, all_right, seg_fits}
use Rattle.anew.proofs.widths.Plain.{above, first_least, last_within, new_offset, new_size, new_rule, plain_slot, plain_rule}
use Rattle.anew.proofs.widths.Node.{Made, Node, node}

pub plain_made : (p p' : Plain) (d : PlainWidths p p') → Made (t_plain p) (t_plain p') (s_plain p p' d)
plain_made p p' d okay okay' b s n h e fit =
    record { holds = λ i q v. plain_slot p p' d okay b s n h fit i q; rule = plain_rule p p' d okay okay' b s n h fit }

pub view_made : Made t_view t_view s_view
view_made okay okay' b s n h e fit =
    record {
      holds = λ i q v. ap (λ z. bytes (shown b.buffers z)) (piece_cut 16 s n b.views i q);
      rule =
          record {
            hold = rw (zero-add, length_cut 16 s n b.views h.hold) (omega arith);
            good = λ i q v.
                let u : T (okay' i) = rw zero-add at v in
                rw (zero-add, piece_cut 16 s n b.views i q) (h.good i q (rw (e i q) at u));
          };
    }

pub list_view_made : (w w' : ℕ) (t t' : Ty) (d : Widths t t') → Made t t' d → Made (t_list_view w t) (t_list_view w' t') (s_list_view w w' t t' d)
list_view_made w w' t t' d made okay okay' b s n h e fit =
    record {
      holds = λ i q v.
          rw (offset i q, size i q)
          (ap (λ r. list (rows r))
          (seg_cong (read t' (column_as t t' d b.child 0 b.child.len)) (read t b.child) (item w b.offsets (s + i)) (item w b.offsets (s + i)) (item w b.sizes (s + i))
          (λ j r. kid.row (item w b.offsets (s + i) + j) (omega (arith, (h.entries i q).within)) ∙ ap (read t b.child) (zero-add _))));
      rule =
          record {
            hold_offsets = rw (zero-add, length_encodes, length_seg) (omega arith);
            hold_sizes = rw (zero-add, length_encodes, length_seg) (omega arith);
            entries = λ i q.
                rw zero-add
                (record { offset = rw (offset i q) (offset_fits i q); size = rw (size i q) (size_fits i q); within = rw (offset i q, size i q) (h.entries i q).within });
            child_rule = kid.obeys;
          };
    }
  where
    rest : List Demand
    rest = needs 6 (half w') (seg (item w b.sizes) s n) ++ numbers_of (numbers_in d) b.child 0 b.child.len

    offset_fits : (i : ℕ) → i < n → item w b.offsets (s + i) < half w'
    offset_fits = seg_fits 6 (half w') (item w b.offsets) s n (all_left (needs 6 (half w') (seg (item w b.offsets) s n)) rest fit)

    size_fits : (i : ℕ) → i < n → item w b.sizes (s + i) < half w'
    size_fits = seg_fits 6 (half w') (item w b.sizes) s n (all_left (needs 6 (half w') (seg (item w b.sizes) s n)) (numbers_of (numbers_in d) b.child 0 b.child.len) (all_right (needs 6 (half w') (seg (item w b.offsets) s n)) rest fit))

    offset : (i : ℕ) → i < n → item w' (encodes w' (seg (item w b.offsets) s n)) i ≡ item w b.offsets (s + i)
    offset i q = entry_is w' (item w b.offsets) s n i q (offset_fits i q)

    size : (i : ℕ) → i < n → item w' (encodes w' (seg (item w b.sizes) s n)) i ≡ item w b.sizes (s + i)
    size i q = entry_is w' (item w b.sizes) s n i q (size_fits i q)

    kid : Node t t' d b.child 0 b.child.len
    kid =
        node t t' d made b.child h.child_rule 0 b.child.len (omega arith)
        (all_right (needs 6 (half w') (seg (item w b.sizes) s n)) (numbers_of (numbers_in d) b.child 0 b.child.len) (all_right (needs 6 (half w') (seg (item w b.offsets) s n)) rest fit))

pub list_made : (w w' : ℕ) (t t' : Ty) (d : Widths t t') → Made t t' d → Made (t_list w t) (t_list w' t') (s_list w w' t t' d)
list_made w w' t t' d made okay okay' b s n h e fit =
    record {
      holds = λ i q v.
          let y : s + suc i ≡ suc (s + i) = omega arith in
          let u = rw y at (above w b.offsets b.child.len s n r i (suc i) (omega arith) (omega arith)) in
          let z = rw y at (above w b.offsets b.child.len s n r (suc i) n (omega arith) (omega arith)) in
          let f = first_least w b.offsets b.child.len s n r i (omega arith) in
          rw (new_size w b.offsets b.child.len s n r w' own i q, new_offset w b.offsets b.child.len s n r w' own i (omega arith))
          (ap (λ x. list (rows x))
          (seg_cong (read t' (column_as t t' d b.child (o s) (span_of w b.offsets s n))) (read t b.child) (o (s + i) - o s) (o (s + i)) (o (suc (s + i)) - o (s + i))
          (λ j p. kid.row (o (s + i) - o s + j) (omega (arith, u, z, f)) ∙ ap (read t b.child) (let x : o s + (o (s + i) - o s + j) ≡ o (s + i) + j = omega (arith, f) in x))));
      rule = record { offsets_rule_lem = new_rule w b.offsets b.child.len s n r w' own (span_of w b.offsets s n) (omega arith); child_rule = kid.obeys };
    }
  where
    o : ℕ → ℕ
    o i = item w b.offsets i

    r : OffsetsRule w b.offsets b.child.len s n
    r = h.offsets_rule_lem

    own : AllFit (needs 6 (half w') (offsets_of w b.offsets s n))
    own = all_left (needs 6 (half w') (offsets_of w b.offsets s n)) (numbers_of (numbers_in d) b.child (item w b.offsets s) (span_of w b.offsets s n)) fit

    kid : Node t t' d b.child (item w b.offsets s) (span_of w b.offsets s n)
    kid =
        node t t' d made b.child h.child_rule (item w b.offsets s) (span_of w b.offsets s n)
        (omega (arith, first_least w b.offsets b.child.len s n h.offsets_rule_lem n (omega arith), last_within w b.offsets b.child.len s n h.offsets_rule_lem))
        (all_right (needs 6 (half w') (offsets_of w b.offsets s n)) (numbers_of (numbers_in d) b.child (item w b.offsets s) (span_of w b.offsets s n)) fit)
