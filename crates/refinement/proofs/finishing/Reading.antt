-- Tables that describe a column read as the column does, row by row, and obey the rules of a source where it does. Assumes nothing.
use mathlib.Core.Path.{◌≡◌, sym, ap, ap₂, subst, ◌∙◌}
use mathlib.Core.List.{List}
use Prim.Native.Nat.{ℕ, suc, ◌+◌, ◌-◌, ◌<◌}
use native.Mathlib.Nat.{zero-add}
use native.Mathlib.Omega.{arith}
use lib.ListN.{get_or}
use Rattle.columnar.specs.Row.{list, rows, union, seg}
use Rattle.columnar.specs.Types.{Plain, fixed, string, Ty, t_plain, t_view, t_list_view, t_list, t_sparse, t_dense, t_run_end, t_dictionary}
use Rattle.columnar.specs.Array.{Array, item, ok, sight}
use Rattle.columnar.specs.Plain.{PlainBody, OffsetsRule}
use Rattle.columnar.specs.RunEnd.{end_of, first_above}
use Rattle.columnar.specs.Reading.{Body, Column, slot_at, read, read_all, SlotRule, Source}
use Rattle.columnar.proofs.FirstAbove.{first_below}
use Rattle.columnar.proofs.Kept.{seg_same}
use Rattle.columnar.proofs.WiderKinds.{row_within}
use Rattle.array_data.specs.Tables.{Tables, first_buffer, array_with}
use Rattle.array_data.specs.Typed.{Tree, node_of, plain_body, body_of, column_of}
use Rattle.refinement.specs.finishing.Shows.{ShowsNode, ShowsPlain, ShowsData, Shows}

-- an array with another body
abbrev bodied : {B : Type 0} → Array B → B → Array B
bodied a b = record { len = a.len; off = a.off; valid = a.valid; body = b }

module _ (tree : Tree) (y : Tables) where
  as_array : {B : Type 0} {i : ℕ} {inner : B → Type 0} {a : Array B} → ShowsNode y i inner a → (b : B) → array_with y b i ≡ bodied a b
  as_array h b = rw (h.len_is, h.off_is, h.valid_is)

  plain_same : (p : Plain) (i : ℕ) (b : PlainBody p) → ShowsPlain tree y p i b → plain_body tree y p i ≡ b
  plain_same (fixed n) i b h = h
  plain_same (string w) i b h = ap₂ (λ s r. record { offsets = s; chars = r }) h.0 h.1

  -- ---- the bodies, with the children that the tables describe

  abbrev kid : (t : Ty) → ℕ → Column t
  kid t i = column_of tree y t i

  list_body : (w : ℕ) (t : Ty) (i : ℕ) (b : Body (t_list_view w t)) → ShowsData tree y (t_list_view w t) i b
      → body_of tree y (t_list_view w t) i ≡ record { offsets = b.offsets; sizes = b.sizes; child = kid t (suc i) }
  list_body w t i b h = ap₂ (λ s r. record { offsets = s; sizes = r; child = kid t (suc i) }) h.0 h.1

  lists_body : (w : ℕ) (t : Ty) (i : ℕ) (b : Body (t_list w t)) → ShowsData tree y (t_list w t) i b → body_of tree y (t_list w t) i ≡ record { offsets = b.offsets; child = kid t (suc i) }
  lists_body w t i b h = ap (λ s. record { offsets = s; child = kid t (suc i) }) h.0

  ends_same : (i : ℕ) (a : Array (List ℕ)) → ShowsNode y i (λ s. first_buffer y i ≡ s) a → array_with y (first_buffer y i) i ≡ a
  ends_same i a h = as_array h (first_buffer y i) ∙ ap (bodied a) h.body_is

  values_same : (p : Plain) (i : ℕ) (a : Array (PlainBody p)) → ShowsNode y i (ShowsPlain tree y p i) a → array_with y (plain_body tree y p i) i ≡ a
  values_same p i a h = as_array h (plain_body tree y p i) ∙ ap (bodied a) (plain_same p i a.body h.body_is)

  -- ---- a row

  -- row r reads alike, where the slot does
  node_read : (t : Ty) (i : ℕ) (a : Column t) (r : ℕ) → Shows tree y t i a → slot_at t (body_of tree y t i) (a.off + r) ≡ slot_at t a.body (a.off + r) → read t (kid t i) r ≡ read t a r
  node_read t i a r h e = ap (λ x. read t x r) (as_array h (body_of tree y t i)) ∙ ap (sight (ok a.valid (a.off + r))) e

  pub shows_read : (t : Ty) (i : ℕ) (a : Column t) → Shows tree y t i a → Source t a → (r : ℕ) → r < a.len → read t (kid t i) r ≡ read t a r
  shows_read (t_plain p) i a h o r l = node_read (t_plain p) i a r h (ap (λ b. slot_at (t_plain p) b (a.off + r)) (plain_same p i a.body h.body_is))
  shows_read t_view i a h o r l =
      node_read t_view i a r h (ap₂ (λ v b. slot_at t_view (record { views = v; buffers = b }) (a.off + r)) h.body_is.0 h.body_is.1)
  shows_read (t_list_view w t) i a h o r l =
      let b = a.body in
      let s = a.off + r in
      let e = o.slots.entries r l in
      node_read (t_list_view w t) i a r h
      (ap (λ b. slot_at (t_list_view w t) b s) (list_body w t i b h.body_is)
      ∙ ap (λ rs. list (rows rs))
      (seg_same (read t (kid t (suc i))) (read t b.child) (item w b.offsets s) (item w b.sizes s)
      (λ j q. shows_read t (suc i) b.child h.body_is.2 o.slots.child_rule (item w b.offsets s + j) (omega (arith, e.within)))))
  shows_read (t_list w t) i a h o r l =
      let b = a.body in
      let s = a.off + r in
      node_read (t_list w t) i a r h
      (ap (λ b. slot_at (t_list w t) b s) (lists_body w t i b h.body_is)
      ∙ ap (λ rs. list (rows rs))
      (seg_same (read t (kid t (suc i))) (read t b.child) (item w b.offsets s) (item w b.offsets (suc s) - item w b.offsets s)
      (λ j q. shows_read t (suc i) b.child h.body_is.1 o.slots.child_rule (item w b.offsets s + j)
      (omega (arith, row_within w b.offsets b.child.len a.off a.len o.slots.offsets_rule_lem r l)))))
  shows_read (t_sparse ids nullable f) i a h o r l =
      let b = a.body in
      let s = a.off + r in
      let c = get_or b.ids s 0 in
      let m = o.slots.declared r l in
      node_read (t_sparse ids nullable f) i a r h
      (ap (λ v. slot_at (t_sparse ids nullable f) (record { ids = v; children = λ c. kid (f c) (node_of tree i ids c) }) s) h.body_is.0
      ∙ ap (union c) (shows_read (f c) (node_of tree i ids c) (b.children c) (h.body_is.1 c m) (o.slots.child_rule c m) s (omega (arith, o.slots.long c m))))
  shows_read (t_dense ids nullable f) i a h o r l =
      let b = a.body in
      let s = a.off + r in
      let c = get_or b.ids s 0 in
      let m = o.slots.declared r l in
      node_read (t_dense ids nullable f) i a r h
      (ap₂ (λ v q. slot_at (t_dense ids nullable f) (record { ids = v; positions = q; children = λ c. kid (f c) (node_of tree i ids c) }) s) h.body_is.0 h.body_is.1
      ∙ ap (union c) (shows_read (f c) (node_of tree i ids c) (b.children c) (h.body_is.2 c m) (o.slots.child_rule c m) (item 4 b.positions s) (o.slots.within r l)))
  shows_read (t_run_end w t) i a h o r l =
      let b = a.body in
      let s = a.off + r in
      let n = b.ends.len in
      let e = end_of w b.ends in
      node_read (t_run_end w t) i a r h
      (ap (λ x. slot_at (t_run_end w t) (record { ends = x; values = kid t (suc (suc i)) }) s) (ends_same (suc i) b.ends h.body_is.0)
      ∙ shows_read t (suc (suc i)) b.values h.body_is.1 o.slots.child_rule (first_above e s 0 n)
      (let z = first_below e s n (omega (arith, o.slots.covers)) in omega (arith, o.slots.as_many)))
  shows_read (t_dictionary k p) i a h o r l =
      node_read (t_dictionary k p) i a r h
      (ap₂ (λ s v. slot_at (t_dictionary k p) (record { keys = s; values = v; starts = a.body.starts }) (a.off + r)) h.body_is.0 (values_same p (suc i) a.body.values h.body_is.1))

  -- THE ROWS of what the tables describe are the column's
  pub shows_all : (t : Ty) (i : ℕ) (a : Column t) → Shows tree y t i a → Source t a → read_all t (kid t i) ≡ read_all t a
  shows_all t i a h o =
      ap (seg (read t (kid t i)) 0) h.len_is
      ∙ seg_same (read t (kid t i)) (read t a) 0 a.len (λ j q. shows_read t i a h o (0 + j) (rw zero-add q))

  -- ---- the rules of a source

  node_obeys : (t : Ty) (i : ℕ) (a : Column t) → Shows tree y t i a → Source t a → SlotRule t (ok a.valid) (body_of tree y t i) a.off a.len → Source t (kid t i)
  node_obeys t i a h o s = subst (Source t) (sym (as_array h (body_of tree y t i))) (record { mask = o.mask; slots = s })

  -- WHAT THE TABLES DESCRIBE can be lent again: it obeys the rules of a source
  pub shows_obeys : (t : Ty) (i : ℕ) (a : Column t) → Shows tree y t i a → Source t a → Source t (kid t i)
  shows_obeys (t_plain p) i a h o =
      node_obeys (t_plain p) i a h o (subst (λ b. SlotRule (t_plain p) (ok a.valid) b a.off a.len) (sym (plain_same p i a.body h.body_is)) o.slots)
  shows_obeys t_view i a h o =
      node_obeys t_view i a h o
      (subst (λ b. SlotRule t_view (ok a.valid) b a.off a.len) (sym (ap₂ (λ v b. record { views = v; buffers = b }) h.body_is.0 h.body_is.1)) o.slots)
  shows_obeys (t_list_view w t) i a h o =
      let g = h.body_is.2 in
      let k = shows_obeys t (suc i) a.body.child g o.slots.child_rule in
      node_obeys (t_list_view w t) i a h o
      (subst (λ b. SlotRule (t_list_view w t) (ok a.valid) b a.off a.len) (sym (list_body w t i a.body h.body_is))
      (record {
        hold_offsets = o.slots.hold_offsets;
        hold_sizes = o.slots.hold_sizes;
        entries = λ r l. let e = o.slots.entries r l in record { offset = e.offset; size = e.size; within = rw g.len_is e.within };
        child_rule = k;
      }))
  shows_obeys (t_list w t) i a h o =
      let g = h.body_is.1 in
      let k = shows_obeys t (suc i) a.body.child g o.slots.child_rule in
      node_obeys (t_list w t) i a h o
      (subst (λ b. SlotRule (t_list w t) (ok a.valid) b a.off a.len) (sym (lists_body w t i a.body h.body_is))
      (record { offsets_rule_lem = subst (λ n. OffsetsRule w a.body.offsets n a.off a.len) (sym g.len_is) o.slots.offsets_rule_lem; child_rule = k }))
  shows_obeys (t_sparse ids nullable f) i a h o =
      let g = h.body_is.1 in
      node_obeys (t_sparse ids nullable f) i a h o
      (subst (λ s. SlotRule (t_sparse ids nullable f) (ok a.valid) (record { ids = s; children = λ c. kid (f c) (node_of tree i ids c) }) a.off a.len) (sym h.body_is.0)
      (record {
        hold = o.slots.hold;
        declared = o.slots.declared;
        long = λ c m. rw (g c m).len_is (o.slots.long c m);
        child_rule = λ c m. shows_obeys (f c) (node_of tree i ids c) (a.body.children c) (g c m) (o.slots.child_rule c m);
      }))
  shows_obeys (t_dense ids nullable f) i a h o =
      let g = h.body_is.2 in
      node_obeys (t_dense ids nullable f) i a h o
      (subst (λ b. SlotRule (t_dense ids nullable f) (ok a.valid) b a.off a.len)
      (sym (ap₂ (λ s q. record { ids = s; positions = q; children = λ c. kid (f c) (node_of tree i ids c) }) h.body_is.0 h.body_is.1))
      (record {
        hold_ids = o.slots.hold_ids;
        hold_positions = o.slots.hold_positions;
        declared = o.slots.declared;
        positive = o.slots.positive;
        within = λ r l. rw (g (get_or a.body.ids (a.off + r) 0) (o.slots.declared r l)).len_is (o.slots.within r l);
        child_rule = λ c m. shows_obeys (f c) (node_of tree i ids c) (a.body.children c) (g c m) (o.slots.child_rule c m);
      }))
  shows_obeys (t_run_end w t) i a h o =
      let g = h.body_is.1 in
      let k = shows_obeys t (suc (suc i)) a.body.values g o.slots.child_rule in
      node_obeys (t_run_end w t) i a h o
      (subst (λ x. SlotRule (t_run_end w t) (ok a.valid) (record { ends = x; values = kid t (suc (suc i)) }) a.off a.len) (sym (ends_same (suc i) a.body.ends h.body_is.0))
      (record {
        ends_mask = o.slots.ends_mask;
        hold = o.slots.hold;
        no_nulls = o.slots.no_nulls;
        positive = o.slots.positive;
        rises = o.slots.rises;
        covers = o.slots.covers;
        as_many = g.len_is ∙ o.slots.as_many;
        child_rule = k;
      }))
  shows_obeys (t_dictionary k p) i a h o =
      node_obeys (t_dictionary k p) i a h o
      (subst (λ b. SlotRule (t_dictionary k p) (ok a.valid) b a.off a.len)
      (sym (ap₂ (λ s v. record { keys = s; values = v; starts = (body_of tree y (t_dictionary k p) i).starts }) h.body_is.0 (values_same p (suc i) a.body.values h.body_is.1)))
      (record { hold = o.slots.hold; positive = o.slots.positive; within = o.slots.within; child_rule = o.slots.child_rule }))
