-- What a result keeps of the column: offsets, sizes, positions, children's rows and entries; and keys under nulls. Assumes nothing.
use mathlib.Core.Path.{◌≡◌, refl, ap, ◌∙◌}
use mathlib.Core.Bool.{Bool, true, false}
use mathlib.Core.List.{List, ◌++◌, Memᴰ}
use Prim.Native.Nat.{ℕ, ◌+◌, ◌<◌}
use native.Mathlib.Nat.{zero-add, add-zero}
use native.Mathlib.Omega.{arith}
use lib.Dec.{T}
use Rattle.columnar.specs.Row.{seg}
use Rattle.columnar.specs.Types.{Number, width, half, Plain, Ty, t_list_view, t_dense, t_dictionary}
use Rattle.columnar.specs.Array.{item, ok, read_with}
use Rattle.columnar.specs.Dictionary.{entry_at}
use Rattle.columnar.specs.Wider.{integer, Declared}
use Rattle.columnar.specs.Reading.{Column, read, Source}
use Rattle.columnar.proofs.Items.{item_cut}
use Rattle.columnar.proofs.WiderKinds.{declares}
use Rattle.anew.proofs.lists.Viewed.{entry_is}
use Rattle.anew.specs.widths.Widths.{PlainWidths, Widths, s_list_view, s_dense, s_dictionary}
use Rattle.anew.specs.widths.Converted.{column_as}
use Rattle.anew.specs.widths.Fitting.{Demand, needs, AllFit, numbers_of, numbers_in, numbers}
use Rattle.anew.proofs.widths.Fits.{all_left, all_right, seg_fits, gather_one}
use Rattle.anew.proofs.widths.Cut.{cut}
use Rattle.anew.proofs.widths.Node.{node}
use Rattle.anew.proofs.widths.Unions.{kid_is, kid_fits}
use Rattle.anew.proofs.widths.Keys.{valid_key, null_key, entry_read}
use Rattle.anew.proofs.widths.Types.{made}

-- "A LIST-VIEW .. KEEPS ITS CHILDREN'S ROWS, OFFSETS, SIZES": null rows included
module _ (w w' : ℕ) (t t' : Ty) (d : Widths t t') (x : Column (t_list_view w t)) (s : Source (t_list_view w t) x) (fit : AllFit (numbers (t_list_view w t) (t_list_view w' t') (s_list_view w w' t t' d) x)) where
  abbrev result : Column (t_list_view w' t')
  result = column_as (t_list_view w t) (t_list_view w' t') (s_list_view w w' t t' d) x 0 x.len

  abbrev rest : List Demand
  rest = numbers_of (numbers_in d) x.body.child 0 x.body.child.len

  after_offsets : AllFit (needs 6 (half w') (seg (item w x.body.sizes) (x.off + 0) x.len) ++ rest)
  after_offsets = all_right (needs 6 (half w') (seg (item w x.body.offsets) (x.off + 0) x.len)) (needs 6 (half w') (seg (item w x.body.sizes) (x.off + 0) x.len) ++ rest) fit

  pub kept_offset : (i : ℕ) → i < x.len → item w' result.body.offsets i ≡ item w x.body.offsets (x.off + i)
  kept_offset i q =
      entry_is w' (item w x.body.offsets) (x.off + 0) x.len i q
      (seg_fits 6 (half w') (item w x.body.offsets) (x.off + 0) x.len
      (all_left (needs 6 (half w') (seg (item w x.body.offsets) (x.off + 0) x.len)) (needs 6 (half w') (seg (item w x.body.sizes) (x.off + 0) x.len) ++ rest) fit) i q)
      ∙ rw add-zero

  pub kept_size : (i : ℕ) → i < x.len → item w' result.body.sizes i ≡ item w x.body.sizes (x.off + i)
  kept_size i q =
      entry_is w' (item w x.body.sizes) (x.off + 0) x.len i q
      (seg_fits 6 (half w') (item w x.body.sizes) (x.off + 0) x.len (all_left (needs 6 (half w') (seg (item w x.body.sizes) (x.off + 0) x.len)) rest after_offsets) i q)
      ∙ rw add-zero

  pub kept_length : result.body.child.len ≡ x.body.child.len
  kept_length = refl

  pub kept_row : (j : ℕ) → j < x.body.child.len → read t' result.body.child j ≡ read t x.body.child j
  kept_row j q =
      (node t t' d (made t t' d) x.body.child s.slots.child_rule 0 x.body.child.len (omega arith)
      (all_right (needs 6 (half w') (seg (item w x.body.sizes) (x.off + 0) x.len)) rest after_offsets)).row j q
      ∙ ap (read t x.body.child) (zero-add j)

-- ".. OR DENSE UNION KEEPS ITS CHILDREN'S ROWS .. AND POSITIONS"
module _ (ids : List ℕ) (nullable nullable' : ℕ → Bool) (f f' : ℕ → Ty) (flags : (c : ℕ) → Declared ids c → nullable c ≡ nullable' c) (d : (c : ℕ) → Declared ids c → Widths (f c) (f' c))
    (x : Column (t_dense ids nullable f)) (s : Source (t_dense ids nullable f) x)
    (fit : AllFit (numbers (t_dense ids nullable f) (t_dense ids nullable' f') (s_dense ids nullable nullable' f f' flags d) x)) where
  abbrev dense : Column (t_dense ids nullable' f')
  dense = column_as (t_dense ids nullable f) (t_dense ids nullable' f') (s_dense ids nullable nullable' f f' flags d) x 0 x.len

  pub kept_position : (i : ℕ) → i < x.len → item 4 dense.body.positions i ≡ item 4 x.body.positions (x.off + i)
  kept_position i q = item_cut 4 (x.off + 0) x.len x.body.positions i q ∙ rw add-zero

  kid : (c : ℕ) (m : Memᴰ c ids) → dense.body.children c ≡ column_as (f c) (f' c) (d c (declares c ids m)) (x.body.children c) 0 (x.body.children c).len
  kid = kid_is ids f f' d x.body.children (λ c. 0) (λ c. (x.body.children c).len)

  pub kept_child_length : (c : ℕ) → Memᴰ c ids → (dense.body.children c).len ≡ (x.body.children c).len
  kept_child_length c m = ap (λ (y : Column (f' c)). y.len) (kid c m)

  pub kept_child_row : (c : ℕ) → Memᴰ c ids → (j : ℕ) → j < (x.body.children c).len → read (f' c) (dense.body.children c) j ≡ read (f c) (x.body.children c) j
  kept_child_row c m j q =
      ap (λ (y : Column (f' c)). read (f' c) y j) (kid c m)
      ∙ (node (f c) (f' c) (d c (declares c ids m)) (made (f c) (f' c) (d c (declares c ids m))) (x.body.children c) (s.slots.child_rule c m) 0 (x.body.children c).len (omega arith)
      (kid_fits ids f f' d x.body.children (λ c. 0) (λ c. (x.body.children c).len) c m (gather_one ids _ fit c m))).row j q
      ∙ ap (read (f c) (x.body.children c)) (zero-add j)

-- "KEYS UNDER NULLS BECOME 0 AND ALL ENTRIES ARE COPIED"
module _ (k k' : Number) (p p' : Plain) (i : T (integer k)) (i' : T (integer k')) (d : PlainWidths p p') (x : Column (t_dictionary k p)) (s : Source (t_dictionary k p) x)
    (fit : AllFit (numbers (t_dictionary k p) (t_dictionary k' p') (s_dictionary k k' p p' i i' d) x)) where
  abbrev keyed : Column (t_dictionary k' p')
  keyed = column_as (t_dictionary k p) (t_dictionary k' p') (s_dictionary k k' p p' i i' d) x 0 x.len

  within : (j : ℕ) → j < x.len → T (ok x.valid (x.off + 0 + j)) → item (width k) x.body.keys (x.off + 0 + j) < x.body.values.len
  within = (cut (t_dictionary k p) (ok x.valid) x.body x.off x.len 0 x.len (omega arith) s.slots).within

  pub same_keys : (j : ℕ) → j < x.len → ok x.valid (x.off + j) ≡ true → item (width k') keyed.body.keys j ≡ item (width k) x.body.keys (x.off + j)
  same_keys j q e = valid_key k k' (ok x.valid) x.body.keys (x.off + 0) x.len x.body.values.len within fit.0 j q (rw add-zero e) ∙ rw add-zero

  pub null_keys : (j : ℕ) → j < x.len → ok x.valid (x.off + j) ≡ false → item (width k') keyed.body.keys j ≡ 0
  null_keys j q e = null_key k k' (ok x.valid) x.body.keys (x.off + 0) x.len x.body.values.len within fit.0 j q (rw add-zero e)

  pub all_entries : keyed.body.values.len ≡ x.body.values.len
  all_entries = refl

  pub same_entry : (j : ℕ) → j < x.body.values.len → read_with (entry_at p') keyed.body.values j ≡ read_with (entry_at p) x.body.values j
  same_entry j q = entry_read p p' d x.body.values s.slots.child_rule fit.1 j q
