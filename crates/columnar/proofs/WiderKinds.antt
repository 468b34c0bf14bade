-- Each kind stored wider, from its children stored wider. Assumes nothing.
use mathlib.Core.Path.{◌≡◌, refl, sym, ap, ap₂, ◌∙◌}
use mathlib.Core.Bool.{Bool, true, false}
use mathlib.Core.List.{List, Memᴰ}
use Prim.Native.Nat.{ℕ, zero, suc, ◌+◌, ◌-◌, ◌*◌, ◌≤◌, ◌<◌}
use native.Mathlib.Nat.{zero-add, add_assoc}
use native.Mathlib.Omega.{arith}
use lib.ListN.{length, drop, get_or}
use lib.Dec.{T}
use Rattle.number.specs.Number.{number}
use Rattle.columnar.specs.Row.{Row, bytes, list, union, rows}
use Rattle.columnar.specs.Types.{Number, width, Plain, fixed, string}
use Rattle.columnar.specs.Array.{Array, item, ok, read_with, Obeys}
use Rattle.columnar.specs.Plain.{Text, PlainBody, value, span, plain_at, stored, OffsetsTo, OffsetsRule, empty, full, PlainRule}
use Rattle.columnar.specs.View.{shown, view_at, ViewRule}
use Rattle.columnar.specs.ListView.{list_view_at, ListViewRule}
use Rattle.columnar.specs.List.{list_at, ListRule}
use Rattle.columnar.specs.Union.{sparse_at, dense_at, SparseRule, DenseRule}
use Rattle.columnar.specs.RunEnd.{RunEnd, end_of, first_above, run_end_at, start_of, RunEndRule}
use Rattle.columnar.specs.Dictionary.{entry_at, dictionary_at, DictionaryRule}
use Rattle.columnar.specs.Wider.{Declared, KeyWider, PlainWider, w_fixed, w_string, Entries, Kept, FixedKept, OffsetsKept, entries, no_entry, TextKept, PlainKept, ViewsKept, ListViewKept, ListKept, SparseKept, DenseKept, RunEndKept, DictionaryKept}
use Rattle.columnar.proofs.Items.{number_take}
use Rattle.columnar.proofs.FirstAbove.{first_same, first_below}
use Rattle.columnar.proofs.Test.{member_agrees, offsets_rule_agrees}
use Rattle.columnar.proofs.Kept.{half_mono, seg_same, ok_kept, mask_kept, Widens, read_kept, obeys_kept}

-- ---- numbers and byte strings

-- a number is read from its stored bytes
item_stored : (n : Number) (b : List ℕ) (i : ℕ) → item (width n) b i ≡ number (width n) (stored (fixed n) b i)
unfolding item
item_stored n b i = sym (number_take (width n) (width n) (drop (i * width n) b) (omega arith))

fixed_widens : (n : Number) → Widens true true (plain_at (fixed n)) (plain_at (fixed n)) (PlainRule (fixed n)) (PlainRule (fixed n)) (FixedKept n)
fixed_widens n =
    record {
      masks_same = refl;
      at_same = λ okay b b' off len h s i q t.
          ap (value n) (item_stored n b (off + i) ∙ ap (number (width n)) (h.kept i q) ∙ sym (item_stored n b' (off + i)));
      rule_same = λ okay okay' b b' off len h o s. h.hold;
    }

span_same : (w w' : ℕ) (b b' : Text) (off len : ℕ) → OffsetsKept w w' b.offsets b'.offsets (length b'.chars) off len → b.chars ≡ b'.chars → (i : ℕ) → i < len
    → span w b (off + i) ≡ span w' b' (off + i)
span_same w w' b b' off len (entries p e) f i q =
    let z : suc (off + i) ≡ off + suc i = omega arith in
    let first : item w b.offsets (off + i) ≡ item w' b'.offsets (off + i) = e.kept i (omega arith) in
    let next : item w b.offsets (off + suc i) ≡ item w' b'.offsets (off + suc i) = e.kept (suc i) (omega arith) in
    rw (z, first, next, f)
span_same w w' b b' off len (no_entry e g r) f i q = absurd (omega arith)

module _ (w w' : ℕ) (ww : w ≤ w') where
  offsets_rule_lem : (s s' : List ℕ) (most most' off len : ℕ) → OffsetsKept w w' s s' most' off len → most ≡ most' → OffsetsRule w s most off len → OffsetsRule w' s' most' off len
  offsets_rule_lem s s' most most' off len (no_entry e g r) f (empty l x) = (offsets_rule_agrees w' s' most' off len).sound r
  offsets_rule_lem s s' most most' off len (no_entry e g r) f (full o) = (offsets_rule_agrees w' s' most' off len).sound r
  offsets_rule_lem s s' most most' off len (entries p e) f (empty l x) = absurd (omega (arith, rw x at p))
  offsets_rule_lem s s' most most' off len (entries p e) f (full o) =
      full (record {
        hold = rw add_assoc e.hold;
        positive = λ i q. rw (← e.kept i (omega arith)) (omega (arith, o.positive i q, half_mono ww));
        rises = λ i q. rw (add_assoc, ← e.kept i (omega arith), ← e.kept (i + 1) (omega arith), ← add_assoc) (o.rises i q);
        within = rw (← e.kept len (omega arith), ← f) o.within;
      })

  string_widens : Widens true true (plain_at (string w)) (plain_at (string w')) (PlainRule (string w)) (PlainRule (string w')) (TextKept w w')
  string_widens =
      record {
        masks_same = refl;
        at_same = λ okay b b' off len h s i q t. ap bytes (span_same w w' b b' off len h.same_offsets h.same_chars i q);
        rule_same = λ okay okay' b b' off len h o s. offsets_rule_lem b.offsets b'.offsets _ _ off len h.same_offsets (ap length h.same_chars) s;
      }

pub plain_widens : {p p' : Plain} (d : PlainWider p p') → Widens true true (plain_at p) (plain_at p') (PlainRule p) (PlainRule p') (PlainKept d)
plain_widens (w_fixed n) = fixed_widens n
plain_widens (w_string w w' h) = string_widens w w' h

-- the stored bytes, whether the slot is valid or not
pub stored_same : {p p' : Plain} (d : PlainWider p p') (okay : ℕ → Bool) (b : PlainBody p) (b' : PlainBody p') (off len : ℕ) → PlainKept d okay b b' off len
    → (i : ℕ) → i < len → stored p b (off + i) ≡ stored p' b' (off + i)
stored_same (w_fixed n) okay b b' off len h i q = h.kept i q
stored_same (w_string w w' ww) okay b b' off len h i q = span_same w w' b b' off len h.same_offsets h.same_chars i q

-- ---- views

pub view_widens : Widens true true view_at view_at ViewRule ViewRule ViewsKept
view_widens =
    record {
      masks_same = refl;
      at_same = λ okay b b' off len h s i q t. ap₂ (λ x y. bytes (shown x y)) h.same_buffers (h.kept i q);
      rule_same = λ okay okay' b b' off len h o s. record { hold = h.hold; good = λ i q t. rw (← h.kept i q, ← h.same_buffers) (s.good i q (rw (o i q) t)) };
    }

-- ---- list-views

module _ {P P' : Type 0} (w w' : ℕ) (ww : w ≤ w') {masks masks' : Bool} {at : P → ℕ → Row} {at' : P' → ℕ → Row}
    {rule : (ℕ → Bool) → P → ℕ → ℕ → Type 0} {rule' : (ℕ → Bool) → P' → ℕ → ℕ → Type 0} {same : (ℕ → Bool) → P → P' → ℕ → ℕ → Type 0}
    (u : Widens masks masks' at at' rule rule' same) where
  pub list_view_widens : Widens true true (list_view_at w at) (list_view_at w' at') (ListViewRule w (Obeys masks rule)) (ListViewRule w' (Obeys masks' rule')) (ListViewKept w w' (Kept same))
  list_view_widens =
      record {
        masks_same = refl;
        at_same = λ okay b b' off len h s i q t.
            rw (← h.same_offsets.kept i q, ← h.same_sizes.kept i q)
            (ap (λ r. list (rows r)) (seg_same (read_with at b.child) (read_with at' b'.child) (item w b.offsets (off + i)) (item w b.sizes (off + i))
            (λ j y. read_kept u h.same_child_lem s.child_rule (item w b.offsets (off + i) + j) (omega (arith, (s.entries i q).within)))));
        rule_same = λ okay okay' b b' off len h o s.
            record {
              hold_offsets = h.same_offsets.hold;
              hold_sizes = h.same_sizes.hold;
              entries = λ i q.
                  record {
                    offset = rw (← h.same_offsets.kept i q) (omega (arith, (s.entries i q).offset, half_mono ww));
                    size = rw (← h.same_sizes.kept i q) (omega (arith, (s.entries i q).size, half_mono ww));
                    within = rw (← h.same_offsets.kept i q, ← h.same_sizes.kept i q, ← h.same_child_lem.same_len) (s.entries i q).within;
                  };
              child_rule = obeys_kept u h.same_child_lem s.child_rule;
            };
      }

-- ---- lists

-- the two offsets of a row
offsets_same : (w w' : ℕ) (s s' : List ℕ) (most off len : ℕ) → OffsetsKept w w' s s' most off len → (i : ℕ) → i < len
    → (item w s (off + i) ≡ item w' s' (off + i)) × (item w s (suc (off + i)) ≡ item w' s' (suc (off + i)))
offsets_same w w' s s' most off len (entries p e) i q =
    let z : suc (off + i) ≡ off + suc i = omega arith in (e.kept i (omega arith), rw z (e.kept (suc i) (omega arith)))
offsets_same w w' s s' most off len (no_entry e g r) i q = absurd (omega arith)

-- the last offset is the highest
pub offsets_most : (w : ℕ) (s : List ℕ) (most off len : ℕ) → OffsetsTo w s most off len → (k i : ℕ) → i + k ≡ len → item w s (off + i) ≤ most
offsets_most w s most off len o zero i e = let z : i ≡ len = omega arith in rw z o.within
offsets_most w s most off len o (suc k) i e =
    let z : off + i + 1 ≡ off + suc i = omega arith in omega (arith, rw z at (o.rises i (omega arith)), offsets_most w s most off len o k (suc i) (omega arith))

-- where a row's stretch ends
pub row_within : (w : ℕ) (s : List ℕ) (most off len : ℕ) → OffsetsRule w s most off len → (i : ℕ) → i < len → item w s (suc (off + i)) ≤ most
row_within w s most off len (empty e x) i q = absurd (omega arith)
row_within w s most off len (full o) i q =
    let z : suc (off + i) ≡ off + suc i = omega arith in rw z (offsets_most w s most off len o (len - suc i) (suc i) (omega arith))

module _ {P P' : Type 0} (w w' : ℕ) (ww : w ≤ w') {masks masks' : Bool} {at : P → ℕ → Row} {at' : P' → ℕ → Row}
    {rule : (ℕ → Bool) → P → ℕ → ℕ → Type 0} {rule' : (ℕ → Bool) → P' → ℕ → ℕ → Type 0} {same : (ℕ → Bool) → P → P' → ℕ → ℕ → Type 0}
    (u : Widens masks masks' at at' rule rule' same) where
  pub list_widens : Widens true true (list_at w at) (list_at w' at') (ListRule w (Obeys masks rule)) (ListRule w' (Obeys masks' rule')) (ListKept w w' (Kept same))
  list_widens =
      record {
        masks_same = refl;
        at_same = λ okay b b' off len h s i q t.
            let e = offsets_same w w' b.offsets b'.offsets b'.child.len off len h.same_offsets i q in
            rw (← e.0, ← e.1)
            (ap (λ r. list (rows r))
            (seg_same (read_with at b.child) (read_with at' b'.child) (item w b.offsets (off + i)) (item w b.offsets (suc (off + i)) - item w b.offsets (off + i))
            (λ j y. read_kept u h.same_child_lem s.child_rule (item w b.offsets (off + i) + j) (omega (arith, row_within w b.offsets b.child.len off len s.offsets_rule_lem i q)))));
        rule_same = λ okay okay' b b' off len h o s.
            record {
              offsets_rule_lem = offsets_rule_lem w w' ww b.offsets b'.offsets _ _ off len h.same_offsets h.same_child_lem.same_len s.offsets_rule_lem;
              child_rule = obeys_kept u h.same_child_lem s.child_rule;
            };
      }

-- ---- run-end columns

pub ends_same : (w w' : ℕ) (x x' : Array (List ℕ)) → Kept (λ ok. Entries w w') x x' → (k : ℕ) → k < x.len → end_of w x k ≡ end_of w' x' k
ends_same w w' x x' h k q = rw (← h.same_off) (h.same_body.kept k q)

starts_same : (w w' : ℕ) (x x' : Array (List ℕ)) → Kept (λ ok. Entries w w') x x' → (k : ℕ) → k ≤ x.len → start_of (end_of w x) k ≡ start_of (end_of w' x') k
starts_same w w' x x' h zero q = refl
starts_same w w' x x' h (suc k) q = ends_same w w' x x' h k q

module _ {P P' : Type 0} (w w' : ℕ) (ww : w ≤ w') {masks masks' : Bool} {at : P → ℕ → Row} {at' : P' → ℕ → Row}
    {rule : (ℕ → Bool) → P → ℕ → ℕ → Type 0} {rule' : (ℕ → Bool) → P' → ℕ → ℕ → Type 0} {same : (ℕ → Bool) → P → P' → ℕ → ℕ → Type 0}
    (u : Widens masks masks' at at' rule rule' same) where
  run_at_lem : (b : RunEnd P) (b' : RunEnd P') (okay : ℕ → Bool) (off len : ℕ) → RunEndKept w w' (Kept same) okay b b' off len → RunEndRule w (Obeys masks rule) okay b off len
      → (i : ℕ) → i < len → run_end_at w at b (off + i) ≡ run_end_at w' at' b' (off + i)
  run_at_lem b b' okay off len h s i q =
      let g : first_above (end_of w b.ends) (off + i) 0 b.ends.len < b.ends.len
      = first_below (end_of w b.ends) (off + i) b.ends.len (omega (arith, s.covers)) in
      rw (
        ← h.same_ends.same_len,
        ← first_same (end_of w b.ends) (end_of w' b'.ends) (off + i) 0 b.ends.len (λ j y. rw zero-add (ends_same w w' b.ends b'.ends h.same_ends j y)),
      )
      (read_kept u h.same_values s.child_rule (first_above (end_of w b.ends) (off + i) 0 b.ends.len) (omega (arith, s.as_many)))

  pub run_end_widens : Widens false false (run_end_at w at) (run_end_at w' at') (RunEndRule w (Obeys masks rule)) (RunEndRule w' (Obeys masks' rule')) (RunEndKept w w' (Kept same))
  run_end_widens =
      record {
        masks_same = refl;
        at_same = λ okay b b' off len h s i q t. run_at_lem b b' okay off len h s i q;
        rule_same = λ okay okay' b b' off len h o s.
            let e = ends_same w w' b.ends b'.ends h.same_ends in
            let f = starts_same w w' b.ends b'.ends h.same_ends in
            let l : b'.ends.len ≡ b.ends.len = sym h.same_ends.same_len in
            record {
              ends_mask = mask_kept h.same_ends true s.ends_mask;
              hold = rw (← h.same_ends.same_off, l) h.same_ends.same_body.hold;
              no_nulls = λ k q. let y : k < b.ends.len = omega arith in rw (← ok_kept h.same_ends k y) (s.no_nulls k y);
              positive = λ k q. let y : k < b.ends.len = omega arith in rw (← e k y) (omega (arith, s.positive k y, half_mono ww));
              rises = λ k q. let y : k < b.ends.len = omega arith in rw (← e k y, ← f k (omega arith)) (s.rises k y);
              covers = rw (l, ← f b.ends.len (omega arith)) s.covers;
              as_many = sym h.same_values.same_len ∙ s.as_many ∙ h.same_ends.same_len;
              child_rule = obeys_kept u h.same_values s.child_rule;
            };
      }

-- ---- dictionaries

-- entries show the same
entries_widen : {p p' : Plain} (d : PlainWider p p') → Widens true true (entry_at p) (entry_at p') (PlainRule p) (PlainRule p') (PlainKept d)
entries_widen d =
    record {
      masks_same = refl;
      at_same = λ okay b b' off len h s i q t. ap bytes (stored_same d okay b b' off len h i q);
      rule_same = (plain_widens d).rule_same;
    }

module _ (k k' : Number) {p p' : Plain} (kk : KeyWider k k') (d : PlainWider p p') where
  pub dictionary_widens : Widens true true (dictionary_at k p) (dictionary_at k' p') (DictionaryRule k (Obeys true (PlainRule p))) (DictionaryRule k' (Obeys true (PlainRule p')))
      (DictionaryKept k k' (Kept (PlainKept d)))
  dictionary_widens =
      record {
        masks_same = refl;
        at_same = λ okay b b' off len h s i q t.
            rw (← h.kept i q t) (read_kept (entries_widen d) h.same_values s.child_rule (item (width k) b.keys (off + i)) (s.within i q t));
        rule_same = λ okay okay' b b' off len h o s.
            record {
              hold = h.hold;
              positive = λ i q t. let y : T (okay (off + i)) = rw (o i q) t in rw (← h.kept i q y) (omega (arith, s.positive i q y, kk.reach));
              within = λ i q t. let y : T (okay (off + i)) = rw (o i q) t in rw (← h.kept i q y, ← h.same_values.same_len) (s.within i q y);
              child_rule = obeys_kept (plain_widens d) h.same_values s.child_rule;
            };
      }

-- ---- unions

-- a member is declared
pub declares : (c : ℕ) (ids : List ℕ) → Memᴰ c ids → Declared ids c
declares c ids m = (member_agrees c ids).complete m

module _ {P P' : ℕ → Type 0} (ids : List ℕ) {masks masks' : ℕ → Bool} {at : (c : ℕ) → P c → ℕ → Row} {at' : (c : ℕ) → P' c → ℕ → Row}
    {rule : (c : ℕ) → (ℕ → Bool) → P c → ℕ → ℕ → Type 0} {rule' : (c : ℕ) → (ℕ → Bool) → P' c → ℕ → ℕ → Type 0}
    {same : (c : ℕ) → Declared ids c → (ℕ → Bool) → P c → P' c → ℕ → ℕ → Type 0}
    (u : (c : ℕ) (m : Declared ids c) → Widens (masks c) (masks' c) (at c) (at' c) (rule c) (rule' c) (same c m)) where
  pub sparse_widens : Widens false false (sparse_at at) (sparse_at at') (SparseRule ids (λ c. Obeys (masks c) (rule c))) (SparseRule ids (λ c. Obeys (masks' c) (rule' c)))
      (SparseKept (Declared ids) (λ c m. Kept (same c m)))
  sparse_widens =
      record {
        masks_same = refl;
        at_same = λ okay b b' off len h s i q t.
            let c = get_or b.ids (off + i) 0 in
            let m = s.declared i q in
            rw (← h.same_ids_lem.kept i q) (ap (union c) (read_kept (u c (declares c ids m)) (h.same_children c (declares c ids m)) (s.child_rule c m) (off + i) (omega (arith, s.long c m))));
        rule_same = λ okay okay' b b' off len h o s.
            record {
              hold = h.same_ids_lem.hold;
              declared = λ i q. rw (← h.same_ids_lem.kept i q) (s.declared i q);
              long = λ c m. rw (← (h.same_children c (declares c ids m)).same_len) (s.long c m);
              child_rule = λ c m. obeys_kept (u c (declares c ids m)) (h.same_children c (declares c ids m)) (s.child_rule c m);
            };
      }

  pub dense_widens : Widens false false (dense_at at) (dense_at at') (DenseRule ids (λ c. Obeys (masks c) (rule c))) (DenseRule ids (λ c. Obeys (masks' c) (rule' c)))
      (DenseKept (Declared ids) (λ c m. Kept (same c m)))
  dense_widens =
      record {
        masks_same = refl;
        at_same = λ okay b b' off len h s i q t.
            let c = get_or b.ids (off + i) 0 in
            let m = s.declared i q in
            rw (← h.same_ids_lem.kept i q, ← h.same_positions.kept i q)
            (ap (union c) (read_kept (u c (declares c ids m)) (h.same_children c (declares c ids m)) (s.child_rule c m) (item 4 b.positions (off + i)) (s.within i q)));
        rule_same = λ okay okay' b b' off len h o s.
            record {
              hold_ids = h.same_ids_lem.hold;
              hold_positions = h.same_positions.hold;
              declared = λ i q. rw (← h.same_ids_lem.kept i q) (s.declared i q);
              positive = λ i q. rw (← h.same_positions.kept i q) (s.positive i q);
              within = λ i q.
                  let c = get_or b.ids (off + i) 0 in
                  let m = s.declared i q in
                  rw (← h.same_ids_lem.kept i q, ← h.same_positions.kept i q, ← (h.same_children c (declares c ids m)).same_len) (s.within i q);
              child_rule = λ c m. obeys_kept (u c (declares c ids m)) (h.same_children c (declares c ids m)) (s.child_rule c m);
            };
      }
