-- A column stored wider can be narrowed back. Assumes nothing.
use mathlib.Core.Path.{◌≡◌, sym, ap, ap₂, subst, ◌∙◌}
use mathlib.Core.Bool.{Bool}
use mathlib.Core.List.{List, ◌++◌}
use Prim.Native.Nat.{ℕ, zero, suc, ◌+◌, ◌-◌, ◌≤◌, ◌<◌, min}
use native.Mathlib.Nat.{zero-add, add-zero}
use native.Mathlib.Omega.{arith}
use lib.ListN.{length}
use Rattle.columnar.specs.Row.{seg}
use Rattle.columnar.specs.Types.{half, Plain, Ty}
use Rattle.columnar.specs.Formed.{OffsetWidth, FormedPlain, Formed}
use Rattle.columnar.specs.Array.{Array, item, ok}
use Rattle.columnar.specs.Entries.{encodes}
use Rattle.columnar.specs.Plain.{PlainBody, OffsetsRule, PlainRule}
use Rattle.columnar.specs.RunEnd.{RunEnd, end_of, first_above, start_of}
use Rattle.columnar.specs.Reading.{Body, Column, masks, SlotRule, Source}
use Rattle.columnar.specs.Test.{member}
use Rattle.columnar.proofs.Kept.{half_mono}
use Rattle.columnar.proofs.Test.{member_agrees}
use Rattle.model.specs.Grounds.{first_run, run_count}
use Rattle.model.proofs.Ends.{Ends, find_is, in_order_lem}
use Rattle.anew.proofs.lists.Viewed.{entry_is}
use Rattle.anew.specs.widths.Widths.{PlainWidths, s_fixed, s_string, Widths, s_plain, s_view, s_list_view, s_list, s_sparse, s_dense, s_run_end, s_dictionary}
use Rattle.anew.specs.widths.Converted.{span_of, offsets_of, first_of, many_of, ends_of, none_of, blank, node_as, plain_as, body_as, column_as}
use Rattle.anew.specs.widths.Fitting.{Demand, needs, AllFit, numbers_of, plain_numbers, numbers_in}
use Rattle.anew.specs.widths.Back.{PlainWidening, Widening, plain_turned, turned, KeysFit}
use Rattle.anew.proofs.widths.Fits.{all_both, fits_seg, seg_then, gather_all, picked}
use Rattle.anew.proofs.widths.Cut.{cut_plain, cut}
use Rattle.anew.proofs.widths.Plain.{first_least, last_within, new_offset}
use Rattle.anew.proofs.widths.Runs.{clipped, new, ends_are, run_is, runs_in_lem}
use Rattle.anew.proofs.widths.Widen.{pick_fits, offsets_small, rows_small, widen_plain_lem}

-- ---- offsets

module _ (w w' : ℕ) (os : List ℕ) (most s n : ℕ) (g : OffsetWidth w) (h : OffsetsRule w os most s n) (fit : AllFit (needs 6 (half w') (offsets_of w os s n))) where
  abbrev made : List ℕ
  made = encodes w' (offsets_of w os s n)

  offset_is : (i : ℕ) → i ≤ n → item w' made (0 + i) ≡ item w os (s + i) - item w os s
  offset_is i q = rw zero-add (new_offset w os most s n h w' fit i q)

  pub first_none : item w' made 0 ≡ 0
  first_none = new_offset w os most s n h w' fit 0 (omega arith) ∙ rw add-zero (let z : item w os s - item w os s ≡ 0 = omega arith in z)

  pub span_same : span_of w' made 0 n ≡ span_of w os s n
  span_same = ap₂ ◌-◌ (offset_is n (omega arith)) first_none ∙ (let z : item w os (s + n) - item w os s - 0 ≡ item w os (s + n) - item w os s = omega arith in z)

  pub offsets_back : AllFit (needs 6 (half w) (offsets_of w' made 0 n))
  offsets_back =
      fits_seg 6 (half w) (λ i. item w' made i - item w' made 0) 0 (suc n)
      (λ i q. rw (offset_is i (omega arith)) (omega (arith, offsets_small w os most s n g h i (omega arith))))

narrow_plain : (p p' : Plain) (d : PlainWidths p p') → PlainWidening d → FormedPlain p → (okay : ℕ → Bool) (b : PlainBody p) (s n : ℕ) → PlainRule p okay b s n
    → AllFit (plain_numbers (plain_turned d) (plain_as d okay b s n) 0 n)
narrow_plain p p' (s_fixed k) ww g okay b s n h = tt
narrow_plain p p' (s_string w w') ww g okay b s n h =
    offsets_back w w' b.offsets (length b.chars) s n g h (widen_plain_lem p p' (s_string w w') ww g okay b s n h)

-- ---- runs

module _ (w w' : ℕ) {P Q : Type 0} (b : RunEnd P) (values : Array Q) (s n : ℕ) (rises : (k : ℕ) → k < b.ends.len → start_of (end_of w b.ends) k < end_of w b.ends k)
    (covers : s + suc n ≤ start_of (end_of w b.ends) b.ends.len) (fit : AllFit (needs 7 (half w') (ends_of w b s (suc n)))) where
  abbrev wide : RunEnd Q
  wide = record { ends = new w w' b s n rises covers fit; values = values }

  abbrev clips : ℕ → ℕ
  clips = clipped w w' b s n rises covers fit

  ends : Ends (clipped w w' b s n rises covers fit) (many_of w b s (suc n)) (suc n)
  ends = ends_are w w' b s n rises covers fit

  some_run : 0 < many_of w b s (suc n)
  some_run = omega (arith, in_order_lem (end_of w b.ends) b.ends.len s (suc n) rises (omega arith) covers)

  pub first_run_lem : first_run w' wide 0 ≡ 0
  first_run_lem =
      run_is w w' b s n rises covers fit 0 (omega arith)
      ∙ find_is clips (many_of w b s (suc n)) ends.rises 0 0 (record { is_run_lem = some_run; above = omega arith; below = ends.rises 0 some_run })

  last_of : (c : ℕ) → Ends clips c (suc n) → 0 < c → first_above clips n 0 c ≡ c - 1
  last_of zero e q = absurd (omega arith)
  last_of (suc c) e q =
      let z : suc c - 1 ≡ c = omega arith in
      rw z (find_is clips (suc c) e.rises c n (record { is_run_lem = omega arith; above = omega (arith, e.rises c (omega arith), e.covers); below = omega (arith, e.covers) }))

  pub same_count : run_count w' wide 0 (suc n) ≡ many_of w b s (suc n)
  same_count =
      let y : 0 + suc n - 1 ≡ n = omega arith in
      let last : first_run w' wide n ≡ many_of w b s (suc n) - 1
      = run_is w w' b s n rises covers fit n (omega arith) ∙ last_of (many_of w b s (suc n)) ends some_run in
      ap₂ (λ p q. suc p - q) (ap (first_run w' wide) y ∙ last) first_run_lem ∙ (let z : suc (many_of w b s (suc n) - 1) - 0 ≡ many_of w b s (suc n) = omega (arith, some_run) in z)

-- ---- every type

abbrev pub FitsBack : (t t' : Ty) → Widths t t' → Type 0
FitsBack t t' d = (okay : ℕ → Bool) (b : Body t) (s n : ℕ) → SlotRule t okay b s n → KeysFit t b → AllFit (numbers_in (turned d) (body_as d okay b s n) 0 n)

pub node_back : (t t' : Ty) (d : Widths t t') → FitsBack t t' d → (x : Column t) → Source t x → KeysFit t x.body → (a n : ℕ) → a + n ≤ x.len
    → AllFit (numbers_of (numbers_in (turned d)) (column_as t t' d x a n) 0 n)
node_back t t' d f x s k a n q = f (ok x.valid) x.body (x.off + a) n (cut t (ok x.valid) x.body x.off x.len a n q s.slots) k

pub narrow : (t t' : Ty) (d : Widths t t') → Widening d → Formed t → FitsBack t t' d
narrow t t' (s_plain p p' d) ww g okay b s n h k = narrow_plain p p' d ww g okay b s n h
narrow t t' s_view ww g okay b s n h k = tt
narrow t t' (s_list_view w w' u u' d) ww g okay b s n h k =
    seg_then 6 (half w) (item w' (encodes w' (seg (item w b.offsets) s n))) 0 n (needs 6 (half w) (seg (item w' (encodes w' (seg (item w b.sizes) s n))) 0 n) ++ below)
    (λ i q. rw (zero-add, entry_is w' (item w b.offsets) s n i q (omega (arith, (h.entries i q).offset, half_mono ww.0))) (h.entries i q).offset)
    (seg_then 6 (half w) (item w' (encodes w' (seg (item w b.sizes) s n))) 0 n below
    (λ i q. rw (zero-add, entry_is w' (item w b.sizes) s n i q (omega (arith, (h.entries i q).size, half_mono ww.0))) (h.entries i q).size)
    (node_back u u' d (narrow u u' d ww.1 g.1) b.child h.child_rule k 0 b.child.len (omega arith)))
  where
    below : List Demand
    below = numbers_of (numbers_in (turned d)) (column_as u u' d b.child 0 b.child.len) 0 b.child.len
narrow t t' (s_list w w' u u' d) ww g okay b s n h k =
    all_both (needs 6 (half w) (offsets_of w' os 0 n)) (numbers_of (numbers_in (turned d)) kid (item w' os 0) (span_of w' os 0 n))
    (offsets_back w w' b.offsets b.child.len s n g.0 h.offsets_rule_lem fit)
    (subst (λ z. AllFit (numbers_of (numbers_in (turned d)) kid z (span_of w' os 0 n))) (sym (first_none w w' b.offsets b.child.len s n g.0 h.offsets_rule_lem fit))
    (subst (λ z. AllFit (numbers_of (numbers_in (turned d)) kid 0 z)) (sym (span_same w w' b.offsets b.child.len s n g.0 h.offsets_rule_lem fit))
    (node_back u u' d (narrow u u' d ww.1 g.1) b.child h.child_rule k (item w b.offsets s) (span_of w b.offsets s n)
    (omega (arith, first_least w b.offsets b.child.len s n h.offsets_rule_lem n (omega arith), last_within w b.offsets b.child.len s n h.offsets_rule_lem)))))
  where
    os : List ℕ
    os = encodes w' (offsets_of w b.offsets s n)

    kid : Column u'
    kid = column_as u u' d b.child (item w b.offsets s) (span_of w b.offsets s n)

    fit : AllFit (needs 6 (half w') (offsets_of w b.offsets s n))
    fit =
        fits_seg 6 (half w') (λ i. item w b.offsets i - item w b.offsets s) s (suc n)
        (λ i q. omega (arith, offsets_small w b.offsets b.child.len s n g.0 h.offsets_rule_lem i (omega arith), half_mono ww.0))
narrow t t' (s_sparse ids nullable nullable' f f' e d) ww g okay b s n h k =
    gather_all ids _
    (λ c. pick_fits (member c ids) (λ m. numbers_of (numbers_in (turned (d c m))) ((body_as (s_sparse ids nullable nullable' f f' e d) okay b s n).children c) 0 n)
    (λ m.
    let z = (member_agrees c ids).sound m in
    subst (λ y. AllFit (numbers_of (numbers_in (turned (d c m))) y 0 n)) (sym (picked (member c ids) (λ m. node_as (masks (f' c)) (body_as (d c m)) (b.children c) s n) (none_of (blank (f' c))) m))
    (node_back (f c) (f' c) (d c m) (narrow (f c) (f' c) (d c m) (ww c m) (g.1 c z)) (b.children c) (h.child_rule c z) (k c z) s n (h.long c z))))
narrow t t' (s_dense ids nullable nullable' f f' e d) ww g okay b s n h k =
    gather_all ids _
    (λ c. pick_fits (member c ids) (λ m. numbers_of (numbers_in (turned (d c m))) ((body_as (s_dense ids nullable nullable' f f' e d) okay b s n).children c) 0 ((body_as (s_dense ids nullable nullable' f f' e d) okay b s n).children c).len)
    (λ m.
    let z = (member_agrees c ids).sound m in
    subst (λ (y : Column (f' c)). AllFit (numbers_of (numbers_in (turned (d c m))) y 0 y.len))
    (sym (picked (member c ids) (λ m. node_as (masks (f' c)) (body_as (d c m)) (b.children c) 0 (b.children c).len) (none_of (blank (f' c))) m))
    (node_back (f c) (f' c) (d c m) (narrow (f c) (f' c) (d c m) (ww c m) (g.1 c z)) (b.children c) (h.child_rule c z) (k c z) 0 (b.children c).len (omega arith))))
narrow t t' (s_run_end w w' u u' d) ww g okay b s zero h k = node_back u u' d (narrow u u' d ww.1 g.1) b.values h.child_rule k 0 0 (omega arith)
narrow t t' (s_run_end w w' u u' d) ww g okay b s (suc n) h k =
    seg_then 7 (half w) (λ k. min (end_of w' runs.ends k) (0 + suc n) - 0) (first_of w' runs 0 (suc n)) (many_of w' runs 0 (suc n))
    (numbers_of (numbers_in (turned d)) kid (first_of w' runs 0 (suc n)) (many_of w' runs 0 (suc n))) (λ i q. omega (arith, small))
    (subst (λ z. AllFit (numbers_of (numbers_in (turned d)) kid z (many_of w' runs 0 (suc n)))) (sym (first_run_lem w w' b kid s n h.rises h.covers own))
    (subst (λ z. AllFit (numbers_of (numbers_in (turned d)) kid 0 z)) (sym (same_count w w' b kid s n h.rises h.covers own))
    (node_back u u' d (narrow u u' d ww.1 g.1) b.values h.child_rule k (first_of w b s (suc n)) (many_of w b s (suc n)) (omega (arith, h.as_many, runs_in_lem w w' b s n h.rises h.covers own)))))
  where
    small : suc n < half w
    small = rows_small w b.ends.len s n (end_of w b.ends) h.positive h.covers

    own : AllFit (needs 7 (half w') (ends_of w b s (suc n)))
    own =
        fits_seg 7 (half w') (λ k. min (end_of w b.ends k) (s + suc n) - s) (first_of w b s (suc n)) (many_of w b s (suc n))
        (λ i q. omega (arith, rows_small w b.ends.len s n (end_of w b.ends) h.positive h.covers, half_mono ww.0))

    kid : Column u'
    kid = column_as u u' d b.values (first_of w b s (suc n)) (many_of w b s (suc n))

    runs : RunEnd (Body u')
    runs = body_as (s_run_end w w' u u' d) okay b s (suc n)
narrow t t' (s_dictionary x x' p p' i i' d) ww g okay b s n h k = (
  k,
  narrow_plain p p' d ww.1 g.1 (ok b.values.valid) b.values.body (b.values.off + 0) b.values.len
      (cut_plain p (ok b.values.valid) b.values.body b.values.off b.values.len 0 b.values.len (omega arith) h.child_rule.slots),
)
