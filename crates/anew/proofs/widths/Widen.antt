-- A column that obeys the rules can be stored wider. Assumes nothing.
use mathlib.Core.Path.{◌≡◌}
use mathlib.Core.Bool.{Bool, true, false}
use mathlib.Core.List.{List, [], ◌++◌}
use Prim.Native.Nat.{ℕ, zero, suc, ◌+◌, ◌-◌, ◌≤◌, ◌<◌, min}
use native.Mathlib.Omega.{arith}
use lib.ListN.{length}
use lib.Dec.{T}
use Rattle.columnar.specs.Row.{seg}
use Rattle.columnar.specs.Types.{half, Plain, Ty}
use Rattle.columnar.specs.Formed.{OffsetWidth, four, eight, FormedPlain, Formed}
use Rattle.columnar.specs.Array.{item, ok}
use Rattle.columnar.specs.Plain.{PlainBody, OffsetsRule, empty, full, PlainRule}
use Rattle.columnar.specs.RunEnd.{end_of, start_of}
use Rattle.columnar.specs.Reading.{Body, Column, SlotRule, Source}
use Rattle.columnar.specs.Test.{member}
use Rattle.columnar.proofs.Items.{item_past}
use Rattle.columnar.proofs.Kept.{half_mono}
use Rattle.columnar.proofs.Test.{member_agrees}
use Rattle.model.proofs.Ends.{in_order_lem, last_run}
use Rattle.anew.specs.widths.Widths.{PlainWidths, s_fixed, s_string, Widths, s_plain, s_view, s_list_view, s_list, s_sparse, s_dense, s_run_end, s_dictionary}
use Rattle.anew.specs.widths.Converted.{span_of, first_of, many_of, pick}
use Rattle.anew.specs.widths.Fitting.{Demand, needs, AllFit, numbers_of, plain_numbers, numbers_in}
use Rattle.anew.specs.widths.Back.{PlainWidening, Widening, KeysFit}
use Rattle.anew.proofs.widths.Fits.{fits_seg, seg_then, gather_all}
use Rattle.anew.proofs.widths.Cut.{cut_plain, cut}
use Rattle.anew.proofs.widths.Plain.{first_least, last_within}

pub pick_fits : (b : Bool) (f : T b → List Demand) → ((m : T b) → AllFit (f m)) → AllFit (pick b f [])
pick_fits true f h = h tt
pick_fits false f h = tt

half_pos : {w : ℕ} → OffsetWidth w → 0 < half w
half_pos four = omega arith
half_pos eight = omega arith

-- offsets less the first of them are numbers of their own width
pub offsets_small : (w : ℕ) (os : List ℕ) (most s n : ℕ) → OffsetWidth w → OffsetsRule w os most s n → (i : ℕ) → i ≤ n → item w os (s + i) - item w os s < half w
offsets_small w os most s n g (empty e f) i q =
    let z : item w os (s + i) ≡ 0 = rw f (item_past w [] (s + i) (omega arith)) in omega (arith, half_pos g)
offsets_small w os most s n g (full h) i q = omega (arith, h.positive i q)

-- a stretch of rows that runs cover is shorter than their ends can tell
pub rows_small : (w c s n : ℕ) (e : ℕ → ℕ) → ((k : ℕ) → k < c → e k < half w) → s + suc n ≤ start_of e c → suc n < half w
rows_small w zero s n e h q = absurd (omega arith)
rows_small w (suc c) s n e h q = omega (arith, h c (omega arith))

pub widen_plain_lem : (p p' : Plain) (d : PlainWidths p p') → PlainWidening d → FormedPlain p → (okay : ℕ → Bool) (b : PlainBody p) (s n : ℕ) → PlainRule p okay b s n → AllFit (plain_numbers d b s n)
widen_plain_lem p p' (s_fixed k) ww g okay b s n h = tt
widen_plain_lem p p' (s_string w w') ww g okay b s n h =
    fits_seg 6 (half w') (λ i. item w b.offsets i - item w b.offsets s) s (suc n)
    (λ i q. omega (arith, offsets_small w b.offsets (length b.chars) s n g h i (omega arith), half_mono ww))

-- the numbers of a stretch fit
abbrev pub Fits : (t t' : Ty) → Widths t t' → Type 0
Fits t t' d = (okay : ℕ → Bool) (b : Body t) (s n : ℕ) → SlotRule t okay b s n → KeysFit t b → AllFit (numbers_in d b s n)

pub node_fits_lem : (t t' : Ty) (d : Widths t t') → Fits t t' d → (x : Column t) → Source t x → KeysFit t x.body → (a n : ℕ) → a + n ≤ x.len → AllFit (numbers_of (numbers_in d) x a n)
node_fits_lem t t' d f x s k a n q = f (ok x.valid) x.body (x.off + a) n (cut t (ok x.valid) x.body x.off x.len a n q s.slots) k

pub widen : (t t' : Ty) (d : Widths t t') → Widening d → Formed t → Fits t t' d
widen t t' (s_plain p p' d) ww g okay b s n h k = widen_plain_lem p p' d ww g okay b s n h
widen t t' s_view ww g okay b s n h k = tt
widen t t' (s_list_view w w' u u' d) ww g okay b s n h k =
    let kid = numbers_of (numbers_in d) b.child 0 b.child.len in
    seg_then 6 (half w') (item w b.offsets) s n (needs 6 (half w') (seg (item w b.sizes) s n) ++ kid) (λ i q. omega (arith, (h.entries i q).offset, half_mono ww.0))
    (seg_then 6 (half w') (item w b.sizes) s n kid (λ i q. omega (arith, (h.entries i q).size, half_mono ww.0))
    (node_fits_lem u u' d (widen u u' d ww.1 g.1) b.child h.child_rule k 0 b.child.len (omega arith)))
widen t t' (s_list w w' u u' d) ww g okay b s n h k =
    seg_then 6 (half w') (λ i. item w b.offsets i - item w b.offsets s) s (suc n) (numbers_of (numbers_in d) b.child (item w b.offsets s) (span_of w b.offsets s n))
    (λ i q. omega (arith, offsets_small w b.offsets b.child.len s n g.0 h.offsets_rule_lem i (omega arith), half_mono ww.0))
    (node_fits_lem u u' d (widen u u' d ww.1 g.1) b.child h.child_rule k (item w b.offsets s) (span_of w b.offsets s n)
    (omega (arith, first_least w b.offsets b.child.len s n h.offsets_rule_lem n (omega arith), last_within w b.offsets b.child.len s n h.offsets_rule_lem)))
widen t t' (s_sparse ids nullable nullable' f f' e d) ww g okay b s n h k =
    gather_all ids (λ c. pick (member c ids) (λ m. numbers_of (numbers_in (d c m)) (b.children c) s n) [])
    (λ c. pick_fits (member c ids) (λ m. numbers_of (numbers_in (d c m)) (b.children c) s n)
    (λ m.
    let z = (member_agrees c ids).sound m in
    node_fits_lem (f c) (f' c) (d c m) (widen (f c) (f' c) (d c m) (ww c m) (g.1 c z)) (b.children c) (h.child_rule c z) (k c z) s n (h.long c z)))
widen t t' (s_dense ids nullable nullable' f f' e d) ww g okay b s n h k =
    gather_all ids (λ c. pick (member c ids) (λ m. numbers_of (numbers_in (d c m)) (b.children c) 0 (b.children c).len) [])
    (λ c. pick_fits (member c ids) (λ m. numbers_of (numbers_in (d c m)) (b.children c) 0 (b.children c).len)
    (λ m.
    let z = (member_agrees c ids).sound m in
    node_fits_lem (f c) (f' c) (d c m) (widen (f c) (f' c) (d c m) (ww c m) (g.1 c z)) (b.children c) (h.child_rule c z) (k c z) 0 (b.children c).len (omega arith)))
widen t t' (s_run_end w w' u u' d) ww g okay b s zero h k = node_fits_lem u u' d (widen u u' d ww.1 g.1) b.values h.child_rule k 0 0 (omega arith)
widen t t' (s_run_end w w' u u' d) ww g okay b s (suc n) h k =
    let small = rows_small w b.ends.len s n (end_of w b.ends) h.positive h.covers in
    seg_then 7 (half w') (λ k. min (end_of w b.ends k) (s + suc n) - s) (first_of w b s (suc n)) (many_of w b s (suc n))
    (numbers_of (numbers_in d) b.values (first_of w b s (suc n)) (many_of w b s (suc n))) (λ i q. omega (arith, small, half_mono ww.0))
    (node_fits_lem u u' d (widen u u' d ww.1 g.1) b.values h.child_rule k (first_of w b s (suc n)) (many_of w b s (suc n))
    (omega (
      arith,
      h.as_many,
      in_order_lem (end_of w b.ends) b.ends.len s (suc n) h.rises (omega arith) h.covers,
      last_run (end_of w b.ends) b.ends.len s (suc n) h.rises (omega arith) h.covers,
    )))
widen t t' (s_dictionary x x' p p' i i' d) ww g okay b s n h k = (
  omega (arith, k, ww.0),
  widen_plain_lem p p' d ww.1 g.1 (ok b.values.valid) b.values.body (b.values.off + 0) b.values.len
      (cut_plain p (ok b.values.valid) b.values.body b.values.off b.values.len 0 b.values.len (omega arith) h.child_rule.slots),
)
