-- A result in any widths is laid out as by one copy of the column's rows. Assumes nothing.
use mathlib.Core.Path.{◌≡◌, refl, sym, ap, ap₂, subst, ◌∙◌}
use mathlib.Core.Bool.{Bool, true, cond}
use mathlib.Core.Option.{some}
use mathlib.Core.List.{List, [], ◌++◌, Memᴰ, append-nil}
use Prim.Native.Nat.{ℕ, zero, suc, ◌+◌, ◌-◌, ◌*◌, ◌≤◌, ◌<◌, min}
use native.Mathlib.Nat.{zero-add, add-zero, zero-mul}
use native.Mathlib.Omega.{arith}
use lib.ListN.{length}
use lib.Dec.{ltb}
use Rattle.number.specs.Number.{encode}
use Rattle.columnar.specs.Row.{seg}
use Rattle.columnar.specs.Types.{width, half, Plain, fixed, string, Ty, t_plain, t_view, t_list_view, t_list, t_sparse, t_dense, t_run_end, t_dictionary}
use Rattle.columnar.specs.Formed.{OffsetWidth, FormedPlain, Formed}
use Rattle.columnar.specs.Array.{Array, item, ok}
use Rattle.columnar.specs.Entries.{encodes}
use Rattle.columnar.specs.Plain.{PlainBody, OffsetsRule, empty, full, PlainRule}
use Rattle.columnar.specs.RunEnd.{end_of}
use Rattle.columnar.specs.Wider.{Declared}
use Rattle.columnar.specs.Reading.{Body, Column, masks, SlotRule, Source}
use Rattle.columnar.specs.Test.{member}
use Rattle.columnar.proofs.Items.{length_encodes}
use Rattle.model.specs.Try.{Try, done, after}
use Rattle.model.specs.Mutable.{validity}
use Rattle.model.specs.Primitive.{new_offsets, plain_extend, plain_start}
use Rattle.model.specs.Transform.{Grown, Destination, extend_data, extend, freeze_data, into_builder}
use Rattle.model.proofs.Bits.{length_seg}
use Rattle.model.proofs.CopyNone.{copy_none}
use Rattle.model.proofs.Ends.{in_order_lem, last_run}
use Rattle.model.proofs.Joined.{done_is, then_done}
use Rattle.anew.specs.lists.Fresh.{fresh_data, fresh}
use Rattle.anew.specs.widths.Widths.{PlainWidths, s_fixed, s_string, Widths, s_plain, s_view, s_list_view, s_list, s_sparse, s_dense, s_run_end, s_dictionary}
use Rattle.anew.specs.widths.Converted.{span_of, offsets_of, first_of, many_of, ends_of, none_of, blank, node_as, plain_as, body_as, column_as}
use Rattle.anew.specs.widths.Fitting.{needs, AllFit, numbers_of, plain_numbers, numbers_in, numbers}
use Rattle.anew.specs.widths.OneCopy.{ByteViews}
use Rattle.anew.specs.widths.Layout.{SameNumbers, KeptNumbers, LaidNode, LaidPlain, LaidBody, LaidAs}
use Rattle.anew.proofs.lists.Viewed.{entry_is}
use Rattle.anew.proofs.widths.Fits.{all_left, all_right, seg_fits, gather_one, picked}
use Rattle.anew.proofs.widths.Cut.{cut}
use Rattle.anew.proofs.widths.Plain.{first_least, last_within}
use Rattle.anew.proofs.widths.Node.{same_masks}
use Rattle.anew.proofs.widths.Keys.{key_is}
use Rattle.anew.proofs.widths.OneCopy.{valid_same, half_pos, guard_done, offsets_once, views_once, Each, each, clipped_once, plain_once}

-- ---- numbers

-- the same numbers in two widths that hold them
both_widths : (w w' : ℕ) (f : ℕ → ℕ) (a m : ℕ) → ((i : ℕ) → i < m → f (a + i) < half w) → ((i : ℕ) → i < m → f (a + i) < half w') → SameNumbers w w' m (encodes w (seg f a m)) (encodes w' (seg f a m))
both_widths w w' f a m h k =
    record {
      same_number = λ i q. entry_is w' f a m i q (k i q) ∙ sym (entry_is w f a m i q (h i q));
      all_of_it = length_encodes w (seg f a m) ∙ ap (λ n. n * w) (length_seg f a m);
      no_more = length_encodes w' (seg f a m) ∙ ap (λ n. n * w') (length_seg f a m);
    }

kept_widths : (w w' : ℕ) (f : ℕ → ℕ) (a m : ℕ) → ((i : ℕ) → i < m → item w' (encodes w' (seg f a m)) i ≡ f (a + i)) → KeptNumbers w w' a m f (encodes w' (seg f a m))
kept_widths w w' f a m h = record { kept_number = h; no_more = length_encodes w' (seg f a m) ∙ ap (λ n. n * w') (length_seg f a m) }

-- an offset less the first is held by the column's own width
pub own_fits : (w : ℕ) (os : List ℕ) (most s n : ℕ) → OffsetWidth w → OffsetsRule w os most s n → (i : ℕ) → i < suc n → item w os (s + i) - item w os s < half w
own_fits w os most s n g (empty e f) i q = let z : s + i ≡ s = omega arith in rw z (omega (arith, half_pos g))
own_fits w os most s n g (full h) i q = omega (arith, h.positive i (omega arith))

offsets_laid : (w w' : ℕ) (os : List ℕ) (most s n : ℕ) → OffsetWidth w → OffsetsRule w os most s n → AllFit (needs 6 (half w') (offsets_of w os s n))
    → SameNumbers w w' (suc n) (encodes w (offsets_of w os s n)) (encodes w' (offsets_of w os s n))
offsets_laid w w' os most s n g h fit =
    both_widths w w' (λ i. item w os i - item w os s) s (suc n) (own_fits w os most s n g h) (seg_fits 6 (half w') (λ i. item w os i - item w os s) s (suc n) fit)

-- ---- numbers and byte strings

plain_laid : (p p' : Plain) (d : PlainWidths p p') → FormedPlain p → (okay : ℕ → Bool) (b : PlainBody p) (s n : ℕ) → PlainRule p okay b s n → AllFit (plain_numbers d b s n) → (e : PlainBody p) → plain_extend p b s n 0 (plain_start p) ≡ done e
    → LaidPlain d n e (plain_as d okay b s n)
plain_laid p p' (s_fixed k) g okay b s n h fit e r = sym (plain_once (fixed k) g okay b s n h e r)
plain_laid p p' (s_string w w') g okay b s n h fit e r =
    subst (λ y. LaidPlain (s_string w w') n y (plain_as (s_string w w') okay b s n)) (sym (plain_once (string w) g okay b s n h e r))
    (offsets_laid w w' b.offsets (length b.chars) s n g h fit, refl)

-- ---- a node

abbrev Laying : (t t' : Ty) → Widths t t' → Type 0
Laying t t' d =
    (okay : ℕ → Bool) (b : Body t) (s n : ℕ) → SlotRule t okay b s n → ByteViews t b → AllFit (numbers_in d b s n) → (e : Grown t) → extend_data t 1 (λ i. b) 0 s n 0 (fresh_data t b) ≡ done e
    → LaidBody d okay b s n (freeze_data t 1 (λ i. b) e) (body_as d okay b s n)

node_laid : (t t' : Ty) (d : Widths t t') → Laying t t' d → (x : Column t) → Source t x → ByteViews t x.body → (a n : ℕ) → a + n ≤ x.len → AllFit (numbers_of (numbers_in d) x a n) → LaidAs t t' d x a n (column_as t t' d x a n)
node_laid t t' d f x s v a n q fit e h =
    let r = then_done (extend_data t 1 (λ i. x.body) 0 (x.off + a) n 0 (fresh_data t x.body)) _ e h in
    subst (λ (y : Destination t). LaidNode (LaidBody d (ok x.valid) x.body (x.off + a) n) (into_builder t 1 (λ j. x) y) (column_as t t' d x a n)) (done_is r.1.1)
    (record {
      same_len = sym (zero-add n);
      same_off = refl;
      same_valid = ap (λ m. validity m (some (seg (ok x.valid) (x.off + a) n))) (sym (same_masks t t' d)) ∙ sym (valid_same (masks t) x a n q);
      same_body = f (ok x.valid) x.body (x.off + a) n (cut t (ok x.valid) x.body x.off x.len a n q s.slots) v fit r.0 r.1.0;
    })

-- ---- every type

laying : (t t' : Ty) (d : Widths t t') → Formed t → Laying t t' d
laying t t' (s_plain p p' d) g okay b s n h v fit e r = plain_laid p p' d g okay b s n h fit e r
laying t t' s_view g okay b s n h v fit e r = (sym (sym (done_is r) ∙ views_once b.views n s h.hold v), refl)
laying t t' (s_list_view w w' u u' d) g okay b s n h v fit e r =
    let offsets = needs 6 (half w') (seg (item w b.offsets) s n) in
    let sizes = needs 6 (half w') (seg (item w b.sizes) s n) in
    let rest = numbers_of (numbers_in d) b.child 0 b.child.len in
    let more = all_right offsets (sizes ++ rest) fit in (
      kept_widths w w' (item w b.offsets) s n (λ i q. entry_is w' (item w b.offsets) s n i q (seg_fits 6 (half w') (item w b.offsets) s n (all_left offsets (sizes ++ rest) fit) i q)),
      kept_widths w w' (item w b.sizes) s n (λ i q. entry_is w' (item w b.sizes) s n i q (seg_fits 6 (half w') (item w b.sizes) s n (all_left sizes rest more) i q)),
      node_laid u u' d (laying u u' d g.1) b.child h.child_rule v 0 b.child.len (omega arith) (all_right sizes rest more),
    )
laying t t' (s_list w w' u u' d) g okay b s zero h v fit e r =
    let o : ℕ → ℕ = item w b.offsets in
    let own = needs 6 (half w') (offsets_of w b.offsets s 0) in
    let rest = numbers_of (numbers_in d) b.child (o s) (span_of w b.offsets s 0) in
    let z : span_of w b.offsets s 0 ≡ 0 = rw add-zero (omega arith) in
    let y : encode w 0 ≡ encodes w (offsets_of w b.offsets s 0) = ap (encode w) (let y : 0 ≡ o s - o s = omega arith in y) ∙ sym (append-nil _) in
    subst (λ (y : Grown (t_list w u)). LaidBody (s_list w w' u u' d) okay b s 0 (freeze_data (t_list w u) 1 (λ i. b) y) (body_as (s_list w w' u u' d) okay b s 0)) (done_is r) (
      subst (λ l. SameNumbers w w' 1 l (encodes w' (offsets_of w b.offsets s 0))) (sym y) (offsets_laid w w' b.offsets b.child.len s 0 g.0 h.offsets_rule_lem (all_left own rest fit)),
      node_laid u u' d (laying u u' d g.1) b.child h.child_rule v (o s) (span_of w b.offsets s 0)
          (omega (arith, first_least w b.offsets b.child.len s 0 h.offsets_rule_lem 0 (omega arith), last_within w b.offsets b.child.len s 0 h.offsets_rule_lem)) (all_right own rest fit) (fresh u b.child)
          (ap (λ m. extend u 1 (λ j. b.child) 0 (o s) m (fresh u b.child)) z ∙ copy_none u 1 (λ j. b.child) 0 (o s) (fresh u b.child)),
    )
laying t t' (s_list w w' u u' d) g okay b s (suc n) h v fit e r =
    let o : ℕ → ℕ = item w b.offsets in
    let own = needs 6 (half w') (offsets_of w b.offsets s (suc n)) in
    let rest = numbers_of (numbers_in d) b.child (o s) (span_of w b.offsets s (suc n)) in
    let p = then_done (new_offsets w b.offsets s (suc n) (item w (encode w 0) 0)) _ e r in
    let q = then_done (extend u 1 (λ j. b.child) 0 (o s) (span_of w b.offsets s (suc n)) (fresh u b.child)) _ e p.1.1 in
    subst (λ (y : Grown (t_list w u)). LaidBody (s_list w w' u u' d) okay b s (suc n) (freeze_data (t_list w u) 1 (λ i. b) y) (body_as (s_list w w' u u' d) okay b s (suc n))) (done_is q.1.1) (
      subst (λ l. SameNumbers w w' (suc (suc n)) l (encodes w' (offsets_of w b.offsets s (suc n)))) (sym (offsets_once w b.offsets b.child.len s (suc n) g.0 h.offsets_rule_lem p.0 p.1.0))
          (offsets_laid w w' b.offsets b.child.len s (suc n) g.0 h.offsets_rule_lem (all_left own rest fit)),
      node_laid u u' d (laying u u' d g.1) b.child h.child_rule v (o s) (span_of w b.offsets s (suc n))
          (omega (arith, first_least w b.offsets b.child.len s (suc n) h.offsets_rule_lem (suc n) (omega arith), last_within w b.offsets b.child.len s (suc n) h.offsets_rule_lem)) (all_right own rest fit) q.0 q.1.0,
    )
laying t t' (s_sparse ids nullable nullable' f f' flags d) g okay b s n h v fit e r =
    let k = each kid ids _ e r in
    subst
    (λ (y : Grown (t_sparse ids nullable f)). LaidBody (s_sparse ids nullable nullable' f f' flags d) okay b s n (freeze_data (t_sparse ids nullable f) 1 (λ i. b) y) (body_as (s_sparse ids nullable nullable' f f' flags d) okay b s n))
    k.same_answer (refl, λ c i m. child c i m (laying (f c) (f' c) (d c m) (g.1 c i)) (k.done_with c i))
  where
    kid : (c : ℕ) → Try (Destination (f c))
    kid c = extend (f c) 1 (λ i. b.children c) 0 s n (fresh (f c) (b.children c))

    Related : (c : ℕ) (m : Declared ids c) → Destination (f c) → Column (f' c) → Type 0
    Related c m y z = LaidNode (LaidBody (d c m) (ok (b.children c).valid) (b.children c).body ((b.children c).off + s) n) (into_builder (f c) 1 (λ i. b.children c) y) z

    child : (c : ℕ) → Memᴰ c ids → (m : Declared ids c) → Laying (f c) (f' c) (d c m) → (z : Destination (f c)) × (extend (f c) 1 (λ i. b.children c) 0 s n (fresh (f c) (b.children c)) ≡ done z)
        → Related c m (after (extend (f c) 1 (λ i. b.children c) 0 s n (fresh (f c) (b.children c))) (fresh (f c) (b.children c))) ((body_as (s_sparse ids nullable nullable' f f' flags d) okay b s n).children c)
    child c i m below z =
        subst (λ (q : Destination (f c)). Related c m q ((body_as (s_sparse ids nullable nullable' f f' flags d) okay b s n).children c)) (ap (λ a. after a (fresh (f c) (b.children c))) (sym z.1))
        (subst (Related c m z.0) (sym (picked (member c ids) (λ m. node_as (masks (f' c)) (body_as (d c m)) (b.children c) s n) (none_of (blank (f' c))) m))
        (node_laid (f c) (f' c) (d c m) below (b.children c) (h.child_rule c i) (v c i) s n (h.long c i)
        (subst AllFit (picked (member c ids) (λ m. numbers_of (numbers_in (d c m)) (b.children c) s n) [] m) (gather_one ids _ fit c i)) z.0 z.1))
laying t t' (s_dense ids nullable nullable' f f' flags d) g okay b s n h v fit e r = (refl, refl, λ c i m. child c i m (laying (f c) (f' c) (d c m) (g.1 c i)))
  where
    child : (c : ℕ) → Memᴰ c ids → (m : Declared ids c) → Laying (f c) (f' c) (d c m)
        → LaidAs (f c) (f' c) (d c m) (b.children c) 0 (b.children c).len ((body_as (s_dense ids nullable nullable' f f' flags d) okay b s n).children c)
    child c i m below =
        subst (LaidAs (f c) (f' c) (d c m) (b.children c) 0 (b.children c).len)
        (sym (picked (member c ids) (λ m. node_as (masks (f' c)) (body_as (d c m)) (b.children c) 0 (b.children c).len) (none_of (blank (f' c))) m))
        (node_laid (f c) (f' c) (d c m) below (b.children c) (h.child_rule c i) (v c i) 0 (b.children c).len (omega arith)
        (subst AllFit (picked (member c ids) (λ m. numbers_of (numbers_in (d c m)) (b.children c) 0 (b.children c).len) [] m) (gather_one ids _ fit c i)))
laying t t' (s_run_end w w' u u' d) g okay b s zero h v fit e r =
    subst (λ (y : Grown (t_run_end w u)). LaidBody (s_run_end w w' u u' d) okay b s 0 (freeze_data (t_run_end w u) 1 (λ i. b) y) (body_as (s_run_end w w' u u' d) okay b s 0)) (done_is r) (
      record { same_len = refl; same_off = refl; same_valid = refl; same_body = record { same_number = λ i q. absurd (omega arith); all_of_it = sym (zero-mul w); no_more = sym (zero-mul w') } },
      node_laid u u' d (laying u u' d g.1) b.values h.child_rule v 0 0 (omega arith) fit (fresh u b.values) (copy_none u 1 (λ j. b.values) 0 0 (fresh u b.values)),
    )
laying t t' (s_run_end w w' u u' d) g okay b s (suc n) h v fit e r =
    let own = needs 7 (half w') (ends_of w b s (suc n)) in
    let rest = numbers_of (numbers_in d) b.values (first_of w b s (suc n)) (many_of w b s (suc n)) in
    let many = many_of w b s (suc n) in
    let from = first_of w b s (suc n) in
    let q = then_done (extend u 1 (λ j. b.values) 0 from many (fresh u b.values)) _ e (guard_done (ltb (0 + suc n) (half w)) 7 _ e r) in
    let last = last_run (end_of w b.ends) b.ends.len s (suc n) h.rises (omega arith) h.covers in
    let first = in_order_lem (end_of w b.ends) b.ends.len s (suc n) h.rises (omega arith) h.covers in
    let ends = both_widths w w' (λ k. min (end_of w b.ends k) (s + suc n) - s) from many (λ i l. omega (arith, h.positive (from + i) (omega (arith, first, last))))
    (seg_fits 7 (half w') (λ k. min (end_of w b.ends k) (s + suc n) - s) from many (all_left own rest fit)) in
    subst (λ (y : Grown (t_run_end w u)). LaidBody (s_run_end w w' u u' d) okay b s (suc n) (freeze_data (t_run_end w u) 1 (λ i. b) y) (body_as (s_run_end w w' u u' d) okay b s (suc n))) (done_is q.1.1) (
      record {
        same_len = sym (zero-add many);
        same_off = refl;
        same_valid = refl;
        same_body = subst (λ l. SameNumbers w w' many l (encodes w' (ends_of w b s (suc n)))) (sym (clipped_once w (end_of w b.ends) s (s + suc n) many from)) ends;
      },
      node_laid u u' d (laying u u' d g.1) b.values h.child_rule v from many (omega (arith, h.as_many, first, last)) (all_right own rest fit) q.0 q.1.0,
    )
laying t t' (s_dictionary k k' p p' i i' d) g okay b s n h v fit e r = (
  kept_widths (width k) (width k') (λ j. cond (okay j) (item (width k) b.keys j) 0) s n (key_is k k' okay b.keys s n b.values.len h.within fit.0),
  λ y z. entries y z,
)
  where
    entries : (y : Destination (t_plain p)) → extend (t_plain p) 1 (λ j. b.values) 0 0 b.values.len (fresh (t_plain p) b.values) ≡ done y
        → LaidNode (LaidPlain d b.values.len) (into_builder (t_plain p) 1 (λ j. b.values) y) (node_as true (plain_as d) b.values 0 b.values.len)
    entries y z =
        let a = node_laid (t_plain p) (t_plain p') (s_plain p p' d) (λ okay b s n h v fit e r. plain_laid p p' d g.1 okay b s n h fit e r) b.values h.child_rule tt 0 b.values.len (omega arith) fit.1 y z in
        record { same_len = a.same_len; same_off = a.same_off; same_valid = a.same_valid; same_body = a.same_body }

-- THE RESULT IS LAID OUT AS BY ONE COPY OF THE COLUMN'S ROWS, whatever the widths
pub laid_as : (t t' : Ty) (d : Widths t t') (x : Column t) → Formed t → Source t x → ByteViews t x.body → AllFit (numbers t t' d x) → LaidAs t t' d x 0 x.len (column_as t t' d x 0 x.len)
laid_as t t' d x g s v fit = node_laid t t' d (laying t t' d g) x s v 0 x.len (omega arith) fit
