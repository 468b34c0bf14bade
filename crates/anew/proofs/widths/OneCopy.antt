-- In the same widths a result is the finished array of one copy of the column's rows. Assumes nothing.
use mathlib.Core.Path.{◌≡◌, refl, sym, ap, ap₂, subst, ◌∙◌}
use mathlib.Core.Logic.{◌⊎◌, inl, inr}
use mathlib.Core.Bool.{Bool, true, false, cond}
use mathlib.Core.Option.{Option, none, some}
use mathlib.Core.List.Memᴰ
use mathlib.Core.List.{List, [], ◌∷◌, ◌++◌, Memᴰ, append-nil}
use Prim.Native.Nat.{ℕ, zero, suc, ◌+◌, ◌-◌, ◌*◌, ◌≤◌, ◌<◌, min}
use native.Mathlib.Nat.{zero-add, add-zero, add_assoc}
use native.Mathlib.Omega.{arith}
use lib.ListN.{length, take, drop, get_or, length-take, length-drop, take-append-drop}
use lib.Seq.{take-add, drop-drop, get_or-drop}
use lib.Dec.{ltb, leb}
use borrow.Author.Tests.{ltb-false}
use Rattle.number.specs.Number.{encode}
use Rattle.number.proofs.Laws.{encode_number}
use Rattle.columnar.specs.Row.{seg}
use Rattle.columnar.specs.Types.{half, Plain, fixed, string, Ty, t_plain, t_view, t_list_view, t_list, t_sparse, t_dense, t_run_end, t_dictionary}
use Rattle.columnar.specs.Formed.{OffsetWidth, four, eight, FormedPlain, Formed}
use Rattle.columnar.specs.Array.{Array, item, ok, null_count_of}
use Rattle.columnar.specs.Entries.{encodes}
use Rattle.columnar.specs.Plain.{PlainBody, OffsetsRule, PlainRule}
use Rattle.columnar.specs.View.{view_of, length_of, buffer_of}
use Rattle.columnar.specs.RunEnd.{end_of}
use Rattle.columnar.specs.Reading.{Body, Column, masks, SlotRule, Source}
use Rattle.columnar.specs.Test.{member}
use Rattle.columnar.proofs.WiderKinds.{declares}
use Rattle.model.specs.Try.{Try, done, guard, after}
use Rattle.model.specs.Mutable.{Mutable, zeros, grow, validity, pack}
use Rattle.model.specs.Primitive.{new_offsets, plain_extend, plain_start, reindexed, new_views}
use Rattle.model.specs.Unions.{in_order}
use Rattle.model.specs.Transform.{Grown, Destination, extend_data, extend, freeze_data, into_builder}
use Rattle.model.proofs.CopyNone.{copy_none}
use Rattle.model.proofs.Ends.{in_order_lem, last_run}
use Rattle.model.proofs.Joined.{done_is, then_done}
use Rattle.model.proofs.ListLaw.{item_entry}
use Rattle.model.proofs.Rows.{seg_cong}
use Rattle.model.proofs.Start.{no_null_in}
use Rattle.model.proofs.TextLaw.{new_offsets_lem}
use Rattle.anew.specs.lists.Fresh.{fresh_data, fresh}
use Rattle.anew.specs.widths.Converted.{span_of, offsets_of, first_of, many_of, none_of, blank, node_as, plain_as, body_as, column_as}
use Rattle.anew.specs.widths.OneCopy.{Straight, same_plain, same, SameBody, SameColumn, ByteViews}
use Rattle.anew.proofs.widths.Fits.{picked}
use Rattle.anew.proofs.widths.Cut.{cut}
use Rattle.anew.proofs.widths.Plain.{rising, first_least, last_within}
use Rattle.model.proofs.Names.{clipped}

-- ---- validity

all_ones : (f : ℕ → Bool) (a n : ℕ) → ((i : ℕ) → i < n → f (a + i) ≡ true) → zeros (seg f a n) ≡ 0
all_ones f a zero h = refl
all_ones f a (suc n) h =
    rw (rw add-zero at (h 0 (omega arith)), all_ones f (suc a) n (λ i q. let z : suc a + i ≡ a + suc i = omega arith in rw z (h (suc i) (omega arith))))

pub valid_same : {B : Type 0} (masks : Bool) (x : Array B) (a n : ℕ) → a + n ≤ x.len
    → validity masks (grow masks (seg (ok x.valid) (x.off + a) n) (cond (ltb 0 (null_count_of x)) (some []) none)) ≡ validity masks (some (seg (ok x.valid) (x.off + a) n))
valid_same masks x a n q = go masks (ltb 0 (null_count_of x)) refl
  where
    vs : List Bool
    vs = seg (ok x.valid) (x.off + a) n

    dropped : (z : ℕ) → z ≡ 0 → ◌≡◌ {A = Option (List ℕ)} none (elim z [ zero ↦ none | suc c ↦ some (pack vs) ])
    dropped zero e = refl
    dropped (suc c) e = absurd (omega arith)

    go : (m keep : Bool) → ltb 0 (null_count_of x) ≡ keep → validity m (grow m (seg (ok x.valid) (x.off + a) n) (cond keep (some []) none)) ≡ validity m (some (seg (ok x.valid) (x.off + a) n))
    go true true e = refl
    go false true e = refl
    go false false e = refl
    go true false e =
        dropped (zeros vs)
        (all_ones (ok x.valid) (x.off + a) n
        (λ i r. rw add_assoc (no_null_in (ok x.valid) x.off x.len (let z = ltb-false 0 (null_count_of x) e in omega (arith, z)) (a + i) (omega arith))))

-- ---- offsets

pub half_pos : {w : ℕ} → OffsetWidth w → 0 < half w
half_pos four = omega arith
half_pos eight = omega arith

guard_is : {A : Type 0} (b : Bool) (g : ℕ) (x y : A) → guard b g (done x) ≡ done y → x ≡ y
guard_is true g x y e = done_is e
guard_is false g x y e = absurd (let z : ◌≡◌ {A = ℕ} 0 1 = cc in omega arith)

pub guard_done : {A : Type 0} (b : Bool) (g : ℕ) (t : Try A) (x : A) → guard b g t ≡ done x → t ≡ done x
guard_done true g t x e = e
guard_done false g t x e = absurd (let z : ◌≡◌ {A = ℕ} 0 1 = cc in omega arith)

pub offsets_once : (w : ℕ) (os : List ℕ) (most s n : ℕ) → OffsetWidth w → OffsetsRule w os most s n → (new : List ℕ) → new_offsets w os s n (item w (encode w 0) 0) ≡ done new
    → encode w 0 ++ new ≡ encodes w (offsets_of w os s n)
offsets_once w os most s n g h new e =
    let o : ℕ → ℕ = item w os in
    let z : item w (encode w 0) 0 ≡ 0 = item_entry w 0 (half_pos g) in
    let l : encodes w (seg (λ i. 0 + (o (s + i) - o s)) 1 n) ≡ new
    = guard_is (ltb (0 + (o (s + n) - o s)) (half w)) 6 _ new (sym (new_offsets_lem w os s n 0 (rising w os most s n h) (half_pos g)) ∙ ap (new_offsets w os s n) (sym z) ∙ e) in
    ap₂ (λ x y. encode w x ++ y) (let y : 0 ≡ o s - o s = omega arith in y)
    (sym l ∙ ap (encodes w) (seg_cong (λ i. 0 + (o (s + i) - o s)) (λ i. o i - o s) 1 (suc s) n
    (λ i q. let y : s + (1 + i) ≡ suc s + i = omega arith in zero-add _ ∙ ap (λ j. o j - o s) y)))

-- ---- views

reindexed_none : (v : List ℕ) → length v ≡ 16 → ((i : ℕ) → get_or v i 0 < 256) → reindexed 0 v ≡ v
unfolding reindexed
reindexed_none v l h = go (leb (length_of v) 12)
  where
    go : (b : Bool) → cond b v (take 8 v ++ encode 4 (buffer_of v + 0) ++ drop 12 v) ≡ v
    go true = refl
    go false =
        rw (add-zero, encode_number 4 (drop 8 v) (rw length-drop (omega arith)) (λ i. rw get_or-drop (h (8 + i))), ← take-add 8 4 v) (take-append-drop 12 v)

bytes_take : (n : ℕ) (l : List ℕ) → ((i : ℕ) → get_or l i 0 < 256) → (i : ℕ) → get_or (take n l) i 0 < 256
bytes_take zero l h i = omega arith
bytes_take (suc n) [] h i = omega arith
bytes_take (suc n) (x ∷ l) h zero = h 0
bytes_take (suc n) (x ∷ l) h (suc i) = bytes_take n l (λ j. h (suc j)) i

pub views_once : (v : List ℕ) (n s : ℕ) → (s + n) * 16 ≤ length v → ((i : ℕ) → get_or v i 0 < 256) → new_views 0 v s n ≡ take (n * 16) (drop (s * 16) v)
views_once v zero s q h = refl
views_once v (suc n) s q h =
    let z : suc n * 16 ≡ 16 + n * 16 = omega arith in
    let y : s * 16 + 16 ≡ suc s * 16 = omega arith in
    rw (z, take-add, drop-drop, y)
    (ap₂ ◌++◌
    (reindexed_none (view_of v s) (simp (length-take, length-drop) (omega arith)) (bytes_take 16 (drop (s * 16) v) (λ i. rw get_or-drop (h (s * 16 + i)))))
    (views_once v n (suc s) (omega arith) h))

-- ---- children in order

pub record Each {D : ℕ → Type 0} {A : Type 0} (f : (c : ℕ) → Try (Mutable (D c))) (ids : List ℕ) (x y : A) : Type 0 where
  pub same_answer : x ≡ y
  pub done_with : (c : ℕ) → Memᴰ c ids → (z : Mutable (D c)) × (f c ≡ done z)

pub each : {D : ℕ → Type 0} {A : Type 0} (f : (c : ℕ) → Try (Mutable (D c))) (ids : List ℕ) (x y : A) → in_order f ids x ≡ done y → Each f ids x y
each f [] x y e = record { same_answer = done_is e; done_with = λ c m. absurd (Memᴰ.not-nil m) }
each {D} f (c ∷ cs) x y e =
    let r = then_done (f c) (λ z. in_order f cs x) y e in
    let k = each f cs x y r.1.1 in
    record { same_answer = k.same_answer; done_with = λ b m. go b (Memᴰ.cases_cons m) (r.0, r.1.0) (k.done_with b) }
  where
    go : (b : ℕ) → (b ≡ c) ⊎ Memᴰ b cs → (z : Mutable (D c)) × (f c ≡ done z) → (Memᴰ b cs → (z : Mutable (D b)) × (f b ≡ done z)) → (z : Mutable (D b)) × (f b ≡ done z)
    go b (inl e) p q = subst (λ a. (z : Mutable (D a)) × (f a ≡ done z)) (sym e) p
    go b (inr m) p q = q m

-- ---- run ends

pub clipped_once : (w : ℕ) (e : ℕ → ℕ) (a b n k : ℕ) → clipped w e a b 0 k n ≡ encodes w (seg (λ j. min (e j) b - a) k n)
clipped_once w e a b zero k = refl
clipped_once w e a b (suc n) k = ap₂ (λ x y. encode w x ++ y) (zero-add _) (clipped_once w e a b n (suc k))

-- ---- a node

abbrev Copied : (t : Ty) → Straight t → Type 0
Copied t st =
    (okay : ℕ → Bool) (b : Body t) (s n : ℕ) → SlotRule t okay b s n → ByteViews t b → (e : Grown t) → extend_data t 1 (λ i. b) 0 s n 0 (fresh_data t b) ≡ done e
    → SameBody t (freeze_data t 1 (λ i. b) e) (body_as (same t st) okay b s n)

node_once : (t : Ty) (st : Straight t) → Copied t st → (x : Column t) → Source t x → ByteViews t x.body → (a n : ℕ) → a + n ≤ x.len → (e : Destination t) → extend t 1 (λ j. x) 0 a n (fresh t x) ≡ done e
    → SameColumn t (into_builder t 1 (λ j. x) e) (column_as t t (same t st) x a n)
node_once t st f x s v a n q e h =
    let r = then_done (extend_data t 1 (λ i. x.body) 0 (x.off + a) n 0 (fresh_data t x.body)) _ e h in
    subst (λ (y : Destination t). SameColumn t (into_builder t 1 (λ j. x) y) (column_as t t (same t st) x a n)) (done_is r.1.1)
    (record {
      same_len = zero-add n;
      same_off = refl;
      same_valid = valid_same (masks t) x a n q;
      same_body = f (ok x.valid) x.body (x.off + a) n (cut t (ok x.valid) x.body x.off x.len a n q s.slots) v r.0 r.1.0;
    })

-- ---- every type

pub plain_once : (p : Plain) → FormedPlain p → (okay : ℕ → Bool) (b : PlainBody p) (s n : ℕ) → PlainRule p okay b s n → (e : PlainBody p) → plain_extend p b s n 0 (plain_start p) ≡ done e
    → e ≡ plain_as (same_plain p) okay b s n
plain_once (fixed k) g okay b s n h e r = sym (done_is r)
plain_once (string w) g okay b s n h e r =
    let q = then_done (new_offsets w b.offsets s n (item w (encode w 0) 0)) _ e r in
    sym (done_is q.1.1)
    ∙ ap (λ os. record { offsets = os; chars = take (span_of w b.offsets s n) (drop (item w b.offsets s) b.chars) })
    (offsets_once w b.offsets (length b.chars) s n g h q.0 q.1.0)

once : (t : Ty) (st : Straight t) → Formed t → Copied t st
once (t_plain p) st g okay b s n h v e r = plain_once p g okay b s n h e r
once t_view st g okay b s n h v e r = (sym (done_is r) ∙ views_once b.views n s h.hold v, refl)
once (t_list_view w t) st g okay b s n h v e r = absurd st
once (t_list w t) st g okay b s zero h v e r =
    let o : ℕ → ℕ = item w b.offsets in
    let z : span_of w b.offsets s 0 ≡ 0 = rw add-zero (omega arith) in
    subst (λ (y : Grown (t_list w t)). SameBody (t_list w t) (freeze_data (t_list w t) 1 (λ i. b) y) (body_as (same (t_list w t) st) okay b s 0)) (done_is r) (
      ap (encode w) (let y : 0 ≡ o s - o s = omega arith in y) ∙ sym (append-nil _),
      node_once t st (once t st g.1) b.child h.child_rule v (o s) (span_of w b.offsets s 0)
          (omega (arith, first_least w b.offsets b.child.len s 0 h.offsets_rule_lem 0 (omega arith), last_within w b.offsets b.child.len s 0 h.offsets_rule_lem)) (fresh t b.child)
          (ap (λ m. extend t 1 (λ j. b.child) 0 (o s) m (fresh t b.child)) z ∙ copy_none t 1 (λ j. b.child) 0 (o s) (fresh t b.child)),
    )
once (t_list w t) st g okay b s (suc n) h v e r =
    let o : ℕ → ℕ = item w b.offsets in
    let p = then_done (new_offsets w b.offsets s (suc n) (item w (encode w 0) 0)) _ e r in
    let q = then_done (extend t 1 (λ j. b.child) 0 (o s) (span_of w b.offsets s (suc n)) (fresh t b.child)) _ e p.1.1 in
    subst (λ (y : Grown (t_list w t)). SameBody (t_list w t) (freeze_data (t_list w t) 1 (λ i. b) y) (body_as (same (t_list w t) st) okay b s (suc n))) (done_is q.1.1) (
      offsets_once w b.offsets b.child.len s (suc n) g.0 h.offsets_rule_lem p.0 p.1.0,
      node_once t st (once t st g.1) b.child h.child_rule v (o s) (span_of w b.offsets s (suc n))
          (omega (arith, first_least w b.offsets b.child.len s (suc n) h.offsets_rule_lem (suc n) (omega arith), last_within w b.offsets b.child.len s (suc n) h.offsets_rule_lem)) q.0 q.1.0,
    )
once (t_sparse ids nullable f) st g okay b s n h v e r =
    let k = each kid ids _ e r in
    subst (λ (y : Grown (t_sparse ids nullable f)). SameBody (t_sparse ids nullable f) (freeze_data (t_sparse ids nullable f) 1 (λ i. b) y) (body_as (same (t_sparse ids nullable f) st) okay b s n)) k.same_answer
    (refl, λ c m. child c m (once (f c) (st c (declares c ids m)) (g.1 c m)) (k.done_with c m))
  where
    kid : (c : ℕ) → Try (Destination (f c))
    kid c = extend (f c) 1 (λ i. b.children c) 0 s n (fresh (f c) (b.children c))

    child : (c : ℕ) (m : Memᴰ c ids) → Copied (f c) (st c (declares c ids m)) → (z : Destination (f c)) × (extend (f c) 1 (λ i. b.children c) 0 s n (fresh (f c) (b.children c)) ≡ done z)
        → SameColumn (f c) (into_builder (f c) 1 (λ i. b.children c) (after (extend (f c) 1 (λ i. b.children c) 0 s n (fresh (f c) (b.children c))) (fresh (f c) (b.children c))))
        ((body_as (same (t_sparse ids nullable f) st) okay b s n).children c)
    child c m below z =
        let y = declares c ids m in
        subst (λ (q : Destination (f c)). SameColumn (f c) (into_builder (f c) 1 (λ i. b.children c) q) ((body_as (same (t_sparse ids nullable f) st) okay b s n).children c))
        (ap (λ a. after a (fresh (f c) (b.children c))) (sym z.1))
        (subst (SameColumn (f c) (into_builder (f c) 1 (λ i. b.children c) z.0))
        (sym (picked (member c ids) (λ m. node_as (masks (f c)) (body_as (same (f c) (st c m))) (b.children c) s n) (none_of (blank (f c))) y))
        (node_once (f c) (st c y) below (b.children c) (h.child_rule c m) (v c m) s n (h.long c m) z.0 z.1))
once (t_dense ids nullable f) st g okay b s n h v e r = absurd st
once (t_run_end w t) st g okay b s zero h v e r =
    subst (λ (y : Grown (t_run_end w t)). SameBody (t_run_end w t) (freeze_data (t_run_end w t) 1 (λ i. b) y) (body_as (same (t_run_end w t) st) okay b s 0)) (done_is r) (
      refl,
      node_once t st (once t st g.1) b.values h.child_rule v 0 0 (omega arith) (fresh t b.values) (copy_none t 1 (λ j. b.values) 0 0 (fresh t b.values)),
    )
once (t_run_end w t) st g okay b s (suc n) h v e r =
    let q = then_done (extend t 1 (λ j. b.values) 0 (first_of w b s (suc n)) (many_of w b s (suc n)) (fresh t b.values)) _ e (guard_done (ltb (0 + suc n) (half w)) 7 _ e r) in
    subst (λ (y : Grown (t_run_end w t)). SameBody (t_run_end w t) (freeze_data (t_run_end w t) 1 (λ i. b) y) (body_as (same (t_run_end w t) st) okay b s (suc n))) (done_is q.1.1) (
      ap₂ (λ l d. record { len = l; off = 0; valid = none; body = d }) (zero-add (many_of w b s (suc n))) (clipped_once w (end_of w b.ends) s (s + suc n) (many_of w b s (suc n)) (first_of w b s (suc n))),
      node_once t st (once t st g.1) b.values h.child_rule v (first_of w b s (suc n)) (many_of w b s (suc n))
          (omega (
            arith,
            h.as_many,
            in_order_lem (end_of w b.ends) b.ends.len s (suc n) h.rises (omega arith) h.covers,
            last_run (end_of w b.ends) b.ends.len s (suc n) h.rises (omega arith) h.covers,
          ))
          q.0 q.1.0,
    )
once (t_dictionary k p) st g okay b s n h v e r = absurd st

-- THE RESULT IS WHAT ONE COPY OF THE ROWS IS FINISHED TO
pub one_copy : (t : Ty) (st : Straight t) (x : Column t) → Formed t → Source t x → ByteViews t x.body → (e : Destination t) → extend t 1 (λ j. x) 0 0 x.len (fresh t x) ≡ done e
    → SameColumn t (into_builder t 1 (λ j. x) e) (column_as t t (same t st) x 0 x.len)
one_copy t st x g s v e h = node_once t st (once t st g) x s v 0 x.len (omega arith) e h
