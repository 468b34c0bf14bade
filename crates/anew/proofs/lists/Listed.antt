-- A list-view column as a list column: rows, rules, grounds, and the copies of its child. Assumes nothing.
use mathlib.Core.Path.{◌≡◌, refl, sym, ap, subst, ◌∙◌}
use mathlib.Core.Bool.{Bool, true, false}
use mathlib.Core.List.{List, ◌++◌}
use Prim.Native.Nat.{ℕ, zero, suc, ◌+◌, ◌-◌, ◌≤◌, ◌<◌}
use native.Mathlib.Nat.{zero-add, add-zero, add_assoc}
use native.Mathlib.Numerals.{add-one}
use native.Mathlib.Omega.{arith}
use lib.ListN.{length-append}
use lib.Dec.{T, ltb}
use borrow.Author.Tests.{ltb-true, le-ltb, le-leb}
use Rattle.number.specs.Number.{encode}
use Rattle.number.proofs.Laws.{length_encode}
use Rattle.columnar.specs.Row.{Row, list, rows, end, seg}
use Rattle.columnar.specs.Types.{half, Ty, t_list_view, t_list}
use Rattle.columnar.specs.Formed.{Formed}
use Rattle.columnar.specs.Array.{item}
use Rattle.columnar.specs.Plain.{full}
use Rattle.columnar.specs.List.{list_at}
use Rattle.columnar.specs.ListView.{list_view_at, Entry}
use Rattle.columnar.specs.Reading.{Body, Column, slot_at, read, read_all, Source}
use Rattle.columnar.proofs.Items.{item_left, item_last}
use Rattle.columnar.proofs.Kept.{seg_same}
use Rattle.model.specs.Try.{Try, done, stop, then, guard, map_try, steps_t}
use Rattle.model.specs.Grounds.{Counts}
use Rattle.model.specs.Lists.{Listings, lists_freeze}
use Rattle.model.specs.Transform.{Grown, Destination, extend_data, extend, into_builder}
use Rattle.model.specs.Held.{held}
use Rattle.model.specs.Book.{copy}
use Rattle.model.specs.Orders.{perform}
use Rattle.model.proofs.Agree.{Agrees, both, neither, agrees_guard, agrees_wrap}
use Rattle.model.proofs.Law.{Kind, Put, seen, Law, Fine, row_at}
use Rattle.model.proofs.Node.{node_copies, node_obeys}
use Rattle.model.proofs.Nodes.{OffsetsFine, ListsFine, lists_kind, kind_of, rows_held}
use Rattle.model.proofs.Pieces.{below_add}
use Rattle.model.proofs.Rows.{seg_cong}
use Rattle.model.proofs.Steps.{Added, below_one, Step, steps_put}
use Rattle.model.proofs.TextLaw.{steps_below}
use Rattle.model.proofs.Joined.{done_is, then_done}
use Rattle.model.proofs.Start.{start_data_lem}
use Rattle.anew.specs.lists.Laid.{laid}
use Rattle.anew.specs.lists.Fresh.{fresh, FewBuffers}
use Rattle.anew.specs.lists.Listed.{behind, kid, offset_at, size_at, valid_at, row_if, no_lists, listings, listed, ask_if, asks, sizes_if, sizes_in, order_if, orders, carried, ground_of}
use Rattle.anew.proofs.lists.Laid.{laid_mask, laid_read}
use Rattle.anew.proofs.lists.One.{one_law}
use Rattle.anew.proofs.lists.Fresh.{fresh_fine, fresh_held}

-- ---- one more offset

module _ (w : ℕ) (os : List ℕ) (most l : ℕ) (h : OffsetsFine w os most l) (next : ℕ) (rises : most ≤ next) (fits : next < half w) where
  old_at : (i : ℕ) → i ≤ l → item w (os ++ encode w next) i ≡ item w os i
  old_at i q = item_left w os (encode w next) i (suc l) (omega (arith, h.offsets_are)) (omega arith)

  new_at : item w (os ++ encode w next) (suc l) ≡ next
  new_at = item_last w os (suc l) next h.offsets_are (omega arith)

  more_fine : OffsetsFine w (os ++ encode w next) next (l + 1)
  more_fine =
      rw add-one
      (record {
        offsets_are = rw (length-append, length_encode, h.offsets_are) (omega arith);
        rises = λ i q. below_add (λ i. item w (os ++ encode w next) i ≤ item w (os ++ encode w next) (suc i)) l 1
            (λ i r. rw (old_at i (omega arith), old_at (suc i) (omega arith)) (h.rises i r))
            (below_one (λ i. item w (os ++ encode w next) (l + i) ≤ item w (os ++ encode w next) (suc (l + i))) (rw (add-zero, old_at l (omega arith), new_at, h.last_is) rises)) i (omega arith);
        last_is = new_at;
        fits = fits;
      })

-- ---- answers

agreed : {A C : Type 0} {see : A → C} {Q : A → Type 0} {t : Try A} {s : Try C} (y : A) → Agrees see Q t s → t ≡ done y → Q y
agreed {Q} y (both x q) e = subst Q (done_is e) q
agreed y (neither g) e = absurd (let z : ◌≡◌ {A = ℕ} 0 1 = cc in omega arith)

agrees_same : {A C : Type 0} {see : A → C} {Q : A → Type 0} {t : Try A} {s : Try C} → Agrees see Q t s → map_try see t ≡ s
agrees_same (both x q) = refl
agrees_same (neither g) = refl

ground_then : {A B : Type 0} (t : Try A) (f : A → B) → ground_of (then t (λ x. done (f x))) ≡ ground_of t
ground_then (done x) f = refl
ground_then (stop g) f = refl

ground_map : {A B : Type 0} (t : Try A) (f : A → B) → ground_of (map_try f t) ≡ ground_of t
ground_map (done x) f = refl
ground_map (stop g) f = refl

guard_done : {A : Type 0} (b : Bool) (g : ℕ) (t : Try A) (x : A) → guard b g t ≡ done x → t ≡ done x
guard_done true g t x e = e
guard_done false g t x e = absurd (let z : ◌≡◌ {A = ℕ} 0 1 = cc in omega arith)

-- a step that is refused behind n that are done
steps_stop : {A : Type 0} (f : ℕ → A → Try A) (n a m g : ℕ) (x y : A) → steps_t f a n x ≡ done y → f (a + n) y ≡ stop g → steps_t f a (n + suc m) x ≡ stop g
steps_stop f zero a m g x y e h =
    let z : 0 + suc m ≡ suc m = omega arith in
    rw z (ap (λ t. then t (steps_t f (suc a) m)) (ap (f a) (done_is e) ∙ rw add-zero at h))
steps_stop f (suc n) a m g x y e h =
    let r = then_done (f a x) (steps_t f (suc a) n) y e in
    let z : suc n + suc m ≡ suc (n + suc m) = omega arith in
    let u : a + suc n ≡ suc a + n = omega arith in
    rw z (ap (λ t. then t (steps_t f (suc a) (n + suc m))) r.1.0 ∙ steps_stop f n (suc a) m g r.0 y r.1.1 (rw u at h))

module _ (w : ℕ) (t : Ty) (x : Column (t_list_view w t)) (g : Formed (t_list_view w t)) (s : Source (t_list_view w t) x) (few : FewBuffers (t_list_view w t) x) where
  abbrev pub kids : ℕ → Column t
  kids = λ j. kid w t x

  abbrev pub K : Kind (Body t) (Grown t)
  K = kind_of t 1 (λ i. (kid w t x).body)

  law : Law K 1 kids
  law = one_law t (kid w t x) s.slots.child_rule few

  abbrev pub Fit : Listings (Grown t) → ℕ → Type 0
  Fit = ListsFine w (Fine K 1 kids)

  abbrev pub see : Listings (Grown t) → ℕ → Row
  see = seen (lists_kind w K 1 kids)

  abbrev pub held_kid : Listings (Grown t) → ℕ → Counts
  held_kid d l = held t d.child

  -- what row i holds: the child's rows where it is valid, else none
  abbrev pub want_if : Bool → ℕ → Row
  want_if true i = list_view_at w (slot_at t) x.body (x.off + i)
  want_if false i = list end

  abbrev pub want : ℕ → Row
  want i = want_if (valid_at w t x i) i

  want_valid : (b : Bool) (i : ℕ) → T b → want_if b i ≡ list_view_at w (slot_at t) x.body (x.off + i)
  want_valid true i v = refl
  want_valid false i v = absurd v

  -- a row behind d, over a child with more rows
  row_added : (a l : ℕ) (d : Listings (Grown t)) (c : Destination t) → Fit d l → Fine K 1 kids c → d.child.len ≤ c.len → c.len < half w
      → ((i : ℕ) → i < d.child.len → row_at K 1 kids c i ≡ row_at K 1 kids d.child i) → list (rows (seg (row_at K 1 kids c) d.child.len (c.len - d.child.len))) ≡ want a
      → Added see Fit (λ d. Unit {0}) d l 1 (λ i. want (a + i)) (behind w d c)
  row_added a l d c h fine longer fits same new =
      let o : ℕ → ℕ = item w d.buffer1 in
      let f = h.offsets_fine in
      let old : (i : ℕ) → i ≤ l → item w (behind w d c).buffer1 i ≡ o i = old_at w d.buffer1 d.child.len l f c.len longer fits in
      let last : item w (behind w d c).buffer1 (suc l) ≡ c.len = new_at w d.buffer1 d.child.len l f c.len longer fits in
      record {
        ends = record { offsets_fine = more_fine w d.buffer1 d.child.len l f c.len longer fits; child_fine = fine };
        old = λ i q.
            let u : o (suc i) ≤ d.child.len = rw (← f.last_is) (steps_below l o f.rises (suc i) q) in
            rw (old i (omega arith), old (suc i) (omega arith))
            (ap (λ r. list (rows r)) (seg_cong (row_at K 1 kids c) (row_at K 1 kids d.child) (o i) (o i) (o (suc i) - o i) (λ e r. same (o i + e) (omega arith))));
        new = below_one (λ i. see (behind w d c) (l + i) ≡ want (a + i)) (rw (add-zero, add-zero, old l (omega arith), last, f.last_is) new);
        keeps = λ x. x;
      }

  pub row_step : Step see Fit (λ d. Unit {0}) held_kid (λ i. row_if w t x (valid_at w t x i) i) (λ i. ask_if w t x (valid_at w t x i) i) (λ i. Entry w x.body (x.off + i)) want
  row_step a l d e h = go (valid_at w t x a) refl
    where
      go : (b : Bool) → valid_at w t x a ≡ b
          → Agrees (λ e. held_kid e (l + 1)) (Added see Fit (λ d. Unit {0}) d l 1 (λ i. want (a + i))) (row_if w t x b a d) (ask_if w t x b a (held t d.child))
      go true z =
          agrees_guard (ltb (d.child.len + size_at w t x a) (half w)) _ 6 (ap (λ r. ltb (r + size_at w t x a) (half w)) (sym (rows_held t d.child.«data» d.child.len)))
          (λ f.
          agrees_wrap (behind w d) (λ c. refl)
          (λ c r.
          let y : c.len - d.child.len ≡ size_at w t x a = omega (arith, r.len_is) in
          row_added a l d c h r.fine' (omega (arith, r.len_is)) (omega (arith, r.len_is, ltb-true (d.child.len + size_at w t x a) (half w) f)) r.old
          (rw (y, z) (ap (λ q. list (rows q)) (seg_cong (row_at K 1 kids c) (read t (kid w t x)) d.child.len (offset_at w t x a) (size_at w t x a) r.new))))
          (node_copies K 1 kids law (λ j q. s.slots.child_rule.mask) 0 (offset_at w t x a) (size_at w t x a) d.child (omega arith) e.within h.child_fine))
      go false z =
          let y : d.child.len - d.child.len ≡ 0 = omega arith in
          both _ (row_added a l d d.child h h.child_fine (omega arith) h.offsets_fine.fits (λ i q. refl) (rw (y, z) refl))

  pub start_fit : Fit (no_lists w t x) 0
  start_fit =
      record {
        offsets_fine = (start_data_lem false (t_list w t) false 1 (λ i. record { offsets = x.body.offsets; child = kid w t x }) (λ i. true) (omega arith) g).offsets_fine;
        child_fine = fresh_fine t (kid w t x) g.1;
      }

  rows_agree : Agrees (λ d. held t d.child) (Put see (λ b. Fit) (λ d. Unit {0}) (λ i. true) (no_lists w t x) 0 x.len (λ i. true) (λ i. want (0 + i))) (listings w t x) (asks w t x x.len)
  rows_agree =
      rw (← fresh_held t (kid w t x).body)
      (steps_put see Fit (λ d. Unit {0}) held_kid _ _ (λ i. Entry w x.body (x.off + i)) want row_step 0 x.len 0 (λ i. true) (λ i. true) (no_lists w t x)
      (λ i q. rw zero-add (s.slots.entries i q)) start_fit)

  -- THE GROUNDS ARE THOSE OF THE COUNTS, row by row
  pub listed_grounds : map_try (λ d. held t d.child) (listings w t x) ≡ asks w t x x.len
  listed_grounds = agrees_same rows_agree

  pub listed_ground : ground_of (listed w t x) ≡ ground_of (asks w t x x.len)
  listed_ground =
      ground_then (listings w t x) _ ∙ sym (ground_map (listings w t x) (λ d. held t d.child)) ∙ ap ground_of listed_grounds

  -- ---- what is made

  -- the lists that were made, where it is done
  module _ (y : Column (t_list w t)) (made : listed w t x ≡ done y) where
    parts : (d : Listings (Grown t)) × ((listings w t x ≡ done d) × (◌≡◌ {A = Try (Column (t_list w t))} (done (laid true x 0 x.len (lists_freeze (into_builder t 1 kids) d))) (done y)))
    parts = then_done (listings w t x) (λ d. done (laid true x 0 x.len (lists_freeze (into_builder t 1 kids) d))) y made

    abbrev lists : Listings (Grown t)
    lists = parts.0

    laid_is : laid true x 0 x.len (lists_freeze (into_builder t 1 kids) lists) ≡ y
    laid_is = done_is parts.1.1

    put : Put see (λ b. Fit) (λ d. Unit {0}) (λ i. true) (no_lists w t x) 0 x.len (λ i. true) (λ i. want (0 + i)) lists
    put = agreed lists rows_agree parts.1.0

    fit : Fit lists x.len
    fit = rw zero-add at (put.ends (λ i. true) (λ i q. refl) (λ i q. refl))

    -- EACH ROW READS AS BEFORE
    pub listed_row : (i : ℕ) → i < x.len → read (t_list w t) y i ≡ read (t_list_view w t) x i
    listed_row i q =
        ap (λ z. read (t_list w t) z i) (sym laid_is)
        ∙ laid_read true x 0 x.len (lists_freeze (into_builder t 1 kids) lists) (x.off + x.len) s.mask i q (list_view_at w (slot_at t)) (list_at w (slot_at t))
        (λ v. rw zero-add at (put.new i q tt) ∙ want_valid (valid_at w t x i) i (rw add-zero at v) ∙ rw add-zero)
        ∙ ap (read (t_list_view w t) x) (zero-add i)

    pub listed_rows : read_all (t_list w t) y ≡ read_all (t_list_view w t) x
    listed_rows =
        ap (read_all (t_list w t)) (sym laid_is)
        ∙ seg_same (read (t_list w t) (laid true x 0 x.len (lists_freeze (into_builder t 1 kids) lists))) (read (t_list_view w t) x) 0 x.len
        (λ i q. rw (zero-add i) (ap (λ z. read (t_list w t) z i) laid_is ∙ listed_row i q))

    -- IT OBEYS THE RULES
    pub listed_source : Source (t_list w t) y
    listed_source =
        let o : ℕ → ℕ = item w lists.buffer1 in
        let f = fit.offsets_fine in
        subst (Source (t_list w t)) laid_is
        (record {
          mask = laid_mask true x 0 x.len (lists_freeze (into_builder t 1 kids) lists);
          slots =
              record {
                offsets_rule_lem = full
                    (record {
                      hold = rw f.offsets_are (omega arith);
                      positive = λ i q. rw zero-add (omega (arith, steps_below x.len o f.rises i q, f.last_is, f.fits));
                      rises = λ i q. let e : 0 + i + 1 ≡ suc i = omega arith in rw (e, zero-add) (f.rises i q);
                      within = rw (zero-add, f.last_is) (omega arith);
                    });
                child_rule = node_obeys K 1 kids law (λ j q. s.slots.child_rule.mask) lists.child fit.child_fine;
              };
        })

  -- ---- the child's copies

  -- the order of a row is the copy of its stretch
  order_is : (i : ℕ) (c : Destination t) → Entry w x.body (x.off + i)
      → perform t 1 kids (copy 0 (offset_at w t x i) (offset_at w t x i + size_at w t x i)) c ≡ extend t 1 kids 0 (offset_at w t x i) (size_at w t x i) c
  order_is i c e =
      let z : offset_at w t x i + size_at w t x i - offset_at w t x i ≡ size_at w t x i = omega arith in
      rw (le-leb (offset_at w t x i) (offset_at w t x i + size_at w t x i) (omega arith), le-leb (offset_at w t x i + size_at w t x i) (kid w t x).len e.within, z)

  copies_from : (n a : ℕ) (d d' : Listings (Grown t)) → ((i : ℕ) → i < n → Entry w x.body (x.off + (a + i))) → steps_t (λ i. row_if w t x (valid_at w t x i) i) a n d ≡ done d'
      → carried w t x (orders w t x a n) d.child ≡ done d'.child
  copies_from zero a d d' h e = ap (λ (z : Listings (Grown t)). done z.child) (done_is e)
  copies_from (suc n) a d d' h e =
      let r = then_done (row_if w t x (valid_at w t x a) a d) (steps_t (λ i. row_if w t x (valid_at w t x i) i) (suc a) n) d' e in
      go (valid_at w t x a) r.0 r.1.0 (copies_from n (suc a) r.0 d' (λ i q. let u : a + suc i ≡ suc a + i = omega arith in rw u at (h (suc i) (omega arith))) r.1.1)
    where
      go : (b : Bool) (m : Listings (Grown t)) → row_if w t x b a d ≡ done m → carried w t x (orders w t x (suc a) n) m.child ≡ done d'.child
          → carried w t x (order_if w t x b a (orders w t x (suc a) n)) d.child ≡ done d'.child
      go true m f k =
          let r = then_done (extend t 1 kids 0 (offset_at w t x a) (size_at w t x a) d.child) (λ c. done (behind w d c)) m (guard_done (ltb (d.child.len + size_at w t x a) (half w)) 6 _ m f) in
          ap (λ z. then z (carried w t x (orders w t x (suc a) n))) (order_is a d.child (rw add-zero at (h 0 (omega arith))) ∙ r.1.0)
          ∙ ap (λ (z : Listings (Grown t)). carried w t x (orders w t x (suc a) n) z.child) (done_is r.1.1)
          ∙ k
      go false m f k = ap (λ (z : Listings (Grown t)). carried w t x (orders w t x (suc a) n) z.child) (done_is f) ∙ k

  -- THE CHILD IS WHAT ONE COPY ORDER FOR EACH VALID ROW MAKES, in row order, all of them accepted
  pub listed_copies : (d : Listings (Grown t)) → listings w t x ≡ done d → carried w t x (orders w t x 0 x.len) (fresh t (kid w t x)) ≡ done d.child
  listed_copies d e = copies_from x.len 0 (no_lists w t x) d (λ i q. rw zero-add (s.slots.entries i q)) e

  -- .. finished
  pub listed_child : (y : Column (t_list w t)) → listed w t x ≡ done y
      → (c : Destination t) × ((carried w t x (orders w t x 0 x.len) (fresh t (kid w t x)) ≡ done c) × (y.body.child ≡ into_builder t 1 (λ j. kid w t x) c))
  listed_child y e = ((lists y e).child, (listed_copies (lists y e) (parts y e).1.0, ap (λ (z : Column (t_list w t)). z.body.child) (sym (laid_is y e))))

  -- ---- 6 is about the sizes of the valid rows so far

  sums_from : (n a : ℕ) (d d' : Listings (Grown t)) → steps_t (λ i. row_if w t x (valid_at w t x i) i) a n d ≡ done d' → d'.child.len ≡ d.child.len + sizes_in w t x a n
  sums_from zero a d d' e = ap (λ (z : Listings (Grown t)). z.child.len) (sym (done_is e)) ∙ sym (add-zero d.child.len)
  sums_from (suc n) a d d' e =
      let r = then_done (row_if w t x (valid_at w t x a) a d) (steps_t (λ i. row_if w t x (valid_at w t x i) i) (suc a) n) d' e in
      sums_from n (suc a) r.0 d' r.1.1 ∙ ap (λ z. z + sizes_in w t x (suc a) n) (go (valid_at w t x a) r.0 r.1.0) ∙ add_assoc d.child.len _ _
    where
      go : (b : Bool) (m : Listings (Grown t)) → row_if w t x b a d ≡ done m → m.child.len ≡ d.child.len + sizes_if w t x b a
      go true m f =
          let r = then_done (extend t 1 kids 0 (offset_at w t x a) (size_at w t x a) d.child) (λ c. done (behind w d c)) m (guard_done (ltb (d.child.len + size_at w t x a) (half w)) 6 _ m f) in
          let c = then_done (extend_data t 1 (λ i. (kid w t x).body) 0 ((kid w t x).off + offset_at w t x a) (size_at w t x a) d.child.len d.child.«data») _ r.0 r.1.0 in
          ap (λ (z : Listings (Grown t)). z.child.len) (sym (done_is r.1.1)) ∙ ap (λ (z : Destination t). z.len) (sym (done_is c.1.1))
      go false m f = ap (λ (z : Listings (Grown t)). z.child.len) (sym (done_is f)) ∙ sym (add-zero d.child.len)

  -- after n rows the child has the sizes of the valid ones
  pub listed_sum : (n : ℕ) (d : Listings (Grown t)) → steps_t (λ i. row_if w t x (valid_at w t x i) i) 0 n (no_lists w t x) ≡ done d → d.child.len ≡ sizes_in w t x 0 n
  listed_sum n d e = sums_from n 0 (no_lists w t x) d e ∙ zero-add _

  -- THE FIRST ROW THAT IS REFUSED REFUSES ALL, with its ground
  pub listed_first : (n g : ℕ) (d : Listings (Grown t)) → n < x.len → steps_t (λ i. row_if w t x (valid_at w t x i) i) 0 n (no_lists w t x) ≡ done d
      → row_if w t x (valid_at w t x n) n d ≡ stop g → listed w t x ≡ stop g
  listed_first n g d q e f =
      let z : n + suc (x.len - suc n) ≡ x.len = omega arith in
      ap (λ r. then r (λ d. done (laid true x 0 x.len (lists_freeze (into_builder t 1 kids) d))))
      (ap (λ m. steps_t (λ i. row_if w t x (valid_at w t x i) i) 0 m (no_lists w t x)) (sym z) ∙ steps_stop _ n 0 (x.len - suc n) g (no_lists w t x) d e (rw zero-add f))

  -- 6 BEFORE THE CHILD: a valid row whose size does not fit behind those before it
  pub listed_six : (n : ℕ) (d : Listings (Grown t)) → n < x.len → steps_t (λ i. row_if w t x (valid_at w t x i) i) 0 n (no_lists w t x) ≡ done d
      → valid_at w t x n ≡ true → half w ≤ sizes_in w t x 0 n + size_at w t x n → listed w t x ≡ stop 6
  listed_six n d q e v h =
      listed_first n 6 d q e
      (ap (λ b. row_if w t x b n d) v
      ∙ ap (λ b. guard b 6 (then (extend t 1 kids 0 (offset_at w t x n) (size_at w t x n) d.child) (λ c. done (behind w d c))))
      (le-ltb (d.child.len + size_at w t x n) (half w) (omega (arith, listed_sum n d e))))
