-- Where each row of a list stands that a list-view is made into, and which row refuses it. Assumes nothing.
use mathlib.Core.Path.{◌≡◌, refl, sym, ap, subst, ◌∙◌}
use mathlib.Core.Bool.{Bool, true, false}
use mathlib.Core.List.{List, ◌++◌}
use Prim.Native.Nat.{ℕ, zero, suc, ◌+◌, ◌*◌, ◌≤◌, ◌<◌}
use native.Mathlib.Nat.{zero-add, add-zero, add_assoc}
use native.Mathlib.Decide.{dec_lt}
use native.Mathlib.Omega.{arith}
use lib.ListN.{length, length-append}
use lib.Dec.{ltb}
use borrow.Author.Tests.{ltb-true}
use Rattle.number.specs.Number.{encode}
use Rattle.number.proofs.Laws.{length_encode}
use Rattle.columnar.specs.Types.{half, Ty, t_list_view, t_list}
use Rattle.columnar.specs.Formed.{OffsetWidth}
use Rattle.columnar.specs.Array.{item}
use Rattle.columnar.specs.Reading.{Column}
use Rattle.columnar.proofs.Items.{item_left, item_last}
use Rattle.model.specs.Try.{Try, done, stop, then, guard, steps_t}
use Rattle.model.specs.Lists.{Listings, lists_freeze}
use Rattle.model.specs.Transform.{Grown, Destination, extend_data, extend, into_builder}
use Rattle.model.proofs.Joined.{done_is, then_done}
use Rattle.model.proofs.ListLaw.{item_entry}
use Rattle.anew.specs.lists.Laid.{laid}
use Rattle.anew.specs.lists.Fresh.{fresh}
use Rattle.anew.specs.lists.Listed.{behind, kid, offset_at, size_at, valid_at, row_if, no_lists, listings, listed, sizes_if, sizes_in}
use Rattle.anew.proofs.widths.OneCopy.{half_pos}

guard_true : {A : Type 0} (b : Bool) (g : ℕ) (t : Try A) (x : A) → guard b g t ≡ done x → (b ≡ true) × (t ≡ done x)
guard_true true g t x e = (refl, e)
guard_true false g t x e = absurd (let z : ◌≡◌ {A = ℕ} 0 1 = cc in omega arith)

then_stop : {A B : Type 0} (t : Try A) (x : A → B) (g : ℕ) → then t (λ a. done (x a)) ≡ stop g → t ≡ stop g
then_stop (done a) x g e = absurd (let z : ◌≡◌ {A = ℕ} 0 1 = cc in omega arith)
then_stop (stop h) x g e = let z : h ≡ g = cc in ap stop z

module _ (w : ℕ) (t : Ty) (x : Column (t_list_view w t)) where
  abbrev step : ℕ → Listings (Grown t) → Try (Listings (Grown t))
  step i = row_if w t x (valid_at w t x i) i

  one_more : (n a : ℕ) → sizes_in w t x a (suc n) ≡ sizes_in w t x a n + sizes_if w t x (valid_at w t x (a + n)) (a + n)
  one_more zero a = add-zero (sizes_if w t x (valid_at w t x a) a) ∙ ap (λ k. sizes_if w t x (valid_at w t x k) k) (sym (add-zero a)) ∙ sym (zero-add (sizes_if w t x (valid_at w t x (a + 0)) (a + 0)))
  one_more (suc n) a =
      let z : suc a + n ≡ a + suc n = omega arith in
      let y = subst (λ k. sizes_in w t x (suc a) (suc n) ≡ sizes_in w t x (suc a) n + sizes_if w t x (valid_at w t x k) k) z (one_more n (suc a)) in
      ap (λ k. sizes_if w t x (valid_at w t x a) a + k) y ∙ sym (add_assoc (sizes_if w t x (valid_at w t x a) a) (sizes_in w t x (suc a) n) (sizes_if w t x (valid_at w t x (a + suc n)) (a + suc n)))

  -- ---- the offsets of the first n rows

  record Upto (n : ℕ) (d : Listings (Grown t)) : Type 0 where
    starts : (i : ℕ) → i ≤ n → item w d.buffer1 i ≡ sizes_in w t x 0 i
    long : length d.buffer1 ≡ suc n * w
    rows_are : d.child.len ≡ sizes_in w t x 0 n
    fits : d.child.len < half w

  more : (n : ℕ) (d : Listings (Grown t)) (c : Destination t) → Upto n d → c.len ≡ sizes_in w t x 0 (suc n) → c.len < half w → Upto (suc n) (behind w d c)
  more n d c h e f =
      record {
        starts = λ i q. go i q (dec_lt i (suc n));
        long = rw (length-append, length_encode, h.long) (omega arith);
        rows_are = e;
        fits = f;
      }
    where
      go : (i : ℕ) → i ≤ suc n → Dec (i < suc n) → item w (behind w d c).buffer1 i ≡ sizes_in w t x 0 i
      go i q (yes l) = item_left w d.buffer1 (encode w c.len) i (suc n) (omega (arith, h.long)) l ∙ h.starts i (omega arith)
      go i q (no l) = let z : suc n ≡ i = omega arith in subst (λ k. item w (behind w d c).buffer1 k ≡ sizes_in w t x 0 k) z (item_last w d.buffer1 (suc n) c.len h.long (omega arith) ∙ e)

  copy_long : (i : ℕ) (d : Listings (Grown t)) (c : Destination t) → extend t 1 (λ j. kid w t x) 0 (offset_at w t x i) (size_at w t x i) d.child ≡ done c → c.len ≡ d.child.len + size_at w t x i
  copy_long i d c e =
      let r = then_done (extend_data t 1 (λ j. (kid w t x).body) 0 ((kid w t x).off + offset_at w t x i) (size_at w t x i) d.child.len d.child.«data») _ c e in
      ap (λ (z : Destination t). z.len) (sym (done_is r.1.1))

  next : (n : ℕ) (d m : Listings (Grown t)) → Upto n d → step n d ≡ done m → Upto (suc n) m
  next n d m h = go (valid_at w t x n) refl
    where
      sum : (b : Bool) → valid_at w t x n ≡ b → sizes_in w t x 0 (suc n) ≡ sizes_in w t x 0 n + sizes_if w t x b n
      sum b e = rw zero-add at (one_more n 0) ∙ ap (λ c. sizes_in w t x 0 n + sizes_if w t x c n) e

      go : (b : Bool) → valid_at w t x n ≡ b → row_if w t x b n d ≡ done m → Upto (suc n) m
      go true e r =
          let p = guard_true (ltb (d.child.len + size_at w t x n) (half w)) 6 _ m r in
          let q = then_done (extend t 1 (λ j. kid w t x) 0 (offset_at w t x n) (size_at w t x n) d.child) (λ c. done (behind w d c)) m p.1 in
          let l = copy_long n d q.0 q.1.0 in
          subst (Upto (suc n)) (done_is q.1.1) (more n d q.0 h (omega (arith, l, h.rows_are, sum true e)) (omega (arith, l, ltb-true (d.child.len + size_at w t x n) (half w) p.0)))
      go false e r = subst (Upto (suc n)) (done_is r) (more n d d.child h (omega (arith, h.rows_are, sum false e)) h.fits)

  all_rows : (n a : ℕ) (d m : Listings (Grown t)) → Upto a d → steps_t step a n d ≡ done m → Upto (a + n) m
  all_rows zero a d m h e = subst (Upto (a + 0)) (done_is e) (rw add-zero h)
  all_rows (suc n) a d m h e =
      let r = then_done (step a d) (steps_t step (suc a) n) m e in
      let z : suc a + n ≡ a + suc n = omega arith in
      subst (λ k. Upto k m) z (all_rows n (suc a) r.0 m (next a d r.0 h r.1.0) r.1.1)

  module _ (g : OffsetWidth w) (y : Column (t_list w t)) (made : listed w t x ≡ done y) where
    -- no rows: one zero offset
    begin : Upto 0 (no_lists w t x)
    begin =
        record {
          starts = λ i q. let z : 0 ≡ i = omega arith in subst (λ k. item w (encode w 0) k ≡ sizes_in w t x 0 k) z (item_entry w 0 (half_pos g));
          long = length_encode w 0 ∙ (let z : w ≡ 1 * w = omega arith in z);
          rows_are = refl;
          fits = half_pos g;
        }

    upto : (d : Listings (Grown t)) × (laid true x 0 x.len (lists_freeze (into_builder t 1 (λ j. kid w t x)) d) ≡ y) × Upto (0 + x.len) d
    upto =
        let r = then_done (listings w t x) (λ d. done (laid true x 0 x.len (lists_freeze (into_builder t 1 (λ j. kid w t x)) d))) y made in
        (r.0, done_is r.1.1, all_rows x.len 0 (no_lists w t x) r.0 begin r.1.0)

    -- WHERE ROW i STARTS: behind the sizes of the valid rows before it
    pub listed_start : (i : ℕ) → i ≤ x.len → item w y.body.offsets i ≡ sizes_in w t x 0 i
    listed_start i q = ap (λ (z : Column (t_list w t)). item w z.body.offsets i) (sym upto.1) ∙ upto.2.starts i (omega arith)

    -- "a null row becomes an empty stretch", a valid row one of its own size
    pub listed_size : (i : ℕ) → i < x.len → item w y.body.offsets (suc i) ≡ item w y.body.offsets i + sizes_if w t x (valid_at w t x i) i
    listed_size i q = listed_start (suc i) (omega arith) ∙ rw zero-add at (one_more i 0) ∙ ap (λ k. k + sizes_if w t x (valid_at w t x i) i) (sym (listed_start i (omega arith)))

    -- one offset more than rows, and nothing behind them; the child ends with the last row
    pub listed_long : length y.body.offsets ≡ suc x.len * w
    listed_long = ap (λ (z : Column (t_list w t)). length z.body.offsets) (sym upto.1) ∙ rw zero-add at upto.2.long

    pub listed_ends : y.body.child.len ≡ sizes_in w t x 0 x.len
    listed_ends = ap (λ (z : Column (t_list w t)). z.body.child.len) (sym upto.1) ∙ rw zero-add at upto.2.rows_are

  -- ---- which row refuses it

  -- rows 0 .. n - 1 are done, and row n is refused with g
  pub record Refused (g : ℕ) : Type 0 where
    pub row : ℕ
    pub inside : row < x.len
    pub before : Listings (Grown t)
    pub done_before : steps_t step 0 row (no_lists w t x) ≡ done before
    pub refused : step row before ≡ stop g

  record From (a n g : ℕ) (d : Listings (Grown t)) : Type 0 where
    more_rows_lem : ℕ
    in_rows_lem : more_rows_lem < n
    state : Listings (Grown t)
    all_done : steps_t step a more_rows_lem d ≡ done state
    stops : step (a + more_rows_lem) state ≡ stop g

  first_from : (n a g : ℕ) (d : Listings (Grown t)) → steps_t step a n d ≡ stop g → From a n g d
  first_from zero a g d e = absurd (let z : ◌≡◌ {A = ℕ} 0 1 = cc in omega arith)
  first_from (suc n) a g d e = go (step a d) refl (first_from n (suc a) g) e
    where
      go : (r : Try (Listings (Grown t))) → step a d ≡ r → ((m : Listings (Grown t)) → steps_t step (suc a) n m ≡ stop g → From (suc a) n g m) → then r (steps_t step (suc a) n) ≡ stop g
          → From a (suc n) g d
      go (done m) p k e =
          let f = k m e in
          let z : suc a + f.more_rows_lem ≡ a + suc f.more_rows_lem = omega arith in
          record {
            more_rows_lem = suc f.more_rows_lem;
            in_rows_lem = omega (arith, f.in_rows_lem);
            state = f.state;
            all_done = ap (λ r. then r (steps_t step (suc a) f.more_rows_lem)) p ∙ f.all_done;
            stops = subst (λ k. step k f.state ≡ stop g) z f.stops;
          }
      go (stop h) p k e = record { more_rows_lem = 0; in_rows_lem = omega arith; state = d; all_done = refl; stops = rw add-zero (p ∙ (let z : h ≡ g = cc in ap stop z)) }

  -- REFUSED ONLY WHERE A ROW IS, with the ground of the first
  pub listed_where : (g : ℕ) → listed w t x ≡ stop g → Refused g
  listed_where g e =
      let f = first_from x.len 0 g (no_lists w t x) (then_stop (listings w t x) (λ d. laid true x 0 x.len (lists_freeze (into_builder t 1 (λ j. kid w t x)) d)) g e) in
      record { row = f.more_rows_lem; inside = f.in_rows_lem; before = f.state; done_before = f.all_done; refused = subst (λ k. step k f.state ≡ stop g) (zero-add f.more_rows_lem) f.stops }
