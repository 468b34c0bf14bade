-- How what a node says of its rows goes along the steps of the definition. Assumes nothing.
use mathlib.Core.Path.{◌≡◌, refl, sym, ap, subst, ◌∙◌}
use mathlib.Core.Bool.{Bool, true, false, not, cond, ◌&&◌}
use mathlib.Core.List.{List}
use Prim.Native.Nat.{ℕ, zero, suc, ◌+◌, ◌*◌, ◌-◌, ◌≤◌, ◌<◌, min}
use native.Mathlib.Omega.{arith}
use native.Mathlib.Numerals.{add-one}
use native.Mathlib.Nat.{min-eq_left}
use lib.ListN.{length, get_or}
use lib.Dec.{leb, ltb, eqb}
use borrow.Author.Tests.{eq-eqb, ne_eqb, lt-ltb, le-ltb}
use Rattle.array_data.proofs.lent_tables.Laws.{no, yes}
use Rattle.columnar.specs.Types.{half}
use Rattle.number.specs.Number.{entry}
use Rattle.utils.specs.Extension.{extended}
use Rattle.utils.specs.declared.Extended.{Extended}
use Rattle.utils.specs.declared.Extended.TheVariants.{Fits, Over, Falls}
use Rattle.leaf_walk.specs.variable_size.Lists.{tried_offsets}
use Rattle.walk.specs.State.{Join, end_of, rows, bytes, place, rows_in, grown, top}
use Rattle.walk.specs.Log.{Out, Did, fail, need, found, next, wrote}
use Rattle.walk.specs.Leaves.{put_string}
use Rattle.walk.specs.Copy.{Walk, child_with, list_view_row, id_at, position_at, dense_to, dense_row, copy_walk}
use Rattle.explain.specs.declared.stops.Why.{Why}
use Rattle.explain.specs.stops.Why.{only, nothing, clash, unless, past, first_of}
use Rattle.explain.specs.stops.Copy.{most, why_list_row, why_list_view, why_stretch, why_list, why_bytes, why_string, why_fields, why_sparse, why_dense_to, why_dense_at, why_dense_row, why_dense, why_copy}
use Rattle.explain.proofs.stops.Above.{Wide, wide_offset, AboveMost, extended_above}
use Rattle.explain.specs.declared.stop_walks.Step.{Step}
use Rattle.explain.specs.declared.stop_walks.Step.TheVariants.{On, Here, Below}
use Rattle.explain.specs.stop_walks.Step.{Tried, why_after, RowSays}

-- ---- a walk that only tries

module _ {plan parts : List ℕ} {o : Out} {c room : List ℕ} {g : ℕ} {c1 room1 : List ℕ} (d : Did plan parts false o room g c1 room1) where
  pub tried_refused : {c2 : List ℕ} → (g ≡ 0 → ⊥) → c2 ≡ c → Tried o c g c2
  tried_refused h e = record { answer = d.answer; counters = rw (ne_eqb g 0 h) e }

  pub tried_walked : g ≡ 0 → Tried o c 0 c1
  tried_walked h = record { answer = sym h ∙ d.answer; counters = d.counters }

module _ (x : Join) (depth k a n : ℕ) {o : Out} {c : List ℕ} {g : ℕ} {c2 : List ℕ} (t : Tried o c g c2) where
  pub into_stop : (g ≡ 0 → ⊥) → RowSays o (why_copy x depth k a n c) x depth (Below k a n) c2
  into_stop h = record { row = (λ z. h (t.answer ∙ z), ap (why_copy x depth k a n) (sym (rw (ne_eqb g 0 h) at t.counters))) }

  pub into_on : (w : Why) → g ≡ 0 → RowSays o w x depth On c2
  into_on w h = record { row = (sym t.answer ∙ h, rw (eq-eqb g 0 h) at t.counters) }

-- ---- rows one after the other

module _ (f : ℕ → List ℕ → Out) (why : ℕ → List ℕ → Why) where
  pub first_none : (n r : ℕ) (c : List ℕ) → n ≡ 0 → first_of f why n r c ≡ nothing
  unfolding first_of
  first_none n r c e = rw e refl

  first_stop : (n n' r : ℕ) (c : List ℕ) → n ≡ suc n' → ((f r c).ans ≡ 0 → ⊥) → first_of f why n r c ≡ why r c
  unfolding first_of past
  first_stop n n' r c e h = rw (e, ne_eqb (f r c).ans 0 h) refl

  first_more : (n n' r r' : ℕ) (c : List ℕ) {c2 : List ℕ} → n ≡ suc n' → r' ≡ r + 1 → (f r c).ans ≡ 0 → c2 ≡ (f r c).counters → first_of f why n r c ≡ first_of f why n' r' c2
  unfolding first_of past
  first_more n n' r r' c e q h k = rw (e, eq-eqb (f r c).ans 0 h, q, add-one r, k) refl

  module _ (x : Join) (depth : ℕ) (n n' r : ℕ) (c : List ℕ) (e : n ≡ suc n') {s : Step} {c2 : List ℕ} (h : RowSays (f r c) (why r c) x depth s c2) where
    pub row_on : {r' : ℕ} → r' ≡ r + 1 → s ≡ On → first_of f why n r c ≡ first_of f why n' r' c2
    row_on {r'} q z = let k = rw z at h.row in first_more n n' r r' c e q k.0 k.1

    pub row_here : {w : Why} → s ≡ Here w → first_of f why n r c ≡ w
    row_here z = let k = rw z at h.row in first_stop n n' r c e k.0 ∙ k.1

    pub row_below : {k a m : ℕ} → s ≡ Below k a m → first_of f why n r c ≡ why_copy x depth k a m c2
    row_below z = let k = rw z at h.row in first_stop n n' r c e k.0 ∙ k.1

-- what is said of a walk is said of another that comes to the same
pub says_to : (x : Join) (depth : ℕ) {o o2 : Out} {w w2 : Why} (s : Step) {c : List ℕ} → o2.ans ≡ o.ans → o2.counters ≡ o.counters → w2 ≡ w → RowSays o w x depth s c → RowSays o2 w2 x depth s c
says_to x depth On p q r h = record { row = (p ∙ h.row.0, h.row.1 ∙ sym q) }
says_to x depth (Here v) p q r h = record { row = (λ z. h.row.0 (sym p ∙ z), r ∙ h.row.1) }
says_to x depth (Below k a n) p q r h = record { row = (λ z. h.row.0 (sym p ∙ z), r ∙ h.row.1) }

-- ---- list-views

pub cut : (v n : ℕ) {s : ℕ} → s ≡ grown v n → s ≡ min (v + n) top
unfolding grown
cut v n e = e

module _ (x : Join) (depth w i slot : ℕ) where
  abbrev walk : Walk
  walk = copy_walk x depth

  abbrev why : ℕ → ℕ → ℕ → List ℕ → Why
  why = why_copy x depth

  module _ (r : ℕ) (c : List ℕ) {size : ℕ} (e : size ≡ entry w x.body (place x i 5) (slot + r)) {j : ℕ} (q : j ≡ suc i) {child : ℕ} (p : child ≡ rows c j) {t : Bool} (f : t ≡ ltb (child + size) (half w)) where
    sum_is : ltb (rows c (suc i) + entry w x.body (place x i 5) (slot + r)) (half w) ≡ t
    sum_is = sym (f ∙ rw (p, q, e) refl)

    pub list_over : not t ≡ true → {v m : ℕ} → v ≡ grown child size → m ≡ most w → {c2 : List ℕ} → RowSays (list_view_row x walk w i slot r c) (why_list_row x walk why w i slot r c) x depth (Here (record { refusal = 6; node = i; row = r; needed = v; allowed = m })) c2
    unfolding list_view_row why_list_row need unless fail
    list_over h {v} {m} g l = rw (sum_is ∙ f ∙ no f h) (record { row = ((λ z. absurd (omega (arith, z))), rw (cut child size g, l, p, q, e) refl) })

    pub list_into : not t ≡ false → {off : ℕ} → off ≡ entry w x.body (place x i 3) (slot + r) → (s : Step) {c2 : List ℕ} → RowSays (walk j off size c) (why j off size c) x depth s c2
        → RowSays (list_view_row x walk w i slot r c) (why_list_row x walk why w i slot r c) x depth s c2
    unfolding list_view_row why_list_row need unless next wrote
    list_into h {off} g s d = says_to x depth s (rw (sum_is ∙ f ∙ yes f h, q, g, e) refl) (rw (sum_is ∙ f ∙ yes f h, q, g, e) refl) (rw (sum_is ∙ f ∙ yes f h, q, g, e) refl) d

  module _ (n : ℕ) (c : List ℕ) {j : ℕ} (q : j ≡ suc i) where
    pub view_out : 32 ≤ j → why_list_view x walk why w i slot n c ≡ only 12
    unfolding why_list_view unless
    view_out h = rw (le-ltb (suc i) 32 (subst (λ z. 32 ≤ z) q h)) refl

    module _ (l : j < 32) {t : Bool} (e : t ≡ (rows_in x (place x i 3) w slot n && rows_in x (place x i 5) w slot n)) where
      pub view_foreign : not t ≡ true → why_list_view x walk why w i slot n c ≡ only 12
      unfolding why_list_view unless
      view_foreign h = rw (lt-ltb (suc i) 32 (subst (λ z. z < 32) q l), no e h) refl

      pub view_rows_lem : not t ≡ false → why_list_view x walk why w i slot n c ≡ first_of (list_view_row x walk w i slot) (why_list_row x walk why w i slot) n 0 c
      unfolding why_list_view unless
      view_rows_lem h = rw (lt-ltb (suc i) 32 (subst (λ z. z < 32) q l), yes e h) refl

-- ---- levels

module _ (x : Join) (depth : ℕ) {s : Step} where
  pub after_on : s ≡ On → (c : List ℕ) → why_after x depth s c ≡ nothing
  after_on e c = rw e refl

  pub after_here : {w : Why} → s ≡ Here w → (c : List ℕ) → why_after x depth s c ≡ w
  after_here e c = rw e refl

  pub after_below : {k a n : ℕ} → s ≡ Below k a n → (c : List ℕ) → why_after x depth s c ≡ why_copy x depth k a n c
  after_below e c = rw e refl

pub two_more : (i : ℕ) → i + 2 ≡ suc (suc i)
two_more i = omega arith
