-- THE BOX AROUND ROWS OF LENT COLUMNS: its grounds in order, its rows are those that the Columnar Format reads, and what the theorems of
-- frames come to. Assumes nothing.
use mathlib.Core.Path.{◌≡◌, refl, sym, ap, ap₂, subst, ◌∙◌}
use mathlib.Core.Bool.{Bool, true, false, cond, ◌&&◌, true≢false}
use mathlib.Core.Option.{Option, none, some}
use mathlib.Core.List.{List, [], ◌∷◌, ◌++◌}
use Prim.Native.Nat.{ℕ, zero, suc, ◌+◌, ◌*◌, ◌-◌, ◌^◌, ◌≤◌, ◌<◌}
use native.Mathlib.Nat.{add-zero, zero-add}
use native.Mathlib.Omega.{arith}
use lib.Dec.{T, eqb, leb}
use lib.ListN.{length, take, drop, get_or, length-take, length-drop}
use borrow.Author.Tests.{eqb-true, leb-true, le-leb, eq-eqb, ne_eqb}
use Rattle.columnar.specs.Row.{Row, double, seg}
use Rattle.columnar.specs.Types.{f64, fixed, Ty, t_plain}
use Rattle.columnar.specs.Array.{Mask, item, ok, sight}
use Rattle.columnar.specs.Reading.{read, Source}
use Rattle.columnar.specs.Test.{every}
use Rattle.columnar.proofs.Test.{every_out}
use Rattle.schema.specs.formats.Types.{number_of}
use Rattle.schema.specs.Tree.{ceilings, typed}
use Rattle.array_data.specs.Tables.{Tables, part, length_of, offset_of, place, valid_of, first_buffer, held, in_body, valid_in}
use Rattle.array_data.specs.Rules.{one_in, fixed_rule}
use Rattle.array_data.specs.NodeKinds.{NodeKind, fixed_node}
use Rattle.array_data.specs.Typed.{Means, column_of, tables_from, kind_rule, node_rule, source_rule}
use Rattle.array_data.specs.type_tree.Lent.{tree_of, type_of}
use Rattle.array_data.proofs.type_tree.Lent.{means}
use Rattle.array_data.proofs.type_tree.Ids.{both}
use Rattle.array_data.specs.lent_tables.Lent.{tables}
use Rattle.array_data.proofs.lent_tables.Laws.{and_left, and_right}
use Rattle.source_rules.specs.kinds.Rows.{tables_of}
use Rattle.source_rules.proofs.From.{length_from, offset_from, place_from}
use Rattle.columns.specs.Grounds.{small_body, within_ceilings, obeys, column_ground}
use Rattle.columns.proofs.Grounds.{within_low, obeys_is, column_accepted}
use Rattle.columns.specs.column_pair.Pair.{pair_ground, plain_code, range_in}
use Rattle.columns.proofs.column_pair.Pair.{pair_first, pair_none, plain_type, range_known}
use Rattle.frames.specs.declared.Frame.{Frame}
use Rattle.frames.specs.Frames.{joined, Stop, framed, together}
use Rattle.frames.specs.Slots.{slot_row, slot_stop, no_mask, mask_from, mask_place, Placed, lent_stops}
use Rattle.frames.specs.Box.{ground_of, found, is_double, row_at, stop_at, stops, both_ground, box_of}
use Rattle.frames.proofs.Frames.{frames_joined}
use Rattle.frames.proofs.Slots.{shift}
use Rattle.std.specs.Prelude.{Result, Ok, Err}

-- ---- the grounds

grounds : (b : Bool) (p q : Result Frame ℕ) → ground_of (cond b p q) ≡ cond b (ground_of p) (ground_of q)
grounds true p q = refl
grounds false p q = refl

in_order_lem : (s t o : Bool) (r : Result Frame ℕ) → ground_of (cond (eqb (cond s (cond t (cond o 0 12) 10) 9) 0) r (Err (cond s (cond t (cond o 0 12) 10) 9)))
    ≡ cond s (cond t (cond o (ground_of r) 12) 10) 9
in_order_lem false t o r = refl
in_order_lem true false o r = refl
in_order_lem true true false r = refl
in_order_lem true true true r = refl

module _ (formats schema : List ℕ) (x : Tables) (a n b m start end : ℕ) where
  -- THE GROUND: 9, 10 and 12 of a malformed column, then 2, 10 and 17, each asked of both columns before the next; 0 where there is a frame
  pub box_ground : ground_of (box_of formats schema x a n b m start end)
      ≡ cond (small_body x.body && (within_ceilings formats schema x a n && within_ceilings formats schema x b m))
      (cond (typed formats schema a n && typed formats schema b m)
      (cond (obeys formats schema x a n && obeys formats schema x b m)
      (cond (range_in x a start end && range_in x b start end)
      (cond (is_double formats schema a n && is_double formats schema b m) (ground_of (found (framed (stops formats schema x a n b m start end)))) 10)
      2)
      12)
      10)
      9
  unfolding box_of
  box_ground =
      let rest = cond (range_in x a start end && range_in x b start end) (cond (is_double formats schema a n && is_double formats schema b m) (found (framed (stops formats schema x a n b m start end))) (Err 10)) (Err 2) in
      ap (λ g. ground_of (cond (eqb g 0) rest (Err g))) (pair_first formats schema x a n b m)
      ∙ in_order_lem (small_body x.body && (within_ceilings formats schema x a n && within_ceilings formats schema x b m)) (typed formats schema a n && typed formats schema b m) (obeys formats schema x a n && obeys formats schema x b m) rest
      ∙ ap (λ g. cond (small_body x.body && (within_ceilings formats schema x a n && within_ceilings formats schema x b m)) (cond (typed formats schema a n && typed formats schema b m) (cond (obeys formats schema x a n && obeys formats schema x b m) g 12) 10) 9)
      (grounds (range_in x a start end && range_in x b start end) (cond (is_double formats schema a n && is_double formats schema b m) (found (framed (stops formats schema x a n b m start end))) (Err 10)) (Err 2)
      ∙ ap (λ g. cond (range_in x a start end && range_in x b start end) g 2)
      (grounds (is_double formats schema a n && is_double formats schema b m) (found (framed (stops formats schema x a n b m start end))) (Err 10)))

  -- ---- what the code answers

  pub box_malformed : {g : ℕ} → g ≡ both_ground formats schema x a n b m → (g ≡ 0 → ⊥) → Err g ≡ box_of formats schema x a n b m start end
  unfolding box_of
  box_malformed {g} e h =
      let f : eqb (both_ground formats schema x a n b m) 0 ≡ false = ne_eqb (both_ground formats schema x a n b m) 0 (λ q. h (e ∙ q)) in
      rw f (ap Err e)

  module _ (z : both_ground formats schema x a n b m ≡ 0) where
    zero_test : eqb (both_ground formats schema x a n b m) 0 ≡ true
    zero_test = eq-eqb (both_ground formats schema x a n b m) 0 z

    pub box_outside : range_in x a start end && range_in x b start end ≡ false → Err 2 ≡ box_of formats schema x a n b m start end
    unfolding box_of
    box_outside h = rw (zero_test, h)

    pub box_other : range_in x a start end && range_in x b start end ≡ true → is_double formats schema a n && is_double formats schema b m ≡ false
        → Err 10 ≡ box_of formats schema x a n b m start end
    unfolding box_of
    box_other h d = rw (zero_test, h, d)

    pub box_rows : range_in x a start end && range_in x b start end ≡ true → is_double formats schema a n && is_double formats schema b m ≡ true
        → found (framed (stops formats schema x a n b m start end)) ≡ box_of formats schema x a n b m start end
    unfolding box_of
    box_rows h d = rw (zero_test, h, d)

-- ---- an accepted column of f64

chosen : (b : Bool) (a g : ℕ) → 0 < g → cond b a g ≡ 0 → (b ≡ true) × (a ≡ 0)
chosen true a g l h = (refl, h)
chosen false a g l h = absurd (omega arith)

is_true : (b : Bool) → T b → b ≡ true
is_true true h = refl
is_true false h = absurd h

true_is : {b : Bool} → b ≡ true → T b
true_is e = subst T (sym e) tt

module _ (formats schema : List ℕ) (x : Tables) (first n : ℕ) (h : column_ground formats schema x first n ≡ 0) where
  passed : (within_ceilings formats schema x first n ≡ true) × (typed formats schema first n ≡ true) × (obeys formats schema x first n ≡ true)
  unfolding column_ground
  passed =
      let p = chosen (small_body x.body && within_ceilings formats schema x first n) _ 9 (omega arith) h in
      let q = chosen (typed formats schema first n) _ 10 (omega arith) p.1 in
      let r = chosen (obeys formats schema x first n) 0 12 (omega arith) q.1 in
      (and_right (small_body x.body) (within_ceilings formats schema x first n) p.0, q.0, r.0)

  module _ (d : is_double formats schema first n ≡ true) where
    the_type : type_of formats schema first n ≡ t_plain (fixed f64)
    unfolding number_of
    the_type = plain_type formats schema first n passed.1 10 (eqb-true (plain_code formats schema first n) 10 d) refl

    kind_is : Means (tree_of formats schema first n) (t_plain (fixed f64)) 0
    kind_is = subst (λ t. Means (tree_of formats schema first n) t 0) the_type (means formats schema first n passed.1 (within_low formats schema x first n passed.0))

    rule_is : fixed_rule (tables_from x first) 0 f64 ≡ true
    rule_is =
        let all = true_is (sym (obeys_is formats schema x first n) ∙ passed.2) in
        let one = every_out (node_rule (tree_of formats schema first n) (tables_from x first)) n all 0 kind_is.0 in
        is_true _ (subst (λ k. T (kind_rule (tree_of formats schema first n) (tables_from x first) k 0)) kind_is.1 one)

    source : Source (t_plain (fixed f64)) (column_of (tree_of formats schema first n) (tables_from x first) (t_plain (fixed f64)) 0)
    source = subst (λ t. Source t (column_of (tree_of formats schema first n) (tables_from x first) t 0)) the_type (column_accepted formats schema x first n h)

    -- ---- the node in the tables

    here : (j : ℕ) → place (tables_from x first) 0 j ≡ place x first j
    here j = place_from x first 0 j ∙ ap (λ k. place x k j) (add-zero first)

    its_offset : offset_of (tables_from x first) 0 ≡ offset_of x first
    its_offset = offset_from x first 0 ∙ ap (offset_of x) (add-zero first)

    its_length : length_of (tables_from x first) 0 ≡ length_of x first
    its_length = length_from x first 0 ∙ ap (length_of x) (add-zero first)

    its_values : first_buffer (tables_from x first) 0 ≡ first_buffer x first
    its_values = ap₂ (part x.body) (here 3) (here 4)

    its_mask : valid_of (tables_from x first) 0 ≡ valid_of x first
    its_mask =
        ap (λ z. cond (eqb z 0) none (some (part x.body (place (tables_from x first) 0 1) (place (tables_from x first) 0 2)))) (here 0)
        ∙ ap₂ (λ y z. cond (eqb (place x first 0) 0) none (some (part x.body y z))) (here 1) (here 2)

    -- A ROW AS THE COLUMNAR FORMAT READS IT is its slot of the lent buffers, the column's offset added
    pub row_is : (i : ℕ) → row_at formats schema x first n i ≡ slot_row (first_buffer x first) (valid_of x first) (offset_of x first + i)
    row_is i =
        ap (λ t. read t (column_of (tree_of formats schema first n) (tables_from x first) t 0) i) the_type
        ∙ ap (λ v. slot_row v (valid_of (tables_from x first) 0) (offset_of (tables_from x first) 0 + i)) its_values
        ∙ ap (λ v. slot_row (first_buffer x first) v (offset_of (tables_from x first) 0 + i)) its_mask
        ∙ ap (λ v. slot_row (first_buffer x first) (valid_of x first) (v + i)) its_offset

    in_body_lem : one_in (tables_from x first) 0 ≡ true
    in_body_lem = and_left (one_in (tables_from x first) 0) _ rule_is

    values_in : place x first 3 + place x first 4 ≤ length x.body
    values_in =
        let l = leb-true (place (tables_from x first) 0 3 + place (tables_from x first) 0 4) (length x.body) (and_right (held (tables_from x first) 0 && valid_in (tables_from x first) 0) _ in_body_lem) in
        omega (arith, l, here 3, here 4)

    mask_in_lem : (mask_place x first).end ≤ length x.body
    mask_in_lem =
        go (eqb (place x first 0) 0)
        (subst (λ z. cond (eqb z 0) true (in_body x (place (tables_from x first) 0 1) (place (tables_from x first) 0 2)) ≡ true) (here 0)
        (and_right (held (tables_from x first) 0) (valid_in (tables_from x first) 0) (and_left (held (tables_from x first) 0 && valid_in (tables_from x first) 0) _ in_body_lem)))
      where
        go : (b : Bool) → cond b true (in_body x (place (tables_from x first) 0 1) (place (tables_from x first) 0 2)) ≡ true
            → (cond b no_mask (mask_from (place x first 1) (place x first 2))).end ≤ length x.body
        go true e = omega arith
        go false e =
            let l = leb-true (place (tables_from x first) 0 1 + place (tables_from x first) 0 2) (length x.body) e in
            omega (arith, l, here 1, here 2)

    marks : (k : ℕ) → k ≤ length_of x first → (mask_place x first).given ≡ true → offset_of x first + k ≤ 8 * ((mask_place x first).end - (mask_place x first).at)
    marks k l =
        go (eqb (place x first 0) 0) (subst (λ v. Mask true v (offset_of (tables_from x first) 0 + length_of (tables_from x first) 0)) its_mask source.mask)
      where
        go : (b : Bool) → Mask true (cond b none (some (part x.body (place x first 1) (place x first 2)))) (offset_of (tables_from x first) 0 + length_of (tables_from x first) 0)
            → (cond b no_mask (mask_from (place x first 1) (place x first 2))).given ≡ true
            → offset_of x first + k ≤ 8 * ((cond b no_mask (mask_from (place x first 1) (place x first 2))).end - (cond b no_mask (mask_from (place x first 1) (place x first 2))).at)
        go true e t = absurd (true≢false (sym t))
        go false e t = omega (arith, e, its_offset, its_length, length-take (place x first 2) (drop (place x first 1) x.body))

    -- its buffers lie in the body and hold the first k rows
    pub placed : (k : ℕ) → k ≤ length_of x first → Placed x first (offset_of x first + k)
    placed k l =
        let s = source.slots in
        record {
          values_in = values_in;
          mask_in_lem = mask_in_lem;
          values_hold = omega (arith, s, its_offset, its_length, here 4, length-take (place (tables_from x first) 0 4) (drop (place (tables_from x first) 0 3) x.body));
          mask_holds = marks k l;
        }

-- ---- ranges and places are not about the tables that they do not name

module _ (lengths places buffers body : List ℕ) (k start end : ℕ) where
  pub range_as : range_in (tables lengths [] []) k start end ≡ range_in (tables_of lengths places buffers body) k start end
  unfolding range_in
  range_as = refl

  pub placed_to : start ≤ end → Placed (tables_of lengths places buffers body) k (offset_of (tables_of lengths places buffers body) k + end)
      → Placed (tables lengths places body) k (offset_of (tables lengths [] []) k + start + (end - start))
  placed_to l p =
      let e : offset_of (tables_of lengths places buffers body) k + end ≡ offset_of (tables lengths [] []) k + start + (end - start) = omega arith in
      subst (Placed (tables lengths places body) k) e (record { values_in = p.values_in; mask_in_lem = p.mask_in_lem; values_hold = p.values_hold; mask_holds = p.mask_holds })

-- ---- two accepted columns of f64

module _ (formats schema : List ℕ) (x : Tables) (a n b m : ℕ) (z : both_ground formats schema x a n b m ≡ 0)
    (d : is_double formats schema a n && is_double formats schema b m ≡ true) where
  -- THE ROWS OF THE BOX are the slots that the code walks over
  pub stops_are : (start k : ℕ) → lent_stops x a b start k ≡ seg (stop_at formats schema x a n b m) start k
  stops_are start k =
      let g = pair_none (column_ground formats schema x a n) (column_ground formats schema x b m) z in
      let p = and_left (is_double formats schema a n) (is_double formats schema b m) d in
      let q = and_right (is_double formats schema a n) (is_double formats schema b m) d in
      shift _ (stop_at formats schema x a n b m) 0 start k
      (λ i. ap₂ (λ r s. record { latitude = r; longitude = s })
      (ap (slot_row (first_buffer x a) (valid_of x a)) (e (offset_of x a) i) ∙ sym (row_is formats schema x a n g.0 p (start + i)))
      (ap (slot_row (first_buffer x b) (valid_of x b)) (e (offset_of x b) i) ∙ sym (row_is formats schema x b m g.1 q (start + i))))
    where
      e : (o i : ℕ) → o + start + (0 + i) ≡ o + (start + i)
      e o i = omega arith

-- ---- what the theorems of frames come to

is_within : (o : Option Frame) (f : Frame) → found o ≡ Ok f → o ≡ some f
is_within none f e = let z : ◌≡◌ {A = ℕ} 0 1 = cc in absurd (omega arith)
is_within (some g) f e = cc

seg_append : {A : Type 0} (f : ℕ → A) (a m n : ℕ) → seg f a (m + n) ≡ seg f a m ++ seg f (a + m) n
seg_append f a zero n = let e : a + 0 ≡ a = omega arith in ap₂ (seg f) (sym e) (zero-add n)
seg_append f a (suc m) n =
    let e : suc m + n ≡ suc (m + n) = omega arith in
    let d : suc a + m ≡ a + suc m = omega arith in
    ap (seg f a) e ∙ ap (λ l. f a ∷ l) (seg_append f (suc a) m n ∙ ap (λ k. seg f (suc a) m ++ seg f k n) d)

range_both : (x : Tables) (a b start end : ℕ) → start ≤ end → end ≤ length_of x a → end ≤ length_of x b → range_in x a start end && range_in x b start end ≡ true
unfolding range_in
range_both x a b start end l p q = rw (le-leb start end l, le-leb end (length_of x a) p, le-leb end (length_of x b) q)

-- what an answered box has passed
pub record Answered (formats schema : List ℕ) (x : Tables) (a n b m start end : ℕ) (f : Frame) : Type 0 where
  pub accepted : both_ground formats schema x a n b m ≡ 0
  pub ranges : range_in x a start end && range_in x b start end ≡ true
  pub doubles : is_double formats schema a n && is_double formats schema b m ≡ true
  pub its_frame : framed (stops formats schema x a n b m start end) ≡ some f

module _ (formats schema : List ℕ) (x : Tables) (a n b m : ℕ) where
  -- A BOX THAT IS ANSWERED is the frame of its rows: what holds of frames of lists holds of it
  pub box_frame : (start end : ℕ) (f : Frame) → box_of formats schema x a n b m start end ≡ Ok f → Answered formats schema x a n b m start end f
  unfolding box_of
  box_frame start end f = go (eqb (both_ground formats schema x a n b m) 0) refl (range_in x a start end && range_in x b start end) refl (is_double formats schema a n && is_double formats schema b m) refl
    where
      refused : {A : Type 0} {g : ℕ} → Err g ≡ Ok f → A
      refused e = let z : ◌≡◌ {A = ℕ} 0 1 = cc in absurd (omega arith)

      go : (p : Bool) → eqb (both_ground formats schema x a n b m) 0 ≡ p → (q : Bool) → range_in x a start end && range_in x b start end ≡ q
          → (r : Bool) → is_double formats schema a n && is_double formats schema b m ≡ r
          → cond p (cond q (cond r (found (framed (stops formats schema x a n b m start end))) (Err 10)) (Err 2)) (Err (both_ground formats schema x a n b m)) ≡ Ok f
          → Answered formats schema x a n b m start end f
      go false i q j r k e = refused e
      go true i false j r k e = refused e
      go true i true j false k e = refused e
      go true i true j true k e = record { accepted = eqb-true (both_ground formats schema x a n b m) 0 i; ranges = j; doubles = k; its_frame = is_within (framed (stops formats schema x a n b m start end)) f e }

  rows_cut : (start middle end : ℕ) → start ≤ middle → middle ≤ end
      → stops formats schema x a n b m start end ≡ stops formats schema x a n b m start middle ++ stops formats schema x a n b m middle end
  rows_cut start middle end l k =
      let e : end - start ≡ (middle - start) + (end - middle) = omega arith in
      let d : start + (middle - start) ≡ middle = omega arith in
      ap (seg (stop_at formats schema x a n b m) start) e
      ∙ seg_append (stop_at formats schema x a n b m) start (middle - start) (end - middle)
      ∙ ap (λ s. stops formats schema x a n b m start middle ++ seg (stop_at formats schema x a n b m) s (end - middle)) d

  -- A RANGE CUT IN TWO: the frame of both parts is joined from theirs, the left one first
  pub box_joined : (start middle end : ℕ) (f g : Frame) → box_of formats schema x a n b m start middle ≡ Ok f → box_of formats schema x a n b m middle end ≡ Ok g
      → box_of formats schema x a n b m start end ≡ Ok (joined f g)
  box_joined start middle end f g p q =
      let u = box_frame start middle f p in
      let v = box_frame middle end g q in
      let l = range_known x a start middle (and_left (range_in x a start middle) (range_in x b start middle) u.ranges) in
      let r = range_known x a middle end (and_left (range_in x a middle end) (range_in x b middle end) v.ranges) in
      let s = range_known x b middle end (and_right (range_in x a middle end) (range_in x b middle end) v.ranges) in
      let e : framed (stops formats schema x a n b m start end) ≡ some (joined f g) =
      ap framed (rows_cut start middle end l.0 r.0)
      ∙ frames_joined (stops formats schema x a n b m start middle) (stops formats schema x a n b m middle end)
      ∙ ap₂ together u.its_frame v.its_frame in
      sym (box_rows formats schema x a n b m start end u.accepted (range_both x a b start end (omega arith) r.1 s.1) u.doubles) ∙ ap found e
