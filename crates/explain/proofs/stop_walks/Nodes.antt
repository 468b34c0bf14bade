-- What each kind of node says, by the ways that the code goes. Assumes nothing.
use mathlib.Core.Path.{◌≡◌, refl, sym, ap, subst, ◌∙◌}
use mathlib.Core.Bool.{Bool, true, false, not, cond, ◌&&◌}
use mathlib.Core.List.{List}
use Prim.Native.Nat.{ℕ, zero, suc, ◌+◌, ◌*◌, ◌-◌, ◌≤◌, ◌<◌, min}
use native.Mathlib.Omega.{arith}
use native.Mathlib.Numerals.{add-one}
use native.Mathlib.Nat.{min-eq_left}
use lib.ListN.{length, get_or}
use lib.Dec.{leb, ltb, eqb}
use borrow.Author.Tests.{eq-eqb, ne_eqb, lt-ltb, le-ltb, ltb-true, ltb-false}
use Rattle.array_data.proofs.lent_tables.Laws.{no, yes}
use Rattle.columnar.specs.Types.{half}
use Rattle.number.specs.Number.{entry}
use Rattle.utils.specs.Offsets.{largest, moved, first_above}
use Rattle.utils.specs.Extension.{extended, over_at}
use Rattle.utils.specs.declared.Extended.{Extended}
use Rattle.utils.specs.declared.Extended.TheVariants.{Fits, Over, Falls}
use Rattle.std.specs.Prelude.{Option, Some, None}
use Rattle.run_ends.specs.declared.RunRange.{RunRange}
use Rattle.leaf_walk.specs.variable_size.Lists.{tried_offsets}
use Rattle.walk.specs.State.{Join, code_of, end_of, bytes_of, rows, bytes, place, length_of, offset_of, far, slot_of, rows_in, grown, top}
use Rattle.walk.specs.Log.{Out, Did, fail, done, need, found, next, wrote}
use Rattle.walk.specs.Leaves.{copy_mask, put_string}
use Rattle.walk.specs.Copy.{Walk, child_with, is_width, masked, id_at, position_at, dense_to, dense_row, runs_at, copy_data, copy_walk}
use Rattle.nested_rows.specs.Numbers.{runs_ready}
use Rattle.nested_rows.proofs.Laws.{ends_ready}
use Rattle.explain.specs.declared.stops.Why.{Why}
use Rattle.explain.specs.stops.Why.{only, nothing, clash, unless, past, first_of}
use Rattle.explain.specs.stops.Copy.{most, why_stretch, why_list, why_bytes, why_string, why_fields, why_sparse, why_dense_to, why_dense_at, why_dense_row, why_dense, why_run, why_runs, why_data, why_slots, why_node, why_copy}
use Rattle.explain.specs.declared.stop_walks.Step.{Step}
use Rattle.explain.specs.declared.stop_walks.Step.TheVariants.{On, Here, Below}
use Rattle.explain.specs.stop_walks.Step.{why_after, RowSays}
use Rattle.explain.proofs.stop_walks.Laws.{says_to, cut}

-- a number that was cut is not cut again
cut_once : (v m : ℕ) → v ≡ min m top → min v top ≡ v
cut_once v m e = min-eq_left (omega arith)

-- the row and the number of an extension that is over
pub over_cut : (w : ℕ) (s : List ℕ) (from n last : ℕ) {row needed : ℕ} → extended w s from n last ≡ Over row needed → min needed top ≡ needed
unfolding extended over_at
over_cut w s from n last {row} {needed} e = go (ltb (entry w s from n) (entry w s from 0)) (ltb (largest w) last) (ltb (largest w) (moved w s from last n)) e
  where
    go : (a b d : Bool) → cond a Falls (cond b Falls (cond d (over_at w s from n last) (Fits (moved w s from last n) (entry w s from 0)))) ≡ Over row needed → min needed top ≡ needed
    go true b d h = absurd (let z : ◌≡◌ {A = ℕ} 0 1 = cc in omega arith)
    go false true d h = absurd (let z : ◌≡◌ {A = ℕ} 0 1 = cc in omega arith)
    go false false true h = let z : min (moved w s from last (first_above (largest w) (λ k. moved w s from last (k + 1)) n + 1)) top ≡ needed = cc in cut_once needed _ (sym z)
    go false false false h = absurd (let z : ◌≡◌ {A = ℕ} 0 1 = cc in omega arith)

need_ans : (b : Bool) (c : List ℕ) (o : Out) → o.ans ≡ 0 → (need b 12 c o).ans ≡ cond b 0 12
unfolding need fail
need_ans true c o h = h
need_ans false c o h = refl

string_ans : (x : Join) (i w from n last lead : ℕ) (c : List ℕ) → (put_string x i w from n last lead c).ans ≡ cond (leb (place x i 5 + lead + (last - bytes c i)) (length x.body)) 0 12
unfolding put_string next wrote done
string_ans x i w from n last lead c = need_ans (leb (place x i 5 + lead + (last - bytes c i)) (length x.body)) c _ refl

module _ (x : Join) (depth : ℕ) where
  abbrev walk : Walk
  walk = copy_walk x depth

  abbrev why : ℕ → ℕ → ℕ → List ℕ → Why
  why = why_copy x depth

  -- ---- lists

  module _ (w i slot n : ℕ) (c : List ℕ) where
    pub list_none : n ≡ 0 → why_list x walk why w i slot n c ≡ nothing
    unfolding why_list
    list_none e = rw e refl

    module _ (s : n ≡ 0 → ⊥) {j : ℕ} (q : j ≡ suc i) where
      pub list_out : 32 ≤ j → why_list x walk why w i slot n c ≡ only 12
      unfolding why_list unless
      list_out h = rw (ne_eqb n 0 s, le-ltb (suc i) 32 (subst (λ z. 32 ≤ z) q h)) refl

      module _ (l : j < 32) {e : Extended} (f : e ≡ tried_offsets x w i slot n c) where
        list_by_lem : why_list x walk why w i slot n c ≡ why_stretch x walk why w i e c
        unfolding why_list unless tried_offsets
        list_by_lem = rw (ne_eqb n 0 s, lt-ltb (suc i) 32 (subst (λ z. z < 32) q l), f) (go (rows_in x (place x i 3) w slot (suc n)))
          where
            go : (b : Bool) → cond b (why_stretch x walk why w i (extended w x.body (place x i 3 + w * slot) n (rows c (suc i))) c) (only 12)
                ≡ why_stretch x walk why w i (cond b (extended w x.body (place x i 3 + w * slot) n (rows c (suc i))) Falls) c
            go true = refl
            go false = refl

        pub list_stretch : {last lead old : ℕ} → e ≡ Fits last lead → old ≡ rows c j → why_list x walk why w i slot n c ≡ why j lead (last - old) c
        list_stretch k o = list_by_lem ∙ rw (k, o, q) refl

        over_is : {row needed : ℕ} → e ≡ Over row needed → min needed top ≡ needed
        unfolding tried_offsets
        over_is {row} {needed} k = go (rows_in x (place x i 3) w slot (suc n)) (sym f ∙ k)
          where
            go : (b : Bool) → cond b (extended w x.body (place x i 3 + w * slot) n (rows c (suc i))) Falls ≡ Over row needed → min needed top ≡ needed
            go true h = over_cut w x.body (place x i 3 + w * slot) n (rows c (suc i)) h
            go false h = absurd (let z : ◌≡◌ {A = ℕ} 0 1 = cc in omega arith)

        pub list_clash : {row needed m : ℕ} → e ≡ Over row needed → m ≡ most w → why_list x walk why w i slot n c ≡ record { refusal = 6; node = i; row = row; needed = needed; allowed = m }
        list_clash {row} {needed} k g = list_by_lem ∙ rw (k, g) (ap (λ z. record { refusal = 6; node = i; row = row; needed = z; allowed = most w }) (over_is k))

        pub list_falls : e ≡ Falls → why_list x walk why w i slot n c ≡ only 12
        list_falls k = list_by_lem ∙ rw k refl

  -- ---- byte strings

  module _ (w i slot n : ℕ) (c : List ℕ) where
    pub string_none : n ≡ 0 → why_string x walk why w i slot n c ≡ nothing
    unfolding why_string
    string_none e = rw e refl

    module _ (s : n ≡ 0 → ⊥) {at : ℕ} (p : at ≡ place x i 3) {t : Bool} (f : t ≡ rows_in x at w slot (n + 1)) where
      test_is : rows_in x (place x i 3) w slot (suc n) ≡ t
      test_is = sym (f ∙ rw (p, add-one n) refl)

      pub string_foreign : not t ≡ true → why_string x walk why w i slot n c ≡ only 12
      unfolding why_string unless
      string_foreign h = rw (ne_eqb n 0 s, test_is ∙ f ∙ no f h) refl

      module _ (h : not t ≡ false) {from old : ℕ} (q : from ≡ at + w * slot) (o : old ≡ bytes c i) {e : Extended} (g : e ≡ extended w x.body from n old) where
        string_by : why_string x walk why w i slot n c ≡ why_bytes x walk why w i (place x i 3 + w * slot) n e c
        unfolding why_string unless
        string_by = rw (ne_eqb n 0 s, test_is ∙ f ∙ yes f h, g, q, o, p) refl

        pub string_fits : {last lead v : ℕ} → e ≡ Fits last lead → v ≡ cond (leb (place x i 5 + lead + (last - old)) (length x.body)) 0 12 → why_string x walk why w i slot n c ≡ only v
        string_fits {last} {lead} k l = string_by ∙ rw (k, l, o) (ap only (string_ans x i w (place x i 3 + w * slot) n last lead c))

        pub string_clash : {row needed m : ℕ} → e ≡ Over row needed → m ≡ most w → why_string x walk why w i slot n c ≡ record { refusal = 6; node = i; row = row; needed = needed; allowed = m }
        string_clash {row} {needed} k l = string_by ∙ rw (k, l) (ap (λ z. record { refusal = 6; node = i; row = row; needed = z; allowed = most w }) (over_cut w x.body from n old (sym g ∙ k)))

        pub string_falls : e ≡ Falls → why_string x walk why w i slot n c ≡ only 12
        string_falls k = string_by ∙ rw k refl

  -- ---- unions

  module _ (slot n end : ℕ) where
    pub fields_end : (f k : ℕ) (c : List ℕ) → end ≤ k → why_fields x walk why slot n end f k c ≡ nothing
    unfolding why_fields
    fields_end zero k c h = refl
    fields_end (suc f) k c h = rw (le-ltb k end h) refl

    pub fields_none : (f k : ℕ) (c : List ℕ) → f ≡ 0 → why_fields x walk why slot n end f k c ≡ nothing
    unfolding why_fields
    fields_none f k c e = rw e refl

    module _ (f f' k : ℕ) (c : List ℕ) (e : f ≡ suc f') (l : k < end) {s : Step} {c2 : List ℕ} (h : RowSays (walk k slot n c) (why k slot n c) x depth s c2) where
      field_on : (walk k slot n c).ans ≡ 0 → why_fields x walk why slot n end f k c ≡ why_fields x walk why slot n end f' (end_of x.plan k) (walk k slot n c).counters
      unfolding why_fields past
      field_on z = rw (e, lt-ltb k end l, eq-eqb (walk k slot n c).ans 0 z) refl

      field_stop : ((walk k slot n c).ans ≡ 0 → ⊥) → why_fields x walk why slot n end f k c ≡ why k slot n c
      unfolding why_fields past
      field_stop z = rw (e, lt-ltb k end l, ne_eqb (walk k slot n c).ans 0 z) refl

      pub fields_on : {k2 : ℕ} → k2 ≡ end_of x.plan k → s ≡ On → why_fields x walk why slot n end f k c ≡ why_fields x walk why slot n end f' k2 c2
      fields_on q z = let d = rw z at h.row in field_on d.0 ∙ rw (q, d.1) refl

      pub fields_here : {w : Why} → s ≡ Here w → why_fields x walk why slot n end f k c ≡ w
      fields_here z = let d = rw z at h.row in field_stop d.0 ∙ d.1

      pub fields_below : {j a m : ℕ} → s ≡ Below j a m → why_fields x walk why slot n end f k c ≡ why j a m c2
      fields_below z = let d = rw z at h.row in field_stop d.0 ∙ d.1

  module _ (i slot n : ℕ) (c : List ℕ) {at : ℕ} (p : at ≡ place x i 3) {t : Bool} (f : t ≡ rows_in x at 1 slot n) where
    pub sparse_foreign : not t ≡ true → why_sparse x walk why i slot n c ≡ only 12
    unfolding why_sparse unless
    sparse_foreign h = rw (sym (rw p at f) ∙ f ∙ no f h) refl

    pub sparse_fields : not t ≡ false → {end k : ℕ} → end ≡ end_of x.plan i → k ≡ suc i → why_sparse x walk why i slot n c ≡ why_fields x walk why slot n end 32 k c
    unfolding why_sparse unless
    sparse_fields h e q = rw (sym (rw p at f) ∙ f ∙ yes f h, e, q) refl

  -- the child of row r, by what was looked up
  pub child_is : (i slot r : ℕ) {at id end from k : ℕ} → at ≡ place x i 3 → id ≡ get_or x.body (at + (slot + r)) 0 → end ≡ end_of x.plan i → from ≡ suc i → k ≡ child_with x.plan id end 32 from
      → k ≡ child_with x.plan (id_at x walk i (slot + r)) (end_of x.plan i) 32 (suc i)
  child_is i slot r p q e f h = rw (q, p, e, f) at h

  module _ (i slot r : ℕ) (c : List ℕ) {k : ℕ} (e : k ≡ child_with x.plan (id_at x walk i (slot + r)) (end_of x.plan i) 32 (suc i)) where
    pub dense_none : 32 ≤ k → (c2 : List ℕ) → RowSays (dense_row x walk i slot r c) (why_dense_row x walk why i slot r c) x depth (Here (only 12)) c2
    unfolding dense_row why_dense_row why_dense_at found unless fail
    dense_none h c2 = rw (← e, le-ltb k 32 h) (record { row = ((λ z. absurd (omega (arith, z))), refl) })

    module _ (l : k < 32) {v : ℕ} (p : v ≡ rows c k) where
      pub dense_over : 2147483648 ≤ v → (c2 : List ℕ) → v ≤ top → RowSays (dense_row x walk i slot r c) (why_dense_row x walk why i slot r c) x depth (Here (record { refusal = 6; node = i; row = r; needed = v; allowed = 2147483647 })) c2
      unfolding dense_row why_dense_row why_dense_at why_dense_to dense_to found need unless fail
      dense_over h c2 m =
          let y : min v top ≡ v = min-eq_left m in
          rw (← e, lt-ltb k 32 l, ← p, le-ltb v (half 4) h) (record { row = ((λ z. absurd (omega (arith, z))), rw y refl) })

      pub dense_into : v < 2147483648 → {a : ℕ} → a ≡ position_at x walk i (slot + r) → (s : Step) {c2 : List ℕ} → RowSays (walk k a 1 c) (why k a 1 c) x depth s c2
          → RowSays (dense_row x walk i slot r c) (why_dense_row x walk why i slot r c) x depth s c2
      unfolding dense_row why_dense_row why_dense_at why_dense_to dense_to found need unless next wrote
      dense_into h q s d =
          let y : ltb (rows c k) (half 4) ≡ true = lt-ltb (rows c k) (half 4) (subst (λ z. z < 2147483648) p h) in
          says_to x depth s (rw (← e, lt-ltb k 32 l, y, q) refl) (rw (← e, lt-ltb k 32 l, y, q) refl) (rw (← e, lt-ltb k 32 l, y, q) refl) d

  module _ (i slot n : ℕ) (c : List ℕ) {t : Bool} (f : t ≡ (rows_in x (place x i 3) 1 slot n && rows_in x (place x i 5) 4 slot n)) where
    pub dense_foreign : not t ≡ true → why_dense x walk why i slot n c ≡ only 12
    unfolding why_dense unless
    dense_foreign h = rw (no f h) refl

    pub dense_rows_lem : not t ≡ false → why_dense x walk why i slot n c ≡ first_of (dense_row x walk i slot) (why_dense_row x walk why i slot) n 0 c
    unfolding why_dense unless
    dense_rows_lem h = rw (yes f h) refl

  -- ---- run-end nodes

  module _ (i slot n : ℕ) (c : List ℕ) where
    pub run_none : n ≡ 0 → why_runs x walk why i slot n c ≡ nothing
    unfolding why_runs
    run_none e = rw e refl

    abbrev W : ℕ
    W = bytes_of x.plan (suc i)

    abbrev inside : Bool
    inside = rows_in x (place x (suc i) 3) W (offset_of x (suc i)) (length_of x (suc i))

    -- what is asked first says the same
    data Asked (g : ℕ) (y : Why) : Type 0 where
      no_ends_lem : g ≡ 12 → y ≡ only 12 → Asked g y
      end_over : g ≡ 7 → (ltb (suc (suc i)) 32 && is_width W) ≡ true → y ≡ clash 7 i 0 (rows c i + n) (most W) → Asked g y
      all_ready : g ≡ 0 → y ≡ why_run x walk why i (runs_at x walk W i slot n) c → Asked g y

    asked : (n ≡ 0 → ⊥) → Asked (runs_ready x i n c).ans (why_runs x walk why i slot n c)
    unfolding runs_ready why_runs need unless fail done
    asked s = rw (ne_eqb n 0 s) (go (ltb (suc (suc i)) 32 && is_width W) (ltb (rows c i + n) (half W)) inside refl)
      where
        go : (t u v : Bool) → (ltb (suc (suc i)) 32 && is_width W) ≡ t
            → Asked (need t 12 c (need u 7 c (need v 12 c (done c)))).ans
            (unless t (only 12) (unless u (clash 7 i 0 (rows c i + n) (most W)) (unless v (only 12) (why_run x walk why i (runs_at x walk W i slot n) c))))
        go true true true e = all_ready refl refl
        go true true false e = no_ends_lem refl refl
        go true false v e = end_over refl e refl
        go false u v e = no_ends_lem refl refl

    module _ (s : n ≡ 0 → ⊥) {g : ℕ} (d : g ≡ (runs_ready x i n c).ans) where
      pub end_wide_lem : g ≡ 7 → (ltb (suc (suc i)) 32 && is_width W) ≡ true
      end_wide_lem z = go (runs_ready x i n c).ans (why_runs x walk why i slot n c) (asked s) (sym d ∙ z)
        where
          go : (v : ℕ) (y : Why) → Asked v y → v ≡ 7 → (ltb (suc (suc i)) 32 && is_width W) ≡ true
          go v y (no_ends_lem q h) z = absurd (omega (arith, q, z))
          go v y (end_over q e h) z = e
          go v y (all_ready q h) z = absurd (omega (arith, q, z))

      pub run_clash : g ≡ 7 → {r v w m : ℕ} → r ≡ rows c i → v ≡ grown r n → w ≡ W → m ≡ most w → why_runs x walk why i slot n c ≡ record { refusal = g; node = i; row = 0; needed = v; allowed = m }
      run_clash z {r} {v} {w} {m} p q k l = rw (z, cut r n q, p, l, k) (go (runs_ready x i n c).ans (why_runs x walk why i slot n c) (asked s) (sym d ∙ z))
        where
          go : (v : ℕ) (y : Why) → Asked v y → v ≡ 7 → y ≡ clash 7 i 0 (rows c i + n) (most W)
          go v y (no_ends_lem q h) z = absurd (omega (arith, q, z))
          go v y (end_over q e h) z = h
          go v y (all_ready q h) z = absurd (omega (arith, q, z))

      pub run_foreign : (g ≡ 7 → ⊥) → (g ≡ 0 → ⊥) → why_runs x walk why i slot n c ≡ only g
      run_foreign p q = rw d (go (runs_ready x i n c).ans (why_runs x walk why i slot n c) (asked s) (λ z. p (d ∙ z)) (λ z. q (d ∙ z)))
        where
          go : (v : ℕ) (y : Why) → Asked v y → (v ≡ 7 → ⊥) → (v ≡ 0 → ⊥) → y ≡ only v
          go v y (no_ends_lem q h) p z = rw q h
          go v y (end_over q e h) p z = absurd (p q)
          go v y (all_ready q h) p z = absurd (z q)

      module _ (z : g ≡ 0) {w : ℕ} (k : w ≡ W) {found : Option RunRange} (f : found ≡ runs_at x walk w i slot n) where
        run_by : why_runs x walk why i slot n c ≡ why_run x walk why i found c
        run_by = go (runs_ready x i n c).ans (why_runs x walk why i slot n c) (asked s) (sym d ∙ z)
          where
            go : (v : ℕ) (y : Why) → Asked v y → v ≡ 0 → y ≡ why_run x walk why i found c
            go v y (no_ends_lem q h) z = absurd (omega (arith, q, z))
            go v y (end_over q e h) z = absurd (omega (arith, q, z))
            go v y (all_ready q h) z = h ∙ rw (f, k) refl

        pub run_values : {at : RunRange} {j : ℕ} → found ≡ Some at → j ≡ suc (suc i) → why_runs x walk why i slot n c ≡ why j at.first.0 at.count c
        run_values e q = run_by ∙ rw (e, q) refl

        pub run_past : found ≡ None → why_runs x walk why i slot n c ≡ only 12
        run_past e = run_by ∙ rw e refl

-- run ends that are there have one of three widths
module _ (x : Join) (i : ℕ) (h : (ltb (suc (suc i)) 32 && is_width (bytes_of x.plan (suc i))) ≡ true) where
  pub ends_low : i + 2 < 32
  ends_low = (ends_ready i (bytes_of x.plan (suc i)) (sym h) refl).0

  pub ends_wide : {j w : ℕ} → j ≡ suc i → w ≡ bytes_of x.plan j → (w ≡ 2 → ⊥) → (w ≡ 4 → ⊥) → w ≡ 8
  ends_wide p q a b =
      let e = q ∙ ap (λ (z : ℕ). bytes_of x.plan z) p in
      e ∙ (ends_ready i (bytes_of x.plan (suc i)) (sym h) refl).1 (λ z. a (e ∙ z)) (λ z. b (e ∙ z))
