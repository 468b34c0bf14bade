-- The walk at a node by its format's code. Assumes nothing.
use mathlib.Core.Path.{◌≡◌, refl, sym, ap, subst, ◌∙◌}
use mathlib.Core.Bool.{Bool, true, false, not, cond, ◌&&◌}
use mathlib.Core.List.{List}
use Prim.Native.Nat.{ℕ, ◌≤◌, ◌<◌}
use native.Mathlib.Omega.{arith}
use lib.Dec.{leb, eqb}
use borrow.Author.Tests.{le-leb, lt-leb, leb-true, leb-false, ne_eqb}
use Rattle.schema.specs.formats.Code.{between, is_fixed, is_string, is_view, is_list_view, is_list}
use Rattle.array_data.proofs.lent_tables.Laws.{no, yes, is_none, is_some}
use Rattle.walk.specs.State.{Join, code_of, dictionary_of, bytes_of}
use Rattle.walk.specs.Log.{Out, Did, fail, done}
use Rattle.walk.specs.Leaves.{copy_mask, null_mask, count_nulls, copy_numbers, copy_keys, copy_views, copy_string, null_numbers, null_string}
use Rattle.walk.specs.Copy.{Walk, masked, copy_data, copy_list_view, copy_list, copy_sparse, copy_dense, copy_runs}
use Rattle.walk.specs.Nulls.{NullWalk, null_data, null_list_view, null_list, null_sparse, null_dense, null_runs}
use Rattle.walk.proofs.Laws.{fail_did, done_did}
use Rattle.leaf_walk.proofs.Widths.{fixed_width, string_width, list_width, lists_width}

-- ---- codes

under : (low high k : ℕ) → k < low → between low high k ≡ false
under low high k h = rw (lt-leb low k h)

above : (low high k : ℕ) → high < k → between low high k ≡ false
above low high k h = go (leb low k)
  where
    go : (t : Bool) → t && leb k high ≡ false
    go true = lt-leb k high h
    go false = refl

within : (low high k : ℕ) → low ≤ k → k ≤ high → between low high k ≡ true
within low high k h l = rw (le-leb low k h, le-leb k high l)

-- a code that is none of those from low to high
outside : (low high k : ℕ) → (low ≤ k → high < k) → between low high k ≡ false
outside low high k h = go (leb low k) refl
  where
    go : (t : Bool) → leb low k ≡ t → between low high k ≡ false
    go true e = above low high k (h (leb-true low k e))
    go false e = under low high k (leb-false low k e)

module _ (x : Join) (child : Walk) (code i slot n : ℕ) (c : List ℕ) where
  pub data_numbers : is_fixed code ≡ true → eqb (dictionary_of x.plan i) 0 ≡ true → copy_numbers x i (bytes_of x.plan i) slot n c ≡ copy_data x child code i slot n c
  unfolding copy_data
  data_numbers e h = rw (e, h)

  pub data_keys : is_fixed code ≡ true → eqb (dictionary_of x.plan i) 0 ≡ false → copy_keys x i (bytes_of x.plan i) slot n c ≡ copy_data x child code i slot n c
  unfolding copy_data
  data_keys e h = rw (e, h)

  pub data_string : is_fixed code ≡ false → is_string code ≡ true → copy_string x i (bytes_of x.plan i) slot n c ≡ copy_data x child code i slot n c
  unfolding copy_data
  data_string e h = rw (e, h)

  pub data_views : is_fixed code ≡ false → is_string code ≡ false → is_view code ≡ true → copy_views x i slot n c ≡ copy_data x child code i slot n c
  unfolding copy_data
  data_views e h l = rw (e, h, l)

  pub data_none : is_fixed code ≡ false → is_string code ≡ false → is_view code ≡ false → (17 ≤ code → 23 < code) → fail 12 c ≡ copy_data x child code i slot n c
  unfolding copy_data
  data_none e h l k =
      let f : (m : ℕ) → 17 ≤ m → m ≤ 23 → eqb code m ≡ false = λ m p q. ne_eqb code m (λ z. absurd (omega (arith, k (omega arith)))) in
      rw (e, h, l, outside 17 18 code (λ p. omega (arith, k p)), outside 19 20 code (λ p. omega (arith, k (omega arith))), f 21 (omega arith) (omega arith), f 22 (omega arith) (omega arith), f 23 (omega arith) (omega arith))

  -- a code from 17 on is none of a leaf's
  pub data_list_view : 17 ≤ code → code ≤ 18 → copy_list_view x child (bytes_of x.plan i) i slot n c ≡ copy_data x child code i slot n c
  unfolding copy_data
  data_list_view h l = rw (above 1 10 code (omega arith), above 11 14 code (omega arith), above 15 16 code (omega arith), within 17 18 code h l)

  pub data_list : 19 ≤ code → code ≤ 20 → copy_list x child (bytes_of x.plan i) i slot n c ≡ copy_data x child code i slot n c
  unfolding copy_data
  data_list h l = rw (above 1 10 code (omega arith), above 11 14 code (omega arith), above 15 16 code (omega arith), above 17 18 code (omega arith), within 19 20 code h l)

  pub data_sparse : code ≡ 21 → copy_sparse x child i slot n c ≡ copy_data x child code i slot n c
  unfolding copy_data
  data_sparse h = rw h

  pub data_dense : code ≡ 22 → copy_dense x child i slot n c ≡ copy_data x child code i slot n c
  unfolding copy_data
  data_dense h = rw h

  pub data_runs : code ≡ 23 → copy_runs x child i slot n c ≡ copy_data x child code i slot n c
  unfolding copy_data
  data_runs h = rw h

module _ (x : Join) (child : NullWalk) (code i n : ℕ) (c : List ℕ) where
  pub null_numbers_lem : is_fixed code ≡ true → null_numbers x i 1 (bytes_of x.plan i) n c ≡ null_data x child code i n c
  unfolding null_data
  null_numbers_lem e = rw e

  pub null_string_lem : is_fixed code ≡ false → is_string code ≡ true → null_string x i (bytes_of x.plan i) n c ≡ null_data x child code i n c
  unfolding null_data
  null_string_lem e h = rw (e, h)

  pub null_views : is_fixed code ≡ false → is_string code ≡ false → is_view code ≡ true → null_numbers x i 1 16 n c ≡ null_data x child code i n c
  unfolding null_data
  null_views e h l = rw (e, h, l)

  pub null_list_view_lem : is_fixed code ≡ false → is_string code ≡ false → is_view code ≡ false → is_list_view code ≡ true → null_list_view x child (bytes_of x.plan i) i n c ≡ null_data x child code i n c
  unfolding null_data
  null_list_view_lem e h l k = rw (e, h, l, k)

  pub null_list_lem : is_fixed code ≡ false → is_string code ≡ false → is_view code ≡ false → is_list_view code ≡ false → is_list code ≡ true → null_list x child (bytes_of x.plan i) i n c ≡ null_data x child code i n c
  unfolding null_data
  null_list_lem e h l k o = rw (e, h, l, k, o)

  pub null_none : is_fixed code ≡ false → is_string code ≡ false → is_view code ≡ false → is_list_view code ≡ false → is_list code ≡ false → (21 ≤ code → 23 < code)
      → fail 12 c ≡ null_data x child code i n c
  unfolding null_data
  null_none e h l k o m =
      let f : (j : ℕ) → 21 ≤ j → j ≤ 23 → eqb code j ≡ false = λ j p q. ne_eqb code j (λ z. absurd (omega (arith, m (omega arith)))) in
      rw (e, h, l, k, o, f 21 (omega arith) (omega arith), f 22 (omega arith) (omega arith), f 23 (omega arith) (omega arith))

  pub null_sparse_lem : code ≡ 21 → null_sparse x child i n c ≡ null_data x child code i n c
  unfolding null_data
  null_sparse_lem h = rw h

  pub null_dense_lem : code ≡ 22 → null_dense x child i n c ≡ null_data x child code i n c
  unfolding null_data
  null_dense_lem h = rw h

  pub null_runs_lem : code ≡ 23 → null_runs x child i n c ≡ null_data x child code i n c
  unfolding null_data
  null_runs_lem h = rw h

-- ---- as the code goes

by : {plan parts : List ℕ} {wr : Bool} {room : List ℕ} {r : ℕ} {c2 room2 : List ℕ} {o o2 : Out} → o ≡ o2 → Did plan parts wr o room r c2 room2 → Did plan parts wr o2 room r c2 room2
by {plan} {parts} {wr} {room} {r} {c2} {room2} e d = subst (λ (o : Out). Did plan parts wr o room r c2 room2) e d

-- what a test of the code answered, of the code itself
tested : (f : ℕ → Bool) {code k : ℕ} {t v : Bool} → code ≡ k → t ≡ f code → t ≡ v → f k ≡ v
tested f e g h = ap f (sym e) ∙ sym g ∙ h

module _ (plan : List ℕ) (i : ℕ) {code w : ℕ} {t : Bool} (e : code ≡ code_of plan i) (f : w ≡ bytes_of plan i) where
  pub fixed_wide : t ≡ is_fixed code → t ≡ true → (w ≡ 1 → ⊥) → (w ≡ 2 → ⊥) → (w ≡ 4 → ⊥) → w ≡ 8
  fixed_wide g h a b d = f ∙ fixed_width (code_of plan i) (tested is_fixed e g h) (λ z. a (f ∙ z)) (λ z. b (f ∙ z)) (λ z. d (f ∙ z))

  pub string_wide : t ≡ is_string code → t ≡ true → (w ≡ 4 → ⊥) → w ≡ 8
  string_wide g h a = f ∙ string_width (code_of plan i) (tested is_string e g h) (λ z. a (f ∙ z))

  pub list_wide : t ≡ is_list_view code → t ≡ true → (w ≡ 4 → ⊥) → w ≡ 8
  list_wide g h a = f ∙ list_width (code_of plan i) (tested is_list_view e g h) (λ z. a (f ∙ z))

  pub lists_wide : t ≡ is_list code → t ≡ true → (w ≡ 4 → ⊥) → w ≡ 8
  lists_wide g h a = f ∙ lists_width (code_of plan i) (tested is_list e g h) (λ z. a (f ∙ z))

module _ (x : Join) (wr : Bool) (i slot n : ℕ) (c room : List ℕ) {code : ℕ} {t : Bool} (e : code ≡ code_of x.plan i) (g : t ≡ masked code) where
  pub valid_none : not t ≡ true → Did x.plan x.parts wr (cond (masked (code_of x.plan i)) (copy_mask x i slot n c) (done c)) room 0 c room
  valid_none h = rw (rw e at (no g h)) (done_did wr c room)

  pub valid_some : {r : ℕ} {c2 room2 : List ℕ} → not t ≡ false → Did x.plan x.parts wr (copy_mask x i slot n c) room r c2 room2
      → Did x.plan x.parts wr (cond (masked (code_of x.plan i)) (copy_mask x i slot n c) (done c)) room r c2 room2
  valid_some h d = rw (rw e at (yes g h)) d

module _ (x : Join) (wr : Bool) (i n : ℕ) (c room : List ℕ) {code r : ℕ} {t : Bool} {c2 room2 : List ℕ} (e : code ≡ code_of x.plan i) (g : t ≡ masked code) where
  pub nulls_counted : not t ≡ true → Did x.plan x.parts wr (count_nulls x i n c) room r c2 room2
      → Did x.plan x.parts wr (cond (masked (code_of x.plan i)) (null_mask x i n c) (count_nulls x i n c)) room r c2 room2
  nulls_counted h d = rw (rw e at (no g h)) d

  pub nulls_masked : not t ≡ false → Did x.plan x.parts wr (null_mask x i n c) room r c2 room2
      → Did x.plan x.parts wr (cond (masked (code_of x.plan i)) (null_mask x i n c) (count_nulls x i n c)) room r c2 room2
  nulls_masked h d = rw (rw e at (yes g h)) d

module _ (x : Join) (child : Walk) (wr : Bool) (i slot n : ℕ) (c room : List ℕ) {code w : ℕ} (e : code ≡ code_of x.plan i) (f : w ≡ bytes_of x.plan i) {t : Bool} (g : t ≡ is_fixed code) where
  abbrev Goes : ℕ → List ℕ → List ℕ → Type 0
  Goes r c2 room2 = Did x.plan x.parts wr (copy_data x child (code_of x.plan i) i slot n c) room r c2 room2

  pub to_numbers : {v r : ℕ} {c2 room2 : List ℕ} → t ≡ true → v ≡ dictionary_of x.plan i → v ≡ 0 → Did x.plan x.parts wr (copy_numbers x i w slot n c) room r c2 room2 → Goes r c2 room2
  to_numbers h k l d = by (data_numbers x child (code_of x.plan i) i slot n c (tested is_fixed e g h) (is_none k l)) (rw f at d)

  pub to_keys : {v r : ℕ} {c2 room2 : List ℕ} → t ≡ true → v ≡ dictionary_of x.plan i → (v ≡ 0 → ⊥) → Did x.plan x.parts wr (copy_keys x i w slot n c) room r c2 room2 → Goes r c2 room2
  to_keys h k l d = by (data_keys x child (code_of x.plan i) i slot n c (tested is_fixed e g h) (is_some k l)) (rw f at d)

  module _ (h : t ≡ false) {u : Bool} (k : u ≡ is_string code) where
    pub to_string : {r : ℕ} {c2 room2 : List ℕ} → u ≡ true → Did x.plan x.parts wr (copy_string x i w slot n c) room r c2 room2 → Goes r c2 room2
    to_string l d = by (data_string x child (code_of x.plan i) i slot n c (tested is_fixed e g h) (tested is_string e k l)) (rw f at d)

    module _ (l : u ≡ false) {v : Bool} (m : v ≡ is_view code) where
      pub to_views : {r : ℕ} {c2 room2 : List ℕ} → v ≡ true → Did x.plan x.parts wr (copy_views x i slot n c) room r c2 room2 → Goes r c2 room2
      to_views o d = by (data_views x child (code_of x.plan i) i slot n c (tested is_fixed e g h) (tested is_string e k l) (tested is_view e m o)) d

      pub to_none : v ≡ false → (17 ≤ code_of x.plan i → 23 < code_of x.plan i) → Goes 12 c room
      to_none o q = by (data_none x child (code_of x.plan i) i slot n c (tested is_fixed e g h) (tested is_string e k l) (tested is_view e m o) q) (fail_did wr 12 c room)

module _ (x : Join) (child : NullWalk) (wr : Bool) (i n : ℕ) (c room : List ℕ) {code w : ℕ} (e : code ≡ code_of x.plan i) (f : w ≡ bytes_of x.plan i) {t : Bool} (g : t ≡ is_fixed code) where
  abbrev Nulls : ℕ → List ℕ → List ℕ → Type 0
  Nulls r c2 room2 = Did x.plan x.parts wr (null_data x child (code_of x.plan i) i n c) room r c2 room2

  pub on_numbers : {r : ℕ} {c2 room2 : List ℕ} → t ≡ true → Did x.plan x.parts wr (null_numbers x i 1 w n c) room r c2 room2 → Nulls r c2 room2
  on_numbers h d = by (null_numbers_lem x child (code_of x.plan i) i n c (tested is_fixed e g h)) (rw f at d)

  module _ (h : t ≡ false) {u : Bool} (k : u ≡ is_string code) where
    pub on_string : {r : ℕ} {c2 room2 : List ℕ} → u ≡ true → Did x.plan x.parts wr (null_string x i w n c) room r c2 room2 → Nulls r c2 room2
    on_string l d = by (null_string_lem x child (code_of x.plan i) i n c (tested is_fixed e g h) (tested is_string e k l)) (rw f at d)

    module _ (l : u ≡ false) {v : Bool} (m : v ≡ is_view code) where
      pub on_views : {r : ℕ} {c2 room2 : List ℕ} → v ≡ true → Did x.plan x.parts wr (null_numbers x i 1 16 n c) room r c2 room2 → Nulls r c2 room2
      on_views o d = by (null_views x child (code_of x.plan i) i n c (tested is_fixed e g h) (tested is_string e k l) (tested is_view e m o)) d

      module _ (o : v ≡ false) {z : Bool} (q : z ≡ is_list_view code) where
        pub on_list_view : {r : ℕ} {c2 room2 : List ℕ} → z ≡ true → Did x.plan x.parts wr (null_list_view x child w i n c) room r c2 room2 → Nulls r c2 room2
        on_list_view s d = by (null_list_view_lem x child (code_of x.plan i) i n c (tested is_fixed e g h) (tested is_string e k l) (tested is_view e m o) (tested is_list_view e q s)) (rw f at d)

        module _ (s : z ≡ false) {y : Bool} (p : y ≡ is_list code) where
          pub on_list : {r : ℕ} {c2 room2 : List ℕ} → y ≡ true → Did x.plan x.parts wr (null_list x child w i n c) room r c2 room2 → Nulls r c2 room2
          on_list a d =
              by (null_list_lem x child (code_of x.plan i) i n c (tested is_fixed e g h) (tested is_string e k l) (tested is_view e m o) (tested is_list_view e q s) (tested is_list e p a)) (rw f at d)

          pub on_none : y ≡ false → (21 ≤ code_of x.plan i → 23 < code_of x.plan i) → Nulls 12 c room
          on_none a j =
              by (null_none x child (code_of x.plan i) i n c (tested is_fixed e g h) (tested is_string e k l) (tested is_view e m o) (tested is_list_view e q s) (tested is_list e p a) j)
              (fail_did wr 12 c room)
