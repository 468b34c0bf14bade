-- What is accepted of narrow sources is accepted of wide ones, with the same counts. Assumes nothing.
use mathlib.Core.Path.{◌≡◌, refl, ap, ap₂}
use mathlib.Core.Bool.{Bool, true, false, cond}
use mathlib.Core.List.{List, [], ◌∷◌, Memᴰ}
use Prim.Native.Nat.{ℕ, zero, suc, ◌+◌, ◌-◌, ◌≤◌, ◌<◌}
use native.Mathlib.Nat.{zero-add, add_assoc}
use native.Mathlib.Omega.{arith}
use lib.ListN.{get_or}
use lib.Dec.{ltb, leb, eqb}
use Rattle.columnar.specs.Row.{Row, union}
use Rattle.columnar.specs.Types.{Plain, half, Ty}
use Rattle.columnar.specs.Array.{Array, item, Obeys}
use Rattle.columnar.specs.Plain.{PlainBody, OffsetsRule, empty, full}
use Rattle.columnar.specs.ListView.{ListView, ListViewRule}
use Rattle.columnar.specs.List.{Listed, ListRule}
use Rattle.columnar.specs.Union.{Sparse, Dense, SparseRule, DenseRule}
use Rattle.columnar.specs.RunEnd.{RunEnd, end_of, RunEndRule}
use Rattle.columnar.specs.Reading.{Column, Source}
use Rattle.columnar.specs.Wider.{Declared, PlainWider, w_fixed, w_string, Wider, w_plain, w_view, w_list_view, w_list, w_sparse, w_dense, w_run_end, w_dictionary, Kept, OffsetsKept, entries, no_entry, PlainKept, ListViewKept, ListKept, SparseKept, DenseKept, RunEndKept, Stored}
use Rattle.columnar.proofs.Kept.{half_mono}
use Rattle.columnar.proofs.WiderKinds.{ends_same, declares, offsets_most}
use Rattle.columnar.proofs.FirstAbove.{first_same, first_below}
use Rattle.model.specs.Try.{Try, done, stop, then, guard}
use Rattle.model.specs.Ordered.{first_nullable, home, union_null, null_row}
use Rattle.model.specs.Grounds.{Counts, counts, rows_of, bytes_of, kid_of, Ask, AskNulls, ask_of, plain_ask, list_view_row, list_view_ask, list_ask, sparse_ask, with_kid, dense_row, dense_ask, first_run, run_count, run_end_ask, ask_copy, sparse_nulls, dense_nulls, run_end_nulls, plain_nulls, unless_none, nulls_ask, ask_nulls, start_counts}
use Rattle.model.proofs.Follow.{Follows, same, free, among_same, follows_done, follows_refl, follows_then, follows_guard, ltb_up, follows_steps, follows_all}

-- an array's slots a .. a + n - 1 ask the same of the counts, narrow and wide
abbrev pub AsksAgain : {P P' : Type 0} → (P → Ask) → (P' → Ask) → Array P → Array P' → Type 0
AsksAgain ask ask' x x' = (a n : ℕ) → a + n ≤ x.len → (c : Counts) → Follows (ask_of ask x a n c) (ask_of ask' x' a n c)

-- ---- byte strings

-- the bytes of the n rows from a on are as many
bytes_same : (w w' : ℕ) (s s' : List ℕ) (most off len : ℕ) → OffsetsKept w w' s s' most off len → (a n : ℕ) → a + n ≤ len
    → item w s (off + a + n) - item w s (off + a) ≡ item w' s' (off + a + n) - item w' s' (off + a)
bytes_same w w' s s' most off len (entries p e) a n q =
    let z : off + a + n ≡ off + (a + n) = omega arith in
    rw (z, e.kept (a + n) (omega arith), e.kept a (omega arith))
bytes_same w w' s s' most off len (no_entry e g r) a n q =
    let z : off + a + n ≡ off + a = omega arith in
    rw z (omega arith)

pub plain_again : {p p' : Plain} (d : PlainWider p p') (x : Array (PlainBody p)) (x' : Array (PlainBody p')) → Kept (PlainKept d) x x' → AsksAgain (plain_ask p) (plain_ask p') x x'
plain_again (w_fixed n) x x' h a k q c = same _
plain_again (w_string w w' ww) x x' h a n q c =
    rw (← h.same_off, ← bytes_same w w' x.body.offsets x'.body.offsets _ x.off x.len h.same_body.same_offsets a n q)
    (follows_guard _ _ 6 6 (ltb_up _ (half w) (half w') (half_mono ww)) (same _))

-- ---- list-views

module _ {P P' : Type 0} (w w' : ℕ) (ww : w ≤ w') {kept : Array P → Array P' → Type 0} {kid : Array P → Type 0} (ask : P → Ask) (ask' : P' → Ask) where
  list_row_again : (okay : ℕ → Bool) (b : ListView P) (b' : ListView P') (off len : ℕ) → ListViewKept w w' kept okay b b' off len → ListViewRule w kid okay b off len
      → AsksAgain ask ask' b.child b'.child → (i : ℕ) → i < len → (c : Counts)
      → Follows (list_view_row w ask b (off + i) c) (list_view_row w' ask' b' (off + i) c)
  list_row_again okay b b' off len h s k i q c =
      rw (← h.same_sizes.kept i q, ← h.same_offsets.kept i q)
      (follows_guard _ _ 6 6 (ltb_up _ (half w) (half w') (half_mono ww))
      (follows_then _ _ (k (item w b.offsets (off + i)) (item w b.sizes (off + i)) (s.entries i q).within (kid_of c 0)) (λ x. same _)))

  pub list_again : (x : Array (ListView P)) (x' : Array (ListView P')) → Kept (ListViewKept w w' kept) x x' → Obeys true (ListViewRule w kid) x
      → AsksAgain ask ask' x.body.child x'.body.child → AsksAgain (list_view_ask w ask) (list_view_ask w' ask') x x'
  list_again x x' h s k a n q c =
      rw (← h.same_off)
      (follows_steps (list_view_row w ask x.body) (list_view_row w' ask' x'.body) (x.off + a) n
      (λ i y e. rw add_assoc (list_row_again _ x.body x'.body x.off x.len h.same_body s.slots k (a + i) (omega arith) e)) c)

-- ---- lists

-- the first offset of a row
offset_same : (w w' : ℕ) (s s' : List ℕ) (most off len : ℕ) → OffsetsKept w w' s s' most off len → (a : ℕ) → a < len → item w s (off + a) ≡ item w' s' (off + a)
offset_same w w' s s' most off len (entries p e) a q = e.kept a (omega arith)
offset_same w w' s s' most off len (no_entry e g r) a q = absurd (omega arith)

-- the stretch of n rows, of which there is one, lies within the child
rows_within : (w : ℕ) (s : List ℕ) (most off len : ℕ) → OffsetsRule w s most off len → (a n : ℕ) → a + suc n ≤ len
    → item w s (off + a) + (item w s (off + a + suc n) - item w s (off + a)) ≤ most
rows_within w s most off len (empty e x) a n q = absurd (omega arith)
rows_within w s most off len (full o) a n q =
    let z : off + a + suc n ≡ off + (a + suc n) = omega arith in
    rw z (omega (arith, offsets_most w s most off len o (len - (a + suc n)) (a + suc n) (omega arith), offsets_most w s most off len o (len - a) a (omega arith)))

module _ {P P' : Type 0} (w w' : ℕ) (ww : w ≤ w') {kept : Array P → Array P' → Type 0} {kid : Array P → Type 0} (ask : P → Ask) (ask' : P' → Ask) where
  pub lists_again : (x : Array (Listed P)) (x' : Array (Listed P')) → Kept (ListKept w w' kept) x x' → Obeys true (ListRule w kid) x
      → AsksAgain ask ask' x.body.child x'.body.child → AsksAgain (list_ask w ask) (list_ask w' ask') x x'
  lists_again x x' h s k a zero q c = same c
  lists_again x x' h s k a (suc n) q c =
      let o = item w x.body.offsets in
      rw (
        ← h.same_off,
        ← bytes_same w w' x.body.offsets x'.body.offsets _ x.off x.len h.same_body.same_offsets a (suc n) q,
        ← offset_same w w' x.body.offsets x'.body.offsets _ x.off x.len h.same_body.same_offsets a (omega arith),
      )
      (follows_guard _ _ 6 6 (ltb_up _ (half w) (half w') (half_mono ww))
      (follows_then _ _ (k (o (x.off + a)) (o (x.off + a + suc n) - o (x.off + a)) (rows_within w x.body.offsets x.body.child.len x.off x.len s.slots.offsets_rule_lem a n q) (kid_of c 0)) (λ y. same _)))

-- ---- unions

module _ {P P' : ℕ → Type 0} (ids : List ℕ) {kept : (c : ℕ) → Declared ids c → Array (P c) → Array (P' c) → Type 0} {kid : (c : ℕ) → Array (P c) → Type 0}
    (ask : (c : ℕ) → P c → Ask) (ask' : (c : ℕ) → P' c → Ask) where
  -- a slot of a sparse union is the child's slot at the same place: off + a of the union is a row of the child
  sparse_again : (x : Array (Sparse P)) (x' : Array (Sparse P')) → Kept (SparseKept (Declared ids) kept) x x' → Obeys false (SparseRule ids kid) x
      → ((e : ℕ) → Memᴰ e ids → AsksAgain (ask e) (ask' e) (x.body.children e) (x'.body.children e)) → AsksAgain (sparse_ask ids ask) (sparse_ask ids ask') x x'
  sparse_again x x' h s k a n q c =
      rw (← h.same_off) (follows_all ids _ _ (rows_of c + n) (λ e m. k e m (x.off + a) n (omega (arith, s.slots.long e m)) (kid_of c e)))

  dense_row_again : (okay : ℕ → Bool) (b : Dense P) (b' : Dense P') (off len : ℕ) → DenseKept (Declared ids) kept okay b b' off len → DenseRule ids kid okay b off len
      → ((e : ℕ) → Memᴰ e ids → AsksAgain (ask e) (ask' e) (b.children e) (b'.children e)) → (i : ℕ) → i < len → (c : Counts)
      → Follows (dense_row ask b (off + i) c) (dense_row ask' b' (off + i) c)
  dense_row_again okay b b' off len h s k i q c =
      let e = get_or b.ids (off + i) 0 in
      rw (← h.same_ids_lem.kept i q, ← h.same_positions.kept i q)
      (follows_guard (ltb (rows_of (kid_of c e)) (half 4)) (ltb (rows_of (kid_of c e)) (half 4)) 6 6 (λ z. z)
      (follows_then _ _ (k e (s.declared i q) (item 4 b.positions (off + i)) 1 (omega (arith, s.within i q)) (kid_of c e))
      (λ x. same (counts (suc (rows_of c)) 0 (with_kid c e x)))))

  dense_again : (x : Array (Dense P)) (x' : Array (Dense P')) → Kept (DenseKept (Declared ids) kept) x x' → Obeys false (DenseRule ids kid) x
      → ((e : ℕ) → Memᴰ e ids → AsksAgain (ask e) (ask' e) (x.body.children e) (x'.body.children e)) → AsksAgain (dense_ask ask) (dense_ask ask') x x'
  dense_again x x' h s k a n q c =
      rw (← h.same_off)
      (follows_steps (dense_row ask x.body) (dense_row ask' x'.body) (x.off + a) n
      (λ i y e. rw add_assoc (dense_row_again _ x.body x'.body x.off x.len h.same_body s.slots k (a + i) (omega arith) e)) c)

-- ---- run-end columns

-- the same first run, for any slot
first_run_same : {P P' : Type 0} (w w' : ℕ) {kept : Array P → Array P' → Type 0} (okay : ℕ → Bool) (b : RunEnd P) (b' : RunEnd P') (off len : ℕ)
    → RunEndKept w w' kept okay b b' off len → (i : ℕ) → first_run w b i ≡ first_run w' b' i
first_run_same w w' okay b b' off len h i =
    rw (← h.same_ends.same_len)
    (first_same (end_of w b.ends) (end_of w' b'.ends) i 0 b.ends.len (λ j y. rw zero-add (ends_same w w' b.ends b'.ends h.same_ends j y)))

-- the runs that n slots touch are among the values
runs_within : {P : Type 0} (w : ℕ) {kid : Array P → Type 0} (okay : ℕ → Bool) (b : RunEnd P) (off len : ℕ) → RunEndRule w kid okay b off len → (a n : ℕ) → a + suc n ≤ len
    → first_run w b (off + a) + run_count w b (off + a) (suc n) ≤ b.values.len
runs_within w okay b off len s a n q =
    let f = first_below (end_of w b.ends) (off + a) b.ends.len (omega (arith, s.covers)) in
    let g = first_below (end_of w b.ends) (off + a + suc n - 1) b.ends.len (omega (arith, s.covers)) in
    omega (arith, s.as_many)

runs_again : {P P' : Type 0} (w w' : ℕ) → w ≤ w' → {kept : Array P → Array P' → Type 0} {kid : Array P → Type 0} (ask : P → Ask) (ask' : P' → Ask)
    (x : Array (RunEnd P)) (x' : Array (RunEnd P')) → Kept (RunEndKept w w' kept) x x' → Obeys false (RunEndRule w kid) x
    → AsksAgain ask ask' x.body.values x'.body.values → AsksAgain (run_end_ask w ask) (run_end_ask w' ask') x x'
runs_again w w' ww ask ask' x x' h s k a zero q c = same c
runs_again w w' ww ask ask' x x' h s k a (suc n) q c =
    let f = first_run_same w w' _ x.body x'.body x.off x.len h.same_body in
    let o = x.off + a in
    rw (← h.same_off, ← f o, ← f (o + suc n - 1))
    (follows_guard _ _ 7 7 (ltb_up _ (half w) (half w') (half_mono ww))
    (follows_then _ _ (k (first_run w x.body o) (run_count w x.body o (suc n)) (runs_within w _ x.body x.off x.len s.slots a n q) (kid_of c 0)) (λ y. same _)))

-- ---- every type

pub copy_again : {t t' : Ty} (d : Wider t t') (x : Column t) (x' : Column t') → Stored d x x' → Source t x → AsksAgain (ask_copy t) (ask_copy t') x x'
copy_again (w_plain d) x x' h s = plain_again d x x' h
copy_again w_view x x' h s = λ a n q c. same _
copy_again (w_list_view w w' {t} {t'} ww d) x x' h s =
    list_again w w' ww (ask_copy t) (ask_copy t') x x' h s (copy_again d x.body.child x'.body.child h.same_body.same_child_lem s.slots.child_rule)
copy_again (w_list w w' {t} {t'} ww d) x x' h s =
    lists_again w w' ww (ask_copy t) (ask_copy t') x x' h s (copy_again d x.body.child x'.body.child h.same_body.same_child_lem s.slots.child_rule)
copy_again (w_sparse ids {nullable} {nullable'} {f} {f'} n d) x x' h s =
    sparse_again ids (λ c. ask_copy (f c)) (λ c. ask_copy (f' c)) x x' h s
    (λ e m. copy_again (d e (declares e ids m)) (x.body.children e) (x'.body.children e) (h.same_body.same_children e (declares e ids m)) (s.slots.child_rule e m))
copy_again (w_dense ids {nullable} {nullable'} {f} {f'} n d) x x' h s =
    dense_again ids (λ c. ask_copy (f c)) (λ c. ask_copy (f' c)) x x' h s
    (λ e m. copy_again (d e (declares e ids m)) (x.body.children e) (x'.body.children e) (h.same_body.same_children e (declares e ids m)) (s.slots.child_rule e m))
copy_again (w_run_end w w' {t} {t'} ww d) x x' h s =
    runs_again w w' ww (ask_copy t) (ask_copy t') x x' h s (copy_again d x.body.values x'.body.values h.same_body.same_values s.slots.child_rule)
copy_again (w_dictionary k k' kk d) x x' h s = λ a n q c. same _

-- A COPY THAT IS ACCEPTED NARROW IS ACCEPTED WIDE, with the same counts
pub copy_wider : {t t' : Ty} (d : Wider t t') (x : Column t) (x' : Column t') → Stored d x x' → Source t x → (a n : ℕ) → a + n ≤ x.len
    → (c c' : Counts) → ask_of (ask_copy t) x a n c ≡ done c' → ask_of (ask_copy t') x' a n c ≡ done c'
copy_wider d x x' h s a n q c c' e = follows_done c' (copy_again d x x' h s a n q c) e

-- ---- nulls

-- an order of nulls asks the same of the counts
abbrev pub NullsAgain : AskNulls → AskNulls → Type 0
NullsAgain ask ask' = (n : ℕ) (c : Counts) → Follows (ask n c) (ask' n c)

unless_again : (ask ask' : AskNulls) → NullsAgain ask ask' → NullsAgain (unless_none ask) (unless_none ask')
unless_again ask ask' k zero c = same c
unless_again ask ask' k (suc n) c = k (suc n) c

plain_nulls_lem : {p p' : Plain} → PlainWider p p' → NullsAgain (plain_nulls p) (plain_nulls p')
plain_nulls_lem (w_fixed k) n c = same _
plain_nulls_lem (w_string w w' h) n c = same _

-- flags that agree at a union's ids have the same first nullable one
first_alike : (f g : ℕ → Bool) (ids : List ℕ) → ((c : ℕ) → Memᴰ c ids → f c ≡ g c) → first_nullable f ids ≡ first_nullable g ids
first_alike f g [] h = refl
first_alike f g (c ∷ cs) h = ap₂ (λ (b : Bool) (t : Try ℕ). elim b [ true ↦ done c | false ↦ t ]) (h c (Memᴰ.head refl)) (first_alike f g cs (λ e m. h e (Memᴰ.tail m)))

home_alike : (f g : ℕ → Bool) (ids : List ℕ) → ((c : ℕ) → Declared ids c → f c ≡ g c) → home f ids ≡ home g ids
home_alike f g [] h = refl
home_alike f g (c ∷ cs) h = first_alike f g (c ∷ cs) (λ e m. h e (declares e (c ∷ cs) m))

-- and it is one of them
abbrev HomeIn : List ℕ → Try ℕ → Type 0
HomeIn ids (done c) = Memᴰ c ids
HomeIn ids (stop g) = Unit {0}

first_in : (f : ℕ → Bool) (ids : List ℕ) → HomeIn ids (first_nullable f ids)
first_in f [] = tt
first_in f (c ∷ cs) = go (f c) (first_nullable f cs) (first_in f cs)
  where
    go : (b : Bool) (t : Try ℕ) → HomeIn cs t → HomeIn (c ∷ cs) (elim b [ true ↦ done c | false ↦ t ])
    go true t h = Memᴰ.head refl
    go false (done e) h = Memᴰ.tail h
    go false (stop g) h = tt

home_in : (f : ℕ → Bool) (ids : List ℕ) → HomeIn ids (home f ids)
home_in f [] = tt
home_in f (c ∷ cs) = first_in f (c ∷ cs)

-- what comes after it may use that
follows_home : {A : Type 0} (ids : List ℕ) (t : Try ℕ) (p q : ℕ → Try A) → HomeIn ids t → ((h : ℕ) → Memᴰ h ids → Follows (p h) (q h)) → Follows (then t p) (then t q)
follows_home ids (done c) p q m k = k c m
follows_home ids (stop g) p q m k = free g (stop g)

module _ (ids : List ℕ) (nullable nullable' : ℕ → Bool) (alike : (c : ℕ) → Declared ids c → nullable c ≡ nullable' c) (ask ask' : ℕ → AskNulls)
    (k : (e : ℕ) → Memᴰ e ids → NullsAgain (ask e) (ask' e)) where
  sparse_nulls_lem : NullsAgain (sparse_nulls ids nullable ask) (sparse_nulls ids nullable' ask')
  sparse_nulls_lem n c =
      rw (← home_alike nullable nullable' ids alike)
      (follows_then _ _ (follows_refl (home nullable ids)) (λ h. follows_all ids _ _ (rows_of c + n) (λ e m. k e m n (kid_of c e))))

  dense_nulls_lem : NullsAgain (dense_nulls ids nullable ask) (dense_nulls ids nullable' ask')
  dense_nulls_lem n c =
      rw (← home_alike nullable nullable' ids alike)
      (follows_home ids (home nullable ids) _ _ (home_in nullable ids)
      (λ h m.
      follows_guard (leb (rows_of (kid_of c h) + n) (half 4)) (leb (rows_of (kid_of c h) + n) (half 4)) 6 6 (λ z. z)
      (follows_then _ _ (k h m n (kid_of c h)) (λ y. same (counts (rows_of c + n) 0 (with_kid c h y))))))

runs_nulls : (w w' : ℕ) → w ≤ w' → (ask ask' : AskNulls) → NullsAgain ask ask' → NullsAgain (run_end_nulls w ask) (run_end_nulls w' ask')
runs_nulls w w' ww ask ask' k n c = go (eqb (bytes_of c) 2)
  where
    go : (t : Bool)
        → Follows (cond t (guard (ltb (rows_of c + n) (half w)) 7 (done (counts (rows_of c + n) 2 (λ e. kid_of c 0))))
        (then (ask 1 (kid_of c 0)) (λ x. guard (ltb (rows_of c + n) (half w)) 7 (done (counts (rows_of c + n) (cond (eqb (bytes_of c) 0) 0 2) (λ e. x))))))
        (cond t (guard (ltb (rows_of c + n) (half w')) 7 (done (counts (rows_of c + n) 2 (λ e. kid_of c 0))))
        (then (ask' 1 (kid_of c 0)) (λ x. guard (ltb (rows_of c + n) (half w')) 7 (done (counts (rows_of c + n) (cond (eqb (bytes_of c) 0) 0 2) (λ e. x))))))
    go true = follows_guard _ _ 7 7 (ltb_up _ (half w) (half w') (half_mono ww)) (same _)
    go false = follows_then _ _ (k 1 (kid_of c 0)) (λ y. follows_guard _ _ 7 7 (ltb_up _ (half w) (half w') (half_mono ww)) (same _))

nulls_again : {t t' : Ty} → Wider t t' → NullsAgain (nulls_ask t) (nulls_ask t')
nulls_again (w_plain d) = plain_nulls_lem d
nulls_again w_view = λ n c. same _
nulls_again (w_list_view w w' ww d) = λ n c. same _
nulls_again (w_list w w' ww d) = λ n c. same _
nulls_again (w_sparse ids {nullable} {nullable'} {f} {f'} n d) =
    sparse_nulls_lem ids nullable nullable' n (λ e. unless_none (nulls_ask (f e))) (λ e. unless_none (nulls_ask (f' e)))
    (λ e m. unless_again (nulls_ask (f e)) (nulls_ask (f' e)) (nulls_again (d e (declares e ids m))))
nulls_again (w_dense ids {nullable} {nullable'} {f} {f'} n d) =
    dense_nulls_lem ids nullable nullable' n (λ e. unless_none (nulls_ask (f e))) (λ e. unless_none (nulls_ask (f' e)))
    (λ e m. unless_again (nulls_ask (f e)) (nulls_ask (f' e)) (nulls_again (d e (declares e ids m))))
nulls_again (w_run_end w w' {t} {t'} ww d) =
    runs_nulls w w' ww (unless_none (nulls_ask t)) (unless_none (nulls_ask t')) (unless_again (nulls_ask t) (nulls_ask t') (nulls_again d))
nulls_again (w_dictionary k k' kk d) = λ n c. same _

pub ask_nulls_again : {t t' : Ty} → Wider t t' → NullsAgain (ask_nulls t) (ask_nulls t')
ask_nulls_again {t} {t'} d = unless_again (nulls_ask t) (nulls_ask t') (nulls_again d)

-- NULLS THAT ARE ACCEPTED NARROW ARE ACCEPTED WIDE, with the same counts
pub nulls_wider : {t t' : Ty} (d : Wider t t') (n : ℕ) (c c' : Counts) → nulls_ask t n c ≡ done c' → nulls_ask t' n c ≡ done c'
nulls_wider d n c c' e = follows_done c' (nulls_again d n c) e

-- ---- the start, and what an ordered null reads as

pub start_counts_wider : (gaps : Bool) {t t' : Ty} → Wider t t' → start_counts gaps t ≡ start_counts gaps t'
start_counts_wider gaps (w_plain d) = refl
start_counts_wider gaps w_view = refl
start_counts_wider gaps (w_list_view w w' ww d) = ap (λ x. counts 0 0 (λ e. x)) (start_counts_wider gaps d)
start_counts_wider gaps (w_list w w' ww d) = ap (λ x. counts 0 0 (λ e. x)) (start_counts_wider gaps d)
start_counts_wider gaps (w_sparse ids n d) = ap (counts 0 0) (among_same ids _ _ (λ e m. start_counts_wider gaps (d e (declares e ids m))))
start_counts_wider gaps (w_dense ids n d) = ap (counts 0 0) (among_same ids _ _ (λ e m. start_counts_wider gaps (d e (declares e ids m))))
start_counts_wider gaps (w_run_end w w' ww d) = ap (λ x. counts 0 (cond gaps 1 0) (λ e. x)) (start_counts_wider gaps d)
start_counts_wider gaps (w_dictionary k k' kk d) = refl

union_null_same : (ids : List ℕ) (r r' : ℕ → Row) (t : Try ℕ) → HomeIn ids t → ((c : ℕ) → Memᴰ c ids → r c ≡ r' c) → union_null r t ≡ union_null r' t
union_null_same ids r r' (done c) m h = ap (union c) (h c m)
union_null_same ids r r' (stop g) m h = refl

pub null_row_wider : {t t' : Ty} → Wider t t' → null_row t ≡ null_row t'
null_row_wider (w_plain d) = refl
null_row_wider w_view = refl
null_row_wider (w_list_view w w' ww d) = refl
null_row_wider (w_list w w' ww d) = refl
null_row_wider (w_sparse ids {nullable} {nullable'} {f} {f'} n d) =
    rw (← home_alike nullable nullable' ids n)
    (union_null_same ids (λ c. null_row (f c)) (λ c. null_row (f' c)) (home nullable ids) (home_in nullable ids) (λ e m. null_row_wider (d e (declares e ids m))))
null_row_wider (w_dense ids {nullable} {nullable'} {f} {f'} n d) =
    rw (← home_alike nullable nullable' ids n)
    (union_null_same ids (λ c. null_row (f c)) (λ c. null_row (f' c)) (home nullable ids) (home_in nullable ids) (λ e m. null_row_wider (d e (declares e ids m))))
null_row_wider (w_run_end w w' ww d) = null_row_wider d
null_row_wider (w_dictionary k k' kk d) = refl
