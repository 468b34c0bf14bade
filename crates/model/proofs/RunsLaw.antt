-- Run-end columns are lawful over lawful values. Assumes nothing.
use mathlib.Core.Path.{◌≡◌, refl, sym, ap, ◌∙◌}
use mathlib.Core.Bool.{Bool, true, false, cond}
use mathlib.Core.List.{List, [], ◌++◌}
use Prim.Native.Nat.{ℕ, zero, suc, ◌+◌, ◌-◌, ◌*◌, ◌^◌, ◌≤◌, ◌<◌, min}
use native.Mathlib.Decide.{dec_lt}
use native.Mathlib.Nat.{zero-mul, one-mul, suc-mul, add-mul, add-zero, zero-add, add_comm}
use native.Mathlib.Omega.{arith}
use lib.ListN.{length, take, drop, length-append}
use lib.Dec.{ltb, eqb}
use borrow.Author.Tests.{ltb-true, eqb-true}
use Rattle.number.specs.Number.{encode}
use Rattle.number.proofs.Laws.{length_encode}
use Rattle.columnar.specs.Row.{Row}
use Rattle.columnar.specs.Types.{half}
use Rattle.columnar.specs.Array.{Array, item, ok, read_with, Mask, Obeys}
use Rattle.columnar.specs.RunEnd.{RunEnd, end_of, first_above, run_end_at, start_of, RunEndRule}
use Rattle.columnar.proofs.Items.{item_left, item_right, item_last, item_seam, item_cut, length_cut, number_encode_lt}
use Rattle.columnar.proofs.FirstAbove.{first_same}
use Rattle.model.specs.Grounds.{Counts, counts, first_run, run_count, run_end_ask, run_end_nulls, unless_none}
use Rattle.model.specs.Try.{Try, done, then, guard}
use Rattle.model.specs.Held.{held_node}
use Rattle.model.specs.Mutable.{Mutable, freeze_node, extend_node, nulls_node}
use Rattle.model.specs.Runs.{Runs, last_end, more_ends, over_end, runs_extend, runs_null, runs_freeze}
use Rattle.model.proofs.Agree.{Agrees, both, both_as, agrees_then, agrees_guard}
use Rattle.model.proofs.Law.{Kind, Put, seen, Law, FineNode, KeepNode, Grew, row_at, node_null}
use Rattle.model.proofs.Node.{node_copies, node_fills, node_obeys}
use Rattle.model.proofs.Nodes.{RunsFine, runs_kind}
use Rattle.model.proofs.Ends.{Holds, Ends, found, find_is, both_ends, find_old, find_new, start_le, clip, clip_ends, clip_find, in_order_lem, last_run}
use Rattle.model.proofs.Names.{clipped}

-- ---- bytes of run ends

half_le : (w : ℕ) → half w ≤ 256 ^ w
half_le w = omega arith

module _ (w : ℕ) (e : ℕ → ℕ) (a b last : ℕ) where
  length_clipped : (k n : ℕ) → length (clipped w e a b last k n) ≡ n * w
  length_clipped k zero = sym (zero-mul w)
  length_clipped k (suc n) = rw (length-append, length_encode, length_clipped (suc k) n, suc-mul) (add_comm w (n * w))

  item_clipped : (k n i : ℕ) → i < n → last + (min (e (k + i)) b - a) < 256 ^ w → item w (clipped w e a b last k n) i ≡ last + (min (e (k + i)) b - a)
  item_clipped k zero i q h = absurd (omega arith)
  item_clipped k (suc n) zero q h =
      item_seam w [] _ 0 (sym (zero-mul w)) ∙ rw add-zero (number_encode_lt w _ _ (rw add-zero at h))
  item_clipped k (suc n) (suc i) q h =
      let z : suc i ≡ 1 + i = omega arith in
      let y : k + suc i ≡ suc k + i = omega arith in
      rw (z, item_right w (encode w (last + (min (e k) b - a))) (clipped w e a b last (suc k) n) 1 i (rw one-mul (length_encode w _)), ← z, y)
      (item_clipped (suc k) n i (omega arith) (rw y at h))

-- ---- the finished run ends, whose offset is 0

first_frozen : (w : ℕ) (x : Mutable (List ℕ)) (i n : ℕ) → first_above (end_of w (freeze_node true (λ b. b) x)) i 0 n ≡ first_above (item w x.«data») i 0 n
first_frozen w x i n = first_same _ _ i 0 n (λ j q. ap (item w x.«data») (zero-add (0 + j)))

start_frozen : (w : ℕ) (x : Mutable (List ℕ)) (r : ℕ) → start_of (end_of w (freeze_node true (λ b. b) x)) r ≡ start_of (item w x.«data») r
start_frozen w x zero = refl
start_frozen w x (suc r) = rw zero-add

module _ (w : ℕ) {P D : Type 0} (k : Kind P D) (r : Row) (m : ℕ) (kids : ℕ → Array P) where
  -- a well formed destination, and its ends as plain numbers
  abbrev FineRuns : Runs D → ℕ → Type 0
  FineRuns d l = RunsFine w (FineNode k.masks k.fine m kids) (row_at k m kids) r d l

  ends_of_lem : (d : Runs D) (l : ℕ) → FineRuns d l → Ends (item w d.ends.«data») d.ends.len l
  ends_of_lem d l h = record { rises = h.rises; covers = h.covers }

  -- c runs with the ends t put behind d, and their values behind d's
  module _ (d : Runs D) (l n : ℕ) (h : FineRuns d l) (t : ℕ → ℕ) (c : ℕ) (ht : Ends t c n) (more : List ℕ) (long : length more ≡ c * w)
      (reads : (i : ℕ) → i < c → item w more i ≡ l + t i) (v : Mutable D) (x : ℕ) (shows : ℕ → Row) (g : Grew k m kids d.values c x shows v) (fits : l + n < half w)
      (y : ℕ) (some_null : y ≡ 2 → 0 < c) (last-null : y ≡ 2 → shows (c - 1) ≡ r) where
    abbrev Longer : Runs D
    Longer = record { ends = more_ends more c d.ends; values = v; gap = y }

    all_ends : ℕ → ℕ
    all_ends = item w (d.ends.«data» ++ more)

    old_end : (i : ℕ) → i < d.ends.len → all_ends i ≡ item w d.ends.«data» i
    unfolding all_ends
    old_end i q = item_left w d.ends.«data» more i d.ends.len (omega (arith, h.ends_are)) q

    new_end : (i : ℕ) → i < c → all_ends (d.ends.len + i) ≡ l + t i
    unfolding all_ends
    new_end i q = item_right w d.ends.«data» more d.ends.len i h.ends_are ∙ reads i q

    longer_ends : Ends all_ends (d.ends.len + c) (l + n)
    longer_ends = both_ends (item w d.ends.«data») d.ends.len l t c n (ends_of_lem d l h) ht all_ends old_end new_end

    longer_fine : FineRuns Longer (l + n)
    unfolding all_ends
    longer_fine =
        record {
          no_bits = h.no_bits;
          ends_are = rw (length-append, h.ends_are, long, add-mul);
          rises = longer_ends.rises;
          covers = longer_ends.covers;
          fits = fits;
          as_many = rw (g.len_is, h.as_many);
          some_run = λ z. omega (arith, some_null z);
          null_run = λ z.
              let e : d.ends.len + c - 1 ≡ d.values.len + (c - 1) = omega (arith, h.as_many, some_null z) in
              ap (row_at k m kids v) e ∙ g.new (c - 1) (omega (arith, some_null z)) ∙ last-null z;
          values_fine = g.fine';
        }

    -- the runs of the earlier rows, and of the new ones
    run_old : (i : ℕ) → i < l → first_above (end_of w (freeze_node true (λ b. b) Longer.ends)) i 0 (d.ends.len + c) ≡ first_above (end_of w (freeze_node true (λ b. b) d.ends)) i 0 d.ends.len
    unfolding all_ends
    run_old i q =
        first_frozen w Longer.ends i (d.ends.len + c)
        ∙ find_old (item w d.ends.«data») d.ends.len l t c n (ends_of_lem d l h) ht all_ends old_end new_end i q
        ∙ sym (first_frozen w d.ends i d.ends.len)

    run_new : (i : ℕ) → i < n → first_above (end_of w (freeze_node true (λ b. b) Longer.ends)) (l + i) 0 (d.ends.len + c) ≡ d.values.len + first_above t i 0 c
    unfolding all_ends
    run_new i q =
        first_frozen w Longer.ends (l + i) (d.ends.len + c)
        ∙ find_new (item w d.ends.«data») d.ends.len l t c n (ends_of_lem d l h) ht all_ends old_end new_end i q
        ∙ ap (◌+ first_above t i 0 c) (sym h.as_many)

    old_run : (i : ℕ) → i < l → first_above (end_of w (freeze_node true (λ b. b) d.ends)) i 0 d.ends.len < d.values.len
    old_run i q =
        rw (first_frozen w d.ends i d.ends.len, h.as_many)
        (found (item w d.ends.«data») d.ends.len i (omega (arith, h.covers))).is_run_lem

    -- rows put behind d
    runs_put : (b vs : ℕ → Bool) (want : ℕ → Row) → ((i : ℕ) → i < n → shows (first_above t i 0 c) ≡ want i)
        → Put (seen (runs_kind w k r m kids)) (runs_kind w k r m kids).fine (runs_kind w k r m kids).keep b d l n vs want Longer
    runs_put b vs want e =
        record {
          ends = λ b' o u. longer_fine;
          old = λ i q. ap (row_at k m kids v) (run_old i q) ∙ g.old _ (old_run i q);
          new = λ i q u. ap (row_at k m kids v) (run_new i q) ∙ g.new _ (found t c i (omega (arith, ht.covers))).is_run_lem ∙ e i q;
          keeps = λ y. record { here = g.keep_same ∙ y.here; below = g.keep_data y.below };
        }

-- one run of n rows
one_end : (n : ℕ) → 0 < n → Ends (λ i. n) 1 n
one_end n q = record { rises = λ i p. go i p; covers = refl }
  where
    go : (i : ℕ) → i < 1 → start_of (λ i. n) i < n
    go zero p = q
    go (suc i) p = absurd (omega arith)

module _ (w : ℕ) {P D : Type 0} (k : Kind P D) (r : Row) (m : ℕ) (xs : ℕ → Array (RunEnd P))
    (rules : (j : ℕ) → j < m → Obeys false (RunEndRule w (Obeys k.masks k.rule)) (xs j))
    (law : Law k m (λ i. (xs i).body.values)) (null_is : node_null k ≡ r) where
  abbrev Kids : ℕ → Array P
  Kids i = (xs i).body.values

  masked : (j : ℕ) → j < m → Mask k.masks (Kids j).valid ((Kids j).off + (Kids j).len)
  masked j q = (rules j q).slots.child_rule.mask

  -- the slots of a copy lie within the runs
  module _ (j a n : ℕ) (hj : j < m) (low : (xs j).off ≤ a) (high : a + suc n ≤ (xs j).off + (xs j).len) where
    abbrev ends : ℕ → ℕ
    ends = end_of w (xs j).body.ends

    within : a + suc n ≤ start_of ends (xs j).body.ends.len
    within = omega (arith, (rules j hj).slots.covers)

    rises : (i : ℕ) → i < (xs j).body.ends.len → start_of ends i < ends i
    rises = (rules j hj).slots.rises

    -- the first of its runs, how many there are, and their ends
    abbrev from : ℕ
    from = first_run w (xs j).body a

    abbrev count : ℕ
    count = run_count w (xs j).body a (suc n)

    abbrev cut : ℕ → ℕ
    cut = clip ends (xs j).body.ends.len a (suc n)

    not_none : 0 < suc n
    not_none = omega arith

    cut_ends : Ends cut count (suc n)
    cut_ends = clip_ends ends (xs j).body.ends.len a (suc n) rises not_none within

    in_values : from + count ≤ (xs j).body.values.len
    in_values =
        rw (rules j hj).slots.as_many
        (omega (arith, in_order_lem ends (xs j).body.ends.len a (suc n) rises not_none within, last_run ends (xs j).body.ends.len a (suc n) rises not_none within))

    cut_reads : (l : ℕ) (d : Runs D) → FineRuns w k r m Kids d l → l + suc n < half w → (i : ℕ) → i < count
        → item w (clipped w ends a (a + suc n) (last_end w d.ends) from count) i ≡ l + cut i
    cut_reads l d h fits i q =
        item_clipped w ends a (a + suc n) (last_end w d.ends) from count i q (omega (arith, half_le w, h.covers))
        ∙ ap (◌+ cut i) (sym h.covers)

    copied : (l : ℕ) (b : ℕ → Bool) (d : Runs D) → FineRuns w k r m Kids d l
        → Agrees (λ e. (runs_kind w k r m Kids).held e (l + suc n))
        (Put (seen (runs_kind w k r m Kids)) (runs_kind w k r m Kids).fine (runs_kind w k r m Kids).keep b d l (suc n) (λ i. ok (xs j).valid (a + i)) (λ i. run_end_at w k.at (xs j).body (a + i)))
        (runs_extend w (extend_node k.masks k.ext Kids j) (xs j).body a (suc n) d) (run_end_ask w k.ask (xs j).body a (suc n) ((runs_kind w k r m Kids).held d l))
    copied l b d h =
        agrees_guard (ltb (last_end w d.ends + suc n) (half w)) (ltb (l + suc n) (half w)) 7 (ap (λ z. ltb (z + suc n) (half w)) (sym h.covers))
        (λ fit.
        let fits : l + suc n < half w = omega (arith, ltb-true (last_end w d.ends + suc n) (half w) fit, h.covers) in
        agrees_then _ _ (node_copies k m Kids law masked j from count d.values hj in_values h.values_fine)
        (λ v g.
        both _ (runs_put w k r m Kids d l (suc n) h cut count cut_ends _ (length_clipped w ends a (a + suc n) (last_end w d.ends) from count) (cut_reads l d h fits) v _ _ g fits (min d.gap 1) (λ z. absurd (omega arith)) (λ z. absurd (omega arith)) b _ _
        (λ i q. ap (read_with k.at (Kids j)) (clip_find ends (xs j).body.ends.len a (suc n) rises not_none within i q)))))

  -- no row more
  nothing : (l : ℕ) (b vs : ℕ → Bool) (want : ℕ → Row) (d : Runs D) → FineRuns w k r m Kids d l
      → Put (seen (runs_kind w k r m Kids)) (runs_kind w k r m Kids).fine (runs_kind w k r m Kids).keep b d l 0 vs want d
  nothing l b vs want d h =
      record { ends = λ b' o u. rw add-zero h; old = λ i q. refl; new = λ i q. absurd (omega arith); keeps = λ y. y }

  copies : (j a n l : ℕ) (b : ℕ → Bool) (d : Runs D) → j < m → (xs j).off ≤ a → a + n ≤ (xs j).off + (xs j).len → FineRuns w k r m Kids d l
      → Agrees (λ e. (runs_kind w k r m Kids).held e (l + n))
      (Put (seen (runs_kind w k r m Kids)) (runs_kind w k r m Kids).fine (runs_kind w k r m Kids).keep b d l n (λ i. ok (xs j).valid (a + i)) (λ i. run_end_at w k.at (xs j).body (a + i)))
      (runs_extend w (extend_node k.masks k.ext Kids j) (xs j).body a n d) (run_end_ask w k.ask (xs j).body a n ((runs_kind w k r m Kids).held d l))
  copies j a zero l b d hj low high h = both_as d (rw add-zero) (nothing l b _ _ d h)
  copies j a (suc n) l b d hj low high h = copied j a n hj low high l b d h

  -- one run more, and one null value
  one_reads : (v z : ℕ) → v < 256 ^ w → v ≡ z → (i : ℕ) → i < 1 → item w (encode w v) i ≡ z
  one_reads v z h e zero q = item_last w [] 0 v (sym (zero-mul w)) h ∙ e
  one_reads v z h e (suc i) q = absurd (omega arith)

  -- the last run grows by suc n rows
  module _ (n l : ℕ) (b : ℕ → Bool) (d : Runs D) (on : d.gap ≡ 2) (h : FineRuns w k r m Kids d l) (fits : l + suc n < half w) where
    abbrev bytes : List ℕ
    bytes = d.ends.«data»

    -- the runs but the last
    abbrev q : ℕ
    q = d.ends.len - 1

    abbrev front : List ℕ
    front = take (q * w) bytes

    some_run : 0 < d.ends.len
    some_run = h.some_run on

    len_is : suc q ≡ d.ends.len
    len_is = omega (arith, some_run)

    wide : d.ends.len * w ≡ q * w + w
    wide = ap (◌* w) (sym len_is) ∙ suc-mul q w

    front_is : take (q * w) (drop (0 * w) bytes) ≡ front
    front_is = rw (zero-mul w)

    front_long : length front ≡ q * w
    front_long =
        let e : (0 + q) * w ≤ length bytes = rw zero-add (omega (arith, h.ends_are, wide)) in
        ap length (sym front_is) ∙ length_cut w 0 q bytes e

    all : ℕ → ℕ
    all = item w (front ++ encode w (last_end w d.ends + suc n))

    all_old : (i : ℕ) → i < q → all i ≡ item w bytes i
    unfolding all
    all_old i p =
        item_left w front (encode w (last_end w d.ends + suc n)) i q (omega (arith, front_long)) p
        ∙ ap (λ s. item w s i) (sym front_is) ∙ item_cut w 0 q bytes i p ∙ ap (item w bytes) (zero-add i)

    all_last : all q ≡ l + suc n
    unfolding all
    all_last = item_last w front q (last_end w d.ends + suc n) front_long (omega (arith, half_le w, h.covers)) ∙ ap (◌+ suc n) (sym h.covers)

    starts : (i : ℕ) → i ≤ q → start_of all i ≡ start_of (item w bytes) i
    starts zero p = refl
    starts (suc i) p = all_old i p

    last_end_lem : l ≡ item w bytes q
    last_end_lem = h.covers ∙ ap (start_of (item w bytes)) (sym len_is)

    all_rise : (i : ℕ) → i < d.ends.len → start_of all i < all i
    all_rise i p = go (dec_lt i q)
      where
        go : Dec (i < q) → start_of all i < all i
        go (yes y) = rw (starts i (omega arith), all_old i y) (h.rises i p)
        go (no y) = let z : i ≡ q = omega (arith, len_is) in rw (z, starts q (omega arith), all_last) (omega (arith, h.rises q (omega (arith, some_run)), last_end_lem))

    abbrev Grown : Runs D
    Grown = record { ends = over_end w (last_end w d.ends + suc n) d.ends; values = d.values; gap = 2 }

    grown_fine : FineRuns w k r m Kids Grown (l + suc n)
    unfolding all
    grown_fine =
        record {
          no_bits = h.no_bits;
          ends_are = length-append front _ ∙ omega (arith, front_long, length_encode w (last_end w d.ends + suc n), wide);
          rises = all_rise;
          covers = sym all_last ∙ ap (start_of all) len_is;
          fits = fits;
          as_many = h.as_many;
          some_run = λ z. some_run;
          null_run = λ z. h.null_run on;
          values_fine = h.values_fine;
        }

    run_of_lem : (i s : ℕ) → Holds all d.ends.len s i → first_above (end_of w (freeze_node true (λ b. b) Grown.ends)) i 0 d.ends.len ≡ s
    unfolding all
    run_of_lem i s a = first_frozen w Grown.ends i d.ends.len ∙ find_is all d.ends.len all_rise s i a

    old_holds : (i s : ℕ) → i < l → Holds (item w bytes) d.ends.len s i → Holds all d.ends.len s i
    old_holds i s p a = record { is_run_lem = a.is_run_lem; above = rw (starts s (omega (arith, a.is_run_lem))) a.above; below = go (dec_lt s q) }
      where
        go : Dec (s < q) → i < all s
        go (yes y) = rw (all_old s y) a.below
        go (no y) = let z : s ≡ q = omega (arith, len_is, a.is_run_lem) in rw (z, all_last) (omega arith)

    grown : Put (seen (runs_kind w k r m Kids)) (runs_kind w k r m Kids).fine (runs_kind w k r m Kids).keep b d l (suc n) (λ i. true) (λ i. r) Grown
    grown =
        record {
          ends = λ b' o u. grown_fine;
          old = λ i p.
              let a = found (item w bytes) d.ends.len i (omega (arith, h.covers)) in
              ap (row_at k m Kids d.values) (run_of_lem i _ (old_holds i _ p a) ∙ sym (first_frozen w d.ends i d.ends.len));
          new = λ i p u.
              ap (row_at k m Kids d.values) (run_of_lem (l + i) q (record { is_run_lem = omega (arith, some_run); above = rw (starts q (omega arith)) (omega (arith, h.rises q (omega (arith, some_run)), last_end_lem)); below = rw all_last (omega arith) }))
              ∙ h.null_run on;
          keeps = λ y. y;
        }

  fills : (n l : ℕ) (b : ℕ → Bool) (d : Runs D) → KeepNode k.keep d.values → FineRuns w k r m Kids d l
      → Agrees (λ e. (runs_kind w k r m Kids).held e (l + suc n))
      (Put (seen (runs_kind w k r m Kids)) (runs_kind w k r m Kids).fine (runs_kind w k r m Kids).keep b d l (suc n) (λ i. true) (λ i. r))
      (runs_null w (nulls_node k.masks k.nul) (suc n) d) (run_end_nulls w (unless_none k.ask_n) (suc n) ((runs_kind w k r m Kids).held d l))
  fills n l b d hk h = go (eqb d.gap 2) refl
    where
      test : ltb (last_end w d.ends + suc n) (half w) ≡ ltb (l + suc n) (half w)
      test = ap (λ z. ltb (z + suc n) (half w)) (sym h.covers)

      room : ltb (last_end w d.ends + suc n) (half w) ≡ true → l + suc n < half w
      room fit = omega (arith, ltb-true (last_end w d.ends + suc n) (half w) fit, h.covers)

      go : (t : Bool) → eqb d.gap 2 ≡ t
          → Agrees (λ e. (runs_kind w k r m Kids).held e (l + suc n))
          (Put (seen (runs_kind w k r m Kids)) (runs_kind w k r m Kids).fine (runs_kind w k r m Kids).keep b d l (suc n) (λ i. true) (λ i. r))
          (cond t (guard (ltb (last_end w d.ends + suc n) (half w)) 7 (done (record { ends = over_end w (last_end w d.ends + suc n) d.ends; values = d.values; gap = 2 })))
          (then (nulls_node k.masks k.nul 1 d.values) (λ v. guard (ltb (last_end w d.ends + suc n) (half w)) 7 (done (record { ends = more_ends (encode w (last_end w d.ends + suc n)) 1 d.ends; values = v; gap = cond (eqb d.gap 0) 0 2 })))))
          (cond t (guard (ltb (l + suc n) (half w)) 7 (done (counts (l + suc n) 2 (λ e. held_node k.held d.values))))
          (then (unless_none k.ask_n 1 (held_node k.held d.values)) (λ x. guard (ltb (l + suc n) (half w)) 7 (done (counts (l + suc n) (cond (eqb d.gap 0) 0 2) (λ e. x))))))
      go true e = agrees_guard (ltb (last_end w d.ends + suc n) (half w)) (ltb (l + suc n) (half w)) 7 test (λ fit. both _ (grown n l b d (eqb-true _ _ e) h (room fit)))
      go false e =
          agrees_then _ _ (node_fills k m Kids law masked 1 d.values hk h.values_fine)
          (λ v g.
          agrees_guard (ltb (last_end w d.ends + suc n) (half w)) (ltb (l + suc n) (half w)) 7 test
          (λ fit.
          let fits : l + suc n < half w = room fit in
          both _
          (runs_put w k r m Kids d l (suc n) h (λ i. suc n) 1 (one_end (suc n) (omega arith)) (encode w (last_end w d.ends + suc n)) (rw one-mul (length_encode w _))
          (one_reads _ _ (omega (arith, half_le w, h.covers)) (ap (◌+ suc n) (sym h.covers))) v _ _ g fits (cond (eqb d.gap 0) 0 2) (λ z. omega arith) (λ z. null_is) b _ _ (λ i q. null_is))))

  obeys : (l : ℕ) (b : ℕ → Bool) (d : Runs D) → FineRuns w k r m Kids d l
      → RunEndRule w (Obeys k.masks k.rule) b (runs_freeze (freeze_node k.masks k.frz) d) 0 l
  obeys l b d h =
      record {
        ends_mask = rw h.no_bits tt;
        hold = rw (zero-add, h.ends_are) (omega arith);
        no_nulls = λ i q. rw h.no_bits tt;
        positive = λ i q. rw zero-add (omega (arith, start_le (item w d.ends.«data») d.ends.len h.rises (suc i) d.ends.len q (omega arith), h.covers, h.fits));
        rises = λ i q. rw (start_frozen w d.ends i, zero-add) (h.rises i q);
        covers = rw (start_frozen w d.ends d.ends.len, ← h.covers) (omega arith);
        as_many = h.as_many;
        child_rule = node_obeys k m Kids law masked d.values h.values_fine;
      }

  -- A RUN-END NODE IS LAWFUL
  pub runs_law : Law (runs_kind w k r m (λ i. (xs i).body.values)) m xs
  runs_law = record { copies = copies; fills = fills; obeys = obeys }
