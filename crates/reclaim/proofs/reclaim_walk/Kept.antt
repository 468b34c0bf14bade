-- Entries that are plain numbers: what one order for each run of those in use writes are those entries, one behind the other.
-- Assumes nothing.
use mathlib.Core.Path.{◌≡◌, refl, sym, ap, ap₂, subst, ◌∙◌}
use mathlib.Core.Bool.{Bool, true, false, cond}
use mathlib.Core.List.{List, [], ◌∷◌, ◌++◌, append_assoc, append-nil}
use Prim.Native.Nat.{ℕ, zero, suc, ◌+◌, ◌*◌, ◌-◌, ◌≤◌, ◌<◌, min, max}
use native.Mathlib.Nat.{add-zero, mul-suc, mul-add, mul_comm, add-mul, add_assoc, mul-le-mul_left}
use native.Mathlib.Decide.{ℕ_discrete}
use native.Mathlib.Omega.{arith}
use lib.ListN.{length, get_or, set, take, drop, length-append, length-set}
use lib.Seq.{take-add, drop-drop, get_or-set_same}
use lib.Dec.{ltb, eqb}
use borrow.Author.Tests.{le-leb, lt-ltb, le-ltb, eq-eqb, ne_eqb}
use Rattle.number.specs.Number.{splice}
use Rattle.number.proofs.Laws.{splice_splice, splice_nil, length_splice}
use Rattle.walk.specs.State.{Join, code_of, bytes_of, rows, add_rows, grown, top, place, offset_of, far, slot_of, rows_in}
use Rattle.walk.specs.Log.{Out, Did, put, start_of, in_room, enter, apply, apply_if, done}
use Rattle.walk.specs.Leaves.{copy_mask, copy_numbers}
use Rattle.walk.specs.Copy.{Walk, masked, copy_data, copy_slots, copy_node, copy_walk}
use Rattle.walk.proofs.Laws.{done_did, wrote_did, need_ok, found_ok, next_ok}
use Rattle.leaf_walk.proofs.Laws.{mask_off}
use Rattle.nested_rows.proofs.node_data.Laws.{data_numbers}
use Rattle.reclaim.specs.used_entries.Keys.{Keys, used, rank}
use Rattle.reclaim.specs.used_entries.Chosen.{chosen, risen}
use Rattle.reclaim.proofs.used_entries.Laws.{rank_more}
use Rattle.reclaim.proofs.used_entries.Chosen.{chosen_none, chosen_same, length_more}
use Rattle.reclaim.specs.reclaim_walk.Walk.{keys_of, run_of, copy_run, copy_runs}
use Rattle.reclaim.specs.reclaim_walk.Plain.{Plain, entry_place}
use Rattle.reclaim.proofs.reclaim_walk.Laws.{copy_some, copy_none, used_told}
use Rattle.reclaim.proofs.reclaim_walk.Runs.{runs_none, runs_more}

-- ---- chosen entries

module _ (body : List ℕ) (w : ℕ) where
  pub chosen_alike : (from n : ℕ) (u v : ℕ → Bool) → ((j : ℕ) → j < n → u j ≡ v j) → chosen body from w u n ≡ chosen body from w v n
  unfolding chosen
  chosen_alike from zero u v h = refl
  chosen_alike from (suc n) u v h = ap₂ (λ a t. a ++ cond t (take w (drop (from + w * n) body)) []) (chosen_alike from n u v (λ j l. h j (omega arith))) (h n (omega arith))

  chosen_split : (from a b : ℕ) (u : ℕ → Bool) → chosen body from w u (a + b) ≡ chosen body from w u a ++ chosen body (from + w * a) w (λ j. u (a + j)) b
  unfolding chosen
  chosen_split from a zero u = ap (chosen body from w u) (add-zero a) ∙ sym (append-nil (chosen body from w u a))
  chosen_split from a (suc b) u =
      let k : a + suc b ≡ suc (a + b) = omega arith in
      let e : from + w * (a + b) ≡ from + w * a + w * b = omega (arith, mul-add w a b) in
      ap (chosen body from w u) k
      ∙ ap₂ (λ p q. p ++ cond (u (a + b)) (take w (drop q body)) []) (chosen_split from a b u) e
      ∙ append_assoc (chosen body from w u a) (chosen body (from + w * a) w (λ j. u (a + j)) b) (cond (u (a + b)) (take w (drop (from + w * a + w * b) body)) [])

  -- all of them
  chosen_all : (from n : ℕ) (u : ℕ → Bool) → ((j : ℕ) → j < n → u j ≡ true) → chosen body from w u n ≡ take (w * n) (drop from body)
  unfolding chosen
  chosen_all from zero u h = let e : w * 0 ≡ 0 = omega arith in rw e
  chosen_all from (suc n) u h =
      rw (mul-suc w n, take-add (w * n) w (drop from body), drop-drop (w * n) from body)
      (ap₂ (λ a t. a ++ cond t (take w (drop (from + w * n) body)) []) (chosen_all from n u (λ j l. h j (omega arith))) (h n (omega arith)))

-- ---- ranks

module _ (k : Keys) where
  rank_next : (e n : ℕ) → rank k (e + suc n) ≡ rank k (e + n) + cond (used k (e + n)) 1 0
  rank_next e n = let z : e + suc n ≡ e + n + 1 = omega arith in ap (rank k) z ∙ rank_more k (e + n)

  pub rank_up : (e n : ℕ) → rank k e ≤ rank k (e + n)
  rank_up e zero = let z : rank k e ≡ rank k (e + 0) = ap (rank k) (sym (add-zero e)) in omega arith
  rank_up e (suc n) = omega (arith, rank_up e n, rank_next e n)

  rank_all : (e n : ℕ) → ((j : ℕ) → j < n → used k (e + j) ≡ true) → rank k (e + n) ≡ rank k e + n
  rank_all e zero h = let z : rank k e ≡ rank k (e + 0) = ap (rank k) (sym (add-zero e)) in omega arith
  rank_all e (suc n) h =
      let o : ◌≡◌ {A = ℕ} (cond (used k (e + n)) 1 0) 1 = rw (h n (omega arith)) in
      omega (arith, rank_next e n, rank_all e n (λ j l. h j (omega arith)), o)

  -- as many bytes as the ranks say
  pub chosen_length : (body : List ℕ) (from w e n : ℕ) → from + w * n ≤ length body → length (chosen body from w (λ j. used k (e + j)) n) + w * rank k e ≡ w * rank k (e + n)
  chosen_length body from w e zero l =
      let z : length (chosen body from w (λ j. used k (e + j)) 0) ≡ 0 = ap length (chosen_none body from w (λ j. used k (e + j))) in
      let y : w * rank k e ≡ w * rank k (e + 0) = ap (λ v. w * rank k v) (sym (add-zero e)) in
      omega arith
  chosen_length body from w e (suc n) l =
      go (used k (e + n)) refl (chosen_length body from w e n (omega (arith, mul-suc w n)))
    where
      go : (t : Bool) → used k (e + n) ≡ t → length (chosen body from w (λ j. used k (e + j)) n) + w * rank k e ≡ w * rank k (e + n)
          → length (chosen body from w (λ j. used k (e + j)) (suc n)) + w * rank k e ≡ w * rank k (e + suc n)
      go true h q =
          let o : ◌≡◌ {A = ℕ} (cond (used k (e + n)) 1 0) 1 = rw h in
          let r : rank k (e + suc n) ≡ rank k (e + n) + 1 = omega (arith, rank_next e n, o) in
          let m : w * rank k (e + suc n) ≡ w * rank k (e + n) + w = ap (λ v. w * v) r ∙ omega (arith, mul-add w (rank k (e + n)) 1) in
          omega (arith, q, m, length_more body from w (λ j. used k (e + j)) n l h)
      go false h q =
          let o : ◌≡◌ {A = ℕ} (cond (used k (e + n)) 1 0) 0 = rw h in
          let r : rank k (e + suc n) ≡ rank k (e + n) = omega (arith, rank_next e n, o) in
          let m : w * rank k (e + suc n) ≡ w * rank k (e + n) = ap (λ v. w * v) r in
          let s : length (chosen body from w (λ j. used k (e + j)) (suc n)) ≡ length (chosen body from w (λ j. used k (e + j)) n) = ap length (chosen_same body from w (λ j. used k (e + j)) n h) in
          omega (arith, q, m, s)

-- ---- runs of entries in use

module _ (x : Join) where
  run_le : (e n : ℕ) → run_of x e n ≤ n
  unfolding run_of
  run_le e zero = omega arith
  run_le e (suc n) = go (used (keys_of x) e) (run_le (suc e) n)
    where
      go : (t : Bool) → run_of x (suc e) n ≤ n → cond t (suc (run_of x (suc e) n)) 0 ≤ suc n
      go true h = omega arith
      go false h = omega arith

  run_used : (e n j : ℕ) → j < run_of x e n → used (keys_of x) (e + j) ≡ true
  unfolding run_of
  run_used e zero j l = absurd (omega arith)
  run_used e (suc n) j l = go (used (keys_of x) e) refl j l (λ i m. run_used (suc e) n i m)
    where
      go : (t : Bool) → used (keys_of x) e ≡ t → (j : ℕ) → j < cond t (suc (run_of x (suc e) n)) 0 → ((i : ℕ) → i < run_of x (suc e) n → used (keys_of x) (suc e + i) ≡ true)
          → used (keys_of x) (e + j) ≡ true
      go true h zero l f = ap (used (keys_of x)) (add-zero e) ∙ h
      go true h (suc j) l f = let z : e + suc j ≡ suc e + j = omega arith in ap (used (keys_of x)) z ∙ f j (omega arith)
      go false h j l f = absurd (omega arith)

  run_zero : (e n : ℕ) → 0 < n → run_of x e n ≡ 0 → used (keys_of x) e ≡ false
  unfolding run_of
  run_zero e zero l h = absurd (omega arith)
  run_zero e (suc n) l h = go (used (keys_of x) e) refl h
    where
      go : (t : Bool) → used (keys_of x) e ≡ t → cond t (suc (run_of x (suc e) n)) 0 ≡ 0 → used (keys_of x) e ≡ false
      go true q r = absurd (omega (arith, r))
      go false q r = q

-- ---- counters

set_over : (l : List ℕ) (k a b : ℕ) → set (set l k a) k b ≡ set l k b
set_over [] k a b = refl
set_over (y ∷ l) zero a b = refl
set_over (y ∷ l) (suc k) a b = ap (y ∷◌) (set_over l k a b)

-- t entries more
abbrev pub counted : ℕ → List ℕ → List ℕ
counted t c = cond (eqb t 0) c (add_rows 1 t c)

twice : (v a b : ℕ) → grown (grown v a) b ≡ grown v (a + b)
unfolding grown
twice v a b = omega arith

counted_behind : (a b : ℕ) (c : List ℕ) → 3 < length c → (a ≡ 0 → ⊥) → counted b (add_rows 1 a c) ≡ counted (a + b) c
counted_behind a b c l h = go (ℕ_discrete b 0)
  where
    whole : counted (a + b) c ≡ add_rows 1 (a + b) c
    whole = rw (ne_eqb (a + b) 0 (λ z. h (omega arith)))

    go : Dec (b ≡ 0) → counted b (add_rows 1 a c) ≡ counted (a + b) c
    go (yes z) = let y : a ≡ a + b = omega arith in ap (λ t. counted t (add_rows 1 a c)) z ∙ ap (λ t. add_rows 1 t c) y ∙ sym whole
    go (no z) =
        rw (ne_eqb b 0 z)
        (ap (λ v. set (set c 3 (grown (rows c 1) a)) 3 (grown v b)) (get_or-set_same c 3 (grown (rows c 1) a) 0 l)
        ∙ set_over c 3 (grown (rows c 1) a) (grown (grown (rows c 1) a) b) ∙ ap (set c 3) (twice (rows c 1) a b) ∙ sym whole)

-- ---- the room

-- bytes that a walk writes at o, if it writes
abbrev pub after : Bool → ℕ → List ℕ → List ℕ → List ℕ
after wr o bs room = cond wr (splice o bs room) room

after_after : (wr : Bool) (o : ℕ) (p q room : List ℕ) → (wr ≡ true → o + length p + length q ≤ length room) → after wr (o + length p) q (after wr o p room) ≡ after wr o (p ++ q) room
after_after true o p q room h = splice_splice o p q room (h refl)
after_after false o p q room h = refl

length_after : (wr : Bool) (o : ℕ) (p room : List ℕ) → (wr ≡ true → o + length p ≤ length room) → length (after wr o p room) ≡ length room
length_after true o p room h = length_splice o p room (h refl)
length_after false o p room h = refl

after_at : (wr : Bool) (o o2 : ℕ) (bs room : List ℕ) → (wr ≡ true → o ≡ o2) → after wr o bs room ≡ after wr o2 bs room
after_at true o o2 bs room h = ap (λ z. splice z bs room) (h refl)
after_at false o o2 bs room h = refl

after_none : (wr : Bool) (o : ℕ) (room : List ℕ) → room ≡ after wr o [] room
after_none true o room = sym (splice_nil o room)
after_none false o room = refl

module _ (plan parts : List ℕ) where
  after_put : (wr : Bool) (o : ℕ) (bs room : List ℕ) → (wr ≡ true → start_of plan parts 1 1 + o + length bs ≤ length room)
      → after wr (start_of plan parts 1 1 + o) bs room ≡ apply_if plan parts wr (put 1 1 o bs ∷ []) room
  unfolding apply_if apply enter in_room
  after_put true o bs room h = rw (le-leb (start_of plan parts 1 1 + o + length bs) (length room) (h refl))
  after_put false o bs room h = refl

  pub did_as : {wr : Bool} {o : Out} {room : List ℕ} {g : ℕ} {c c2 room1 room2 : List ℕ} → c ≡ c2 → room1 ≡ room2 → Did plan parts wr o room g c room1 → Did plan parts wr o room g c2 room2
  did_as {wr} {o} {room} {g} {c} {c2} {room1} {room2} p q d = subst (λ z. Did plan parts wr o room g c2 z) q (subst (λ z. Did plan parts wr o room g z room1) p d)

-- ---- one run

module _ (x : Join) where
  abbrev w : ℕ
  w = bytes_of x.plan 1

  -- the entries in use of the n from e on
  abbrev pub kept : ℕ → ℕ → List ℕ
  kept e n = chosen x.body (entry_place x e) w (λ j. used (keys_of x) (e + j)) n

  abbrev Does : Bool → Out → List ℕ → List ℕ → List ℕ → Type 0
  Does wr o room c2 room2 = Did x.plan x.parts wr o room 0 c2 room2

  module _ (e n : ℕ) (p : Plain x e n) where
    slot_is : (r : ℕ) → r ≤ n → offset_of x 1 + e ≡ slot_of x 1 e r
    unfolding slot_of
    slot_is r l = rw (lt-ltb (offset_of x 1 + e + r) far (omega (arith, p.slots)))

    within : (r : ℕ) → r ≤ n → place x 1 3 + w * (offset_of x 1 + e + r) ≤ length x.body
    within r l = omega (arith, p.inside, mul-le-mul_left {m = offset_of x 1 + e + r} {n = offset_of x 1 + e + n} w (omega arith))

    no_mask_lem : (t : Bool) (wr : Bool) (r : ℕ) (c room : List ℕ) → Does wr (cond t (copy_mask x 1 (offset_of x 1 + e) r c) (done c)) room c room
    no_mask_lem true wr r c room = mask_off x 1 wr c room (offset_of x 1 + e) r refl p.no_nulls
    no_mask_lem false wr r c room = done_did wr c room

    numbers_did : (child : Walk) (wr : Bool) (r : ℕ) (c room room2 : List ℕ) → r ≤ n
        → room2 ≡ apply_if x.plan x.parts wr (put 1 1 (rows c 1 * w) (take (w * r) (drop (entry_place x e) x.body)) ∷ []) room
        → Does wr (copy_data x child (code_of x.plan 1) 1 (offset_of x 1 + e) r c) room c room2
    unfolding copy_numbers rows_in
    numbers_did child wr r c room room2 l h =
        subst (λ o. Does wr o room c room2) (data_numbers x child (code_of x.plan 1) 1 (offset_of x 1 + e) r c p.number (eq-eqb _ 0 p.no_keys))
        (need_ok 12 c (le-leb (place x 1 3 + w * (offset_of x 1 + e + r)) (length x.body) (within r l)) (wrote_did wr _ c room room2 h))

    node_did : (child : Walk) (wr : Bool) (r : ℕ) (c room room2 : List ℕ) → r ≤ n
        → room2 ≡ apply_if x.plan x.parts wr (put 1 1 (rows c 1 * w) (take (w * r) (drop (entry_place x e) x.body)) ∷ []) room
        → Does wr (copy_node x child 1 e r c) room (add_rows 1 r c) room2
    unfolding copy_node copy_slots
    node_did child wr r c room room2 l h =
        need_ok 12 c refl
        (found_ok 12 c _ (slot_is r l) (omega (arith, p.slots))
        (next_ok _ (no_mask_lem (masked (code_of x.plan 1)) wr r c room) refl (next_ok _ (numbers_did child wr r c room room2 l h) refl (done_did wr (add_rows 1 r c) room2))))

    walk_did : (wr : Bool) (r : ℕ) (c room room2 : List ℕ) → r ≤ n
        → room2 ≡ apply_if x.plan x.parts wr (put 1 1 (rows c 1 * w) (take (w * r) (drop (entry_place x e) x.body)) ∷ []) room
        → Does wr (copy_walk x 1 1 e r c) room (add_rows 1 r c) room2
    unfolding copy_walk
    walk_did wr r c room room2 l h = node_did (copy_walk x 0) wr r c room room2 l h

    -- ---- the entries behind the first s

    behind : (s : ℕ) → s ≤ n → Plain x (e + s) (n - s)
    behind s l =
        let z : offset_of x 1 + (e + s) + (n - s) ≡ offset_of x 1 + e + n = omega arith in
        record { number = p.number; no_keys = p.no_keys; no_nulls = p.no_nulls; slots = omega (arith, p.slots); inside = rw z p.inside }

    kept_split : (s : ℕ) → s ≤ n → kept e n ≡ kept e s ++ kept (e + s) (n - s)
    kept_split s l =
        let k : n ≡ s + (n - s) = omega arith in
        let f : entry_place x e + w * s ≡ entry_place x (e + s) = omega (arith, mul-add w (offset_of x 1 + e) s, same_sum s) in
        ap (kept e) k ∙ chosen_split x.body w (entry_place x e) s (n - s) (λ j. used (keys_of x) (e + j))
        ∙ ap (λ a. kept e s ++ chosen x.body a w (λ j. used (keys_of x) (e + (s + j))) (n - s)) f
        ∙ ap (kept e s ++◌) (chosen_alike x.body w (entry_place x (e + s)) (n - s) (λ j. used (keys_of x) (e + (s + j))) (λ j. used (keys_of x) (e + s + j)) (λ j m. ap (used (keys_of x)) (sym (add_assoc e s j))))
      where
        same_sum : (s : ℕ) → w * (offset_of x 1 + e + s) ≡ w * (offset_of x 1 + (e + s))
        same_sum s = ap (λ v. w * v) (add_assoc (offset_of x 1) e s)

    kept_in_lem : (s : ℕ) → s ≤ n → entry_place x e + w * s ≤ length x.body
    kept_in_lem s l = omega (arith, within s l, mul-add w (offset_of x 1 + e) s)

    kept_length : (s : ℕ) → s ≤ n → length (kept e s) + w * rank (keys_of x) e ≡ w * rank (keys_of x) (e + s)
    kept_length s l = chosen_length (keys_of x) x.body (entry_place x e) w e s (kept_in_lem s l)

    all_used : (r : ℕ) → r ≡ run_of x e n → kept e r ≡ take (w * r) (drop (entry_place x e) x.body)
    all_used r q = chosen_all x.body w (entry_place x e) r (λ j. used (keys_of x) (e + j)) (λ j l. run_used x e n j (omega arith))

    run_ranks : (r : ℕ) → r ≡ run_of x e n → rank (keys_of x) (e + r) ≡ rank (keys_of x) e + r
    run_ranks r q = rank_all (keys_of x) e r (λ j l. run_used x e n j (omega arith))

-- ---- all runs

module _ (x : Join) where
  abbrev start : ℕ
  start = start_of x.plan x.parts 1 1

  -- how many of the n entries from e on are in use
  abbrev many : ℕ → ℕ → ℕ
  many e n = rank (keys_of x) (e + n) - rank (keys_of x) e

  -- what is left of the n entries from e on, from these counters and this room
  abbrev Copied : Bool → ℕ → ℕ → List ℕ → List ℕ → Type 0
  Copied wr e n c room = Did x.plan x.parts wr (copy_runs x n e n c) room 0 (counted (many e n) c) (after wr (start + rows c 1 * bytes_of x.plan 1) (kept x e n) room)

  abbrev Fits : Bool → ℕ → ℕ → List ℕ → List ℕ → Type 0
  Fits wr e n c room = wr ≡ true → start + rows c 1 * bytes_of x.plan 1 + length (kept x e n) ≤ length room

  none : (wr : Bool) (e n : ℕ) (c room : List ℕ) → n ≡ 0 → Copied wr e n c room
  none wr e n c room z =
      let m : many e n ≡ 0 = ap (λ v. rank (keys_of x) v - rank (keys_of x) e) (ap (λ v. e + v) z ∙ add-zero e) ∙ omega arith in
      did_as x.plan x.parts (sym (ap (λ v. counted v c) m))
      (after_none wr _ room ∙ ap (λ b. after wr (start + rows c 1 * bytes_of x.plan 1) b room) (sym (ap (kept x e) z ∙ chosen_none x.body _ _ _)))
      (runs_none x wr n e c room z)

  module _ (wr : Bool) (e n : ℕ) (c room : List ℕ) (p : Plain x e n) (l : 0 < n) where
    -- an entry that is not in use
    skip : run_of x e n ≡ 0 → Copied wr (e + 1) (n - 1) c room → Copied wr e n c room
    skip z d =
        let u : used (keys_of x) (e + 0) ≡ false = ap (used (keys_of x)) (add-zero e) ∙ run_zero x e n l z in
        let s : kept x e n ≡ kept x (e + 1) (n - 1) = kept_split x e n p 1 (omega arith) ∙ ap (λ a. a ++ kept x (e + 1) (n - 1)) (chosen_same x.body _ _ (λ j. used (keys_of x) (e + j)) 0 u ∙ chosen_none x.body _ _ _) in
        let o : ◌≡◌ {A = ℕ} (cond (used (keys_of x) e) 1 0) 0 = rw (run_zero x e n l z) in
        let v : e + 1 + (n - 1) ≡ e + n = omega arith in
        let m : many (e + 1) (n - 1) ≡ many e n = omega (arith, rank_more (keys_of x) e, o, ap (rank (keys_of x)) v) in
        did_as x.plan x.parts (ap (λ t. counted t c) m) (ap (λ b. after wr (start + rows c 1 * bytes_of x.plan 1) b room) (sym s))
        (runs_more x wr n (n - 1) e (e + 1) 0 c room l (sym z) refl refl (copy_none x e 0 c refl) refl d)

    module _ (wide : 1 ≤ bytes_of x.plan 1) (long : 3 < length c) (small : length room < top) (fits : Fits wr e n c room) (r : ℕ) (q : r ≡ run_of x e n) (some : r ≡ 0 → ⊥) where
      low : r ≤ n
      low = omega (arith, run_le x e n)

      abbrev o : ℕ
      o = start + rows c 1 * bytes_of x.plan 1

      kept_sum : length (kept x e n) ≡ length (kept x e r) + length (kept x (e + r) (n - r))
      kept_sum = ap length (kept_split x e n p r low) ∙ length-append (kept x e r) (kept x (e + r) (n - r))

      run_length : length (kept x e r) ≡ bytes_of x.plan 1 * r
      run_length =
          let a = kept_length x e n p r low in
          let b : bytes_of x.plan 1 * rank (keys_of x) (e + r) ≡ bytes_of x.plan 1 * rank (keys_of x) e + bytes_of x.plan 1 * r
          = ap (λ v. bytes_of x.plan 1 * v) (run_ranks x e n p r q) ∙ mul-add (bytes_of x.plan 1) (rank (keys_of x) e) r in
          omega arith

      -- the rows that are counted, where they are written
      rows_next : wr ≡ true → start + rows (add_rows 1 r c) 1 * bytes_of x.plan 1 ≡ o + length (kept x e r)
      unfolding grown
      rows_next h =
          let f = fits h in
          let a : (rows c 1 + r) * bytes_of x.plan 1 ≡ rows c 1 * bytes_of x.plan 1 + r * bytes_of x.plan 1 = add-mul (rows c 1) r (bytes_of x.plan 1) in
          let b : r * bytes_of x.plan 1 ≡ bytes_of x.plan 1 * r = mul_comm r (bytes_of x.plan 1) in
          let d : (rows c 1 + r) * 1 ≤ (rows c 1 + r) * bytes_of x.plan 1 = mul-le-mul_left {m = 1} {n = bytes_of x.plan 1} (rows c 1 + r) wide in
          let g : rows (add_rows 1 r c) 1 ≡ rows c 1 + r = get_or-set_same c 3 (grown (rows c 1) r) 0 long ∙ omega (arith, kept_sum, run_length) in
          ap (λ v. start + v * bytes_of x.plan 1) g ∙ omega (arith, run_length)

      abbrev room1 : List ℕ
      room1 = after wr o (kept x e r) room

      run_did : Did x.plan x.parts wr (copy_run x e r c) room 0 (add_rows 1 r c) room1
      run_did =
          copy_some x e r c some
          (walk_did x e n p wr r c room room1 low
          (after_put x.plan x.parts wr (rows c 1 * bytes_of x.plan 1) (kept x e r) room (λ h. omega (arith, fits h, kept_sum))
          ∙ ap (λ b. apply_if x.plan x.parts wr (put 1 1 (rows c 1 * bytes_of x.plan 1) b ∷ []) room) (all_used x e n p r q)))

      length_same : length room1 ≡ length room
      length_same = length_after wr o (kept x e r) room (λ h. omega (arith, fits h, kept_sum))

      rest_fits : Fits wr (e + r) (n - r) (add_rows 1 r c) room1
      rest_fits h = omega (arith, fits h, kept_sum, rows_next h, length_same)

      step : Copied wr (e + r) (n - r) (add_rows 1 r c) room1 → Copied wr e n c room
      step d =
          let v : e + r + (n - r) ≡ e + n = omega (arith, low) in
          let m : r + many (e + r) (n - r) ≡ many e n
          = omega (arith, ap (rank (keys_of x)) v, run_ranks x e n p r q, rank_up (keys_of x) (e + r) (n - r)) in
          let mx : max r 1 ≡ r = omega arith in
          did_as x.plan x.parts (counted_behind r (many (e + r) (n - r)) c long some ∙ ap (λ t. counted t c) m)
          (after_at wr _ _ (kept x (e + r) (n - r)) room1 rows_next
          ∙ after_after wr o (kept x e r) (kept x (e + r) (n - r)) room (λ h. omega (arith, fits h, kept_sum))
          ∙ ap (λ b. after wr o b room) (sym (kept_split x e n p r low)))
          (runs_more x wr n (n - r) e (e + r) r c room l q (omega arith) (omega arith) run_did refl d)

  -- ALL ENTRIES IN USE of n, one behind the other
  pub plain_runs : (f n e : ℕ) (wr : Bool) (c room : List ℕ) → n ≤ f → Plain x e n → 1 ≤ bytes_of x.plan 1 → 3 < length c → length room < top → Fits wr e n c room → Copied wr e n c room
  plain_runs zero n e wr c room l p wide long small fits = none wr e n c room (omega arith)
  plain_runs (suc f) n e wr c room l p wide long small fits =
      by (ℕ_discrete n 0) (ℕ_discrete (run_of x e n) 0) (λ n2 e2 c2 room2 a b g h i. plain_runs f n2 e2 wr c2 room2 a b wide g h i)
    where
      Rec : Type 0
      Rec = (n2 e2 : ℕ) (c2 room2 : List ℕ) → n2 ≤ f → Plain x e2 n2 → 3 < length c2 → length room2 < top → Fits wr e2 n2 c2 room2 → Copied wr e2 n2 c2 room2

      by : Dec (n ≡ 0) → Dec (run_of x e n ≡ 0) → Rec → Copied wr e n c room
      by (yes z) t rec = none wr e n c room z
      by (no z) (yes t) rec =
          let k : 0 < n = omega arith in
          let u : used (keys_of x) (e + 0) ≡ false = ap (used (keys_of x)) (add-zero e) ∙ run_zero x e n k t in
          let s : length (kept x e n) ≡ length (kept x (e + 1) (n - 1)) = ap length (kept_split x e n p 1 (omega arith) ∙ ap (λ a. a ++ kept x (e + 1) (n - 1)) (chosen_same x.body _ _ (λ j. used (keys_of x) (e + j)) 0 u ∙ chosen_none x.body _ _ _)) in
          skip wr e n c room p k t (rec (n - 1) (e + 1) c room (omega arith) (behind x e n p 1 (omega arith)) long small (λ h. omega (arith, fits h, s)))
      by (no z) (no t) rec =
          let k : 0 < n = omega arith in
          step wr e n c room p k wide long small fits (run_of x e n) refl t
          (rec (n - run_of x e n) (e + run_of x e n) (add_rows 1 (run_of x e n) c) _ (omega (arith, t)) (behind x e n p (run_of x e n) (run_le x e n)) (omega (arith, length-set c 3 (grown (rows c 1) (run_of x e n)))) (omega (arith, length_same wr e n c room p k wide long small fits (run_of x e n) refl t)) (rest_fits wr e n c room p k wide long small fits (run_of x e n) refl t))

-- ---- by the ranks of the block

module _ (x : Join) (e n : ℕ) (ranks : List ℕ) (known : (j : ℕ) → j ≤ n → get_or ranks j 0 ≡ rank (keys_of x) (e + j)) where
  pub risen_kept : chosen x.body (entry_place x e) (bytes_of x.plan 1) (risen ranks) n ≡ kept x e n
  risen_kept =
      chosen_alike x.body (bytes_of x.plan 1) (entry_place x e) n (risen ranks) (λ j. used (keys_of x) (e + j))
      (λ j l. used_told (keys_of x) (e + j) _ _ (known j (omega arith)) (known (j + 1) (omega arith) ∙ ap (rank (keys_of x)) (sym (add_assoc e j 1))))

  module _ (t : ℕ) (told : t ≡ get_or ranks n 0 - get_or ranks 0 0) where
    pub many_told : t ≡ rank (keys_of x) (e + n) - rank (keys_of x) e
    many_told = omega (arith, told, known n (omega arith), known 0 (omega arith), ap (rank (keys_of x)) (add-zero e))

    pub risen_length : Plain x e n → length (chosen x.body (entry_place x e) (bytes_of x.plan 1) (risen ranks) n) ≡ bytes_of x.plan 1 * t
    risen_length p =
        let a = kept_length x e n p n (omega arith) in
        let z : rank (keys_of x) (e + n) ≡ rank (keys_of x) e + t = omega (arith, many_told, rank_up (keys_of x) e n) in
        let b : bytes_of x.plan 1 * rank (keys_of x) (e + n) ≡ bytes_of x.plan 1 * rank (keys_of x) e + bytes_of x.plan 1 * t
        = ap (λ v. bytes_of x.plan 1 * v) z ∙ mul-add (bytes_of x.plan 1) (rank (keys_of x) e) t in
        omega (arith, ap length risen_kept)
