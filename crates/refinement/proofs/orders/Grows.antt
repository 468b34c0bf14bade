-- A walk only adds: counters grow, and every write lies behind what a buffer held before, or over its last run end, and before the end of what it
-- holds after.
-- One rule for each step of a walk. Assumes nothing.
use mathlib.Core.Path.{◌≡◌, refl, sym, ap, subst, ◌∙◌}
use mathlib.Core.Bool.{Bool, true, false, cond}
use mathlib.Core.List.{List, [], ◌∷◌, ◌++◌, append-nil, append_assoc}
use Prim.Native.Nat.{ℕ, zero, suc, ◌+◌, ◌-◌, ◌*◌, ◌≤◌, ◌<◌, min}
use native.Mathlib.Nat.{suc-mul, add-zero, add-mul, mul_comm, le_refl, le_trans, min-eq_left, mul-le-mul_right}
use native.Mathlib.Omega.{arith}
use lib.ListN.{length}
use lib.Dec.{ltb, eqb}
use borrow.Author.Tests.{ltb-true, eq-eqb, eqb-true, eqb-false}
use Rattle.number.specs.Number.{encode}
use Rattle.number.proofs.Laws.{length_encode}
use Rattle.schema.specs.formats.Code.{is_string}
use Rattle.walk.specs.State.{code_of, bytes_of, rows, bytes, gap, top, grown, add_rows, add_nulls, set_bytes}
use Rattle.walk.specs.Log.{Entry, put, mask, amend, Log, Out, fail, done, wrote, need, found, next, each}
use Rattle.refinement.proofs.walk_is_model.Counters.{rows_added, bytes_set, rows_other, bytes_of_rows, rows_of_nulls, bytes_of_nulls, bytes_other, rows_of_bytes, long_rows, long_nulls, long_bytes}
use Rattle.plan.specs.parts.Parts.{needed, needed_by}
use Rattle.refinement.specs.orders.Written.{Ends}
use Rattle.refinement.proofs.orders.Needed.{needed_more, needed_cut, ends_up}

-- ---- rows that are due

-- n rows more at node e
abbrev pub due : ℕ → ℕ → ℕ → ℕ
due e n j = cond (eqb j e) n 0

pub due_here : (i n : ℕ) → due i n i ≡ n
due_here i n = rw (eq-eqb i i refl)

pub due_none : (e j : ℕ) → due e 0 j ≡ 0
due_none e j = go (eqb j e)
  where
    go : (b : Bool) → ◌≡◌ {A = ℕ} (cond b 0 0) 0
    go true = refl
    go false = refl

-- ---- counters

-- 96 counters of 64 bits: those of rows are at most the largest number
pub record Fine (c : List ℕ) : Type 0 where
  pub long : length c ≡ 96
  pub rows_top : (i : ℕ) → rows c i ≤ top

-- late: an order, which leaves a gap of 0 at that; an opening sets it
pub record Longer (plan : List ℕ) (late : Bool) (c d : List ℕ) : Type 0 where
  pub rows_grow : (i : ℕ) → rows c i ≤ rows d i
  pub bytes_grow : (i : ℕ) → is_string (code_of plan i) ≡ true → bytes c i ≤ bytes d i
  pub gap_off : late ≡ true → (i : ℕ) → code_of plan i ≡ 23 → gap c i ≡ 0 → gap d i ≡ 0

-- a run-end node is no byte string
not_string : (z : ℕ) → z ≡ 23 → is_string z ≡ true → ⊥
not_string z e h = let f : is_string 23 ≡ true = rw e at h in let y : ◌≡◌ {A = ℕ} 0 1 = cc in omega arith

pub longer_same : (plan : List ℕ) (late : Bool) (c : List ℕ) → Longer plan late c c
longer_same plan late c = record { rows_grow = λ i. le_refl _; bytes_grow = λ i h. le_refl _; gap_off = λ l i h z. z }

pub longer_then : {plan : List ℕ} {late : Bool} {a b c : List ℕ} → Longer plan late a b → Longer plan late b c → Longer plan late a c
longer_then p q =
    record {
      rows_grow = λ i. le_trans (p.rows_grow i) (q.rows_grow i);
      bytes_grow = λ i h. le_trans (p.bytes_grow i h) (q.bytes_grow i h);
      gap_off = λ l i h z. q.gap_off l i h (p.gap_off l i h z);
    }

module _ (plan : List ℕ) (late : Bool) (i n : ℕ) (c : List ℕ) (small : i < 32) (fine : Fine c) where
  rows_now : (j : ℕ) → rows (add_rows i n c) j ≡ min (rows c j + due i n j) top
  unfolding grown
  rows_now j = go (eqb j i) refl
    where
      go : (b : Bool) → eqb j i ≡ b → rows (add_rows i n c) j ≡ min (rows c j + cond b n 0) top
      go true e = let z = eqb-true j i e in rw z (rows_added c fine.long i small n)
      go false e = let t = fine.rows_top j in rows_other c i n j (eqb-false j i e) ∙ sym (rw add-zero (min-eq_left t))

  fine_rows : Fine (add_rows i n c)
  fine_rows = record { long = long_rows i n c ∙ fine.long; rows_top = λ j. let e = rows_now j in omega arith }

  longer_rows : Longer plan late c (add_rows i n c)
  longer_rows =
      record {
        rows_grow = λ j. let e = rows_now j in let t = fine.rows_top j in omega arith;
        bytes_grow = λ j h. let e = bytes_of_rows c i n j in omega arith;
        gap_off = λ l j h z. bytes_of_rows c i n j ∙ z;
      }

  fine_nulls : Fine (add_nulls i n c)
  fine_nulls = record { long = long_nulls i n c ∙ fine.long; rows_top = λ j. let e = rows_of_nulls c i n j in let t = fine.rows_top j in omega arith }

  longer_nulls : Longer plan late c (add_nulls i n c)
  longer_nulls =
      record {
        rows_grow = λ j. let e = rows_of_nulls c i n j in omega arith;
        bytes_grow = λ j h. let e = bytes_of_nulls c i n j in omega arith;
        gap_off = λ l j h z. bytes_of_nulls c i n j ∙ z;
      }

  pub fine_bytes : Fine (set_bytes i n c)
  fine_bytes = record { long = long_bytes i n c ∙ fine.long; rows_top = λ j. let e = rows_of_bytes c i n j in let t = fine.rows_top j in omega arith }

  -- a run-end node's gap
  longer_gap : code_of plan i ≡ 23 → (late ≡ true → gap c i ≡ 0 → n ≡ 0) → Longer plan late c (set_bytes i n c)
  longer_gap q f =
      record {
        rows_grow = λ j. let e = rows_of_bytes c i n j in omega arith;
        bytes_grow = λ j h. let e = bytes_other c i n j (λ y. not_string (code_of plan j) (ap (code_of plan) y ∙ q) h) in omega arith;
        gap_off = λ l j h z. go l j z (eqb j i) refl;
      }
    where
      go : late ≡ true → (j : ℕ) → gap c j ≡ 0 → (b : Bool) → eqb j i ≡ b → gap (set_bytes i n c) j ≡ 0
      go l j z true e = let y = eqb-true j i e in rw y (bytes_set c fine.long i small n ∙ f l (rw y at z))
      go l j z false e = bytes_other c i n j (eqb-false j i e) ∙ z

  pub longer_bytes : is_string (code_of plan i) ≡ true → bytes c i ≤ n → Longer plan late c (set_bytes i n c)
  longer_bytes s h =
      record {
        rows_grow = λ j. let e = rows_of_bytes c i n j in omega arith;
        bytes_grow = λ j t. go j (eqb j i) refl;
        gap_off = λ l j q z. bytes_other c i n j (λ y. not_string (code_of plan i) (ap (code_of plan) (sym y) ∙ q) s) ∙ z;
      }
    where
      go : (j : ℕ) → (b : Bool) → eqb j i ≡ b → bytes c j ≤ bytes (set_bytes i n c) j
      go j true e = let z = eqb-true j i e in rw z (let g = bytes_set c fine.long i small n in omega arith)
      go j false e = let g = bytes_other c i n j (eqb-false j i e) in omega arith

-- three walks, either way
pub next_next : (o : Out) (k l : List ℕ → Out) → next (next o k) l ≡ next o (λ c. next (k c) l)
unfolding next
next_next o k l = go (eqb o.ans 0) refl (eqb (k o.counters).ans 0) refl
  where
    go : (a : Bool) → eqb o.ans 0 ≡ a → (b : Bool) → eqb (k o.counters).ans 0 ≡ b → next (next o k) l ≡ next o (λ c. next (k c) l)
    go true e true f = rw (e, f, append_assoc)
    go true e false f = rw (e, f)
    go false e b f = rw (e, e)

-- what follows is refused
pub next_never : (o : Out) (k : List ℕ → Out) → ((c : List ℕ) → (k c).ans ≡ 0 → ⊥) → (next o k).ans ≡ 0 → ⊥
unfolding next
next_never o k q = go (eqb o.ans 0) refl
  where
    go : (b : Bool) → eqb o.ans 0 ≡ b → (cond b (record { ans = (k o.counters).ans; counters = (k o.counters).counters; log = o.log ++ (k o.counters).log }) o).ans ≡ 0 → ⊥
    go true e = q o.counters
    go false e = eqb-false _ _ e

-- late: whether a write stands behind what was there, as those of orders do; an opening writes the first offsets
module _ (plan : List ℕ) (late : Bool) where
  -- ---- entries

  -- a write over run ends: over the last one, where the gap is not 0
  pub record Over (c : List ℕ) (j o : ℕ) : Type 0 where
    pub node : ℕ
    pub ends : j ≡ suc node
    pub runs : code_of plan node ≡ 23
    pub chosen : late ≡ true → gap c node ≡ 0 → ⊥
    pub last : (rows c j - 1) * bytes_of plan j ≤ o

  -- a write of a walk from counters c on that leaves d, with n rows more due at node e
  abbrev pub Behind : ℕ → ℕ → List ℕ → List ℕ → Entry → Type 0
  Behind e n c d (put j b o bs) = (late ≡ true → needed plan c j b ≤ o) × (1 ≤ b → Ends (o + length bs) (needed_by (code_of plan j) (rows d j + due e n j) (bytes d j) b))
  Behind e n c d (mask j p vs) = (rows c j ≤ p) × Ends (p + length vs) (rows d j + due e n j) × (code_of plan j ≡ 0 → ⊥)
  Behind e n c d (amend j b o bs) = Over c j o × (b ≡ 1) × Ends (o + length bs) (needed_by (code_of plan j) (rows d j + due e n j) (bytes d j) b)

  unfoldable pub AllBehind : ℕ → ℕ → List ℕ → List ℕ → Log → Type 0
  AllBehind e n c d [] = Unit {0}
  AllBehind e n c d (x ∷ l) = Behind e n c d x × AllBehind e n c d l

  pub behind_wide : (e n : ℕ) (a b c d : List ℕ) → Longer plan late a b → Longer plan late c d → (x : Entry) → Behind e n b c x → Behind e n a d x
  behind_wide e n a b c d p q (put j k o bs) h =
      let l = needed_more (code_of plan j) (rows a j) (rows b j) (bytes a j) (bytes b j) k (p.rows_grow j) (p.bytes_grow j) in
      let r = q.rows_grow j in
      (λ y. let g = h.0 y in omega arith, λ one. ends_up (h.1 one) (needed_more (code_of plan j) _ _ _ _ k (omega arith) (q.bytes_grow j)))
  behind_wide e n a b c d p q (amend j k o bs) h =
      let l = p.rows_grow j in
      let r = q.rows_grow j in
      let m : (rows a j - 1) * bytes_of plan j ≤ (rows b j - 1) * bytes_of plan j = mul-le-mul_right (bytes_of plan j) (omega arith) in (
        record {
          node = h.0.node;
          ends = h.0.ends;
          runs = h.0.runs;
          chosen = λ y z. h.0.chosen y (p.gap_off y h.0.node h.0.runs z);
          last = le_trans m h.0.last;
        },
        h.1,
        ends_up h.2 (needed_more (code_of plan j) _ _ _ _ k (omega arith) (q.bytes_grow j)),
      )
  behind_wide e n a b c d p q (mask j k vs) h =
      let l = p.rows_grow j in
      let r = q.rows_grow j in
      (omega (arith, h.0), ends_up h.1 (omega arith), h.2)

  all_wide : (e n : ℕ) (a b c d : List ℕ) → Longer plan late a b → Longer plan late c d → (l : Log) → AllBehind e n b c l → AllBehind e n a d l
  unfolding AllBehind
  all_wide e n a b c d p q [] h = tt
  all_wide e n a b c d p q (x ∷ l) h = (behind_wide e n a b c d p q x h.0, all_wide e n a b c d p q l h.1)

  all_append : (e n : ℕ) (c d : List ℕ) (l k : Log) → AllBehind e n c d l → AllBehind e n c d k → AllBehind e n c d (l ++ k)
  unfolding AllBehind
  all_append e n c d [] k h g = g
  all_append e n c d (x ∷ l) k h g = (h.0, all_append e n c d l k h.1 g)

  -- none due is fewer due
  behind_due : (e n f : ℕ) (c d : List ℕ) (x : Entry) → Behind f 0 c d x → Behind e n c d x
  behind_due e n f c d (put j k o bs) h =
      let z = due_none f j in
      (h.0, λ one. ends_up (h.1 one) (needed_more (code_of plan j) _ _ _ _ k (omega arith) (λ s. le_refl _)))
  behind_due e n f c d (amend j k o bs) h =
      let z = due_none f j in
      (h.0, h.1, ends_up h.2 (needed_more (code_of plan j) _ _ _ _ k (omega arith) (λ s. le_refl _)))
  behind_due e n f c d (mask j k vs) h = let z = due_none f j in (h.0, ends_up h.1 (omega arith), h.2)

  all_due : (e n f : ℕ) (c d : List ℕ) (l : Log) → AllBehind f 0 c d l → AllBehind e n c d l
  unfolding AllBehind
  all_due e n f c d [] h = tt
  all_due e n f c d (x ∷ l) h = (behind_due e n f c d x h.0, all_due e n f c d l h.1)

  -- the rows that were due are counted
  ends_close : (i n : ℕ) (d : List ℕ) → i < 32 → Fine d → (j k m : ℕ) → 1 ≤ k → Ends m (needed_by (code_of plan j) (rows d j + due i n j) (bytes d j) k)
      → Ends m (needed_by (code_of plan j) (rows (add_rows i n d) j + due i 0 j) (bytes (add_rows i n d) j) k)
  ends_close i n d small fine j k m one h g =
      let e = rows_now plan late i n d small fine j in
      let f = bytes_of_rows d i n j in
      let z = due_none i j in
      let v : rows (add_rows i n d) j + due i 0 j ≡ min (rows d j + due i n j) top = omega arith in
      let w : needed_by (code_of plan j) (rows (add_rows i n d) j + due i 0 j) (bytes (add_rows i n d) j) k ≡ needed_by (code_of plan j) (min (rows d j + due i n j) top) (bytes d j) k = rw (v, f) in
      let s = needed_cut (code_of plan j) (rows d j + due i n j) (bytes d j) k one (omega arith) in
      let t = h (omega arith) in
      omega arith

  behind_close : (i n : ℕ) (c d : List ℕ) → i < 32 → Fine d → (x : Entry) → Behind i n c d x → Behind i 0 c (add_rows i n d) x
  behind_close i n c d small fine (put j k o bs) h = (h.0, λ one. ends_close i n d small fine j k (o + length bs) one (h.1 one))
  behind_close i n c d small fine (amend j k o bs) h = (h.0, h.1, ends_close i n d small fine j k (o + length bs) (omega (arith, h.1)) h.2)
  behind_close i n c d small fine (mask j k vs) h =
      let e = rows_now plan late i n d small fine j in
      let z = due_none i j in
      (h.0, λ g. let t = h.1 (omega arith) in omega arith, h.2)

  all_close : (i n : ℕ) (c d : List ℕ) → i < 32 → Fine d → (l : Log) → AllBehind i n c d l → AllBehind i 0 c (add_rows i n d) l
  unfolding AllBehind
  all_close i n c d small fine [] h = tt
  all_close i n c d small fine (x ∷ l) h = (behind_close i n c d small fine x h.0, all_close i n c d small fine l h.1)

  -- ---- walks

  -- what a walk that is done has added
  pub record Added (e n : ℕ) (c d : List ℕ) (l : Log) : Type 0 where
    pub fine : Fine d
    pub longer : Longer plan late c d
    pub behind : AllBehind e n c d l

  pub record Adds (e n : ℕ) (c : List ℕ) (o : Out) : Type 0 where
    pub added : Fine c → o.ans ≡ 0 → Added e n c o.counters o.log

  module _ (e n : ℕ) where
    pub adds_done : (c : List ℕ) → Adds e n c (done c)
    unfolding done AllBehind
    adds_done c = record { added = λ f h. record { fine = f; longer = longer_same plan late c; behind = tt } }

    pub adds_nulls : (i k : ℕ) (c : List ℕ) → i < 32 → Adds e n c (done (add_nulls i k c))
    unfolding done AllBehind
    adds_nulls i k c s = record { added = λ f h. record { fine = fine_nulls plan late i k c s f; longer = longer_nulls plan late i k c s f; behind = tt } }

    -- a run-end node's gap is set; where it is 0, an order leaves it
    pub adds_gap : (i v : ℕ) (c : List ℕ) → i < 32 → code_of plan i ≡ 23 → (late ≡ true → gap c i ≡ 0 → v ≡ 0) → Adds e n c (done (set_bytes i v c))
    unfolding done AllBehind
    adds_gap i v c s q z = record { added = λ f h. record { fine = fine_bytes plan late i v c s f; longer = longer_gap plan late i v c s f q z; behind = tt } }

    pub adds_fail : (g : ℕ) (c : List ℕ) → 0 < g → Adds e n c (fail g c)
    unfolding fail
    adds_fail g c p = record { added = λ f h. absurd (omega arith) }

    -- a walk that is refused has nothing to add
    pub adds_never : (c : List ℕ) (o : Out) → (o.ans ≡ 0 → ⊥) → Adds e n c o
    adds_never c o q = record { added = λ f h. absurd (q h) }

    pub adds_wrote : (x : Entry) (c : List ℕ) → Behind e n c c x → Adds e n c (wrote x c)
    unfolding wrote AllBehind
    adds_wrote x c h = record { added = λ f k. record { fine = f; longer = longer_same plan late c; behind = (h, tt) } }

    pub adds_cond : (c : List ℕ) (b : Bool) (o p : Out) → (b ≡ true → Adds e n c o) → (b ≡ false → Adds e n c p) → Adds e n c (cond b o p)
    adds_cond c true o p h k = h refl
    adds_cond c false o p h k = k refl

    pub adds_need : (b : Bool) (g : ℕ) (c : List ℕ) (o : Out) → 0 < g → (b ≡ true → Adds e n c o) → Adds e n c (need b g c o)
    unfolding need
    adds_need b g c o p h = adds_cond c b o (fail g c) h (λ q. adds_fail g c p)

    pub adds_found : (m v g : ℕ) (c : List ℕ) (k : ℕ → Out) → 0 < g → (v < m → Adds e n c (k v)) → Adds e n c (found m v g c k)
    unfolding found
    adds_found m v g c k p h = adds_cond c (ltb v m) (k v) (fail g c) (λ q. h (ltb-true v m q)) (λ q. adds_fail g c p)

    pub adds_next : (c : List ℕ) (o : Out) (k : List ℕ → Out) → Adds e n c o → ((d : List ℕ) → Adds e n d (k d)) → Adds e n c (next o k)
    unfolding next
    adds_next c o k u h = go (eqb o.ans 0) refl
      where
        go : (b : Bool) → eqb o.ans 0 ≡ b → Adds e n c (cond b (record { ans = (k o.counters).ans; counters = (k o.counters).counters; log = o.log ++ (k o.counters).log }) o)
        go true q =
            record {
              added = λ f z.
                  let a = u.added f (eqb-true _ _ q) in
                  let b = (h o.counters).added a.fine z in
                  record {
                    fine = b.fine;
                    longer = longer_then a.longer b.longer;
                    behind = all_append e n c (k o.counters).counters o.log (k o.counters).log
                        (all_wide e n c c o.counters (k o.counters).counters (longer_same plan late c) b.longer o.log a.behind)
                        (all_wide e n c o.counters (k o.counters).counters (k o.counters).counters a.longer (longer_same plan late _) (k o.counters).log b.behind);
                  };
            }
        go false q = u

    -- counters changed twice
    pub adds_done_two : (c : List ℕ) (o : Out) (g f : List ℕ → List ℕ) → Adds e n c (next o (λ d. done (g d))) → ((d : List ℕ) → Adds e n d (done (f d)))
        → Adds e n c (next o (λ d. done (f (g d))))
    unfolding done next
    adds_done_two c o g f u h = subst (Adds e n c) (next_next o (λ d. done (g d)) (λ d. done (f d))) (adds_next c (next o (λ d. done (g d))) (λ d. done (f d)) u h)

    pub adds_each : (f : ℕ → List ℕ → Out) (m : ℕ) → ((r : ℕ) (c : List ℕ) → r < m → Adds e n c (f r c)) → (k r : ℕ) (c : List ℕ) → r + k ≤ m → Adds e n c (each f k r c)
    unfolding each
    adds_each f m h zero r c l = adds_done c
    adds_each f m h (suc k) r c l = adds_next c (f r c) (λ d. each f k (suc r) d) (h r c (omega arith)) (λ d. adds_each f m h k (suc r) d (omega arith))

    -- a whole walk is one within another
    pub adds_whole : (i : ℕ) (c : List ℕ) (o : Out) → Adds i 0 c o → Adds e n c o
    adds_whole i c o u = record { added = λ f h. let a = u.added f h in record { fine = a.fine; longer = a.longer; behind = all_due e n i c o.counters o.log a.behind } }

  -- the rows are counted last
  pub adds_close : (i n : ℕ) (c : List ℕ) (o : Out) → i < 32 → Adds i n c o → Adds i 0 c (next o (λ d. done (add_rows i n d)))
  unfolding next done
  adds_close i n c o s u = go (eqb o.ans 0) refl
    where
      go : (b : Bool) → eqb o.ans 0 ≡ b → Adds i 0 c (cond b (record { ans = 0; counters = add_rows i n o.counters; log = o.log ++ [] }) o)
      go true q =
          record {
            added = λ f z.
                let a = u.added f (eqb-true _ _ q) in
                let l = longer_rows plan late i n o.counters s a.fine in
                record {
                  fine = fine_rows plan late i n o.counters s a.fine;
                  longer = longer_then a.longer l;
                  behind = subst (AllBehind i 0 c (add_rows i n o.counters)) (sym (append-nil o.log)) (all_close i n c o.counters s a.fine o.log a.behind);
                };
          }
      go false q = record { added = λ f z. absurd (eqb-false _ _ q z) }

  pub adds_close_two : (i n : ℕ) (c : List ℕ) (o : Out) (k : List ℕ → Out) → i < 32 → Adds i n c o → ((d : List ℕ) → Adds i n d (k d))
      → Adds i 0 c (next o (λ d. next (k d) (λ z. done (add_rows i n z))))
  adds_close_two i n c o k s u h = subst (Adds i 0 c) (next_next o k (λ z. done (add_rows i n z))) (adds_close i n c (next o k) s (adds_next i n c o k u h))

  -- ---- writes at a node that n rows are due at

  module _ (i n : ℕ) where
    -- q entries of w bytes behind r of them
    pub behind_rows : (b w r q o : ℕ) (bs c : List ℕ) → ((k m : ℕ) → needed_by (code_of plan i) k m b ≡ k * w) → o ≡ (rows c i + r) * w → length bs ≤ q * w → r + q ≤ n
        → Behind i n c c (put i b o bs)
    behind_rows b w r q o bs c h e l s =
        let d = due_here i n in
        let f = h (rows c i) (bytes c i) in
        let g = h (rows c i + due i n i) (bytes c i) in
        let k1 : rows c i * w ≤ (rows c i + r) * w = mul-le-mul_right w (omega arith) in
        let k2 : (rows c i + r + q) * w ≤ (rows c i + due i n i) * w = mul-le-mul_right w (omega arith) in
        let k3 = add-mul (rows c i + r) q w in
        (λ y. omega arith, λ one z. omega arith)

    -- n entries of w bytes
    pub behind_all : (b w : ℕ) (bs c : List ℕ) → ((k m : ℕ) → needed_by (code_of plan i) k m b ≡ k * w) → length bs ≤ n * w → Behind i n c c (put i b (rows c i * w) bs)
    behind_all b w bs c h l = behind_rows b w 0 n (rows c i * w) bs c h (ap (◌* w) (sym (add-zero (rows c i)))) l (omega arith)

    -- n offsets behind the last one
    pub behind_offsets : (w : ℕ) (bs c : List ℕ) → ((k m : ℕ) → needed_by (code_of plan i) k m 1 ≡ (k + 1) * w) → length bs ≡ w * n
        → Behind i n c c (put i 1 (suc (rows c i) * w) bs)
    behind_offsets w bs c h l =
        let d = due_here i n in
        let f = h (rows c i) (bytes c i) in
        let g = h (rows c i + due i n i) (bytes c i) in
        let k1 : (rows c i + 1) * w ≤ suc (rows c i) * w = mul-le-mul_right w (omega arith) in
        let k2 : (suc (rows c i) + n) * w ≤ (rows c i + due i n i + 1) * w = mul-le-mul_right w (omega arith) in
        let k3 = add-mul (suc (rows c i)) n w in
        let k4 = mul_comm w n in
        (λ y. omega arith, λ one z. omega arith)

    pub behind_bits : (vs c : List ℕ) → length vs ≤ n → (code_of plan i ≡ 0 → ⊥) → Behind i n c c (mask i (rows c i) vs)
    behind_bits vs c l q = let d = due_here i n in (le_refl _, λ z. omega arith, q)

    -- the last run end of node i written over
    pub over_last : (v : ℕ) (c : List ℕ) → code_of plan i ≡ 23 → (late ≡ true → gap c i ≡ 0 → ⊥) → 1 ≤ rows c (suc i)
        → ((k m : ℕ) → needed_by (code_of plan (suc i)) k m 1 ≡ k * bytes_of plan (suc i)) → Behind i n c c (amend (suc i) 1 ((rows c (suc i) - 1) * bytes_of plan (suc i)) (encode (bytes_of plan (suc i)) v))
    over_last v c q on some h =
        let w = bytes_of plan (suc i) in
        let f = h (rows c (suc i) + due i n (suc i)) (bytes c (suc i)) in
        let l = length_encode w v in
        let z : suc (rows c (suc i) - 1) ≡ rows c (suc i) = omega arith in
        let y : rows c (suc i) * w ≡ (rows c (suc i) - 1) * w + w = ap (◌* w) (sym z) ∙ suc-mul (rows c (suc i) - 1) w in
        let k : rows c (suc i) * w ≤ (rows c (suc i) + due i n (suc i)) * w = mul-le-mul_right w (omega arith) in
        (record { node = i; ends = refl; runs = q; chosen = on; last = le_refl _ }, refl, λ g. omega arith)
