-- The laws of the parts: a number names one buffer of one node, and where the parts lie well, the bytes of one are no other's.
-- Assumes nothing.
use mathlib.Core.Path.{◌≡◌, refl, ap, sym, ◌∙◌}
use mathlib.Core.Bool.{Bool, true, false, ◌&&◌, ◌||◌}
use mathlib.Core.List.{List}
use Prim.Native.Nat.{ℕ, zero, suc, ◌+◌, ◌*◌, ◌-◌, ◌/◌, ◌≤◌, ◌<◌}
use native.Mathlib.Decide.{dec_lt}
use native.Mathlib.Omega.{arith}
use native.Mathlib.Numerals.{add-one}
use lib.ListN.{length}
use lib.Dec.{ltb, eqb}
use borrow.Author.Tests.{lt-ltb, le-leb, leb-true, ltb-true, eqb-true, eq-eqb}
use Rattle.columnar.specs.Test.{every, only_if}
use Rattle.array_data.proofs.lent_tables.Laws.{and_left, and_right}
use Rattle.walk.specs.State.{rows}
use Rattle.walk.specs.Log.{start_of}
use Rattle.plan.specs.parts.Parts.{spot, nodes_of, validity_parts, buffer_parts, part_count, has_part, parts_before, part_total, number_of, part_from, part_at, needed, start_at, size_at, size_of, in_room, apart, Apart, before, behind, first_empty, second_empty, part_holds, parts_hold, parts_placed, part_within, parts_within, Used, Numbered, Named}
use Rattle.std.specs.Prelude.{Some, None}
use Rattle.std.proofs.lemmas.Option.{same_Some}
use Rattle.plan.specs.declared.parts.Spot.{Spot}
use Rattle.plan.proofs.parts.Laws.{few_bits, few_parts, at_here, at_later, at_end}

pub every_at : (p : ℕ → Bool) (n : ℕ) → every p n ≡ true → (i : ℕ) → i < n → p i ≡ true
every_at p zero h i l = absurd (omega arith)
every_at p (suc n) h i l = go (dec_lt i n) (every_at p n (and_left (every p n) (p n) h) i)
  where
    go : Dec (i < n) → (i < n → p i ≡ true) → p i ≡ true
    go (yes y) f = f y
    go (no y) f = let e : i ≡ n = omega arith in rw e (and_right (every p n) (p n) h)

every_all : (p : ℕ → Bool) (n : ℕ) → ((i : ℕ) → i < n → p i ≡ true) → every p n ≡ true
every_all p zero h = refl
every_all p (suc n) h = rw (every_all p n (λ i l. h i (omega arith)), h n (omega arith))

only_if_lem : (a : Bool) {b : Bool} → (a ≡ true → b ≡ true) → only_if a b ≡ true
only_if_lem true h = h refl
only_if_lem false h = refl

only_in : {a b : Bool} → a ≡ true → only_if a b ≡ true → b ≡ true
only_in e h = rw e at h

-- ---- numbers

module _ (plan : List ℕ) where
  -- the buffer's place among the parts of its node
  slot : (i b : ℕ) → has_part plan i b ≡ true → (1 ≤ validity_parts plan i + b) × (validity_parts plan i + b ≤ part_count plan i)
  unfolding has_part
  slot i zero h = let e = eqb-true (validity_parts plan i) 1 h in (omega arith, omega arith)
  slot i (suc b) h = let l = ltb-true b (buffer_parts plan i) h in (omega arith, omega arith)

  pub used_few : {i b : ℕ} → Used plan i b → b < 3
  used_few {i} {b} u = let s = slot i b u.part in let l = few_parts plan i in omega arith

  before_next : (i j : ℕ) → i < j → parts_before plan i + part_count plan i ≤ parts_before plan j
  unfolding parts_before
  before_next i zero l = absurd (omega arith)
  before_next i (suc j) l = go (dec_lt i j) (before_next i j)
    where
      go : Dec (i < j) → (i < j → parts_before plan i + part_count plan i ≤ parts_before plan j) → parts_before plan i + part_count plan i ≤ parts_before plan j + part_count plan j
      go (yes y) f = let h = f y in omega arith
      go (no y) f = let e : i ≡ j = omega arith in rw e (omega arith)

  has_slot : (i b : ℕ) → 1 ≤ validity_parts plan i + b → validity_parts plan i + b ≤ part_count plan i → has_part plan i b ≡ true
  unfolding has_part
  has_slot i zero h l = let f = few_bits plan i in eq-eqb (validity_parts plan i) 1 (omega arith)
  has_slot i (suc b) h l = lt-ltb b (buffer_parts plan i) (omega arith)

  -- the node of part p among the first k
  record Holder (k p : ℕ) : Type 0 where
    node : ℕ
    below : node < k
    from : parts_before plan node ≤ p
    to : p < parts_before plan node + part_count plan node

  holder : (k p : ℕ) → p < parts_before plan k → Holder k p
  unfolding parts_before
  holder zero p l = absurd (omega arith)
  holder (suc k) p l = go (dec_lt p (parts_before plan k)) (holder k p)
    where
      go : Dec (p < parts_before plan k) → (p < parts_before plan k → Holder k p) → Holder (suc k) p
      go (yes y) f = let h = f y in record { node = h.node; below = omega arith; from = h.from; to = h.to }
      go (no y) f = record { node = k; below = omega arith; from = omega arith; to = omega arith }

  -- the first i nodes are passed
  passed : (n p i : ℕ) → i ≤ n → parts_before plan i ≤ p → part_from plan n 0 p ≡ part_from plan (n - i) i (p - parts_before plan i)
  unfolding parts_before
  passed n p zero l h =
      let e : n - 0 ≡ n = omega arith in
      let f : p - 0 ≡ p = omega arith in
      rw (e, f)
  passed n p (suc i) l h =
      let e : p - (parts_before plan i + part_count plan i) ≡ p - parts_before plan i - part_count plan i = omega arith in
      rw e
      (passed n p i (omega arith) (omega arith)
      ∙ (rw (add-one i) at (at_later plan n i (p - parts_before plan i) (part_count plan i) (omega arith) refl (omega arith))))

  -- "how many parts there are": no other number is a part's
  pub part_none : (p : ℕ) → part_total plan ≤ p → part_at plan p ≡ None
  part_none p h = passed (nodes_of plan) p (nodes_of plan) (omega arith) h ∙ at_end plan (nodes_of plan) (nodes_of plan) _ (omega arith)

  module _ (n : Numbered plan) where
    number_is : {i b : ℕ} → Used plan i b → number_of plan i b ≡ parts_before plan i + (validity_parts plan i + b - 1)
    number_is {i} {b} u = let e = n.word_is i u.node in let s = slot i b u.part in omega arith

    -- EVERY PART'S NUMBER IS BELOW THE TOTAL
    pub number_below : {i b : ℕ} → Used plan i b → number_of plan i b < part_total plan
    number_below {i} {b} u =
        let e = number_is u in
        let s = slot i b u.part in
        let h = before_next i (nodes_of plan) u.node in
        omega arith

    -- A PART IS ANSWERED WITH ITS NODE AND ITS BUFFER
    pub part_named : {i b : ℕ} → Used plan i b → part_at plan (number_of plan i b) ≡ Some (spot i b)
    part_named {i} {b} u =
        let e = number_is u in
        let s = slot i b u.part in
        let p = number_of plan i b in
        let f : p - parts_before plan i + 1 - validity_parts plan i ≡ b = omega arith in
        passed (nodes_of plan) p i (omega arith) (omega arith)
        ∙ sym (at_here plan (nodes_of plan) i (p - parts_before plan i) (validity_parts plan i) u.node (omega arith) refl)
        ∙ ap (λ k. Some (spot i k)) f

    -- TWO BUFFERS HAVE TWO NUMBERS
    pub number_distinct : {i b j e : ℕ} → Used plan i b → Used plan j e → number_of plan i b ≡ number_of plan j e → (i ≡ j) × (b ≡ e)
    number_distinct {i} {b} {j} {e} u v q = let h : Some (spot i b) ≡ Some (spot j e) = sym (part_named u) ∙ ap (part_at plan) q ∙ part_named v in let s : spot i b ≡ spot j e = same_Some _ _ h in (ap (λ (x : Spot). x.node) s, ap (λ (x : Spot). x.buffer) s)

    -- EVERY NUMBER BELOW THE TOTAL IS A PART'S
    pub number_named : (p : ℕ) → p < part_total plan → Named plan p
    number_named p l =
        let h = holder (nodes_of plan) p l in
        let i = h.node in
        let b = p - parts_before plan i + 1 - validity_parts plan i in
        let f = few_bits plan i in
        let u : Used plan i b = record { node = h.below; part = has_slot i b (omega arith) (omega arith) } in
        let q : number_of plan i b ≡ p = number_is u ∙ omega arith in
        record { node = i; buffer = b; used = u; number = q; answer = sym (ap (part_at plan) q) ∙ part_named u }

-- ---- where they lie

pub apart_flip : {a m b n : ℕ} → Apart a m b n → Apart b n a m
apart_flip (before h) = behind h
apart_flip (behind h) = before h
apart_flip (first_empty h) = second_empty h
apart_flip (second_empty h) = first_empty h

-- so are shorter ranges from the same places on
pub apart_less : {a m b n : ℕ} (k l : ℕ) → k ≤ m → l ≤ n → Apart a m b n → Apart a k b l
apart_less k l p q (before h) = before (omega arith)
apart_less k l p q (behind h) = behind (omega arith)
apart_less k l p q (first_empty h) = first_empty (omega arith)
apart_less k l p q (second_empty h) = second_empty (omega arith)

abbrev PartsApart : List ℕ → ℕ → ℕ → Type 0
PartsApart parts p q = Apart (start_at parts p) (size_at parts p) (start_at parts q) (size_at parts q)

apart_cases : (a b c d : Bool) {P : Type 0} → (a ≡ true → P) → (b ≡ true → P) → (c ≡ true → P) → (d ≡ true → P) → a || b || c || d ≡ true → P
apart_cases true b c d f g h k e = f refl
apart_cases false true c d f g h k e = g refl
apart_cases false false true d f g h k e = h refl
apart_cases false false false d f g h k e = k e

pub apart_is : (parts : List ℕ) (p q : ℕ) → apart parts p q ≡ true → PartsApart parts p q
unfolding apart
apart_is parts p q h =
    apart_cases _ _ _ _
    (λ e. first_empty (eqb-true _ _ e))
    (λ e. second_empty (eqb-true _ _ e))
    (λ e. before (leb-true _ _ e))
    (λ e. behind (leb-true _ _ e))
    h

module _ (parts : List ℕ) (count m : ℕ) (h : parts_placed parts count m ≡ true) where
  pub placed_length : length parts ≡ 2 * count
  unfolding parts_placed
  placed_length = eqb-true _ _ (and_left (eqb (length parts) (2 * count)) (every (in_room parts m) count) (and_left (eqb (length parts) (2 * count) && every (in_room parts m) count) _ h))

  pub placed_in : (p : ℕ) → p < count → start_at parts p + size_at parts p ≤ m
  unfolding parts_placed
  placed_in p l =
      let g = and_right (eqb (length parts) (2 * count)) (every (in_room parts m) count) (and_left (eqb (length parts) (2 * count) && every (in_room parts m) count) _ h) in
      leb-true _ _ (every_at (in_room parts m) count g p l)

  placed_below : (p q : ℕ) → p < count → q < p → PartsApart parts p q
  unfolding parts_placed
  placed_below p q l k =
      let g = and_right (eqb (length parts) (2 * count) && every (in_room parts m) count) _ h in
      apart_is parts p q (every_at (λ s. apart parts p s) p (every_at (λ r. every (λ s. apart parts r s) r) count g p l) q k)

  pub placed_apart : (p q : ℕ) → p < count → q < count → (p ≡ q → ⊥) → PartsApart parts p q
  placed_apart p q l k d = go (dec_lt q p)
    where
      go : Dec (q < p) → PartsApart parts p q
      go (yes y) = placed_below p q l y
      go (no y) = apart_flip (placed_below q p k (omega arith))

-- ---- the parts of buffers

module _ (plan parts : List ℕ) (m : ℕ) where
  -- THE PARTS OF AN OPENING lie in the room, and two are apart
  module _ (n : Numbered plan) (h : parts_placed parts (part_total plan) m ≡ true) where
    pub used_in : (i b : ℕ) → Used plan i b → start_of plan parts i b + size_of plan parts i b ≤ m
    used_in i b u = placed_in parts (part_total plan) m h (number_of plan i b) (number_below plan n u)

    pub used_apart : (i b j e : ℕ) → Used plan i b → Used plan j e → (i ≡ j → b ≡ e → ⊥)
        → Apart (start_of plan parts i b) (size_of plan parts i b) (start_of plan parts j e) (size_of plan parts j e)
    used_apart i b j e u v d =
        placed_apart parts (part_total plan) m h (number_of plan i b) (number_of plan j e) (number_below plan n u) (number_below plan n v)
        (λ q. let s = number_distinct plan n u v q in d s.0 s.1)

    -- so does every order's test pass
    pub placed_within : parts_within plan parts m ≡ true
    unfolding parts_within part_within
    placed_within =
        every_all (λ i. every (λ b. part_within plan parts m i b) 3) (nodes_of plan)
        (λ i l. every_all (λ b. part_within plan parts m i b) 3 (λ b k. only_if_lem (has_part plan i b) (λ e. one i b (record { node = l; part = e }))))
      where
        one : (i b : ℕ) → Used plan i b → ltb (2 * number_of plan i b + 1) (length parts) && in_room parts m (number_of plan i b) ≡ true
        one i b u =
            let f = number_below plan n u in
            let g = placed_length parts (part_total plan) m h in
            rw (lt-ltb (2 * number_of plan i b + 1) (length parts) (omega arith)) (le-leb _ _ (used_in i b u))

  -- THE PARTS OF AN ORDER are in the table and lie in the room
  pub within_used : parts_within plan parts m ≡ true → (i b : ℕ) → Used plan i b
      → (2 * number_of plan i b + 1 < length parts) × (start_of plan parts i b + size_of plan parts i b ≤ m)
  unfolding parts_within part_within
  within_used h i b u =
      let g = every_at (λ k. part_within plan parts m i k) 3 (every_at (λ k. every (λ e. part_within plan parts m k e) 3) (nodes_of plan) h i u.node) b (used_few plan u) in
      let t = only_in u.part g in
      (ltb-true _ _ (and_left (ltb (2 * number_of plan i b + 1) (length parts)) (in_room parts m (number_of plan i b)) t), leb-true _ _ (and_right (ltb (2 * number_of plan i b + 1) (length parts)) (in_room parts m (number_of plan i b)) t))

module _ (plan counters parts : List ℕ) (h : parts_hold plan counters parts ≡ true) where
  -- EVERY PART HOLDS ITS BYTES
  pub used_holds : (i b : ℕ) → Used plan i b → needed plan counters i b ≤ size_of plan parts i b
  unfolding parts_hold part_holds
  used_holds i b u =
      leb-true _ _ (only_in u.part (every_at (λ k. part_holds plan counters parts i k) 3 (every_at (λ k. every (λ e. part_holds plan counters parts k e) 3) (nodes_of plan) h i u.node) b (used_few plan u)))

  -- a bit for each row
  pub bits_held : (i : ℕ) → Used plan i 0 → rows counters i ≤ 8 * size_of plan parts i 0
  bits_held i u = let g : (rows counters i + 7) / 8 ≤ size_of plan parts i 0 = used_holds i 0 u in omega arith

  module _ (m : ℕ) (n : Numbered plan) (p : parts_placed parts (part_total plan) m ≡ true) where
    -- WHAT IS USED LIES IN THE ROOM
    pub needed_in_lem : (i b : ℕ) → Used plan i b → start_of plan parts i b + needed plan counters i b ≤ m
    needed_in_lem i b u = let g = used_in plan parts m n p i b u in let k = used_holds i b u in omega arith

    -- AND NO BYTE OF ONE PART IS ANOTHER'S
    pub needed_apart : (i b j e : ℕ) → Used plan i b → Used plan j e → (i ≡ j → b ≡ e → ⊥)
        → Apart (start_of plan parts i b) (needed plan counters i b) (start_of plan parts j e) (needed plan counters j e)
    needed_apart i b j e u v d = apart_less (needed plan counters i b) (needed plan counters j e) (used_holds i b u) (used_holds j e v) (used_apart plan parts m n p i b j e u v d)
