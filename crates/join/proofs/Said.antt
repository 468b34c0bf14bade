-- 01's sentences, said twice: the definitions that the contracts cite are what specs/Said.antt says in other words. Assumes nothing.
use mathlib.Core.Path.{◌≡◌, refl, sym, ap, subst, ◌∙◌}
use mathlib.Core.Logic.{◌↔◌}
use mathlib.Core.Bool.{Bool, true, false, cond, ◌&&◌, ◌||◌, false≢true}
use mathlib.Core.Option.{Option, none, some}
use mathlib.Core.List.{List, [], ◌∷◌}
use Prim.Native.Nat.{ℕ, zero, suc, ◌+◌, ◌*◌, ◌≤◌, ◌<◌}
use native.Mathlib.Decide.{dec_lt}
use native.Mathlib.Omega.{arith}
use lib.ListN.{length}
use lib.Dec.{leb, ltb, eqb}
use borrow.Author.Tests.{leb-true, le-leb, eqb-true, eqb-false, eq-eqb, ne_eqb}
use Rattle.array_data.proofs.lent_tables.Laws.{and_left, and_right}
use Rattle.columnar.specs.Types.{Number, Plain, fixed, string, Ty, t_dictionary}
use Rattle.columnar.specs.Array.{Array, null_count_of}
use Rattle.columnar.specs.Plain.{PlainBody}
use Rattle.columnar.specs.Dictionary.{Dictionary}
use Rattle.columnar.specs.Test.{every, same as same_list}
use Rattle.model.specs.Try.{Try, done, stop, then}
use Rattle.model.specs.Opening.{keeps, ptr_eq, shared, entries_before}
use Rattle.model.specs.Mutable.{Mutable, start_node, extend_node}
use Rattle.model.specs.Primitive.{plain_extend, plain_start}
use Rattle.model.specs.Transform.{joined_from, the_dictionary}
use Rattle.model.specs.Counters.{ByCounter}
use Rattle.model.proofs.Joined.{done_is, then_done}
use Rattle.array_data.specs.Tables.{Tables, place}
use Rattle.array_data.specs.Typed.{Tree, valid_start, starts, body_of}
use Rattle.columns.specs.Grounds.{ceiling, sources_ground}
use Rattle.plan.specs.parts.Parts.{part_total, start_at, size_at, in_room, apart, Apart, before, behind, first_empty, second_empty, parts_placed}
use Rattle.plan.proofs.parts.Placed.{every_at}
use Rattle.refinement.proofs.orders.Booked.{ground_of}
use Rattle.refinement.specs.opening.Open.{room_placed}
use Rattle.refinement.specs.opening.Fits.{open_in}
use Rattle.refinement.proofs.opening.Opened.{given, opening_ground}
use Rattle.refinement.proofs.opening.PartsDue.{parts_due_lem}
use Rattle.join.specs.Join.{Lending, Bytes, sources_in, type_in, columns_in, opening_of, lent_of}
use Rattle.join.specs.Said.{parts_in, PartsLie, nulls_at, SameMask, no_null, one_place, SameBuffers, OneDictionary}
use Rattle.join.proofs.Opens.{parts_next}

-- ---- ground 14

every_all : (p : ℕ → Bool) (n : ℕ) → ((i : ℕ) → i < n → p i ≡ true) → every p n ≡ true
every_all p zero h = refl
every_all p (suc n) h = rw (every_all p n (λ i l. h i (omega arith)), h n (omega arith))

two : {a b : Bool} → a ≡ true → b ≡ true → a && b ≡ true
two {a} {b} e f = ap (λ x. x && b) e ∙ f

module _ (parts : List ℕ) (p q : ℕ) where
  abbrev Lie : Type 0
  Lie = Apart (start_at parts p) (size_at parts p) (start_at parts q) (size_at parts q)

  apart_is : apart parts p q ≡ true → Lie
  unfolding apart
  apart_is h = go (eqb (size_at parts p) 0) refl (eqb (size_at parts q) 0) refl (leb (start_at parts p + size_at parts p) (start_at parts q)) refl (leb (start_at parts q + size_at parts q) (start_at parts p)) refl h
    where
      go : (a : Bool) → eqb (size_at parts p) 0 ≡ a → (b : Bool) → eqb (size_at parts q) 0 ≡ b → (c : Bool) → leb (start_at parts p + size_at parts p) (start_at parts q) ≡ c → (d : Bool)
          → leb (start_at parts q + size_at parts q) (start_at parts p) ≡ d → a || b || c || d ≡ true → Lie
      go true ea b eb c ec d ed h = first_empty (eqb-true _ _ ea)
      go false ea true eb c ec d ed h = second_empty (eqb-true _ _ eb)
      go false ea false eb true ec d ed h = before (leb-true _ _ ec)
      go false ea false eb false ec true ed h = behind (leb-true _ _ ed)
      go false ea false eb false ec false ed h = absurd (false≢true h)

  or_3 : (a b c : Bool) → a || b || c || true ≡ true
  or_3 true b c = refl
  or_3 false true c = refl
  or_3 false false true = refl
  or_3 false false false = refl

  or_2 : (a b d : Bool) → a || b || true || d ≡ true
  or_2 true b d = refl
  or_2 false true d = refl
  or_2 false false d = refl

  or_1 : (a c d : Bool) → a || true || c || d ≡ true
  or_1 true c d = refl
  or_1 false c d = refl

  is_apart : Lie → apart parts p q ≡ true
  unfolding apart
  is_apart (first_empty e) = rw (eq-eqb _ 0 e) refl
  is_apart (second_empty e) = rw (eq-eqb _ 0 e) (or_1 (eqb (size_at parts p) 0) (leb (start_at parts p + size_at parts p) (start_at parts q)) (leb (start_at parts q + size_at parts q) (start_at parts p)))
  is_apart (before h) = rw (le-leb _ _ h) (or_2 (eqb (size_at parts p) 0) (eqb (size_at parts q) 0) (leb (start_at parts q + size_at parts q) (start_at parts p)))
  is_apart (behind h) = rw (le-leb _ _ h) (or_3 (eqb (size_at parts p) 0) (eqb (size_at parts q) 0) (leb (start_at parts p + size_at parts p) (start_at parts q)))

turned : {a m b n : ℕ} → Apart a m b n → Apart b n a m
turned (before h) = behind h
turned (behind h) = before h
turned (first_empty e) = second_empty e
turned (second_empty e) = first_empty e

module _ (l : Lending) (b : Bytes l) (ok : sources_ground l.formats l.schema l.tables l.sources ≡ 0) where
  abbrev placed : Bool
  placed = room_placed l.formats l.schema l.sources l.tables l.keep l.gaps l.parts l.plan l.counters l.room

  -- the parts that a plan numbers are those of the type
  pub parts_are : part_total (lent_of l).plan ≡ parts_in l
  parts_are =
      parts_due_lem (lent_of l) (type_in l) (sources_in l) (columns_in l) l.keep l.gaps (given l.formats l.schema l.sources l.tables l.keep l.gaps l.parts b.body_bytes ok)

  pub placed_lie : placed ≡ true → PartsLie l
  unfolding room_placed parts_placed
  placed_lie h =
      let n = part_total (lent_of l).plan in
      let first = and_left (eqb (length l.plan) 872 && eqb (length l.counters) 96) (parts_placed l.parts n (length l.room)) h in
      let t = and_right (eqb (length l.plan) 872 && eqb (length l.counters) 96) (parts_placed l.parts n (length l.room)) h in
      let e = eqb (length l.parts) (2 * n) in
      let r = every (in_room l.parts (length l.room)) n in
      let a = every (λ p. every (λ q. apart l.parts p q) p) n in
      let er = and_left (e && r) a t in
      let lying : (p q : ℕ) → p < n → q < p → Apart (start_at l.parts p) (size_at l.parts p) (start_at l.parts q) (size_at l.parts q) = λ p q lp lq.
      apart_is l.parts p q (every_at (λ q. apart l.parts p q) p (every_at (λ p. every (λ q. apart l.parts p q) p) n (and_right (e && r) a t) p lp) q lq) in
      record {
        plan_long = eqb-true _ _ (and_left (eqb (length l.plan) 872) (eqb (length l.counters) 96) first);
        counters_long = eqb-true _ _ (and_right (eqb (length l.plan) 872) (eqb (length l.counters) 96) first);
        as_many = eqb-true _ _ (and_left e r er) ∙ ap (λ k. 2 * k) parts_are;
        inside = λ p q. leb-true _ _ (every_at (in_room l.parts (length l.room)) n (and_right e r er) p (omega (arith, q, parts_are)));
        apart = λ p q lp lq ne. by p q (omega (arith, lp, parts_are)) (omega (arith, lq, parts_are)) ne lying (dec_lt q p);
      }
    where
      by : (p q : ℕ) → p < part_total (lent_of l).plan → q < part_total (lent_of l).plan → (p ≡ q → ⊥)
          → ((p q : ℕ) → p < part_total (lent_of l).plan → q < p → Apart (start_at l.parts p) (size_at l.parts p) (start_at l.parts q) (size_at l.parts q)) → Dec (q < p)
          → Apart (start_at l.parts p) (size_at l.parts p) (start_at l.parts q) (size_at l.parts q)
      by p q lp lq ne f (yes y) = f p q lp y
      by p q lp lq ne f (no y) = turned (f q p lq (omega (arith, y, ne)))

  pub lie_placed : PartsLie l → placed ≡ true
  unfolding room_placed parts_placed
  lie_placed h =
      let n = part_total (lent_of l).plan in
      two {a = eqb (length l.plan) 872 && eqb (length l.counters) 96} {b = parts_placed l.parts n (length l.room)}
      (two {a = eqb (length l.plan) 872} {b = eqb (length l.counters) 96} (eq-eqb _ _ h.plan_long) (eq-eqb _ _ h.counters_long))
      (two {a = eqb (length l.parts) (2 * n) && every (in_room l.parts (length l.room)) n} {b = every (λ p. every (λ q. apart l.parts p q) p) n}
      (two {a = eqb (length l.parts) (2 * n)} {b = every (in_room l.parts (length l.room)) n} (eq-eqb _ _ (h.as_many ∙ ap (λ k. 2 * k) (sym parts_are)))
      (every_all (in_room l.parts (length l.room)) n (λ p q. le-leb _ _ (h.inside p (omega (arith, q, parts_are))))))
      (every_all (λ p. every (λ q. apart l.parts p q) p) n
      (λ p lp. every_all (λ q. apart l.parts p q) p (λ q lq. is_apart l.parts p q (h.apart p q (omega (arith, lp, parts_are)) (omega (arith, lp, lq, parts_are)) (λ e. omega (arith, e, lq)))))))

  module _ (small : length l.room ≤ ceiling) where
    -- 14 STANDS where the parts do not lie well ..
    pub fourteen : (PartsLie l → ⊥) → (opening_of l).refusal ≡ 14
    fourteen never = go placed refl
      where
        go : (z : Bool) → placed ≡ z → (opening_of l).refusal ≡ 14
        go true e = absurd (never (placed_lie e))
        go false e = parts_next l (le-leb (length l.room) ceiling small) (eq-eqb _ 0 ok) e

    -- .. AND ONLY THERE: else what is answered is the dictionaries' 6 or 8, 13, or 0
    pub not_fourteen : PartsLie l → (opening_of l).refusal ≡ ground_of (open_in (lent_of l).plan l.parts l.gaps (type_in l) l.keep (sources_in l) (columns_in l))
    not_fourteen h =
        opening_ground l.formats l.schema l.sources l.tables l.keep l.gaps l.parts l.plan l.counters l.room b.body_bytes b.room_bytes small ok (lie_placed h)

-- ---- dictionaries

module _ (x y : Tables) (i : ℕ) where
  mask_is : valid_start x i ≡ valid_start y i → SameMask x y i
  mask_is e = go (eqb (nulls_at x i) 0) refl (eqb (nulls_at y i) 0) refl e
    where
      go : (a : Bool) → eqb (nulls_at x i) 0 ≡ a → (b : Bool) → eqb (nulls_at y i) 0 ≡ b → cond a 0 (suc (place x i 1)) ≡ cond b 0 (suc (place y i 1)) → SameMask x y i
      go true ea true eb h = no_null (eqb-true _ _ ea) (eqb-true _ _ eb)
      go true ea false eb h = absurd (omega (arith, h))
      go false ea true eb h = absurd (omega (arith, h))
      go false ea false eb h = one_place (eqb-false _ _ ea) (eqb-false _ _ eb) (omega (arith, h))

  is_mask : SameMask x y i → valid_start x i ≡ valid_start y i
  is_mask (no_null e f) = rw (eq-eqb _ 0 e, eq-eqb _ 0 f) refl
  is_mask (one_place e f g) = rw (ne_eqb _ 0 e, ne_eqb _ 0 f) (ap suc g)

  starts_are : (p : Plain) → same_list (starts x p i) (starts y p i) ≡ true → SameMask x y i × SameBuffers p x y i
  starts_are (fixed n) h =
      let a = and_right (eqb (place x i 3) (place y i 3)) (eqb (valid_start x i) (valid_start y i)) h in
      let b = and_left (eqb (place x i 3) (place y i 3)) (eqb (valid_start x i) (valid_start y i)) h in
      (mask_is (eqb-true _ _ a), eqb-true _ _ b)
  starts_are (string w) h =
      let rest = eqb (place x i 5) (place y i 5) && eqb (place x i 3) (place y i 3) in
      let a = and_right rest (eqb (valid_start x i) (valid_start y i)) h in
      let b = and_left rest (eqb (valid_start x i) (valid_start y i)) h in
      (mask_is (eqb-true _ _ a), (eqb-true _ _ (and_right (eqb (place x i 5) (place y i 5)) (eqb (place x i 3) (place y i 3)) b), eqb-true _ _ (and_left (eqb (place x i 5) (place y i 5)) (eqb (place x i 3) (place y i 3)) b)))

  are_starts : (p : Plain) → SameMask x y i → SameBuffers p x y i → same_list (starts x p i) (starts y p i) ≡ true
  are_starts (fixed n) m e = two {a = eqb (place x i 3) (place y i 3)} (eq-eqb _ _ e) (eq-eqb _ _ (is_mask m))
  are_starts (string w) m e =
      two {a = eqb (place x i 5) (place y i 5) && eqb (place x i 3) (place y i 3)} (two {a = eqb (place x i 5) (place y i 5)} (eq-eqb _ _ e.1) (eq-eqb _ _ e.0)) (eq-eqb _ _ (is_mask m))

-- PTR_EQ of the dictionaries of two sources, whose keys are at node i
module _ (t u : Tree) (x y : Tables) (k : Number) (p : Plain) (i : ℕ) where
  abbrev one : Bool
  one = ptr_eq (body_of t x (t_dictionary k p) i) (body_of u y (t_dictionary k p) i)

  pub one_dictionary : one ≡ true → OneDictionary p x y (suc i)
  one_dictionary h =
      let o = eqb (Rattle.array_data.specs.Tables.offset_of x (suc i)) (Rattle.array_data.specs.Tables.offset_of y (suc i)) in
      let n = eqb (Rattle.array_data.specs.Tables.length_of x (suc i)) (Rattle.array_data.specs.Tables.length_of y (suc i)) in
      let s = same_list (starts x p (suc i)) (starts y p (suc i)) in
      let a = and_left (o && n) s h in
      let r = starts_are x y (suc i) p (and_right (o && n) s h) in
      record { same_offset = eqb-true _ _ (and_left o n a); same_length = eqb-true _ _ (and_right o n a); same_mask = r.0; same_buffers = r.1 }

  pub dictionary_one : OneDictionary p x y (suc i) → one ≡ true
  dictionary_one h =
      two {a = eqb (Rattle.array_data.specs.Tables.offset_of x (suc i)) (Rattle.array_data.specs.Tables.offset_of y (suc i)) && eqb (Rattle.array_data.specs.Tables.length_of x (suc i)) (Rattle.array_data.specs.Tables.length_of y (suc i))}
      (two {a = eqb (Rattle.array_data.specs.Tables.offset_of x (suc i)) (Rattle.array_data.specs.Tables.offset_of y (suc i))} (eq-eqb _ _ h.same_offset) (eq-eqb _ _ h.same_length))
      (are_starts x y (suc i) p h.same_mask h.same_buffers)

-- ALL NEIGHBOURS SHARE exactly where source 0's dictionary is kept
pub shares_all : {P : Type 0} (m : ℕ) (ds : ℕ → Dictionary P) → shared m ds ≡ true → (j : ℕ) → suc j < m → ptr_eq (ds j) (ds (suc j)) ≡ true
shares_all zero ds h j q = absurd (omega arith)
shares_all (suc zero) ds h j q = absurd (omega arith)
shares_all (suc (suc m)) ds h j q = go (dec_lt (suc j) (suc m)) (shares_all (suc m) ds (and_left (shared (suc m) ds) (ptr_eq (ds m) (ds (suc m))) h) j)
  where
    go : Dec (suc j < suc m) → (suc j < suc m → ptr_eq (ds j) (ds (suc j)) ≡ true) → ptr_eq (ds j) (ds (suc j)) ≡ true
    go (yes y) f = f y
    go (no y) f = let e : j ≡ m = omega arith in rw e (and_right (shared (suc m) ds) (ptr_eq (ds m) (ds (suc m))) h)

pub all_share : {P : Type 0} (m : ℕ) (ds : ℕ → Dictionary P) → ((j : ℕ) → suc j < m → ptr_eq (ds j) (ds (suc j)) ≡ true) → shared m ds ≡ true
all_share zero ds h = refl
all_share (suc zero) ds h = refl
all_share (suc (suc m)) ds h = two {a = shared (suc m) ds} (all_share (suc m) ds (λ j q. h j (omega arith))) (h m (omega arith))

-- A JOINED DICTIONARY has the entries of all sources, a kept one those of source 0
joined_length : (p : Plain) (ds : ℕ → Dictionary (PlainBody p)) (j : ℕ) (d e : Mutable (PlainBody p)) → joined_from p (λ i. (ds i).values) j d ≡ done e → e.len ≡ d.len + entries_before ds j
joined_length p ds zero d e h = ap (λ z. z.len) (sym (done_is h)) ∙ omega arith
joined_length p ds (suc j) d e h =
    let r = then_done (joined_from p (λ i. (ds i).values) j d) (λ x. extend_node true (λ ss i. plain_extend p (ss i)) (λ i. (ds i).values) j 0 (ds j).values.len x) e h in
    let s = then_done (plain_extend p (ds j).values.body ((ds j).values.off + 0) (ds j).values.len r.0.len r.0.«data») _ e r.1.1 in
    let n : r.0.len + (ds j).values.len ≡ e.len = ap (λ z. z.len) (done_is s.1.1) in
    omega (arith, n, joined_length p ds j d r.0 r.1.0)

pub dictionary_length : (p : Plain) (m : ℕ) (ds : ℕ → Dictionary (PlainBody p)) (v : Array (PlainBody p)) → the_dictionary p m ds ≡ done v
    → v.len ≡ cond (shared m ds) (ds 0).values.len (entries_before ds m)
dictionary_length p m ds v h = go (shared m ds) h
  where
    go : (b : Bool)
        → elim b [
          | true ↦ done (Rattle.model.specs.Opening.present (ds 0).values)
          | false ↦ then (joined_from p (λ i. (ds i).values) m (start_node (keeps false m (λ i. (ds i).values)) (plain_start p))) (λ e. done (Rattle.model.specs.Mutable.freeze_node true (λ b. b) e))
        ] ≡ done v
        → v.len ≡ cond b (ds 0).values.len (entries_before ds m)
    go true e = ap (λ z. z.len) (sym (done_is e))
    go false e =
        let r = then_done (joined_from p (λ i. (ds i).values) m (start_node (keeps false m (λ i. (ds i).values)) (plain_start p))) (λ e. done (Rattle.model.specs.Mutable.freeze_node true (λ b. b) e)) v e in
        let n : r.0.len ≡ v.len = ap (λ z. z.len) (done_is r.1.1) in
        omega (arith, n, joined_length p ds m _ r.0 r.1.0)

-- ---- "Finished arrays drop validity if no bit is 0": where a node has validity, one of its rows is null
pub has_null : {P D : Type 0} (masks : Bool) (inner : D → P → Type 0) (d : Mutable D) (a : Array P) → ByCounter masks inner d a → (m : List ℕ) → a.valid ≡ some m → 0 < null_count_of a
has_null masks inner d a h m e = rw h.count_is (go masks d.bits d.null_count (sym h.valid_is ∙ e))
  where
    go : (w : Bool) (b : Option (List Bool)) (c : ℕ) → Rattle.model.specs.Counters.validity_by w b c ≡ some m → 0 < Rattle.model.specs.Counters.count_by w b c
    go w none c q = absurd (let z : ◌≡◌ {A = ℕ} 0 1 = cc q in omega arith)
    go false (some l) c q = absurd (let z : ◌≡◌ {A = ℕ} 0 1 = cc q in omega arith)
    go true (some l) zero q = absurd (let z : ◌≡◌ {A = ℕ} 0 1 = cc q in omega arith)
    go true (some l) (suc c) q = omega arith
