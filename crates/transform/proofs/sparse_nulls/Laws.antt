-- Nulls of a sparse union of numbers, tried and made. Assumes nothing.
use mathlib.Core.Path.{◌≡◌, refl, sym, ap, subst, ◌∙◌}
use mathlib.Core.Bool.{Bool, true, false, not, cond}
use mathlib.Core.List.{List, []}
use Prim.Native.Nat.{ℕ, zero, suc, ◌+◌, ◌*◌, ◌≤◌, ◌<◌}
use native.Mathlib.Omega.{arith}
use lib.ListN.{length, length-set}
use lib.Seq.{get_or-set_same, get_or-set_other}
use lib.Dec.{ltb, eqb}
use borrow.Author.Tests.{lt-ltb, ltb-true, ltb-false, eqb-true, eqb-false}
use Rattle.schema.specs.formats.Code.{is_fixed}
use Rattle.walk.specs.State.{Join, code_of, end_of, keeps_of, rows, nulls, grown, add_rows, add_nulls}
use Rattle.walk.specs.Log.{Out, Did, apply_if, done}
use Rattle.walk.specs.Leaves.{null_mask, count_nulls}
use Rattle.walk.specs.Copy.{masked}
use Rattle.walk.specs.Nulls.{nullable_child, no_home, null_data, null_walk}
use Rattle.walk.proofs.Names.{null_fields}
use Rattle.walk.proofs.Laws.{wrote_did}
use Rattle.leaf_walk.specs.Join.{join}
use Rattle.nested_rows.specs.Numbers.{null_ids}
use Rattle.nested_rows.proofs.node_data.Laws.{nulls_counted, nulls_masked}
use Rattle.extend.proofs.NullLaws.{at_data, at_done, to_sparse, sparse_none, sparse_go, fields_none, fields_over, fields_more}
use Rattle.plan.specs.parts.Parts.{nodes_of, parts_within, parts_hold}
use Rattle.plan.specs.grounds.Verdict.{verdict}
use Rattle.sound.proofs.trying.Near.{near_same}
use Rattle.refinement.specs.orders.Order.{settled}
use Rattle.transform.specs.Answer.{lent, Answers}
use Rattle.transform.specs.sparse_rows.Sparse.{Sparse, Raised}
use Rattle.transform.proofs.Laws.{settled_no, settled_parts, settled_made}
use Rattle.transform.proofs.leaf_nulls.Laws.{data_dry, mask_dry, mask_alike}
use Rattle.transform.proofs.numbers.Laws.{fixed_low}
use Rattle.transform.proofs.null_ways.Laws.{NumbersAt}
use Rattle.transform.proofs.sparse_rows.Fields.{field_at, raised_step}

-- ---- one field

module _ (x : Join) (k n : ℕ) (c room : List ℕ) (some : n ≡ 0 → ⊥) (low : k < 32) (f : is_fixed (code_of x.plan k) ≡ true) where
  masks : masked (code_of x.plan k) ≡ true
  masks = lt-ltb (code_of x.plan k) 21 (omega (arith, (fixed_low (code_of x.plan k) f).1))

  pub field_did : (wr : Bool) {room1 c2 room2 c3 : List ℕ} → Did x.plan x.parts wr (null_data x (null_walk x 6) (code_of x.plan k) k n c) room 0 c room1
      → Did x.plan x.parts wr (null_mask x k n c) room1 0 c2 room2 → c3 ≡ add_rows k n c2 → Did x.plan x.parts wr (null_walk x 7 k n c) room 0 c3 room2
  field_did wr {room1} d m q =
      at_done x wr 7 k n c room (λ z. omega arith) some low d refl (nulls_masked x wr k n c room1 refl refl (ap not masks) m) refl q

  abbrev masks_left : List ℕ
  masks_left = (null_mask x k n c).counters

  abbrev field_left : List ℕ
  field_left = add_rows k n masks_left

  field_dry : Did x.plan x.parts false (null_walk x 7 k n c) room 0 field_left room
  field_dry =
      let l = fixed_low (code_of x.plan k) f in
      field_did false (data_dry x (null_walk x 6) k n c room l.0 (omega (arith, l.1))) (mask_dry x k n c room) refl

  left_other : (j : ℕ) → (j ≡ k → ⊥) → rows field_left j ≡ rows c j
  left_other j z = get_or-set_other masks_left (3 * k) (3 * j) (grown (rows masks_left k) n) 0 (λ q. z (omega (arith, q))) ∙ (mask_alike x k n c).rows_same j

  left_size : length field_left ≡ length c
  left_size = length-set masks_left (3 * k) (grown (rows masks_left k) n) ∙ (mask_alike x k n c).size

  left_same : length c ≡ 96 → rows field_left k ≡ grown (rows c k) n
  left_same h =
      get_or-set_same masks_left (3 * k) (grown (rows masks_left k) n) 0 (omega (arith, h, (mask_alike x k n c).size)) ∙ ap (λ (v : ℕ). grown v n) ((mask_alike x k n c).rows_same k)

-- ---- all fields

-- the fields from node k on are tried: their rows are raised, those before them stay
pub record Tried (x : Join) (n end m k : ℕ) (c room : List ℕ) : Type 0 where
  pub counters : List ℕ
  pub did : Did x.plan x.parts false (null_fields x (null_walk x 7) n end m k c) room 0 counters room
  pub size : length counters ≡ length c
  pub before : (j : ℕ) → j < k → rows counters j ≡ rows c j
  pub raised : (j : ℕ) → k ≤ j → j < end → rows counters j ≡ grown (rows c j) n

module _ (x : Join) (s : Sparse x.plan) (n end : ℕ) (some : n ≡ 0 → ⊥) (e : end ≡ nodes_of x.plan) (h : end ≤ 32) where
  fields_dry : (m k : ℕ) (c room : List ℕ) → 1 ≤ k → end ≤ k + m → length c ≡ 96 → Tried x n end m k c room
  fields_dry zero k c room a l z = record { counters = c; did = fields_over x (null_walk x 7) false n end k c room refl; size = refl; before = λ j p. refl; raised = λ j p o. absurd (omega arith) }
  fields_dry (suc m) k c room a l z = go (ltb k end) refl (λ d. fields_dry m (suc k) d room (omega arith) (omega arith))
    where
      go : (t : Bool) → ltb k end ≡ t → ((d : List ℕ) → length d ≡ 96 → Tried x n end m (suc k) d room) → Tried x n end (suc m) k c room
      go false y more =
          let b = ltb-false k end y in
          record { counters = c; did = fields_none x (null_walk x 7) false n end k c room (suc m) b; size = refl; before = λ j o. refl; raised = λ j o r. absurd (omega arith) }
      go true y more =
          let b = ltb-true k end y in
          let f : NumbersAt x.plan k = field_at x.plan s k a (omega (arith, b, e)) in
          let d = field_left x k n c room some (omega arith) f.fixed in
          let t = more d (left_size x k n c room some (omega arith) f.fixed ∙ z) in
          record {
            counters = t.counters;
            did = fields_more x (null_walk x 7) false n end k c room refl b (field_dry x k n c room some (omega arith) f.fixed) refl (sym f.end) t.did;
            size = t.size ∙ left_size x k n c room some (omega arith) f.fixed;
            before = λ j o. t.before j (omega arith) ∙ left_other x k n c room some (omega arith) f.fixed j (λ r. omega arith);
            raised = raised_step k n end c d t.counters (left_same x k n c room some (omega arith) f.fixed z) (left_other x k n c room some (omega arith) f.fixed) t.before t.raised;
          }

-- ---- the nulls, counted

module _ (x : Join) (n : ℕ) (c : List ℕ) where
  abbrev counted : List ℕ
  counted = (count_nulls x 0 n c).counters

  count_dry : (room : List ℕ) → Did x.plan x.parts false (count_nulls x 0 n c) room 0 counted room
  unfolding count_nulls done apply_if
  count_dry room = record { answer = go (eqb (keeps_of x.plan 0) 0); counters = refl; bytes = refl }
    where
      go : (t : Bool) → 0 ≡ (cond t (done c) (done (add_nulls 0 n c))).ans
      go true = refl
      go false = refl

  count_rows : (j : ℕ) → rows counted j ≡ rows c j
  unfolding count_nulls done
  count_rows j = go (eqb (keeps_of x.plan 0) 0)
    where
      go : (t : Bool) → rows (cond t (done c) (done (add_nulls 0 n c))).counters j ≡ rows c j
      go true = refl
      go false = get_or-set_other c 1 (3 * j) (grown (nulls c 0) n) 0 (λ (q : 3 * j ≡ 1). omega arith)

  count_size : length counted ≡ length c
  unfolding count_nulls done
  count_size = go (eqb (keeps_of x.plan 0) 0)
    where
      go : (t : Bool) → length (cond t (done c) (done (add_nulls 0 n c))).counters ≡ length c
      go true = refl
      go false = length-set c 1 (grown (nulls c 0) n)

-- ---- the order

-- a union without a field for nulls refuses them
some_ground : (plan : List ℕ) {g : ℕ} → g ≡ no_home plan 0 → g ≡ 0 → ⊥
some_ground plan {g} e h = go (ltb 1 (end_of plan 0)) (sym e ∙ h)
  where
    go : (t : Bool) → ◌≡◌ {A = ℕ} (cond t 5 4) 0 → ⊥
    go true q = omega (arith, q)
    go false q = omega (arith, q)

module _ (plan parts sources lengths places body : List ℕ) (n : ℕ) (c room : List ℕ) (some : n ≡ 0 → ⊥) (s : Sparse plan) {h : ℕ} (home : h ≡ nullable_child plan (end_of plan 0) 32 1) where
  abbrev x : Join
  x = join plan parts [] [] [] 0 0

  abbrev walk : List ℕ → Out
  walk l = null_walk x 8 0 n l

  abbrev pub Settled : ℕ → List ℕ → List ℕ → Type 0
  Settled g c2 room2 = Answers (settled (lent plan parts sources lengths places body) c room (walk c)) g c2 room2

  pub sparse_homeless : {g : ℕ} → 32 ≤ h → g ≡ no_home plan 0 → Settled g c room
  sparse_homeless l e =
      settled_no (lent plan parts sources lengths places body) c room walk (near_same refl)
      (at_data x false 8 0 n c room (λ z. omega arith) some (omega arith)
      (to_sparse x (null_walk x 7) false 0 n c room refl s.code (sparse_none x (null_walk x 7) false 0 n c room home l e)) (some_ground plan e))
      (some_ground plan e)

  module _ (l : h < 32) (z : length c ≡ 96) {end a : ℕ} (e : end ≡ nodes_of plan) (b : end ≤ 32)
      (ask : (t : List ℕ) → Raised c n end t → a ≡ verdict (parts_within plan parts (length room)) (parts_hold plan t parts)) where
    -- as the code goes
    order_did : (wr : Bool) {room1 c2 room2 c3 c4 : List ℕ} → Did plan parts wr (null_ids plan 0 h n c) room 0 c room1 → Did plan parts wr (null_fields x (null_walk x 7) n end 32 1 c) room1 0 c2 room2
        → Did plan parts wr (count_nulls x 0 n c2) room2 0 c3 room2 → c4 ≡ add_rows 0 n c3 → Did plan parts wr (walk c) room 0 c4 room2
    order_did wr {room1} {c2} {room2} d g m k =
        at_done x wr 8 0 n c room (λ y. omega arith) some (omega arith)
        (to_sparse x (null_walk x 7) wr 0 n c room refl s.code (sparse_go x (null_walk x 7) wr 0 n c room home l d refl (e ∙ sym s.end) refl g)) refl
        (nulls_counted x wr 0 n c2 room2 refl refl unmasked m) refl k
      where
        unmasked : not (masked (code_of plan 0)) ≡ true
        unmasked = rw s.code

    abbrev tried : Tried x n end 32 1 c room
    tried = fields_dry x s n end some e b 32 1 c room (omega arith) (omega arith) z

    abbrev last : List ℕ
    last = counted x n tried.counters

    ids_dry : Did plan parts false (null_ids plan 0 h n c) room 0 c room
    unfolding apply_if
    ids_dry = wrote_did false _ c room room refl

    dry : Did plan parts false (walk c) room 0 (add_rows 0 n last) room
    dry = order_did false ids_dry tried.did (count_dry x n tried.counters room) refl

    raised : Raised c n end (add_rows 0 n last)
    raised j o = go (eqb j 0) refl
      where
        go : (t : Bool) → eqb j 0 ≡ t → rows (add_rows 0 n last) j ≡ grown (rows c j) n
        go true p =
            let y = eqb-true j 0 p in
            let m : rows (add_rows 0 n last) 0 ≡ grown (rows c 0) n =
            get_or-set_same last 0 (grown (rows last 0) n) 0 (omega (arith, count_size x n tried.counters, tried.size, z))
            ∙ ap (λ (v : ℕ). grown v n) (count_rows x n tried.counters 0 ∙ tried.before 0 (omega arith)) in
            subst (λ i. rows (add_rows 0 n last) i ≡ grown (rows c i) n) (sym y) m
        go false p =
            let y = eqb-false j 0 p in
            get_or-set_other last 0 (3 * j) (grown (rows last 0) n) 0 (λ r. y (omega (arith, r))) ∙ count_rows x n tried.counters j ∙ tried.raised j (omega (arith, y)) o

    asked : a ≡ verdict (parts_within plan parts (length room)) (parts_hold plan (add_rows 0 n last) parts)
    asked = ask (add_rows 0 n last) raised

    pub sparse_refused : (a ≡ 0 → ⊥) → Settled a c room
    sparse_refused y = settled_parts (lent plan parts sources lengths places body) c room walk (near_same refl) dry refl asked y

    pub sparse_made : {room1 c2 room2 c3 c4 : List ℕ} → a ≡ 0 → Did plan parts true (null_ids plan 0 h n c) room 0 c room1 → Did plan parts true (null_fields x (null_walk x 7) n end 32 1 c) room1 0 c2 room2
        → Did plan parts true (count_nulls x 0 n c2) room2 0 c3 room2 → c4 ≡ add_rows 0 n c3 → Settled 0 c4 room2
    sparse_made y d g m k = settled_made (lent plan parts sources lengths places body) c room walk (near_same refl) dry refl asked y refl (order_did true d g m k) refl
