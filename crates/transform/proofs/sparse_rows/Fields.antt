-- The fields of a sparse union of numbers, tried: what their walks answer and which rows they leave. Assumes nothing.
use mathlib.Core.Path.{◌≡◌, refl, sym, ap, subst, ◌∙◌}
use mathlib.Core.Bool.{Bool, true, false, not, cond, ◌&&◌}
use mathlib.Core.List.{List}
use Prim.Native.Nat.{ℕ, zero, suc, ◌+◌, ◌*◌, ◌≤◌, ◌<◌}
use native.Mathlib.Omega.{arith}
use lib.ListN.{length, get_or, set, replicate, length-set}
use lib.Seq.{get_or-set_same, get_or-set_other}
use lib.Dec.{leb, ltb, eqb}
use borrow.Author.Tests.{lt-ltb, ltb-true, ltb-false, eqb-true, eqb-false}
use Rattle.bits.specs.Bits.{bits_at, zeros}
use Rattle.array_data.proofs.lent_tables.Laws.{and_left, and_right}
use Rattle.walk.specs.State.{Join, code_of, dictionary_of, end_of, keeps_of, rows, nulls, grown, add_rows, add_nulls, place, far, slot_of, rows_in}
use Rattle.walk.specs.Log.{Entry, put, mask, Out, Did, apply_if, fail, done, wrote, need, next}
use Rattle.walk.specs.Leaves.{copy_bits, copy_mask}
use Rattle.walk.specs.Copy.{masked, copy_data, copy_walk}
use Rattle.walk.proofs.Names.{copy_fields}
use Rattle.nested_rows.proofs.node_data.Laws.{valid_some}
use Rattle.extend.proofs.Laws.{at_far, at_valid, at_data, at_done, fields_none, fields_over, fields_stop, fields_more}
use Rattle.plan.specs.parts.Parts.{nodes_of, copied, entry_size}
use Rattle.transform.specs.leaf_rows.Leaf.{bits_in}
use Rattle.transform.specs.numbers.Plan.{numbers_at}
use Rattle.transform.specs.sparse_rows.Sparse.{Sparse, field_in, fields_in}
use Rattle.transform.proofs.leaf_rows.Laws.{mask_no}
use Rattle.transform.proofs.leaf_rows.Entries.{Entries, entries_are, entries_dry, entries_out}
use Rattle.transform.proofs.numbers.Laws.{fixed_low, no_offsets}
use Rattle.transform.proofs.null_ways.Laws.{never, NumbersAt, numbers_at_lem}

-- ---- the plan

copied_next : (plan : List ℕ) (k : ℕ) → dictionary_of plan k ≡ 0 → copied plan (suc k) ≡ true
unfolding copied
copied_next plan k h = rw h

module _ (plan : List ℕ) (s : Sparse plan) where
  pub field_at : (k : ℕ) → 1 ≤ k → k < nodes_of plan → NumbersAt plan k
  field_at k a b = numbers_at_lem plan k (s.fields k a b)

  pub field_copied : (k : ℕ) → 1 ≤ k → k < nodes_of plan → copied plan k ≡ true
  field_copied zero a b = absurd (omega arith)
  field_copied (suc zero) a b = copied_next plan 0 s.plain
  field_copied (suc (suc j)) a b = copied_next plan (suc j) (field_at (suc j) (omega arith) (omega arith)).plain

-- ---- what is only tried

pub dry_did : {plan parts : List ℕ} (o : Out) (room : List ℕ) {g : ℕ} → g ≡ o.ans → Did plan parts false o room g o.counters room
unfolding apply_if
dry_did o room e = record { answer = e; counters = refl; bytes = refl }

module _ (x : Join) (i slot n : ℕ) (c : List ℕ) where
  -- validity whose bits lie in the body is not refused
  mask_ok : bits_in x i slot n ≡ true → 0 ≡ (copy_mask x i slot n c).ans
  unfolding copy_mask copy_bits need next wrote done fail
  mask_ok h =
      go (eqb (keeps_of x.plan i) 0) (eqb (place x i 0) 0) (leb (8 * place x i 1 + slot + n) (8 * length x.body)) (mask i (rows c i) (replicate n 1)) (mask i (rows c i) (bits_at (8 * place x i 1 + slot) n x.body)) (zeros (bits_at (8 * place x i 1 + slot) n x.body)) h
    where
      go : (t u v : Bool) (e f : Entry) (z : ℕ) → cond t true (cond u true v) ≡ true → 0 ≡ (cond t (done c) (cond u (wrote e c) (need v 12 c (next (wrote f c) (λ c2. done (add_nulls i z c2)))))).ans
      go true u v e f z q = refl
      go false true v e f z q = refl
      go false false true e f z q = refl
      go false false false e f z q = never q

  -- and leaves all rows
  mask_kept : (j : ℕ) → rows (copy_mask x i slot n c).counters j ≡ rows c j
  unfolding copy_mask copy_bits need next wrote done fail
  mask_kept j =
      go (eqb (keeps_of x.plan i) 0) (eqb (place x i 0) 0) (leb (8 * place x i 1 + slot + n) (8 * length x.body)) (mask i (rows c i) (replicate n 1)) (mask i (rows c i) (bits_at (8 * place x i 1 + slot) n x.body)) (zeros (bits_at (8 * place x i 1 + slot) n x.body))
    where
      go : (t u v : Bool) (e f : Entry) (z : ℕ) → rows (cond t (done c) (cond u (wrote e c) (need v 12 c (next (wrote f c) (λ c2. done (add_nulls i z c2)))))).counters j ≡ rows c j
      go true u v e f z = refl
      go false true v e f z = refl
      go false false true e f z = get_or-set_other c (3 * i + 1) (3 * j) (grown (nulls c i) z) 0 (λ (q : 3 * j ≡ 3 * i + 1). omega arith)
      go false false false e f z = refl

  mask_size : length (copy_mask x i slot n c).counters ≡ length c
  unfolding copy_mask copy_bits need next wrote done fail
  mask_size =
      go (eqb (keeps_of x.plan i) 0) (eqb (place x i 0) 0) (leb (8 * place x i 1 + slot + n) (8 * length x.body)) (mask i (rows c i) (replicate n 1)) (mask i (rows c i) (bits_at (8 * place x i 1 + slot) n x.body)) (zeros (bits_at (8 * place x i 1 + slot) n x.body))
    where
      go : (t u v : Bool) (e f : Entry) (z : ℕ) → length (cond t (done c) (cond u (wrote e c) (need v 12 c (next (wrote f c) (λ c2. done (add_nulls i z c2)))))).counters ≡ length c
      go true u v e f z = refl
      go false true v e f z = refl
      go false false true e f z = length-set c (3 * i + 1) (grown (nulls c i) z)
      go false false false e f z = refl

-- ---- one field

module _ (x : Join) (k row n : ℕ) (c room : List ℕ) (low : k < 32) (f : NumbersAt x.plan k) where
  abbrev slot : ℕ
  slot = slot_of x k row n

  masks : masked (code_of x.plan k) ≡ true
  masks = lt-ltb (code_of x.plan k) 21 (omega (arith, (fixed_low (code_of x.plan k) f.fixed).1))

  entries : (d : List ℕ) → Entries x (copy_walk x 6) k slot n d
  entries d = let l = fixed_low (code_of x.plan k) f.fixed in entries_are x (copy_walk x 6) k slot n d l.0 (omega (arith, l.1)) (no_offsets (code_of x.plan k) f.fixed).0

  abbrev pub field_left : List ℕ
  field_left = add_rows k n (copy_mask x k slot n c).counters

  valid : bits_in x k slot n ≡ true → Did x.plan x.parts false (cond (masked (code_of x.plan k)) (copy_mask x k slot n c) (done c)) room 0 (copy_mask x k slot n c).counters room
  valid b = valid_some x false k slot n c room refl refl (ap not masks) (dry_did (copy_mask x k slot n c) room (mask_ok x k slot n c b))

  pub field_dry : field_in x k row n ≡ true → Did x.plan x.parts false (copy_walk x 7 k row n c) room 0 field_left room
  field_dry h =
      let r = rows_in x (place x k 3) (entry_size (code_of x.plan k)) slot n in
      let both = and_left (ltb slot far && bits_in x k slot n) r h in
      at_done x false 7 k row n c room (λ z. omega arith) low refl (ltb-true slot far (and_left (ltb slot far) (bits_in x k slot n) both))
      (valid (and_right (ltb slot far) (bits_in x k slot n) both)) refl
      (entries_dry x (copy_walk x 6) k slot n (copy_mask x k slot n c).counters room (entries _) (and_right (ltb slot far && bits_in x k slot n) r h)) refl refl

  pub field_out : field_in x k row n ≡ false → 12 ≡ (copy_walk x 7 k row n c).ans
  field_out h = go (ltb slot far) refl (bits_in x k slot n) refl (rows_in x (place x k 3) (entry_size (code_of x.plan k)) slot n) refl h
    where
      go : (t : Bool) → ltb slot far ≡ t → (u : Bool) → bits_in x k slot n ≡ u → (v : Bool) → rows_in x (place x k 3) (entry_size (code_of x.plan k)) slot n ≡ v → t && u && v ≡ false
          → 12 ≡ (copy_walk x 7 k row n c).ans
      go false e u p v q z = (at_far x false 7 k row n c room (λ y. omega arith) low refl (ltb-false slot far e)).answer
      go true e false p v q z =
          (at_valid x false 7 k row n c room (λ y. omega arith) low refl (ltb-true slot far e) (valid_some x false k slot n c room refl refl (ap not masks) (mask_no x k slot n c room p)) (λ y. omega arith)).answer
      go true e true p false q z =
          (at_data x false 7 k row n c room (λ y. omega arith) low refl (ltb-true slot far e) (valid p) refl
          (entries_out x (copy_walk x 6) k slot n (copy_mask x k slot n c).counters room (entries _) q) (λ y. omega arith)).answer
      go true e true p true q z = never (sym z)

  left_other : (j : ℕ) → (j ≡ k → ⊥) → rows field_left j ≡ rows c j
  left_other j z =
      get_or-set_other (copy_mask x k slot n c).counters (3 * k) (3 * j) (grown (rows (copy_mask x k slot n c).counters k) n) 0 (λ q. z (omega (arith, q))) ∙ mask_kept x k slot n c j

  left_size : length field_left ≡ length c
  left_size = length-set (copy_mask x k slot n c).counters (3 * k) (grown (rows (copy_mask x k slot n c).counters k) n) ∙ mask_size x k slot n c

  left_same : length c ≡ 96 → rows field_left k ≡ grown (rows c k) n
  left_same h =
      get_or-set_same (copy_mask x k slot n c).counters (3 * k) (grown (rows (copy_mask x k slot n c).counters k) n) 0 (omega (arith, h, mask_size x k slot n c))
      ∙ ap (λ (v : ℕ). grown v n) (mask_kept x k slot n c k)

-- ---- all fields

-- the fields from node k on are tried: their rows are raised, those before them stay
pub record Tried (x : Join) (row n end m k : ℕ) (c room : List ℕ) : Type 0 where
  pub counters : List ℕ
  pub did : Did x.plan x.parts false (copy_fields x (copy_walk x 7) row n end m k c) room 0 counters room
  pub size : length counters ≡ length c
  pub before : (j : ℕ) → j < k → rows counters j ≡ rows c j
  pub raised : (j : ℕ) → k ≤ j → j < end → rows counters j ≡ grown (rows c j) n

-- field k, and then those behind it
pub raised_step : (k n end : ℕ) (c d t : List ℕ) → rows d k ≡ grown (rows c k) n → ((j : ℕ) → (j ≡ k → ⊥) → rows d j ≡ rows c j) → ((j : ℕ) → j < suc k → rows t j ≡ rows d j)
    → ((j : ℕ) → suc k ≤ j → j < end → rows t j ≡ grown (rows d j) n) → (j : ℕ) → k ≤ j → j < end → rows t j ≡ grown (rows c j) n
raised_step k n end c d t a b f g j l h = go (eqb j k) refl
  where
    go : (t2 : Bool) → eqb j k ≡ t2 → rows t j ≡ grown (rows c j) n
    go true e = let q = eqb-true j k e in f j (omega arith) ∙ subst (λ i. rows d i ≡ grown (rows c i) n) (sym q) a
    go false e = let q = eqb-false j k e in g j (omega arith) h ∙ ap (λ (v : ℕ). grown v n) (b j q)

module _ (x : Join) (s : Sparse x.plan) (row n end : ℕ) (e : end ≡ nodes_of x.plan) (h : end ≤ 32) where
  at : (k : ℕ) → 1 ≤ k → k < end → NumbersAt x.plan k
  at k a b = field_at x.plan s k a (omega (arith, b, e))

  pub fields_out : (m k : ℕ) (c room : List ℕ) → 1 ≤ k → fields_in x row n end m k ≡ false → 12 ≡ (copy_fields x (copy_walk x 7) row n end m k c).ans
  unfolding fields_in
  fields_out zero k c room a q = never (sym q)
  fields_out (suc m) k c room a q = go (ltb k end) refl (field_in x k row n) refl (fields_in x row n end m (suc k)) refl (λ d. fields_out m (suc k) d room (omega arith)) q
    where
      go : (t : Bool) → ltb k end ≡ t → (u : Bool) → field_in x k row n ≡ u → (v : Bool) → fields_in x row n end m (suc k) ≡ v
          → ((d : List ℕ) → fields_in x row n end m (suc k) ≡ false → 12 ≡ (copy_fields x (copy_walk x 7) row n end m (suc k) d).ans) → cond t (u && v) true ≡ false
          → 12 ≡ (copy_fields x (copy_walk x 7) row n end (suc m) k c).ans
      go false y u z v p more w = never (sym w)
      go true y false z v p more w =
          let b = ltb-true k end y in
          (fields_stop x (copy_walk x 7) false row n end k c room refl b (dry_did (copy_walk x 7 k row n c) room (field_out x k row n c room (omega arith) (at k a b) z)) (λ o. omega arith)).answer
      go true y true z true p more w = never (sym w)
      go true y true z false p more w =
          let b = ltb-true k end y in
          let r = field_dry x k row n c room (omega arith) (at k a b) z in
          let d = field_left x k row n c room (omega arith) (at k a b) in
          (fields_more x (copy_walk x 7) false row n end k c room refl b r refl (sym (at k a b).end) (dry_did (copy_fields x (copy_walk x 7) row n end m (suc k) d) room (more d p))).answer

  pub fields_dry : (m k : ℕ) (c room : List ℕ) → 1 ≤ k → end ≤ k + m → length c ≡ 96 → fields_in x row n end m k ≡ true → Tried x row n end m k c room
  unfolding fields_in
  fields_dry zero k c room a l z q = record { counters = c; did = fields_over x (copy_walk x 7) false row n end k c room refl; size = refl; before = λ j p. refl; raised = λ j p o. absurd (omega arith) }
  fields_dry (suc m) k c room a l z q = go (ltb k end) refl (field_in x k row n) refl (λ d. fields_dry m (suc k) d room (omega arith) (omega arith)) q
    where
      go : (t : Bool) → ltb k end ≡ t → (u : Bool) → field_in x k row n ≡ u
          → ((d : List ℕ) → length d ≡ 96 → fields_in x row n end m (suc k) ≡ true → Tried x row n end m (suc k) d room) → cond t (u && fields_in x row n end m (suc k)) true ≡ true
          → Tried x row n end (suc m) k c room
      go false y u p more w =
          let b = ltb-false k end y in
          record { counters = c; did = fields_none x (copy_walk x 7) false row n end k c room (suc m) b; size = refl; before = λ j o. refl; raised = λ j o r. absurd (omega arith) }
      go true y false p more w = never w
      go true y true p more w =
          let b = ltb-true k end y in
          let f = at k a b in
          let d = field_left x k row n c room (omega arith) f in
          let t = more d (left_size x k row n c room (omega arith) f ∙ z) w in
          record {
            counters = t.counters;
            did = fields_more x (copy_walk x 7) false row n end k c room refl b (field_dry x k row n c room (omega arith) f p) refl (sym f.end) t.did;
            size = t.size ∙ left_size x k row n c room (omega arith) f;
            before = λ j o. t.before j (omega arith) ∙ left_other x k row n c room (omega arith) f j (λ r. omega arith);
            raised = raised_step k n end c d t.counters (left_same x k row n c room (omega arith) f z) (left_other x k row n c room (omega arith) f) t.before t.raised;
          }
