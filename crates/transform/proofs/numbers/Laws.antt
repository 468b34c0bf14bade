-- A plan that is one node of numbers, or keys with a kept dictionary: it is sound, and its parts are those of the first node. Assumes nothing.
use mathlib.Core.Path.{◌≡◌, refl, sym, ap, subst, ◌∙◌}
use mathlib.Core.Bool.{Bool, true, false, not, cond, ◌&&◌, ◌||◌}
use mathlib.Core.List.{List, [], ◌∷◌}
use Prim.Native.Nat.{ℕ, ◌+◌, ◌*◌, ◌-◌, ◌/◌, ◌≤◌, ◌<◌}
use native.Mathlib.Nat.{add-zero, add-mul, mul_comm, mul-le-mul_left}
use native.Mathlib.Omega.{arith}
use lib.ListN.{length, get_or, replicate}
use lib.Seq.{get_or-set_same, get_or-set_other}
use lib.Dec.{leb, ltb, eqb}
use borrow.Author.Tests.{not-true, eqb-true, leb-true, le-leb, lt-leb, lt-ltb, le-ltb, ltb-false}
use Rattle.number.specs.Number.{splice}
use Rattle.bits.specs.Bits.{bits_at, zeros}
use Rattle.columnar.specs.Test.{every}
use Rattle.schema.specs.formats.Code.{is_fixed, is_string, is_view, is_list}
use Rattle.array_data.proofs.lent_tables.Laws.{and_left, and_right}
use Rattle.walk.specs.State.{Join, code_of, dictionary_of, end_of, keeps_of, part_of, rows, nulls, grown, add_rows, add_nulls, set_bytes, scaled, place, top}
use Rattle.walk.specs.Log as log
use Rattle.walk.specs.Log.{Entry, put, mask, Did, start_of, enter, apply, apply_if, fail, done, wrote, need, next}
use Rattle.walk.specs.Leaves.{copy_bits, copy_mask}
use Rattle.plan.specs.parts.Parts.{nodes_of, buffer_count, copied, has_part, number_of, entry_size, needed_by, start_at, size_at, in_room, part_within, part_holds, parts_within, parts_hold}
use Rattle.plan.specs.grounds.Verdict.{verdict, worse_of}
use Rattle.plan.proofs.parts.Laws.{copied_root, bits_hold_lem}
use Rattle.plan.proofs.parts.Placed.{every_at}
use Rattle.plan.proofs.parts.Words.{has_buffers}
use Rattle.plan.proofs.grounds.Laws.{within_at, hold_at, part_none, no_buffer, node_none, node_three, nodes_more, nodes_all}
use Rattle.refinement.specs.orders.Sound.{nested_in, kind_sound, node_sound, plan_sound, walkable}
use Rattle.columns.specs.Grounds.{ceiling}
use Rattle.transform.specs.numbers.Plan.{one_of_numbers, kept_keys, first_of_numbers}
use Rattle.transform.proofs.leaf_rows.Entries.{size_in_lem}

-- what a fixed-width code has
pub fixed_low : (code : ℕ) → is_fixed code ≡ true → (1 ≤ code) × (code ≤ 10)
fixed_low code h = (leb-true 1 code (and_left (leb 1 code) (leb code 10) h), leb-true code 10 (and_right (leb 1 code) (leb code 10) h))

pub one_buffer : (code : ℕ) → is_fixed code ≡ true → buffer_count code ≡ 1
one_buffer code h =
    let l = fixed_low code h in
    let e : 1 + (code - 1) ≡ code = omega (arith, l.0) in
    rw e at (eqb-true (buffer_count (1 + (code - 1))) 1 (every_at (λ k. eqb (buffer_count (1 + k)) 1) 10 refl (code - 1) (omega (arith, l.0, l.1))))

-- ---- the plan

pub record OneNode (plan : List ℕ) : Type 0 where
  pub nodes : nodes_of plan ≡ 1
  pub end : end_of plan 0 ≡ 1
  pub plain : dictionary_of plan 0 ≡ 0
  pub fixed : is_fixed (code_of plan 0) ≡ true

pub record KeptKeys (plan : List ℕ) : Type 0 where
  pub nodes : nodes_of plan ≡ 2
  pub end : end_of plan 0 ≡ 2
  pub values_end : end_of plan 1 ≡ 2
  pub plain : dictionary_of plan 1 ≡ 0
  pub leaf : code_of plan 1 ≤ 16
  pub kept : copied plan 1 ≡ false
  pub fixed : is_fixed (code_of plan 0) ≡ true

-- the first node is of numbers, and no other has a part
pub record FirstNode (plan : List ℕ) : Type 0 where
  pub some : 0 < nodes_of plan
  pub fixed : is_fixed (code_of plan 0) ≡ true
  pub sound : plan_sound plan ≡ true
  pub others : (counters parts : List ℕ) (m : ℕ) {g : ℕ} → g ≡ verdict (within_at plan counters parts m 0) (hold_at plan counters parts m 0)
      → g ≡ cond (parts_within plan parts m) (cond (parts_hold plan counters parts) 0 13) 14

module _ (plan : List ℕ) where
  pub one_node : one_of_numbers plan ≡ true → OneNode plan
  one_node h =
      let a = eqb (nodes_of plan) 1 in
      let b = eqb (end_of plan 0) 1 in
      let d = eqb (dictionary_of plan 0) 0 in
      let abd = and_left (a && b && d) (is_fixed (code_of plan 0)) h in
      let ab = and_left (a && b) d abd in
      record {
        nodes = eqb-true (nodes_of plan) 1 (and_left a b ab);
        end = eqb-true (end_of plan 0) 1 (and_right a b ab);
        plain = eqb-true (dictionary_of plan 0) 0 (and_right (a && b) d abd);
        fixed = and_right (a && b && d) (is_fixed (code_of plan 0)) h;
      }

  numbers_sound : OneNode plan → plan_sound plan ≡ true
  unfolding plan_sound node_sound nested_in kind_sound
  numbers_sound o = rw (o.nodes, o.end, le-leb (code_of plan 0) 10 (fixed_low (code_of plan 0) o.fixed).1)

  -- a leaf without a dictionary
  leaf_kind_lem : (i : ℕ) → dictionary_of plan i ≡ 0 → code_of plan i ≤ 16 → kind_sound plan i ≡ true
  unfolding kind_sound
  leaf_kind_lem i d l = rw (d, lt-leb 17 (code_of plan i) (omega (arith, l)), lt-leb 23 (code_of plan i) (omega (arith, l))) (go (leb (code_of plan i) 10))
    where
      go : (t : Bool) → cond t true true ≡ true
      go true = refl
      go false = refl

  pub kept_keys_lem : kept_keys plan ≡ true → KeptKeys plan
  kept_keys_lem h =
      let a = eqb (nodes_of plan) 2 in
      let b = eqb (end_of plan 0) 2 in
      let d = eqb (end_of plan 1) 2 in
      let e = eqb (dictionary_of plan 1) 0 in
      let f = leb (code_of plan 1) 16 in
      let g = not (copied plan 1) in
      let upto-g = and_left (a && b && d && e && f && g) (is_fixed (code_of plan 0)) h in
      let upto-f = and_left (a && b && d && e && f) g upto-g in
      let upto-e = and_left (a && b && d && e) f upto-f in
      let upto-d = and_left (a && b && d) e upto-e in
      let upto-b = and_left (a && b) d upto-d in
      record {
        nodes = eqb-true (nodes_of plan) 2 (and_left a b upto-b);
        end = eqb-true (end_of plan 0) 2 (and_right a b upto-b);
        values_end = eqb-true (end_of plan 1) 2 (and_right (a && b) d upto-d);
        plain = eqb-true (dictionary_of plan 1) 0 (and_right (a && b && d) e upto-e);
        leaf = leb-true (code_of plan 1) 16 (and_right (a && b && d && e) f upto-f);
        kept = not-true (copied plan 1) (and_right (a && b && d && e && f) g upto-g);
        fixed = and_right (a && b && d && e && f && g) (is_fixed (code_of plan 0)) h;
      }

  pub number_kind_lem : (i : ℕ) → is_fixed (code_of plan i) ≡ true → kind_sound plan i ≡ true
  unfolding kind_sound
  number_kind_lem i h = rw (le-leb (code_of plan i) 10 (fixed_low (code_of plan i) h).1)

  keys_sound : KeptKeys plan → plan_sound plan ≡ true
  unfolding plan_sound node_sound nested_in
  keys_sound k = rw (k.nodes, k.end, k.values_end, number_kind_lem 0 k.fixed, leaf_kind_lem 1 k.plain k.leaf)

  -- ---- the parts

  pub has_numbers : (i : ℕ) → copied plan i ≡ true → is_fixed (code_of plan i) ≡ true → has_part plan i 1 ≡ true
  has_numbers i c h = has_buffers plan i c 0 (omega (arith, one_buffer (code_of plan i) h))

  pub root_copied : copied plan 0 ≡ true
  root_copied = sym (copied_root plan 0 refl)

  pub one_first : OneNode plan → FirstNode plan
  one_first o =
      record {
        some = omega (arith, o.nodes);
        fixed = o.fixed;
        sound = numbers_sound o;
        others = λ counters parts m e. nodes_all plan counters parts m 1 1 (sym o.nodes) (omega arith) (omega arith) e;
      }

  keys_first : KeptKeys plan → FirstNode plan
  keys_first k =
      record {
        some = omega (arith, k.nodes);
        fixed = k.fixed;
        sound = keys_sound k;
        others = λ counters parts m {g} e.
            let last : g ≡ worse_of g 0 = rw (le-ltb g 0 (omega arith)) in
            nodes_all plan counters parts m 2 2 (sym k.nodes) (omega arith) (omega arith) (nodes_more plan counters parts m 1 e (node_none plan counters parts m 1 k.kept) last);
      }

  pub first_node : first_of_numbers plan ≡ true → FirstNode plan
  first_node h = go (one_of_numbers plan) refl (kept_keys plan) refl h
    where
      go : (t : Bool) → one_of_numbers plan ≡ t → (u : Bool) → kept_keys plan ≡ u → (t || u) ≡ true → FirstNode plan
      go true e u q z = one_first (one_node e)
      go false e true q z = keys_first (kept_keys_lem q)
      go false e false q z = absurd (let y : ◌≡◌ {A = ℕ} 0 1 = cc in omega arith)

  -- one node of numbers is such a plan
  pub first_one : one_of_numbers plan ≡ true → first_of_numbers plan ≡ true
  first_one h = rw h

  -- a sound plan can be walked in a room that is a body
  pub sound_walkable : (m : ℕ) → plan_sound plan ≡ true → leb m ceiling ≡ walkable plan m
  unfolding walkable
  sound_walkable m h = rw h (go (leb m ceiling))
    where
      go : (t : Bool) → t ≡ t && true
      go true = refl
      go false = refl

  module _ (counters parts : List ℕ) (m : ℕ) where
    -- a node of numbers has validity and numbers, and no third part
    pub two_parts : (i : ℕ) {a b g : ℕ} → is_fixed (code_of plan i) ≡ true → a ≡ verdict (part_within plan parts m i 0) (part_holds plan counters parts i 0)
        → b ≡ verdict (part_within plan parts m i 1) (part_holds plan counters parts i 1) → g ≡ worse_of a b → g ≡ verdict (within_at plan counters parts m i) (hold_at plan counters parts m i)
    two_parts i {g = g} h e f q =
        let none = part_none plan counters parts m i 2 (no_buffer plan i 1 (omega (arith, one_buffer (code_of plan i) h))) in
        let last : g ≡ worse_of g 0 = rw (le-ltb g 0 (omega arith)) in
        node_three plan counters parts m i e f none q last

-- ---- what the parts of numbers must hold

pub no_offsets : (code : ℕ) → is_fixed code ≡ true → (is_string code ≡ false) × (is_list code ≡ false)
no_offsets code h = let l = (fixed_low code h).1 in (rw (lt-leb 11 code (omega arith)), rw (lt-leb 19 code (omega arith)))

pub number_wide : (code : ℕ) → is_fixed code ≡ true → {w : ℕ} → w ≡ entry_size code → (1 ≤ w) × (w ≤ 16)
number_wide code h e = let l = fixed_low code h in size_in_lem code l.0 (omega (arith, l.1)) (no_offsets code h).0 e

pub entries_need : (code r n size : ℕ) {w : ℕ} → is_fixed code ≡ true → w ≡ entry_size code → leb (r * w) size ≡ leb (needed_by code r n 1) size
entries_need code r n size h e = let l = no_offsets code h in rw (l.0, l.1) (ap (λ (z : ℕ). leb (r * z) size) e)

pub bits_need : (r size : ℕ) → leb (r + 0) (8 * size) ≡ leb ((r + 7) / 8) size
bits_need r size = rw (add-zero r) (bits_hold_lem r size)

pub worse_lt : (a b : ℕ) → a < b → b ≡ worse_of a b
worse_lt a b h = rw (lt-ltb a b h)

pub worse_ge : (a b : ℕ) → b ≤ a → a ≡ worse_of a b
worse_ge a b h = rw (le-ltb a b h)

pub worse_up : (a b : ℕ) → a ≤ b → b ≡ worse_of a b
worse_up a b h = go (ltb a b) refl
  where
    go : (t : Bool) → ltb a b ≡ t → b ≡ cond t b a
    go true e = refl
    go false e = omega (arith, ltb-false a b e)

-- no ground is found where all parts are in the room and hold their bytes
none_found : (w h : Bool) {g : ℕ} → g ≡ verdict w h → g ≡ 0 → (w ≡ true) × (h ≡ true)
none_found true true e z = (refl, refl)
none_found true false e z = let y : ◌≡◌ {A = ℕ} 13 0 = sym e ∙ z in absurd (omega (arith, y))
none_found false h e z = let y : ◌≡◌ {A = ℕ} 14 0 = sym e ∙ z in absurd (omega (arith, y))

pub raised_rows : (n b : ℕ) (c : List ℕ) {p r : ℕ} → length c ≡ 96 → p ≡ rows c 0 → r ≡ grown p n → rows (set_bytes 0 b (add_rows 0 n c)) 0 ≡ r
raised_rows n b c {p} {r} l e q =
    get_or-set_other (add_rows 0 n c) 2 0 b 0 (λ (z : 0 ≡ 2). omega arith)
    ∙ get_or-set_same c 0 (grown (rows c 0) n) 0 (omega (arith, l))
    ∙ ap (λ (v : ℕ). grown v n) (sym e)
    ∙ sym q

module _ (plan parts t : List ℕ) (m : ℕ) (o : FirstNode plan) {g : ℕ} (e : g ≡ cond (parts_within plan parts m) (cond (parts_hold plan t parts) 0 13) 14) (z : g ≡ 0) where
  lies : start_of plan parts 0 1 + size_at parts (number_of plan 0 1) ≤ m
  unfolding parts_within part_within
  lies =
      let all = (none_found (parts_within plan parts m) (parts_hold plan t parts) e z).0 in
      let node = every_at (λ i. every (λ b. part_within plan parts m i b) 3) (nodes_of plan) all 0 o.some in
      let part = every_at (λ b. part_within plan parts m 0 b) 3 node 1 (omega arith) in
      let both : ltb (2 * number_of plan 0 1 + 1) (length parts) && in_room parts m (number_of plan 0 1) ≡ true = rw (has_numbers plan 0 (root_copied plan) o.fixed) at part in
      leb-true (start_at parts (number_of plan 0 1) + size_at parts (number_of plan 0 1)) m (and_right (ltb (2 * number_of plan 0 1 + 1) (length parts)) (in_room parts m (number_of plan 0 1)) both)

  enough : rows t 0 * entry_size (code_of plan 0) ≤ size_at parts (number_of plan 0 1)
  unfolding parts_hold part_holds
  enough =
      let all = (none_found (parts_within plan parts m) (parts_hold plan t parts) e z).1 in
      let node = every_at (λ i. every (λ b. part_holds plan t parts i b) 3) (nodes_of plan) all 0 o.some in
      let part = every_at (λ b. part_holds plan t parts 0 b) 3 node 1 (omega arith) in
      let no = no_offsets (code_of plan 0) o.fixed in
      let fits : leb (rows t 0 * entry_size (code_of plan 0)) (size_at parts (number_of plan 0 1)) ≡ true = rw (has_numbers plan 0 (root_copied plan) o.fixed, no.0, no.1) at part in
      leb-true (rows t 0 * entry_size (code_of plan 0)) (size_at parts (number_of plan 0 1)) fits

  -- the numbers behind r others lie in the room
  pub numbers_fit : (r n : ℕ) {p w : ℕ} → p ≡ r → rows t 0 ≡ grown p n → w ≡ entry_size (code_of plan 0) → m < top → start_of plan parts 0 1 + r * w + w * n ≤ m
  unfolding grown
  numbers_fit r n {p} {w} f q k s =
      let wide = number_wide (code_of plan 0) o.fixed k in
      let a : rows t 0 * w ≤ size_at parts (number_of plan 0 1) = subst (λ v. rows t 0 * v ≤ size_at parts (number_of plan 0 1)) (sym k) enough in
      let b : rows t 0 * 1 ≤ rows t 0 * w = mul-le-mul_left (rows t 0) wide.0 in
      let d : rows t 0 ≡ r + n = omega (arith, q, f, a, b, lies, s) in
      let h : rows t 0 * w ≡ r * w + n * w = ap (λ v. v * w) d ∙ add-mul r n w in
      omega (arith, a, h, mul_comm n w, lies)

-- ---- writes

pub start_one : (plan parts : List ℕ) (i : ℕ) {p s : ℕ} → p ≡ part_of plan i → s ≡ get_or parts (2 * p) 0 → s ≡ start_of plan parts i 1
start_one plan parts i e q = q ∙ ap (λ (k : ℕ). get_or parts (2 * k) 0) (let z : part_of plan i ≡ part_of plan i + 1 - 1 = omega arith in e ∙ z)

pub put_known : (plan parts : List ℕ) (i o : ℕ) (bs room : List ℕ) {a : ℕ} {room2 : List ℕ} → start_of plan parts i 1 + o + length bs ≤ length room → a ≡ start_of plan parts i 1 + o
    → room2 ≡ splice a bs room → room2 ≡ apply_if plan parts true (put i 1 o bs ∷ []) room
unfolding apply_if apply enter log.in_room
put_known plan parts i o bs room h e r = r ∙ rw (le-leb (start_of plan parts i 1 + o + length bs) (length room) h) (ap (λ (z : ℕ). splice z bs room) e)

pub scaled_low : (w : ℕ) {o p r : ℕ} → p ≡ r → o ≡ scaled p w → o ≤ r * w
unfolding scaled
scaled_low w {o} {p} {r} e q = let f : p * w ≡ r * w = ap (λ v. v * w) e in omega (arith, q, f)

-- validity leaves the rows
mask_rows : (x : Join) (i slot n : ℕ) (c : List ℕ) → rows (copy_mask x i slot n c).counters i ≡ rows c i
unfolding copy_mask copy_bits need next wrote done fail
mask_rows x i slot n c =
    go (eqb (keeps_of x.plan i) 0) (eqb (place x i 0) 0) (leb (8 * place x i 1 + slot + n) (8 * length x.body)) (mask i (rows c i) (replicate n 1)) (mask i (rows c i) (bits_at (8 * place x i 1 + slot) n x.body)) (zeros (bits_at (8 * place x i 1 + slot) n x.body))
  where
    go : (t u v : Bool) (e f : Entry) (z : ℕ) → rows (cond t (done c) (cond u (wrote e c) (need v 12 c (next (wrote f c) (λ c2. done (add_nulls i z c2)))))).counters i ≡ rows c i
    go true u v e f z = refl
    go false true v e f z = refl
    go false false true e f z = get_or-set_other c (3 * i + 1) (3 * i) (grown (nulls c i) z) 0 (λ (q : 3 * i ≡ 3 * i + 1). omega arith)
    go false false false e f z = refl

pub rows_kept : (x : Join) (i slot n : ℕ) (c : List ℕ) {wr : Bool} {c2 room room2 : List ℕ} {g : ℕ} → Did x.plan x.parts wr (copy_mask x i slot n c) room g c2 room2 → rows c2 i ≡ rows c i
rows_kept x i slot n c d = ap (λ l. rows l i) d.counters ∙ mask_rows x i slot n c

pub no_view : (code : ℕ) → is_fixed code ≡ true → is_view code ≡ false
no_view code h = let l = (fixed_low code h).1 in rw (lt-leb 15 code (omega arith))

-- a code from k on that is not k
pub next_code : (k : ℕ) {code : ℕ} → k ≤ code → (code ≡ k → ⊥) → k + 1 ≤ code
next_code k h z = omega (arith, h, z)
