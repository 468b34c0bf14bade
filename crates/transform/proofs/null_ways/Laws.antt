-- Plans whose orders go a shorter way: those of run ends over numbers and of a list of numbers are sound, and their parts. Assumes nothing.
use mathlib.Core.Path.{◌≡◌, refl, sym}
use mathlib.Core.Bool.{Bool, true, false, not, cond, ◌&&◌, ◌||◌}
use mathlib.Core.List.{List}
use Prim.Native.Nat.{ℕ, suc, ◌+◌, ◌-◌, ◌≤◌, ◌<◌}
use native.Mathlib.Omega.{arith}
use lib.Dec.{leb, ltb, eqb}
use borrow.Author.Tests.{eqb-true, ltb-true, le-ltb, le-leb, lt-leb, leb-true}
use Rattle.schema.specs.formats.Code.{is_fixed, is_list, width_of}
use Rattle.array_data.proofs.lent_tables.Laws.{and_left, and_right}
use Rattle.walk.specs.State.{code_of, dictionary_of, end_of}
use Rattle.walk.specs.Copy.{is_width}
use Rattle.plan.specs.parts.Parts.{nodes_of, buffer_count, copied, has_part, part_within, part_holds, parts_within, parts_hold}
use Rattle.plan.specs.grounds.Verdict.{verdict, worse_of}
use Rattle.plan.proofs.grounds.Laws.{within_at, hold_at, part_none, no_mask_lem, no_buffer, node_three, nodes_more, nodes_all}
use Rattle.plan.proofs.parts.Placed.{every_at}
use Rattle.plan.proofs.parts.Words.{has_buffers}
use Rattle.refinement.specs.orders.Sound.{nested_in, ends_sound, kind_sound, node_sound, plan_sound}
use Rattle.transform.specs.numbers.Plan.{one_of_numbers, kept_keys, first_of_numbers, numbers_at, runs_of_numbers, list_of_numbers}
use Rattle.transform.proofs.numbers.Laws.{fixed_low, number_kind_lem, first_node, first_one, root_copied, worse_up}

-- nothing is said of a plan that is found not to be of a kind
pub never : {P : Type 0} → false ≡ true → P
never z = absurd (let y : ◌≡◌ {A = ℕ} 0 1 = cc in omega arith)

pub sure : {t : Bool} → not t ≡ false → t ≡ true
sure {t} h = go t h
  where
    go : (u : Bool) → not u ≡ false → u ≡ true
    go true e = refl
    go false e = never (sym e)

-- a node of numbers
pub record NumbersAt (plan : List ℕ) (i : ℕ) : Type 0 where
  pub end : end_of plan i ≡ suc i
  pub plain : dictionary_of plan i ≡ 0
  pub fixed : is_fixed (code_of plan i) ≡ true

pub record Lists (plan : List ℕ) : Type 0 where
  pub nodes : nodes_of plan ≡ 2
  pub code : is_list (code_of plan 0) ≡ true
  pub plain : dictionary_of plan 0 ≡ 0
  pub end : end_of plan 0 ≡ 2
  pub items : NumbersAt plan 1

pub record Runs (plan : List ℕ) : Type 0 where
  pub nodes : nodes_of plan ≡ 3
  pub code : code_of plan 0 ≡ 23
  pub plain : dictionary_of plan 0 ≡ 0
  pub end : end_of plan 0 ≡ 3
  pub ends : NumbersAt plan 1
  pub values : NumbersAt plan 2
  pub wide : 2 < code_of plan 1

module _ (plan : List ℕ) where
  pub numbers_at_lem : (i : ℕ) → numbers_at plan i ≡ true → NumbersAt plan i
  numbers_at_lem i h =
      let a = eqb (end_of plan i) (suc i) in
      let b = eqb (dictionary_of plan i) 0 in
      let ab = and_left (a && b) (is_fixed (code_of plan i)) h in
      record {
        end = eqb-true (end_of plan i) (suc i) (and_left a b ab);
        plain = eqb-true (dictionary_of plan i) 0 (and_right a b ab);
        fixed = and_right (a && b) (is_fixed (code_of plan i)) h;
      }

  pub runs_known : runs_of_numbers plan ≡ true → Runs plan
  runs_known h =
      let a = eqb (nodes_of plan) 3 in
      let b = eqb (code_of plan 0) 23 in
      let d = eqb (dictionary_of plan 0) 0 in
      let e = eqb (end_of plan 0) 3 in
      let f = numbers_at plan 1 in
      let g = numbers_at plan 2 in
      let l = ltb 2 (code_of plan 1) in
      let upto-g = and_left (a && b && d && e && f && g) l h in
      let upto-f = and_left (a && b && d && e && f) g upto-g in
      let upto-e = and_left (a && b && d && e) f upto-f in
      let upto-d = and_left (a && b && d) e upto-e in
      let upto-b = and_left (a && b) d upto-d in
      record {
        nodes = eqb-true (nodes_of plan) 3 (and_left a b upto-b);
        code = eqb-true (code_of plan 0) 23 (and_right a b upto-b);
        plain = eqb-true (dictionary_of plan 0) 0 (and_right (a && b) d upto-d);
        end = eqb-true (end_of plan 0) 3 (and_right (a && b && d) e upto-e);
        ends = numbers_at_lem 1 (and_right (a && b && d && e) f upto-f);
        values = numbers_at_lem 2 (and_right (a && b && d && e && f) g upto-g);
        wide = ltb-true 2 (code_of plan 1) (and_right (a && b && d && e && f && g) l h);
      }

  pub lists_known : list_of_numbers plan ≡ true → Lists plan
  lists_known h =
      let a = eqb (nodes_of plan) 2 in
      let b = is_list (code_of plan 0) in
      let d = eqb (dictionary_of plan 0) 0 in
      let e = eqb (end_of plan 0) 2 in
      let f = numbers_at plan 1 in
      let upto-e = and_left (a && b && d && e) f h in
      let upto-d = and_left (a && b && d) e upto-e in
      let upto-b = and_left (a && b) d upto-d in
      record {
        nodes = eqb-true (nodes_of plan) 2 (and_left a b upto-b);
        code = and_right a b upto-b;
        plain = eqb-true (dictionary_of plan 0) 0 (and_right (a && b) d upto-d);
        end = eqb-true (end_of plan 0) 2 (and_right (a && b && d) e upto-e);
        items = numbers_at_lem 1 (and_right (a && b && d && e) f h);
      }

  run_kind_lem : Runs plan → kind_sound plan 0 ≡ true
  unfolding kind_sound ends_sound
  run_kind_lem r = rw (r.code, r.plain, r.end, r.ends.plain) r.ends.fixed

  pub values_copied : Runs plan → copied plan 2 ≡ true
  unfolding copied
  values_copied r = rw r.ends.plain

  pub ends_copied : Runs plan → copied plan 1 ≡ true
  unfolding copied
  ends_copied r = rw r.plain

  pub runs_sound : Runs plan → plan_sound plan ≡ true
  unfolding plan_sound node_sound nested_in
  runs_sound r = rw (r.nodes, r.end, r.ends.end, r.values.end, run_kind_lem r, number_kind_lem plan 1 r.ends.fixed, number_kind_lem plan 2 r.values.fixed, values_copied r)

  pub list_code : Lists plan → (19 ≤ code_of plan 0) × (code_of plan 0 ≤ 20)
  list_code o =
      let code = code_of plan 0 in
      (leb-true 19 code (and_left (leb 19 code) (leb code 20) o.code), leb-true code 20 (and_right (leb 19 code) (leb code 20) o.code))

  list_kind_lem : Lists plan → kind_sound plan 0 ≡ true
  unfolding kind_sound
  list_kind_lem o =
      let l = list_code o in
      rw (lt-leb (code_of plan 0) 10 (omega (arith, l.0)), o.plain, le-leb 17 (code_of plan 0) (omega (arith, l.0)), le-leb (code_of plan 0) 20 l.1, o.end)

  pub items_copied : Lists plan → copied plan 1 ≡ true
  unfolding copied
  items_copied o = rw o.plain

  pub lists_sound : Lists plan → plan_sound plan ≡ true
  unfolding plan_sound node_sound nested_in
  lists_sound o = rw (o.nodes, o.end, o.items.end, list_kind_lem o, number_kind_lem plan 1 o.items.fixed)

-- run ends of more than one byte have a width
pub run_width_lem : (code : ℕ) → is_fixed code ≡ true → 2 < code → is_width (width_of code) ≡ true
unfolding is_width
run_width_lem code h l =
    let low = fixed_low code h in
    let e : 3 + (code - 3) ≡ code = omega (arith, l) in
    rw e at (every_at (λ k. is_width (width_of (3 + k))) 8 refl (code - 3) (omega (arith, low.1, l)))

-- keys with a kept dictionary are such a plan
pub first_kept : (plan : List ℕ) → kept_keys plan ≡ true → first_of_numbers plan ≡ true
first_kept plan h = rw h (go (one_of_numbers plan))
  where
    go : (t : Bool) → (t || true) ≡ true
    go true = refl
    go false = refl

-- the plan of a type whose copies go a shorter way is sound
pub copies_sound : (plan : List ℕ) (w : ℕ) → (w ≡ 1 → one_of_numbers plan ≡ true) → (w ≡ 3 → list_of_numbers plan ≡ true) → (eqb w 1 || eqb w 3) ≡ true → plan_sound plan ≡ true
copies_sound plan w f g h = go (eqb w 1) refl (eqb w 3) refl h
  where
    go : (t : Bool) → eqb w 1 ≡ t → (u : Bool) → eqb w 3 ≡ u → (t || u) ≡ true → plan_sound plan ≡ true
    go true e u k z = (first_node plan (first_one plan (f (eqb-true w 1 e)))).sound
    go false e true k z = lists_sound plan (lists_known plan (g (eqb-true w 3 k)))
    go false e false k z = never z

-- .. or whose nulls do
pub way_sound : (plan : List ℕ) (w : ℕ) → (w ≡ 1 → first_of_numbers plan ≡ true) → (w ≡ 2 → runs_of_numbers plan ≡ true) → (w ≡ 3 → list_of_numbers plan ≡ true)
    → (eqb w 1 || eqb w 2 || eqb w 3) ≡ true → plan_sound plan ≡ true
way_sound plan w f g l h = go (eqb w 1) refl (eqb w 2) refl (eqb w 3) refl h
  where
    go : (t : Bool) → eqb w 1 ≡ t → (u : Bool) → eqb w 2 ≡ u → (v : Bool) → eqb w 3 ≡ v → (t || u || v) ≡ true → plan_sound plan ≡ true
    go true e u k v m z = (first_node plan (f (eqb-true w 1 e))).sound
    go false e true k v m z = runs_sound plan (runs_known plan (g (eqb-true w 2 k)))
    go false e false k true m z = lists_sound plan (lists_known plan (l (eqb-true w 3 m)))
    go false e false k false m z = never z

-- ---- the parts of run ends over numbers

module _ (plan counters parts : List ℕ) (m : ℕ) (r : Runs plan) where
  -- the run-end node has none
  root_none : 0 ≡ verdict (within_at plan counters parts m 0) (hold_at plan counters parts m 0)
  root_none =
      let buffers : buffer_count (code_of plan 0) ≡ 0 = rw r.code in
      let p : (b : ℕ) → has_part plan 0 b ≡ false → 0 ≡ verdict (part_within plan parts m 0 b) (part_holds plan counters parts 0 b) = λ b h. part_none plan counters parts m 0 b h in
      node_three plan counters parts m 0 (p 0 (no_mask_lem plan 0 (omega (arith, r.code)))) (p 1 (no_buffer plan 0 0 (omega (arith, buffers)))) (p 2 (no_buffer plan 0 1 (omega (arith, buffers)))) refl refl

  pub runs_ground : {a b g : ℕ} → a ≡ verdict (within_at plan counters parts m 1) (hold_at plan counters parts m 1) → b ≡ verdict (within_at plan counters parts m 2) (hold_at plan counters parts m 2)
      → g ≡ worse_of a b → g ≡ cond (parts_within plan parts m) (cond (parts_hold plan counters parts) 0 13) 14
  runs_ground {a} e f q =
      nodes_all plan counters parts m 3 3 (sym r.nodes) (omega arith) (omega arith)
      (nodes_more plan counters parts m 2 (nodes_more plan counters parts m 1 root_none e (worse_up 0 a (omega arith))) f q)

-- ---- the parts of a list of numbers

-- a list has offsets, and no third part
list_buffers : (plan : List ℕ) → Lists plan → buffer_count (code_of plan 0) ≡ 1
list_buffers plan o =
    let l = list_code plan o in
    let e : 19 + (code_of plan 0 - 19) ≡ code_of plan 0 = omega (arith, l.0) in
    rw e at (eqb-true (buffer_count (19 + (code_of plan 0 - 19))) 1 (every_at (λ k. eqb (buffer_count (19 + k)) 1) 2 refl (code_of plan 0 - 19) (omega (arith, l.0, l.1))))

pub has_offsets_lem : (plan : List ℕ) → Lists plan → has_part plan 0 1 ≡ true
has_offsets_lem plan o = has_buffers plan 0 (root_copied plan) 0 (omega (arith, list_buffers plan o))

module _ (plan counters parts : List ℕ) (m : ℕ) (o : Lists plan) where
  pub list_two : {a b g : ℕ} → a ≡ verdict (part_within plan parts m 0 0) (part_holds plan counters parts 0 0) → b ≡ verdict (part_within plan parts m 0 1) (part_holds plan counters parts 0 1)
      → g ≡ worse_of a b → g ≡ verdict (within_at plan counters parts m 0) (hold_at plan counters parts m 0)
  list_two {g = g} e f q =
      let none = part_none plan counters parts m 0 2 (no_buffer plan 0 1 (omega (arith, list_buffers plan o))) in
      let last : g ≡ worse_of g 0 = rw (le-ltb g 0 (omega arith)) in
      node_three plan counters parts m 0 e f none q last

  pub lists_ground : {a b g : ℕ} → a ≡ verdict (within_at plan counters parts m 0) (hold_at plan counters parts m 0) → b ≡ verdict (within_at plan counters parts m 1) (hold_at plan counters parts m 1)
      → g ≡ worse_of a b → g ≡ cond (parts_within plan parts m) (cond (parts_hold plan counters parts) 0 13) 14
  lists_ground e f q = nodes_all plan counters parts m 2 2 (sym o.nodes) (omega arith) (omega arith) (nodes_more plan counters parts m 1 e f q)
