-- The finished tables of a plan with a list-view's root alone describe that root, with its null count. Assumes nothing.
use mathlib.Core.Path.{◌≡◌, refl, sym, ap, ap₂, ◌∙◌}
use mathlib.Core.Bool.{Bool, true, false, cond}
use mathlib.Core.Option.{Option, none, some}
use mathlib.Core.List.{List, [], ◌∷◌, map}
use Prim.Native.Nat.{ℕ, zero, suc, ◌+◌, ◌*◌, ◌/◌, ◌≤◌, ◌<◌}
use native.Mathlib.Omega.{arith}
use lib.ListN.{length, get_or, length-map}
use lib.Dec.{ltb, eqb}
use borrow.Author.Tests.{lt-ltb, le-leb, lt-leb, eq-eqb}
use Rattle.columnar.specs.Array.{nulls_in, ok}
use Rattle.columnar.specs.Test.{every}
use Rattle.refinement.proofs.orders.Enough.{every_all}
use Rattle.schema.specs.formats.Code.{is_view, is_list_view}
use Rattle.array_data.specs.Tables.{Tables, place, in_body, valid_in, first_buffer, second_buffer}
use Rattle.walk.specs.Log.{start_of}
use Rattle.columns.specs.Grounds.{ceiling}
use Rattle.model.specs.Mutable.{Mutable, zeros, validity}
use Rattle.model.proofs.Law.{BitsFor}
use Rattle.walk.specs.State.{code_of, bytes_of, keeps_of, rows, bytes}
use Rattle.refinement.specs.walk_is_model.Memory.{Memory}
use Rattle.refinement.specs.walk_is_model.Holds.{flag}
use Rattle.refinement.specs.log_in_room.Room.{Placed, Lies, Fits}
use Rattle.refinement.proofs.log_in_room.Found.{between_both}
use Rattle.plan.specs.parts.Parts.{nodes_of, has_part, needed, size_of, parts_hold, parts_within, Used}
use Rattle.plan.proofs.parts.Placed.{used_holds}
use Rattle.refinement.specs.orders.Order.{Lent}
use Rattle.refinement.proofs.orders.Buffers.{list_two, needed_starts, needed_sizes, copied_free, copied_buffer, copied_bits}
use Rattle.refinement.proofs.orders.Own.{Bounded, Own}
use Rattle.refinement.specs.finishing.Finish.{zeros_at, kept_in, buffer_start, buffer_size, buffers_before, copied_place, place_at, length_table, null_table, place_table, buffer_table, tables_fit, room_fits, sizes_fit, finishing}
use Rattle.refinement.specs.finishing.Shows.{ShowsNode, CountsNode, finished_tables, Bodied}
use Rattle.refinement.proofs.finishing.Lookups.{place_at_lem}
use Rattle.refinement.proofs.finishing.Copied.{first_is, second_is, node_shows, node_counters}
use Rattle.anew.specs.Stood.{BitsOf}
use Rattle.anew.proofs.Bits.{bits_stand}
use Rattle.anew.proofs.Owned.{Exact}

bits_for : (m : Bool) (o : Option (List Bool)) (n : ℕ) → BitsOf m o n → BitsFor m o n
bits_for m none n h = tt
bits_for true (some l) n h = h
bits_for false (some l) n h = h

-- counters and memory that hold a root of n rows
pub record RootHeld (l : Lent) (counters : List ℕ) (μ : Memory) (n w : ℕ) (keep : Bool) (bs : List Bool) (starts sizes : List ℕ) : Type 0 where
  pub one_node : nodes_of l.plan ≡ 1
  pub of_view : is_list_view (code_of l.plan 0) ≡ true
  pub width_is : bytes_of l.plan 0 ≡ w
  pub keeps_are : keeps_of l.plan 0 ≡ flag keep
  pub rows_are : rows counters 0 ≡ n
  pub bits_are : keep ≡ true → μ.bits 0 ≡ map flag bs
  pub bits_long : length bs ≡ n
  pub no_zeros : keep ≡ false → zeros bs ≡ 0
  pub starts_are : μ.at 0 1 ≡ starts
  pub starts_long : length starts ≡ n * w
  pub sizes_are : μ.at 0 2 ≡ sizes
  pub sizes_long : length sizes ≡ n * w

module _ (l : Lent) (counters : List ℕ) (μ : Memory) (n w : ℕ) (keep : Bool) (bs : List Bool) (starts sizes : List ℕ) (h : RootHeld l counters μ n w keep bs starts sizes) where
  abbrev plan : List ℕ
  plan = l.plan

  first_needed : needed plan counters 0 1 ≡ n * w
  first_needed = needed_starts (code_of plan 0) (rows counters 0) (bytes counters 0) h.of_view ∙ ap₂ ◌*◌ h.rows_are h.width_is

  second_needed : needed plan counters 0 2 ≡ n * w
  second_needed = needed_sizes (code_of plan 0) (rows counters 0) (bytes counters 0) h.of_view ∙ ap₂ ◌*◌ h.rows_are h.width_is

  root_own : Own plan l.parts counters μ 0 (starts ∷ sizes ∷ [])
  root_own =
      record {
        count_is = list_two (code_of plan 0) h.of_view;
        needs_are = needs;
        lie = lie;
      }
    where
      needs : (k : ℕ) → k < 2 → needed plan counters 0 (suc k) ≡ length (get_or (starts ∷ sizes ∷ []) k [])
      needs zero q = first_needed ∙ sym h.starts_long
      needs (suc zero) q = second_needed ∙ sym h.sizes_long
      needs (suc (suc k)) q = absurd (omega arith)

      lie : (k : ℕ) → k < 2 → μ.at 0 (suc k) ≡ get_or (starts ∷ sizes ∷ []) k []
      lie zero q = h.starts_are
      lie (suc zero) q = h.sizes_are
      lie (suc (suc k)) q = absurd (omega arith)

  module _ (enough : parts_hold plan counters l.parts ≡ true) where
    kept_one : (keep : Bool) → keeps_of plan 0 ≡ flag keep → (keeps_of plan 0 ≡ 0 → ⊥) → keep ≡ true
    kept_one true e k = refl
    kept_one false e k = absurd (k e)

    pub root_bounded : (i b : ℕ) → Used plan i b → Bounded plan l.parts counters μ i b
    root_bounded (suc i) b u = absurd (omega (arith, u.node, h.one_node))
    root_bounded zero zero u =
        let q = used_holds plan counters l.parts enough 0 0 u in
        let k = copied_bits plan 0 (copied_free plan 0 tt) u.part in
        let s : length (μ.bits 0) ≡ rows counters 0 = ap length (h.bits_are (kept_one keep h.keeps_are k.0)) ∙ length-map bs flag ∙ h.bits_long ∙ sym h.rows_are in
        let g : (rows counters 0 + 7) / 8 ≤ size_of plan l.parts 0 0 = q in
        record { needs = q; bytes_in_lem = λ z. absurd (omega arith); bits_in_lem = λ z. omega (arith, g, s) }
    root_bounded zero (suc zero) u =
        let q = used_holds plan counters l.parts enough 0 1 u in
        record { needs = q; bytes_in_lem = λ z. omega (arith, q, first_needed, ap length h.starts_are, h.starts_long); bits_in_lem = λ z. absurd (omega arith) }
    root_bounded zero (suc (suc zero)) u =
        let q = used_holds plan counters l.parts enough 0 2 u in
        record { needs = q; bytes_in_lem = λ z. omega (arith, q, second_needed, ap length h.sizes_are, h.sizes_long); bits_in_lem = λ z. absurd (omega arith) }
    root_bounded zero (suc (suc (suc b))) u =
        absurd (omega (arith, copied_buffer plan 0 (suc (suc b)) (copied_free plan 0 tt) u.part, list_two (code_of plan 0) h.of_view))

    -- THE MEMORY HAS WHAT THE COUNTERS SAY, in every part
    pub root_exact : (buffers : List ℕ) (i b : ℕ) → Used plan i b → Exact l buffers counters μ i b
    root_exact buffers (suc i) b u = absurd (omega (arith, u.node, h.one_node))
    root_exact buffers zero zero u =
        let k = copied_bits plan 0 (copied_free plan 0 tt) u.part in
        record { bytes_are = λ z. absurd (omega arith); bits_are = λ z. ap length (h.bits_are (kept_one keep h.keeps_are k.0)) ∙ length-map bs flag ∙ h.bits_long ∙ sym h.rows_are }
    root_exact buffers zero (suc zero) u = record { bytes_are = λ z. ap length h.starts_are ∙ h.starts_long ∙ sym first_needed; bits_are = λ z. absurd (omega (arith, z)) }
    root_exact buffers zero (suc (suc zero)) u = record { bytes_are = λ z. ap length h.sizes_are ∙ h.sizes_long ∙ sym second_needed; bits_are = λ z. absurd (omega (arith, z)) }
    root_exact buffers zero (suc (suc (suc b))) u =
        absurd (omega (arith, copied_buffer plan 0 (suc (suc b)) (copied_free plan 0 tt) u.part, list_two (code_of plan 0) h.of_view))

    -- THE MEMORY FITS THE PARTS
    pub root_fits : Fits plan l.parts (Used plan) μ
    root_fits = record { bytes_fit = λ i b u p. (root_bounded i b u).bytes_in_lem p; bits_fit = λ i u. (root_bounded i 0 u).bits_in_lem refl }

    module _ (buffers room : List ℕ) (lies : Lies plan l.parts (Used plan) room μ) (placed : Placed plan l.parts (Used plan) (length room)) (base : ℕ) (body : List ℕ) (bodied : Bodied body l room base) where
      abbrev Y : Tables
      Y = finished_tables l buffers counters room base body

      in_table : 0 < nodes_of plan
      in_table = omega (arith, h.one_node)

      -- THE ROOT'S BUFFERS
      pub root_starts : first_buffer Y 0 ≡ starts
      root_starts = first_is l buffers counters room base body bodied μ lies placed root_bounded 0 in_table (copied_free plan 0 tt) (starts ∷ sizes ∷ []) root_own

      pub root_sizes : second_buffer Y 0 ≡ sizes
      root_sizes = second_is l buffers counters room base body bodied μ lies placed root_bounded 0 in_table (copied_free plan 0 tt) (starts ∷ sizes ∷ []) root_own

      -- ITS LENGTH, OFFSET AND VALIDITY
      pub root_shows : {B : Type 0} (inner : B → Type 0) (b : B) → inner b → ShowsNode Y 0 inner (record { len = n; off = 0; valid = validity true (some bs); body = b })
      root_shows {B} inner b p =
          let s = bits_stand l buffers counters μ 0 keep n bs h.keeps_are h.bits_long h.bits_are h.no_zeros in
          let d : Mutable B = record { len = n; null_count = 0; bits = s.bits; «data» = b } in
          let c = between_both 17 18 (code_of plan 0) h.of_view in
          let code : true ≡ ltb (code_of plan 0) 21 = sym (lt-ltb (code_of plan 0) 21 (omega (arith, c.1))) in
          let q = node_shows l buffers counters room base body bodied μ lies placed root_bounded 0 in_table (copied_free plan 0 tt) d true code h.rows_are (bits_for true s.bits n s.long) s.held (λ x. x) inner p in
          record { len_is = q.len_is; off_is = q.off_is; valid_is = q.valid_is ∙ sym s.valid_is; body_is = p }

      -- ITS NULL COUNT, from its bits
      pub root_counters : {B : Type 0} (inner : B → Type 0) (b : B) → inner b → CountsNode (null_table l buffers counters room base) 0 inner (record { len = n; off = 0; valid = validity true (some bs); body = b })
      root_counters {B} inner b p =
          let s = bits_stand l buffers counters μ 0 keep n bs h.keeps_are h.bits_long h.bits_are h.no_zeros in
          let d : Mutable B = record { len = n; null_count = 0; bits = s.bits; «data» = b } in
          let c = between_both 17 18 (code_of plan 0) h.of_view in
          let code : true ≡ ltb (code_of plan 0) 21 = sym (lt-ltb (code_of plan 0) 21 (omega (arith, c.1))) in
          let q = node_counters l buffers counters room base body bodied μ lies placed root_bounded 0 in_table (copied_free plan 0 tt) d true code h.rows_are (bits_for true s.bits n s.long) s.held (λ x. x) inner p in
          record { count_is = q.count_is ∙ ap (λ m. nulls_in (ok m) 0 n) (sym s.valid_is); below = p }

      -- ---- its buffers lie in the body

      root_place : (j : ℕ) → j < 9 → place Y 0 j ≡ copied_place l buffers counters room base 0 j
      unfolding place_at
      root_place j k = place_at_lem l buffers counters room base body 0 in_table j k ∙ rw (copied_free plan 0 tt)

      part_inside : (b : ℕ) → has_part plan 0 b ≡ true → in_body Y (base + start_of plan l.parts 0 b) (needed plan counters 0 b) ≡ true
      part_inside b g =
          let u : Used plan 0 b = record { node = in_table; part = g } in
          le-leb (base + start_of plan l.parts 0 b + needed plan counters 0 b) (length body)
          (omega (arith, placed.inside 0 b u, used_holds plan counters l.parts enough 0 b u, bodied.inside))

      buffer_inside : (b : ℕ) → in_body Y (buffer_start l buffers counters room base 0 b) (buffer_size l buffers counters room base 0 b) ≡ true
      buffer_inside b = go (has_part plan 0 b) refl
        where
          go : (g : Bool) → has_part plan 0 b ≡ g → in_body Y (cond g (base + start_of plan l.parts 0 b) 0) (cond g (needed plan counters 0 b) 0) ≡ true
          go true e = part_inside b e
          go false e = le-leb 0 (length body) (omega arith)

      zeros_part : eqb (zeros_at l buffers counters room base 0) 0 ≡ false → has_part plan 0 0 ≡ true
      unfolding zeros_at
      zeros_part = go (has_part plan 0 0) _
        where
          go : (g : Bool) (k : ℕ) → eqb (cond g k 0) 0 ≡ false → g ≡ true
          go true k e = refl
          go false k e = absurd (let z : ◌≡◌ {A = ℕ} 0 1 = cc e in omega arith)

      valid_inside : valid_in Y 0 ≡ true
      unfolding copied_place
      valid_inside = rw (root_place 0 (omega arith), root_place 1 (omega arith), root_place 2 (omega arith)) (go (eqb (zeros_at l buffers counters room base 0) 0) refl)
        where
          go : (z : Bool) → eqb (zeros_at l buffers counters room base 0) 0 ≡ z
              → cond (eqb (cond z 0 1) 0) true (in_body Y (cond z 0 (base + start_of plan l.parts 0 0)) (cond z 0 ((rows counters 0 + 7) / 8))) ≡ true
          go true e = refl
          go false e = part_inside 0 (zeros_part e)

      -- ITS BUFFERS LIE IN THE BODY
      pub root_inside : (valid_in Y 0 ≡ true) × (in_body Y (place Y 0 3) (place Y 0 4) ≡ true) × (in_body Y (place Y 0 5) (place Y 0 6) ≡ true)
      unfolding copied_place
      root_inside = (valid_inside, rw (root_place 3 (omega arith), root_place 4 (omega arith)) (buffer_inside 1), rw (root_place 5 (omega arith), root_place 6 (omega arith)) (buffer_inside 2))

    -- ---- finishing

    module _ (long : length counters ≡ 96) (buffers room : List ℕ) (inside : parts_within plan l.parts (length room) ≡ true) (small : length room ≤ ceiling) (base : ℕ) where
      no_names : buffers_before l buffers counters room base (nodes_of plan) ≡ 0
      unfolding buffers_before
      no_names =
          let c = between_both 17 18 (code_of plan 0) h.of_view in
          let e : is_view (code_of plan 0) ≡ false = rw (le-leb 15 (code_of plan 0) (omega (arith, c.0))) (lt-leb (code_of plan 0) 16 (omega (arith, c.0))) in
          rw (h.one_node, e)

      all_kept_lem : every (kept_in l buffers counters room base) (nodes_of plan) ≡ true
      unfolding kept_in
      all_kept_lem = every_all (kept_in l buffers counters room base) (nodes_of plan) (λ i q. at i (omega (arith, q, h.one_node)))
        where
          at : (i : ℕ) → i < 1 → kept_in l buffers counters room base i ≡ true
          at zero q = rw (copied_free plan 0 tt)
          at (suc i) q = absurd (omega arith)

      -- FINISHING IS ACCEPTED, where its tables have the root's lengths and the room begins within a body's ceiling
      pub root_finishes : base ≤ ceiling → (lengths nulls places names : List ℕ) → length lengths ≡ 2 → length nulls ≡ 1 → length places ≡ 9 → length names ≡ 0
          → finishing l buffers counters room base lengths nulls places names
          ≡ record {
            refusal = 0;
            lengths = length_table l buffers counters room base;
            nulls = null_table l buffers counters room base;
            places = place_table l buffers counters room base;
            buffers = buffer_table l buffers counters room base;
          }
      unfolding finishing sizes_fit room_fits tables_fit
      root_finishes low lengths nulls places names a b c d =
          let e : length lengths ≡ 2 * nodes_of plan = omega (arith, a, h.one_node) in
          let f : length nulls ≡ nodes_of plan = b ∙ sym h.one_node in
          let g : length places ≡ 9 * nodes_of plan = omega (arith, c, h.one_node) in
          let k : length names ≡ 2 * buffers_before l buffers counters room base (nodes_of plan) = omega (arith, d, no_names) in
          rw (le-leb base ceiling low, le-leb (length room) ceiling small, all_kept_lem, eq-eqb (length counters) 96 long, inside, enough, eq-eqb _ _ e, eq-eqb _ _ f, eq-eqb _ _ g, eq-eqb _ _ k)
