-- Finishing with any base: the tables are those of base 0 with base added to the positions in the room. Assumes nothing.
use mathlib.Core.Path.{◌≡◌, refl, sym, ap, ap₂, ◌∙◌}
use mathlib.Core.Bool.{Bool, true, false, not, cond, ◌&&◌}
use mathlib.Core.List.{List, [], ◌++◌}
use Prim.Native.Nat.{ℕ, zero, suc, ◌+◌, ◌*◌, ◌≤◌, ◌<◌, min}
use native.Mathlib.Nat.{zero-add}
use native.Mathlib.Omega.{arith}
use lib.ListN.{length, get_or}
use lib.Dec.{eqb}
use Rattle.columnar.specs.Row.{seg}
use Rattle.schema.specs.formats.Code.{is_view}
use Rattle.array_data.specs.Tables.{place, part}
use Rattle.walk.specs.State.{code_of, rows}
use Rattle.walk.specs.State as walk
use Rattle.walk.specs.Log.{start_of}
use Rattle.plan.specs.parts.Parts.{nodes_of, copied, has_part}
use Rattle.refinement.specs.orders.Order.{Lent, join_of}
use Rattle.model.specs.Book.{Call}
use Rattle.refinement.specs.finishing.Finish.{zeros_at, nulls_at, buffers_of, buffers_before, buffers_from, buffers_up_to, copied_place, kept_place, place_at, sources, length_table, null_table, buffer_table}
use Rattle.refinement.specs.finishing.Shows.{Bodied}
use Rattle.refinement.proofs.finishing.Lookups.{place_at_lem, source_part, room_part}
use Rattle.join.specs.Join.{Lending, lent_of, after_calls, tables_at}
use Rattle.join.specs.Based.{in_room}

-- a position that is there or 0
lifted : (h : Bool) (base s : ℕ) → cond h (base + s) 0 ≡ cond h (base + cond h (0 + s) 0) (cond h (0 + s) 0)
lifted true base s = ap (λ k. base + k) (sym (zero-add s))
lifted false base s = refl

dropped : (h : Bool) (base s : ℕ) → cond h 0 (base + s) ≡ cond (not h) (base + cond h 0 (0 + s)) (cond h 0 (0 + s))
dropped true base s = refl
dropped false base s = ap (λ k. base + k) (sym (zero-add s))

module _ (x : Lent) (buffers counters room : List ℕ) (base : ℕ) where
  -- data buffers do not move
  of_same : (i s : ℕ) → buffers_of x buffers counters room base i s ≡ buffers_of x buffers counters room 0 i s
  unfolding buffers_of
  of_same i zero = refl
  of_same i (suc s) = ap (λ k. k + min (walk.place (join_of x s) i 8) 33) (of_same i s)

  before_same : (i : ℕ) → buffers_before x buffers counters room base i ≡ buffers_before x buffers counters room 0 i
  unfolding buffers_before
  before_same zero = refl
  before_same (suc i) = ap₂ (λ k m. k + cond (is_view (code_of x.plan i)) m 0) (before_same i) (of_same i (sources x buffers counters room base))

  copied_moves : (i j : ℕ) → j < 9
      → copied_place x buffers counters room base i j
      ≡ cond (cond (eqb j 1) (not (eqb (zeros_at x buffers counters room 0 i) 0)) (cond (eqb j 3) (has_part x.plan i 1) (cond (eqb j 5) (has_part x.plan i 2) false)))
      (base + copied_place x buffers counters room 0 i j) (copied_place x buffers counters room 0 i j)
  unfolding copied_place zeros_at
  copied_moves i zero q = refl
  copied_moves i (suc zero) q = dropped (eqb (zeros_at x buffers counters room 0 i) 0) base (start_of x.plan x.parts i 0)
  copied_moves i (suc (suc zero)) q = refl
  copied_moves i (suc (suc (suc zero))) q = lifted (has_part x.plan i 1) base (start_of x.plan x.parts i 1)
  copied_moves i (suc (suc (suc (suc zero)))) q = refl
  copied_moves i (suc (suc (suc (suc (suc zero))))) q = lifted (has_part x.plan i 2) base (start_of x.plan x.parts i 2)
  copied_moves i (suc (suc (suc (suc (suc (suc zero)))))) q = refl
  copied_moves i (suc (suc (suc (suc (suc (suc (suc zero))))))) q = ap (λ k. cond (is_view (code_of x.plan i)) k 0) (before_same i)
  copied_moves i (suc (suc (suc (suc (suc (suc (suc (suc zero)))))))) q = ap (λ k. cond (is_view (code_of x.plan i)) k 0) (of_same i (sources x buffers counters room base))
  copied_moves i (suc (suc (suc (suc (suc (suc (suc (suc (suc j))))))))) q = absurd (omega arith)

  kept_stays : (i j : ℕ) → kept_place x buffers counters room base i j ≡ kept_place x buffers counters room 0 i j
  unfolding kept_place nulls_at zeros_at
  kept_stays i j = refl

  place_moves : (i j : ℕ) → j < 9
      → place_at x buffers counters room base i j
      ≡ cond
      (copied x.plan i
      && cond (eqb j 1) (not (eqb (zeros_at x buffers counters room 0 i) 0)) (cond (eqb j 3) (has_part x.plan i 1) (cond (eqb j 5) (has_part x.plan i 2) false)))
      (base + place_at x buffers counters room 0 i j) (place_at x buffers counters room 0 i j)
  unfolding place_at
  place_moves i j q = go (copied x.plan i)
    where
      go : (c : Bool)
          → cond c (copied_place x buffers counters room base i j) (kept_place x buffers counters room base i j)
          ≡ cond (c && cond (eqb j 1) (not (eqb (zeros_at x buffers counters room 0 i) 0)) (cond (eqb j 3) (has_part x.plan i 1) (cond (eqb j 5) (has_part x.plan i 2) false)))
          (base + cond c (copied_place x buffers counters room 0 i j) (kept_place x buffers counters room 0 i j)) (cond c (copied_place x buffers counters room 0 i j) (kept_place x buffers counters room 0 i j))
      go true = copied_moves i j q
      go false = kept_stays i j

  from_same : (i s : ℕ) → buffers_from x buffers counters room base i s ≡ buffers_from x buffers counters room 0 i s
  unfolding buffers_from
  from_same i zero = refl
  from_same i (suc s) = ap (λ k. k ++ seg (λ q. get_or buffers q 0) (2 * walk.place (join_of x s) i 7) (2 * min (walk.place (join_of x s) i 8) 33)) (from_same i s)

  names_same : (i : ℕ) → buffers_up_to x buffers counters room base i ≡ buffers_up_to x buffers counters room 0 i
  unfolding buffers_up_to
  names_same zero = refl
  names_same (suc i) = ap₂ (λ k m. k ++ cond (is_view (code_of x.plan i)) m []) (names_same i) (from_same i (sources x buffers counters room base))

  lengths_same : length_table x buffers counters room base ≡ length_table x buffers counters room 0
  unfolding length_table
  lengths_same = refl

  nulls_same : null_table x buffers counters room base ≡ null_table x buffers counters room 0
  unfolding null_table nulls_at zeros_at
  nulls_same = refl

module _ (l : Lending) (os : List Call) (base : ℕ) (z body : List ℕ) where
  -- THE POSITIONS IN THE ROOM MOVE WITH BASE, and nothing else does: places ..
  pub base_moves : (i : ℕ) → i < nodes_of (lent_of l).plan → (j : ℕ) → j < 9
      → place (tables_at l os base z) i j ≡ cond (in_room l os i j) (base + place (tables_at l os 0 body) i j) (place (tables_at l os 0 body) i j)
  base_moves i q j k =
      place_at_lem (lent_of l) l.tables.buffers (after_calls l os).counters (after_calls l os).room base z i q j k
      ∙ place_moves (lent_of l) l.tables.buffers (after_calls l os).counters (after_calls l os).room base i j k
      ∙ ap (λ p. cond (in_room l os i j) (base + p) p) (sym (place_at_lem (lent_of l) l.tables.buffers (after_calls l os).counters (after_calls l os).room 0 body i q j k))

  -- .. lengths, null counts and the names of data buffers
  pub base_keeps : ((tables_at l os base z).lengths ≡ (tables_at l os 0 body).lengths) × ((tables_at l os base z).buffers ≡ (tables_at l os 0 body).buffers)
      × (null_table (lent_of l) l.tables.buffers (after_calls l os).counters (after_calls l os).room base ≡ null_table (lent_of l) l.tables.buffers (after_calls l os).counters (after_calls l os).room 0)
  base_keeps = (
    lengths_same (lent_of l) l.tables.buffers (after_calls l os).counters (after_calls l os).room base,
    names_same (lent_of l) l.tables.buffers (after_calls l os).counters (after_calls l os).room base (nodes_of (lent_of l).plan),
    nulls_same (lent_of l) l.tables.buffers (after_calls l os).counters (after_calls l os).room base,
  )

  -- TWO BODIES: what a stretch of z holds, the room holds at the position of base 0, and the sources' body what it names there
  pub two_bodies : Bodied z (lent_of l) (after_calls l os).room base
      → ((at size : ℕ) → at + size ≤ length (after_calls l os).room → part z (base + at) size ≡ part (after_calls l os).room at size)
      × ((at size : ℕ) → at + size ≤ length l.tables.body → part z at size ≡ part l.tables.body at size)
  two_bodies laid = (
    room_part (lent_of l) l.tables.buffers (after_calls l os).counters (after_calls l os).room base z laid,
    source_part (lent_of l) l.tables.buffers (after_calls l os).counters (after_calls l os).room base z laid,
  )
