-- A list-view column as a list column (W4). Assumes nothing.
use Rattle.std.specs.Prelude.{Bool, true, false, List, [], ◌∷◌, ◌++◌, ℕ, zero, suc, ◌+◌, ltb}
use Rattle.number.specs.Number.{encode}
use Rattle.columnar.specs.Types.{half, Ty, t_list_view, t_list}
use Rattle.columnar.specs.Array.{item, ok}
use Rattle.columnar.specs.Reading.{Column}
use Rattle.model.specs.Try.{Try, done, stop, then, guard, steps_t}
use Rattle.model.specs.Mutable.{Mutable}
use Rattle.model.specs.Lists.{Listings, lists_freeze}
use Rattle.model.specs.Transform.{Grown, Destination, extend, into_builder}
use Rattle.model.specs.Grounds.{Counts, rows_of, ask_of, ask_copy, start_counts}
use Rattle.model.specs.Book.{Call, copy}
use Rattle.model.specs.Orders.{perform}
use Rattle.anew.specs.lists.Laid.{laid}
use Rattle.anew.specs.lists.Fresh.{fresh}

-- a list with a row more, whose stretch ends where its child c now does
abbrev pub behind : {D : Type 0} → ℕ → Listings D → Mutable D → Listings D
behind w d c = record { buffer1 = d.buffer1 ++ encode w c.len; child = c }

module _ (w : ℕ) (t : Ty) (x : Column (t_list_view w t)) where
  abbrev pub kid : Column t
  kid = x.body.child

  -- row i's offset and size, and whether it is valid
  abbrev pub offset_at : ℕ → ℕ
  offset_at i = item w x.body.offsets (x.off + i)

  abbrev pub size_at : ℕ → ℕ
  size_at i = item w x.body.sizes (x.off + i)

  abbrev pub valid_at : ℕ → Bool
  valid_at i = ok x.valid (x.off + i)

  -- "one copy for each valid row", "6 an offset that doesn't fit (before its child)"; "a null row becomes an empty stretch"
  abbrev pub row_if : Bool → ℕ → Listings (Grown t) → Try (Listings (Grown t))
  row_if true i d =
      guard (ltb (d.child.len + size_at i) (half w)) 6
      (then (extend t 1 (λ j. kid) 0 (offset_at i) (size_at i) d.child) (λ c. done (behind w d c)))
  row_if false i d = done (behind w d d.child)

  -- no rows: one zero offset
  abbrev pub no_lists : Listings (Grown t)
  no_lists = record { buffer1 = encode w 0; child = fresh t kid }

  -- "in row order"
  abbrev pub listings : Try (Listings (Grown t))
  listings = steps_t (λ i. row_if (valid_at i) i) 0 x.len no_lists

  -- "list-view to list lays the child out anew"; "results have offset 0 and the same width"
  abbrev pub listed : Try (Column (t_list w t))
  listed = then listings (λ d. done (laid true x 0 x.len (lists_freeze (into_builder t 1 (λ j. kid)) d)))

  -- ---- the grounds by counts: those of the child's rows alone are looked at

  abbrev pub ask_if : Bool → ℕ → Counts → Try Counts
  ask_if true i c = guard (ltb (rows_of c + size_at i) (half w)) 6 (ask_of (ask_copy t) kid (offset_at i) (size_at i) c)
  ask_if false i c = done c

  -- the first n rows
  abbrev pub asks : ℕ → Try Counts
  asks n = steps_t (λ i. ask_if (valid_at i) i) 0 n (start_counts false t)

  -- how many child rows the valid ones of the n rows from a on have
  abbrev pub sizes_if : Bool → ℕ → ℕ
  sizes_if true i = size_at i
  sizes_if false i = 0

  abbrev pub sizes_in : ℕ → ℕ → ℕ
  sizes_in a zero = 0
  sizes_in a (suc n) = sizes_if (valid_at a) a + sizes_in (suc a) n

  -- ---- the orders on a destination of the child: a copy for each valid row

  abbrev pub order_if : Bool → ℕ → List Call → List Call
  order_if true i os = copy 0 (offset_at i) (offset_at i + size_at i) ∷ os
  order_if false i os = os

  abbrev pub orders : ℕ → ℕ → List Call
  orders a zero = []
  orders a (suc n) = order_if (valid_at a) a (orders (suc a) n)

  -- all of them, or the first refusal
  abbrev pub carried : List Call → Destination t → Try (Destination t)
  carried [] d = done d
  carried (o ∷ os) d = then (perform t 1 (λ j. kid) o d) (carried os)

-- what an answer is refused with; 0 where it is done
abbrev pub ground_of : {A : Type 0} → Try A → ℕ
ground_of (done x) = 0
ground_of (stop g) = g
