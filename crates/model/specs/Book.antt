-- Demand 3's book (01: "a list of rows, empty at the opening, fed the calls alone"). It knows the grounds, by lengths and limits,
-- and how a row is read; nothing of a destination's buffers. Assumes nothing.
use Rattle.std.specs.Prelude.{Bool, ◌&&◌, List, [], ◌∷◌, ◌++◌, ℕ, ◌+◌, ◌-◌, ltb, leb, replicate}
use Rattle.columnar.specs.Row.{Row, seg}
use Rattle.columnar.specs.Types.{Ty}
use Rattle.columnar.specs.Array.{ok, nulls_in}
use Rattle.columnar.specs.Reading.{Column, read}
use Rattle.model.specs.Try.{Try, done, stop, guard}
use Rattle.model.specs.Ordered.{null_row}
use Rattle.model.specs.Grounds.{Counts, ask_of, ask_copy, ask_nulls}

-- a source with start and end, or a count of nulls
pub data Call : Type 0 where
  copy : ℕ → ℕ → ℕ → Call
  nulls : ℕ → Call

module _ (t : Ty) (keep : Bool) (m : ℕ) (ss : ℕ → Column t) where
  -- accepted, with what is then held, or refused ("Copy: 1, 2, then ..", "Nulls: 3, count 0 accepted, then ..")
  abbrev pub answer : Call → Counts → Try Counts
  answer (copy j a e) c = guard (ltb j m) 1 (guard (leb a e && leb e (ss j).len) 2 (ask_of (ask_copy t) (ss j) a (e - a) c))
  answer (nulls n) c = guard keep 3 (ask_nulls t n c)

  -- "An accepted copy appends its source's rows start to end - 1, an accepted null order its count of ordered nulls"
  abbrev pub entered : Call → List Row
  entered (copy j a e) = seg (read t (ss j)) a (e - a)
  entered (nulls n) = replicate n (null_row t)

  -- "a refused one adds nothing"
  abbrev pub book : List Call → Counts → List Row
  book [] c = []
  book (o ∷ os) c = elim (answer o c) [ done c' ↦ entered o ++ book os c' | stop g ↦ book os c ]

  -- the nulls that an order counts: a copy those of its source's rows at the root, a null order all of its rows
  abbrev pub nulls_entered : Call → ℕ
  nulls_entered (copy j a e) = nulls_in (ok (ss j).valid) ((ss j).off + a) (e - a)
  nulls_entered (nulls n) = n

  -- "The running null count counts each null order in full, for unions and run-end nodes too"; a refused order counts nothing
  abbrev pub book_nulls : List Call → Counts → ℕ
  book_nulls [] c = 0
  book_nulls (o ∷ os) c = elim (answer o c) [ done c' ↦ nulls_entered o + book_nulls os c' | stop g ↦ book_nulls os c ]

  -- the orders of a list that are accepted, one after another
  abbrev pub accepted : List Call → Counts → List Call
  accepted [] c = []
  accepted (o ∷ os) c = elim (answer o c) [ done c' ↦ o ∷ accepted os c' | stop g ↦ accepted os c ]

  -- every order of a list is accepted
  abbrev pub AllAccepted : List Call → Counts → Type 0
  AllAccepted [] c = Unit {0}
  AllAccepted (o ∷ os) c = elim (answer o c) [ done c' ↦ AllAccepted os c' | stop g ↦ ⊥ ]
