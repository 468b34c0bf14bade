-- BODIES AND ROOMS UP TO FOUR GIGABYTES are answered as they were before positions had 64 bits. Assumes nothing.
use mathlib.Core.Path.{◌≡◌, refl, ap, ◌∙◌}
use mathlib.Core.Bool.{Bool, true, false, cond, ◌&&◌, ◌||◌}
use mathlib.Core.List.{List}
use Prim.Native.Nat.{ℕ, zero, suc, ◌+◌, ◌*◌, ◌-◌, ◌^◌, ◌≤◌, ◌<◌}
use native.Mathlib.Omega.{arith}
use lib.ListN.{length}
use lib.Dec.{leb, eqb}
use borrow.Author.Tests.{le-leb}
use Rattle.columnar.specs.Dictionary.{Dictionary}
use Rattle.model.specs.Try.{Try, done, stop, then, guard}
use Rattle.model.specs.Opening.{shared, entries_before, entries_fit}
use Rattle.model.specs.Transform.{Destination}
use Rattle.columns.specs.Grounds.{ceiling}
use Rattle.columns.proofs.Before.{before, sources_under, sources_before}
use Rattle.refinement.specs.opening.Open.{room_placed}
use Rattle.refinement.specs.orders.Fits.{fits}
use Rattle.join.specs.Join.{Lending, sources_in, type_in, columns_in, lent_of, first, open_answer}
use Rattle.join.specs.Openings.{data_opens}

module _ (l : Lending) where
  -- the answer to an opening where body and room have at most so many bytes each
  abbrev pub answer_under : ℕ → Try (Destination (type_in l))
  answer_under most =
      guard (leb (length l.room) most) 9
      (then
      (cond (eqb (sources_under l.formats l.schema l.tables most l.sources) 0) (done tt)
      (stop (sources_under l.formats l.schema l.tables most l.sources)))
      (λ (u : Unit {0}).
      guard (room_placed l.formats l.schema l.sources l.tables l.keep l.gaps l.parts l.plan l.counters l.room) 14
      (then (data_opens (lent_of l).plan l.parts (sources_in l) (type_in l) 0 (λ j. (columns_in l j).body)) (λ b. guard (fits (lent_of l).plan l.parts (type_in l) 0 (first l) && b) 13 (done (first l))))))

  -- AS BEFORE: an opening is answered as it was under the old ceiling
  pub as_before : length l.tables.body ≤ before → length l.room ≤ before → open_answer l ≡ answer_under before
  as_before p q =
      rw (le-leb (length l.room) ceiling (omega arith), le-leb (length l.room) before q, sources_before l.formats l.schema l.tables p l.sources) refl

-- .. and no joined dictionary has more entries than 64 bits count, since an entry has a byte at least
module _ {P : Type 0} (ds : ℕ → Dictionary P) (m : ℕ) (few : m ≤ 16) (short : (j : ℕ) → j < m → (ds j).values.len ≤ before) where
  entries_few : (j : ℕ) → j ≤ m → entries_before ds j ≤ before * j
  entries_few zero l = omega arith
  entries_few (suc j) l = omega (arith, entries_few j (omega arith), short j (omega arith))

  pub entries_before_lem : entries_fit m ds ≡ true
  entries_before_lem = go (shared m ds)
    where
      go : (b : Bool) → b || leb (entries_before ds m) (2 ^ 64 - 1) ≡ true
      go true = refl
      go false = le-leb (entries_before ds m) (2 ^ 64 - 1) (omega (arith, entries_few m (omega arith)))
