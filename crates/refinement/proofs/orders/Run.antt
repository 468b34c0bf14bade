-- ANY LIST OF CALLS on lent memory does what the model does: counters and room hold the model's destination, whose rows are the book's.
-- Assumes nothing.
use mathlib.Core.Path.{◌≡◌, sym, ◌∙◌}
use mathlib.Core.Bool.{Bool}
use mathlib.Core.List.{List, [], ◌∷◌, ◌++◌, append-nil, append_assoc}
use Prim.Native.Nat.{ℕ}
use Rattle.columnar.specs.Row.{Row}
use Rattle.columnar.specs.Types.{Ty}
use Rattle.columnar.specs.Reading.{Column, read_all}
use Rattle.model.specs.Try.{Try, done, stop, after}
use Rattle.model.specs.Transform.{Destination, into_builder}
use Rattle.model.specs.Book.{Call, entered}
use Rattle.refinement.specs.walk_is_model.Memory.{Memory}
use Rattle.refinement.specs.orders.Order.{After, Lent, ordered_all}
use Rattle.refinement.specs.orders.Fits.{answers_in, book_in}
use Rattle.refinement.proofs.orders.Step.{Joined, Running, Answers, made, not_made, order_step_lem}

module _ (x : Lent) (t : Ty) (m : ℕ) (ss : ℕ → Column t) (join : Joined x t m ss) (keep : Bool) (c0 : List ℕ) (μ0 : Memory) where
  -- the rows of the finished array
  abbrev finished : Destination t → List Row
  finished d = read_all t (into_builder t m ss d)

  abbrev go_on : List Call → Destination t → Destination t
  go_on = answers_in x.plan x.parts t m ss

  abbrev book_of : List Call → Destination t → List Row
  book_of = book_in x.plan x.parts t m ss keep

  -- after these calls
  pub record Ran (os : List Call) (d : Destination t) (counters room : List ℕ) : Type 0 where
    pub running : Running x t m ss join keep c0 μ0 (go_on os d) (ordered_all x counters room os).counters (ordered_all x counters room os).room
    pub rows_are : finished (go_on os d) ≡ finished d ++ book_of os d

  -- after a call and these
  record RanOn (o : Call) (os : List Call) (d : Destination t) (p : Try (Destination t)) (a : After) : Type 0 where
    on_running : Running x t m ss join keep c0 μ0 (go_on os (after p d)) (ordered_all x a.counters a.room os).counters (ordered_all x a.counters a.room os).room
    on_rows : finished (go_on os (after p d)) ≡ finished d ++ elim p [ done d' ↦ entered t keep m ss o ++ book_of os d' | stop g ↦ book_of os d ]

  one_more : {o : Call} {d : Destination t} {counters room : List ℕ} {p : Try (Destination t)} {a : After} (os : List Call) → Answers x t m ss join keep c0 μ0 o d counters room p a
      → Running x t m ss join keep c0 μ0 d counters room → ((d' : Destination t) (c r : List ℕ) → Running x t m ss join keep c0 μ0 d' c r → Ran os d' c r) → RanOn o os d p a
  one_more os (made d' a e run did) old f =
      let r = f d' a.counters a.room run in
      record { on_running = r.running; on_rows = r.rows_are ∙ rw (did.rows_are, append_assoc) }
  one_more {d = d} {counters} {room} os (not_made g a e p c s) old f =
      let r = f d counters room old in
      record { on_running = rw (c, s) r.running; on_rows = r.rows_are }

  -- ANY LIST OF CALLS, refused ones included
  pub orders_run : (os : List Call) (d : Destination t) (counters room : List ℕ) → Running x t m ss join keep c0 μ0 d counters room → Ran os d counters room
  unfolding ordered_all
  orders_run [] d counters room run = record { running = run; rows_are = sym (append-nil (finished d)) }
  orders_run (o ∷ os) d counters room run =
      let r = one_more os (order_step_lem x t m ss join keep c0 μ0 o d counters room run) run (λ d' c s q. orders_run os d' c s q) in
      record { running = r.on_running; rows_are = r.on_rows }
