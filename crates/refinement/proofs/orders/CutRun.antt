-- What a call that is answered 0 leaves, and calls behind calls. Assumes nothing.
use mathlib.Core.Path.{◌≡◌, refl, sym, ap, ◌∙◌}
use mathlib.Core.List.{List, [], ◌∷◌, ◌++◌}
use mathlib.Core.Bool.{Bool}
use Prim.Native.Nat.{ℕ, ◌<◌}
use native.Mathlib.Omega.{arith}
use Rattle.columnar.specs.Types.{Ty}
use Rattle.columnar.specs.Reading.{Column}
use Rattle.model.specs.Try.{Try, done, stop, then, guard, map_try, after}
use Rattle.model.specs.Grounds.{Counts}
use Rattle.model.specs.Transform.{Destination}
use Rattle.model.specs.Book.{Call}
use Rattle.model.specs.Orders.{perform}
use Rattle.model.specs.Held.{held}
use Rattle.model.proofs.Follow.{guard_done}
use Rattle.model.proofs.CutTries.{done_is, Then, then_done}
use Rattle.refinement.specs.walk_is_model.Memory.{Memory}
use Rattle.refinement.specs.orders.Order.{After, Lent, ordered}
use Rattle.refinement.specs.orders.Fits.{fits, answer_in, answers_in}
use Rattle.refinement.specs.orders.Counted.{answer_room, counts_after}
use Rattle.refinement.proofs.orders.Step.{Joined, Running, Answers, made, not_made, order_step_lem}
use Rattle.refinement.proofs.orders.Booked.{answer_is}

module _ (plan parts : List ℕ) (t : Ty) (m : ℕ) (ss : ℕ → Column t) where
  pub answers_behind : (os ps : List Call) (d : Destination t) → answers_in plan parts t m ss (os ++ ps) d ≡ answers_in plan parts t m ss ps (answers_in plan parts t m ss os d)
  answers_behind [] ps d = refl
  answers_behind (o ∷ os) ps d = answers_behind os ps (after (answer_in plan parts t m ss o d) d)

  -- one call that is carried out
  pub answers_one : (o : Call) (d e : Destination t) → answer_in plan parts t m ss o d ≡ done e → answers_in plan parts t m ss (o ∷ []) d ≡ e
  answers_one o d e h = ap (λ (v : Try (Destination t)). after v d) h

  -- .. by the model
  pub carried_by : (o : Call) (d e : Destination t) → answer_in plan parts t m ss o d ≡ done e → perform t m ss o d ≡ done e
  carried_by o d e h =
      let p = then_done (perform t m ss o d) _ e h in
      p.first_done ∙ (guard_done (fits plan parts t 0 p.first) 13 _ e p.rest_done).1

  pub counters_behind : (keep : Bool) (os ps : List Call) (c : Counts)
      → counts_after plan parts t keep m ss (os ++ ps) c ≡ counts_after plan parts t keep m ss ps (counts_after plan parts t keep m ss os c)
  counters_behind keep [] ps c = refl
  counters_behind keep (o ∷ os) ps c = counters_behind keep os ps (after (answer_room plan parts t keep m ss o c) c)

module _ (x : Lent) (t : Ty) (m : ℕ) (ss : ℕ → Column t) (join : Joined x t m ss) (keep : Bool) (c0 : List ℕ) (μ0 : Memory) (d : Destination t) (counters room : List ℕ)
    (run : Running x t m ss join keep c0 μ0 d counters room) (o : Call) where
  -- carried out, in the model and by lengths
  pub record Carried : Type 0 where
    pub reached : Destination t
    pub carried : answer_in x.plan x.parts t m ss o d ≡ done reached
    pub counted : answer_room x.plan x.parts t keep m ss o (held t d) ≡ done (held t reached)

  carried_as : {p : Try (Destination t)} {a : After} → Answers x t m ss join keep c0 μ0 o d counters room p a → a.refusal ≡ 0 → answer_in x.plan x.parts t m ss o d ≡ p → Carried
  carried_as (made e a z r k) h q =
      record { reached = e; carried = q; counted = sym (answer_is x t m ss join keep c0 μ0 d counters room run o) ∙ ap (map_try (held t)) q }
  carried_as (not_made g a z l c s) h q = absurd (omega arith)

  -- A CALL THAT IS ANSWERED 0 IS CARRIED OUT
  pub carried_out_lem : (ordered x counters room o).refusal ≡ 0 → Carried
  carried_out_lem h = carried_as (order_step_lem x t m ss join keep c0 μ0 o d counters room run) h refl
