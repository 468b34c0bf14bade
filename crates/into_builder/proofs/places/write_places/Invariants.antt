use mathlib.Core.Path.{◌≡◌}
use mathlib.Core.List.{List, []}
use Prim.Native.Nat.{ℕ, ◌/◌, ◌%◌}
use Rattle.columnar.specs.Row.{seg}
use Rattle.refinement.specs.finishing.Finish.{null_table, place_at}
use Rattle.into_builder.specs.buffers.Names.{lent, Behind}
use Rattle.into_builder.proofs.places.write_places.Given as goal

abbrev pub invariant-loop-q : goal.invariant-loop-q
invariant-loop-q l = (lengths body buffers room : List ℕ) → l.nulls ≡ null_table (lent l.plan l.parts l.sources lengths l.places body) [] l.counters room 0 → Behind l.initial.table l.table 0 l.q (seg (λ a. place_at (lent l.plan l.parts l.sources lengths l.places body) buffers l.counters room l.base (a / 9) (a % 9)) 0 l.q)
