-- The worked examples read as the Columnar Format says and pass the test; the broken columns do not pass. All by computation.
use mathlib.Core.Path.{◌≡◌, refl, ap}
use mathlib.Core.Bool.{true, false}
use mathlib.Core.List.{map}
use Prim.Native.Nat.{ℕ, ◌+◌}
use native.Mathlib.Nat.{add_assoc}
use Rattle.number.specs.Number.{number, encode}
use Rattle.columnar.specs.Types.{Ty}
use Rattle.columnar.specs.Array.{item, bit, ok, sight}
use Rattle.columnar.specs.View.{shown}
use Rattle.columnar.specs.Reading.{Column, slot_at, read, read_all}
use Rattle.columnar.specs.Test.{test}
use Rattle.columnar.specs.Examples.{slice, examples, broken}

-- EVERY EXAMPLE READS AS THE FORMAT SAYS
pub examples_read : map (λ e. read_all e.type e.column) examples ≡ map (λ e. e.reads) examples
unfolding number encode item bit shown
examples_read = refl

-- EVERY EXAMPLE PASSES
pub examples_pass : map (λ e. test e.type e.column) examples ≡ map (λ e. true) examples
unfolding number encode item bit
examples_pass = refl

-- NO BROKEN COLUMN PASSES
pub broken_fail : map (λ e. test e.type e.column) broken ≡ map (λ e. false) broken
unfolding number encode item bit
broken_fail = refl

-- row i of a slice from a on is row a + i, for every type
pub slice_read : (t : Ty) (x : Column t) (a n i : ℕ) → read t (slice a n x) i ≡ read t x (a + i)
slice_read t x a n i = ap (λ k. sight (ok x.valid k) (slot_at t x.body k)) (add_assoc x.off a i)
