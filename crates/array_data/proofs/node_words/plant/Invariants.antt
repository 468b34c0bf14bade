use mathlib.Core.Path.{◌≡◌}
use Prim.Native.Nat.{ℕ, ◌/◌, ◌%◌, ◌≤◌}
use lib.ListN.{length, take, get_or}
use Rattle.columnar.specs.Row.{seg}
use Rattle.array_data.specs.node_words.Words.{word_of}
use Rattle.array_data.proofs.node_words.plant.Given as goal

abbrev pub invariant-loop-q : goal.invariant-loop-q
invariant-loop-q l = (length l.tree ≡ 256) × (take l.q l.tree ≡ seg (λ x. word_of l.formats l.schema l.first l.n (x / 8) (x % 8)) 0 l.q) × ((x : ℕ) → l.q ≤ x → get_or l.tree x 0 ≡ 0)
