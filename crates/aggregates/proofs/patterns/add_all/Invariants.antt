use Rattle.std.proofs.Common.{◌≡◌, ◌*◌, ◌/◌, ◌%◌, ◌^◌, ◌≤◌}
use Rattle.aggregates.specs.patterns.Parts.{top_bit, pattern_in, up_to}
use Rattle.aggregates.proofs.patterns.add_all.Given as goal

abbrev pub invariant-loop-i : goal.invariant-loop-i
invariant-loop-i g l =
    (l.low ≡ up_to (λ k. pattern_in l.body l.at g.N.Unsigned.SIZE k % 4294967296) l.i)
    × (l.high ≡ up_to (λ k. pattern_in l.body l.at g.N.Unsigned.SIZE k / 4294967296) l.i)
    × (l.below ≡ up_to (λ k. pattern_in l.body l.at g.N.Unsigned.SIZE k / 2 ^ top_bit g.N.Unsigned.SIZE) l.i)
    × (l.low ≤ l.i * 4294967295)
    × (l.high ≤ l.i * 4294967295)
    × (l.below ≤ l.i)
