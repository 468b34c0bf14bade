use Rattle.sound.proofs.trying.Laws.{Filled}
use Rattle.sound.proofs.trying.uncount.Given as goal

abbrev pub invariant-loop-i : goal.invariant-loop-i
invariant-loop-i l = Filled l.initial.counters l.counters l.i
