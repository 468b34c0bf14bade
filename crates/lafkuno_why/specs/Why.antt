-- What a caller sees of the calls that tell what stopped an order: five numbers, of a list the place too. Assumes nothing.
use Rattle.std.specs.Prelude.{cond, List, [], ◌∷◌, ℕ, length, eqb}
use Rattle.explain.specs.declared.stops.Why.{Why}
use Rattle.explain.specs.declared.stops.WhyListed.{WhyListed}

-- what stood there before where there is not room for five numbers
unfoldable pub why_answer : Why → List ℕ → List ℕ
why_answer w s = cond (eqb (length s) 5) (w.refusal ∷ w.node ∷ w.row ∷ w.needed ∷ w.allowed ∷ []) s

-- .. for six
unfoldable pub listed_answer : WhyListed → List ℕ → List ℕ
listed_answer w s = cond (eqb (length s) 6) (w.why.refusal ∷ w.why.node ∷ w.why.row ∷ w.why.needed ∷ w.why.allowed ∷ w.place ∷ []) s
