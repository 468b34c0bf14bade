-- What an order is carried out with, from the slices that are lent. Assumes nothing.
use Rattle.std.specs.Prelude.{List, ℕ}
use Rattle.walk.specs.State.{Join}

abbrev pub join : List ℕ → List ℕ → List ℕ → List ℕ → List ℕ → ℕ → ℕ → Join
join plan parts lengths places body first source =
    record { plan = plan; parts = parts; lengths = lengths; places = places; body = body; first = first; source = source }
