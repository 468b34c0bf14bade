-- What an ordered null reads as (01, "How a row is read"), and where it goes at a union. Assumes nothing.
use Rattle.std.specs.Prelude.{Bool, true, false, List, [], ◌∷◌, ℕ}
use Rattle.columnar.specs.Row.{Row, null, union}
use Rattle.columnar.specs.Types.{Ty, t_plain, t_view, t_list_view, t_list, t_sparse, t_dense, t_run_end, t_dictionary}
use Rattle.model.specs.Try.{Try, done, stop}

abbrev pub first_nullable : (ℕ → Bool) → List ℕ → Try ℕ
first_nullable f [] = stop 5
first_nullable f (c ∷ cs) = elim (f c) [ true ↦ done c | false ↦ first_nullable f cs ]

-- "the first nullable field"; grounds 4, no fields, and 5, none nullable
abbrev pub home : (ℕ → Bool) → List ℕ → Try ℕ
home f [] = stop 4
home f (c ∷ cs) = first_nullable f (c ∷ cs)

abbrev pub union_null : (ℕ → Row) → Try ℕ → Row
union_null r (done c) = union c (r c)
union_null r (stop g) = null

-- "An ordered null reads as null; at a union, as the first nullable field's id with that child's ordered null; at a run-end node,
-- as its value's ordered null."
abbrev pub null_row : Ty → Row
null_row (t_plain p) = null
null_row t_view = null
null_row (t_list_view w t) = null
null_row (t_list w t) = null
null_row (t_sparse ids nullable f) = union_null (λ c. null_row (f c)) (home nullable ids)
null_row (t_dense ids nullable f) = union_null (λ c. null_row (f c)) (home nullable ids)
null_row (t_run_end w t) = null_row t
null_row (t_dictionary k p) = null
