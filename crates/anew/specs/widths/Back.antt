-- Widening a column and narrowing it back (W13). Assumes nothing.
use Rattle.std.proofs.Common.{sym}
use Rattle.std.specs.Prelude.{ℕ, ◌-◌, ◌≤◌, ◌<◌}
use Rattle.columnar.specs.Types.{limit, Plain, Ty}
use Rattle.columnar.specs.Wider.{Declared}
use Rattle.columnar.specs.Reading.{Body}
use Rattle.columnar.specs.Kids.{Below, body_down}
use Rattle.anew.specs.widths.Widths.{PlainWidths, s_fixed, s_string, Widths, s_plain, s_view, s_list_view, s_list, s_sparse, s_dense, s_run_end, s_dictionary}

-- no width falls, and no key format reaches less high
abbrev pub PlainWidening : {p p' : Plain} → PlainWidths p p' → Type 0
PlainWidening (s_fixed n) = Unit {0}
PlainWidening (s_string w w') = w ≤ w'

abbrev pub Widening : {t t' : Ty} → Widths t t' → Type 0
Widening (s_plain p p' d) = PlainWidening d
Widening s_view = Unit {0}
Widening (s_list_view w w' t t' d) = (w ≤ w') × Widening d
Widening (s_list w w' t t' d) = (w ≤ w') × Widening d
Widening (s_sparse ids nullable nullable' f f' e d) = (c : ℕ) (m : Declared ids c) → Widening (d c m)
Widening (s_dense ids nullable nullable' f f' e d) = (c : ℕ) (m : Declared ids c) → Widening (d c m)
Widening (s_run_end w w' t t' d) = (w ≤ w') × Widening d
Widening (s_dictionary k k' p p' i i' d) = (limit k ≤ limit k') × PlainWidening d

-- the way back
abbrev pub plain_turned : {p p' : Plain} → PlainWidths p p' → PlainWidths p' p
plain_turned (s_fixed n) = s_fixed n
plain_turned (s_string w w') = s_string w' w

abbrev pub turned : {t t' : Ty} → Widths t t' → Widths t' t
turned (s_plain p p' d) = s_plain p' p (plain_turned d)
turned s_view = s_view
turned (s_list_view w w' t t' d) = s_list_view w' w t' t (turned d)
turned (s_list w w' t t' d) = s_list w' w t' t (turned d)
turned (s_sparse ids nullable nullable' f f' e d) = s_sparse ids nullable' nullable f' f (λ c m. sym (e c m)) (λ c m. turned (d c m))
turned (s_dense ids nullable nullable' f f' e d) = s_dense ids nullable' nullable f' f (λ c m. sym (e c m)) (λ c m. turned (d c m))
turned (s_run_end w w' t t' d) = s_run_end w' w t' t (turned d)
turned (s_dictionary k k' p p' i i' d) = s_dictionary k' k p' p i' i (plain_turned d)

-- "each dictionary's entry count less one fits the first key type"
abbrev pub KeysFit : (t : Ty) → Body t → Type 0
KeysFit = Below {X = Body} body_down (λ b. Unit {0}) (λ k p b. b.values.len - 1 < limit k)
