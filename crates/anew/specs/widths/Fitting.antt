-- The numbers of a result in tree order, and the converter's grounds: 6, 7 or 8 at the first of them that does not fit (W13).
-- Assumes nothing.
use Rattle.std.specs.Prelude.{List, [], ◌∷◌, ◌++◌, ℕ, ◌+◌, ◌-◌, ◌<◌, ltb}
use Rattle.columnar.specs.Row.{seg}
use Rattle.columnar.specs.Types.{half, limit, Plain, Ty}
use Rattle.columnar.specs.Array.{Array, item}
use Rattle.columnar.specs.Plain.{PlainBody}
use Rattle.columnar.specs.Reading.{Body, Column}
use Rattle.columnar.specs.Test.{member}
use Rattle.model.specs.Try.{Try, done, then, guard}
use Rattle.anew.specs.widths.Widths.{PlainWidths, s_fixed, s_string, Widths, s_plain, s_view, s_list_view, s_list, s_sparse, s_dense, s_run_end, s_dictionary}
use Rattle.anew.specs.widths.Converted.{span_of, offsets_of, first_of, many_of, ends_of, pick, column_as}

-- a number of the result, what it must be below, and the ground where it is not
pub record Demand : Type 0 where
  pub refusal : ℕ
  pub number : ℕ
  pub most : ℕ

abbrev pub needs : ℕ → ℕ → List ℕ → List Demand
needs g most [] = []
needs g most (v ∷ vs) = record { refusal = g; number = v; most = most } ∷ needs g most vs

abbrev pub gather : List ℕ → (ℕ → List Demand) → List Demand
gather [] f = []
gather (c ∷ cs) f = f c ++ gather cs f

-- those of a stretch of an array's rows: its offset is added here
abbrev pub numbers_of : {B : Type 0} → (B → ℕ → ℕ → List Demand) → Array B → ℕ → ℕ → List Demand
numbers_of f x a n = f x.body (x.off + a) n

abbrev pub plain_numbers : {p p' : Plain} → PlainWidths p p' → PlainBody p → ℕ → ℕ → List Demand
plain_numbers (s_fixed k) b s n = []
plain_numbers (s_string w w') b s n = needs 6 (half w') (offsets_of w b.offsets s n)

-- "in the result an offset or size, a run end, or the entry count less one (at least 0)"
abbrev pub numbers_in : {t t' : Ty} → Widths t t' → Body t → ℕ → ℕ → List Demand
numbers_in (s_plain p p' d) b s n = plain_numbers d b s n
numbers_in s_view b s n = []
numbers_in (s_list_view w w' t t' d) b s n =
    needs 6 (half w') (seg (item w b.offsets) s n) ++ (needs 6 (half w') (seg (item w b.sizes) s n) ++ numbers_of (numbers_in d) b.child 0 b.child.len)
numbers_in (s_list w w' t t' d) b s n =
    needs 6 (half w') (offsets_of w b.offsets s n) ++ numbers_of (numbers_in d) b.child (item w b.offsets s) (span_of w b.offsets s n)
numbers_in (s_sparse ids nullable nullable' f f' e d) b s n = gather ids (λ c. pick (member c ids) (λ m. numbers_of (numbers_in (d c m)) (b.children c) s n) [])
numbers_in (s_dense ids nullable nullable' f f' e d) b s n =
    gather ids (λ c. pick (member c ids) (λ m. numbers_of (numbers_in (d c m)) (b.children c) 0 (b.children c).len) [])
numbers_in (s_run_end w w' t t' d) b s n = needs 7 (half w') (ends_of w b s n) ++ numbers_of (numbers_in d) b.values (first_of w b s n) (many_of w b s n)
numbers_in (s_dictionary k k' p p' i i' d) b s n = needs 8 (limit k') ((b.values.len - 1) ∷ []) ++ numbers_of (plain_numbers d) b.values 0 b.values.len

-- all fit, or the ground of the first that does not
abbrev pub tried : List Demand → Try (Unit {0})
tried [] = done tt
tried (x ∷ l) = guard (ltb x.number x.most) x.refusal (tried l)

abbrev pub AllFit : List Demand → Type 0
AllFit [] = Unit {0}
AllFit (x ∷ l) = (x.number < x.most) × AllFit l

module _ (t t' : Ty) (d : Widths t t') (x : Column t) where
  abbrev pub numbers : List Demand
  numbers = numbers_of (numbers_in d) x 0 x.len

  -- A COLUMN IN OTHER WIDTHS: "in tree order, with 6, 7 or 8"
  abbrev pub converted : Try (Column t')
  converted = then (tried numbers) (λ u. done (column_as t t' d x 0 x.len))
