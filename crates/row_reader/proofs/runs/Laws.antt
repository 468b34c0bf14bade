-- The answers of `column_reader::runs` by the ground of the column and the length of the answer. Assumes nothing.
use mathlib.Core.Path.{◌≡◌, refl, sym, ap, ◌∙◌}
use mathlib.Core.Bool.{Bool, true, false, cond}
use mathlib.Core.List.{List, [], ◌∷◌}
use Prim.Native.Nat.{ℕ}
use native.Mathlib.Omega.{arith}
use lib.ListN.{length, set}
use lib.Dec.{eqb}
use borrow.Author.Tests.{eq-eqb, ne_eqb}
use Rattle.array_data.specs.Tables.{Tables}
use Rattle.source_rules.specs.kinds.Rows.{tables_of}
use Rattle.array_data.specs.entries.Entries.{column}
use Rattle.columns.specs.Grounds.{column_ground}
use Rattle.array_data.specs.node_words.Words.{planted}
use Rattle.row_reader.specs.column_reader.Column.{opened_tree}
use Rattle.row_reader.proofs.column_reader.Laws.{tree_accepted}
use Rattle.std.specs.Prelude.{Result, Ok, Err}
use Rattle.run_ends.specs.declared.RunRow.{RunRow}
use Rattle.row_reader.specs.Walk.{run_at}
use Rattle.row_reader.specs.runs.Answers.{read_run, refusal, numbers}

-- no run is read from data buffers
no_buffers : (tree lengths places buffers body : List ℕ) (first r : ℕ) → run_at tree (column lengths places [] body first) r ≡ run_at tree (column lengths places buffers body first) r
unfolding run_at
no_buffers tree lengths places buffers body first r = refl

module _ (formats schema lengths places buffers body : List ℕ) (first n g : ℕ) (e : g ≡ column_ground formats schema (tables_of lengths places buffers body) first n) (r : ℕ) where
  abbrev X : Tables
  X = tables_of lengths places buffers body

  pub run_refused : (g ≡ 0 → ⊥) → Err g ≡ read_run formats schema X first n r
  unfolding read_run
  run_refused h = rw (ne_eqb (column_ground formats schema X first n) 0 (λ z. h (e ∙ z)), e)

  pub run_read : g ≡ 0 → (start tree words : List ℕ) → tree ≡ opened_tree formats schema X first n start → words ≡ tree → {f : Result RunRow ℕ}
      → f ≡ run_at words (column lengths places [] body first) r → f ≡ read_run formats schema X first n r
  unfolding read_run
  run_read h start tree words t c a =
      let p : words ≡ planted formats schema first n = c ∙ t ∙ sym (tree_accepted formats schema X first n g e h start) in
      rw (eq-eqb (column_ground formats schema X first n) 0 (sym e ∙ h)) (a ∙ ap (λ y. run_at y (column lengths places [] body first) r) p ∙ no_buffers (planted formats schema first n) lengths places buffers body first r)

-- ---- the answer

module _ (found : Result RunRow ℕ) (answer : List ℕ) where
  pub no_room : (r : RunRow) → (length answer ≡ 2 → ⊥) → found ≡ Ok r → (14 ≡ refusal found answer) × (answer ≡ numbers found answer)
  no_room r h e = rw e (rw (ne_eqb (length answer) 2 h), rw (ne_eqb (length answer) 2 h))

  pub refused_run : (g : ℕ) → found ≡ Err g → (g ≡ refusal found answer) × (answer ≡ numbers found answer)
  refused_run g e = rw e (refl, same (eqb (length answer) 2))
    where
      same : (b : Bool) → answer ≡ cond b answer answer
      same true = refl
      same false = refl

both_set : (answer : List ℕ) (a b : ℕ) → length answer ≡ 2 → set (set answer 0 a) 1 b ≡ a ∷ b ∷ []
both_set [] a b h = absurd (omega arith)
both_set (x ∷ []) a b h = absurd (omega arith)
both_set (x ∷ y ∷ []) a b h = refl
both_set (x ∷ y ∷ z ∷ s) a b h = absurd (omega arith)

pub found_run_lem : (found : Result RunRow ℕ) (answer : List ℕ) (r : RunRow) → length answer ≡ 2 → found ≡ Ok r
    → (0 ≡ refusal found answer) × (set (set answer 0 r.run.0) 1 r.left ≡ numbers found answer)
found_run_lem found answer r h e = rw e (rw (eq-eqb (length answer) 2 h), both_set answer r.run.0 r.left h ∙ rw (eq-eqb (length answer) 2 h))
