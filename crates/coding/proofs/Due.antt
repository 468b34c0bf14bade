-- "10": the target is taken exactly where its type is the one that is due, runs of the column's numbers or the numbers of its runs. Assumes nothing.
use mathlib.Core.Path.{◌≡◌, refl, sym, ap, ◌∙◌}
use mathlib.Core.Bool.{true, ◌&&◌}
use mathlib.Core.List.{List}
use Prim.Native.Nat.{ℕ}
use borrow.Author.Tests.{eq-eqb}
use Rattle.columnar.specs.Types.{Number, int, uint, w1, w2, w4, w8, f32, f64, fixed, string, Ty, t_plain, t_view, t_list_view, t_list, t_sparse, t_dense, t_run_end, t_dictionary}
use Rattle.schema.specs.formats.Code.{is_fixed, is_run_end}
use Rattle.schema.specs.formats.Types.{number_of, number_or}
use Rattle.schema.specs.Tree.{code_of, ceilings, typed}
use Rattle.array_data.specs.type_tree.Lent.{type_of}
use Rattle.array_data.proofs.lent_tables.Laws.{and_left, and_right}
use Rattle.coding.specs.Encode.{plain_at, runs_over}
use Rattle.coding.specs.Expand.{runs_of_plain, plain_over}
use Rattle.coding.proofs.Codes.{ten}
use Rattle.coding.proofs.Accepted.{PlainIs, plain_is, type_plain, type_runs}
use Rattle.coding.proofs.Types.{plain_exact, runs_exact}

-- the code of a number's format
abbrev code_for : Number → ℕ
code_for (int w1) = 1
code_for (uint w1) = 2
code_for (int w2) = 3
code_for (uint w2) = 4
code_for (int w4) = 5
code_for (uint w4) = 6
code_for (int w8) = 7
code_for (uint w8) = 8
code_for f32 = 9
code_for f64 = 10

code_for_lem : (c : ℕ) → is_fixed c ≡ true → code_for (number_or (number_of c)) ≡ c
unfolding number_of
code_for_lem = ten (λ c. code_for (number_or (number_of c)) ≡ c) refl refl refl refl refl refl refl refl refl refl

-- two formats of one number are one format
one_code : (c d : ℕ) → is_fixed c ≡ true → is_fixed d ≡ true → number_or (number_of c) ≡ number_or (number_of d) → c ≡ d
one_code c d f g e = sym (code_for_lem c f) ∙ ap code_for e ∙ code_for_lem d g

-- the number of a type of numbers, or of runs of numbers
abbrev number_in : Ty → Number
number_in (t_plain (fixed k)) = k
number_in (t_plain (string w)) = (int w1)
number_in t_view = (int w1)
number_in (t_list_view w u) = (int w1)
number_in (t_list w u) = (int w1)
number_in (t_sparse ids nullable f) = (int w1)
number_in (t_dense ids nullable f) = (int w1)
number_in (t_run_end w u) = number_in u
number_in (t_dictionary k p) = (int w1)

module _ (formats schema : List ℕ) (first n target : ℕ) (t : typed formats schema first n ≡ true) where
  -- THE ENCODER'S TARGET: whatever has the type of runs of the column's numbers passes (that nothing else does is `due-type`)
  pub due_runs_back : (w : ℕ) (k : Number) → ceilings formats schema target 3 ≡ true → (u : typed formats schema target 3 ≡ true)
      → type_of formats schema first n ≡ t_plain (fixed k) → type_of formats schema target 3 ≡ t_run_end w (t_plain (fixed k)) → runs_over formats schema first target ≡ true
  unfolding runs_over runs_of_plain
  due_runs_back w k low u e r =
      let column : PlainIs formats schema first 0 = plain_is formats schema first 0 (plain_exact formats schema first n t ∙ rw e) in
      let runs : is_run_end (code_of formats schema target 0) && plain_at formats schema target 2 ≡ true = runs_exact formats schema target target 3 u ∙ rw r in
      let run = and_left (is_run_end (code_of formats schema target 0)) (plain_at formats schema target 2) runs in
      let plain = and_right (is_run_end (code_of formats schema target 0)) (plain_at formats schema target 2) runs in
      let values = plain_is formats schema target 2 plain in
      let a : number_or (number_of (code_of formats schema target 2)) ≡ k = ap number_in (sym (type_runs formats schema target 3 run values) ∙ r) in
      let b : number_or (number_of (code_of formats schema first 0)) ≡ k = ap number_in (sym (type_plain formats schema first n column) ∙ e) in
      let same = one_code (code_of formats schema target 2) (code_of formats schema first 0) values.is_fixed_lem column.is_fixed_lem (a ∙ sym b) in
      rw (low, u, run, plain, eq-eqb (code_of formats schema target 2) (code_of formats schema first 0) same) refl

  -- THE EXPANSION'S TARGET: whatever has the type of the runs' numbers passes
  pub due_plain_back : (w : ℕ) (k : Number) → ceilings formats schema target 1 ≡ true → (u : typed formats schema target 1 ≡ true)
      → type_of formats schema first n ≡ t_run_end w (t_plain (fixed k)) → type_of formats schema target 1 ≡ t_plain (fixed k) → plain_over formats schema first target ≡ true
  unfolding plain_over runs_of_plain
  due_plain_back w k low u r e =
      let plain : plain_at formats schema target 0 ≡ true = plain_exact formats schema target 1 u ∙ rw e in
      let due = plain_is formats schema target 0 plain in
      let runs : is_run_end (code_of formats schema first 0) && plain_at formats schema first 2 ≡ true = runs_exact formats schema first target n t ∙ rw r in
      let run = and_left (is_run_end (code_of formats schema first 0)) (plain_at formats schema first 2) runs in
      let values = plain_is formats schema first 2 (and_right (is_run_end (code_of formats schema first 0)) (plain_at formats schema first 2) runs) in
      let a : number_or (number_of (code_of formats schema first 2)) ≡ k = ap number_in (sym (type_runs formats schema first n run values) ∙ r) in
      let b : number_or (number_of (code_of formats schema target 0)) ≡ k = ap number_in (sym (type_plain formats schema target 1 due) ∙ e) in
      let same = one_code (code_of formats schema target 0) (code_of formats schema first 2) due.is_fixed_lem values.is_fixed_lem (b ∙ sym a) in
      rw (low, u, plain, eq-eqb (code_of formats schema target 0) (code_of formats schema first 2) same) refl
