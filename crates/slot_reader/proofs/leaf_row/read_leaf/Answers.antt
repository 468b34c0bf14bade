-- `leaf_row::read_leaf` meets its contract. Assumes nothing.
use mathlib.Core.Path.{◌≡◌, ap, ◌∙◌}
use Prim.Native.Nat.{ℕ}
use native.Mathlib.Omega.{arith}
use Rattle.columnar.specs.Types.{width}
use Rattle.slot_reader.specs.declared.leaf_row.Leaf.TheVariants.{Signed, Unsigned}
use Rattle.slot_reader.specs.leaf_row.Reading.{number_of, single_of, double_of}
use Rattle.slot_reader.proofs.leaf_row.Laws.{arm, tenth, widens, widened}
use mir.Syntax.{w8, w16, w32, w64}
use mir.ValLaws.{to_z-of_z}
use borrow.Author.Rules.{sfits_of}
use Rattle.slot_reader.proofs.leaf_row.read_leaf.Goals as goal

pub read-requires : goal.read-requires
read-requires c = omega (arith, ap (λ (n : ℕ). width (number_of n)) c.in-1.is)

pub overflow_cast-result : goal.overflow_cast-result
overflow_cast-result c = widens w8 c.read.result (sfits_of c.read.type_inv) tt

pub read-requires-in-2 : goal.read-requires-in-2
read-requires-in-2 c = omega (arith, ap (λ (n : ℕ). width (number_of n)) c.in-2.is)

pub read-requires-in-3 : goal.read-requires-in-3
read-requires-in-3 c = omega (arith, ap (λ (n : ℕ). width (number_of n)) c.in-3.is)

pub overflow_cast-result-in-3 : goal.overflow_cast-result-in-3
overflow_cast-result-in-3 c = widens w16 c.read-in-3.result (sfits_of c.read-in-3.type_inv) tt

pub read-requires-in-4 : goal.read-requires-in-4
read-requires-in-4 c = omega (arith, ap (λ (n : ℕ). width (number_of n)) c.in-4.is)

pub read-requires-in-5 : goal.read-requires-in-5
read-requires-in-5 c = omega (arith, ap (λ (n : ℕ). width (number_of n)) c.in-5.is)

pub overflow_cast-result-in-5 : goal.overflow_cast-result-in-5
overflow_cast-result-in-5 c = widens w32 c.read-in-5.result (sfits_of c.read-in-5.type_inv) tt

pub read-requires-in-6 : goal.read-requires-in-6
read-requires-in-6 c = omega (arith, ap (λ (n : ℕ). width (number_of n)) c.in-6.is)

pub read-requires-in-7 : goal.read-requires-in-7
read-requires-in-7 c = omega (arith, ap (λ (n : ℕ). width (number_of n)) c.in-7.is)

pub read-requires-in-8 : goal.read-requires-in-8
read-requires-in-8 c = omega (arith, ap (λ (n : ℕ). width (number_of n)) c.in-8.is)

pub read-requires-in-9 : goal.read-requires-in-9
read-requires-in-9 c = omega (arith, ap (λ (n : ℕ). width (number_of n)) c.in-9.is)

pub read-requires-in_default : goal.read-requires-in_default
read-requires-in_default c =
    let a = c.args in
    let r = c.in_default.in_default-own.rest in
    let p = c.requires in
    let e : a.code ≡ 10 = tenth _ p.le_code.0 p.le_code.1 r.0.0.0.0.0.0.0.0.1 r.0.0.0.0.0.0.0.1 r.0.0.0.0.0.0.1 r.0.0.0.0.0.1 r.0.0.0.0.1 r.0.0.0.1 r.0.0.1 r.0.1 r.1 in omega (arith, ap (λ (n : ℕ). width (number_of n)) e)

pub returns-in-1 : goal.returns-in-1
returns-in-1 c =
    let a = c.args in
    let s = c.shared_slice_known-1 in
    let both = arm a.body.now a.at _ 1 (λ i. (s.given i).fits) c.in-1.is _ (ap Signed (widened w8 c.read.result (sfits_of c.read.type_inv) tt ∙ c.read.ensures)) in record { value = both.0; result_value = both.1 }

pub returns-in-2 : goal.returns-in-2
returns-in-2 c =
    let a = c.args in
    let s = c.shared_slice_known-1 in
    let both = arm a.body.now a.at _ 2 (λ i. (s.given i).fits) c.in-2.is _ (ap Unsigned c.read-in-2.ensures) in record { value = both.0; result_value = both.1 }

pub returns-in-3 : goal.returns-in-3
returns-in-3 c =
    let a = c.args in
    let s = c.shared_slice_known-1 in
    let both = arm a.body.now a.at _ 3 (λ i. (s.given i).fits) c.in-3.is _ (ap Signed (widened w16 c.read-in-3.result (sfits_of c.read-in-3.type_inv) tt ∙ c.read-in-3.ensures)) in record { value = both.0; result_value = both.1 }

pub returns-in-4 : goal.returns-in-4
returns-in-4 c =
    let a = c.args in
    let s = c.shared_slice_known-1 in
    let both = arm a.body.now a.at _ 4 (λ i. (s.given i).fits) c.in-4.is _ (ap Unsigned c.read-in-4.ensures) in record { value = both.0; result_value = both.1 }

pub returns-in-5 : goal.returns-in-5
returns-in-5 c =
    let a = c.args in
    let s = c.shared_slice_known-1 in
    let both = arm a.body.now a.at _ 5 (λ i. (s.given i).fits) c.in-5.is _ (ap Signed (widened w32 c.read-in-5.result (sfits_of c.read-in-5.type_inv) tt ∙ c.read-in-5.ensures)) in record { value = both.0; result_value = both.1 }

pub returns-in-6 : goal.returns-in-6
returns-in-6 c =
    let a = c.args in
    let s = c.shared_slice_known-1 in
    let both = arm a.body.now a.at _ 6 (λ i. (s.given i).fits) c.in-6.is _ (ap Unsigned c.read-in-6.ensures) in record { value = both.0; result_value = both.1 }

pub returns-in-7 : goal.returns-in-7
returns-in-7 c =
    let a = c.args in
    let s = c.shared_slice_known-1 in
    let both = arm a.body.now a.at _ 7 (λ i. (s.given i).fits) c.in-7.is _ (ap Signed (to_z-of_z w64 c.read-in-7.result (sfits_of c.read-in-7.type_inv) ∙ c.read-in-7.ensures)) in record { value = both.0; result_value = both.1 }

pub returns-in-8 : goal.returns-in-8
returns-in-8 c =
    let a = c.args in
    let s = c.shared_slice_known-1 in
    let both = arm a.body.now a.at _ 8 (λ i. (s.given i).fits) c.in-8.is _ (ap Unsigned c.read-in-8.ensures) in record { value = both.0; result_value = both.1 }

pub returns-in-9 : goal.returns-in-9
returns-in-9 c =
    let a = c.args in
    let s = c.shared_slice_known-1 in
    let both = arm a.body.now a.at _ 9 (λ i. (s.given i).fits) c.in-9.is _ (c.single_of.ensures ∙ ap single_of c.read-in-9.ensures) in record { value = both.0; result_value = both.1 }

pub returns-in_default : goal.returns-in_default
returns-in_default c =
    let a = c.args in
    let s = c.shared_slice_known-1 in
    let r = c.in_default.in_default-own.rest in
    let p = c.requires in
    let e : a.code ≡ 10 = tenth _ p.le_code.0 p.le_code.1 r.0.0.0.0.0.0.0.0.1 r.0.0.0.0.0.0.0.1 r.0.0.0.0.0.0.1 r.0.0.0.0.0.1 r.0.0.0.0.1 r.0.0.0.1 r.0.0.1 r.0.1 r.1 in let both = arm a.body.now a.at _ 10 (λ i. (s.given i).fits) e _ (c.double_of.ensures ∙ ap double_of c.read-in_default.ensures) in record { value = both.0; result_value = both.1 }
