-- `row_pair::rows_ground` meets its contract. Assumes nothing.
use mathlib.Core.Path.{◌≡◌, sym, ◌∙◌}
use Prim.Native.Nat.{◌<◌}
use native.Mathlib.Omega.{arith}
use Rattle.array_data.specs.Tables.{length_of}
use Rattle.array_data.specs.Typed.{tables_from}
use Rattle.array_data.proofs.lent_tables.Laws.{no, yes}
use Rattle.source_rules.specs.kinds.Rows.{tables_of}
use Rattle.array_data.specs.type_tree.Lent.{type_of}
use Rattle.columns.proofs.column_pair.Pair.{pair_none}
use Rattle.row_reader.specs.row_pair.Same.{number_type, of_numbers, both_ground}
use Rattle.row_reader.proofs.column_reader.Reading.{accepted_typed}
use Rattle.row_reader.proofs.row_pair.Types.{numbers_are}
use Rattle.row_reader.proofs.row_pair.Answers.{columns_ground, no_row_a, no_row_b, no_numbers_a, no_numbers_b, no_ground}
use Rattle.row_reader.proofs.row_pair.rows_ground.Goals as goal

pub returns-then-refusal-ne0 : goal.returns-then-refusal-ne0
returns-then-refusal-ne0 c =
    columns_ground c.args.formats.now c.args.schema.now ((tables_of c.args.lengths.now c.args.places.now c.args.buffers.now c.args.body.now)) c.args.first_a c.args.n_a c.args.first_b c.args.n_b c.args.row_a c.args.row_b _ c.pair_ground-refusal.ensures c.if-refusal-ne0.true

pub returns-then-length_at-row_a : goal.returns-then-length_at-row_a
returns-then-length_at-row_a c =
    no_row_a c.args.formats.now c.args.schema.now ((tables_of c.args.lengths.now c.args.places.now c.args.buffers.now c.args.body.now)) c.args.first_a c.args.n_a c.args.first_b c.args.n_b c.args.row_a c.args.row_b ((let fact : both_ground c.args.formats.now c.args.schema.now ((tables_of c.args.lengths.now c.args.places.now c.args.buffers.now c.args.body.now)) c.args.first_a c.args.n_a c.args.first_b c.args.n_b c.args.row_a c.args.row_b ≡ 0 = sym c.pair_ground-refusal.ensures ∙ c.if-refusal-ne0.false in fact)) (omega (arith, c.length_at.ensures, c.if-length_at-row_a.true))

pub returns-then-length_at-row_b : goal.returns-then-length_at-row_b
returns-then-length_at-row_b c =
    no_row_b c.args.formats.now c.args.schema.now ((tables_of c.args.lengths.now c.args.places.now c.args.buffers.now c.args.body.now)) c.args.first_a c.args.n_a c.args.first_b c.args.n_b c.args.row_a c.args.row_b ((let fact : both_ground c.args.formats.now c.args.schema.now ((tables_of c.args.lengths.now c.args.places.now c.args.buffers.now c.args.body.now)) c.args.first_a c.args.n_a c.args.first_b c.args.n_b c.args.row_a c.args.row_b ≡ 0 = sym c.pair_ground-refusal.ensures ∙ c.if-refusal-ne0.false in fact)) ((let fact : c.args.row_a < length_of (tables_from ((tables_of c.args.lengths.now c.args.places.now c.args.buffers.now c.args.body.now)) c.args.first_a) 0 = omega (arith, c.length_at.ensures, c.if-length_at-row_a.false) in fact)) (omega (arith, c.length_at-2.ensures, c.if-length_at-row_b.true))

pub returns-then-not-has_numbers : goal.returns-then-not-has_numbers
returns-then-not-has_numbers c =
    no_numbers_a c.args.formats.now c.args.schema.now ((tables_of c.args.lengths.now c.args.places.now c.args.buffers.now c.args.body.now)) c.args.first_a c.args.n_a c.args.first_b c.args.n_b c.args.row_a c.args.row_b ((let fact : both_ground c.args.formats.now c.args.schema.now ((tables_of c.args.lengths.now c.args.places.now c.args.buffers.now c.args.body.now)) c.args.first_a c.args.n_a c.args.first_b c.args.n_b c.args.row_a c.args.row_b ≡ 0 = sym c.pair_ground-refusal.ensures ∙ c.if-refusal-ne0.false in fact)) ((let fact : c.args.row_a < length_of (tables_from ((tables_of c.args.lengths.now c.args.places.now c.args.buffers.now c.args.body.now)) c.args.first_a) 0 = omega (arith, c.length_at.ensures, c.if-length_at-row_a.false) in fact)) ((let fact : c.args.row_b < length_of (tables_from ((tables_of c.args.lengths.now c.args.places.now c.args.buffers.now c.args.body.now)) c.args.first_b) 0 = omega (arith, c.length_at-2.ensures, c.if-length_at-row_b.false) in fact))
    ((let fact : number_type (type_of c.args.formats.now c.args.schema.now c.args.first_a c.args.n_a) ≡ of_numbers c.args.formats.now c.args.schema.now c.args.first_a = numbers_are _ _ _ _ (accepted_typed c.args.formats.now c.args.schema.now ((tables_of c.args.lengths.now c.args.places.now c.args.buffers.now c.args.body.now)) c.args.first_a c.args.n_a (pair_none _ _ ((let fact : both_ground c.args.formats.now c.args.schema.now ((tables_of c.args.lengths.now c.args.places.now c.args.buffers.now c.args.body.now)) c.args.first_a c.args.n_a c.args.first_b c.args.n_b c.args.row_a c.args.row_b ≡ 0 = sym c.pair_ground-refusal.ensures ∙ c.if-refusal-ne0.false in fact))).0) in fact) ∙ no c.has_numbers.ensures c.if-not-has_numbers.true-raw)

pub returns-then-not-has_numbers-2 : goal.returns-then-not-has_numbers-2
returns-then-not-has_numbers-2 c =
    no_numbers_b c.args.formats.now c.args.schema.now ((tables_of c.args.lengths.now c.args.places.now c.args.buffers.now c.args.body.now)) c.args.first_a c.args.n_a c.args.first_b c.args.n_b c.args.row_a c.args.row_b ((let fact : both_ground c.args.formats.now c.args.schema.now ((tables_of c.args.lengths.now c.args.places.now c.args.buffers.now c.args.body.now)) c.args.first_a c.args.n_a c.args.first_b c.args.n_b c.args.row_a c.args.row_b ≡ 0 = sym c.pair_ground-refusal.ensures ∙ c.if-refusal-ne0.false in fact)) ((let fact : c.args.row_a < length_of (tables_from ((tables_of c.args.lengths.now c.args.places.now c.args.buffers.now c.args.body.now)) c.args.first_a) 0 = omega (arith, c.length_at.ensures, c.if-length_at-row_a.false) in fact)) ((let fact : c.args.row_b < length_of (tables_from ((tables_of c.args.lengths.now c.args.places.now c.args.buffers.now c.args.body.now)) c.args.first_b) 0 = omega (arith, c.length_at-2.ensures, c.if-length_at-row_b.false) in fact)) ((let fact : number_type (type_of c.args.formats.now c.args.schema.now c.args.first_a c.args.n_a) ≡ of_numbers c.args.formats.now c.args.schema.now c.args.first_a = numbers_are _ _ _ _ (accepted_typed c.args.formats.now c.args.schema.now ((tables_of c.args.lengths.now c.args.places.now c.args.buffers.now c.args.body.now)) c.args.first_a c.args.n_a (pair_none _ _ ((let fact : both_ground c.args.formats.now c.args.schema.now ((tables_of c.args.lengths.now c.args.places.now c.args.buffers.now c.args.body.now)) c.args.first_a c.args.n_a c.args.first_b c.args.n_b c.args.row_a c.args.row_b ≡ 0 = sym c.pair_ground-refusal.ensures ∙ c.if-refusal-ne0.false in fact))).0) in fact) ∙ yes c.has_numbers.ensures c.if-not-has_numbers.false-raw)
    ((let fact : number_type (type_of c.args.formats.now c.args.schema.now c.args.first_b c.args.n_b) ≡ of_numbers c.args.formats.now c.args.schema.now c.args.first_b = numbers_are _ _ _ _ (accepted_typed c.args.formats.now c.args.schema.now ((tables_of c.args.lengths.now c.args.places.now c.args.buffers.now c.args.body.now)) c.args.first_b c.args.n_b (pair_none _ _ ((let fact : both_ground c.args.formats.now c.args.schema.now ((tables_of c.args.lengths.now c.args.places.now c.args.buffers.now c.args.body.now)) c.args.first_a c.args.n_a c.args.first_b c.args.n_b c.args.row_a c.args.row_b ≡ 0 = sym c.pair_ground-refusal.ensures ∙ c.if-refusal-ne0.false in fact))).1) in fact) ∙ no c.has_numbers-2.ensures c.if-not-has_numbers-2.true-raw)

pub returns : goal.returns
returns c =
    no_ground c.args.formats.now c.args.schema.now ((tables_of c.args.lengths.now c.args.places.now c.args.buffers.now c.args.body.now)) c.args.first_a c.args.n_a c.args.first_b c.args.n_b c.args.row_a c.args.row_b ((let fact : both_ground c.args.formats.now c.args.schema.now ((tables_of c.args.lengths.now c.args.places.now c.args.buffers.now c.args.body.now)) c.args.first_a c.args.n_a c.args.first_b c.args.n_b c.args.row_a c.args.row_b ≡ 0 = sym c.pair_ground-refusal.ensures ∙ c.if-refusal-ne0.false in fact)) ((let fact : c.args.row_a < length_of (tables_from ((tables_of c.args.lengths.now c.args.places.now c.args.buffers.now c.args.body.now)) c.args.first_a) 0 = omega (arith, c.length_at.ensures, c.if-length_at-row_a.false) in fact)) ((let fact : c.args.row_b < length_of (tables_from ((tables_of c.args.lengths.now c.args.places.now c.args.buffers.now c.args.body.now)) c.args.first_b) 0 = omega (arith, c.length_at-2.ensures, c.if-length_at-row_b.false) in fact)) ((let fact : number_type (type_of c.args.formats.now c.args.schema.now c.args.first_a c.args.n_a) ≡ of_numbers c.args.formats.now c.args.schema.now c.args.first_a = numbers_are _ _ _ _ (accepted_typed c.args.formats.now c.args.schema.now ((tables_of c.args.lengths.now c.args.places.now c.args.buffers.now c.args.body.now)) c.args.first_a c.args.n_a (pair_none _ _ ((let fact : both_ground c.args.formats.now c.args.schema.now ((tables_of c.args.lengths.now c.args.places.now c.args.buffers.now c.args.body.now)) c.args.first_a c.args.n_a c.args.first_b c.args.n_b c.args.row_a c.args.row_b ≡ 0 = sym c.pair_ground-refusal.ensures ∙ c.if-refusal-ne0.false in fact))).0) in fact) ∙ yes c.has_numbers.ensures c.if-not-has_numbers.false-raw)
    ((let fact : number_type (type_of c.args.formats.now c.args.schema.now c.args.first_b c.args.n_b) ≡ of_numbers c.args.formats.now c.args.schema.now c.args.first_b = numbers_are _ _ _ _ (accepted_typed c.args.formats.now c.args.schema.now ((tables_of c.args.lengths.now c.args.places.now c.args.buffers.now c.args.body.now)) c.args.first_b c.args.n_b (pair_none _ _ ((let fact : both_ground c.args.formats.now c.args.schema.now ((tables_of c.args.lengths.now c.args.places.now c.args.buffers.now c.args.body.now)) c.args.first_a c.args.n_a c.args.first_b c.args.n_b c.args.row_a c.args.row_b ≡ 0 = sym c.pair_ground-refusal.ensures ∙ c.if-refusal-ne0.false in fact))).1) in fact) ∙ yes c.has_numbers-2.ensures c.if-not-has_numbers-2.false-raw)
