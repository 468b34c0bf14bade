-- Two whole joins, one stored wider, with every premise of `made_again` given: byte strings `z` and `Z`, a slice whose rows are "stop" and a
-- null, copied whole. Assumes nothing.
use mathlib.Core.Path.{◌≡◌, refl, sym, ap, subst, ◌∙◌}
use mathlib.Core.Bool.{Bool, true, false, not, cond, ◌&&◌}
use mathlib.Core.List.{List, [], ◌∷◌}
use Prim.Native.Nat.{ℕ, zero, suc, ◌+◌, ◌-◌, ◌*◌, ◌/◌, ◌≤◌, ◌<◌}
use native.Mathlib.Nat.{zero-add}
use native.Mathlib.Omega.{arith}
use lib.ListN.{length, get_or, replicate, length-replicate}
use lib.Dec.{T, leb, ltb, eqb}
use borrow.Author.Tests.{ltb-true, lt-ltb}
use Rattle.array_data.proofs.lent_tables.Laws.{and_left, and_right}
use Rattle.number.specs.Number.{number, encode}
use Rattle.columnar.specs.Row.{Row, null, bytes}
use Rattle.columnar.specs.Types.{t_plain, string}
use Rattle.columnar.specs.Array.{item, bit}
use Rattle.columnar.specs.Reading.{read_all}
use Rattle.columnar.specs.Wider.{Wider, w_plain, w_string, bits, entries, Again}
use Rattle.schema.specs.formats.Code as Code
use Rattle.schema.specs.formats.Code.{is_string}
use Rattle.schema.specs.union_ids.Ids as Ids
use Rattle.schema.specs.Tree as Tree
use Rattle.array_data.specs.NodeKinds.{kind_at}
use Rattle.array_data.specs.Typed.{placed, tables_from}
use Rattle.array_data.specs.type_tree.Lent.{ty_of, tree_of}
use Rattle.model.specs.Try.{done, stop, guard, after}
use Rattle.model.specs.Grounds.{Counts, rows_of, bytes_of, start_counts}
use Rattle.model.specs.Book.{Call, copy, answer}
use Rattle.walk.specs.State.{code_of, keeps_of, part_of}
use Rattle.refinement.specs.walk_is_model.Holds.{WordedPlain, Worded}
use Rattle.refinement.proofs.log_in_room.Found.{between_both}
use Rattle.plan.specs.parts.Parts.{nodes_of, copied, validity_parts, parts_before, size_at, size_of, Apart, before, behind}
use Rattle.columns.specs.Grounds as Grounds
use Rattle.columns.proofs.Grounds.{by_nodes}
use Rattle.array_data.specs.Sources as Sources
use Rattle.refinement.specs.orders.Counted.{room_for}
use Rattle.refinement.proofs.orders.Booked.{ground_of}
use Rattle.refinement.specs.opening.Fits.{open_in}
use Rattle.refinement.proofs.opening.Laid.{stood}
use Rattle.refinement.proofs.opening.Opened.{given}
use Rattle.join.specs.Join.{Lending, Bytes, sources_in, type_in, columns_in, keeps_in, opening_of, lent_of, finished_of, grounds_in, carried_out, accepted_of, AllAccepted}
use Rattle.join.specs.Stored.{StoredWider, strings, NodeWider}
use Rattle.join.specs.Said.{PartsLie}
use Rattle.join.proofs.Answered.{No13, each_13, AllZero, accepted_zero}
use Rattle.join.proofs.Lengths.{accepted_is, book_is}
use Rattle.join.proofs.Demand3.{the_book}
use Rattle.join.proofs.Said.{not_fourteen}
use Rattle.join.proofs.WiderNodes.{opens_again, made_again}

-- ---- what is lent: validity, offsets 0 3 7 7, "vanstop"; two rows from slot 1 on

abbrev lending : List ℕ → List ℕ → List ℕ → List ℕ → ℕ → Lending
lending schema places body parts room =
    record {
      formats = 122 ∷ 90 ∷ [];  -- z Z
      schema = schema;
      sources = 0 ∷ 1 ∷ [];
      tables = record { lengths = 2 ∷ 1 ∷ []; places = places; buffers = []; body = body };
      keep = false;
      gaps = false;
      parts = parts;
      plan = replicate 872 0;
      counters = replicate 96 0;
      room = replicate room 0;
    }

abbrev pub narrow : Lending
narrow =
    lending (0 ∷ 1 ∷ 2 ∷ 0 ∷ 0 ∷ []) (1 ∷ 0 ∷ 1 ∷ 1 ∷ 16 ∷ 17 ∷ 7 ∷ 0 ∷ 0 ∷ [])
    (3 ∷ 0 ∷ 0 ∷ 0 ∷ 0 ∷ 3 ∷ 0 ∷ 0 ∷ 0 ∷ 7 ∷ 0 ∷ 0 ∷ 0 ∷ 7 ∷ 0 ∷ 0 ∷ 0 ∷ 118 ∷ 97 ∷ 110 ∷ 115 ∷ 116 ∷ 111 ∷ 112 ∷ [])
    (0 ∷ 1 ∷ 1 ∷ 12 ∷ 13 ∷ 4 ∷ []) 17

abbrev pub wide : Lending
wide =
    lending (1 ∷ 1 ∷ 2 ∷ 0 ∷ 0 ∷ []) (1 ∷ 0 ∷ 1 ∷ 1 ∷ 32 ∷ 33 ∷ 7 ∷ 0 ∷ 0 ∷ [])
    (3 ∷ 0 ∷ 0 ∷ 0 ∷ 0 ∷ 0 ∷ 0 ∷ 0 ∷ 0 ∷ 3 ∷ 0 ∷ 0 ∷ 0 ∷ 0 ∷ 0 ∷ 0 ∷ 0 ∷ 7 ∷ 0 ∷ 0 ∷ 0 ∷ 0 ∷ 0 ∷ 0 ∷ 0 ∷ 7 ∷ 0 ∷ 0 ∷ 0 ∷ 0 ∷ 0 ∷ 0 ∷ 0 ∷ 118 ∷ 97 ∷ 110 ∷ 115 ∷ 116 ∷ 111 ∷ 112 ∷ [])
    (0 ∷ 1 ∷ 1 ∷ 24 ∷ 25 ∷ 4 ∷ []) 29

abbrev pub calls : List Call
calls = copy 0 0 2 ∷ []

-- ---- bytes

abbrev all_bytes : List ℕ → Bool
all_bytes [] = true
all_bytes (b ∷ l) = ltb b 256 && all_bytes l

bytes_at_lem : (l : List ℕ) → all_bytes l ≡ true → (k : ℕ) → get_or l k 0 < 256
bytes_at_lem [] h k = omega arith
bytes_at_lem (b ∷ l) h zero = ltb-true b 256 (and_left (ltb b 256) (all_bytes l) h)
bytes_at_lem (b ∷ l) h (suc k) = bytes_at_lem l (and_right (ltb b 256) (all_bytes l) h) k

narrow_bytes : Bytes narrow
narrow_bytes = record { body_bytes = bytes_at_lem narrow.tables.body refl; room_bytes = bytes_at_lem narrow.room refl }

wide_bytes : Bytes wide
wide_bytes = record { body_bytes = bytes_at_lem wide.tables.body refl; room_bytes = bytes_at_lem wide.room refl }

-- ---- grounds 9 to 12

abbrev Taken : Lending → Type 0
Taken l = Grounds.sources_ground l.formats l.schema l.tables l.sources ≡ 0

narrow_taken : Taken narrow
unfolding Grounds.small_body Grounds.few_sources Grounds.all_within Grounds.all_typed Grounds.all_same Grounds.all_obey Grounds.within_ceilings Grounds.node_fits Grounds.count_fits Grounds.few_buffers Grounds.obeys Tree.ceilings Tree.few_fields Tree.code_of Tree.ids_of Code.code_of Tree.depth Tree.end_of Tree.end_from Tree.below Tree.bare Tree.typed Tree.whole Tree.shape Tree.leaf_shape Tree.keys_shape Tree.values_shape Tree.list_shape Tree.union_shape Tree.run_shape Tree.ends_shape Tree.same_type Tree.same_node Tree.same_formats Tree.same_flag Tree.is_values kind_at item number bit
narrow_taken = by_nodes narrow.formats narrow.schema narrow.tables narrow.sources

wide_taken : Taken wide
unfolding Grounds.small_body Grounds.few_sources Grounds.all_within Grounds.all_typed Grounds.all_same Grounds.all_obey Grounds.within_ceilings Grounds.node_fits Grounds.count_fits Grounds.few_buffers Grounds.obeys Tree.ceilings Tree.few_fields Tree.code_of Tree.ids_of Code.code_of Tree.depth Tree.end_of Tree.end_from Tree.below Tree.bare Tree.typed Tree.whole Tree.shape Tree.leaf_shape Tree.keys_shape Tree.values_shape Tree.list_shape Tree.union_shape Tree.run_shape Tree.ends_shape Tree.same_type Tree.same_node Tree.same_formats Tree.same_flag Tree.is_values kind_at item number bit
wide_taken = by_nodes wide.formats wide.schema wide.tables wide.sources

-- ---- the plan's words for one byte string that keeps nulls

first_part : (plan : List ℕ) → keeps_of plan 0 ≡ 1 → code_of plan 0 < 21 → parts_before plan 0 + validity_parts plan 0 ≡ 1
unfolding parts_before validity_parts copied
first_part plan k c = rw (k, lt-ltb (code_of plan 0) 21 c) refl

record Words (l : Lending) : Type 0 where
  keeps_is : keeps_of (lent_of l).plan 0 ≡ 1
  size_is : (b : ℕ) → size_of (lent_of l).plan l.parts 0 b ≡ size_at l.parts b

words : (l : Lending) → Taken l → keeps_of (lent_of l).plan 0 ≡ 1 → is_string (code_of (lent_of l).plan 0) ≡ true → 1 ≤ nodes_of (lent_of l).plan → Words l
words l ok k c n =
    let low : code_of (lent_of l).plan 0 < 21 = omega (arith, between_both 11 14 (code_of (lent_of l).plan 0) c) in
    let e : part_of (lent_of l).plan 0 ≡ 1 = (stood l.formats l.schema l.tables l.sources ok l.keep l.gaps).numbered.word_is 0 n ∙ first_part (lent_of l).plan k low in
    record { keeps_is = k; size_is = λ b. ap (λ p. size_at l.parts (p + b - 1)) e ∙ ap (size_at l.parts) (let z : 1 + b - 1 ≡ b = omega arith in z) }

narrow_words : Words narrow
unfolding ty_of kind_at Tree.code_of Code.code_of bit
narrow_words =
    let g = given narrow.formats narrow.schema narrow.sources narrow.tables narrow.keep narrow.gaps narrow.parts narrow_bytes.body_bytes narrow_taken in
    let n = (stood narrow.formats narrow.schema narrow.tables narrow.sources narrow_taken narrow.keep narrow.gaps).node_count in
    words narrow narrow_taken g.root_keeps g.worded.3.0 (omega (arith, n))

wide_words : Words wide
unfolding ty_of kind_at Tree.code_of Code.code_of bit
wide_words =
    let g = given wide.formats wide.schema wide.sources wide.tables wide.keep wide.gaps wide.parts wide_bytes.body_bytes wide_taken in
    let n = (stood wide.formats wide.schema wide.tables wide.sources wide_taken wide.keep wide.gaps).node_count in
    words wide wide_taken g.root_keeps g.worded.3.0 (omega (arith, n))

-- ---- 14 does not stand

upto_1 : (Q : ℕ → Type 0) → Q 0 → (i : ℕ) → i < 1 → Q i
upto_1 Q a zero q = a
upto_1 Q a (suc i) q = absurd (omega arith)

upto_3 : (Q : ℕ → Type 0) → Q 0 → Q 1 → Q 2 → (i : ℕ) → i < 3 → Q i
upto_3 Q a b c zero q = a
upto_3 Q a b c (suc zero) q = b
upto_3 Q a b c (suc (suc i)) q = upto_1 (λ j. Q (suc (suc j))) c i (omega arith)

abbrev Lie : Lending → ℕ → ℕ → Type 0
Lie l p q = (p ≡ q → ⊥) → Apart (get_or l.parts (2 * p) 0) (get_or l.parts (2 * p + 1) 0) (get_or l.parts (2 * q) 0) (get_or l.parts (2 * q + 1) 0)

three_lie : (l : Lending) → Lie l 0 1 → Lie l 0 2 → Lie l 1 0 → Lie l 1 2 → Lie l 2 0 → Lie l 2 1 → (p q : ℕ) → p < 3 → q < 3 → Lie l p q
three_lie l a b c d e f p q lp lq =
    upto_3 (λ p. Lie l p q)
    (upto_3 (λ q. Lie l 0 q) (λ z. absurd (z refl)) a b q lq)
    (upto_3 (λ q. Lie l 1 q) c (λ z. absurd (z refl)) d q lq)
    (upto_3 (λ q. Lie l 2 q) e f (λ z. absurd (z refl)) q lq)
    p lp

narrow_lie : PartsLie narrow
unfolding ty_of kind_at Tree.code_of Code.code_of bit
narrow_lie =
    record {
      plan_long = length-replicate {A = ℕ} 872 0;
      counters_long = length-replicate {A = ℕ} 96 0;
      as_many = refl;
      inside = upto_3 (λ p. get_or narrow.parts (2 * p) 0 + get_or narrow.parts (2 * p + 1) 0 ≤ 17) (omega arith) (omega arith) (omega arith);
      apart = three_lie narrow (λ z. before (omega arith)) (λ z. before (omega arith)) (λ z. behind (omega arith)) (λ z. before (omega arith)) (λ z. behind (omega arith)) (λ z. behind (omega arith));
    }

wide_lie : PartsLie wide
unfolding ty_of kind_at Tree.code_of Code.code_of bit
wide_lie =
    record {
      plan_long = length-replicate {A = ℕ} 872 0;
      counters_long = length-replicate {A = ℕ} 96 0;
      as_many = refl;
      inside = upto_3 (λ p. get_or wide.parts (2 * p) 0 + get_or wide.parts (2 * p + 1) 0 ≤ 29) (omega arith) (omega arith) (omega arith);
      apart = three_lie wide (λ z. before (omega arith)) (λ z. before (omega arith)) (λ z. behind (omega arith)) (λ z. before (omega arith)) (λ z. behind (omega arith)) (λ z. behind (omega arith));
    }

-- ---- both openings are accepted, and the copy

narrow_opens : (opening_of narrow).refusal ≡ 0
unfolding ty_of kind_at Tree.code_of Code.code_of bit encode
narrow_opens = not_fourteen narrow narrow_bytes narrow_taken (omega arith) narrow_lie ∙ rw (narrow_words.size_is 0, narrow_words.size_is 1, narrow_words.size_is 2) refl

wide_opens : (opening_of wide).refusal ≡ 0
unfolding ty_of kind_at Tree.code_of Code.code_of bit encode
wide_opens = not_fourteen wide wide_bytes wide_taken (omega arith) wide_lie ∙ rw (wide_words.size_is 0, wide_words.size_is 1, wide_words.size_is 2) refl

-- room for a byte string that keeps nulls
text_room : (plan parts : List ℕ) (w : ℕ) (c : Counts) → keeps_of plan 0 ≡ 1 → leb ((rows_of c + 7) / 8) (size_of plan parts 0 0) ≡ true → leb (suc (rows_of c) * w) (size_of plan parts 0 1) ≡ true
    → leb (bytes_of c) (size_of plan parts 0 2) ≡ true → room_for plan parts (t_plain (string w)) 0 c ≡ true
text_room plan parts w c k a b d = rw (k, a, b, d) refl

-- what is held after the copy
abbrev after_copy : Lending → Counts
after_copy l = after (answer (type_in l) (keeps_in l) (sources_in l) (columns_in l) (copy 0 0 2) (start_counts l.gaps (type_in l))) (start_counts l.gaps (type_in l))

narrow_room : room_for (lent_of narrow).plan narrow.parts (type_in narrow) 0 (after_copy narrow) ≡ true
unfolding ty_of kind_at Tree.code_of Code.code_of bit item number
narrow_room =
    text_room (lent_of narrow).plan narrow.parts 4 (after_copy narrow) narrow_words.keeps_is (ap (leb 1) (narrow_words.size_is 0)) (ap (leb 12) (narrow_words.size_is 1))
    (ap (leb 4) (narrow_words.size_is 2))

wide_room : room_for (lent_of wide).plan wide.parts (type_in wide) 0 (after_copy wide) ≡ true
unfolding ty_of kind_at Tree.code_of Code.code_of bit item number
wide_room =
    text_room (lent_of wide).plan wide.parts 8 (after_copy wide) wide_words.keeps_is (ap (leb 1) (wide_words.size_is 0)) (ap (leb 24) (wide_words.size_is 1))
    (ap (leb 4) (wide_words.size_is 2))

narrow_accepts : accepted_of narrow calls ≡ calls
unfolding ty_of kind_at Tree.code_of Code.code_of bit item number
narrow_accepts = ap {B = List Call} (λ b. elim (guard b 13 (done (after_copy narrow))) [ done c' ↦ calls | stop g ↦ [] ]) narrow_room

wide_accepts : AllAccepted wide calls
unfolding ty_of kind_at Tree.code_of Code.code_of bit item number
wide_accepts = subst (λ b. elim (guard b 13 (done (after_copy wide))) as (λ z. Type 0) [ done c' ↦ Unit {0} | stop g ↦ ⊥ ]) (sym wide_room) tt

-- ---- EVERY PREMISE of `made_again`

abbrev Node : ℕ → ℕ → Type 0
Node s i = NodeWider narrow.formats narrow.schema narrow.tables (Sources.first_of narrow.sources s) wide.formats wide.schema wide.tables (Sources.first_of wide.sources s) i

text_node : Node 0 0
unfolding Tree.code_of Tree.ids_of Code.code_of
text_node =
    record {
      same_children = refl;
      same_dictionary = refl;
      same_flag_lem = λ z v. refl;
      wider_code = strings refl refl (omega arith);
      same_ids_lem = λ u. absurd (let z : false ≡ true = u in let y : ◌≡◌ {A = ℕ} 0 1 = cc in omega arith);
      same_length = refl;
      same_offset = refl;
      same_buffers = λ v. refl;
    }

stored : StoredWider narrow wide
unfolding Tree.code_of Tree.ids_of Code.code_of Tree.same_formats kind_at Grounds.small_body
stored =
    record {
      same_count = refl;
      same_nodes = upto_1 (λ s. Sources.nodes_of narrow.sources s ≡ Sources.nodes_of wide.sources s) refl;
      node_wider = λ s i p. upto_1 (λ s. i < Sources.nodes_of narrow.sources s → Node s i) (upto_1 (Node 0) text_node i) s p;
      alike = λ s i p. upto_1 (λ s. i < 1 → Tree.same_formats wide.formats wide.schema 0 (Sources.first_of wide.sources s) i ≡ true) (upto_1 (λ i. Tree.same_formats wide.formats wide.schema 0 0 i ≡ true) refl i) s p;
      in_body_lem = λ s i p. upto_1
          (λ s.
          i < Sources.nodes_of wide.sources s
          → T (placed (tree_of wide.formats wide.schema (Sources.first_of wide.sources s) (Sources.nodes_of wide.sources s)) (tables_from wide.tables (Sources.first_of wide.sources s)) i))
          (upto_1 (λ i. T (placed (tree_of wide.formats wide.schema 0 1) (tables_from wide.tables 0) i)) tt i) s p;
      small_body_lem = refl;
    }

-- "the same rows .. with only offsets .. stored wider"
pub record Premises (n w : Lending) (os : List Call) : Type 0 where
  pub bytes_n : Bytes n
  pub bytes_w : Bytes w
  pub accepted_n : (opening_of n).refusal ≡ 0
  pub type_wider : Wider (type_in n) (type_in w)
  pub tables_wider : StoredWider n w
  pub again : Again type_wider (sources_in n) (columns_in n) (columns_in w)
  pub same_choice : n.keep ≡ w.keep
  pub same_gaps : n.gaps ≡ w.gaps
  pub small_room : length w.room ≤ Grounds.ceiling
  pub no_13 : (opening_of w).refusal ≡ 13 → ⊥
  pub no_14 : (opening_of w).refusal ≡ 14 → ⊥
  pub calls_no_13 : (i : ℕ) → get_or (grounds_in w (carried_out n os)) i 0 ≡ 13 → ⊥

narrow_carries : carried_out narrow calls ≡ calls
narrow_carries = accepted_is narrow narrow_bytes narrow_opens calls ∙ narrow_accepts

all_zero : (gs : List ℕ) → AllZero gs → No13 gs
all_zero [] h = tt
all_zero (g ∷ gs) h = ((λ e. absurd (let z : g ≡ 0 = cc h in omega (arith, e, z))), all_zero gs (cc h))

pub example : Premises narrow wide calls
unfolding ty_of kind_at Tree.code_of Code.code_of bit item number
example =
    record {
      bytes_n = narrow_bytes;
      bytes_w = wide_bytes;
      accepted_n = narrow_opens;
      type_wider = w_plain (w_string 4 8 (omega arith));
      tables_wider = stored;
      again = record {
        each = upto_1 _
            (record {
              same_len = refl;
              same_off = refl;
              same_valid = bits (3 ∷ []) (3 ∷ []) (omega arith) (λ i q. refl);
              same_body = record {
                same_offsets = entries (omega arith) (record {
                  hold = omega arith;
                  kept = upto_3 (λ i. item 4 (columns_in narrow 0).body.offsets (1 + i) ≡ item 8 (columns_in wide 0).body.offsets (1 + i)) refl refl refl;
                });
                same_chars = refl;
              };
            });
        sharing = tt;
      };
      same_choice = refl;
      same_gaps = refl;
      small_room = omega arith;
      no_13 = λ e. omega (arith, e, wide_opens);
      no_14 = λ e. omega (arith, e, wide_opens);
      calls_no_13 = subst (λ os. (i : ℕ) → get_or (grounds_in wide os) i 0 ≡ 13 → ⊥) (sym narrow_carries) (each_13 (grounds_in wide calls) (all_zero _ ((accepted_zero wide wide_bytes wide_opens calls).1 wide_accepts)));
    }

-- and what they give: "stop" and a null, in both
rows_are : read_all (type_in narrow) (finished_of narrow calls) ≡ bytes (115 ∷ 116 ∷ 111 ∷ 112 ∷ []) ∷ null ∷ []
unfolding ty_of kind_at Tree.code_of Code.code_of bit item number
rows_are = the_book narrow narrow_bytes narrow_opens calls ∙ book_is narrow narrow_bytes narrow_opens calls ∙ ap {B = List Row} (λ b. elim (guard b 13 (done (after_copy narrow))) [ done c' ↦ bytes (115 ∷ 116 ∷ 111 ∷ 112 ∷ []) ∷ null ∷ [] | stop g ↦ [] ]) narrow_room

pub wide_rows_are : read_all (type_in wide) (finished_of wide (carried_out narrow calls)) ≡ bytes (115 ∷ 116 ∷ 111 ∷ 112 ∷ []) ∷ null ∷ []
wide_rows_are =
    let p = example in
    sym (made_again narrow wide p.bytes_n p.bytes_w p.accepted_n p.type_wider p.tables_wider p.again p.same_choice p.same_gaps p.small_room p.no_13 p.no_14 calls p.calls_no_13).1 ∙ rows_are
