-- DEMAND 3, last sentence: storing wider changes no row. Assumes nothing.
-- A narrow join and a wide one: the same rows with offsets and sizes, run ends or keys stored wider, alike in every source, and the same sharing of dictionaries
-- (specs/Wide.antt), in tables that describe them (specs/Stored.antt), the same choices at the opening.
use mathlib.Core.Path.{◌≡◌}
use mathlib.Core.List.{List}
use Prim.Native.Nat.{ℕ, ◌≤◌}
use native.Mathlib.Omega.{arith}
use lib.ListN.{length, get_or, replicate}
use Rattle.columnar.specs.Reading.{read_all}
use Rattle.model.specs.Book.{Call}
use Rattle.columns.specs.Grounds.{ceiling}
use Rattle.join.specs.Join.{Lending, Bytes, sources_in, type_in, columns_in, opening_of, grounds_in, finished_of, carried_out}
use Rattle.join.specs.Stored.{StoredWider}
use Rattle.join.specs.Wide.{Wide, Lendable}
use Rattle.join.proofs.Opens.{runs, sources_answer}
use Rattle.join.proofs.Stored.{sources_taken}
use Rattle.join.proofs.Wide.{to_wider, to_again}
use Rattle.join.proofs.WiderLengths.{wide_obey}
use Rattle.join.proofs.WiderLent as lent

-- "room is enough where neither 13 nor 14 stands"; the room is a body, of at most 2^63 - 1 bytes
module _ (n w : Lending) (bytes_n : Bytes n) (bytes_w : Bytes w) (accepted_n : (opening_of n).refusal ≡ 0) (stored : StoredWider n w)
    (wide : Wide (sources_in n) (type_in n) (type_in w) (columns_in n) (columns_in w)) (same_choice : n.keep ≡ w.keep) (same_gaps : n.gaps ≡ w.gaps)
    (small : length w.room ≤ ceiling) (no_13 : (opening_of w).refusal ≡ 13 → ⊥) (no_14 : (opening_of w).refusal ≡ 14 → ⊥) where
  -- neither 9, 10, 11 nor 12 stands of the wide sources
  taken : sources_answer w ≡ 0
  taken = sources_taken n w stored (runs n bytes_n accepted_n).accepted (wide_obey n w bytes_n bytes_w accepted_n (to_wider wide) stored.same_count (to_again wide))

  lends : Lendable w
  lends = record { in_limits = λ e. omega (arith, taken, e); of_types = λ e. omega (arith, taken, e); alike = λ e. omega (arith, taken, e); in_body_lem = stored.in_body_lem }

  -- THE OPENING IS ACCEPTED
  pub opens_again : (opening_of w).refusal ≡ 0
  opens_again = lent.opens_again n w bytes_n bytes_w accepted_n stored.same_count wide lends same_choice same_gaps small no_13 no_14

  -- AND ALL THE ACCEPTED CALLS, each answered 0, with the same rows
  pub made_again : (os : List Call) → ((i : ℕ) → get_or (grounds_in w (carried_out n os)) i 0 ≡ 13 → ⊥)
      → (grounds_in w (carried_out n os) ≡ replicate (length (grounds_in w (carried_out n os))) 0) × (read_all (type_in n) (finished_of n os) ≡ read_all (type_in w) (finished_of w (carried_out n os)))
  made_again = lent.made_again n w bytes_n bytes_w accepted_n stored.same_count wide lends same_choice same_gaps small no_13 no_14
