-- `opens-again` and `made_again` (proofs/Wider.antt) of columns that are stored wider one by one, as columnar says it (`Wider` of the types, `Again` of the
-- columns). Assumes nothing.
use mathlib.Core.Path.{◌≡◌}
use mathlib.Core.List.{List}
use Prim.Native.Nat.{ℕ, ◌≤◌}
use lib.ListN.{length, get_or, replicate}
use Rattle.columnar.specs.Reading.{read_all}
use Rattle.columnar.specs.Wider.{Wider, Again}
use Rattle.model.specs.Book.{Call}
use Rattle.columns.specs.Grounds.{ceiling}
use Rattle.join.specs.Join.{Lending, Bytes, sources_in, type_in, columns_in, opening_of, grounds_in, finished_of, carried_out}
use Rattle.join.specs.Stored.{StoredWider}
use Rattle.join.specs.Wide.{Wide}
use Rattle.join.proofs.Wide.{from_again}
use Rattle.join.proofs.Wider as wider

-- the room is a body, of at most 2^63 - 1 bytes
module _ (n w : Lending) (bytes_n : Bytes n) (bytes_w : Bytes w) (accepted_n : (opening_of n).refusal ≡ 0) (d : Wider (type_in n) (type_in w)) (stored : StoredWider n w)
    (again : Again d (sources_in n) (columns_in n) (columns_in w)) (same_choice : n.keep ≡ w.keep) (same_gaps : n.gaps ≡ w.gaps) (small : length w.room ≤ ceiling)
    (no_13 : (opening_of w).refusal ≡ 13 → ⊥) (no_14 : (opening_of w).refusal ≡ 14 → ⊥) where
  abbrev wide : Wide (sources_in n) (type_in n) (type_in w) (columns_in n) (columns_in w)
  wide = from_again (sources_in n) d (columns_in n) (columns_in w) again

  -- THE OPENING IS ACCEPTED
  pub opens_again : (opening_of w).refusal ≡ 0
  opens_again = wider.opens_again n w bytes_n bytes_w accepted_n stored wide same_choice same_gaps small no_13 no_14

  -- AND ALL THE ACCEPTED CALLS, each answered 0, with the same rows
  pub made_again : (os : List Call) → ((i : ℕ) → get_or (grounds_in w (carried_out n os)) i 0 ≡ 13 → ⊥)
      → (grounds_in w (carried_out n os) ≡ replicate (length (grounds_in w (carried_out n os))) 0) × (read_all (type_in n) (finished_of n os) ≡ read_all (type_in w) (finished_of w (carried_out n os)))
  made_again = wider.made_again n w bytes_n bytes_w accepted_n stored wide same_choice same_gaps small no_13 no_14
