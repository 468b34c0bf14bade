-- Storing wider (proofs/Wider.antt) where the wide sources are lendable, however their tables stand beside the narrow ones'. Assumes nothing.
use mathlib.Core.Path.{◌≡◌, refl, sym, subst}
use mathlib.Core.Bool.{Bool, true, false}
use mathlib.Core.List.{List}
use Prim.Native.Nat.{ℕ, ◌≤◌}
use lib.ListN.{length, get_or, replicate}
use borrow.Author.Tests.{le-leb, eq-eqb}
use Rattle.columnar.specs.Reading.{read_all}
use Rattle.columnar.specs.Wider.{Again}
use Rattle.model.specs.Book.{Call}
use Rattle.columns.specs.Grounds.{ceiling}
use Rattle.join.specs.Join.{Lending, Bytes, sources_in, type_in, columns_in, opening_of, grounds_in, finished_of, carried_out, accepted_of}
use Rattle.join.specs.Wide.{Wide, Lendable}
use Rattle.join.proofs.Opens.{sources_answer, placed, parts_next}
use Rattle.join.proofs.Answered.{none_13, enough_room}
use Rattle.join.proofs.Lengths.{accepted_is}
use Rattle.join.proofs.Wide.{to_wider, to_again}
use Rattle.join.proofs.WiderLengths.{wide_sources, wide_opens, opens_then, stored_wider}

-- "room is enough where neither 13 nor 14 stands"; the room is a body, of at most 2^63 - 1 bytes
module _ (n w : Lending) (bytes_n : Bytes n) (bytes_w : Bytes w) (accepted_n : (opening_of n).refusal ≡ 0) (same_count : sources_in n ≡ sources_in w)
    (wide : Wide (sources_in n) (type_in n) (type_in w) (columns_in n) (columns_in w)) (lends : Lendable w) (same_choice : n.keep ≡ w.keep) (same_gaps : n.gaps ≡ w.gaps)
    (small : length w.room ≤ ceiling) (no_13 : (opening_of w).refusal ≡ 13 → ⊥) (no_14 : (opening_of w).refusal ≡ 14 → ⊥) where
  abbrev again : Again (to_wider wide) (sources_in n) (columns_in n) (columns_in w)
  again = to_again wide

  taken : sources_answer w ≡ 0
  taken = wide_sources n w bytes_n bytes_w accepted_n (to_wider wide) same_count again lends

  -- THE OPENING IS ACCEPTED
  pub opens_again : (opening_of w).refusal ≡ 0
  opens_again = go (placed w) refl
    where
      go : (b : Bool) → placed w ≡ b → (opening_of w).refusal ≡ 0
      go true e = opens_then (opening_of w).refusal (wide_opens n w bytes_n bytes_w accepted_n (to_wider wide) same_count again taken small e) no_13
      go false e = absurd (no_14 (parts_next w (le-leb (length w.room) ceiling small) (eq-eqb _ 0 taken) e))

  -- AND ALL THE ACCEPTED CALLS, each answered 0, with the same rows
  pub made_again : (os : List Call) → ((i : ℕ) → get_or (grounds_in w (carried_out n os)) i 0 ≡ 13 → ⊥)
      → (grounds_in w (carried_out n os) ≡ replicate (length (grounds_in w (carried_out n os))) 0) × (read_all (type_in n) (finished_of n os) ≡ read_all (type_in w) (finished_of w (carried_out n os)))
  made_again os room =
      let is = accepted_is n bytes_n accepted_n os in
      let r =
      stored_wider n w bytes_n bytes_w accepted_n opens_again (to_wider wide) same_count same_choice same_gaps again os
      ((enough_room w bytes_w opens_again (accepted_of n os)).0 (none_13 (grounds_in w (accepted_of n os)) (subst (λ calls. (i : ℕ) → get_or (grounds_in w calls) i 0 ≡ 13 → ⊥) is room))) in
      subst (λ calls. (grounds_in w calls ≡ replicate (length (grounds_in w calls)) 0) × (read_all (type_in n) (finished_of n os) ≡ read_all (type_in w) (finished_of w calls))) (sym is)
      (r.all_zero, r.same_rows)
