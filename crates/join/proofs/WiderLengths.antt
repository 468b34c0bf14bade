-- STORING WIDER, step by step: the sources of the wide join are taken, its opening is accepted or 13 stands, and its calls by lengths alone. A narrow join and a
-- wide one as in proofs/Wider.antt. Assumes nothing.
use mathlib.Core.Path.{◌≡◌, refl, sym, ap, ap₂, subst, ◌∙◌}
use mathlib.Core.Bool.{Bool, true, false}
use mathlib.Core.List.{List}
use Prim.Native.Nat.{ℕ, ◌≤◌, ◌<◌}
use lib.ListN.{length}
use native.Mathlib.Omega.{arith}
use Rattle.columnar.specs.Reading.{Source, read_all}
use Rattle.columnar.specs.Wider.{Wider, Again}
use Rattle.columnar.proofs.Wider.{again_sources}
use Rattle.model.specs.Try.{Try, done, stop, then, guard}
use Rattle.model.specs.Opening.{keeps}
use Rattle.model.specs.Grounds.{Counts, start_counts}
use Rattle.model.specs.Transform.{open_data, start}
use Rattle.model.specs.Book.{Call}
use Rattle.model.proofs.WiderAsks.{start_counts_wider}
use Rattle.model.proofs.WiderAnswers.{keeps_wider}
use Rattle.model.proofs.WiderOpening.{opening_wider}
use Rattle.columns.specs.Grounds.{ceiling}
use Rattle.columns.proofs.Answers.{sources_rules}
use Rattle.array_data.specs.Sources.{first_of, nodes_of}
use Rattle.array_data.specs.Typed.{tables_from}
use Rattle.refinement.proofs.plan_is_type.OneTree.{same_column}
use Rattle.refinement.specs.orders.Counted.{book_room, AllAcceptedRoom, RoomEnough}
use Rattle.refinement.proofs.orders.Booked.{ground_of}
use Rattle.refinement.proofs.orders.WiderRoom.{wide_room}
use Rattle.refinement.specs.opening.Open.{room_placed}
use Rattle.refinement.specs.opening.Fits.{open_fits}
use Rattle.refinement.proofs.opening.Taken.{sources_of}
use Rattle.refinement.proofs.opening.Stay.{open_model}
use Rattle.refinement.proofs.opening.Opened.{opening_ground}
use Rattle.join.specs.Join.{Lending, Bytes, sources_in, type_in, columns_in, keeps_in, opening_of, lent_of, grounds_in, finished_of, book_of, accepted_of, AllAccepted, Enough}
use Rattle.join.specs.Wide.{Lendable}
use Rattle.join.proofs.Opens.{runs, sources_answer}
use Rattle.join.proofs.Answered.{AllZero, accepted_zero}
use Rattle.join.proofs.Lengths.{book_is}
use Rattle.join.proofs.Demand3.{the_book}

-- ---- THE OPENING of the wide join: none of 9 to 12, 6 and 8 stands; where 14 does not stand, it is accepted, or 13 stands

pub data OpensWide (g : ℕ) : Type 0 where
  opens_wide : g ≡ 0 → OpensWide g
  no_room : g ≡ 13 → OpensWide g

opened_first : {A : Type 0} (a : Try (Unit {0})) (s d : A) → then a (λ x. done s) ≡ done d → a ≡ done tt
opened_first (done x) s d e = refl
opened_first (stop g) s d e = absurd (let z : ◌≡◌ {A = ℕ} 0 1 = cc e in omega arith)

tested_only : {A : Type 0} (a : Try (Unit {0})) (b : Bool) (s : A) → a ≡ done tt → OpensWide (ground_of (then a (λ y. guard b 13 (done s))))
tested_only (done x) true s e = opens_wide refl
tested_only (done x) false s e = no_room refl
tested_only (stop g) b s e = absurd (let z : ◌≡◌ {A = ℕ} 0 1 = cc e in omega arith)

module _ (n w : Lending) (bytes_n : Bytes n) (bytes_w : Bytes w) (accepted_n : (opening_of n).refusal ≡ 0) (d : Wider (type_in n) (type_in w)) (same_count : sources_in n ≡ sources_in w)
    (again : Again d (sources_in n) (columns_in n) (columns_in w)) where
  -- the wide columns are sources
  pub wide_obey : (s : ℕ) → s < sources_in w → Source (type_in w) (columns_in w s)
  wide_obey s l =
      again_sources d (sources_in n) (columns_in n) (columns_in w) again
      (sources_of n.formats n.schema n.sources n.tables n.keep n.gaps (runs n bytes_n accepted_n).accepted).obey s (omega arith)

  -- THE WIDE SOURCES ARE TAKEN: 12 does not stand where 9, 10 and 11 do not and their buffers lie in the body
  pub wide_sources : Lendable w → sources_answer w ≡ 0
  wide_sources lends =
      sources_rules w.formats w.schema w.tables w.sources lends.in_limits lends.of_types lends.alike (λ s l i q. lends.in_body_lem s i l q)
      (λ s l e.
      subst (Source (type_in w))
      (same_column w.formats w.schema (first_of w.sources 0) (nodes_of w.sources 0) (first_of w.sources s) (nodes_of w.sources s) e (tables_from w.tables (first_of w.sources s)) (type_in w) 0)
      (wide_obey s l))

  module _ (taken-w : sources_answer w ≡ 0) where
    wide_done : open_data (type_in w) (sources_in w) (λ j. (columns_in w j).body) ≡ done tt
    wide_done =
        let o = runs n bytes_n accepted_n in
        let given = sources_of n.formats n.schema n.sources n.tables n.keep n.gaps o.accepted in
        let given-w = sources_of w.formats w.schema w.sources w.tables w.keep w.gaps taken-w in
        let narrow = open_model (lent_of n).plan n.parts n.gaps (type_in n) n.keep (sources_in n) (columns_in n) (start n.gaps (type_in n) n.keep (sources_in n) (columns_in n)) o.model in
        let q = opening_wider d given.formed given-w.formed (sources_in n) (columns_in n) (columns_in w) again given.obey n.gaps n.keep (start n.gaps (type_in n) n.keep (sources_in n) (columns_in n)) narrow in
        subst (λ k. open_data (type_in w) k (λ j. (columns_in w j).body) ≡ done tt) same_count (opened_first (open_data (type_in w) (sources_in n) (λ j. (columns_in w j).body)) _ _ q)

    -- IT IS ACCEPTED, or 13 stands: a room of at most 2^63 - 1 bytes, where 14 does not stand
    pub wide_opens : length w.room ≤ ceiling → room_placed w.formats w.schema w.sources w.tables w.keep w.gaps w.parts w.plan w.counters w.room ≡ true
        → OpensWide (opening_of w).refusal
    wide_opens small placed =
        subst OpensWide (sym (opening_ground w.formats w.schema w.sources w.tables w.keep w.gaps w.parts w.plan w.counters w.room bytes_w.body_bytes bytes_w.room_bytes small taken-w placed))
        (tested_only (open_data (type_in w) (sources_in w) (λ j. (columns_in w j).body)) (open_fits (lent_of w).plan w.parts (type_in w) 0 (sources_in w) (λ j. (columns_in w j).body) (start w.gaps (type_in w) w.keep (sources_in w) (columns_in w))) (start w.gaps (type_in w) w.keep (sources_in w) (columns_in w)) wide_done)

-- ---- THE CALLS

-- n narrow, w wide; both openings are accepted
module _ (n w : Lending) (bytes_n : Bytes n) (bytes_w : Bytes w) (accepted_n : (opening_of n).refusal ≡ 0) (accepted-w : (opening_of w).refusal ≡ 0)
    (d : Wider (type_in n) (type_in w)) (same_count : sources_in n ≡ sources_in w) (same_choice : n.keep ≡ w.keep) (same_gaps : n.gaps ≡ w.gaps) (again : Again d (sources_in n) (columns_in n) (columns_in w)) where
  same_keeps : keeps_in n ≡ keeps_in w
  same_keeps = keeps_wider n.keep (sources_in n) (columns_in n) (columns_in w) again.each ∙ ap₂ (λ u k. keeps u k (columns_in w)) same_choice same_count

  start_wide : start_counts n.gaps (type_in n) ≡ start_counts w.gaps (type_in w)
  start_wide = start_counts_wider n.gaps d ∙ ap (λ g. start_counts g (type_in w)) same_gaps

  pub moved : (P : Bool → ℕ → Counts → Type 0) → P (keeps_in n) (sources_in n) (start_counts n.gaps (type_in n)) → P (keeps_in w) (sources_in w) (start_counts w.gaps (type_in w))
  moved P h = subst (P (keeps_in w) (sources_in w)) start_wide (subst (λ k. P (keeps_in w) k (start_counts n.gaps (type_in n))) same_count (subst (λ b. P b (sources_in n) (start_counts n.gaps (type_in n))) same_keeps h))

  pub moved_back : (P : Bool → ℕ → Counts → Type 0) → P (keeps_in w) (sources_in w) (start_counts w.gaps (type_in w)) → P (keeps_in n) (sources_in n) (start_counts n.gaps (type_in n))
  moved_back P h =
      subst (λ b. P b (sources_in n) (start_counts n.gaps (type_in n))) (sym same_keeps) (subst (λ k. P (keeps_in w) k (start_counts n.gaps (type_in n))) (sym same_count) (subst (P (keeps_in w) (sources_in w)) (sym start_wide) h))

  -- the accepted calls of a list, made again on the wide join
  pub record Wide (os : List Call) : Type 0 where
    pub all_accepted : AllAccepted w (accepted_of n os)
    pub all_zero : AllZero (grounds_in w (accepted_of n os))  -- what the entry points answer
    pub same_rows : read_all (type_in n) (finished_of n os) ≡ read_all (type_in w) (finished_of w (accepted_of n os))

  -- STORING WIDER CHANGES NO ROW, where room is enough
  pub stored_wider : (os : List Call) → Enough w (accepted_of n os) → Wide os
  stored_wider os enough =
      let obey = (sources_of n.formats n.schema n.sources n.tables n.keep n.gaps (runs n bytes_n accepted_n).accepted).obey in
      let r = wide_room (lent_of n).plan n.parts (lent_of w).plan w.parts d (sources_in n) (columns_in n) (columns_in w) again obey (keeps_in n) os (start_counts n.gaps (type_in n))
      (moved_back (λ b k c. RoomEnough (lent_of w).plan w.parts (type_in w) b k (columns_in w) (accepted_of n os) c) enough) in
      let all = moved (λ b k c. AllAcceptedRoom (lent_of w).plan w.parts (type_in w) b k (columns_in w) (accepted_of n os) c) r.all_accepted in
      record {
        all_accepted = all;
        all_zero = (accepted_zero w bytes_w accepted-w (accepted_of n os)).1 all;
        same_rows = the_book n bytes_n accepted_n os
            ∙ book_is n bytes_n accepted_n os
            ∙ moved (λ b k c. book_of n os ≡ book_room (lent_of w).plan w.parts (type_in w) b k (columns_in w) (accepted_of n os) c) r.same_book
            ∙ sym (the_book w bytes_w accepted-w (accepted_of n os) ∙ book_is w bytes_w accepted-w (accepted_of n os));
      }

pub opens_then : (g : ℕ) → OpensWide g → (g ≡ 13 → ⊥) → g ≡ 0
opens_then g (opens_wide e) h = e
opens_then g (no_room e) h = absurd (h e)
