-- THE CONVERTER ON LENT MEMORY: which ground it answers, and what an accepted call leaves. Assumes nothing.
use mathlib.Core.Path.{◌≡◌, refl, ap, ◌∙◌}
use mathlib.Core.Bool.{Bool, true, false, cond}
use mathlib.Core.List.{List}
use Prim.Native.Nat.{ℕ}
use native.Mathlib.Omega.{arith}
use lib.ListN.{length}
use lib.Dec.{T}
use Rattle.columnar.specs.Types.{Ty}
use Rattle.columnar.specs.Reading.{Column, read_all}
use Rattle.array_data.specs.Tables.{Tables}
use Rattle.array_data.specs.Typed.{tables_from, column_of, source_rule}
use Rattle.array_data.specs.type_tree.Lent.{tree_of, type_of}
use Rattle.model.specs.Try.{stop}
use Rattle.refinement.specs.log_in_room.Room.{AllBelow}
use Rattle.refinement.specs.opening.Open.{Opening}
use Rattle.refinement.specs.finishing.Shows.{finished_tables, Bodied}
use Rattle.columns.specs.Grounds.{small_body, column_ground}
use Rattle.anew.specs.widths.Widths.{Widths}
use Rattle.anew.proofs.widths.Grounds.{refused_with}
use Rattle.anew.specs.widths.Fitting.{AllFit, numbers, converted}
use Rattle.anew.specs.Anew.{or_else, ahead, room_ground}
use Rattle.anew.proofs.Laws.{or_zero, or_first, anew_accepted, anew_ground}
use Rattle.anew.proofs.Result.{lent_for}
use Rattle.width_walks.specs.target_rules.Target.{is_target}
use Rattle.width_walks.proofs.target_rules.Rules.{target_is}
use Rattle.width_walks.specs.Call.{target_ground, planned, walked, convert}
use Rattle.width_walks.proofs.Answer.{widths, some_ground, walk_ground, walk_none, same_rows, lent_again}

module _ (formats schema : List ℕ) (x : Tables) (first n target tn : ℕ) where
  passing : is_target formats schema first n target tn ≡ true → target_ground formats schema x first n target tn ≡ 0
  unfolding target_ground
  passing h = rw h refl

  failing : is_target formats schema first n target tn ≡ false → target_ground formats schema x first n target tn ≡ 10
  unfolding target_ground
  failing h = rw h refl

  passed : target_ground formats schema x first n target tn ≡ 0 → is_target formats schema first n target tn ≡ true
  unfolding target_ground
  passed e = go (is_target formats schema first n target tn) refl e
    where
      go : (b : Bool) → is_target formats schema first n target tn ≡ b → ◌≡◌ {A = ℕ} (cond b 0 10) 0 → is_target formats schema first n target tn ≡ true
      go true p q = p
      go false p q = absurd (omega arith)

  -- A TARGET OF OTHER SIZE DOES NOT PASS
  pub other_size : (n ≡ tn → ⊥) → is_target formats schema first n target tn ≡ false
  other_size e = go (is_target formats schema first n target tn) refl
    where
      go : (b : Bool) → is_target formats schema first n target tn ≡ b → b ≡ false
      go true p = absurd (e (target_is formats schema first n target tn p).same_size)
      go false p = refl

  -- AN ACCEPTED CALL has a column that is well formed, and a target that passes
  pub only_good : (parts plan counters room : List ℕ) → (convert formats schema x first n target tn parts plan counters room).refusal ≡ 0
      → (column_ground formats schema x first n ≡ 0) × (is_target formats schema first n target tn ≡ true) × (n ≡ tn)
  only_good parts plan counters room e =
      let a =
      anew_accepted formats schema x first n (target_ground formats schema x first n target tn) (planned formats schema x first n target tn) (walked formats schema x first n target tn) parts plan counters room e in
      (a.column_good, passed a.own_none, (target_is formats schema first n target tn (passed a.own_none)).same_size)

  module _ (parts plan counters room : List ℕ) (small : small_body room ≡ true) where
    abbrev refusal : ℕ
    refusal = (convert formats schema x first n target tn parts plan counters room).refusal

    abbrev of_room : ℕ
    of_room = room_ground (planned formats schema x first n target tn) (walked formats schema x first n target tn).counters parts (length plan) (length counters) (length room)

    abbrev walk_answer : ℕ
    walk_answer = (walked formats schema x first n target tn).ans

    ground_is : refusal ≡ or_else (or_else (column_ground formats schema x first n) (or_else (target_ground formats schema x first n target tn) walk_answer)) of_room
    unfolding ahead
    ground_is = anew_ground formats schema x first n (target_ground formats schema x first n target tn) (planned formats schema x first n target tn) (walked formats schema x first n target tn) parts plan counters room small

    -- A MALFORMED COLUMN is met before all else
    pub column_first : (column_ground formats schema x first n ≡ 0 → ⊥) → refusal ≡ column_ground formats schema x first n
    column_first e =
        let a = or_first (column_ground formats schema x first n) (or_else (target_ground formats schema x first n target tn) walk_answer) e in
        ground_is ∙ ap (λ g. or_else g of_room) a ∙ or_first (column_ground formats schema x first n) of_room e

    module _ (ok : column_ground formats schema x first n ≡ 0) where
      behind_column : refusal ≡ or_else (or_else (target_ground formats schema x first n target tn) walk_answer) of_room
      behind_column = ground_is ∙ ap (λ g. or_else g of_room) (or_zero _ _ ok)

      -- THEN 10 EXACTLY WHERE THE TARGET DIFFERS IN MORE THAN WIDTHS
      pub target_next : is_target formats schema first n target tn ≡ false → refusal ≡ 10
      target_next h = behind_column ∙ ap (λ g. or_else (or_else g walk_answer) of_room) (failing h)

      behind_target : is_target formats schema first n target tn ≡ true → refusal ≡ or_else walk_answer of_room
      behind_target h = behind_column ∙ ap (λ g. or_else g of_room) (or_zero _ _ (passing h))

-- ---- a column that is accepted, and a target that passes: it has as many nodes (target_is)

module _ (formats schema : List ℕ) (x : Tables) (first n target : ℕ) (parts plan counters room : List ℕ) (ok : column_ground formats schema x first n ≡ 0) (h : is_target formats schema first n target n ≡ true)
    (bytes : AllBelow 256 x.body) where
  abbrev from : Ty
  from = type_of formats schema first n

  abbrev to : Ty
  to = type_of formats schema target n

  abbrev here : Column from
  here = column_of (tree_of formats schema first n) (tables_from x first) from 0

  abbrev differs : Widths from to
  differs = widths formats schema x first n target parts ok h bytes

  abbrev answer : Opening
  answer = convert formats schema x first n target n parts plan counters room

  abbrev room_answer : ℕ
  room_answer = room_ground (planned formats schema x first n target n) (walked formats schema x first n target n).counters parts (length plan) (length counters) (length room)

  -- THEN 6, 7 OR 8, THE CONVERTER'S
  pub number_next : small_body room ≡ true → (g : ℕ) → converted from to differs here ≡ stop g → answer.refusal ≡ g
  number_next small g e =
      behind_target formats schema x first n target n parts plan counters room small ok h ∙ ap (λ a. or_else a room_answer) (walk_ground formats schema x first n target parts ok h bytes g e)
      ∙ or_first g room_answer (some_ground formats schema x first n target parts ok h bytes g (refused_with from to differs here g e))

  -- LAST 14 OR 13: WITH ROOM ENOUGH IT IS ACCEPTED WHERE EVERY NUMBER FITS
  pub room_last : small_body room ≡ true → AllFit (numbers from to differs here) → answer.refusal ≡ room_answer
  room_last small fit =
      behind_target formats schema x first n target n parts plan counters room small ok h ∙ ap (λ a. or_else a room_answer) (walk_none formats schema x first n target parts ok h bytes fit)

  module _ (accepted : answer.refusal ≡ 0) (room_bytes : AllBelow 256 room) (base : ℕ) (body : List ℕ) (bodied : Bodied body (lent_for x (planned formats schema x first n target n) parts first n) answer.room base) where
    abbrev result : Tables
    result = finished_tables (lent_for x (planned formats schema x first n target n) parts first n) x.buffers answer.counters answer.room base body

    -- WHAT AN ACCEPTED CALL LEAVES, finished, reads as the column that it was given, and can be lent again
    pub convert_reads : (read_all to (column_of (tree_of formats schema target n) result to 0) ≡ read_all from here) × T (source_rule (tree_of formats schema target n) result)
    convert_reads = (
      same_rows formats schema x first n target parts ok h bytes (target_ground formats schema x first n target n) plan counters room room_bytes accepted base body bodied,
      lent_again formats schema x first n target parts ok h bytes (target_ground formats schema x first n target n) plan counters room room_bytes accepted base body bodied,
    )
