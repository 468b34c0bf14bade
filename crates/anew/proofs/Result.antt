-- AN ACCEPTED CALL: what its walk fills stands in the room, and is finished as any join is; nothing else of the room is written.
-- Assumes nothing.
use mathlib.Core.Path.{◌≡◌, refl, sym, ap, subst}
use mathlib.Core.Logic.{◌⊎◌}
use mathlib.Core.Bool.{Bool, true, false}
use mathlib.Core.List.{List, [], ◌∷◌}
use Prim.Native.Nat.{ℕ, suc, ◌+◌, ◌*◌, ◌^◌, ◌≤◌, ◌<◌}
use native.Mathlib.Omega.{arith}
use lib.ListN.{length}
use lib.Dec.{T}
use Rattle.columnar.specs.Types.{Ty}
use Rattle.columnar.specs.Reading.{Column, read_all, Source}
use Rattle.schema.specs.Tree.{ceilings, typed}
use Rattle.array_data.specs.Tables.{Tables, length_of, offset_of, place}
use Rattle.array_data.specs.Typed.{Tree, column_of, tables_from, source_rule}
use Rattle.array_data.specs.type_tree.Lent.{tree_of, type_of}
use Rattle.bits.specs.Bits.{bits_at}
use Rattle.walk.specs.State.{code_of}
use Rattle.walk.specs.Log.{put, mask, amend, Log, Out, start_of, apply}
use Rattle.refinement.specs.walk_is_model.Memory.{Memory, noted, after, AllInPlace}
use Rattle.refinement.proofs.walk_is_model.Goes.{Quiet}
use Rattle.refinement.specs.log_in_room.Room.{AllBelow, HasBits, NoneOver, Placed, Lies, Fits, Outside, AllUsed}
use Rattle.refinement.proofs.log_in_room.Applied.{grows_at, room_lies, room_long, room_else}
use Rattle.columns.specs.Grounds.{ceiling, column_ground}
use Rattle.plan.specs.parts.Parts.{nodes_of, needed, parts_within, Used}
use Rattle.refinement.specs.orders.Order.{Lent}
use Rattle.refinement.specs.orders.Written.{OnlyUsed}
use Rattle.refinement.specs.opening.Open.{Opening}
use Rattle.refinement.proofs.opening.Zeros.{empty}
use Rattle.refinement.specs.finishing.Finish.{null_table, buffers_before, finishing}
use Rattle.refinement.specs.finishing.Shows.{Shows, Counts, finished_tables, Bodied}
use Rattle.anew.specs.Anew.{anew}
use Rattle.anew.specs.ResultPlan.{plan_anew}
use Rattle.anew.specs.Stood.{Stood}
use Rattle.anew.proofs.Laws.{Accepted, anew_accepted}
use Rattle.anew.proofs.Standing.{TypePlan, Standing}
use Rattle.anew.proofs.Planted.{nodes_is, stands, placed_well, type_plan}
use Rattle.anew.proofs.Bounds.{all_exact, all_fit}
use Rattle.anew.proofs.Shown.{stood_shows, stood_nulls}
use Rattle.anew.proofs.Accepting.{finished, stood_accepted}
use Rattle.anew.proofs.Again.{stood_reads, stood_again}
use Rattle.anew.proofs.Lending.{accepted_again, starts_low, names_few}

-- what finishing is given after a call on the column of n nodes from node `first` on
abbrev pub lent_for : Tables → List ℕ → List ℕ → ℕ → ℕ → Lent
lent_for x plan parts first n = record { plan = plan; parts = parts; sources = first ∷ n ∷ []; lengths = x.lengths; places = x.places; body = x.body }

-- WHAT EACH CALL PROVES OF ITS WALK: it writes buffers that there are, each write where its buffer ends, and what it leaves is the column
pub record Filled (x : Lent) (buffers : List ℕ) (t : Ty) (walk : Out) (column : Column t) : Type 0 where
  pub used : AllUsed (Used x.plan) walk.log
  pub in_place : AllInPlace walk.log empty
  pub long : length walk.counters ≡ 96
  pub stood : Stood x buffers walk.counters (after walk.log empty) t 0 column
  pub good : Source t column

-- by a walk that is done, as its steps are proved (refinement/proofs/walk_is_model/Goes.antt)
pub filled_by : (x : Lent) (buffers : List ℕ) (t : Ty) (walk : Out) (column : Column t) → Quiet empty (λ c μ. (length c ≡ 96) × Stood x buffers c μ t 0 column) walk → AllUsed (Used x.plan) walk.log
    → Source t column → Filled x buffers t walk column
filled_by x buffers t walk column q u s = record { used = u; in_place = q.in_place; long = q.leaves.0; stood = q.leaves.1; good = s }

no_bits : (start : ℕ) (room : List ℕ) → HasBits start [] room
unfolding bits_at
no_bits start room = record { run = refl; rest = λ p l q. absurd (omega arith) }

-- any room holds a memory of nothing
nothing_lies : (plan parts : List ℕ) (U : ℕ → ℕ → Type 0) (room : List ℕ) → AllBelow 256 room → Lies plan parts U room empty
nothing_lies plan parts U room h = record { are_bytes = h; bytes_lie = λ i b u l. refl; bits_lie = λ i u. no_bits _ room }

-- a byte in no buffer that there is at the end is none that is written over
none_over : (plan parts : List ℕ) (U : ℕ → ℕ → Type 0) (l : Log) (μ : Memory) (p : ℕ) → AllInPlace l μ → AllUsed U l
    → ((i b : ℕ) → U i b → 1 ≤ b → start_of plan parts i b ≤ p → p < start_of plan parts i b + length ((after l μ).at i b) → ⊥) → NoneOver plan parts l p
unfolding AllInPlace AllUsed NoneOver after
none_over plan parts U [] μ p q u h = tt
none_over plan parts U (put i b o bs ∷ l) μ p q u h = (tt, none_over plan parts U l (noted (put i b o bs) μ) p q.1 u.1 h)
none_over plan parts U (mask i o vs ∷ l) μ p q u h = (tt, none_over plan parts U l (noted (mask i o vs) μ) p q.1 u.1 h)
none_over plan parts U (amend i b o bs ∷ l) μ p q u h =
    let e : o + length bs ≡ length (μ.at i b) = q.0 in
    (λ x y. h i b u.0.0 u.0.1 (omega arith) (omega (arith, grows_at (amend i b o bs ∷ l) μ q i b)), none_over plan parts U l (noted (amend i b o bs) μ) p q.1 u.1 h)

module _ (formats schema : List ℕ) (x : Tables) (first n own target tn : ℕ) (keep : ℕ → Bool) (joined : Bool) (keptFrom : ℕ) (walk : Out) (parts plan counters room : List ℕ)
    (t : typed formats schema target tn ≡ true) (c : ceilings formats schema target tn ≡ true) where
  -- the plan of the result, its type, and what finishing is given
  abbrev made : List ℕ
  made = plan_anew formats schema target tn keep joined keptFrom

  abbrev type : Ty
  type = type_of formats schema target tn

  abbrev tree : Tree
  tree = tree_of formats schema target tn

  abbrev lent : Lent
  lent = lent_for x made parts first n

  abbrev answer : Opening
  answer = anew formats schema x first n own made walk parts plan counters room

  module _ (ends : (i : ℕ) → suc i < tn → code_of made i ≡ 23 → keep (suc i) ≡ false) (column : Column type) (filled : Filled lent x.buffers type walk column) (room_bytes : AllBelow 256 room)
      (ok : answer.refusal ≡ 0) where
    passed : Accepted formats schema x first n own made walk parts plan counters room
    passed = anew_accepted formats schema x first n own made walk parts plan counters room ok

    words : TypePlan made tree type
    words = type_plan formats schema target tn keep joined keptFrom t c ends

    abbrev memory : Memory
    memory = after walk.log empty

    abbrev after_room : List ℕ
    after_room = apply made parts walk.log room

    well : Placed made parts (Used made) (length room)
    well = placed_well formats schema target tn keep joined keptFrom t c ends parts room passed.small passed.placed

    fitting : Fits made parts (Used made) memory
    fitting = all_fit lent x.buffers tree type column walk.counters memory words filled.stood passed.holds

    lies_first : Lies made parts (Used made) room empty
    lies_first = nothing_lies made parts (Used made) room room_bytes

    same_long : length after_room ≡ length room
    same_long = room_long made parts (Used made) walk.log room empty well lies_first filled.in_place filled.used fitting

    stands_made : Standing lent x.buffers tree type column walk.counters after_room memory
    stands_made =
        record {
          of_type = words;
          stood = filled.stood;
          long = filled.long;
          lies = room_lies made parts (Used made) walk.log room empty well lies_first filled.in_place filled.used fitting;
          placed = subst (Placed made parts (Used made)) (sym same_long) well;
          within = subst (λ r. parts_within made parts r ≡ true) (sym same_long) ((stands formats schema target tn keep joined keptFrom t c ends).within parts (length room) passed.placed);
          enough = passed.holds;
        }

    -- WHAT AN ACCEPTED CALL LEAVES is what finishing is given
    pub anew_standing : Standing lent x.buffers tree type column answer.counters answer.room memory
    anew_standing = subst (λ o. Standing lent x.buffers tree type column o.counters o.room memory) (sym passed.answer_is) stands_made

    -- ---- what is written

    outside : (p : ℕ) → ((i b : ℕ) → Used made i b → start_of made parts i b ≤ p → p < start_of made parts i b + needed made walk.counters i b → ⊥) → Outside made parts (Used made) walk.log empty memory p
    outside p h =
        let e = all_exact lent x.buffers tree type column walk.counters memory words filled.stood in
        let f : (i b : ℕ) → Used made i b → 1 ≤ b → start_of made parts i b ≤ p → p < start_of made parts i b + length (memory.at i b) → ⊥ =
        λ i b u l y z. h i b u y (omega (arith, (e i b u).bytes_are l)) in
        record {
          no_bytes = λ i b u l y z. f i b u l (omega arith) z;
          no_bits = λ i u s y z. h i 0 u (omega arith) (omega (arith, (e i 0 u).bits_are refl));
          not_over = none_over made parts (Used made) walk.log empty p filled.in_place filled.used f;
        }

    only_made : OnlyUsed made parts room walk.counters after_room
    only_made =
        record {
          same_length = same_long;
          other_bytes = λ p h. room_else made parts (Used made) walk.log room empty well lies_first filled.in_place filled.used fitting p (outside p h);
        }

    -- AN ACCEPTED CALL CHANGES ONLY BYTES OF THE PARTS, up to what each needs
    pub anew_writes : OnlyUsed made parts room answer.counters answer.room
    anew_writes = subst (λ o. OnlyUsed made parts room o.counters o.room) (sym passed.answer_is) only_made

    -- the plan that it leaves is that of the result
    pub anew_plan : answer.plan ≡ made
    anew_plan = ap (λ o. o.plan) passed.answer_is

    -- ---- finished

    -- FINISHING IS ACCEPTED, where its tables are of the result's lengths and the room begins within a body's ceiling
    pub anew_finishes : (base : ℕ) → base ≤ ceiling → (lengths nulls places names : List ℕ) → length lengths ≡ 2 * nodes_of made → length nulls ≡ nodes_of made → length places ≡ 9 * nodes_of made
        → length names ≡ 2 * buffers_before lent x.buffers answer.counters answer.room base (nodes_of made)
        → finishing lent x.buffers answer.counters answer.room base lengths nulls places names ≡ finished lent x.buffers tree type column answer.counters answer.room memory anew_standing base
    anew_finishes = stood_accepted lent x.buffers tree type column answer.counters answer.room memory anew_standing

    module _ (base : ℕ) (body : List ℕ) (bodied : Bodied body lent answer.room base) where
      -- THE RESULT: the tables describe the column byte for byte, with its null counts; its rows read as the column's, and it can be lent again
      pub anew_result :
          Shows tree (finished_tables lent x.buffers answer.counters answer.room base body) type 0 column
          × Counts tree (null_table lent x.buffers answer.counters answer.room base) type 0 column
          × (read_all type (column_of tree (finished_tables lent x.buffers answer.counters answer.room base body) type 0) ≡ read_all type column)
          × T (source_rule tree (finished_tables lent x.buffers answer.counters answer.room base body))
      anew_result = (
        stood_shows lent x.buffers tree type column answer.counters answer.room memory anew_standing base body bodied,
        stood_nulls lent x.buffers tree type column answer.counters answer.room memory anew_standing base body bodied,
        stood_reads lent x.buffers tree type column answer.counters answer.room memory anew_standing base body bodied filled.good,
        stood_again lent x.buffers formats schema target tn column answer.counters answer.room memory anew_standing base body bodied t c (sym (nodes_is formats schema target tn keep joined keptFrom t c)) filled.good,
      )

      -- LENT AGAIN with the same schema, in tables that hold the finished ones from the target's node on, IT IS ACCEPTED: none of 9, 10 and 12 stands
      pub anew_again : length body ≤ ceiling → (z : Tables) → tables_from z target ≡ finished_tables lent x.buffers answer.counters answer.room base body → column_ground formats schema z target tn ≡ 0
      anew_again short z again =
          let nodes = nodes_is formats schema target tn keep joined keptFrom t c in
          accepted_again formats schema z target tn (subst (λ y. length y.body ≤ ceiling) (sym again) short) c t
          (subst (λ y. T (source_rule tree y)) (sym again) anew_result.3)
          (λ i l. subst (λ y. (offset_of y i ≡ 0) ⊎ (offset_of y i + length_of y i < 2 ^ 63)) (sym again)
          (starts_low lent x.buffers tree type column answer.counters answer.room memory anew_standing base body bodied i (omega (arith, nodes))))
          (λ i l. subst (λ y. place y i 8 ≤ 32) (sym again)
          (names_few lent x.buffers tree type column answer.counters answer.room memory anew_standing base body bodied i (omega (arith, nodes))))
