-- What an opening comes to on lent memory: the ground, and the plan, the counters and the room after it. Assumes nothing.
-- `try_with_capacities` of arrow-data 60.1.0 src/transform/mod.rs, Apache-2.0; see NOTICE.
use Rattle.std.specs.Prelude.{Bool, false, cond, ◌&&◌, List, ℕ, suc, ◌+◌, length, get_or, replicate, leb, eqb}
use Rattle.number.specs.Number.{encode}
use Rattle.columnar.specs.Types.{Number, key_fits}
use Rattle.columnar.specs.Test.{every}
use Rattle.schema.specs.formats.Code.{is_integer, is_run_end}
use Rattle.schema.specs.formats.Types.{number_of, number_or}
use Rattle.array_data.specs.Tables.{Tables}
use Rattle.walk.specs.State.{word, code_of, dictionary_of, bytes_of, base_of, set_bytes, length_of, top}
use Rattle.walk.specs.Log.{Out, put, done, wrote, need, next, each, apply}
use Rattle.walk.specs.Copy.{copy_walk}
use Rattle.columns.specs.Grounds.{ceiling, sources_ground}
use Rattle.plan.specs.parts.Parts.{nodes_of, copied, has_offsets, part_total, parts_placed, parts_hold}
use Rattle.plan.specs.Plan.{planned}
use Rattle.refinement.specs.orders.Order.{Lent, join_of, source_count}

-- ground: 0, or the number of the refusal
pub record Opening : Type 0 where
  pub refusal : ℕ
  pub plan : List ℕ
  pub counters : List ℕ
  pub room : List ℕ

-- ---- the walk of an opening, by the plan

-- one run for a gap is chosen
abbrev pub chosen : List ℕ → Bool
chosen plan = eqb (get_or plan 867 0) 1

module _ (x : Lent) where
  -- where one run for a gap is chosen, the gap of a run-end node begins at 1
  unfoldable pub begin_gaps : ℕ → List ℕ → Out
  begin_gaps i c = cond (is_run_end (code_of x.plan i) && chosen x.plan) (done (set_bytes i 1 c)) (done c)

  -- "`new_buffers` for the first zero offset": a byte string's or list's, where it has a part
  unfoldable pub first_offset : ℕ → List ℕ → Out
  first_offset i c = cond (has_offsets (code_of x.plan i) && copied x.plan i) (wrote (put i 1 0 (encode (bytes_of x.plan i) 0)) c) (done c)

  -- all entries of source s at node i, behind those that are there
  unfoldable pub join_source : ℕ → ℕ → List ℕ → Out
  join_source i s c = copy_walk (join_of x s) 8 i 0 (length_of (join_of x s) i) c

  -- "else all are joined, in source order": 6 where that overflows
  unfoldable pub join_entries : ℕ → List ℕ → Out
  join_entries i c = each (join_source i) (source_count x.plan) 0 c

  -- "A joined dictionary that overflows panics; the port gives 6": the entries of all sources are counted in 64 bits; the plan has where each begins
  unfoldable pub entries_hold : ℕ → Bool
  entries_hold i = every (λ s. leb (base_of x.plan s i + length_of (join_of x s) (suc i)) top) (source_count x.plan)

  -- the keys of source s, node i, have room for the entries behind them; the plan has their start
  abbrev pub key_holds : Number → ℕ → ℕ → Bool
  key_holds k i s = key_fits k (base_of x.plan s i) (length_of (join_of x s) (suc i))

  -- "8 for a dictionary, (start + entries − 1, at least 0) or start does not fit the key"
  unfoldable pub keys_hold : ℕ → Bool
  keys_hold i = is_integer (code_of x.plan i) && every (key_holds (number_or (number_of (code_of x.plan i))) i) (source_count x.plan)

  -- a dictionary whose keys are node i: joined where it is not shared, then 8
  unfoldable pub open_dictionary : ℕ → List ℕ → Out
  open_dictionary i c =
      cond (eqb (dictionary_of x.plan i) 0) (done c)
      (need (entries_hold i) 6 c
      (next (cond (eqb (word x.plan i 7) 0) (done c) (join_entries (suc i) c)) (λ c2. need (keys_hold i) 8 c2 (done c2))))

  -- "then per dictionary in tree order 6 (joining), 8"
  unfoldable pub open_walk_of : List ℕ → Out
  open_walk_of c =
      next (each begin_gaps (nodes_of x.plan) 0 c)
      (λ c1. next (each first_offset (nodes_of x.plan) 0 c1) (λ c2. each open_dictionary (nodes_of x.plan) 0 c2))

-- ---- the opening

module _ (formats schema sources : List ℕ) (x : Tables) (keep gaps : Bool) (parts : List ℕ) where
  -- what every order is then lent
  abbrev pub opened : Lent
  opened = record { plan = planned formats schema x sources keep gaps; parts = parts; sources = sources; lengths = x.lengths; places = x.places; body = x.body }

  -- plan, counters and room as they are lent
  module _ (plan counters room : List ℕ) where
    -- "State and every byte stay."
    abbrev pub refused : ℕ → Opening
    refused g = record { refusal = g; plan = plan; counters = counters; room = room }

    -- "and 13 last"
    unfoldable pub settled : Out → Opening
    settled o =
        cond (eqb o.ans 0)
        (cond (parts_hold opened.plan o.counters parts) (record { refusal = 0; plan = opened.plan; counters = o.counters; room = apply opened.plan parts o.log room }) (refused 13))
        (refused o.ans)

    -- plan and counters are of a join's lengths, and none of what ground 14 says
    unfoldable pub room_placed : Bool
    room_placed = eqb (length plan) 872 && eqb (length counters) 96 && parts_placed parts (part_total opened.plan) (length room)

    -- THE OPENING: "9, 10, 11, 12, 14, then per dictionary in tree order 6 (joining), 8, and 13 last". The room is a body too.
    unfoldable pub opening : Opening
    opening =
        cond (leb (length room) ceiling)
        (cond (eqb (sources_ground formats schema x sources) 0)
        (cond room_placed (settled (open_walk_of opened (replicate 96 0))) (refused 14))
        (refused (sources_ground formats schema x sources))) (refused 9)
