-- Counters and room as orders leave them are what finishing is given. Assumes nothing.
use mathlib.Core.Path.{◌≡◌, ap, ◌∙◌}
use mathlib.Core.Bool.{Bool, true}
use mathlib.Core.List.{List, ◌++◌, Memᴰ}
use Prim.Native.Nat.{ℕ, ◌≤◌, ◌<◌}
use native.Mathlib.Omega.{arith}
use lib.ListN.{length, take, length-append}
use lib.Seq.{take-append_seam, drop-append_seam, take-length}
use Rattle.columnar.specs.Types.{Ty}
use Rattle.columnar.specs.Reading.{Column}
use Rattle.array_data.specs.Typed.{Tree, node_of, Is, Means}
use Rattle.model.specs.Sources.{EachView}
use Rattle.model.specs.Transform.{Destination}
use Rattle.refinement.specs.walk_is_model.Memory.{Memory}
use Rattle.refinement.specs.walk_is_model.Holds.{child_of}
use Rattle.refinement.specs.log_in_room.Reach.{Free}
use Rattle.plan.specs.parts.Parts.{Used}
use Rattle.refinement.specs.orders.Order.{Lent}
use Rattle.refinement.specs.orders.Fits.{fits}
use Rattle.refinement.proofs.orders.Own.{Bounded}
use Rattle.refinement.proofs.orders.Cover.{covered}
use Rattle.refinement.proofs.orders.Enough.{free_or}
use Rattle.refinement.proofs.orders.Step.{Joined, Running, first_opened, obeys}
use Rattle.refinement.specs.opening.Kept.{Kept}
use Rattle.refinement.specs.opening.Entries.{EntriesLent, Joins}
use Rattle.refinement.proofs.opening.Stay.{joins_stay}
use Rattle.refinement.specs.finishing.Shows.{Bodied}
use Rattle.refinement.proofs.finishing.Given.{NamesLent, Given}
use Rattle.array_data.proofs.Names.{union_kind}

module _ (x : Lent) (t : Ty) (m : ℕ) (ss : ℕ → Column t) (join : Joined x t m ss) (keep : Bool) (c0 : List ℕ) (μ0 : Memory) (d : Destination t) (counters room : List ℕ)
    (run : Running x t m ss join keep c0 μ0 d counters room)
    (held : fits x.plan x.parts t 0 d ≡ true) where
  -- every part holds what is needed and what lies in it
  all_bounded : (i b : ℕ) → Used x.plan i b → Bounded x.plan x.parts counters run.memory i b
  all_bounded i b u = go (free_or x.plan i)
    where
      go : Dec (Free x.plan i) → Bounded x.plan x.parts counters run.memory i b
      go (yes y) =
          let o = first_opened x t m ss join in
          covered x.plan x.parts join.laid counters run.memory m 8 t 0 ss d o.worded o.formed (omega arith) run.state.fine run.holds held
          i b (omega arith) (omega (arith, u.node, join.all_nodes_lem)) y u.part
      go (no y) = run.rest i b u y

  pub given_by : (buffers : List ℕ) (tree : Tree) → m ≤ 16 → Means tree t 0
      → ((i : ℕ) (b : Bool) (ids : List ℕ) → Is tree i (union_kind b ids) → (e : ℕ) → Memᴰ e ids → child_of x.plan i e ≡ node_of tree i ids e)
      → ((s : ℕ) → s < m → NamesLent x buffers s t 0 (ss s).body) → ((s : ℕ) → s < m → EachView (λ v. length v.buffers ≤ 32) t (ss s).body) → EntriesLent x t 0 m (λ j. (ss j).body) → Joins x.plan t 0 m (λ j. (ss j).body) c0 μ0
      → (u : Bool) → Kept x.plan m t 0 u (λ j. (ss j).body) → Given x buffers tree t m ss d counters room run.memory
  given_by buffers tree few mn kids named few_buffers_lem entries joins u kept =
      let o = first_opened x t m ss join in
      record {
        some_source = join.some_source;
        few = few;
        count_is = join.count_is;
        worded = o.worded;
        formed = o.formed;
        laid = join.laid;
        all_nodes_lem = join.all_nodes_lem;
        means = mn;
        kids = kids;
        obey = obeys x t m ss join;
        fine = run.state.fine;
        long = run.long;
        holds = run.holds;
        lies = run.lies;
        placed = run.placed;
        within = run.within;
        bounded = all_bounded;
        named = named;
        few_buffers_lem = few_buffers_lem;
        entries = entries;
        joins = joins_stay x m c0 counters μ0 run.memory run.stay 8 t 0 (λ j. (ss j).body) o.worded entries joins;
        root_keeps = u;
        kept = kept;
      }

-- the room behind the sources' body
pub appended : (x : Lent) (room : List ℕ) → Bodied (x.body ++ room) x room (length x.body)
appended x room =
    record {
      front = take-append_seam x.body room;
      behind = ap (take (length room)) (drop-append_seam x.body room) ∙ take-length room;
      inside = rw length-append (omega arith);
    }
