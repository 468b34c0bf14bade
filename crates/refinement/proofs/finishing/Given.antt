-- What finishing is given after an accepted opening and any orders: the plan's words, counters, memory and room that hold a destination,
-- and tables that name the sources' data buffers and kept dictionaries. Assumes nothing.
use mathlib.Core.Path.{◌≡◌, ap, ◌∙◌}
use mathlib.Core.Bool.{Bool, true, not}
use mathlib.Core.List.{List, Memᴰ}
use Prim.Native.Nat.{ℕ, suc, ◌+◌, ◌*◌, ◌≤◌, ◌<◌}
use native.Mathlib.Omega.{arith}
use lib.ListN.{length, get_or}
use Rattle.columnar.specs.Row.{seg}
use Rattle.columnar.specs.Types.{Plain, Ty, t_plain}
use Rattle.columnar.specs.Formed.{Formed}
use Rattle.columnar.specs.Plain.{PlainBody}
use Rattle.columnar.specs.View.{Views}
use Rattle.columnar.specs.Dictionary.{Dictionary}
use Rattle.columnar.specs.Reading.{Body, Column, masks, Source}
use Rattle.columnar.specs.Kids.{kid_at, Below, body_down, node_down, nodes_down}
use Rattle.columnar.proofs.Kids.{below_kid, below_by}
use Rattle.array_data.specs.Tables.{part}
use Rattle.array_data.specs.Typed.{Tree, node_of, Is, Means}
use Rattle.model.specs.Try.{done}
use Rattle.model.specs.Sources.{EachView}
use Rattle.model.specs.Opening.{keeps, shared}
use Rattle.model.specs.Transform.{Destination}
use Rattle.model.proofs.Law.{FineNode}
use Rattle.model.proofs.Nodes.{FineOf}
use Rattle.model.proofs.Bits.{length_seg}
use Rattle.walk.specs.State.{word, place, end_of}
use Rattle.refinement.specs.walk_is_model.Memory.{Memory}
use Rattle.refinement.specs.walk_is_model.Holds.{child_of, in_plan, Worded, flag, Holds}
use Rattle.refinement.specs.walk_is_model.Lent.{LentNode, LentPlain}
use Rattle.refinement.specs.log_in_room.Room.{Placed, Lies}
use Rattle.plan.specs.parts.Parts.{nodes_of, parts_within, Used}
use Rattle.refinement.specs.orders.Order.{Lent, join_of, source_count}
use Rattle.refinement.proofs.orders.Own.{Bounded}
use Rattle.refinement.proofs.orders.Cover.{Laid}
use Rattle.refinement.specs.opening.Kept.{Kept}
use Rattle.refinement.specs.opening.Entries.{EntriesLent, JoinsAt, Joins}
use Rattle.refinement.proofs.opening.Kept.{kept_kid}
use Rattle.array_data.proofs.Names.{union_kind}

-- ---- data buffers

-- the data buffers of source s at node i stand in its body where the lent table says
pub record Named (x : Lent) (buffers : List ℕ) (s i : ℕ) (b : Views) : Type 0 where
  pub buffers_are : b.buffers ≡ seg (λ q. part x.body (get_or buffers (2 * q) 0) (get_or buffers (2 * q + 1) 0)) (place (join_of x s) i 7) (place (join_of x s) i 8)
  pub inside : (q : ℕ) → q < place (join_of x s) i 8
      → get_or buffers (2 * (place (join_of x s) i 7 + q)) 0 + get_or buffers (2 * (place (join_of x s) i 7 + q) + 1) 0 ≤ length x.body

pub named_few : (x : Lent) (buffers : List ℕ) (s i : ℕ) (b : Views) → Named x buffers s i b → length b.buffers ≤ 32 → place (join_of x s) i 8 ≤ 32
named_few x buffers s i b h l = let n = ap length h.buffers_are ∙ length_seg _ (place (join_of x s) i 7) (place (join_of x s) i 8) in omega (arith, l)

-- so at every view node from node i on
module _ (x : Lent) (buffers : List ℕ) (s : ℕ) where
  abbrev pub NamesLent : (t : Ty) → ℕ → Body t → Type 0
  NamesLent t i b = Below {X = λ t. ℕ × Body t} (node_down (in_plan x.plan)) (λ y. Named x buffers s y.0 y.1) (λ n p y. Unit {0}) t (i, b)

-- ---- data buffers and dictionaries of all sources, node by node

-- the values of the dictionaries whose keys are node i: source 0's where they are shared, else joined in the memory
pub record Valued (x : Lent) (m : ℕ) (counters : List ℕ) (μ : Memory) (p : Plain) (i : ℕ) (ds : ℕ → Dictionary (PlainBody p)) : Type 0 where
  pub words : Worded x.plan 1 (t_plain p) (suc i)
  pub joined_word_lem : word x.plan i 7 ≡ flag (not (shared m ds))
  pub kept : shared m ds ≡ true → LentNode (join_of x 0) (suc i) (LentPlain (join_of x 0) p (suc i)) (ds 0).values
  pub joins : JoinsAt x.plan p i m ds counters μ

module _ (x : Lent) (buffers : List ℕ) (m : ℕ) (counters : List ℕ) (μ : Memory) where
  abbrev pub Stands : (t : Ty) → ℕ → (ℕ → Body t) → Type 0
  Stands t i ss =
      Below {X = λ t. ℕ × (ℕ → Body t)} (nodes_down (in_plan x.plan)) (λ y. (s : ℕ) → s < m → Named x buffers s y.0 (y.1 s) × (length (y.1 s).buffers ≤ 32))
      (λ n p y. Valued x m counters μ p y.0 y.1) t (i, ss)

  stands_by : (t : Ty) (i : ℕ) (ss : ℕ → Body t) (u : Bool) → 0 < m → ((s : ℕ) → s < m → NamesLent x buffers s t i (ss s)) → ((s : ℕ) → s < m → EachView (λ v. length v.buffers ≤ 32) t (ss s)) → EntriesLent x t i m ss
      → Joins x.plan t i m ss counters μ → Kept x.plan m t i u ss → Stands t i ss
  stands_by t i ss u l n v e j k =
      below_by (nodes_down (in_plan x.plan)) _ _
      (λ t y. ((s : ℕ) → s < m → NamesLent x buffers s t y.0 (y.1 s)) × ((s : ℕ) → s < m → EachView (λ v. length v.buffers ≤ 32) t (y.1 s)) × EntriesLent x t y.0 m y.1
      × Joins x.plan t y.0 m y.1 counters μ × ((u : Bool) × Kept x.plan m t y.0 u y.1))
      (λ t y g c. (
        (λ s h. below_kid (node_down (in_plan x.plan)) _ _ t (y.0, y.1 s) (g.0 s h) c),
        (λ s h. below_kid body_down _ _ t (y.1 s) (g.1 s h) c),
        below_kid (nodes_down (in_plan x.plan)) _ _ t y g.2 c,
        below_kid (nodes_down (in_plan x.plan)) _ _ t y g.3 c,
        (keeps g.4.0 m (λ s. kid_at t (y.1 s) c), kept_kid x.plan m t y.0 g.4.0 y.1 g.4.1 c),
      ))
      (λ y g s h. (g.0 s h, g.1 s h))
      (λ n p y g. record { words = (g.2.small, omega (arith, g.2.ends), g.2.no_keys, g.2.plain_is); joined_word_lem = g.4.1.1; kept = λ h. g.2.lent 0 l; joins = g.3 })
      t (i, ss) (n, v, e, j, (u, k))

-- ALL THAT FINISHING IS GIVEN
pub record Given (x : Lent) (buffers : List ℕ) (tree : Tree) (t : Ty) (m : ℕ) (ss : ℕ → Column t) (d : Destination t) (counters room : List ℕ) (μ : Memory) : Type 0 where
  pub some_source : 0 < m
  pub few : m ≤ 16
  pub count_is : source_count x.plan ≡ m
  pub worded : Worded x.plan 8 t 0
  pub formed : Formed t
  pub laid : Laid x.plan
  pub all_nodes_lem : nodes_of x.plan ≡ end_of x.plan 0
  pub means : Means tree t 0
  pub kids : (i : ℕ) (b : Bool) (ids : List ℕ) → Is tree i (union_kind b ids) → (e : ℕ) → Memᴰ e ids → child_of x.plan i e ≡ node_of tree i ids e
  pub obey : (j : ℕ) → j < m → Source t (ss j)
  pub fine : FineNode (masks t) (FineOf t m (λ j. (ss j).body)) m ss d
  pub long : length counters ≡ 96
  pub holds : Holds x.plan t 0 d counters μ
  pub lies : Lies x.plan x.parts (Used x.plan) room μ
  pub placed : Placed x.plan x.parts (Used x.plan) (length room)
  pub within : parts_within x.plan x.parts (length room) ≡ true
  pub bounded : (i b : ℕ) → Used x.plan i b → Bounded x.plan x.parts counters μ i b
  pub named : (s : ℕ) → s < m → NamesLent x buffers s t 0 (ss s).body
  pub few_buffers_lem : (s : ℕ) → s < m → EachView (λ v. length v.buffers ≤ 32) t (ss s).body
  pub entries : EntriesLent x t 0 m (λ j. (ss j).body)
  pub joins : Joins x.plan t 0 m (λ j. (ss j).body) counters μ
  pub root_keeps : Bool
  pub kept : Kept x.plan m t 0 root_keeps (λ j. (ss j).body)

pub stands : (x : Lent) (buffers : List ℕ) (tree : Tree) (t : Ty) (m : ℕ) (ss : ℕ → Column t) (d : Destination t) (counters room : List ℕ) (μ : Memory)
    → Given x buffers tree t m ss d counters room μ → Stands x buffers m counters μ t 0 (λ j. (ss j).body)
stands x buffers tree t m ss d counters room μ g =
    stands_by x buffers m counters μ t 0 (λ j. (ss j).body) g.root_keeps g.some_source g.named g.few_buffers_lem g.entries g.joins g.kept
