-- Sources whose nodes obey name their data buffers, which lie in the body. Assumes nothing.
use mathlib.Core.Path.{◌≡◌, sym, ap₂, subst}
use mathlib.Core.Bool.{Bool, true, ◌&&◌}
use mathlib.Core.List.{List, Memᴰ}
use Prim.Native.Nat.{ℕ, ◌+◌, ◌*◌, ◌≤◌, ◌<◌}
use native.Mathlib.Omega.{arith}
use lib.ListN.{length, get_or}
use lib.Dec.{T, leb}
use lib.Ieee.Bits.{is_true}
use borrow.Author.Tests.{leb-true}
use Rattle.columnar.specs.Row.{seg}
use Rattle.columnar.specs.Types.{Ty, t_view}
use Rattle.columnar.specs.Kids.{node_down}
use Rattle.columnar.proofs.Kids.{below_from}
use Rattle.columnar.proofs.Test.{every_out}
use Rattle.array_data.specs.Tables.{Tables, place, data_buffer, in_body}
use Rattle.array_data.specs.Rules.{one_in, buffers_in, view_rule}
use Rattle.array_data.specs.NodeKinds.{view_node}
use Rattle.array_data.specs.Typed.{Tree, node_of, Is, Means, tables_from, body_of, kind_rule, node_rule, source_rule}
use Rattle.array_data.specs.type_tree.Lent.{tree_of}
use Rattle.array_data.proofs.type_tree.Same.{same_means}
use Rattle.array_data.proofs.lent_tables.Laws.{and_left, and_right}
use Rattle.plan.proofs.parts.Placed.{every_at}
use Rattle.array_data.specs.Sources.{first_of}
use Rattle.plan.proofs.dictionaries.Laws.{place_from}
use Rattle.refinement.specs.walk_is_model.Holds.{child_of, in_plan}
use Rattle.refinement.specs.plan_is_type.Taken.{type_is, columns_as, Taken}
use Rattle.refinement.proofs.plan_is_type.OneTree.{same_column}
use Rattle.refinement.proofs.plan_is_type.Kids.{column_there, there_kid}
use Rattle.refinement.proofs.plan_is_type.Opened.{same_child_lem, all_alike}
use Rattle.refinement.specs.orders.Order.{Lent}
use Rattle.refinement.proofs.finishing.Given.{Named, NamesLent}
use Rattle.array_data.proofs.Names.{union_kind}

-- what orders are lent of tables
abbrev lent_of : Tables → List ℕ → List ℕ → List ℕ → Lent
lent_of z plan parts sources = record { plan = plan; parts = parts; sources = sources; lengths = z.lengths; places = z.places; body = z.body }

module _ (tree : Tree) (z : Tables) (plan parts sources : List ℕ) (s : ℕ) where
  abbrev own : Tables
  own = tables_from z (first_of sources s)

  abbrev x : Lent
  x = lent_of z plan parts sources

  module _ (all : T (source_rule tree own))
      (kids : (i : ℕ) (b : Bool) (ids : List ℕ) → Is tree i (union_kind b ids) → (e : ℕ) → Memᴰ e ids → child_of plan i e ≡ node_of tree i ids e) where
    view_rule_lem : (i : ℕ) → Is tree i view_node → view_rule own i ≡ true
    view_rule_lem i h = is_true _ (subst (λ k. T (kind_rule tree own k i)) h.1 (every_out (node_rule tree own) tree.count all i h.0))

    -- data buffer q of node i lies in the body
    abbrev named : ℕ → ℕ → Bool
    named i q = in_body own (get_or z.buffers (2 * (place own i 7 + q)) 0) (get_or z.buffers (2 * (place own i 7 + q) + 1) 0)

    view_named : (i : ℕ) → Is tree i view_node → Named x z.buffers s i (body_of tree own t_view i)
    view_named i h =
        let r = and_left (one_in own i && buffers_in own i) _ (view_rule_lem i h) in
        let b = and_right (one_in own i) (buffers_in own i) r in
        let e = and_right (leb (2 * (place own i 7 + place own i 8)) (length z.buffers)) _ b in
        let p = place_from z (first_of sources s) i 7 in
        let n = place_from z (first_of sources s) i 8 in
        record {
          buffers_are = ap₂ (seg (data_buffer own)) p n;
          inside = λ q l. subst (λ k. get_or z.buffers (2 * (k + q)) 0 + get_or z.buffers (2 * (k + q) + 1) 0 ≤ length z.body) p (leb-true _ _ (every_at (named i) (place own i 8) e q (omega arith)));
        }

    pub named_at_lem : (u : Ty) (i : ℕ) → Means tree u i → NamesLent x z.buffers s u i (body_of tree own u i)
    named_at_lem u i h = below_from (node_down (in_plan plan)) _ _ (column_there tree own) (there_kid tree own plan kids) (λ s. view_named s.0 s.1) (λ n p s. tt) u (i, h)

-- THE DATA BUFFERS OF SOURCES THAT AN OPENING TAKES, all read by the first source's tree
pub taken_named : (formats schema : List ℕ) (z : Tables) (plan parts sources : List ℕ) (nodes_of : ℕ → ℕ) (m : ℕ) → Taken formats schema z (first_of sources) nodes_of plan m → (s : ℕ) → s < m
    → NamesLent (lent_of z plan parts sources) z.buffers s (type_is formats schema (first_of sources) nodes_of) 0 (columns_as formats schema z (first_of sources) nodes_of s).body
taken_named formats schema z plan parts sources nodes_of m k s l =
    let f = first_of sources in
    let a = all_alike formats schema z f nodes_of plan m k s l in
    let t = type_is formats schema f nodes_of in
    subst (λ c. NamesLent (lent_of z plan parts sources) z.buffers s t 0 c.body) (sym (same_column formats schema (f 0) (nodes_of 0) (f s) (nodes_of s) a (tables_from z (f s)) t 0))
    (named_at_lem (tree_of formats schema (f s) (nodes_of s)) z plan parts sources s (k.rules s l)
    (same_child_lem formats schema (f 0) (nodes_of 0) plan k.is_typed k.low k.planted (f s) (nodes_of s) a) t 0 (same_means formats schema (f 0) (nodes_of 0) (f s) (nodes_of s) k.is_typed k.low a))
