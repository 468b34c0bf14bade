-- The loop over the nodes of a column comes to what the converter makes of it. Assumes nothing.
use mathlib.Core.Path.{◌≡◌, sym, ap, subst, ◌∙◌}
use mathlib.Core.List.{List}
use Prim.Native.Nat.{ℕ, ◌≤◌}
use native.Mathlib.Omega.{arith}
use lib.ListN.{length, replicate}
use Rattle.columnar.specs.Types.{Ty}
use Rattle.columnar.specs.Formed.{Formed}
use Rattle.columnar.specs.Reading.{Column, Source}
use Rattle.array_data.specs.Tables.{Tables}
use Rattle.array_data.specs.Typed.{Tree, body_of, column_of, subtree_end}
use Rattle.model.specs.Try.{Try, done, stop, then}
use Rattle.walk.specs.Log.{Out}
use Rattle.plan.specs.parts.Parts.{Used}
use Rattle.refinement.specs.walk_is_model.Memory.{Memory, after}
use Rattle.refinement.specs.log_in_room.Room.{AllUsed}
use Rattle.refinement.specs.walk_is_model.Holds.{Worded}
use Rattle.refinement.specs.orders.Order.{Lent}
use Rattle.refinement.proofs.walk_is_model.Goes.{Goes, good, over, Quiet}
use Rattle.refinement.proofs.opening.Zeros.{empty}
use Rattle.anew.specs.widths.Widths.{Widths}
use Rattle.anew.specs.widths.Converted.{column_as}
use Rattle.anew.specs.widths.Fitting.{AllFit, numbers, converted}
use Rattle.anew.proofs.widths.Fits.{done_tried}
use Rattle.anew.proofs.widths.Node.{node}
use Rattle.anew.proofs.widths.Types.{made}
use Rattle.anew.proofs.Result.{Filled, filled_by}
use Rattle.anew.specs.Stood.{Stood}
use Rattle.width_walks.specs.Nodes.{tree_walk}
use Rattle.width_walks.specs.Ready.{InParts, Ready}
use Rattle.width_walks.proofs.Laid.{Laid}
use Rattle.width_walks.proofs.Tree.{tree_is}
use Rattle.width_walks.proofs.Convert.{convert_goes}
use Rattle.width_walks.proofs.Used.{PartsBits, PartsIn, BytesIn, convert_uses}

-- the column of the tables y in the tree t, in the widths of the tree t': refused by the ground of `converted`, and else it stands
pub tree_goes : (t t' : Tree) (y : Tables) (x : Lent) (buffers : List ℕ) (u u' : Ty) (d : Widths u u') → Laid t t' x.plan d 0 → t.count ≡ subtree_end t 0 → subtree_end t 0 ≤ 32
    → (k : ℕ) → Worded x.plan k u' 0 → Formed u' → InParts x.plan u' 0 → Source u (column_of t y u 0) → Ready x buffers u 0 (column_of t y u 0)
    → Goes empty (λ z c μ. Stood x buffers c μ u' 0 z × (length c ≡ 96)) (converted u u' d (column_of t y u 0)) (tree_walk t t' y x.plan (replicate 96 0))
tree_goes t t' y x buffers u u' d l e low k w g q s r =
    subst (Goes empty (λ z c μ. Stood x buffers c μ u' 0 z × (length c ≡ 96)) (converted u u' d (column_of t y u 0))) (sym (tree_is t t' y x.plan u u' d l e low (replicate 96 0)))
    (convert_goes x buffers u u' d k w g q (column_of t y u 0) s r)

-- ---- what an answer says of the walk

done_is : {A : Type 0} {y z : A} → ◌≡◌ {A = Try A} (done y) (done z) → y ≡ z
done_is e = cc

stop_is : {A : Type 0} {g h : ℕ} → ◌≡◌ {A = Try A} (stop g) (stop h) → g ≡ h
stop_is e = cc

not_stop : {A : Type 0} {y : A} {g : ℕ} → ◌≡◌ {A = Try A} (done y) (stop g) → ⊥
not_stop e = let z : ◌≡◌ {A = ℕ} 0 1 = cc in omega arith

when_done : {A : Type 0} {μ : Memory} {Q : A → List ℕ → Memory → Type 0} {t : Try A} {o : Out} (y : A) → Goes μ Q t o → t ≡ done y → Quiet μ (Q y) o
when_done {μ = μ} {Q} y (good z o e p q) h = record { is_done = e; in_place = p; leaves = subst (λ w. Q w o.counters (after o.log μ)) (done_is h) q }
when_done y (over g o e p) h = absurd (not_stop (sym h))

when_stopped : {A : Type 0} {μ : Memory} {Q : A → List ℕ → Memory → Type 0} {t : Try A} {o : Out} (g : ℕ) → Goes μ Q t o → t ≡ stop g → o.ans ≡ g
when_stopped g (good z o e p q) h = absurd (not_stop h)
when_stopped g (over k o e p) h = e ∙ stop_is h

-- all that is known of a column, its target and the plan
pub record Given (t t' : Tree) (y : Tables) (x : Lent) (buffers : List ℕ) (u u' : Ty) (d : Widths u u') : Type 0 where
  pub laid : Laid t t' x.plan d 0
  pub all_nodes_lem : t.count ≡ subtree_end t 0
  pub low : subtree_end t 0 ≤ 32
  pub depth : ℕ
  pub worded : Worded x.plan depth u' 0
  pub formed : Formed u'
  pub in_parts : InParts x.plan u' 0
  pub source : Source u (column_of t y u 0)
  pub is_ready : Ready x buffers u 0 (column_of t y u 0)
  pub bits_there : PartsBits x.plan (Used x.plan) 0
  pub parts_there : PartsIn x.plan (Used x.plan) u' 0
  pub bytes_there : BytesIn u (body_of t y u 0)

module _ (t t' : Tree) (y : Tables) (x : Lent) (buffers : List ℕ) (u u' : Ty) (d : Widths u u') (g : Given t t' y x buffers u u' d) where
  abbrev column : Column u
  column = column_of t y u 0

  abbrev walk : Out
  walk = tree_walk t t' y x.plan (replicate 96 0)

  whole : Goes empty (λ z c μ. Stood x buffers c μ u' 0 z × (length c ≡ 96)) (converted u u' d column) walk
  whole = tree_goes t t' y x buffers u u' d g.laid g.all_nodes_lem g.low g.depth g.worded g.formed g.in_parts g.source g.is_ready

  -- THE LOOP IS REFUSED WITH 6, 7 OR 8 AS THE CONVERTER IS
  pub convert_refused : (k : ℕ) → converted u u' d column ≡ stop k → walk.ans ≡ k
  convert_refused k e = when_stopped k whole e

  -- .. and has none where every number fits
  pub convert_done : AllFit (numbers u u' d column) → walk.ans ≡ 0
  convert_done fit =
      let made-column = column_as u u' d column 0 column.len in
      (when_done made-column whole (ap (λ z. then z (λ v. done made-column)) (done_tried (numbers u u' d column) fit))).is_done

  -- AND ELSE FILLS THE CONVERTED COLUMN: all that `anew-result` asks of a walk
  pub convert_fills : AllFit (numbers u u' d column) → Filled x buffers u' walk (column_as u u' d column 0 column.len)
  convert_fills fit =
      let made-column = column_as u u' d column 0 column.len in
      let e : converted u u' d column ≡ done made-column = ap (λ z. then z (λ v. done made-column)) (done_tried (numbers u u' d column) fit) in
      let q = when_done made-column whole e in
      filled_by x buffers u' walk made-column (record { is_done = q.is_done; in_place = q.in_place; leaves = (q.leaves.1, q.leaves.0) })
      (subst (λ o. AllUsed (Used x.plan) o.log) (sym (tree_is t t' y x.plan u u' d g.laid g.all_nodes_lem g.low (replicate 96 0)))
      (convert_uses x.plan (Used x.plan) u u' d column (replicate 96 0) g.bits_there g.parts_there g.bytes_there).log_used)
      (node u u' d (made u u' d) column g.source 0 column.len (omega arith) fit).obeys
