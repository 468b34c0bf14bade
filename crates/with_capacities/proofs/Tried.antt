-- The walk of an opening answers alike, whatever nulls are counted. Assumes nothing.
use mathlib.Core.Path.{refl}
use mathlib.Core.Bool.{◌&&◌}
use mathlib.Core.List.{List}
use Prim.Native.Nat.{ℕ, suc}
use lib.Dec.{eqb}
use Rattle.schema.specs.formats.Code.{is_run_end}
use Rattle.walk.specs.State.{word, code_of, dictionary_of, length_of}
use Rattle.plan.specs.parts.Parts.{nodes_of, copied, has_offsets}
use Rattle.sound.specs.trying.Alike.{Alike}
use Rattle.sound.proofs.trying.Laws.{alike_bytes}
use Rattle.sound.proofs.trying.Near.{Near, near_done, near_wrote, near_cond, near_need, near_next, near_each, near_copy}
use Rattle.refinement.specs.orders.Order.{Lent, join_of, source_count}
use Rattle.refinement.specs.opening.Open.{chosen, begin_gaps, first_offset, join_source, join_entries, open_dictionary, open_walk_of}

module _ (x : Lent) where
  near_gap : (i : ℕ) (c d : List ℕ) → Alike c d → Near (begin_gaps x i c) (begin_gaps x i d)
  unfolding begin_gaps
  near_gap i c d h = near_cond (is_run_end (code_of x.plan i) && chosen x.plan) (near_done (alike_bytes h i 1)) (near_done h)

  near_offset : (i : ℕ) (c d : List ℕ) → Alike c d → Near (first_offset x i c) (first_offset x i d)
  unfolding first_offset
  near_offset i c d h = near_cond (has_offsets (code_of x.plan i) && copied x.plan i) (near_wrote _ _ h) (near_done h)

  near_source : (i s : ℕ) (c d : List ℕ) → Alike c d → Near (join_source x i s c) (join_source x i s d)
  unfolding join_source
  near_source i s c d h = near_copy (join_of x s) 8 i 0 (length_of (join_of x s) i) h

  near_entries : (i : ℕ) {c d : List ℕ} → Alike c d → Near (join_entries x i c) (join_entries x i d)
  unfolding join_entries
  near_entries i h = near_each (join_source x i) (near_source i) (source_count x.plan) 0 h

  near_dictionary : (i : ℕ) (c d : List ℕ) → Alike c d → Near (open_dictionary x i c) (open_dictionary x i d)
  unfolding open_dictionary
  near_dictionary i c d h =
      near_cond (eqb (dictionary_of x.plan i) 0) (near_done h)
      (near_need refl 6 h
      (near_next _ _ (near_cond (eqb (word x.plan i 7) 0) (near_done h) (near_entries (suc i) h)) (λ c2 d2 g. near_need refl 8 g (near_done g))))

  pub near_open : {c d : List ℕ} → Alike c d → Near (open_walk_of x c) (open_walk_of x d)
  unfolding open_walk_of
  near_open h =
      near_next _ _ (near_each (begin_gaps x) near_gap (nodes_of x.plan) 0 h)
      (λ c1 d1 f. near_next _ _ (near_each (first_offset x) near_offset (nodes_of x.plan) 0 f)
      (λ c2 d2 g. near_each (open_dictionary x) near_dictionary (nodes_of x.plan) 0 g))
