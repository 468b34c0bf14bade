-- THE WALK OF A LIST-VIEW COLUMN writes only buffers of its nodes, and fills the list that the column is made into: all that `anew-result` asks
-- of it; or it stops by the ground of that definition. Assumes nothing.
use mathlib.Core.Path.{◌≡◌, refl, subst, ◌∙◌}
use mathlib.Core.Bool.{true, false}
use mathlib.Core.List.{List}
use Prim.Native.Nat.{ℕ, suc, ◌+◌, ◌*◌, ◌<◌}
use native.Mathlib.Omega.{arith}
use lib.ListN.{replicate}
use lib.Dec.{ltb}
use borrow.Author.Tests.{ltb-false}
use Rattle.number.specs.Number.{encode}
use Rattle.columnar.specs.Row.{seg}
use Rattle.columnar.specs.Types.{Ty, t_list_view, t_list}
use Rattle.columnar.specs.Array.{ok, null_count_of}
use Rattle.columnar.specs.Reading.{Column, Source}
use Rattle.model.specs.Try.{Try, done, then}
use Rattle.model.specs.Lists.{Listings, lists_freeze}
use Rattle.model.specs.Transform.{Grown, into_builder}
use Rattle.model.proofs.Bits.{length_seg, zeros_seg}
use Rattle.walk.specs.State.{Join, code_of, end_of, bytes_of, rows, add_rows, length_of, offset_of}
use Rattle.walk.specs.Log.{Out, put}
use Rattle.walk.specs.Copy.{copy_walk}
use Rattle.refinement.specs.walk_is_model.Memory.{Memory}
use Rattle.refinement.proofs.walk_is_model.Goes.{Goes, good, over}
use Rattle.refinement.proofs.walk_is_model.Frame.{worded_span}
use Rattle.refinement.specs.log_in_room.Room.{AllBelow, AllUsed}
use Rattle.refinement.proofs.log_in_room.Found.{between_both, between_wide}
use Rattle.refinement.proofs.log_in_room.Bytes.{bytes_encode}
use Rattle.refinement.proofs.log_in_room.Copies.{used_copies}
use Rattle.refinement.proofs.log_in_room.Uses.{used_wide, Uses, uses_done, uses_wrote, uses_cond, uses_need, uses_next, uses_each}
use Rattle.plan.specs.parts.Parts.{nodes_of, Used}
use Rattle.refinement.specs.orders.Order.{Lent, join_of}
use Rattle.refinement.specs.orders.Sound.{plan_sound}
use Rattle.refinement.proofs.orders.Sound.{closed_sound, root_reached, reached_used}
use Rattle.refinement.proofs.orders.Buffers.{copied_free, lists_one, buffer_copied}
use Rattle.refinement.proofs.opening.Uses.{zeros_use}
use Rattle.refinement.proofs.opening.Zeros.{empty}
use Rattle.anew.specs.lists.Laid.{laid}
use Rattle.anew.specs.lists.Listed.{kid, listings, listed, ground_of}
use Rattle.anew.proofs.lists.Listed.{listed_source}
use Rattle.anew.specs.Stood.{Stood}
use Rattle.anew.proofs.Bits.{bits_stand}
use Rattle.anew.proofs.Held.{NamedBelow, held_stands}
use Rattle.anew.proofs.Result.{Filled}
use Rattle.convert.specs.convert_lists.Listing.{validity, offset_at, size_at, end_row, copy_row, list_row, list_rows, list_walk}
use Rattle.convert.proofs.convert_lists.Listing.{ListView, Made, list_goes}
use Rattle.convert.proofs.convert_lists.RootUses.{mask_uses}

module _ (l : Lent) (w : ℕ) (t : Ty) (v : Column (t_list_view w t)) (g : ListView l w t v) where
  abbrev x : Join
  x = join_of l 0

  abbrev plan : List ℕ
  plan = l.plan

  -- ---- what is written

  module _ (sound : plan_sound plan ≡ true) (body : AllBelow 256 l.body) where
    abbrev U : ℕ → ℕ → Type 0
    U = Used plan

    root_in : 0 < nodes_of plan
    root_in = omega (arith, g.all_nodes_lem, worded_span plan 8 (t_list w t) 0 g.worded)

    offsets_part : U 0 1
    offsets_part = record { node = root_in; part = buffer_copied plan 0 0 (copied_free plan 0 tt) (omega (arith, lists_one (code_of plan 0) g.worded.2)) }

    end_uses : (u r : ℕ) (c : List ℕ) → Uses U (end_row x u r c)
    unfolding end_row
    end_uses u r c = uses_wrote U (put 0 1 (suc r * u) (encode u (rows c 1))) c (offsets_part, omega arith, bytes_encode u (rows c 1))

    child_uses : (a n : ℕ) (c : List ℕ) → Uses U (copy_walk x 7 1 a n c)
    child_uses a n c =
        record {
          log_used = used_wide (reached_used plan sound) _
              (used_copies x _ _ (closed_sound plan sound) body 7 1 a n c ((closed_sound plan sound).item 0 (root_reached plan sound) (between_wide 19 20 17 20 (code_of plan 0) (omega arith) (omega arith) g.worded.2)));
        }

    row_uses : (u r : ℕ) (c : List ℕ) → Uses U (list_row x u r c)
    unfolding list_row copy_row
    row_uses u r c =
        uses_cond U (ok (validity x u) (offset_of x 0 + r)) _ _ (λ e. uses_need U _ 6 c _ (λ f. uses_next U _ _ (child_uses (offset_at x u r) (size_at x u r) c) (λ c2. end_uses u r c2))) (λ e. end_uses u r c)

    rows_uses : (u n : ℕ) (c : List ℕ) → Uses U (list_rows x u n c)
    unfolding list_rows
    rows_uses u n c = uses_need U _ 12 c _ (λ e. uses_each U (list_row x u) (row_uses u) n 0 c)

    list_uses : (c : List ℕ) → Uses U (list_walk l c)
    unfolding list_walk
    list_uses c =
        let b = between_both 19 20 (code_of plan 0) g.worded.2 in
        uses_next U _ _ (zeros_use l c)
        (λ c1. uses_next U _ _ (mask_uses x root_in (omega (arith, b.1)) (offset_of x 0) (length_of x 0) c1)
        (λ c2. uses_next U _ _ (rows_uses (bytes_of plan 0) (length_of x 0) c2) (λ c3. uses_done U (add_rows 0 (length_of x 0) c3))))

  -- ---- what stands

  module _ (buffers : List ℕ) (st : (c : List ℕ) (μ : Memory) → NamedBelow l buffers c μ t 1 (kid w t v).body) where
    -- the list that the rows are made into
    abbrev whole : Listings (Grown t) → Column (t_list w t)
    whole d = laid true v 0 v.len (lists_freeze (into_builder t 1 (λ j. kid w t v)) d)

    made_stands : (d : Listings (Grown t)) (c : List ℕ) (μ : Memory) → Made l w t v g d c μ → Stood l buffers c μ (t_list w t) 0 (whole d)
    made_stands d c μ h =
        let z : v.off + 0 ≡ v.off = omega arith in
        let e : end_of plan 0 ≡ end_of plan 1 = g.worded.1 in
        record {
          rows_are = h.rows_are;
          from_zero = refl;
          bits_are = bits_stand l buffers c μ 0 (ltb 0 (null_count_of v)) v.len (seg (ok v.valid) (v.off + 0) v.len) g.keeps_are (length_seg (ok v.valid) (v.off + 0) v.len)
              (λ k. rw z (h.bits_are k)) (λ k. zeros_seg (ok v.valid) (v.off + 0) v.len ∙ rw z (none k));
          body_is = (
            record { bytes_are = h.offsets_are; long = h.fit.offsets_fine.offsets_are },
            held_stands l buffers c μ g.laid 7 t 1 (λ j. kid w t v) d.child g.worded.4 (omega arith) h.fit.child_fine h.child_held (st c μ) (λ j q. g.obey.slots.child_rule),
          );
        }
      where
        none : ltb 0 (null_count_of v) ≡ false → null_count_of v ≡ 0
        none k = omega (arith, ltb-false 0 (null_count_of v) k)

    done_fills : plan_sound plan ≡ true → AllBelow 256 l.body → (y : Column (t_list w t)) → Source (t_list w t) y → (r : Try (Listings (Grown t))) (o : Out) → AllUsed (Used plan) o.log
        → Goes empty (Made l w t v g) r o → then r (λ d. done (whole d)) ≡ done y → Filled l buffers (t_list w t) o y
    done_fills sound body y s _ _ u (good d o a q m) f =
        let z : whole d ≡ y = cc in
        record { used = u; in_place = q; long = m.long; stood = subst (Stood l buffers o.counters _ (t_list w t) 0) z (made_stands d o.counters _ m); good = s }
    done_fills sound body y s _ _ u (over n o a q) f = absurd (let z : ◌≡◌ {A = ℕ} 0 1 = cc in omega arith)

    -- DONE: the walk fills the list
    pub list_fills : plan_sound plan ≡ true → AllBelow 256 l.body → (y : Column (t_list w t)) → listed w t v ≡ done y → Filled l buffers (t_list w t) (list_walk l (replicate 96 0)) y
    list_fills sound body y e =
        done_fills sound body y (listed_source w t v g.formed g.obey g.few y e) (listings w t v) (list_walk l (replicate 96 0)) (list_uses sound body (replicate 96 0)).log_used (list_goes l w t v g) e

  -- both are done, or both stop by one ground
  same_ground_lem : {A B : Type 0} {μ : Memory} {Q : A → List ℕ → Memory → Type 0} (f : A → B) (r : Try A) (o : Out) → Goes μ Q r o → o.ans ≡ ground_of (then r (λ d. done (f d)))
  same_ground_lem f _ _ (good d o a q m) = a
  same_ground_lem f _ _ (over n o a q) = a

  -- THE GROUND: the walk stops by that of the definition, 0 where it is done
  pub list_ground : (list_walk l (replicate 96 0)).ans ≡ ground_of (listed w t v)
  list_ground =
      same_ground_lem (λ d. laid true v 0 v.len (lists_freeze (into_builder t 1 (λ j. kid w t v)) d)) (listings w t v) (list_walk l (replicate 96 0)) (list_goes l w t v g)
