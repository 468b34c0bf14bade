-- A node in other widths, from what holds of its slots. Assumes nothing.
use mathlib.Core.Path.{◌≡◌, refl}
use mathlib.Core.Bool.{Bool}
use Prim.Native.Nat.{ℕ, ◌+◌, ◌≤◌, ◌<◌}
use lib.Dec.{T}
use Rattle.columnar.specs.Types.{Ty}
use Rattle.columnar.specs.Array.{ok, Mask}
use Rattle.columnar.specs.Reading.{Body, Column, slot_at, read, masks, SlotRule, Source}
use Rattle.anew.proofs.lists.Laid.{laid_ok, laid_mask, laid_read}
use Rattle.anew.specs.widths.Widths.{Widths, s_plain, s_view, s_list_view, s_list, s_sparse, s_dense, s_run_end, s_dictionary}
use Rattle.anew.specs.widths.Converted.{body_as, column_as}
use Rattle.anew.specs.widths.Fitting.{AllFit, numbers_of, numbers_in}
use Rattle.anew.proofs.widths.Cut.{cut}

pub same_masks : (t t' : Ty) → Widths t t' → masks t ≡ masks t'
same_masks t t' (s_plain p p' d) = refl
same_masks t t' s_view = refl
same_masks t t' (s_list_view w w' u u' d) = refl
same_masks t t' (s_list w w' u u' d) = refl
same_masks t t' (s_sparse ids nullable nullable' f f' e d) = refl
same_masks t t' (s_dense ids nullable nullable' f f' e d) = refl
same_masks t t' (s_run_end w w' u u' d) = refl
same_masks t t' (s_dictionary k k' p p' i i' d) = refl

-- a slot that is valid holds the same, and the rule of a source holds again
pub record Slots (t t' : Ty) (d : Widths t t') (okay okay' : ℕ → Bool) (b : Body t) (s n : ℕ) : Type 0 where
  pub holds : (i : ℕ) → i < n → T (okay (s + i)) → slot_at t' (body_as d okay b s n) i ≡ slot_at t b (s + i)
  pub rule : SlotRule t' okay' (body_as d okay b s n) 0 n

abbrev pub Made : (t t' : Ty) → Widths t t' → Type 0
Made t t' d =
    (okay okay' : ℕ → Bool) (b : Body t) (s n : ℕ) → SlotRule t okay b s n → ((i : ℕ) → i < n → okay' i ≡ okay (s + i)) → AllFit (numbers_in d b s n) → Slots t t' d okay okay' b s n

pub record Node (t t' : Ty) (d : Widths t t') (x : Column t) (a n : ℕ) : Type 0 where
  pub row : (i : ℕ) → i < n → read t' (column_as t t' d x a n) i ≡ read t x (a + i)
  pub obeys : Source t' (column_as t t' d x a n)

pub node : (t t' : Ty) (d : Widths t t') → Made t t' d → (x : Column t) → Source t x → (a n : ℕ) → a + n ≤ x.len → AllFit (numbers_of (numbers_in d) x a n) → Node t t' d x a n
node t t' d made x s a n q fit =
    let m : Mask (masks t') x.valid (x.off + x.len) = rw (← same_masks t t' d) s.mask in
    let b : Body t' = body_as d (ok x.valid) x.body (x.off + a) n in
    let w = made (ok x.valid) (ok (column_as t t' d x a n).valid) x.body (x.off + a) n (cut t (ok x.valid) x.body x.off x.len a n q s.slots)
    (λ i r. laid_ok (masks t') x a n b (x.off + x.len) m i r) fit in
    record {
      row = λ i r. laid_read (masks t') x a n b (x.off + x.len) m i r (slot_at t) (slot_at t') (w.holds i r);
      obeys = record { mask = laid_mask (masks t') x a n b; slots = w.rule };
    }
