-- A converted column: its rows, its grounds, and that it obeys the rules. Assumes nothing.
use mathlib.Core.Path.{◌≡◌, sym, ap, subst, ◌∙◌}
use Prim.Native.Nat.{ℕ}
use native.Mathlib.Nat.{zero-add}
use native.Mathlib.Omega.{arith}
use Rattle.columnar.specs.Types.{Ty}
use Rattle.columnar.specs.Reading.{Column, read, read_all, Source}
use Rattle.columnar.proofs.Kept.{seg_same}
use Rattle.model.specs.Try.{Try, done, stop, then}
use Rattle.model.proofs.Joined.{done_is, then_done}
use Rattle.anew.specs.widths.Widths.{Widths}
use Rattle.anew.specs.widths.Converted.{column_as}
use Rattle.anew.specs.widths.Fitting.{tried, AllFit, numbers, converted}
use Rattle.anew.proofs.widths.Fits.{Misfit, tried_done, done_tried, tried_stop, stop_tried}
use Rattle.anew.proofs.widths.Node.{Node, node}
use Rattle.anew.proofs.widths.Types.{made}

then_stop : {A B : Type 0} (t : Try A) (x : A → B) (g : ℕ) → then t (λ a. done (x a)) ≡ stop g → t ≡ stop g
then_stop (done a) x g e = absurd (let z : ◌≡◌ {A = ℕ} 0 1 = cc in omega arith)
then_stop (stop h) x g e = let z : h ≡ g = cc in ap stop z

module _ (t t' : Ty) (d : Widths t t') (x : Column t) where
  abbrev result : Column t'
  result = column_as t t' d x 0 x.len

  -- ACCEPTED EXACTLY WHERE EVERY NUMBER OF THE RESULT FITS
  pub convert_accepted : AllFit (numbers t t' d x) → converted t t' d x ≡ done result
  convert_accepted h = ap (λ r. then r (λ u. done result)) (done_tried (numbers t t' d x) h)

  pub accepted_fits : (y : Column t') → converted t t' d x ≡ done y → AllFit (numbers t t' d x)
  accepted_fits y e = let r = then_done (tried (numbers t t' d x)) (λ u. done result) y e in tried_done (numbers t t' d x) r.1.0

  -- REFUSED EXACTLY WITH THE GROUND OF THE FIRST, IN TREE ORDER, THAT DOES NOT
  pub convert_refused : (g : ℕ) → Misfit (numbers t t' d x) g → converted t t' d x ≡ stop g
  convert_refused g m = ap (λ r. then r (λ u. done result)) (stop_tried (numbers t t' d x) g m)

  pub refused_first : (g : ℕ) → converted t t' d x ≡ stop g → Misfit (numbers t t' d x) g
  refused_first g e = tried_stop (numbers t t' d x) g (then_stop (tried (numbers t t' d x)) (λ u. result) g e)

  result_is : (y : Column t') → converted t t' d x ≡ done y → result ≡ y
  result_is y e = let r = then_done (tried (numbers t t' d x)) (λ u. done result) y e in done_is r.1.1

  module _ (s : Source t x) (y : Column t') (e : converted t t' d x ≡ done y) where
    whole : Node t t' d x 0 x.len
    whole = node t t' d (made t t' d) x s 0 x.len (omega arith) (accepted_fits y e)

    -- EACH ROW READS AS BEFORE
    pub convert_rows : read_all t' y ≡ read_all t x
    convert_rows =
        ap (read_all t') (sym (result_is y e))
        ∙ seg_same (read t' result) (read t x) 0 x.len (λ i q. rw (zero-add i) (whole.row i q ∙ ap (read t x) (zero-add i)))

    -- IT OBEYS THE RULES
    pub convert_source : Source t' y
    convert_source = subst (Source t') (result_is y e) whole.obeys
