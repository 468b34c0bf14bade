-- The answer of an opening in one pass over the type is that in two (refinement/specs/opening/Fits.antt: `open_in`). Assumes nothing.
use mathlib.Core.Path.{◌≡◌, refl, ap, ap₂, ◌∙◌}
use mathlib.Core.Bool.{Bool, true, false, cond, ◌&&◌, ◌||◌}
use mathlib.Core.List.{List, [], ◌∷◌}
use Prim.Native.Nat.{ℕ, suc}
use Rattle.columnar.specs.Types.{Number, Plain, Ty, t_plain, t_view, t_list_view, t_list, t_sparse, t_dense, t_run_end, t_dictionary}
use Rattle.columnar.specs.Array.{Array}
use Rattle.columnar.specs.Plain.{PlainBody}
use Rattle.columnar.specs.Dictionary.{Dictionary}
use Rattle.columnar.specs.Reading.{Body, Column}
use Rattle.columnar.specs.Test.{each}
use Rattle.model.specs.Try.{Try, done, stop, then, guard}
use Rattle.model.specs.Opening.{shared, present, entries_fit, all_keys_fit}
use Rattle.model.specs.Mutable.{Mutable, freeze_node}
use Rattle.model.specs.Transform.{open_all, open_data, start}
use Rattle.refinement.specs.walk_is_model.Holds.{child_of}
use Rattle.refinement.specs.orders.Fits.{fits}
use Rattle.refinement.specs.opening.Fits as two
use Rattle.join.specs.Openings.{dictionary_opens, all_open, data_opens}

then_then : {A : Type 0} (a : Try (Unit {0})) (b : Bool) (k : Bool → Try A) → then (then a (λ u. done b)) k ≡ then a (λ u. k b)
then_then (done u) b k = refl
then_then (stop g) b k = refl

-- one before the others
one_more : (x : Try Bool) (a : Try (Unit {0})) (p : Bool) (y : Try Bool) (c : Try (Unit {0})) (q : Bool) → x ≡ then a (λ u. done p) → y ≡ then c (λ u. done q)
    → then x (λ v. then y (λ w. done (v && w))) ≡ then (then a (λ u. c)) (λ u. done (p && q))
one_more x (done u) p y (done v) q e f = ap₂ (λ (x y : Try Bool). then x (λ v. then y (λ w. done (v && w)))) e f
one_more x (done u) p y (stop g) q e f = ap₂ (λ (x y : Try Bool). then x (λ v. then y (λ w. done (v && w)))) e f
one_more x (stop g) p y c q e f = ap (λ (x : Try Bool). then x (λ v. then y (λ w. done (v && w)))) e

module _ (plan parts : List ℕ) (m : ℕ) where
  all_open_lem : (g : ℕ → Try Bool) (h : ℕ → Try (Unit {0})) (f : ℕ → Bool) → ((c : ℕ) → g c ≡ then (h c) (λ u. done (f c))) → (ids : List ℕ)
      → all_open plan parts m g ids ≡ then (open_all ids h) (λ u. done (each f ids))
  all_open_lem g h f e [] = refl
  all_open_lem g h f e (c ∷ cs) = one_more (g c) (h c) (f c) (all_open plan parts m g cs) (open_all cs h) (each f cs) (e c) (all_open_lem g h f e cs)

  module _ (k : Number) (p : Plain) (i : ℕ) (ds : ℕ → Dictionary (PlainBody p)) where
    dictionary_opens_lem : dictionary_opens plan parts m k p i ds ≡ then (open_data (t_dictionary k p) m ds) (λ u. done (shared m ds || two.fits_joined plan parts p i (two.joined_all p m ds)))
    dictionary_opens_lem = go (entries_fit m ds) (shared m ds) (all_keys_fit k m m ds) (two.joined_all p m ds)
      where
        go : (a s w : Bool) (j : Try (Mutable (PlainBody p)))
            → ◌≡◌ {A = Try Bool} (guard a 6 (then (cond s (done true) (then j (λ e. done (fits plan parts (t_plain p) i e)))) (λ b. guard w 8 (done b))))
            (then {A = Unit {0}} (guard a 6 (then {A = Array (PlainBody p)} (elim s [ true ↦ done (present (ds 0).values) | false ↦ then j (λ e. done (freeze_node true (λ b. b) e)) ]) (λ v. guard w 8 (done tt)))) (λ u. done (s || two.fits_joined plan parts p i j)))
        go false s w j = refl
        go true true true j = refl
        go true true false j = refl
        go true false true (done e) = refl
        go true false false (done e) = refl
        go true false w (stop g) = refl

  data_opens_lem : (t : Ty) (i : ℕ) (ss : ℕ → Body t) → data_opens plan parts m t i ss ≡ then (open_data t m ss) (λ u. done (two.entries_fit plan parts t i m ss))
  data_opens_lem (t_plain p) i ss = refl
  data_opens_lem t_view i ss = refl
  data_opens_lem (t_list_view w t) i ss = data_opens_lem t (suc i) (λ j. (ss j).child.body)
  data_opens_lem (t_list w t) i ss = data_opens_lem t (suc i) (λ j. (ss j).child.body)
  data_opens_lem (t_sparse ids nullable f) i ss = all_open_lem _ _ _ (λ c. data_opens_lem (f c) (child_of plan i c) (λ j. ((ss j).children c).body)) ids
  data_opens_lem (t_dense ids nullable f) i ss = all_open_lem _ _ _ (λ c. data_opens_lem (f c) (child_of plan i c) (λ j. ((ss j).children c).body)) ids
  data_opens_lem (t_run_end w t) i ss = data_opens_lem t (suc (suc i)) (λ j. (ss j).values.body)
  data_opens_lem (t_dictionary k p) i ss = dictionary_opens_lem k p (suc i) ss

  pub opens_in_one : (gaps : Bool) (t : Ty) (keep : Bool) (ss : ℕ → Column t)
      → then (data_opens plan parts m t 0 (λ j. (ss j).body)) (λ b. guard (fits plan parts t 0 (start gaps t keep m ss) && b) 13 (done (start gaps t keep m ss))) ≡ two.open_in plan parts gaps t keep m ss
  opens_in_one gaps t keep ss =
      ap (λ a. then a (λ b. guard (fits plan parts t 0 (start gaps t keep m ss) && b) 13 (done (start gaps t keep m ss)))) (data_opens_lem t 0 (λ j. (ss j).body))
      ∙ then_then (open_data t m (λ j. (ss j).body)) (two.entries_fit plan parts t 0 m (λ j. (ss j).body)) _
