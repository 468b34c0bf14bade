-- The accepted orders of a list, made again where every accepted order is accepted again with the same rows. Assumes nothing.
use mathlib.Core.Path.{◌≡◌, refl, sym, ap, ap₂, ◌∙◌, subst}
use mathlib.Core.Bool.{Bool}
use mathlib.Core.List.{List, [], ◌∷◌, ◌++◌}
use Prim.Native.Nat.{ℕ}
use Rattle.columnar.specs.Row.{Row}
use Rattle.columnar.specs.Types.{Ty}
use Rattle.columnar.specs.Reading.{Column}
use Rattle.model.specs.Try.{Try, done, stop}
use Rattle.model.specs.Grounds.{Counts}
use Rattle.model.specs.Book.{Call, answer, entered, book, accepted, AllAccepted}

module _ (t t' : Ty) (keep : Bool) (m : ℕ) (ss : ℕ → Column t) (ss' : ℕ → Column t')
    (again : (o : Call) (c c' : Counts) → answer t keep m ss o c ≡ done c' → answer t' keep m ss' o c ≡ done c')
    (same : (o : Call) (c c' : Counts) → answer t keep m ss o c ≡ done c' → entered t keep m ss o ≡ entered t' keep m ss' o) where
  -- ALL ARE ACCEPTED AGAIN
  pub accepted_again : (os : List Call) (c : Counts) → AllAccepted t' keep m ss' (accepted t keep m ss os c) c
  accepted_again [] c = tt
  accepted_again (o ∷ os) c = go (answer t keep m ss o c) refl (accepted_again os)
    where
      go : (a : Try Counts) → answer t keep m ss o c ≡ a → ((c : Counts) → AllAccepted t' keep m ss' (accepted t keep m ss os c) c)
          → AllAccepted t' keep m ss' (elim a [ done c' ↦ o ∷ accepted t keep m ss os c' | stop g ↦ accepted t keep m ss os c ]) c
      go (done x) e f =
          subst (λ (a : Try Counts). elim a as (λ b. Type 0) [ done c' ↦ AllAccepted t' keep m ss' (accepted t keep m ss os x) c' | stop g ↦ ⊥ ]) (sym (again o c x e)) (f x)
      go (stop g) e f = f c

  -- THE SAME ROWS
  pub book_again : (os : List Call) (c : Counts) → book t keep m ss os c ≡ book t' keep m ss' (accepted t keep m ss os c) c
  book_again [] c = refl
  book_again (o ∷ os) c = go (answer t keep m ss o c) refl (book_again os)
    where
      go : (a : Try Counts) → answer t keep m ss o c ≡ a → ((c : Counts) → book t keep m ss os c ≡ book t' keep m ss' (accepted t keep m ss os c) c)
          → ◌≡◌ {A = List Row} (elim a [ done c' ↦ entered t keep m ss o ++ book t keep m ss os c' | stop g ↦ book t keep m ss os c ])
          (book t' keep m ss' (elim a [ done c' ↦ o ∷ accepted t keep m ss os c' | stop g ↦ accepted t keep m ss os c ]) c)
      go (done x) e f =
          subst
          (λ (a : Try Counts). ◌≡◌ {A = List Row} (entered t keep m ss o ++ book t keep m ss os x)
          (elim a [ done c' ↦ entered t' keep m ss' o ++ book t' keep m ss' (accepted t keep m ss os x) c' | stop g ↦ book t' keep m ss' (accepted t keep m ss os x) c ]))
          (sym (again o c x e)) (ap₂ ◌++◌ (same o c x e) (f x))
      go (stop g) e f = f c
