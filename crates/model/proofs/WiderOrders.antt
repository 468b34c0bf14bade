-- A join made again over sources stored wider: its opening is accepted, the accepted orders of any list are all accepted, and the book
-- has the same rows. Assumes nothing.
use mathlib.Core.Path.{◌≡◌, subst₂}
use mathlib.Core.Bool.{Bool}
use mathlib.Core.List.{List}
use Prim.Native.Nat.{ℕ, ◌<◌}
use Rattle.columnar.specs.Types.{Ty}
use Rattle.columnar.specs.Formed.{Formed}
use Rattle.columnar.specs.Reading.{Column, Source}
use Rattle.columnar.specs.Wider.{Wider, Again}
use Rattle.model.specs.Try.{done}
use Rattle.model.specs.Grounds.{start_counts}
use Rattle.model.specs.Book.{Call, book, accepted, AllAccepted}
use Rattle.model.specs.Opening.{keeps}
use Rattle.model.specs.Transform.{Destination, start, try_with_capacities}
use Rattle.model.proofs.WiderAsks.{start_counts_wider}
use Rattle.model.proofs.WiderAnswers.{keeps_wider, answer_wider, entered_wider}
use Rattle.model.proofs.WiderBook.{accepted_again, book_again}
use Rattle.model.proofs.WiderOpening.{opening_wider}

-- gaps, u: whether null orders behind nulls grow their run, and whether the caller asks that nulls are kept, "opened with the same choices"
module _ {t t' : Ty} (d : Wider t t') (f : Formed t) (f' : Formed t') (gaps u : Bool) (m : ℕ) (ss : ℕ → Column t) (ss' : ℕ → Column t') (h : Again d m ss ss')
    (good : (i : ℕ) → i < m → Source t (ss i)) where
  -- the orders of a list that are accepted after the opening
  abbrev pub orders : List Call → List Call
  orders os = accepted t (keeps u m ss) m ss os (start_counts gaps t)

  pub record MadeAgain (os : List Call) : Type 0 where
    pub opened : try_with_capacities gaps t' u m ss' ≡ done (start gaps t' u m ss')
    pub all_accepted : AllAccepted t' (keeps u m ss') m ss' (orders os) (start_counts gaps t')
    pub same_rows : book t (keeps u m ss) m ss os (start_counts gaps t) ≡ book t' (keeps u m ss') m ss' (orders os) (start_counts gaps t')

  pub made_again : (x : Destination t) → try_with_capacities gaps t u m ss ≡ done x → (os : List Call) → MadeAgain os
  made_again x e os =
      let k : keeps u m ss ≡ keeps u m ss' = keeps_wider u m ss ss' h.each in
      let c : start_counts gaps t ≡ start_counts gaps t' = start_counts_wider gaps d in
      record {
        opened = opening_wider d f f' m ss ss' h good gaps u x e;
        all_accepted = subst₂ (λ b n. AllAccepted t' b m ss' (orders os) n) k c
            (accepted_again t t' (keeps u m ss) m ss ss' (answer_wider d m ss ss' h good (keeps u m ss)) (entered_wider d m ss ss' h good (keeps u m ss)) os (start_counts gaps t));
        same_rows = subst₂ (λ b n. book t (keeps u m ss) m ss os (start_counts gaps t) ≡ book t' b m ss' (orders os) n) k c
            (book_again t t' (keeps u m ss) m ss ss' (answer_wider d m ss ss' h good (keeps u m ss)) (entered_wider d m ss ss' h good (keeps u m ss)) os (start_counts gaps t));
      }
