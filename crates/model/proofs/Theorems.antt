-- THE THEOREMS of the model, for every type at any depth, over any sources that the opening accepts and any list of orders, refused
-- ones included. Assumes nothing.
use mathlib.Core.Path.{◌≡◌, refl, sym, ap, ◌∙◌, subst}
use mathlib.Core.Bool.{Bool, true, false, cond}
use mathlib.Core.Option.{Option, none, some}
use mathlib.Core.List.{List, []}
use Prim.Native.Nat.{ℕ, ◌<◌}
use native.Mathlib.Nat.{zero-add}
use native.Mathlib.Omega.{arith}
use lib.ListN.{length, get_or}
use Rattle.columnar.specs.Row.{Row, null, seg}
use Rattle.columnar.specs.Types.{Ty}
use Rattle.columnar.specs.Array.{null_count_of}
use Rattle.columnar.specs.Reading.{Column, read, read_all, masks, Source}
use Rattle.model.specs.Try.{Try, done, stop, then, map_try}
use Rattle.model.specs.Grounds.{Counts, start_counts}
use Rattle.model.specs.Book.{Call, answer, book, book_nulls}
use Rattle.model.specs.Sources.{Sources}
use Rattle.model.specs.Opening.{keeps}
use Rattle.model.specs.Mutable.{Mutable, keeps_bits}
use Rattle.model.specs.Transform.{Destination, open_data, start, try_with_capacities, into_builder}
use Rattle.model.specs.Orders.{perform, perform_all}
use Rattle.model.specs.Held.{held}
use Rattle.model.specs.Counters.{count_by, FinishedBy}
use Rattle.model.proofs.Agree.{Agrees, both, neither}
use Rattle.model.proofs.Law.{Law, CountFor}
use Rattle.model.proofs.Nodes.{kind_of}
use Rattle.model.proofs.Node.{node_obeys}
use Rattle.model.proofs.Bits.{length_seg, get_d_seg}
use Rattle.model.proofs.Ready.{ready}
use Rattle.model.proofs.SameBody.{same_entries}
use Rattle.model.proofs.Start.{start_fine, start_keep, held_start}
use Rattle.model.proofs.Book.{State, Did, Done, counted_if, one_order, all_orders}
use Rattle.model.proofs.Types.{law}
use Rattle.model.proofs.Counters.{finished_by}

-- the same answer, in terms of what is held
agrees_same : {A C : Type 0} {see : A → C} {Q : A → Type 0} {t : Try A} {s : Try C} → Agrees see Q t s → map_try see t ≡ s
agrees_same (both x q) = refl
agrees_same (neither g) = refl

opened_first : {A : Type 0} (a : Try (Unit {0})) (s d : A) → then a (λ x. done s) ≡ done d → a ≡ done tt
opened_first (done x) s d e = refl
opened_first (stop g) s d e = absurd (let z : ◌≡◌ {A = ℕ} 0 1 = cc in omega arith)

opened_is : {A : Type 0} (a : Try (Unit {0})) (s d : A) → then a (λ x. done s) ≡ done d → s ≡ d
opened_is (done x) s d e = cc
opened_is (stop g) s d e = absurd (let z : ◌≡◌ {A = ℕ} 0 1 = cc in omega arith)

kept : (b : Bool) → keeps_bits (cond b (some []) none) ≡ b
kept true = refl
kept false = refl

module _ (gaps : Bool) (t : Ty) (body : List ℕ) (m : ℕ) (ss : ℕ → Column t) (u : Bool) (given : Sources t body m ss) (d : Destination t) (opened : try_with_capacities gaps t u m ss ≡ done d) where
  abbrev keep : Bool
  keep = keeps u m ss

  law_holds : Law (kind_of t m (λ i. (ss i).body)) m ss
  law_holds =
      law t m ss given.obey
      (ready body m given.few (same_entries body m) t ss given.obey given.few_buffers_lem given.stand
      (opened_first (open_data t m (λ i. (ss i).body)) (start gaps t u m ss) d opened))

  start_is : start gaps t u m ss ≡ d
  start_is = opened_is (open_data t m (λ i. (ss i).body)) (start gaps t u m ss) d opened

  start_state : State t m ss law_holds given.obey keep (start gaps t u m ss)
  start_state =
      record { fine = start_fine gaps t u m ss given.some given.formed; keeps_is = kept keep; keeps_below = λ e. (start_keep gaps t u m ss e).below }

  orders_from : (os : List Call) → Done t m ss law_holds given.obey keep os (start gaps t u m ss) (perform_all t m ss os (start gaps t u m ss))
  orders_from os = all_orders t m ss law_holds given.obey keep os (start gaps t u m ss) start_state

  held_nothing : held t (start gaps t u m ss) ≡ start_counts gaps t
  held_nothing = held_start gaps t keep m (λ i. (ss i).body)

  -- after these orders
  abbrev pub reached : List Call → Destination t
  reached os = perform_all t m ss os d

  abbrev pub finished : List Call → Column t
  finished os = into_builder t m ss (reached os)

  state_after : (os : List Call) → State t m ss law_holds given.obey keep (reached os)
  state_after os = subst (λ x. State t m ss law_holds given.obey keep (perform_all t m ss os x)) start_is (orders_from os).state

  -- THE BOOK: the finished rows are the book's, row by row
  pub the_book : (os : List Call) → read_all t (finished os) ≡ book t keep m ss os (start_counts gaps t)
  the_book os =
      subst (λ x. read_all t (into_builder t m ss (perform_all t m ss os x)) ≡ book t keep m ss os (start_counts gaps t)) start_is
      ((orders_from os).rows_are ∙ ap (book t keep m ss os) held_nothing)

  -- the book's length is the finished array's
  pub book_length : (os : List Call) → (finished os).len ≡ length (book t keep m ss os (start_counts gaps t))
  book_length os = sym (length_seg (read t (finished os)) 0 (finished os).len) ∙ ap length (the_book os)

  -- .. and the destination's, after every call
  pub destination_length : (os : List Call) → (reached os).len ≡ length (book t keep m ss os (start_counts gaps t))
  destination_length os = book_length os

  -- finished row i reads as entry i
  pub book_row : (os : List Call) (i : ℕ) → i < (finished os).len → read t (finished os) i ≡ get_or (book t keep m ss os (start_counts gaps t)) i null
  book_row os i q =
      ap (read t (finished os)) (sym (zero-add i))
      ∙ sym (get_d_seg (read t (finished os)) 0 (finished os).len i null q)
      ∙ ap (λ l. get_or l i null) (the_book os)

  -- the finished array can be lent again: it obeys the rules of a source
  pub finished_obeys : (os : List Call) → Source t (finished os)
  finished_obeys os = node_obeys (kind_of t m (λ i. (ss i).body)) m ss law_holds (λ j q. (given.obey j q).mask) (reached os) (state_after os).fine

  -- THE RUNNING NULL COUNT is that of the accepted orders: a copy's zero bits, a null order's rows
  pub running_nulls : (os : List Call) → (reached os).null_count ≡ counted_if keep (book_nulls t keep m ss os (start_counts gaps t))
  running_nulls os =
      subst (λ x. (perform_all t m ss os x).null_count ≡ counted_if keep (book_nulls t keep m ss os (start_counts gaps t))) start_is
      ((orders_from os).count_is ∙ zero-add _ ∙ ap (λ c. counted_if keep (book_nulls t keep m ss os c)) held_nothing)

  -- EVERY NODE IS FINISHED AS THE RUST DOES, by its running null count: validity is kept where that is above 0, and it is the null count
  pub finished_counters : (os : List Call) → FinishedBy t m ss (reached os) (finished os)
  finished_counters os = finished_by t m ss given.obey (reached os) (state_after os).fine

  -- THE FINISHED NULL COUNT is counted from the finished bits; it is the running one where the root has validity, else 0
  pub finished_nulls : (os : List Call) → null_count_of (finished os) ≡ cond (masks t) (reached os).null_count 0
  finished_nulls os = (finished_counters os).count_is ∙ go (masks t) (reached os).bits (reached os).null_count (state_after os).fine.count_is
    where
      go : (masks : Bool) (b : Option (List Bool)) (c : ℕ) → CountFor masks b c → count_by masks b c ≡ cond masks c 0
      go true none c e = sym e
      go false none c e = refl
      go true (some l) c e = refl
      go false (some l) c e = refl

  -- EVERY ANSWER depends on lengths and limits alone: on what is held, and not on any byte of the destination
  pub answers_are : (os : List Call) (o : Call) → map_try (held t) (perform t m ss o (reached os)) ≡ answer t keep m ss o (held t (reached os))
  answers_are os o = agrees_same (one_order t m ss law_holds given.obey keep o (reached os) (state_after os))
