-- STORING WIDER CHANGES NO ROW (demand 3, last sentence): the accepted orders of any list, made again over the same rows and the same
-- sharing of dictionaries, opened with the same choices, with offsets and sizes, run ends or keys stored wider, alike in every
-- source, are all accepted, their opening too, and the finished array has the same rows. Assumes nothing.
use mathlib.Core.Path.{◌≡◌, sym, ◌∙◌}
use mathlib.Core.Bool.{Bool}
use mathlib.Core.List.{List}
use Prim.Native.Nat.{ℕ, ◌≤◌, ◌<◌}
use lib.ListN.{length}
use Rattle.columnar.specs.Types.{Ty}
use Rattle.columnar.specs.Formed.{Formed}
use Rattle.columnar.specs.Wider.{Wider, w_plain, w_view, w_list_view, w_list, w_sparse, w_dense, w_run_end, w_dictionary, Stored, Again}
use Rattle.columnar.specs.Reading.{Column, read_all}
use Rattle.columnar.proofs.WiderKinds.{declares}
use Rattle.columnar.proofs.Wider.{again_sources}
use Rattle.model.specs.Try.{done}
use Rattle.model.specs.Grounds.{start_counts}
use Rattle.model.specs.Book.{Call, accepted, AllAccepted}
use Rattle.model.specs.Sources.{EachView, EachDictionary, Stands, Sources}
use Rattle.model.specs.Opening.{keeps}
use Rattle.model.specs.Transform.{Destination, start, try_with_capacities, into_builder}
use Rattle.model.specs.Orders.{perform_all}
use Rattle.model.proofs.Theorems.{the_book}
use Rattle.model.proofs.WiderOrders.{made_again}

-- the data buffers stay as many
few_wider : {t t' : Ty} (d : Wider t t') (x : Column t) (x' : Column t') → Stored d x x' → EachView (λ v. length v.buffers ≤ 32) t x.body
    → EachView (λ v. length v.buffers ≤ 32) t' x'.body
few_wider (w_plain d) x x' h v = tt
few_wider w_view x x' h v = rw (← h.same_body.same_buffers) v
few_wider (w_list_view n n' e d) x x' h v = few_wider d x.body.child x'.body.child h.same_body.same_child_lem v
few_wider (w_list n n' e d) x x' h v = few_wider d x.body.child x'.body.child h.same_body.same_child_lem v
few_wider (w_sparse ids e d) x x' h v = λ c q.
    few_wider (d c (declares c ids q)) (x.body.children c) (x'.body.children c) (h.same_body.same_children c (declares c ids q)) (v c q)
few_wider (w_dense ids e d) x x' h v = λ c q.
    few_wider (d c (declares c ids q)) (x.body.children c) (x'.body.children c) (h.same_body.same_children c (declares c ids q)) (v c q)
few_wider (w_run_end n n' e d) x x' h v = few_wider d x.body.values x'.body.values h.same_body.same_values v
few_wider (w_dictionary k k' e d) x x' h v = tt

-- "within 01's limits": the wide type is one of 01's, and the wide sources stand in one body
module _ {t t' : Ty} (w : Wider t t') (gaps u : Bool) (m : ℕ) (body body' : List ℕ) (ss : ℕ → Column t) (ss' : ℕ → Column t')
    (given : Sources t body m ss) (formed' : Formed t') (stand' : (j : ℕ) → j < m → EachDictionary (Stands body') t' (ss' j).body) (again : Again w m ss ss')
    (d : Destination t) (opened : try_with_capacities gaps t u m ss ≡ done d) where
  -- then they are sources of a join too
  pub given' : Sources t' body' m ss'
  given' =
      record {
        formed = formed';
        some = given.some;
        few = given.few;
        obey = again_sources w m ss ss' again given.obey;
        few_buffers_lem = λ j q. few_wider w (ss j) (ss' j) (again.each j q) (given.few_buffers_lem j q);
        stand = stand';
      }

  -- the accepted ones of a list of orders
  abbrev pub made : List Call → List Call
  made os = accepted t (keeps u m ss) m ss os (start_counts gaps t)

  pub record Wide (os : List Call) : Type 0 where
    pub opens : try_with_capacities gaps t' u m ss' ≡ done (start gaps t' u m ss')
    pub accepts : AllAccepted t' (keeps u m ss') m ss' (made os) (start_counts gaps t')
    pub same_rows : read_all t (into_builder t m ss (perform_all t m ss os d)) ≡ read_all t' (into_builder t' m ss' (perform_all t' m ss' (made os) (start gaps t' u m ss')))

  pub stored_wider : (os : List Call) → Wide os
  stored_wider os =
      let x = made_again w given.formed formed' gaps u m ss ss' again given.obey d opened os in
      record {
        opens = x.opened;
        accepts = x.all_accepted;
        same_rows = the_book gaps t body m ss u given d opened os ∙ x.same_rows
            ∙ sym (the_book gaps t' body' m ss' u given' (start gaps t' u m ss') x.opened (made os));
      }
