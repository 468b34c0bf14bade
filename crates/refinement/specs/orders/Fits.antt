-- Ground 13 in the model's terms: the parts hold a destination's bytes (01: "a part can't hold its bytes after the call, validity
-- dropped later included"). Assumes nothing.
use Rattle.std.specs.Prelude.{Bool, true, cond, ◌&&◌, ℕ, suc, ◌+◌, ◌/◌, length, leb}
use Rattle.std.proofs.Math.Option.{Option}
use mathlib.Core.List.{List, [], ◌∷◌, ◌++◌, foldl}
use Rattle.columnar.specs.Row.{Row}
use Rattle.columnar.specs.Types.{Plain, fixed, string, Ty, t_plain, t_view, t_list_view, t_list, t_sparse, t_dense, t_run_end, t_dictionary}
use Rattle.columnar.specs.Plain.{PlainBody}
use Rattle.columnar.specs.Reading.{Column, masks}
use Rattle.columnar.specs.Test.{each}
use Rattle.model.specs.Try.{Try, done, stop, then, guard, after}
use Rattle.model.specs.Mutable.{Mutable, keeps_bits}
use Rattle.model.specs.Transform.{Grown, Destination}
use Rattle.model.specs.Book.{Call, entered}
use Rattle.model.specs.Orders.{perform}
use Rattle.refinement.specs.walk_is_model.Holds.{child_of}
use Rattle.plan.specs.parts.Parts.{size_of}

-- a node's own buffers, in the format's order
abbrev pub plain_buffers : (p : Plain) → PlainBody p → List (List ℕ)
plain_buffers (fixed n) d = d ∷ []
plain_buffers (string w) d = d.offsets ∷ d.chars ∷ []

abbrev pub buffers_of : (t : Ty) → Grown t → List (List ℕ)
buffers_of (t_plain p) d = plain_buffers p d
buffers_of t_view d = d ∷ []
buffers_of (t_list_view w t) d = d.buffer1 ∷ d.buffer2 ∷ []
buffers_of (t_list w t) d = d.buffer1 ∷ []
buffers_of (t_sparse ids nullable f) d = d.buffer1 ∷ []
buffers_of (t_dense ids nullable f) d = d.buffer1 ∷ d.buffer2 ∷ []
buffers_of (t_run_end w t) d = []
buffers_of (t_dictionary n p) d = d ∷ []

module _ (plan parts : List ℕ) where
  -- a bit for each row, where the node keeps nulls and has validity
  abbrev pub fits_bits : ℕ → Bool → Option (List Bool) → ℕ → Bool
  fits_bits i masks bits n = cond (keeps_bits bits && masks) (leb ((n + 7) / 8) (size_of plan parts i 0)) true

  -- buffers number b + 1, b + 2, .. of node i
  abbrev pub fits_all : ℕ → ℕ → List (List ℕ) → Bool
  fits_all i b [] = true
  fits_all i b (s ∷ ss) = leb (length s) (size_of plan parts i (suc b)) && fits_all i (suc b) ss

  abbrev pub fits_node : {D : Type 0} → ℕ → Bool → (D → List (List ℕ)) → (D → Bool) → Mutable D → Bool
  fits_node i masks bufs below d = fits_bits i masks d.bits d.len && fits_all i 0 (bufs d.«data») && below d.«data»

  -- the nodes below node i
  abbrev pub fits_below : (t : Ty) → ℕ → Grown t → Bool
  fits_below (t_plain p) i d = true
  fits_below t_view i d = true
  fits_below (t_list_view w t) i d = fits_node (suc i) (masks t) (buffers_of t) (fits_below t (suc i)) d.child
  fits_below (t_list w t) i d = fits_node (suc i) (masks t) (buffers_of t) (fits_below t (suc i)) d.child
  fits_below (t_sparse ids nullable f) i d = each (λ e. fits_node (child_of plan i e) (masks (f e)) (buffers_of (f e)) (fits_below (f e) (child_of plan i e)) (d.children e)) ids
  fits_below (t_dense ids nullable f) i d = each (λ e. fits_node (child_of plan i e) (masks (f e)) (buffers_of (f e)) (fits_below (f e) (child_of plan i e)) (d.children e)) ids
  fits_below (t_run_end w t) i d =
      leb (length d.ends.«data») (size_of plan parts (suc i) 1)
      && fits_node (suc (suc i)) (masks t) (buffers_of t) (fits_below t (suc (suc i))) d.values
  fits_below (t_dictionary n p) i d = true

  -- THE PARTS HOLD THE DESTINATION from node i on
  abbrev pub fits : (t : Ty) → ℕ → Destination t → Bool
  fits t i = fits_node i (masks t) (buffers_of t) (fits_below t i)

  module _ (t : Ty) (m : ℕ) (ss : ℕ → Column t) where
    -- "1, 2, then as the Rust meets them .., 13 last"
    abbrev pub answer_in : Call → Destination t → Try (Destination t)
    answer_in o d = then (perform t m ss o d) (λ d'. guard (fits t 0 d') 13 (done d'))

    -- any list of calls; a refused one changes nothing
    abbrev pub answers_in : List Call → Destination t → Destination t
    answers_in os d = foldl (λ e o. after (answer_in o e) e) d os

    -- the book of the calls that are accepted here
    abbrev pub book_in : Bool → List Call → Destination t → List Row
    book_in keep [] d = []
    book_in keep (o ∷ os) d = elim (answer_in o d) [ done d' ↦ entered t keep m ss o ++ book_in keep os d' | stop g ↦ book_in keep os d ]
