-- The numbers of an explanation, written one after the other. Assumes nothing.
use mathlib.Core.Path.{◌≡◌, refl, ◌∙◌}
use mathlib.Core.Bool.{Bool, true, false, cond}
use mathlib.Core.List.{List, [], ◌∷◌}
use Prim.Native.Nat.{ℕ}
use native.Mathlib.Omega.{arith}
use lib.ListN.{length, set, length-set}
use lib.Dec.{eqb}
use borrow.Author.Tests.{eq-eqb, ne_eqb, eqb-true}
use Rattle.explain.specs.declared.stops.Why.{Why}
use Rattle.explain.specs.declared.stops.WhyListed.{WhyListed}
use Rattle.lafkuno_why.specs.Why.{why_answer, listed_answer}

pub no_room : (w : Why) (s : List ℕ) → (length s ≡ 5 → ⊥) → s ≡ why_answer w s
unfolding why_answer
no_room w s h = rw (ne_eqb (length s) 5 h) refl

pub no_list_room : (w : WhyListed) (s : List ℕ) → (length s ≡ 6 → ⊥) → s ≡ listed_answer w s
unfolding listed_answer
no_list_room w s h = rw (ne_eqb (length s) 6 h) refl

-- writes leave the length
pub four_set : (s : List ℕ) (a b c d : ℕ) → length (set (set (set (set s 0 a) 1 b) 2 c) 3 d) ≡ length s
four_set s a b c d = length-set (set (set (set s 0 a) 1 b) 2 c) 3 d ∙ length-set (set (set s 0 a) 1 b) 2 c ∙ length-set (set s 0 a) 1 b ∙ length-set s 0 a

pub five_set : (s : List ℕ) (a b c d e : ℕ) → length (set (set (set (set (set s 0 a) 1 b) 2 c) 3 d) 4 e) ≡ length s
five_set s a b c d e = length-set (set (set (set (set s 0 a) 1 b) 2 c) 3 d) 4 e ∙ four_set s a b c d

set_five : (s : List ℕ) (a b c d e : ℕ) → length s ≡ 5 → set (set (set (set (set s 0 a) 1 b) 2 c) 3 d) 4 e ≡ a ∷ b ∷ c ∷ d ∷ e ∷ []
set_five [] a b c d e h = absurd (omega arith)
set_five (x0 ∷ []) a b c d e h = absurd (omega arith)
set_five (x0 ∷ x1 ∷ []) a b c d e h = absurd (omega arith)
set_five (x0 ∷ x1 ∷ x2 ∷ []) a b c d e h = absurd (omega arith)
set_five (x0 ∷ x1 ∷ x2 ∷ x3 ∷ []) a b c d e h = absurd (omega arith)
set_five (x0 ∷ x1 ∷ x2 ∷ x3 ∷ x4 ∷ []) a b c d e h = refl
set_five (x0 ∷ x1 ∷ x2 ∷ x3 ∷ x4 ∷ x5 ∷ s) a b c d e h = absurd (omega arith)

set_six : (s : List ℕ) (a b c d e f : ℕ) → length s ≡ 6 → set (set (set (set (set (set s 0 a) 1 b) 2 c) 3 d) 4 e) 5 f ≡ a ∷ b ∷ c ∷ d ∷ e ∷ f ∷ []
set_six [] a b c d e f h = absurd (omega arith)
set_six (x0 ∷ []) a b c d e f h = absurd (omega arith)
set_six (x0 ∷ x1 ∷ []) a b c d e f h = absurd (omega arith)
set_six (x0 ∷ x1 ∷ x2 ∷ []) a b c d e f h = absurd (omega arith)
set_six (x0 ∷ x1 ∷ x2 ∷ x3 ∷ []) a b c d e f h = absurd (omega arith)
set_six (x0 ∷ x1 ∷ x2 ∷ x3 ∷ x4 ∷ []) a b c d e f h = absurd (omega arith)
set_six (x0 ∷ x1 ∷ x2 ∷ x3 ∷ x4 ∷ x5 ∷ []) a b c d e f h = refl
set_six (x0 ∷ x1 ∷ x2 ∷ x3 ∷ x4 ∷ x5 ∷ x6 ∷ s) a b c d e f h = absurd (omega arith)

pub five_put : (w : Why) (s : List ℕ) → length s ≡ 5 → set (set (set (set (set s 0 w.refusal) 1 w.node) 2 w.row) 3 w.needed) 4 w.allowed ≡ why_answer w s
unfolding why_answer
five_put w s h = rw (eq-eqb (length s) 5 h) (set_five s w.refusal w.node w.row w.needed w.allowed h)

pub six_put : (w : WhyListed) (s : List ℕ) → length s ≡ 6 → set (set (set (set (set (set s 0 w.why.refusal) 1 w.why.node) 2 w.why.row) 3 w.why.needed) 4 w.why.allowed) 5 w.place ≡ listed_answer w s
unfolding listed_answer
six_put w s h = rw (eq-eqb (length s) 6 h) (set_six s w.why.refusal w.why.node w.why.row w.why.needed w.why.allowed w.place h)

-- as many numbers as before
pub why_long : (w : Why) (s : List ℕ) → length (why_answer w s) ≡ length s
unfolding why_answer
why_long w s = go (eqb (length s) 5) refl
  where
    go : (b : Bool) → eqb (length s) 5 ≡ b → length (cond b (w.refusal ∷ w.node ∷ w.row ∷ w.needed ∷ w.allowed ∷ []) s) ≡ length s
    go true e = omega (arith, eqb-true (length s) 5 e)
    go false e = refl

pub listed_long : (w : WhyListed) (s : List ℕ) → length (listed_answer w s) ≡ length s
unfolding listed_answer
listed_long w s = go (eqb (length s) 6) refl
  where
    go : (b : Bool) → eqb (length s) 6 ≡ b → length (cond b (w.why.refusal ∷ w.why.node ∷ w.why.row ∷ w.why.needed ∷ w.why.allowed ∷ w.place ∷ []) s) ≡ length s
    go true e = omega (arith, eqb-true (length s) 6 e)
    go false e = refl
