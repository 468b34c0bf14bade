-- An accepted copy, taken apart and put together, and its rows cut in two. Assumes nothing.
use mathlib.Core.Path.{◌≡◌, refl, sym, ap, ◌∙◌}
use mathlib.Core.Bool.{Bool, true, false, ◌&&◌}
use mathlib.Core.List.{List, ◌++◌}
use Prim.Native.Nat.{ℕ, ◌+◌, ◌-◌, ◌≤◌, ◌<◌}
use native.Mathlib.Omega.{arith}
use lib.Dec.{ltb, leb}
use borrow.Author.Tests.{ltb-true, leb-true, lt-ltb, le-leb}
use Rattle.columnar.specs.Row.{seg}
use Rattle.columnar.specs.Types.{Ty}
use Rattle.columnar.specs.Reading.{Column, read, Source}
use Rattle.model.specs.Try.{Try, done, stop, guard}
use Rattle.model.specs.Grounds.{Counts, ask_of, ask_copy}
use Rattle.model.specs.Cut.{outside, Cut}
use Rattle.model.specs.Book.{Call, copy, answer, entered}
use Rattle.model.proofs.Book.{and_left, and_right}
use Rattle.model.proofs.Follow.{guard_done}
use Rattle.model.proofs.Rows.{seg_append}
use Rattle.model.proofs.CutTries.{guard_is}
use Rattle.model.proofs.CutLess.{Led}
use Rattle.model.proofs.CutCopy.{copy_cut}

module _ (t : Ty) (keep : Bool) (m : ℕ) (ss : ℕ → Column t) where
  -- a copy that is accepted
  pub record Taken (j a e : ℕ) (c d : Counts) : Type 0 where
    pub source : j < m
    pub in_order_lem : a ≤ e
    pub within : e ≤ (ss j).len
    pub asked : ask_of (ask_copy t) (ss j) a (e - a) c ≡ done d

  pub taken : (j a e : ℕ) (c d : Counts) → answer t keep m ss (copy j a e) c ≡ done d → Taken j a e c d
  taken j a e c d h =
      let p = guard_done (ltb j m) 1 _ d h in
      let q = guard_done (leb a e && leb e (ss j).len) 2 _ d p.1 in
      record {
        source = ltb-true j m p.0;
        in_order_lem = leb-true a e (and_left (leb a e) (leb e (ss j).len) q.0);
        within = leb-true e (ss j).len (and_right (leb a e) (leb e (ss j).len) q.0);
        asked = q.1;
      }

  both : (x y : Bool) → x ≡ true → y ≡ true → x && y ≡ true
  both true y e f = f
  both false y e f = e

  pub take : (j a e : ℕ) (c d : Counts) → Taken j a e c d → answer t keep m ss (copy j a e) c ≡ done d
  take j a e c d h =
      guard_is (ltb j m) 1 _ (lt-ltb j m h.source)
      ∙ guard_is (leb a e && leb e (ss j).len) 2 _ (both _ _ (le-leb a e h.in_order_lem) (le-leb e (ss j).len h.within))
      ∙ h.asked

  -- THE ROWS of the two halves are those of the single order
  pub entered_cut : (j a k e : ℕ) → a ≤ k → k ≤ e → entered t keep m ss (copy j a e) ≡ entered t keep m ss (copy j a k) ++ entered t keep m ss (copy j k e)
  entered_cut j a k e p q =
      let y : k - a + (e - k) ≡ e - a = omega arith in
      let z : a + (k - a) ≡ k = omega arith in
      rw (← y) (seg_append (read t (ss j)) a (k - a) (e - k) ∙ rw z)

  -- AN ORDER CUT IN TWO: where its halves are accepted, one after the other, so is it; and no node of it holds more than theirs
  pub answer_cut : ((j : ℕ) → j < m → Source t (ss j)) → (j a k e : ℕ) (c c₁ c₂ : Counts) → answer t keep m ss (copy j a k) c ≡ done c₁ → answer t keep m ss (copy j k e) c₁ ≡ done c₂
      → Led (λ v. Cut t outside v c₂) (answer t keep m ss (copy j a e) c)
  answer_cut good j a k e c c₁ c₂ p q =
      let f = taken j a k c c₁ p in
      let g = taken j k e c₁ c₂ q in
      let y : k - a + (e - k) ≡ e - a = omega (arith, f.in_order_lem, g.in_order_lem) in
      let z : a + (k - a) ≡ k = omega (arith, f.in_order_lem) in
      let l =
      copy_cut t (ss j) (good j f.source) a (k - a) (e - k) (omega (arith, y, f.in_order_lem, g.in_order_lem, g.within)) c c₁ c₂ f.asked
      (ap (λ i. ask_of (ask_copy t) (ss j) i (e - k) c₁) z ∙ g.asked) in
      record {
        value = l.value;
        is =
            take j a e c l.value
            (record {
              source = f.source;
              in_order_lem = omega (arith, f.in_order_lem, g.in_order_lem);
              within = g.within;
              asked = ap (λ n. ask_of (ask_copy t) (ss j) a n c) (sym y) ∙ l.is;
            });
        holds = l.holds;
      }
