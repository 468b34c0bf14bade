-- Run ends in the bytes of a destination, after a copy was written behind them. Assumes nothing.
use mathlib.Core.Path.{◌≡◌, refl, sym, ap, ◌∙◌}
use mathlib.Core.Bool.{Bool, true, false, cond}
use mathlib.Core.Logic.{⊎_elim}
use Prim.Native.Nat.{ℕ, zero, suc, ◌+◌, ◌*◌, ◌-◌, ◌/◌, ◌^◌, ◌≤◌, ◌<◌}
use native.Mathlib.Nat.{eq-or-lt_of_le, mod-eq_of_lt, mul-suc, mul-add, mul-le-mul_left}
use native.Mathlib.Numerals.{add-one}
use native.Mathlib.Omega.{arith}
use mathlib.Core.List.{List, [], ◌∷◌, ◌++◌, append_assoc}
use lib.ListN.{length, take, drop, length-drop, take-append-drop}
use lib.Seq.{drop-drop, drop_at, drop-append-le, length-take-le}
use lib.Dec.{ltb}
use borrow.Author.Tests.{ltb-true, ltb-false}
use Rattle.number.specs.Number.{number, entry, encode, splice}
use Rattle.number.proofs.Laws.{number_encode, read_write}
use Rattle.run_ends.specs.Lookup.{first, Climbs, Covers, first_above, Rising}
use Rattle.run_ends.specs.Clip.{clip, clipped_end, followed, Ending, clipped}
use Rattle.run_ends.proofs.Search.{First, first_is, first_of_lem}
use Rattle.run_ends.proofs.Laws.{length_clipped}
use Rattle.run_ends.proofs.copies.Extend.{entry_shift}
use Rattle.run_ends.proofs.copies.Joined.{ending_le, row_new, row_old, copy_ending, null_new, null_old, null_ending}

-- the run of a row depends on the n ends alone
pub first_same : (e f : ℕ → ℕ) (n x : ℕ) → ((k : ℕ) → k < n → e k ≡ f k) → first e n x ≡ first f n x
first_same e f n x h =
    let g : First f n x (first f n x) = first_is f n x in
    first_of_lem e n x
    (record {
      within = g.within;
      before = λ k l. rw (h k (omega (arith, g.within))) (g.before k l);
      above = λ l. rw (h (first f n x) l) (g.above l);
    })

-- the same of what they rise to
pub ending_same : (e f : ℕ → ℕ) (n last : ℕ) → ((k : ℕ) → k < n → f k ≡ e k) → Ending e n last → Ending f n last
ending_same e f n last g d = record {
  climbs = record {
    start = λ h. rw (g 0 h) (d.climbs.start h);
    rises = λ k h. rw (g k (omega arith), g (k + 1) h) (d.climbs.rises k h);
  };
  none = d.none;
  ends = λ h. g (n - 1) (omega arith) ∙ d.ends h;
}

number_append : (w : ℕ) (x y : List ℕ) → w ≤ length x → number w (x ++ y) ≡ number w x
unfolding number
number_append zero x y h = refl
number_append (suc w) [] y h = absurd (omega arith)
number_append (suc w) (b ∷ x) y h = ap (λ (r : ℕ). b + 256 * r) (number_append w x y (omega arith))

-- a number that stands before a write keeps its value
pub number_kept : (w q at : ℕ) (bs s : List ℕ) → q + w ≤ at → at ≤ length s → number w (drop q (splice at bs s)) ≡ number w (drop q s)
unfolding splice
number_kept w q at bs s h g =
    let l : length (take at s) ≡ at = length-take-le at s g in
    let i : w ≤ length (drop q (take at s)) = simp (length-drop, l) (omega arith) in
    let a : number w (drop q (take at s ++ (bs ++ drop (at + length bs) s))) ≡ number w (drop q (take at s))
    = rw (drop-append-le q (take at s) (bs ++ drop (at + length bs) s) (omega arith)) (number_append w _ _ i) in
    let b : number w (drop q (take at s ++ drop at s)) ≡ number w (drop q (take at s))
    = rw (drop-append-le q (take at s) (drop at s) (omega arith)) (number_append w _ _ i) in
    rw append_assoc (a ∙ sym b ∙ rw (take-append-drop))

-- ---- clipped run ends, read back

module _ (w : ℕ) (s : List ℕ) (from start end last : ℕ) (fits : last + (end - start) < 256 ^ w / 2) where
  small : (k : ℕ) → last + clip (entry w s from k) start end < 256 ^ w
  small k = omega arith

  clipped_number : (m k : ℕ) (t : List ℕ) → k < m
      → number w (drop (w * k) (clipped w s from m start end last ++ t)) ≡ last + clip (entry w s from k) start end
  unfolding clipped
  clipped_number zero k t h = absurd (omega arith)
  clipped_number (suc m) k t h =
      rw append_assoc
      (⊎_elim
      (λ (q : k ≡ m).
      rw (q, drop_at (clipped w s from m start end last) _ (w * m) (length_clipped w s from start end last m), number_encode) (mod-eq_of_lt (small m)))
      (λ (q : k < m). clipped_number m k _ q)
      (eq-or-lt_of_le (omega arith)))

  pub clipped_entry : (room : List ℕ) (at m k : ℕ) → at + w * m ≤ length room → k < m
      → entry w (splice at (clipped w s from m start end last) room) at k ≡ last + clip (entry w s from k) start end
  unfolding splice
  clipped_entry room at m k h g =
      rw (← drop-drop (w * k) at (splice at (clipped w s from m start end last) room), append_assoc, drop_at (take at room) _ at (length-take-le at room (omega arith))) (clipped_number m k _ g)

-- ---- a copy behind p run ends that stand in room from the byte `to` on

module _ (w : ℕ) (s : List ℕ) (from n start end last : ℕ) (room : List ℕ) (to p : ℕ) where
  abbrev pub First-run : ℕ
  First-run = first_above w s from n start

  abbrev pub Runs-copied : ℕ
  Runs-copied = first_above w s from n (end - 1) - First-run + 1

  -- the room with the clipped run ends of the range written
  abbrev pub Copied : List ℕ
  Copied = splice (to + w * p) (clipped w s (from + w * First-run) Runs-copied start end last) room

  abbrev Both : ℕ → ℕ
  Both = followed (entry w room to) p (clipped_end (entry w s from) First-run start end last)

  module _ (fits : last + (end - start) < 256 ^ w / 2) (space : to + w * (p + Runs-copied) ≤ length room) where
    pub copied_entry : (k : ℕ) → k < p + Runs-copied → entry w Copied to k ≡ Both k
    copied_entry k h = go (ltb k p) refl
      where
        sum : w * (p + Runs-copied) ≡ w * p + w * Runs-copied
        sum = mul-add w p Runs-copied

        go : (t : Bool) → ltb k p ≡ t → entry w Copied to k ≡ cond t (entry w room to k) (clipped_end (entry w s from) First-run start end last (k - p))
        go true q =
            let u : w * suc k ≤ w * p = mul-le-mul_left w (ltb-true k p q) in
            let z : w * suc k ≡ w * k + w = mul-suc w k in
            number_kept w (to + w * k) (to + w * p) _ room (omega arith) (omega (arith, sum))
        go false q =
            let u : p ≤ k = ltb-false k p q in
            let z : p + (k - p) ≡ k = omega arith in
            rw z at (sym (entry_shift w Copied to p (k - p))) ∙
            clipped_entry w s (from + w * First-run) start end last fits room (to + w * p) Runs-copied (k - p) (omega (arith, sum)) (omega arith) ∙
            rw (entry_shift w s from First-run (k - p))

    module _ (c : Climbs (entry w s from) n) (l : start < end) (v : Covers (entry w s from) n end) (d : Ending (entry w room to) p last) where
      -- each new row has the copy of its source row's run
      pub copied_new : (i : ℕ) → i < end - start → first_above w Copied to (p + Runs-copied) (last + i) ≡ p + (first_above w s from n (start + i) - First-run)
      copied_new i h =
          first_same (entry w Copied to) Both (p + Runs-copied) (last + i) copied_entry ∙
          row_new (entry w s from) n start end last c l v (entry w room to) p d i h

      -- each earlier row has the run that it had
      pub copied_old : (x : ℕ) → x < last → first_above w Copied to (p + Runs-copied) x ≡ first_above w room to p x
      copied_old x h =
          first_same (entry w Copied to) Both (p + Runs-copied) x copied_entry ∙
          row_old (entry w s from) n start end last c l v (entry w room to) p d x h

      -- the run ends rise to last + (end - start)
      pub copied_ending : Ending (entry w Copied to) (p + Runs-copied) (last + (end - start))
      copied_ending =
          ending_same Both (entry w Copied to) (p + Runs-copied) (last + (end - start)) copied_entry
          (copy_ending (entry w s from) n start end last c l v (entry w room to) p d)

-- ---- one run of n rows behind p run ends, for a nonempty null order

module _ (w last n : ℕ) (room : List ℕ) (to p : ℕ) where
  abbrev pub Nulled : List ℕ
  Nulled = splice (to + w * p) (encode w (last + n)) room

  abbrev With : ℕ → ℕ
  With = followed (entry w room to) p (λ k. last + n)

  module _ (fits : last + n < 256 ^ w / 2) (space : to + w * (p + 1) ≤ length room) where
    pub nulled_entry : (k : ℕ) → k < p + 1 → entry w Nulled to k ≡ With k
    nulled_entry k h = go (ltb k p) refl
      where
        sum : w * (p + 1) ≡ w * p + w
        sum = rw (add-one, mul-suc)

        go : (t : Bool) → ltb k p ≡ t → entry w Nulled to k ≡ cond t (entry w room to k) (last + n)
        go true q =
            let u : w * suc k ≤ w * p = mul-le-mul_left w (ltb-true k p q) in
            let z : w * suc k ≡ w * k + w = mul-suc w k in
            number_kept w (to + w * k) (to + w * p) _ room (omega arith) (omega (arith, sum))
        go false q =
            let u : p ≤ k = ltb-false k p q in
            let z : k ≡ p = omega arith in
            rw z (read_write w (to + w * p) (last + n) room (omega (arith, sum)) ∙ mod-eq_of_lt (omega arith))

    module _ (some : 0 < n) (d : Ending (entry w room to) p last) where
      pub nulled_new : (i : ℕ) → i < n → first_above w Nulled to (p + 1) (last + i) ≡ p
      nulled_new i h =
          first_same (entry w Nulled to) With (p + 1) (last + i) nulled_entry ∙ null_new (entry w room to) p last d n some i h

      pub nulled_old : (x : ℕ) → x < last → first_above w Nulled to (p + 1) x ≡ first_above w room to p x
      nulled_old x h =
          first_same (entry w Nulled to) With (p + 1) x nulled_entry ∙ null_old (entry w room to) p last d n some x h

      pub nulled_ending : Ending (entry w Nulled to) (p + 1) (last + n)
      nulled_ending = ending_same With (entry w Nulled to) (p + 1) (last + n) nulled_entry (null_ending (entry w room to) p last d n some)

-- run ends whose last fits are run ends as a source has them
pub ending_rising : (w : ℕ) (s : List ℕ) (from n last : ℕ) → Ending (entry w s from) n last → last < 256 ^ w / 2 → Rising w s from n
ending_rising w s from n last e h = record { climbs = e.climbs; small = λ k g. omega (arith, ending_le e k g) }
