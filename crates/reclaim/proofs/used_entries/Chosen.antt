-- Chosen entries, one more after the other. Assumes nothing.
use mathlib.Core.Path.{◌≡◌, refl, sym, ap, ap₂, ◌∙◌}
use mathlib.Core.Bool.{Bool, true, false, cond}
use mathlib.Core.List.{List, [], ◌++◌, append-nil}
use Prim.Native.Nat.{ℕ, zero, suc, ◌+◌, ◌*◌, ◌≤◌, ◌<◌}
use native.Mathlib.Nat.{add-zero, mul-suc}
use native.Mathlib.Decide.{ℕ_discrete}
use native.Mathlib.Omega.{arith}
use lib.ListN.{length, get_or, take, drop, length-append, length-drop}
use lib.Seq.{length-take-le, get_or-drop}
use Rattle.number.specs.Number.{entry, encode, splice}
use Rattle.number.proofs.Laws.{length_encode, encode_number, splice_splice, splice_nil}
use Rattle.reclaim.specs.used_entries.Chosen.{chosen}

module _ (body : List ℕ) (from w : ℕ) (u : ℕ → Bool) where
  abbrev those : ℕ → List ℕ
  those n = chosen body from w u n

  pub chosen_none : those 0 ≡ []
  unfolding chosen
  chosen_none = refl

  pub chosen_same : (n : ℕ) → u n ≡ false → those (suc n) ≡ those n
  unfolding chosen
  chosen_same n h = rw h (append-nil (those n))

  pub chosen_more : (n : ℕ) → u n ≡ true → those (suc n) ≡ those n ++ take w (drop (from + w * n) body)
  unfolding chosen
  chosen_more n h = rw h

  grows : (n : ℕ) → length (those n) ≤ length (those (suc n))
  unfolding chosen
  grows n = omega (arith, length-append (those n) (cond (u n) (take w (drop (from + w * n) body)) []))

  pub chosen_up : (n m : ℕ) → n ≤ m → length (those n) ≤ length (those m)
  chosen_up n zero h = let z : n ≡ 0 = omega arith in rw z (omega arith)
  chosen_up n (suc m) h = by (ℕ_discrete n (suc m)) (λ l. chosen_up n m l)
    where
      by : Dec (n ≡ suc m) → (n ≤ m → length (those n) ≤ length (those m)) → length (those n) ≤ length (those (suc m))
      by (yes z) f = rw z (omega arith)
      by (no z) f = let l : n ≤ m = omega (arith, z) in omega (arith, f l, grows m)

  module _ (n : ℕ) (inside : from + w * suc n ≤ length body) where
    entry_in_lem : from + w * n + w ≤ length body
    entry_in_lem = omega (arith, mul-suc w n)

    pub entry_length : length (take w (drop (from + w * n) body)) ≡ w
    entry_length = length-take-le w (drop (from + w * n) body) (rw length-drop (omega (arith, entry_in_lem)))

    pub length_more : u n ≡ true → length (those (suc n)) ≡ length (those n) + w
    length_more h = ap length (chosen_more n h) ∙ length-append (those n) (take w (drop (from + w * n) body)) ∙ ap (length (those n) +◌) entry_length

    -- ONE MORE ENTRY, written as a number
    pub chosen_step : ((i : ℕ) → get_or body i 0 < 256) → u n ≡ true → (to o v : ℕ) (room room' old : List ℕ) → to + length (those (suc n)) ≤ length old → o ≡ to + length (those n)
        → room ≡ splice to (those n) old → v ≡ entry w body from n → room' ≡ splice o (encode w v) room → room' ≡ splice to (those (suc n)) old
    chosen_step small h to o v room room' old l p q e r =
        let bytes : encode w v ≡ take w (drop (from + w * n) body)
        = ap (encode w) e ∙ encode_number w (drop (from + w * n) body) (rw length-drop (omega (arith, entry_in_lem))) (λ i. rw get_or-drop (small (from + w * n + i))) in
        let long : length (take w (drop (from + w * n) body)) ≡ w = entry_length in
        let grown : length (those (suc n)) ≡ length (those n) + w = length_more h in
        r ∙ ap₂ (λ a b. splice a b room) p bytes ∙ ap (splice (to + length (those n)) (take w (drop (from + w * n) body))) q
        ∙ splice_splice to (those n) (take w (drop (from + w * n) body)) old (omega arith)
        ∙ ap (λ b. splice to b old) (sym (chosen_more n h))
