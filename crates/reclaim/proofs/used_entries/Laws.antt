-- The laws of entries in use: where a key falls in a block, what a row marks, and how ranks grow. Assumes nothing.
use mathlib.Core.Path.{◌≡◌, refl, sym, ap, ap₂, ◌∙◌}
use mathlib.Core.Bool.{Bool, true, false, not, cond, ◌&&◌, ◌||◌, true≢false}
use mathlib.Core.List.{List, [], ◌∷◌}
use Prim.Native.Nat.{ℕ, suc, ◌+◌, ◌*◌, ◌-◌, ◌≤◌, ◌<◌}
use native.Mathlib.Nat.{add-zero, zero-add}
use native.Mathlib.Decide.{ℕ_discrete}
use native.Mathlib.Omega.{arith}
use lib.ListN.{length, get_or, set, length-append}
use lib.Seq.{get_or-set_same, get_or-set_other}
use lib.Dec.{leb, ltb, eqb}
use borrow.Author.Tests.{leb-true, lt-ltb, le-ltb, le-leb, lt-leb, eqb-true, eq-eqb}
use Rattle.anew.specs.runs.Runs.{those}
use Rattle.anew.proofs.runs.Those.{those_few, those_split}
use Rattle.anew.specs.entries.Used.{some_below}
use Rattle.number.specs.Number.{entry}
use Rattle.bits.specs.Bits.{bits}
use Rattle.reclaim.specs.used_entries.Keys.{Keys, slot_valid, valid_of, key_of, names, used, rank, slot_in}

or_true : (b c : Bool) → c ≡ true → b || c ≡ true
or_true true c e = refl
or_true false c e = e

or_false : (b c : Bool) → c ≡ false → b || c ≡ b
or_false true c e = refl
or_false false c e = e

module _ (x : Keys) where
  -- ---- where a key falls

  pub slot_null : (b n r : ℕ) → valid_of x r ≡ false → 512 ≡ slot_in x b n r
  unfolding slot_in
  slot_null b n r e = rw e

  pub slot_low : (b n r : ℕ) → key_of x r < b → 512 ≡ slot_in x b n r
  unfolding slot_in
  slot_low b n r l = go (valid_of x r)
    where
      go : (v : Bool) → 512 ≡ cond (v && leb b (key_of x r) && ltb (key_of x r - b) n) (key_of x r - b) 512
      go true = rw (lt-leb b (key_of x r) l)
      go false = refl

  pub slot_high : (b n r : ℕ) → n ≤ key_of x r - b → 512 ≡ slot_in x b n r
  unfolding slot_in
  slot_high b n r l = go (valid_of x r) (leb b (key_of x r))
    where
      go : (v w : Bool) → 512 ≡ cond (v && w && ltb (key_of x r - b) n) (key_of x r - b) 512
      go true true = rw (le-ltb (key_of x r - b) n l)
      go true false = refl
      go false w = refl

  pub slot_in_lem : (b n r : ℕ) → valid_of x r ≡ true → b ≤ key_of x r → key_of x r - b < n → key_of x r - b ≡ slot_in x b n r
  unfolding slot_in
  slot_in_lem b n r v l h = rw (v, le-leb b (key_of x r) l, lt-ltb (key_of x r - b) n h)

  -- a slot in the block is that of the entry that the row names ..
  pub slot_names : (b n r j : ℕ) → slot_in x b n r ≡ j → j < 512 → names x (b + j) r ≡ true
  unfolding slot_in
  slot_names b n r j e l = go (valid_of x r) refl (leb b (key_of x r)) refl (ltb (key_of x r - b) n) e
    where
      go : (v : Bool) → valid_of x r ≡ v → (w : Bool) → leb b (key_of x r) ≡ w → (u : Bool) → cond (v && w && u) (key_of x r - b) 512 ≡ j → v && eqb (key_of x r) (b + j) ≡ true
      go true p true q true h = eq-eqb (key_of x r) (b + j) (omega (arith, leb-true b (key_of x r) q))
      go true p true q false h = absurd (omega arith)
      go true p false q u h = absurd (omega arith)
      go false p w q u h = absurd (omega arith)

  -- .. and the entry that a row names stands at its slot
  pub names_slot : (b n r j : ℕ) → names x (b + j) r ≡ true → j < n → slot_in x b n r ≡ j
  names_slot b n r j e l = go (valid_of x r) refl e
    where
      go : (v : Bool) → valid_of x r ≡ v → v && eqb (key_of x r) (b + j) ≡ true → slot_in x b n r ≡ j
      go true p h =
          let k : key_of x r ≡ b + j = eqb-true (key_of x r) (b + j) h in
          sym (slot_in_lem b n r p (omega arith) (omega arith)) ∙ (let z : key_of x r - b ≡ j = omega arith in z)
      go false p h = absurd (true≢false (sym h))

  -- ---- what a row marks

  pub mark_step : (b n r j s : ℕ) (m : List ℕ) → n ≤ 512 → length m ≡ 513 → j < n → s ≡ slot_in x b n r → s ≤ 512 → get_or m j 0 ≡ cond (some_below (names x (b + j)) r) 1 0
      → get_or (set m s 1) j 0 ≡ cond (some_below (names x (b + j)) (suc r)) 1 0
  mark_step b n r j s m few long l e small old = go (ℕ_discrete s j)
    where
      go : Dec (s ≡ j) → get_or (set m s 1) j 0 ≡ cond (some_below (names x (b + j)) r || names x (b + j) r) 1 0
      go (yes q) =
          ap (λ i. get_or (set m i 1) j 0) q ∙ get_or-set_same m j 1 0 (omega arith)
          ∙ ap (λ v. cond v 1 0) (sym (or_true (some_below (names x (b + j)) r) (names x (b + j) r) (slot_names b n r j (sym e ∙ q) (omega arith))))
      go (no q) =
          get_or-set_other m s j 1 0 (λ z. q (sym z)) ∙ old
          ∙ ap (λ v. cond v 1 0) (sym (or_false (some_below (names x (b + j)) r) (names x (b + j) r) (other (names x (b + j) r) refl)))
        where
          other : (v : Bool) → names x (b + j) r ≡ v → names x (b + j) r ≡ false
          other true p = absurd (q (e ∙ names_slot b n r j p l))
          other false p = p

  pub marks_used : (e : ℕ) → ◌≡◌ {A = ℕ} (cond (some_below (names x e) x.len) 1 0) (cond (used x e) 1 0)
  unfolding used
  marks_used e = refl

  -- ---- ranks

  pub rank_none : rank x 0 ≡ 0
  unfolding rank
  rank_none = refl

  pub rank_le : (e : ℕ) → rank x e ≤ e
  unfolding rank
  rank_le e = those_few (used x) e 0

  one : (b : Bool) (e : ℕ) → length (cond b (e ∷ []) []) ≡ cond b 1 0
  one true e = refl
  one false e = refl

  -- one more where the entry is in use
  pub rank_more : (e : ℕ) → rank x (e + 1) ≡ rank x e + cond (used x e) 1 0
  unfolding rank
  rank_more e =
      ap length (those_split (used x) e 1 0) ∙ length-append (those (used x) 0 e) (those (used x) (0 + e) 1)
      ∙ ap (λ i. length (those (used x) 0 e) + length (those (used x) i 1)) (zero-add e)
      ∙ ap (λ i. length (those (used x) 0 e) + i) (one (used x e) e)

-- ---- slots

pub bit_none : (body : List ℕ) (masked : Bool) (mask k : ℕ) → masked ≡ false → true ≡ slot_valid body masked mask k
unfolding slot_valid
bit_none body masked mask k e = rw e

pub bit_there : (body : List ℕ) (masked : Bool) (mask k b : ℕ) → masked ≡ true → b ≡ get_or (bits body) (8 * mask + k) 0 → eqb b 1 ≡ slot_valid body masked mask k
unfolding slot_valid
bit_there body masked mask k b e q = rw (e, q)

module _ (x : Keys) where
  pub valid_is : (r : ℕ) (v : Bool) → v ≡ slot_valid x.body x.masked x.mask (x.off + r) → valid_of x r ≡ v
  unfolding valid_of
  valid_is r v e = sym e

  pub key_is : (r k : ℕ) → k ≡ entry x.wide x.body x.at (x.off + r) → key_of x r ≡ k
  unfolding key_of
  key_is r k e = sym e

pub not_true : (b : Bool) → not b ≡ true → b ≡ false
not_true true e = sym e
not_true false e = refl

pub not_false : (b : Bool) → not b ≡ false → b ≡ true
not_false true e = refl
not_false false e = sym e

pub one_most : (b : Bool) → cond b 1 0 ≤ 1
one_most true = omega arith
one_most false = omega arith

module _ (x : Keys) where
  -- the ranks of a block begin with the first one's ..
  pub ranks_begin : (b s : ℕ) (m : List ℕ) → 0 < length m → s ≡ rank x b → (i : ℕ) → i ≤ 0 → get_or (set m 0 s) i 0 ≡ rank x (b + i)
  ranks_begin b s m l e i h = let z : i ≡ 0 = omega arith in rw z (get_or-set_same m 0 s 0 l ∙ e ∙ ap (rank x) (sym (add-zero b)))

  -- .. and each is that before it, and one more where that entry is in use
  pub ranks_step : (b j v u : ℕ) (m : List ℕ) → j + 1 < length m → u ≡ cond (used x (b + j)) 1 0 → v ≡ get_or m j 0 + u → ((i : ℕ) → i ≤ j → get_or m i 0 ≡ rank x (b + i))
      → (i : ℕ) → i ≤ j + 1 → get_or (set m (j + 1) v) i 0 ≡ rank x (b + i)
  ranks_step b j v u m l e q h i k = go (ℕ_discrete i (j + 1))
    where
      go : Dec (i ≡ j + 1) → get_or (set m (j + 1) v) i 0 ≡ rank x (b + i)
      go (yes z) =
          let y : b + j + 1 ≡ b + (j + 1) = omega arith in
          rw z (get_or-set_same m (j + 1) v 0 l ∙ q ∙ ap₂ ◌+◌ (h j (omega arith)) e ∙ sym (rank_more x (b + j)) ∙ ap (rank x) y)
      go (no z) = get_or-set_other m (j + 1) i v 0 z ∙ h i (omega arith)
