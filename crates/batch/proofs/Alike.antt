-- Logs that do the same to every part. Assumes nothing.
use mathlib.Core.Path.{◌≡◌, refl, sym, ap, ◌∙◌}
use mathlib.Core.Bool.{Bool, true, false, cond, ◌&&◌}
use mathlib.Core.List.{List, [], ◌∷◌, ◌++◌}
use Prim.Native.Nat.{ℕ, ◌+◌, ◌*◌, ◌≤◌}
use native.Mathlib.Omega.{arith}
use lib.ListN.{length, length-append}
use lib.Dec.{eqb}
use borrow.Author.Tests.{eqb-true, ne_eqb}
use Rattle.number.specs.Number.{splice}
use Rattle.number.proofs.Laws.{splice_splice, splice_nil}
use Rattle.bits.specs.Bits.{put_bits}
use Rattle.bits.proofs.Laws.{Below}
use Rattle.bits.proofs.Puts.{put_put, put_nil}
use Rattle.walk.specs.Log.{Entry, put, mask, Log}
use Rattle.batch.proofs.Stretches.{and_left, and_right}
use Rattle.batch.proofs.Windows.{is_at, inner, within, within_append, span, Inside, AllInside, inside_append, inner_long, inner_below, at_key, node, buffer}

-- an entry that may be missing
abbrev pub lays : Bool → Entry → Log
lays true e = e ∷ []
lays false e = []

pub within_lays : (i b : ℕ) (t : Bool) (e : Entry) (w : List ℕ) → within i b (lays t e) w ≡ cond (t && is_at i b e) (inner e w) w
unfolding within
within_lays i b true e w = go (is_at i b e)
  where
    go : (s : Bool) → cond s (inner e w) w ≡ cond (true && s) (inner e w) w
    go true = refl
    go false = refl
within_lays i b false e w = go (is_at i b e)
  where
    go : (s : Bool) → w ≡ cond (false && s) (inner e w) w
    go true = refl
    go false = refl

module _ (plan parts : List ℕ) (M : ℕ) (K : ℕ → ℕ → Type 0) where
  -- a window of a part
  pub record Window (i b : ℕ) (w : List ℕ) : Type 0 where
    pub long : length w ≡ span plan parts M K i b
    pub are_bytes : Below 256 w

  pub record Alike (l k : Log) : Type 0 where
    pub one : AllInside plan parts M K l
    pub two : AllInside plan parts M K k
    pub same : (i b : ℕ) → K i b → (w : List ℕ) → Window i b w → within i b l w ≡ within i b k w

  pub alike_refl : (l : Log) → AllInside plan parts M K l → Alike l l
  alike_refl l h = record { one = h; two = h; same = λ i b k w u. refl }

  pub alike_is : {l k : Log} → AllInside plan parts M K k → l ≡ k → Alike l k
  alike_is {l} {k} h e = rw e (alike_refl k h)

  pub alike_sym : {l k : Log} → Alike l k → Alike k l
  alike_sym a = record { one = a.two; two = a.one; same = λ i b k w u. sym (a.same i b k w u) }

  pub alike_trans : {l k j : Log} → Alike l k → Alike k j → Alike l j
  alike_trans a c = record { one = a.one; two = c.two; same = λ i b k w u. a.same i b k w u ∙ c.same i b k w u }

  inner_window : (i b : ℕ) (e : Entry) → Inside plan parts M K e → (t : Bool) → is_at i b e ≡ t → (w : List ℕ) → Window i b w → Window i b (cond t (inner e w) w)
  inner_window i b e h true g w u =
      let p = at_key plan parts M K i b e g in
      let l : length w ≡ span plan parts M K (node plan parts M K e) (buffer plan parts M K e) = rw (← p.0, ← p.1) u.long in
      record { long = inner_long plan parts M K e h w l ∙ u.long; are_bytes = inner_below plan parts M K e h w l u.are_bytes }
  inner_window i b e h false g w u = u

  pub within_window : (i b : ℕ) (l : Log) → AllInside plan parts M K l → (w : List ℕ) → Window i b w → Window i b (within i b l w)
  unfolding within AllInside
  within_window i b [] h w u = u
  within_window i b (e ∷ l) h w u = within_window i b l h.1 _ (inner_window i b e h.0 (is_at i b e) refl w u)

  pub alike_append : {l k m n : Log} → Alike l k → Alike m n → Alike (l ++ m) (k ++ n)
  alike_append {l} {k} {m} {n} a c =
      record {
        one = inside_append plan parts M K l m a.one c.one;
        two = inside_append plan parts M K k n a.two c.two;
        same = λ i b y w u.
            within_append i b l m w
            ∙ c.same i b y _ (within_window i b l a.one w u)
            ∙ ap (within i b n) (a.same i b y w u)
            ∙ sym (within_append i b k n w);
      }

  -- ---- writes at one node: validity, first and second buffer, the first and the last of which may be missing

  abbrev pub canon : Bool → Bool → ℕ → ℕ → List ℕ → ℕ → List ℕ → ℕ → List ℕ → Log
  canon t u k p0 v0 p1 v1 p2 v2 = lays t (mask k p0 v0) ++ (put k 1 p1 v1 ∷ lays u (put k 2 p2 v2))

  abbrev pub written : Bool → Bool → Bool → ℕ → List ℕ → ℕ → List ℕ → ℕ → List ℕ → List ℕ → List ℕ
  written a b c p0 v0 p1 v1 p2 v2 w = cond c (splice p2 v2 (cond b (splice p1 v1 (cond a (put_bits p0 v0 w) w)) (cond a (put_bits p0 v0 w) w))) (cond b (splice p1 v1 (cond a (put_bits p0 v0 w) w)) (cond a (put_bits p0 v0 w) w))

  pub within_canon : (i b : ℕ) (t u : Bool) (k p0 : ℕ) (v0 : List ℕ) (p1 : ℕ) (v1 : List ℕ) (p2 : ℕ) (v2 w : List ℕ)
      → within i b (canon t u k p0 v0 p1 v1 p2 v2) w ≡ written (t && (eqb i k && eqb b 0)) (eqb i k && eqb b 1) (u && (eqb i k && eqb b 2)) p0 v0 p1 v1 p2 v2 w
  unfolding within
  within_canon i b t u k p0 v0 p1 v1 p2 v2 w =
      within_append i b (lays t (mask k p0 v0)) (put k 1 p1 v1 ∷ lays u (put k 2 p2 v2)) w
      ∙ ap (λ y. within i b (put k 1 p1 v1 ∷ lays u (put k 2 p2 v2)) y) (within_lays i b t (mask k p0 v0) w)
      ∙ within_lays i b u (put k 2 p2 v2) _

  -- such writes inside their parts
  pub record Held (t u : Bool) (k p0 : ℕ) (v0 : List ℕ) (p1 : ℕ) (v1 : List ℕ) (p2 : ℕ) (v2 : List ℕ) : Type 0 where
    pub bits : t ≡ true → K k 0 × (p0 + length v0 ≤ 8 * span plan parts M K k 0) × Below 2 v0
    pub ones : K k 1 × (p1 + length v1 ≤ span plan parts M K k 1) × Below 256 v1
    pub chars : u ≡ true → K k 2 × (p2 + length v2 ≤ span plan parts M K k 2) × Below 256 v2

  pub lays_inside : (t : Bool) (e : Entry) → (t ≡ true → Inside plan parts M K e) → AllInside plan parts M K (lays t e)
  unfolding AllInside
  lays_inside true e h = (h refl, tt)
  lays_inside false e h = tt

  pub held_inside : (t u : Bool) (k p0 : ℕ) (v0 : List ℕ) (p1 : ℕ) (v1 : List ℕ) (p2 : ℕ) (v2 : List ℕ) → Held t u k p0 v0 p1 v1 p2 v2 → AllInside plan parts M K (canon t u k p0 v0 p1 v1 p2 v2)
  unfolding AllInside
  held_inside t u k p0 v0 p1 v1 p2 v2 h =
      inside_append plan parts M K (lays t (mask k p0 v0)) (put k 1 p1 v1 ∷ lays u (put k 2 p2 v2)) (lays_inside t (mask k p0 v0) h.bits)
      ((h.ones.0, omega arith, h.ones.1, h.ones.2), lays_inside u (put k 2 p2 v2) (λ e. ((h.chars e).0, omega arith, (h.chars e).1, (h.chars e).2)))

  -- where an entry of those is
  is_at_lem : (t : Bool) (i b k j : ℕ) → (t && (eqb i k && eqb b j)) ≡ true → (t ≡ true) × (i ≡ k) × (b ≡ j)
  is_at_lem t i b k j h =
      let g = and_right t (eqb i k && eqb b j) h in
      (and_left t (eqb i k && eqb b j) h, eqb-true i k (and_left _ (eqb b j) g), eqb-true b j (and_right (eqb i k) _ g))

  -- writes of nothing
  pub canon_none : (t u : Bool) (k p0 p1 p2 : ℕ) → Held t u k p0 [] p1 [] p2 [] → Alike (canon t u k p0 [] p1 [] p2 []) []
  unfolding AllInside within
  canon_none t u k p0 p1 p2 h =
      record {
        one = held_inside t u k p0 [] p1 [] p2 [] h;
        two = tt;
        same = λ i b y w z. within_canon i b t u k p0 [] p1 [] p2 [] w ∙ go w z.are_bytes (t && (eqb i k && eqb b 0)) (eqb i k && eqb b 1) (u && (eqb i k && eqb b 2));
      }
    where
      go : (w : List ℕ) → Below 256 w → (A B C : Bool) → written A B C p0 [] p1 [] p2 [] w ≡ w
      go w z true true true = splice_nil p2 _ ∙ splice_nil p1 _ ∙ put_nil p0 w z
      go w z true true false = splice_nil p1 _ ∙ put_nil p0 w z
      go w z true false true = splice_nil p2 _ ∙ put_nil p0 w z
      go w z true false false = put_nil p0 w z
      go w z false true true = splice_nil p2 _ ∙ splice_nil p1 w
      go w z false true false = splice_nil p1 w
      go w z false false true = splice_nil p2 w
      go w z false false false = refl

  -- ONE WRITE IS TWO, one behind the other
  pub canon_cut : (t u : Bool) (k p0 : ℕ) (v0 w0 : List ℕ) (p1 : ℕ) (v1 w1 : List ℕ) (p2 : ℕ) (v2 w2 : List ℕ)
      → Held t u k p0 (v0 ++ w0) p1 (v1 ++ w1) p2 (v2 ++ w2) → Held t u k p0 v0 p1 v1 p2 v2 → Held t u k (p0 + length v0) w0 (p1 + length v1) w1 (p2 + length v2) w2
      → Alike (canon t u k p0 (v0 ++ w0) p1 (v1 ++ w1) p2 (v2 ++ w2)) (canon t u k p0 v0 p1 v1 p2 v2 ++ canon t u k (p0 + length v0) w0 (p1 + length v1) w1 (p2 + length v2) w2)
  canon_cut t u k p0 v0 w0 p1 v1 w1 p2 v2 w2 whole first second =
      record {
        one = held_inside t u k p0 (v0 ++ w0) p1 (v1 ++ w1) p2 (v2 ++ w2) whole;
        two = inside_append plan parts M K (canon t u k p0 v0 p1 v1 p2 v2) (canon t u k (p0 + length v0) w0 (p1 + length v1) w1 (p2 + length v2) w2)
            (held_inside t u k p0 v0 p1 v1 p2 v2 first) (held_inside t u k (p0 + length v0) w0 (p1 + length v1) w1 (p2 + length v2) w2 second);
        same = λ i b y w z.
            within_canon i b t u k p0 (v0 ++ w0) p1 (v1 ++ w1) p2 (v2 ++ w2) w
            ∙ go i b w z (t && (eqb i k && eqb b 0)) refl (eqb i k && eqb b 1) refl (u && (eqb i k && eqb b 2)) refl
            ∙ sym (within_append i b (canon t u k p0 v0 p1 v1 p2 v2) (canon t u k (p0 + length v0) w0 (p1 + length v1) w1 (p2 + length v2) w2) w
            ∙ within_canon i b t u k (p0 + length v0) w0 (p1 + length v1) w1 (p2 + length v2) w2 _
            ∙ ap (λ y. written (t && (eqb i k && eqb b 0)) (eqb i k && eqb b 1) (u && (eqb i k && eqb b 2)) (p0 + length v0) w0 (p1 + length v1) w1 (p2 + length v2) w2 y) (within_canon i b t u k p0 v0 p1 v1 p2 v2 w));
      }
    where
      go : (i b : ℕ) (w : List ℕ) → Window i b w → (A : Bool) → (t && (eqb i k && eqb b 0)) ≡ A → (B : Bool) → (eqb i k && eqb b 1) ≡ B → (C : Bool) → (u && (eqb i k && eqb b 2)) ≡ C
          → written A B C p0 (v0 ++ w0) p1 (v1 ++ w1) p2 (v2 ++ w2) w ≡ written A B C (p0 + length v0) w0 (p1 + length v1) w1 (p2 + length v2) w2 (written A B C p0 v0 p1 v1 p2 v2 w)
      go i b w z true e true f C g = let a = is_at_lem t i b k 0 e in let c = is_at_lem true i b k 1 f in absurd (omega arith)
      go i b w z true e false f true g = let a = is_at_lem t i b k 0 e in let c = is_at_lem u i b k 2 g in absurd (omega arith)
      go i b w z false e true f true g = let a = is_at_lem true i b k 1 f in let c = is_at_lem u i b k 2 g in absurd (omega arith)
      go i b w z true e false f false g =
          let a = is_at_lem t i b k 0 e in
          let h = (whole.bits a.0).1 in
          let l = length-append v0 w0 in
          let n : length w ≡ span plan parts M K k 0 = rw (a.1, a.2) at z.long in
          sym (put_put p0 v0 w0 w (first.bits a.0).2 (omega arith))
      go i b w z false e true f false g =
          let a = is_at_lem true i b k 1 f in
          let h = whole.ones.1 in
          let l = length-append v1 w1 in
          let n : length w ≡ span plan parts M K k 1 = rw (a.1, a.2) at z.long in
          sym (splice_splice p1 v1 w1 w (omega arith))
      go i b w z false e false f true g =
          let a = is_at_lem u i b k 2 g in
          let h = (whole.chars a.0).1 in
          let l = length-append v2 w2 in
          let n : length w ≡ span plan parts M K k 2 = rw (a.1, a.2) at z.long in
          sym (splice_splice p2 v2 w2 w (omega arith))
      go i b w z false e false f false g = refl

  -- a validity of no rows alone
  pub mask_none : (t : Bool) (k p : ℕ) → AllInside plan parts M K (lays t (mask k p [])) → Alike (lays t (mask k p [])) []
  unfolding AllInside within
  mask_none t k p h = record { one = h; two = tt; same = λ i b y w z. within_lays i b t (mask k p []) w ∙ go w z.are_bytes (t && (eqb i k && eqb b 0)) }
    where
      go : (w : List ℕ) → Below 256 w → (A : Bool) → cond A (put_bits p [] w) w ≡ w
      go w z true = put_nil p w z
      go w z false = refl

  -- they leave the parts of other nodes
  pub canon_off : (i b : ℕ) (t u : Bool) (k p0 : ℕ) (v0 : List ℕ) (p1 : ℕ) (v1 : List ℕ) (p2 : ℕ) (v2 w : List ℕ) → (i ≡ k → ⊥) → within i b (canon t u k p0 v0 p1 v1 p2 v2) w ≡ w
  canon_off i b t u k p0 v0 p1 v1 p2 v2 w z = within_canon i b t u k p0 v0 p1 v1 p2 v2 w ∙ rw (ne_eqb i k z) (go t u)
    where
      go : (t u : Bool) → written (t && (false && eqb b 0)) (false && eqb b 1) (u && (false && eqb b 2)) p0 v0 p1 v1 p2 v2 w ≡ w
      go true true = refl
      go true false = refl
      go false true = refl
      go false false = refl
