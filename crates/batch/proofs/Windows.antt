-- A log that stays inside parts that are apart does to each part what its entries at that part do. Assumes nothing.
use mathlib.Core.Path.{◌≡◌, refl, sym, ap, ◌∙◌}
use mathlib.Core.Bool.{Bool, true, false, cond, ◌&&◌}
use mathlib.Core.List.{List, [], ◌∷◌, ◌++◌}
use Prim.Native.Nat.{ℕ, ◌+◌, ◌*◌, ◌-◌, ◌<◌, ◌≤◌}
use native.Mathlib.Omega.{arith}
use lib.ListN.{length, drop, get_or}
use lib.Seq.{ext_get_or}
use lib.Dec.{eqb}
use borrow.Author.Tests.{le-leb, eqb-true, eq-eqb}
use Rattle.number.specs.Number.{splice}
use Rattle.number.proofs.Laws.{length_splice}
use Rattle.bits.specs.Bits.{put_bits}
use Rattle.bits.proofs.Laws.{Below, below_splice, below_take, below_drop}
use Rattle.bits.proofs.Puts.{below_put, length_put}
use Rattle.walk.specs.Log.{Entry, put, mask, amend, Log, start_of, in_room, enter, apply}
use Rattle.plan.specs.parts.Parts.{size_of}
use Rattle.batch.proofs.Stretches.{and_left, and_right}
use Rattle.batch.proofs.Splices.{three, splice_low, splice_high, splice_own, window, window_long, window_at, splice_in, mask_in_lem}

-- an entry at buffer b of node i
abbrev pub is_at : ℕ → ℕ → Entry → Bool
is_at i b (put j e o bs) = eqb i j && eqb b e
is_at i b (mask j p vs) = eqb i j && eqb b 0
is_at i b (amend j e o bs) = eqb i j && eqb b e

-- what it does to the bytes of that part
abbrev pub inner : Entry → List ℕ → List ℕ
inner (put j e o bs) w = splice o bs w
inner (mask j p vs) w = put_bits p vs w
inner (amend j e o bs) w = splice o bs w

-- what a log does to the bytes of buffer b of node i
unfoldable pub within : ℕ → ℕ → Log → List ℕ → List ℕ
within i b [] w = w
within i b (e ∷ l) w = within i b l (cond (is_at i b e) (inner e w) w)

pub within_append : (i b : ℕ) (l k : Log) (w : List ℕ) → within i b (l ++ k) w ≡ within i b k (within i b l w)
unfolding within
within_append i b [] k w = refl
within_append i b (e ∷ l) k w = within_append i b l k _

-- where a byte stands: K are the parts
module _ (plan parts : List ℕ) (M : ℕ) (K : ℕ → ℕ → Type 0) where
  abbrev pub from : ℕ → ℕ → ℕ
  from i b = start_of plan parts i b

  abbrev pub span : ℕ → ℕ → ℕ
  span i b = size_of plan parts i b

  pub data Where (q : ℕ) : Type 0 where
    here : (i b : ℕ) → K i b → from i b ≤ q → q < from i b + span i b → Where q
    nowhere : ((i b : ℕ) → K i b → from i b ≤ q → q < from i b + span i b → ⊥) → Where q

  -- parts inside a room of M bytes, and apart
  pub record Keys : Type 0 where
    pub inside : (i b : ℕ) → K i b → from i b + span i b ≤ M
    pub apart : (i b j e : ℕ) → K i b → K j e → (i ≡ j → b ≡ e → ⊥) → (q : ℕ) → from i b ≤ q → q < from i b + span i b → from j e ≤ q → q < from j e + span j e → ⊥
    pub find : (q : ℕ) → Where q

  pub record Room (s : List ℕ) : Type 0 where
    pub long : length s ≡ M
    pub are_bytes : Below 256 s

  -- a write inside its part
  abbrev pub Inside : Entry → Type 0
  Inside (put j e o bs) = K j e × (1 ≤ e) × (o + length bs ≤ span j e) × Below 256 bs
  Inside (mask j p vs) = K j 0 × (p + length vs ≤ 8 * span j 0) × Below 2 vs
  Inside (amend j e o bs) = ⊥

  unfoldable pub AllInside : Log → Type 0
  AllInside [] = Unit {0}
  AllInside (e ∷ l) = Inside e × AllInside l

  pub inside_append : (l k : Log) → AllInside l → AllInside k → AllInside (l ++ k)
  unfolding AllInside
  inside_append [] k h g = g
  inside_append (e ∷ l) k h g = (h.0, inside_append l k h.1 g)

  -- the part of an entry
  abbrev pub node : Entry → ℕ
  node (put j e o bs) = j
  node (mask j p vs) = j
  node (amend j e o bs) = j

  abbrev pub buffer : Entry → ℕ
  buffer (put j e o bs) = e
  buffer (mask j p vs) = 0
  buffer (amend j e o bs) = e

  in_key : (e : Entry) → Inside e → K (node e) (buffer e)
  in_key (put j e o bs) h = h.0
  in_key (mask j p vs) h = h.0
  in_key (amend j e o bs) h = absurd h

  pub at_key : (i b : ℕ) (e : Entry) → is_at i b e ≡ true → (i ≡ node e) × (b ≡ buffer e)
  at_key i b (put j e o bs) h = (eqb-true i j (and_left _ (eqb b e) h), eqb-true b e (and_right (eqb i j) _ h))
  at_key i b (mask j p vs) h = (eqb-true i j (and_left _ (eqb b 0) h), eqb-true b 0 (and_right (eqb i j) _ h))
  at_key i b (amend j e o bs) h = (eqb-true i j (and_left _ (eqb b e) h), eqb-true b e (and_right (eqb i j) _ h))

  same_key : (i b j e : ℕ) → i ≡ j → b ≡ e → (eqb i j && eqb b e) ≡ true
  same_key i b j e p q = rw (eq-eqb i j p, eq-eqb b e q)

  not_key : (i b : ℕ) (e : Entry) → is_at i b e ≡ false → i ≡ node e → b ≡ buffer e → ⊥
  not_key i b (put j e o bs) h p q = let z : ◌≡◌ {A = ℕ} 0 1 = ap (λ t. cond t 1 0) (sym h ∙ same_key i b j e p q) in omega arith
  not_key i b (mask j o vs) h p q = let z : ◌≡◌ {A = ℕ} 0 1 = ap (λ t. cond t 1 0) (sym h ∙ same_key i b j 0 p q) in omega arith
  not_key i b (amend j e o bs) h p q = let z : ◌≡◌ {A = ℕ} 0 1 = ap (λ t. cond t 1 0) (sym h ∙ same_key i b j e p q) in omega arith

  pub inner_long : (e : Entry) → Inside e → (w : List ℕ) → length w ≡ span (node e) (buffer e) → length (inner e w) ≡ length w
  inner_long (put j e o bs) h w l = length_splice o bs w (omega (arith, h.2))
  inner_long (mask j p vs) h w l = length_put p vs w h.2 (omega (arith, h.1))
  inner_long (amend j e o bs) h w l = absurd h

  pub inner_below : (e : Entry) → Inside e → (w : List ℕ) → length w ≡ span (node e) (buffer e) → Below 256 w → Below 256 (inner e w)
  inner_below (put j e o bs) h w l u = below_splice 256 o bs w h.3 u
  inner_below (mask j p vs) h w l u = below_put p vs w h.2 (omega (arith, h.1))
  inner_below (amend j e o bs) h w l u = absurd h

  module _ (keys : Keys) where
    -- an entry writes its part anew
    enter_is : (e : Entry) → Inside e → (s : List ℕ) → Room s → enter plan parts e s ≡ splice (from (node e) (buffer e)) (inner e (window (from (node e) (buffer e)) (span (node e) (buffer e)) s)) s
    unfolding enter in_room
    enter_is (put j e o bs) h s r =
        let k = keys.inside j e h.0 in
        let f = h.2 in
        let m = r.long in
        rw (le-leb (from j e + o + length bs) (length s) (omega arith)) (splice_in (from j e) o (span j e) bs s f (omega arith))
    enter_is (mask j p vs) h s r =
        let k = keys.inside j 0 h.0 in
        let f = h.1 in
        let m = r.long in
        rw (le-leb (8 * from j 0 + p + length vs) (8 * length s) (omega arith)) (mask_in_lem (from j 0) p (span j 0) vs s h.2 r.are_bytes f (omega arith))
    enter_is (amend j e o bs) h s r = absurd h

    module _ (e : Entry) (h : Inside e) (s : List ℕ) (r : Room s) where
      abbrev A : ℕ
      A = from (node e) (buffer e)

      abbrev Z : ℕ
      Z = span (node e) (buffer e)

      fit : A + Z ≤ length s
      fit = let k = keys.inside (node e) (buffer e) (in_key e h) in let m = r.long in omega arith

      wide : length (window A Z s) ≡ Z
      wide = window_long A Z s fit

      new : length (inner e (window A Z s)) ≡ Z
      new = inner_long e h (window A Z s) wide ∙ wide

      pub enter_room : Room (enter plan parts e s)
      enter_room =
          rw (enter_is e h s r)
          (record {
            long = length_splice A (inner e (window A Z s)) s (omega (arith, new, fit)) ∙ r.long;
            are_bytes = below_splice 256 A (inner e (window A Z s)) s (inner_below e h (window A Z s) wide (below_take 256 Z (drop A s) (below_drop 256 A s r.are_bytes))) r.are_bytes;
          })

      enter_else : (q : ℕ) → (A ≤ q → q < A + Z → ⊥) → get_or (enter plan parts e s) q 0 ≡ get_or s q 0
      enter_else q n =
          rw (enter_is e h s r)
          (three A (A + Z) q (λ y. splice_low A (inner e (window A Z s)) s (omega (arith, new, fit)) q y) (λ y z. absurd (n y z))
          (λ y. splice_high A (inner e (window A Z s)) s (omega (arith, new, fit)) q (omega (arith, new))))

      enter_own : window A Z (enter plan parts e s) ≡ inner e (window A Z s)
      enter_own =
          let g = enter_room.long in
          let m = r.long in
          ext_get_or 0 (window A Z (enter plan parts e s)) (inner e (window A Z s)) (window_long A Z (enter plan parts e s) (omega (arith, fit)) ∙ sym new)
          (λ q y.
          let l = window_long A Z (enter plan parts e s) (omega (arith, fit)) in
          window_at A Z (enter plan parts e s) q (omega arith)
          ∙ rw (enter_is e h s r) (splice_own A (inner e (window A Z s)) s (omega (arith, new, fit)) (A + q) (omega arith) (omega (arith, new)))
          ∙ ap (λ v. get_or (inner e (window A Z s)) v 0) (let d : A + q - A ≡ q = omega arith in d))

    -- one entry, seen at any part
    enter_window : (i b : ℕ) → K i b → (e : Entry) → Inside e → (s : List ℕ) → Room s
        → window (from i b) (span i b) (enter plan parts e s) ≡ cond (is_at i b e) (inner e (window (from i b) (span i b) s)) (window (from i b) (span i b) s)
    enter_window i b k e h s r = go (is_at i b e) refl
      where
        go : (t : Bool) → is_at i b e ≡ t → window (from i b) (span i b) (enter plan parts e s) ≡ cond t (inner e (window (from i b) (span i b) s)) (window (from i b) (span i b) s)
        go true g = let p = at_key i b e g in rw (p.0, p.1) (enter_own e h s r)
        go false g =
            let f = keys.inside i b k in
            let m = r.long in
            let n = (enter_room e h s r).long in
            let a = window_long (from i b) (span i b) (enter plan parts e s) (omega arith) in
            let c = window_long (from i b) (span i b) s (omega arith) in
            ext_get_or 0 (window (from i b) (span i b) (enter plan parts e s)) (window (from i b) (span i b) s) (a ∙ sym c)
            (λ q y.
            window_at (from i b) (span i b) (enter plan parts e s) q (omega arith)
            ∙ enter_else e h s r (from i b + q) (λ u v. keys.apart i b (node e) (buffer e) k (in_key e h) (not_key i b e g) (from i b + q) (omega arith) (omega arith) u v)
            ∙ sym (window_at (from i b) (span i b) s q (omega arith)))

    pub apply_room : (l : Log) → AllInside l → (s : List ℕ) → Room s → Room (apply plan parts l s)
    unfolding apply AllInside
    apply_room [] h s r = r
    apply_room (e ∷ l) h s r = apply_room l h.1 _ (enter_room e h.0 s r)

    -- A LOG, seen at one part
    pub apply_window : (i b : ℕ) → K i b → (l : Log) → AllInside l → (s : List ℕ) → Room s → window (from i b) (span i b) (apply plan parts l s) ≡ within i b l (window (from i b) (span i b) s)
    unfolding apply AllInside within
    apply_window i b k [] h s r = refl
    apply_window i b k (e ∷ l) h s r =
        apply_window i b k l h.1 _ (enter_room e h.0 s r) ∙ ap (within i b l) (enter_window i b k e h.0 s r)

    apply_else : (l : Log) → AllInside l → (s : List ℕ) → Room s → (q : ℕ) → ((i b : ℕ) → K i b → from i b ≤ q → q < from i b + span i b → ⊥) → get_or (apply plan parts l s) q 0 ≡ get_or s q 0
    unfolding apply AllInside
    apply_else [] h s r q n = refl
    apply_else (e ∷ l) h s r q n =
        apply_else l h.1 _ (enter_room e h.0 s r) q n ∙ enter_else e h.0 s r q (λ u v. n (node e) (buffer e) (in_key e h.0) u v)

    -- TWO LOGS THAT DO THE SAME TO EACH PART leave the same room
    pub same_room : (l k : Log) → AllInside l → AllInside k → (s : List ℕ) → Room s
        → ((i b : ℕ) → K i b → (w : List ℕ) → length w ≡ span i b → Below 256 w → within i b l w ≡ within i b k w) → apply plan parts l s ≡ apply plan parts k s
    same_room l k h g s r f =
        let a = (apply_room l h s r).long in
        let c = (apply_room k g s r).long in
        ext_get_or 0 (apply plan parts l s) (apply plan parts k s) (a ∙ sym c) (λ q y. go q (keys.find q))
      where
        at : (x : Log) → AllInside x → (i b : ℕ) → K i b → (q : ℕ) → from i b ≤ q → q < from i b + span i b
            → get_or (apply plan parts x s) q 0 ≡ get_or (within i b x (window (from i b) (span i b) s)) (q - from i b) 0
        at x j i b y q u v =
            let e : from i b + (q - from i b) ≡ q = omega arith in
            ap (λ z. get_or (apply plan parts x s) z 0) (sym e)
            ∙ sym (window_at (from i b) (span i b) (apply plan parts x s) (q - from i b) (omega arith))
            ∙ ap (λ z. get_or z (q - from i b) 0) (apply_window i b y x j s r)

        go : (q : ℕ) → Where q → get_or (apply plan parts l s) q 0 ≡ get_or (apply plan parts k s) q 0
        go q (here i b y u v) =
            let m = r.long in
            let n = keys.inside i b y in
            at l h i b y q u v
            ∙ ap (λ z. get_or z (q - from i b) 0) (f i b y (window (from i b) (span i b) s) (window_long (from i b) (span i b) s (omega arith)) (below_take 256 (span i b) (drop (from i b) s) (below_drop 256 (from i b) s r.are_bytes)))
            ∙ sym (at k g i b y q u v)
        go q (nowhere n) = apply_else l h s r q n ∙ sym (apply_else k g s r q n)
