-- Highest bits gathered by `|`: all are 0 where every row obeys. Of numbers of w bytes. Assumes nothing.
use Rattle.std.proofs.Common.{◌≡◌, ℕ, suc, ◌+◌, ◌-◌, ◌*◌, ◌%◌, ◌^◌, ◌<◌, ◌≤◌, Bool, true, false, ◌&&◌, T, ltb, leb, refl, ◌∙◌, ⊎_elim, eq-or-lt_of_le, arith, le→leb, ltb→lt, lt→ltb, leb→le, ltb-true, ltb-false}
use Rattle.std.proofs.Math.Nat.{mod-eq_of_lt, mod-lt, add-mod_left}
use Rattle.std.proofs.lemmas.Nat.{or_lt, le_or_l, le_or_r}
use Rattle.std.specs.Prelude.{bit_or, min}
use Rattle.number.specs.Sizes.{Sized}
use Rattle.columnar.specs.Types.{half}
use Rattle.columnar.specs.Test.{every}
use Rattle.columnar.proofs.Test.{every_out, every_in}
use Rattle.row_rules.specs.Rules.{never_falls_lem, view_row}
use Rattle.row_rules.proofs.Sizes.{half_bits, whole_bits, two_halves, half_some, ones_is, none_is}

-- ---- tests

same : (a b : Bool) → (T a → T b) → (T b → T a) → a ≡ b
same true true f g = refl
same true false f g = absurd (f tt)
same false true f g = absurd (g tt)
same false false f g = refl

two : (a b : Bool) → T a → T b → T (a && b)
two true b h g = g
two false b h g = absurd h

first : (a b : Bool) → T (a && b) → T a
first true b h = tt
first false b h = absurd h

second : (a b : Bool) → T (a && b) → T b
second true b h = h
second false b h = absurd h

-- of the last row or of one before it
by_last : (Q : ℕ → Type 0) (i : ℕ) → Q i → ((j : ℕ) → j < i → Q j) → (j : ℕ) → j < i + 1 → Q j
by_last Q i h f j l = ⊎_elim (λ (e : j ≡ i). rw e h) (λ (m : j < i). f j m) (eq-or-lt_of_le (omega arith))

-- ---- numbers of w bytes

module _ {w : ℕ} (s : Sized w) where
  -- the highest bit is 0
  abbrev Low : ℕ → Type 0
  Low a = a < half w

  abbrev Fits : ℕ → Type 0
  Fits a = a < 256 ^ w

  module _ (a b : ℕ) {r : ℕ} (e : r ≡ bit_or a b % 256 ^ w) (h : Fits a) (g : Fits b) where
    or_fits : Fits (bit_or a b)
    or_fits = rw (whole_bits s) (or_lt (8 * w) a b (rw (whole_bits s) at h) (rw (whole_bits s) at g))

    both_is : r ≡ bit_or a b
    both_is = e ∙ mod-eq_of_lt or_fits

    pub both_fits : Fits r
    both_fits = rw both_is or_fits

    both_low : Low a → Low b → Low r
    both_low p q = rw both_is (rw (half_bits s) (or_lt (8 * w - 1) a b (rw (half_bits s) at p) (rw (half_bits s) at q)))

    both_left : Low r → Low a
    both_left p = omega (arith, both_is, le_or_l a b)

    both_right : Low r → Low b
    both_right p = omega (arith, both_is, le_or_r a b)

  -- a difference d of b and a, as the machine subtracts
  module _ (a b : ℕ) {d : ℕ} (e : d ≡ (b + (256 ^ w - a)) % 256 ^ w) (h : Fits a) (g : Fits b) where
    pub less_fits : Fits d
    less_fits = rw e (mod-lt (b + (256 ^ w - a)) (omega (arith, two_halves s, half_some s)))

    less_is : a ≤ b → d ≡ b - a
    less_is l =
        let q : b + (256 ^ w - a) ≡ 256 ^ w + (b - a) = omega arith in
        e ∙ rw (q, add-mod_left (256 ^ w) (b - a)) (mod-eq_of_lt (omega arith))

    less_under : Low a → Low d → a ≤ b
    less_under p q = go (ltb b a) refl p q
      where
        go : (t : Bool) → ltb b a ≡ t → a < half w → d < half w → a ≤ b
        go true k p q =
            let l : b < a = ltb-true b a k in
            let m : d ≡ b + (256 ^ w - a) = e ∙ mod-eq_of_lt (omega arith) in
            absurd (omega (arith, two_halves s))
        go false k p q = ltb-false b a k

  -- the largest number less x, and so many rows or as many
  pub not_is : {m x r : ℕ} → m ≡ 18446744073709551615 % 256 ^ w → Fits x → r ≡ (m + (256 ^ w - x)) % 256 ^ w → r ≡ 256 ^ w - 1 - x
  not_is {m} {x} {r} e f g =
      let q : m ≡ 256 ^ w - 1 = e ∙ ones_is s in
      less_is x (256 ^ w - 1) (rw q at g) f (omega (arith, two_halves s, half_some s)) (omega arith)

  pub capped_is : {m k r : ℕ} (rows : ℕ) → m ≡ 18446744073709551615 % 256 ^ w → k ≡ min rows m → r ≡ k % 256 ^ w → r ≡ min rows (256 ^ w - 1)
  capped_is {m} {k} {r} rows e f g =
      let q : m ≡ 256 ^ w - 1 = e ∙ ones_is s in
      let n : k ≡ min rows (256 ^ w - 1) = rw q at f in
      g ∙ mod-eq_of_lt (omega (arith, n, two_halves s, half_some s)) ∙ n

  -- ---- rows that are tested one by one

  module _ (p : ℕ → Bool) (n : ℕ) where
    -- what is gathered of the first i rows
    pub record Rows (i all : ℕ) : Type 0 where
      pub fits : Fits all
      pub out : Low all → (j : ℕ) → j < i → T (p j)
      pub back : T (every p n) → Low all

    pub rows_none : {all : ℕ} → all ≡ 0 % 256 ^ w → Rows 0 all
    rows_none {all} e =
        let z : all ≡ 0 = none_is s e in
        record { fits = omega (arith, z, two_halves s, half_some s); out = λ l j k. absurd (omega arith); back = λ t. omega (arith, z, half_some s) }

    pub rows_more : {i all new : ℕ} (x : ℕ) → Rows i all → i < n → Fits x → ltb x (half w) ≡ p i → new ≡ bit_or all x % 256 ^ w → Rows (i + 1) new
    rows_more {i} {all} {new} x r l f e h = record {
      fits = both_fits all x h r.fits f;
      out = λ q. by_last (λ j. T (p j)) i (rw (← e) (lt→ltb x (half w) (both_right all x h r.fits f q))) (r.out (both_left all x h r.fits f q));
      back = λ t. both_low all x h r.fits f (r.back t) (ltb→lt x (half w) (rw e (every_out p n t i l)));
    }

    pub rows_all : {all : ℕ} → Rows n all → ltb all (half w) ≡ every p n
    rows_all {all} r =
        same _ _ (λ t. every_in p n (λ j k. r.out (ltb→lt all (half w) t) j k)) (λ t. lt→ltb all (half w) (r.back t))

  -- ---- offsets

  module _ (e : ℕ → ℕ) (n : ℕ) where
    abbrev Sound : Type 0
    Sound = ((j : ℕ) → j < n + 1 → Low (e j)) × ((j : ℕ) → j < n → e j ≤ e (j + 1))

    abbrev not_negative : Bool
    not_negative = every (λ i. ltb (e i) (half w)) (suc n)

    abbrev not_falling : Bool
    not_falling = every (λ i. leb (e i) (e (i + 1))) n

    to_sound : T (never_falls_lem e w n) → Sound
    unfolding never_falls_lem
    to_sound t = (
      λ j l. ltb→lt (e j) (half w) (every_out (λ i. ltb (e i) (half w)) (suc n) (first not_negative not_falling t) j (omega arith)),
      λ j l. leb→le (e j) (e (j + 1)) (every_out (λ i. leb (e i) (e (i + 1))) n (second not_negative not_falling t) j l),
    )

    from_sound : Sound → T (never_falls_lem e w n)
    unfolding never_falls_lem
    from_sound o =
        two not_negative not_falling (every_in (λ i. ltb (e i) (half w)) (suc n) (λ j l. lt→ltb (e j) (half w) (o.0 j (omega arith))))
        (every_in (λ i. leb (e i) (e (i + 1))) n (λ j l. le→leb (e j) (e (j + 1)) (o.1 j l)))

    -- what is gathered of the first i offsets, and the last
    pub record Offsets (i all : ℕ) : Type 0 where
      pub fits : Fits all
      pub last : Low all → Low (e n)
      pub low : Low all → (j : ℕ) → j < i → Low (e j)
      pub rise : Low all → (j : ℕ) → j < i → e j ≤ e (j + 1)
      pub back : Sound → Low all

    pub offsets_none : {all : ℕ} → Fits (e n) → all ≡ e n → Offsets 0 all
    offsets_none {all} f h = record {
      fits = omega (arith, h);
      last = λ l. omega (arith, h);
      low = λ l j k. absurd (omega arith);
      rise = λ l j k. absurd (omega arith);
      back = λ o. omega (arith, h, o.0 n (omega arith));
    }

    pub offsets_more : {i all here next d both new : ℕ} → Offsets i all → i < n → ((j : ℕ) → Fits (e j)) → here ≡ e i → next ≡ e (i + 1)
        → d ≡ (next + (256 ^ w - here)) % 256 ^ w → both ≡ bit_or here d % 256 ^ w → new ≡ bit_or all both % 256 ^ w → Offsets (i + 1) new
    offsets_more {i} {all} {here} {next} {d} {both} {new} o l f x y z u v =
        let a : Fits here = omega (arith, x, f i) in
        let b : Fits next = omega (arith, y, f (i + 1)) in
        let c : Fits d = less_fits here next z a b in
        let m : Fits both = both_fits here d u a c in
        let left : Low new → Low all = both_left all both v o.fits m in
        let right : Low new → Low both = both_right all both v o.fits m in
        record {
          fits = both_fits all both v o.fits m;
          last = λ q. o.last (left q);
          low = λ q. by_last (λ j. Low (e j)) i (omega (arith, x, both_left here d u a c (right q))) (o.low (left q));
          rise =
              λ q. by_last (λ j. e j ≤ e (j + 1)) i
              (omega (arith, x, y, less_under here next z a b (both_left here d u a c (right q)) (both_right here d u a c (right q))))
              (o.rise (left q));
          back =
              λ t. both_low all both v o.fits m (o.back t)
              (both_low here d u a c (omega (arith, x, t.0 i (omega arith)))
              (omega (arith, x, y, t.0 (i + 1) (omega arith), less_is here next z a b (omega (arith, x, y, t.1 i l)))));
        }

    pub offsets_all : {all : ℕ} → Offsets n all → ltb all (half w) ≡ never_falls_lem e w n
    offsets_all {all} o =
        same _ _
        (λ t. let q = ltb→lt all (half w) t in from_sound (by_last (λ j. Low (e j)) n (o.last q) (o.low q), o.rise q))
        (λ t. lt→ltb all (half w) (o.back (to_sound t)))

  -- ---- a row of a list-view

  -- a number that is Low exactly where the row obeys
  row_told : (child o z : ℕ) {all : ℕ} → (Low all → Low o × Low z × (o + z ≤ child)) → (Low o → Low z → o + z ≤ child → Low all)
      → ltb all (half w) ≡ view_row w child o z
  unfolding view_row
  row_told child o z {all} to from =
      same _ _
      (λ t. let q = to (ltb→lt all (half w) t) in
      two (ltb o (half w) && ltb z (half w)) (leb (o + z) child) (two (ltb o (half w)) (ltb z (half w)) (lt→ltb o (half w) q.0) (lt→ltb z (half w) q.1)) (le→leb (o + z) child q.2))
      (λ t. let both = first (ltb o (half w) && ltb z (half w)) (leb (o + z) child) t in
      lt→ltb all (half w) (from (ltb→lt o (half w) (first (ltb o (half w)) (ltb z (half w)) both)) (ltb→lt z (half w) (second (ltb o (half w)) (ltb z (half w)) both)) (leb→le (o + z) child (second (ltb o (half w) && ltb z (half w)) (leb (o + z) child) t))))

  -- a child of more rows than w bytes count has those of any offset and size
  pub capped_row : (child most o z : ℕ) → half w ≤ child → most ≡ min child (256 ^ w - 1) → view_row w most o z ≡ view_row w child o z
  unfolding view_row
  capped_row child most o z h e =
      same _ _ (λ t. over t (λ a b l. omega (arith, e)))
      (λ t. over t (λ a b l. omega (arith, e, a, b, two_halves s)))
    where
      over : {a b : ℕ} → T (ltb o (half w) && ltb z (half w) && leb (o + z) a) → (Low o → Low z → o + z ≤ a → o + z ≤ b) → T (ltb o (half w) && ltb z (half w) && leb (o + z) b)
      over {a} {b} t f =
          let p = first (ltb o (half w) && ltb z (half w)) (leb (o + z) a) t in
          let l = ltb→lt o (half w) (first (ltb o (half w)) (ltb z (half w)) p) in
          let m = ltb→lt z (half w) (second (ltb o (half w)) (ltb z (half w)) p) in
          two (ltb o (half w) && ltb z (half w)) (leb (o + z) b) p (le→leb (o + z) b (f l m (leb→le (o + z) a (second (ltb o (half w) && ltb z (half w)) (leb (o + z) a) t))))

  -- what is left of the child behind the offset, and behind the size
  module _ (child o z : ℕ) {left rest front behind all : ℕ} (h : Low child) (f : Fits o) (g : Fits z)
      (x : left ≡ (child + (256 ^ w - o)) % 256 ^ w) (y : rest ≡ (left + (256 ^ w - z)) % 256 ^ w)
      (u : front ≡ bit_or o z % 256 ^ w) (v : behind ≡ bit_or left rest % 256 ^ w) (e : all ≡ bit_or front behind % 256 ^ w) where
    child_fits : Fits child
    child_fits = omega (arith, two_halves s)

    left_fits : Fits left
    left_fits = less_fits o child x f child_fits

    rest_fits : Fits rest
    rest_fits = less_fits z left y g left_fits

    front_fits : Fits front
    front_fits = both_fits o z u f g

    behind_fits : Fits behind
    behind_fits = both_fits left rest v left_fits rest_fits

    pub view_fits : Fits all
    view_fits = both_fits front behind e front_fits behind_fits

    to_row : Low all → Low o × Low z × (o + z ≤ child)
    to_row q =
        let q1 = both_left front behind e front_fits behind_fits q in
        let q2 = both_right front behind e front_fits behind_fits q in
        let a = both_left o z u f g q1 in
        let b = both_right o z u f g q1 in
        let l = both_left left rest v left_fits rest_fits q2 in
        let r = both_right left rest v left_fits rest_fits q2 in
        let c : o ≤ child = less_under o child x f child_fits a l in
        let d : z ≤ left = less_under z left y g left_fits b r in
        (a, b, omega (arith, c, d, less_is o child x f child_fits c))

    from_row : Low o → Low z → o + z ≤ child → Low all
    from_row a b c =
        let l : left ≡ child - o = less_is o child x f child_fits (omega arith) in
        let r : rest ≡ left - z = less_is z left y g left_fits (omega (arith, l)) in
        both_low front behind e front_fits behind_fits (both_low o z u f g a b) (both_low left rest v left_fits rest_fits (omega (arith, l)) (omega (arith, l, r)))

    pub view_gathered : ltb all (half w) ≡ view_row w child o z
    view_gathered = row_told child o z to_row from_row

  -- ---- a row of a list-view over a child whose rows are not Low

  -- the other bits
  module _ (x : ℕ) {r : ℕ} (h : Fits x) (e : r ≡ 256 ^ w - 1 - x) where
    not_fits : Fits r
    not_fits = omega (arith, e, two_halves s, half_some s)

    not_low : half w ≤ x → Low r
    not_low l = omega (arith, e, two_halves s)

    not_high : Low r → half w ≤ x
    not_high l = omega (arith, e, two_halves s)

  module _ (child o z : ℕ) {left rest other some none front all : ℕ} (h : half w ≤ child) (k : Fits child) (f : Fits o) (g : Fits z)
      (x : left ≡ (child + (256 ^ w - o)) % 256 ^ w) (y : rest ≡ (left + (256 ^ w - z)) % 256 ^ w) (n : other ≡ 256 ^ w - 1 - rest)
      (u : some ≡ bit_or left other % 256 ^ w) (m : none ≡ 256 ^ w - 1 - some) (v : front ≡ bit_or o z % 256 ^ w)
      (e : all ≡ bit_or front none % 256 ^ w) where
    far_left_fits : Fits left
    far_left_fits = less_fits o child x f k

    pub far_rest_fits : Fits rest
    far_rest_fits = less_fits z left y g far_left_fits

    other_fits : Fits other
    other_fits = not_fits rest far_rest_fits n

    pub some_fits : Fits some
    some_fits = both_fits left other u far_left_fits other_fits

    none_fits : Fits none
    none_fits = not_fits some some_fits m

    far_front_fits : Fits front
    far_front_fits = both_fits o z v f g

    pub far_fits : Fits all
    far_fits = both_fits front none e far_front_fits none_fits

    -- what is left reaches the size: it is not Low, or still there behind the size
    reaches : Low z → half w ≤ some → z ≤ left
    reaches b p = go (ltb left (half w)) refl (ltb other (half w)) refl
      where
        go : (t : Bool) → ltb left (half w) ≡ t → (q : Bool) → ltb other (half w) ≡ q → z ≤ left
        go false i q j = let l : half w ≤ left = ltb-false left (half w) i in omega arith
        go true i true j =
            let l : Low some = both_low left other u far_left_fits other_fits (ltb-true left (half w) i) (ltb-true other (half w) j) in
            absurd (omega arith)
        go true i false j =
            let r : half w ≤ other = ltb-false other (half w) j in
            let c : Low rest = omega (arith, n, two_halves s) in
            less_under z left y g far_left_fits b c

    has_some : Low z → z ≤ left → half w ≤ some
    has_some b l = go (ltb some (half w)) refl
      where
        go : (t : Bool) → ltb some (half w) ≡ t → half w ≤ some
        go false i = ltb-false some (half w) i
        go true i =
            let q : Low some = ltb-true some (half w) i in
            let a : Low left = both_left left other u far_left_fits other_fits q in
            let c : Low other = both_right left other u far_left_fits other_fits q in
            let d : rest ≡ left - z = less_is z left y g far_left_fits l in
            absurd (omega (arith, d, n, two_halves s, a, c))

    to_far_row : Low all → Low o × Low z × (o + z ≤ child)
    to_far_row q =
        let q1 = both_left front none e far_front_fits none_fits q in
        let q2 = both_right front none e far_front_fits none_fits q in
        let a = both_left o z v f g q1 in
        let b = both_right o z v f g q1 in
        let d : left ≡ child - o = less_is o child x f k (omega arith) in
        let c : z ≤ left = reaches b (not_high some some_fits m q2) in
        (a, b, omega (arith, c, d, a, h))

    from_far_row : Low o → Low z → o + z ≤ child → Low all
    from_far_row a b c =
        let d : left ≡ child - o = less_is o child x f k (omega arith) in
        both_low front none e far_front_fits none_fits (both_low o z v f g a b)
        (not_low some some_fits m (has_some b (omega (arith, d))))

    pub far_gathered : ltb all (half w) ≡ view_row w child o z
    far_gathered = row_told child o z to_far_row from_far_row
