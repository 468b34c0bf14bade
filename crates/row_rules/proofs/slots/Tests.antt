-- The row tests are the row lines of the columnar model's test, for buffers that are parts of the lent body. Assumes nothing.
use Rattle.std.proofs.Common.{◌≡◌, ℕ, zero, suc, ◌+◌, ◌*◌, ◌/◌, ◌%◌, ◌<◌, ◌≤◌, min, Bool, true, false, ◌&&◌, eqb, ltb, leb, List, [], ◌∷◌, length, get_or, take, drop, sym, refl, ap, ◌∙◌, ap₂, add_assoc, mul_comm, mul-add, arith, length-drop, length-take-le, get_or-drop, get_or-take, take-take, drop-drop, ltb-false, ltb-true, le-ltb, lt-ltb, le-leb, leb-true}
use mathlib.Core.Option.{none, some}
use Rattle.number.specs.Number.{number, encode, entry}
use Rattle.number.proofs.Laws.{encode_number}
use Rattle.bits.proofs.Laws.{bit_at}
use Rattle.utils.specs.byte_view.View.{view_at}
use Rattle.columnar.specs.Types.{half}
use Rattle.columnar.specs.Array.{item, bit, ok}
use Rattle.columnar.specs.View.{view_of}
use Rattle.columnar.specs.Test.{every, member, same, only_if, one_view_test}
use Rattle.columnar.proofs.Items.{number_take, entry_end}
use Rattle.columnar.proofs.Test.{Agrees, same_agrees, eqb_agrees}
use Rattle.row_rules.specs.slots.Slots.{ids_declared, field_of, positions_within, position_good, valid_at, keys_below, valid_keys_below, lies_in, start_at, bytes_at, view_good, views_good, valid_views_good, listed}

-- ---- tests of every row

pub every_same : (p q : ℕ → Bool) (n : ℕ) → ((i : ℕ) → i < n → p i ≡ q i) → every p n ≡ every q n
every_same p q zero h = refl
every_same p q (suc n) h = ap₂ ◌&&◌ (every_same p q n (λ i l. h i (omega arith))) (h n (omega arith))

and_swap : (a b c d : Bool) → a && b && (c && d) ≡ a && c && (b && d)
and_swap true true c d = refl
and_swap true false true d = refl
and_swap true false false d = refl
and_swap false b c d = refl

and_assoc : (a b c : Bool) → a && b && c ≡ a && (b && c)
and_assoc true b c = refl
and_assoc false b c = refl

-- two tests of each row
pub every_both : (p q : ℕ → Bool) (n : ℕ) → every p n && every q n ≡ every (λ i. p i && q i) n
every_both p q zero = refl
every_both p q (suc n) = and_swap (every p n) (p n) (every q n) (q n) ∙ ap (λ b. b && (p n && q n)) (every_both p q n)

-- b and c say what d says wherever a holds
every_under : (a b c d : ℕ → Bool) (n : ℕ) → ((i : ℕ) → i < n → a i ≡ true → b i && c i ≡ d i)
    → every a n && (every b n && every c n) ≡ every a n && every d n
every_under a b c d n h =
    ap (λ x. every a n && x) (every_both b c n)
    ∙ every_both a (λ i. b i && c i) n
    ∙ every_same (λ i. a i && (b i && c i)) (λ i. a i && d i) n (λ i l. go (a i) (b i && c i) (d i) (h i l))
    ∙ sym (every_both a d n)
  where
    go : (x y z : Bool) → (x ≡ true → y ≡ z) → x && y ≡ x && z
    go true y z f = f refl
    go false y z f = refl

-- ---- parts of a body

pub part_part : (j n m : ℕ) (l : List ℕ) → j + m ≤ n → take m (drop j (take n l)) ≡ take m (drop j l)
part_part zero n m l h = take-take m n l (omega arith)
part_part (suc j) zero m l h = absurd (omega arith)
part_part (suc j) (suc n) m [] h = refl
part_part (suc j) (suc n) m (x ∷ l) h = part_part j n m l (omega arith)

number_part : (w j n : ℕ) (l : List ℕ) → j + w ≤ n → number w (drop j (take n l)) ≡ number w (drop j l)
number_part w j n l h =
    sym (number_take w w (drop j (take n l)) (omega arith)) ∙ ap (number w) (part_part j n w l h) ∙ number_take w w (drop j l) (omega arith)

module _ (s : List ℕ) (start size off len : ℕ) where
  -- a byte of a buffer with an entry of one byte for each row
  pub byte_part : off + len ≤ size → (i : ℕ) → i < len → get_or (take size (drop start s)) (off + i) 0 ≡ get_or s (start + off + i) 0
  byte_part h i l = get_or-take size (drop start s) (off + i) 0 (omega arith) ∙ get_or-drop start s (off + i) 0 ∙ rw add_assoc

  -- an entry of w bytes
  pub item_part : (w : ℕ) → (off + len) * w ≤ size → (i : ℕ) → i < len → item w (take size (drop start s)) (off + i) ≡ entry w s (start + w * off) i
  unfolding item
  item_part w h i l =
      let e : (off + i) * w + w ≤ (off + len) * w = entry_end w (omega arith) in
      let g : start + (off + i) * w ≡ start + w * off + w * i = rw (mul_comm (off + i) w, mul-add, add_assoc) in
      number_part w ((off + i) * w) size (drop start s) (omega arith) ∙ ap (number w) (drop-drop ((off + i) * w) start s ∙ ap (λ (k : ℕ). drop k s) g)

  -- a validity bit
  pub valid_part : off + len ≤ 8 * size → (i : ℕ) → i < len → ok (some (take size (drop start s))) (off + i) ≡ valid_at s start off i
  unfolding bit
  valid_part h i l =
      let q : (8 * start + (off + i)) / 8 ≡ start + (off + i) / 8 = omega arith in
      let r : (8 * start + (off + i)) % 8 ≡ (off + i) % 8 = omega arith in
      let e : get_or (take size (drop start s)) ((off + i) / 8) 0 ≡ get_or s (start + (off + i) / 8) 0
      = get_or-take size (drop start s) ((off + i) / 8) 0 (omega arith) ∙ get_or-drop start s ((off + i) / 8) 0 in
      rw (bit_at s (8 * start + (off + i)), q, r, e)

-- ---- unions

-- the type ids of a sparse or a dense union
pub ids_test : (s : List ℕ) (start size off len : ℕ) (ids : List ℕ) → off + len ≤ size
    → every (λ i. member (get_or (take size (drop start s)) (off + i) 0) ids) len ≡ ids_declared s (start + off) ids len
ids_test s start size off len ids h = every_same _ _ len (λ i l. ap (λ (c : ℕ). member c ids) (byte_part s start size off len h i l))

-- the type ids and positions of a dense union, whose child of a declared id c has size c slots; x is what stands before them
pub positions_test : (s : List ℕ) (istart isize pstart psize off len : ℕ) (ids lens : List ℕ) (size : ℕ → ℕ)
    → ((c : ℕ) → member c ids ≡ true → get_or lens (field_of ids c) 0 ≡ size c) → off + len ≤ isize → (off + len) * 4 ≤ psize → (x : Bool)
    → x
    && every (λ i. member (get_or (take isize (drop istart s)) (off + i) 0) ids) len
    && every (λ i. ltb (item 4 (take psize (drop pstart s)) (off + i)) (half 4)) len
    && every (λ i. ltb (item 4 (take psize (drop pstart s)) (off + i)) (size (get_or (take isize (drop istart s)) (off + i) 0))) len
    ≡ x && ids_declared s (istart + off) ids len && positions_within s (istart + off) (pstart + 4 * off) ids lens len
positions_test s istart isize pstart psize off len ids lens size sizes h k x =
    let byte = byte_part s istart isize off len h in
    let place = item_part s pstart psize off len 4 k in
    let a : ℕ → Bool = λ i. member (get_or s (istart + off + i) 0) ids in
    let b : ℕ → Bool = λ i. ltb (entry 4 s (pstart + 4 * off) i) (half 4) in
    let d : ℕ → Bool = λ i. ltb (entry 4 s (pstart + 4 * off) i) (size (get_or s (istart + off + i) 0)) in
    let g : ℕ → Bool = λ i. position_good ids lens (get_or s (istart + off + i) 0) (entry 4 s (pstart + 4 * off) i) in
    rw (
      ids_test s istart isize off len ids h,
      every_same (λ i. ltb (item 4 (take psize (drop pstart s)) (off + i)) (half 4)) b len (λ i l. ap (λ (p : ℕ). ltb p (half 4)) (place i l)),
      every_same (λ i. ltb (item 4 (take psize (drop pstart s)) (off + i)) (size (get_or (take isize (drop istart s)) (off + i) 0))) d len (λ i l. ap₂ (λ (p c : ℕ). ltb p (size c)) (place i l) (byte i l)),
    )
    (and_four x (every a len) (every b len) (every d len)
    ∙ ap (λ y. x && y) (every_under a b d g len (λ i l m. ap (λ (y : ℕ). b i && ltb (entry 4 s (pstart + 4 * off) i) y) (sym (sizes _ m))))
    ∙ sym (and_assoc x (every a len) (every g len)))
  where
    and_four : (x a b d : Bool) → x && a && b && d ≡ x && (a && (b && d))
    and_four true true b d = refl
    and_four true false b d = refl
    and_four false a b d = refl

-- ---- dictionaries

pub ltb_min : (k a b : ℕ) → ltb k a && ltb k b ≡ ltb k (min a b)
ltb_min k a b = go (ltb k a) refl (ltb k b) refl
  where
    go : (x : Bool) → ltb k a ≡ x → (y : Bool) → ltb k b ≡ y → x && y ≡ ltb k (min a b)
    go true e true f = sym (lt-ltb k (min a b) (omega (arith, ltb-true k a e, ltb-true k b f)))
    go true e false f = sym (le-ltb k (min a b) (omega (arith, ltb-false k b f)))
    go false e y f = sym (le-ltb k (min a b) (omega (arith, ltb-false k a e)))

only_both : (v x y : Bool) → only_if v x && only_if v y ≡ only_if v (x && y)
only_both true x y = refl
only_both false x y = refl

-- keys of w bytes below `top`, which the format of the keys sets, and below the number of entries; x is what stands before them
module _ (s : List ℕ) (start size off len w top entries : ℕ) (h : (off + len) * w ≤ size) (x : Bool) where
  keys_as : (okay see : ℕ → Bool) → ((i : ℕ) → i < len → okay (off + i) ≡ see i)
      → x
      && every (λ i. only_if (okay (off + i)) (ltb (item w (take size (drop start s)) (off + i)) top)) len
      && every (λ i. only_if (okay (off + i)) (ltb (item w (take size (drop start s)) (off + i)) entries)) len
      ≡ x && every (λ i. only_if (see i) (ltb (entry w s (start + w * off) i) (min top entries))) len
  keys_as okay see v =
      and_assoc x _ _
      ∙ ap (λ y. x && y)
      (every_both _ _ len
      ∙ every_same _ _ len (λ i l.
      only_both (okay (off + i)) _ _
      ∙ ap₂ only_if (v i l) (ltb_min (item w (take size (drop start s)) (off + i)) top entries ∙ ap (λ (k : ℕ). ltb k (min top entries)) (item_part s start size off len w h i l))))

  -- without validity
  pub keys_test :
      x
      && every (λ i. only_if (ok none (off + i)) (ltb (item w (take size (drop start s)) (off + i)) top)) len
      && every (λ i. only_if (ok none (off + i)) (ltb (item w (take size (drop start s)) (off + i)) entries)) len
      ≡ x && keys_below w s (start + w * off) (min top entries) len
  keys_test = keys_as (ok none) (λ i. true) (λ i l. refl)

  -- with a validity bitmap
  pub valid_keys_test : (vstart vsize : ℕ) → off + len ≤ 8 * vsize
      → x
      && every (λ i. only_if (ok (some (take vsize (drop vstart s))) (off + i)) (ltb (item w (take size (drop start s)) (off + i)) top)) len
      && every (λ i. only_if (ok (some (take vsize (drop vstart s))) (off + i)) (ltb (item w (take size (drop start s)) (off + i)) entries)) len
      ≡ x && valid_keys_below w s (start + w * off) (min top entries) vstart off len
  valid_keys_test vstart vsize g = keys_as (ok (some (take vsize (drop vstart s)))) (valid_at s vstart off) (valid_part s vstart vsize off len g)

-- ---- views

pub get_d_listed : {A : Type 0} (f : ℕ → A) (n k : ℕ) (d : A) → k < n → get_or (listed f n) k d ≡ f k
unfolding listed
get_d_listed f zero k d h = absurd (omega arith)
get_d_listed f (suc n) zero d h = refl
get_d_listed f (suc n) (suc k) d h = get_d_listed (λ j. f (suc j)) n k d (omega arith)

pub length_listed : {A : Type 0} (f : ℕ → A) (n : ℕ) → length (listed f n) ≡ n
unfolding listed
length_listed f zero = refl
length_listed f (suc n) = ap suc (length_listed (λ j. f (suc j)) n)

-- bufs are the `count` data buffers that the table t names from number `first` on, parts of the body s that lie in it
pub record Named (s t : List ℕ) (first count : ℕ) (bufs : List (List ℕ)) : Type 0 where
  pub many : length bufs ≡ count
  pub part : (k : ℕ) → k < count → get_or bufs k [] ≡ take (bytes_at t first k) (drop (start_at t first k) s)
  pub inside : (k : ℕ) → k < count → start_at t first k + bytes_at t first k ≤ length s

-- tests of the same fact are equal
same_test : (a b : Bool) {P Q : Type 0} → Agrees a P → Agrees b Q → (P → Q) → (Q → P) → a ≡ b
same_test true true h k f g = refl
same_test true false h k f g = absurd (k.complete (f (h.sound tt)))
same_test false true h k f g = absurd (h.complete (g (k.sound tt)))
same_test false false h k f g = refl

-- four bytes are the same where their numbers are
prefix_same : (x y : List ℕ) → 4 ≤ length x → 4 ≤ length y → ((i : ℕ) → get_or x i 0 < 256) → ((i : ℕ) → get_or y i 0 < 256)
    → same (take 4 x) (take 4 y) ≡ eqb (number 4 x) (number 4 y)
prefix_same x y a b u v =
    same_test _ _ (same_agrees (take 4 x) (take 4 y)) (eqb_agrees (number 4 x) (number 4 y))
    (λ e. sym (number_take 4 4 x (omega arith)) ∙ ap (number 4) e ∙ number_take 4 4 y (omega arith))
    (λ e. sym (encode_number 4 x a u) ∙ ap (encode 4) e ∙ encode_number 4 y b v)

module _ (s : List ℕ) (small : (i : ℕ) → get_or s i 0 < 256) where
  after : (k i : ℕ) → get_or (drop k s) i 0 < 256
  after k i = rw get_or-drop (small (k + i))

  module _ (t : List ℕ) (first count : ℕ) (bufs : List (List ℕ)) (named : Named s t first count bufs) (p : ℕ) (fits : p + 16 ≤ length s) where
    abbrev len : ℕ
    len = number 4 (drop p s)

    abbrev num : ℕ
    num = number 4 (drop (p + 8) s)

    abbrev place : ℕ
    place = number 4 (drop (p + 12) s)

    -- a long view of a known buffer
    lies_same : 12 < len → num < count
        → leb (place + len) (length (get_or bufs num [])) && same (take 4 (drop (p + 4) s)) (take 4 (drop place (get_or bufs num [])))
        ≡ lies_in s (start_at t first num) (bytes_at t first num) (view_at s p)
    lies_same l h =
        let st = start_at t first num in
        let by = bytes_at t first num in
        let e : get_or bufs num [] ≡ take by (drop st s) = named.part num h in
        let g : st + by ≤ length s = named.inside num h in
        let n : length (take by (drop st s)) ≡ by = length-take-le by (drop st s) (simp length-drop (omega arith)) in
        rw (e, n, le-leb (st + by) (length s) g) (go st by g (leb (place + len) by) refl)
      where
        go : (st by : ℕ) → st + by ≤ length s → (b : Bool) → leb (place + len) by ≡ b
            → b && same (take 4 (drop (p + 4) s)) (take 4 (drop place (take by (drop st s)))) ≡ b && eqb (number 4 (drop (p + 4) s)) (number 4 (drop (st + place) s))
        go st by g true d =
            let k : place + len ≤ by = leb-true _ _ d in
            let f : take 4 (drop place (take by (drop st s))) ≡ take 4 (drop (st + place) s)
            = part_part place by 4 (drop st s) (omega arith) ∙ ap (take 4) (drop-drop place st s) in
            rw f (prefix_same (drop (p + 4) s) (drop (st + place) s) (simp length-drop (omega arith)) (simp length-drop (omega arith)) (after (p + 4)) (after (st + place)))
        go st by g false d = refl

    -- the four numbers of a view
    length_is : number 4 (take 16 (drop p s)) ≡ len
    length_is = number_take 4 16 (drop p s) (omega arith)

    num_is : number 4 (drop 8 (take 16 (drop p s))) ≡ num
    num_is = number_part 4 8 16 (drop p s) (omega arith) ∙ ap (number 4) (drop-drop 8 p s)

    place_is : number 4 (drop 12 (take 16 (drop p s))) ≡ place
    place_is = number_part 4 12 16 (drop p s) (omega arith) ∙ ap (number 4) (drop-drop 12 p s)

    prefix_is : take 4 (drop 4 (take 16 (drop p s))) ≡ take 4 (drop (p + 4) s)
    prefix_is = part_part 4 16 4 (drop p s) (omega arith) ∙ ap (take 4) (drop-drop 4 p s)

    -- one view
    pub view_test_lem : one_view_test bufs (take 16 (drop p s)) ≡ view_good s t first count (view_at s p)
    view_test_lem = rw (length_is, num_is, place_is, prefix_is, named.many) (ap (λ b. ltb len 2147483648 && b) (go (ltb 12 len) refl))
      where
        known : (b : Bool) → ltb num count ≡ b → 12 < len
            → b && leb (place + len) (length (get_or bufs num [])) && same (take 4 (drop (p + 4) s)) (take 4 (drop place (get_or bufs num [])))
            ≡ b && lies_in s (start_at t first num) (bytes_at t first num) (view_at s p)
        known true e l = lies_same l (ltb-true _ _ e)
        known false e l = refl

        go : (b : Bool) → ltb 12 len ≡ b
            → only_if b (ltb num count && leb (place + len) (length (get_or bufs num [])) && same (take 4 (drop (p + 4) s)) (take 4 (drop place (get_or bufs num []))))
            ≡ only_if b (ltb num count && lies_in s (start_at t first num) (bytes_at t first num) (view_at s p))
        go true e = known (ltb num count) refl (ltb-true _ _ e)
        go false e = refl

-- the views of an array at `start`, whose long ones name data buffers of the same body
module _ (s : List ℕ) (start size off len : ℕ) (h : (off + len) * 16 ≤ size) (within : start + size ≤ length s) (small : (i : ℕ) → get_or s i 0 < 256)
    (t : List ℕ) (first count : ℕ) (bufs : List (List ℕ)) (named : Named s t first count bufs) where
  views_as : (i : ℕ) → i < len → one_view_test bufs (view_of (take size (drop start s)) (off + i)) ≡ view_good s t first count (view_at s (start + 16 * off + 16 * i))
  views_as i l =
      let p : start + (off + i) * 16 ≡ start + 16 * off + 16 * i = omega arith in
      let e : view_of (take size (drop start s)) (off + i) ≡ take 16 (drop (start + 16 * off + 16 * i) s)
      = part_part ((off + i) * 16) size 16 (drop start s) (omega arith) ∙ ap (take 16) (drop-drop ((off + i) * 16) start s ∙ ap (λ (k : ℕ). drop k s) p) in
      ap (one_view_test bufs) e ∙ view_test_lem s small t first count bufs named (start + 16 * off + 16 * i) (omega arith)

  -- without validity
  pub views_test : every (λ i. only_if (ok none (off + i)) (one_view_test bufs (view_of (take size (drop start s)) (off + i)))) len
      ≡ views_good s (start + 16 * off) t first count len
  views_test = every_same _ _ len views_as

  -- with a validity bitmap
  pub valid_views_test : (vstart vsize : ℕ) → off + len ≤ 8 * vsize
      → every (λ i. only_if (ok (some (take vsize (drop vstart s))) (off + i)) (one_view_test bufs (view_of (take size (drop start s)) (off + i)))) len
      ≡ valid_views_good s (start + 16 * off) t first count vstart off len
  valid_views_test vstart vsize g = every_same _ _ len (λ i l. ap₂ only_if (valid_part s vstart vsize off len g i l) (views_as i l))
