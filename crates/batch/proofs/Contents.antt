-- What a walk at a node without children writes, buffer by buffer, and that a range cut writes what its two halves write. Assumes nothing.
use mathlib.Core.Path.{◌≡◌, refl, sym, ap, ◌∙◌}
use mathlib.Core.Bool.{Bool, true, false, cond, not}
use mathlib.Core.List.{List, [], ◌∷◌, ◌++◌, append-nil, append_assoc}
use Prim.Native.Nat.{ℕ, zero, suc, ◌+◌, ◌*◌, ◌-◌, ◌%◌, ◌^◌, ◌≤◌, ◌<◌}
use native.Mathlib.Nat.{add-zero, zero-add, add-suc, suc-add, add_assoc, mul-add, add-mul, mul_comm}
use native.Mathlib.Omega.{arith}
use lib.ListN.{length, take, drop, replicate, length-replicate, length-drop}
use lib.Seq.{take-add, drop-drop, length-take-le}
use lib.Dec.{leb, eqb}
use borrow.Author.Tests.{leb-true, le-leb, eqb-true, eqb-false, ne_eqb}
use Rattle.number.specs.Number.{encode}
use Rattle.bits.specs.Bits.{bits_at}
use Rattle.bits.proofs.Laws.{Below, below_of_lem, below_at_lem, below_take, below_drop, below_replicate, below_bits_at}
use Rattle.bits.proofs.Puts.{bits_at_add, length_bits_at}
use Rattle.utils.specs.Pieces.{pieces}
use Rattle.utils.specs.Offsets.{largest, moved_offsets}
use Rattle.utils.proofs.Pieces.{pieces_same, length_pieces, length_numbers}
use Rattle.utils.specs.primitive.Primitive.{rebased}
use Rattle.utils.specs.byte_view.View.{reviewed_one, reviewed}
use Rattle.utils.proofs.byte_view.Laws.{length_review}
use Rattle.refinement.proofs.log_in_room.Bytes.{bytes_moved, bytes_rebased, bytes_reviewed}
use Rattle.walk.specs.State.{Join, keeps_of, base_of, rows, bytes, top, place, rows_in}
use Rattle.walk.specs.Log.{Log, Out, put, mask, done, wrote, need, next}
use Rattle.walk.specs.Leaves.{copy_bits, copy_mask, put_string, copy_string}
use Rattle.batch.specs.Stretch.{never_falls}
use Rattle.batch.proofs.Leaves.{mask_fits, DataCuts, data_as, entries_cut}
use Rattle.batch.proofs.Strings.{off, off_later, Fit, extended_fits, strings_cut, rises}
use Rattle.batch.proofs.Alike.{lays}
use Rattle.walk.proofs.Offsets.{string_is}

pub pieces_add : (f : ℕ → List ℕ) (m s : ℕ) → pieces f (m + s) ≡ pieces f m ++ pieces (λ j. f (m + j)) s
unfolding pieces
pieces_add f m zero = rw (add-zero m) (sym (append-nil (pieces f m)))
pieces_add f m (suc s) = rw (add-suc m s) (ap (◌++ f (m + s)) (pieces_add f m s) ∙ append_assoc (pieces f m) (pieces (λ j. f (m + j)) s) (f (m + s)))

replicate_add : (m s v : ℕ) → replicate (m + s) v ≡ replicate m v ++ replicate s v
replicate_add zero s v = rw (zero-add s)
replicate_add (suc m) s v = rw (suc-add m s) (ap (v ∷◌) (replicate_add m s v))

module _ (x : Join) (k : ℕ) where
  -- ---- validity

  abbrev pub keeps : Bool
  keeps = not (eqb (keeps_of x.plan k) 0)

  -- a bit a row, whether they are written or not
  pub bits_of : ℕ → ℕ → List ℕ
  bits_of slot n = cond keeps (cond (eqb (place x k 0) 0) (replicate n 1) (bits_at (8 * place x k 1 + slot) n x.body)) (replicate n 1)

  pub mask_log : (slot n : ℕ) (c : List ℕ) → mask_fits x k slot n ≡ true → (copy_mask x k slot n c).log ≡ lays keeps (mask k (rows c k) (bits_of slot n))
  unfolding copy_mask copy_bits mask_fits bits_of done wrote next need
  mask_log slot n c = go (eqb (keeps_of x.plan k) 0) (eqb (place x k 0) 0)
    where
      go : (s t : Bool) → cond s true (cond t true (leb (8 * place x k 1 + slot + n) (8 * length x.body))) ≡ true
          → (cond s (done c) (cond t (wrote (mask k (rows c k) (replicate n 1)) c) (copy_bits x k slot n c))).log
          ≡ lays (not s) (mask k (rows c k) (cond (not s) (cond t (replicate n 1) (bits_at (8 * place x k 1 + slot) n x.body)) (replicate n 1)))
      go true t h = refl
      go false true h = refl
      go false false h = rw h

  pub bits_long : (slot n : ℕ) → mask_fits x k slot n ≡ true → length (bits_of slot n) ≡ n
  unfolding mask_fits bits_of
  bits_long slot n = go (eqb (keeps_of x.plan k) 0) (eqb (place x k 0) 0)
    where
      go : (s t : Bool) → cond s true (cond t true (leb (8 * place x k 1 + slot + n) (8 * length x.body))) ≡ true
          → length (cond (not s) (cond t (replicate n 1) (bits_at (8 * place x k 1 + slot) n x.body)) (replicate n 1)) ≡ n
      go true t h = length-replicate n 1
      go false true h = length-replicate n 1
      go false false h = length_bits_at (8 * place x k 1 + slot) n x.body (leb-true _ _ h)

  pub bits_below : (slot n : ℕ) → Below 2 (bits_of slot n)
  unfolding bits_of
  bits_below slot n = go keeps (eqb (place x k 0) 0)
    where
      go : (s t : Bool) → Below 2 (cond s (cond t (replicate n 1) (bits_at (8 * place x k 1 + slot) n x.body)) (replicate n 1))
      go true true = below_replicate 2 n 1 (omega arith)
      go true false = below_bits_at (8 * place x k 1 + slot) n x.body
      go false t = below_replicate 2 n 1 (omega arith)

  pub bits_cut : (slot m s : ℕ) → bits_of slot (m + s) ≡ bits_of slot m ++ bits_of (slot + m) s
  unfolding bits_of
  bits_cut slot m s = go keeps (eqb (place x k 0) 0)
    where
      go : (t u : Bool) → cond t (cond u (replicate (m + s) 1) (bits_at (8 * place x k 1 + slot) (m + s) x.body)) (replicate (m + s) 1)
          ≡ cond t (cond u (replicate m 1) (bits_at (8 * place x k 1 + slot) m x.body)) (replicate m 1) ++ cond t (cond u (replicate s 1) (bits_at (8 * place x k 1 + (slot + m)) s x.body)) (replicate s 1)
      go true true = replicate_add m s 1
      go true false =
          let e : 8 * place x k 1 + (slot + m) ≡ 8 * place x k 1 + slot + m = omega arith in
          rw e (bits_at_add (8 * place x k 1 + slot) m s x.body)
      go false u = replicate_add m s 1

  -- ---- data

  -- a log of n rows, or none where there are no rows
  pub data Logged (n : ℕ) (l whole : Log) : Type 0 where
    all : l ≡ whole → Logged n l whole
    bare : n ≡ 0 → l ≡ [] → Logged n l whole

  -- u: whether there is a second buffer; first: the bytes of the first one
  pub record DataLogs (st : ℕ → ℕ → Bool) (u : Bool) (first : ℕ → ℕ → ℕ) (f : ℕ → ℕ → List ℕ → Out) (cuts : DataCuts x k st f) : Type 1 where
    -- the bytes of a row in the first buffer, and where row r stands
    pub width : ℕ
    pub base : ℕ → ℕ
    pub base_is : (r n : ℕ) → base r ≡ first r n
    pub base_more : (r n : ℕ) → base (r + n) ≡ base r + width * n
    pub ones : ℕ → ℕ → ℕ → List ℕ
    pub ones_long : Below 256 x.body → (slot n b : ℕ) → cuts.passes slot n b → length (ones slot n b) ≡ width * n
    pub ones_below : Below 256 x.body → (slot n b : ℕ) → Below 256 (ones slot n b)
    pub ones_cut : Below 256 x.body → (slot m s b : ℕ) → st slot (m + s) ≡ true → cuts.passes slot (m + s) b → ones slot (m + s) b ≡ ones slot m b ++ ones (slot + m) s (b + cuts.amount slot m)
    pub chars : ℕ → ℕ → List ℕ
    pub chars_long : (slot n b : ℕ) → cuts.passes slot n b → length (chars slot n) ≡ cuts.amount slot n
    pub chars_below : Below 256 x.body → (slot n : ℕ) → Below 256 (chars slot n)
    pub chars_cut : (slot m s b : ℕ) → st slot (m + s) ≡ true → cuts.passes slot (m + s) b → chars slot (m + s) ≡ chars slot m ++ chars (slot + m) s
    pub log_is : (slot n : ℕ) (c : List ℕ) → cuts.passes slot n (bytes c k)
        → Logged n (f slot n c).log (put k 1 (base (rows c k)) (ones slot n (bytes c k)) ∷ lays u (put k 2 (bytes c k) (chars slot n)))

  -- entries of w bytes
  pub entries_log : (st : ℕ → ℕ → Bool) (first : ℕ → ℕ → ℕ) (w : ℕ) → ((r n : ℕ) → r * w ≡ first r n) → (v : ℕ → ℕ → List ℕ)
      → (Below 256 x.body → (slot n : ℕ) → place x k 3 + w * (slot + n) ≤ length x.body → length (v slot n) ≡ w * n)
      → (Below 256 x.body → (slot n : ℕ) → Below 256 (v slot n))
      → ((slot m s : ℕ) → v slot (m + s) ≡ v slot m ++ v (slot + m) s)
      → DataLogs st false first (λ slot n c. need (rows_in x (place x k 3) w slot n) 12 c (wrote (put k 1 (rows c k * w) (v slot n)) c)) (entries_cut x k st w (λ slot n c. put k 1 (rows c k * w) (v slot n)))
  unfolding entries_cut rows_in need wrote
  entries_log st first w is v long below cut =
      record {
        width = w;
        base = λ r. r * w;
        base_is = is;
        base_more = λ r n. let e = add-mul r n w in let g = mul_comm n w in omega arith;
        ones = λ slot n b. v slot n;
        ones_long = λ u slot n b h. long u slot n h;
        ones_below = λ u slot n b. below u slot n;
        ones_cut = λ u slot m s b t h. cut slot m s;
        chars = λ slot n. [];
        chars_long = λ slot n b h. refl;
        chars_below = λ u slot n. below_replicate 256 0 0 (omega arith);
        chars_cut = λ slot m s b t h. refl;
        log_is = λ slot n c h. all (rw (le-leb (place x k 3 + w * (slot + n)) (length x.body) h));
      }

  -- ---- the kinds of entries

  module _ (w : ℕ) where
    abbrev pub numbers_of : ℕ → ℕ → List ℕ
    numbers_of slot n = take (w * n) (drop (place x k 3 + w * slot) x.body)

    pub numbers_long : (slot n : ℕ) → place x k 3 + w * (slot + n) ≤ length x.body → length (numbers_of slot n) ≡ w * n
    numbers_long slot n h =
        let e = mul-add w slot n in
        length-take-le (w * n) (drop (place x k 3 + w * slot) x.body) (rw length-drop (omega arith))

    pub numbers_cut : (slot m s : ℕ) → numbers_of slot (m + s) ≡ numbers_of slot m ++ numbers_of (slot + m) s
    numbers_cut slot m s =
        let e : w * (m + s) ≡ w * m + w * s = mul-add w m s in
        let f = mul-add w slot m in
        let g : place x k 3 + w * slot + w * m ≡ place x k 3 + w * (slot + m) = omega arith in
        rw (e, take-add (w * m) (w * s) (drop (place x k 3 + w * slot) x.body), drop-drop (w * m) (place x k 3 + w * slot) x.body, g)

    abbrev pub keys_of : ℕ → ℕ → List ℕ
    keys_of slot n = rebased w x.body (place x k 3 + w * slot) (base_of x.plan x.source k) n

    pub keys_long : (slot n : ℕ) → length (keys_of slot n) ≡ w * n
    unfolding rebased
    keys_long slot n = length_numbers w _ n

    pub keys_cut : (slot m s : ℕ) → keys_of slot (m + s) ≡ keys_of slot m ++ keys_of (slot + m) s
    unfolding rebased
    keys_cut slot m s =
        pieces_add _ m s
        ∙ ap (λ y. pieces (λ j. encode w ((off x k w slot j + base_of x.plan x.source k) % 256 ^ w)) m ++ y)
        (pieces_same _ _ s (λ j l. ap (λ v. encode w ((v + base_of x.plan x.source k) % 256 ^ w)) (sym (off_later x k w slot m j))))

  abbrev pub views_of : ℕ → ℕ → List ℕ
  views_of slot n = reviewed x.body (place x k 3 + 16 * slot) (base_of x.plan x.source k) n

  pub views_long : Below 256 x.body → (slot n : ℕ) → place x k 3 + 16 * (slot + n) ≤ length x.body → length (views_of slot n) ≡ 16 * n
  unfolding reviewed
  views_long u slot n h =
      length_pieces 16 _ n (λ j l. length_review x.body (place x k 3 + 16 * slot + 16 * j) (omega arith) (below_at_lem 256 x.body (omega arith) u) (base_of x.plan x.source k))

  pub views_cut : (slot m s : ℕ) → views_of slot (m + s) ≡ views_of slot m ++ views_of (slot + m) s
  unfolding reviewed
  views_cut slot m s =
      pieces_add _ m s
      ∙ ap (λ y. pieces (λ j. reviewed_one (drop (place x k 3 + 16 * slot + 16 * j) x.body) (base_of x.plan x.source k)) m ++ y)
      (pieces_same _ _ s (λ j l. ap (λ v. reviewed_one (drop v x.body) (base_of x.plan x.source k)) (let e : place x k 3 + 16 * slot + 16 * (m + j) ≡ place x k 3 + 16 * (slot + m) + 16 * j = omega arith in e)))

  -- ---- byte strings

  module _ (w : ℕ) (st : ℕ → ℕ → Bool) (is : (slot n : ℕ) → st slot n ≡ never_falls w x.body (place x k 3 + w * slot) n) (big : largest w ≤ top) (first : ℕ → ℕ → ℕ) (needs : (r n : ℕ) → suc r * w ≡ first r n) where
    abbrev O : ℕ → ℕ → ℕ
    O slot j = off x k w slot j

    abbrev pub chars_of : ℕ → ℕ → List ℕ
    chars_of slot n = take (O slot n - O slot 0) (drop (place x k 5 + O slot 0) x.body)

    abbrev pub offsets_of : ℕ → ℕ → ℕ → List ℕ
    offsets_of slot n b = moved_offsets w x.body (place x k 3 + w * slot) b n

    offsets_cut : (slot m s b : ℕ) → never_falls w x.body (place x k 3 + w * slot) (m + s) ≡ true → offsets_of slot (m + s) b ≡ offsets_of slot m b ++ offsets_of (slot + m) s (b + (O slot m - O slot 0))
    unfolding moved_offsets
    offsets_cut slot m s b t =
        pieces_add _ m s
        ∙ ap (λ y. pieces (λ j. encode w ((b + (O slot (j + 1) + 256 ^ w - O slot 0)) % 256 ^ w)) m ++ y) (pieces_same _ _ s (λ j l. ap (λ v. encode w (v % 256 ^ w)) (same j l)))
      where
        same : (j : ℕ) → j < s → b + (O slot (m + j + 1) + 256 ^ w - O slot 0) ≡ b + (O slot m - O slot 0) + (O (slot + m) (j + 1) + 256 ^ w - O (slot + m) 0)
        same j l =
            let z = off_later x k w slot m 0 ∙ ap (O slot) (add-zero m) in
            let y : O (slot + m) (j + 1) ≡ O slot (m + j + 1) = off_later x k w slot m (j + 1) ∙ ap (O slot) (sym (add_assoc m j 1)) in
            let a = rises w x.body (place x k 3 + w * slot) (m + s) t 0 m (omega arith) (omega arith) in
            let d = rises w x.body (place x k 3 + w * slot) (m + s) t m (m + j + 1) (omega arith) (omega arith) in
            omega arith

    chars_cut_at : (slot m s : ℕ) → never_falls w x.body (place x k 3 + w * slot) (m + s) ≡ true → chars_of slot (m + s) ≡ chars_of slot m ++ chars_of (slot + m) s
    chars_cut_at slot m s t =
        let z = off_later x k w slot m 0 ∙ ap (O slot) (add-zero m) in
        let y = off_later x k w slot m s in
        let a = rises w x.body (place x k 3 + w * slot) (m + s) t 0 m (omega arith) (omega arith) in
        let d = rises w x.body (place x k 3 + w * slot) (m + s) t m (m + s) (omega arith) (omega arith) in
        let e : O slot (m + s) - O slot 0 ≡ O slot m - O slot 0 + (O slot (m + s) - O slot m) = omega arith in
        let f : place x k 5 + O slot 0 + (O slot m - O slot 0) ≡ place x k 5 + O slot m = omega arith in
        rw (e, take-add (O slot m - O slot 0) (O slot (m + s) - O slot m) (drop (place x k 5 + O slot 0) x.body), drop-drop (O slot m - O slot 0) (place x k 5 + O slot 0) x.body, f, z, y)

    string_log : (slot n : ℕ) (c : List ℕ) → (n ≡ 0 → ⊥) → Fit x k w slot n (bytes c k)
        → (copy_string x k w slot n c).log ≡ put k 1 (suc (rows c k) * w) (offsets_of slot n (bytes c k)) ∷ put k 2 (bytes c k) (chars_of slot n) ∷ []
    unfolding put_string next wrote done need
    string_log slot n c z h =
        let e : bytes c k + (O slot n - O slot 0) - bytes c k ≡ O slot n - O slot 0 = omega arith in
        let g : leb (place x k 5 + O slot 0 + (O slot n - O slot 0)) (length x.body) ≡ true = le-leb _ _ h.chars in
        rw (string_is x k w slot n c, ne_eqb n 0 z, extended_fits x k w slot n (bytes c k) h, h.offsets, e, g)

    pub strings_log : DataLogs st true first (λ slot n c. copy_string x k w slot n c) (strings_cut x k w st is big)
    unfolding strings_cut copy_string done moved_offsets
    strings_log =
        record {
          width = w;
          base = λ r. suc r * w;
          base_is = needs;
          base_more = λ r n. let e = add-mul (suc r) n w in let g = mul_comm n w in let y : suc (r + n) ≡ suc r + n = omega arith in rw y (omega arith);
          ones = offsets_of;
          ones_long = λ u slot n b h. length_numbers w _ n;
          ones_below = λ u slot n b. below_of_lem 256 _ (bytes_moved w x.body (place x k 3 + w * slot) b n);
          ones_cut = λ u slot m s b t h. offsets_cut slot m s b (sym (is slot (m + s)) ∙ t);
          chars = chars_of;
          chars_long = λ slot n b h. long slot n b h (eqb n 0) refl;
          chars_below = λ u slot n. below_take 256 (O slot n - O slot 0) (drop (place x k 5 + O slot 0) x.body) (below_drop 256 (place x k 5 + O slot 0) x.body u);
          chars_cut = λ slot m s b t h. chars_cut_at slot m s (sym (is slot (m + s)) ∙ t);
          log_is = λ slot n c h. by slot n c h (eqb n 0) refl;
        }
      where
        long : (slot n b : ℕ) → ((n ≡ 0 → ⊥) → Fit x k w slot n b) → (t : Bool) → eqb n 0 ≡ t → length (chars_of slot n) ≡ O slot n - O slot 0
        long slot n b h true e =
            let z = eqb-true n 0 e in
            let y : O slot 0 - O slot 0 ≡ 0 = omega arith in
            rw (z, y)
        long slot n b h false e = let g = (h (eqb-false n 0 e)).chars in length-take-le _ _ (rw length-drop (omega arith))

        by : (slot n : ℕ) (c : List ℕ) → ((n ≡ 0 → ⊥) → Fit x k w slot n (bytes c k)) → (t : Bool) → eqb n 0 ≡ t
            → Logged n (copy_string x k w slot n c).log (put k 1 (suc (rows c k) * w) (offsets_of slot n (bytes c k)) ∷ put k 2 (bytes c k) (chars_of slot n) ∷ [])
        by slot n c h true e = bare (eqb-true n 0 e) (rw (eqb-true n 0 e))
        by slot n c h false e = all (string_log slot n c (eqb-false n 0 e) (h (eqb-false n 0 e)))

  -- ---- both together

  pub record Kind (st : ℕ → ℕ → Bool) (u : Bool) (first : ℕ → ℕ → ℕ) (f : ℕ → ℕ → List ℕ → Out) : Type 1 where
    pub cuts : DataCuts x k st f
    pub logs : DataLogs st u first f cuts

  pub kind_as : (st : ℕ → ℕ → Bool) (u v : Bool) (first : ℕ → ℕ → ℕ) (f g : ℕ → ℕ → List ℕ → Out) → u ≡ v → ((slot n : ℕ) (c : List ℕ) → f slot n c ≡ g slot n c) → Kind st v first g → Kind st u first f
  unfolding data_as
  kind_as st u v first f g q e h =
      rw q
      (record {
        cuts = data_as x k st f g e h.cuts;
        logs =
            record {
              width = h.logs.width;
              base = h.logs.base;
              base_is = h.logs.base_is;
              base_more = h.logs.base_more;
              ones = h.logs.ones;
              ones_long = h.logs.ones_long;
              ones_below = h.logs.ones_below;
              ones_cut = h.logs.ones_cut;
              chars = h.logs.chars;
              chars_long = h.logs.chars_long;
              chars_below = h.logs.chars_below;
              chars_cut = h.logs.chars_cut;
              log_is = λ slot n c p. rw (e slot n c) (h.logs.log_is slot n c p);
            };
      })

  pub numbers_kind : (st : ℕ → ℕ → Bool) (first : ℕ → ℕ → ℕ) (w : ℕ) → ((r n : ℕ) → r * w ≡ first r n) → Kind st false first (λ slot n c. need (rows_in x (place x k 3) w slot n) 12 c (wrote (put k 1 (rows c k * w) (numbers_of w slot n)) c))
  numbers_kind st first w is =
      record {
        cuts = entries_cut x k st w (λ slot n c. put k 1 (rows c k * w) (numbers_of w slot n));
        logs = entries_log st first w is (numbers_of w) (λ u slot n h. numbers_long w slot n h)
            (λ u slot n. below_take 256 (w * n) (drop (place x k 3 + w * slot) x.body) (below_drop 256 (place x k 3 + w * slot) x.body u)) (numbers_cut w);
      }

  pub keys_kind : (st : ℕ → ℕ → Bool) (first : ℕ → ℕ → ℕ) (w : ℕ) → ((r n : ℕ) → r * w ≡ first r n) → Kind st false first (λ slot n c. need (rows_in x (place x k 3) w slot n) 12 c (wrote (put k 1 (rows c k * w) (keys_of w slot n)) c))
  keys_kind st first w is =
      record {
        cuts = entries_cut x k st w (λ slot n c. put k 1 (rows c k * w) (keys_of w slot n));
        logs = entries_log st first w is (keys_of w) (λ u slot n h. keys_long w slot n)
            (λ u slot n. below_of_lem 256 (keys_of w slot n) (bytes_rebased w x.body (place x k 3 + w * slot) (base_of x.plan x.source k) n)) (keys_cut w);
      }

  pub views_kind : (st : ℕ → ℕ → Bool) (first : ℕ → ℕ → ℕ) → ((r n : ℕ) → r * 16 ≡ first r n) → Kind st false first (λ slot n c. need (rows_in x (place x k 3) 16 slot n) 12 c (wrote (put k 1 (rows c k * 16) (views_of slot n)) c))
  views_kind st first is =
      record {
        cuts = entries_cut x k st 16 (λ slot n c. put k 1 (rows c k * 16) (views_of slot n));
        logs = entries_log st first 16 is views_of views_long
            (λ u slot n. below_of_lem 256 (views_of slot n) (bytes_reviewed x.body (place x k 3 + 16 * slot) (base_of x.plan x.source k) n (below_at_lem 256 x.body (omega arith) u))) views_cut;
      }

  pub strings_kind : (st : ℕ → ℕ → Bool) (w : ℕ) → ((slot n : ℕ) → st slot n ≡ never_falls w x.body (place x k 3 + w * slot) n) → largest w ≤ top → (first : ℕ → ℕ → ℕ) → ((r n : ℕ) → suc r * w ≡ first r n) → Kind st true first (λ slot n c. copy_string x k w slot n c)
  strings_kind st w is big first needs = record { cuts = strings_cut x k w st is big; logs = strings_log w st is big first needs }
