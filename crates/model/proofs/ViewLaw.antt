-- Byte views are lawful. A view under a null may be anything: nothing is claimed of it. Assumes nothing.
use mathlib.Core.Path.{◌≡◌, refl, sym, ap, ◌∙◌}
use mathlib.Core.Bool.{Bool, true, false, cond}
use mathlib.Core.List.{List, [], ◌++◌, append_assoc}
use Prim.Native.Nat.{ℕ, zero, suc, ◌+◌, ◌-◌, ◌*◌, ◌^◌, ◌≤◌, ◌<◌}
use native.Mathlib.Nat.{add-zero, zero-add, add_comm, mul-le-mul_right, le_trans}
use native.Mathlib.Decide.{dec_lt}
use native.Mathlib.Omega.{arith}
use lib.ListN.{length, take, drop, get_or, replicate, length-append, length-take, length-drop, length-replicate, get_or-append}
use lib.Seq.{take_at, drop_at, take-append-le, drop-append-le, drop-drop, get_or-append-add}
use lib.Dec.{T, leb}
use borrow.Author.Tests.{leb-true, leb-false, le-leb, lt-leb}
use Rattle.number.specs.Number.{number, encode}
use Rattle.number.proofs.Laws.{length_encode}
use Rattle.columnar.specs.Row.{Row, null, bytes}
use Rattle.columnar.specs.Array.{Array, ok, Obeys}
use Rattle.columnar.specs.View.{Views, view_of, length_of, buffer_of, offset_of, shown, view_at, Lies, ViewGood, ViewRule}
use Rattle.columnar.proofs.Items.{number_front, number_take, number_encode_lt}
use Rattle.model.specs.Primitive.{reindexed, new_views, buffers_before}
use Rattle.model.proofs.Agree.{both}
use Rattle.model.proofs.Law.{Put, Law}
use Rattle.model.proofs.Bits.{shift}
use Rattle.model.proofs.Nodes.{ViewFine, view_kind}
use Rattle.model.proofs.Pieces.{below_add, cut_cut, piece_left, piece_right}

-- ---- the data buffers of all sources

-- the data buffers of one source stand among all from `base` on
pub record Among (base : ℕ) (own all : List (List ℕ)) : Type 0 where
  pub fit : base + length own ≤ length all
  pub same : (i : ℕ) → i < length own → get_or all (base + i) [] ≡ get_or own i []

pub among_more : (base : ℕ) (own all more : List (List ℕ)) → Among base own all → Among base own (all ++ more)
among_more base own all more h =
    record {
      fit = rw length-append (omega (arith, h.fit));
      same = λ i q. get_or-append all more [] (base + i) (omega (arith, h.fit)) ∙ h.same i q;
    }

pub buffers_among : (ss : ℕ → Views) (m j : ℕ) → j < m → Among (length (buffers_before ss j)) (ss j).buffers (buffers_before ss m)
buffers_among ss zero j q = absurd (omega arith)
buffers_among ss (suc m) j q = go (dec_lt j m) (buffers_among ss m j)
  where
    go : Dec (j < m) → (j < m → Among (length (buffers_before ss j)) (ss j).buffers (buffers_before ss m)) → Among (length (buffers_before ss j)) (ss j).buffers (buffers_before ss (suc m))
    go (yes p) r = among_more (length (buffers_before ss j)) (ss j).buffers (buffers_before ss m) (ss m).buffers (r p)
    go (no p) r =
        let e : j ≡ m = omega arith in
        rw e
        (record {
          fit = rw length-append (omega arith);
          same = λ i q. get_or-append-add (buffers_before ss m) (ss m).buffers i [];
        })

-- ---- a view that names another buffer

shown_short : (bufs : List (List ℕ)) (v : List ℕ) → length_of v ≤ 12 → shown bufs v ≡ take (length_of v) (drop 4 v)
unfolding shown
shown_short bufs v h = rw (le-leb (length_of v) 12 h)

shown_long : (bufs : List (List ℕ)) (v : List ℕ) → 12 < length_of v → shown bufs v ≡ take (length_of v) (drop (offset_of v) (get_or bufs (buffer_of v) []))
unfolding shown
shown_long bufs v h = rw (lt-leb (length_of v) 12 h)

module _ (base : ℕ) (v : List ℕ) (wide : length v ≡ 16) where
  abbrev moved : List ℕ
  moved = take 8 v ++ encode 4 (buffer_of v + base) ++ drop 12 v

  eight : length (take 8 v) ≡ 8
  eight = rw length-take (omega arith)

  moved_wide : length moved ≡ 16
  moved_wide = simp (length-append, length_encode, length-drop) (omega (arith, eight))

  moved_length : length_of moved ≡ length_of v
  moved_length = rw append_assoc (number_front 4 (take 8 v) _ (omega (arith, eight)) ∙ number_take 4 8 v (omega arith))

  moved_prefix : take 4 (drop 4 moved) ≡ take 4 (drop 4 v)
  moved_prefix =
      let y : 4 ≤ length (take 8 v) = omega (arith, eight) in
      let z : 4 ≤ length (drop 4 (take 8 v)) = rw length-drop (omega (arith, eight)) in
      rw (append_assoc, drop-append-le, take-append-le) (cut_cut 4 4 8 v (omega arith))

  moved_buffer : buffer_of v + base < 256 ^ 4 → buffer_of moved ≡ buffer_of v + base
  moved_buffer q = rw (append_assoc, drop_at (take 8 v) (encode 4 (buffer_of v + base) ++ drop 12 v) 8 eight) (number_encode_lt 4 (buffer_of v + base) (drop 12 v) q)

  moved_offset : offset_of moved ≡ offset_of v
  moved_offset =
      ap (number 4) (drop_at (take 8 v ++ encode 4 (buffer_of v + base)) (drop 12 v) 12 (simp (length-append, length_encode) (omega (arith, eight))))

  module _ (own all : List (List ℕ)) (h : Among base own all) (few : length all ≤ 256 ^ 4) (long : 12 < length_of v) (lies : Lies own v) where
    moved_names : buffer_of moved ≡ base + buffer_of v
    moved_names = moved_buffer (omega (arith, h.fit, lies.known)) ∙ add_comm (buffer_of v) base

    moved_same : get_or all (buffer_of moved) [] ≡ get_or own (buffer_of v) []
    moved_same = rw moved_names (h.same (buffer_of v) lies.known)

    moved_lies : Lies all moved
    moved_lies =
        record {
          known = rw moved_names (omega (arith, h.fit, lies.known));
          inside = rw (moved_same, moved_offset, moved_length) lies.inside;
          prefix = rw (moved_same, moved_offset, moved_prefix) lies.prefix;
        }

    moved_shown : shown all moved ≡ shown own v
    moved_shown = shown_long all moved (rw moved_length long) ∙ rw (moved_same, moved_offset, moved_length) (sym (shown_long own v long))

  by_length : (Q : List ℕ → Type 0) → (length_of v ≤ 12 → Q v) → (12 < length_of v → Q moved) → Q (reindexed base v)
  unfolding reindexed
  by_length Q f g = go (leb (length_of v) 12) refl
    where
      go : (b : Bool) → leb (length_of v) 12 ≡ b → Q (cond b v moved)
      go true e = f (leb-true (length_of v) 12 e)
      go false e = g (leb-false (length_of v) 12 e)

  pub reindexed_wide : length (reindexed base v) ≡ 16
  reindexed_wide = by_length (λ x. length x ≡ 16) (λ q. wide) (λ q. moved_wide)

  module _ (own all : List (List ℕ)) (h : Among base own all) (few : length all ≤ 256 ^ 4) (good : ViewGood own v) where
    -- a valid view is valid among all buffers
    pub reindexed_good : ViewGood all (reindexed base v)
    reindexed_good =
        by_length (ViewGood all)
        (λ q. record { small = good.small; long = λ z. absurd (omega arith) })
        (λ q. record { small = rw moved_length good.small; long = λ z. moved_lies own all h few q (good.long q) })

    -- and shows the same bytes
    pub reindexed_shown : shown all (reindexed base v) ≡ shown own v
    reindexed_shown =
        by_length (λ x. shown all x ≡ shown own v) (λ q. shown_short all v q ∙ sym (shown_short own v q)) (λ q. moved_shown own all h few q (good.long q))

-- ---- the new views

module _ (base : ℕ) (s : List ℕ) where
  view_wide : (i n : ℕ) → n * 16 ≤ length s → i < n → length (view_of s i) ≡ 16
  view_wide i n h q = simp (length-take, length-drop) (omega arith)

  pub length_new_views : (a n : ℕ) → (a + n) * 16 ≤ length s → length (new_views base s a n) ≡ n * 16
  length_new_views a zero h = refl
  length_new_views a (suc n) h =
      rw (length-append, reindexed_wide base (view_of s a) (view_wide a (a + suc n) h (omega arith)), length_new_views (suc a) n (rw (shift a n) h)) (omega arith)

  pub new_view : (a n : ℕ) → (a + n) * 16 ≤ length s → (i : ℕ) → i < n → view_of (new_views base s a n) i ≡ reindexed base (view_of s (a + i))
  new_view a zero h i q = absurd (omega arith)
  new_view a (suc n) h zero q =
      rw (add-zero a) (take_at (reindexed base (view_of s a)) (new_views base s (suc a) n) 16 (reindexed_wide base (view_of s a) (view_wide a (a + suc n) h (omega arith))))
  new_view a (suc n) h (suc i) q =
      let e : suc i * 16 ≡ 16 + i * 16 = omega arith in
      rw (e, ← drop-drop, drop_at (reindexed base (view_of s a)) (new_views base s (suc a) n) 16 (reindexed_wide base (view_of s a) (view_wide a (a + suc n) h (omega arith))), ← shift a i)
      (new_view (suc a) n (rw (shift a n) h) i (omega arith))

-- ---- the law

-- views of 16 bytes put behind d
module _ (all : List (List ℕ)) (b : ℕ → Bool) (d : List ℕ) (l : ℕ) (h : ViewFine all b d l) (n : ℕ) (new : List ℕ) (long : length new ≡ n * 16) where
  old_view : (i : ℕ) → i < l → view_of (d ++ new) i ≡ view_of d i
  old_view i q = piece_left 16 d new i l (omega (arith, h.views_are)) q

  put_view : (i : ℕ) → view_of (d ++ new) (l + i) ≡ view_of new i
  put_view i = piece_right 16 d new l i h.views_are

  views_fine : (b' : ℕ → Bool) → ((i : ℕ) → i < l → b' i ≡ b i) → ((i : ℕ) → i < n → T (b' (l + i)) → ViewGood all (view_of new i)) → ViewFine all b' (d ++ new) (l + n)
  views_fine b' o g =
      record {
        views_are = rw (length-append, long, h.views_are) (omega arith);
        good = below_add (λ i. T (b' i) → ViewGood all (view_of (d ++ new) i)) l n (λ i q t. rw (old_view i q) (h.good i q (rw (o i q) at t))) (λ i q t. rw (put_view i) (g i q t));
      }

module _ (m : ℕ) (xs : ℕ → Array Views) (g : (j : ℕ) → j < m → Obeys true ViewRule (xs j)) (few : length (buffers_before (λ i. (xs i).body) m) ≤ 256 ^ 4) where
  abbrev every : List (List ℕ)
  every = buffers_before (λ i. (xs i).body) m

  abbrev PutViews : (ℕ → Bool) → List ℕ → ℕ → ℕ → (ℕ → Bool) → (ℕ → Row) → List ℕ → Type 0
  PutViews = Put (λ e i. view_at (record { views = e; buffers = every }) i) (ViewFine every) (λ d. Unit {0})

  -- a valid row of source j
  source_good : (j i : ℕ) (q : j < m) → (xs j).off ≤ i → i < (xs j).off + (xs j).len → T (ok (xs j).valid i) → ViewGood (xs j).body.buffers (view_of (xs j).body.views i)
  source_good j i q y z t =
      let e : (xs j).off + (i - (xs j).off) ≡ i = omega arith in
      rw e at ((g j q).slots.good (i - (xs j).off) (omega arith) (rw e t))

  views_copied : (j a n l : ℕ) (b : ℕ → Bool) (d : List ℕ) → j < m → (xs j).off ≤ a → a + n ≤ (xs j).off + (xs j).len → ViewFine every b d l
      → PutViews b d l n (λ i. ok (xs j).valid (a + i)) (λ i. view_at (xs j).body (a + i))
      (d ++ new_views (length (buffers_before (λ i. (xs i).body) j)) (xs j).body.views a n)
  views_copied j a n l b d q y z h =
      let s = (xs j).body.views in
      let base = length (buffers_before (λ i. (xs i).body) j) in
      let own = (xs j).body.buffers in
      let among = buffers_among (λ i. (xs i).body) m j q in
      let room : (a + n) * 16 ≤ length s = le_trans (mul-le-mul_right 16 z) (g j q).slots.hold in
      let long = length_new_views base s a n room in
      let wide : (i : ℕ) → i < n → length (view_of s (a + i)) ≡ 16 = λ i p. view_wide base s (a + i) (a + n) room (omega arith) in
      let good : (i : ℕ) → i < n → T (ok (xs j).valid (a + i)) → ViewGood own (view_of s (a + i)) = λ i p t. source_good j (a + i) q (omega arith) (omega arith) t in
      record {
        ends = λ b' o e.
            views_fine every b d l h n (new_views base s a n) long b' o
            (λ i p t. rw (new_view base s a n room i p) (reindexed_good base (view_of s (a + i)) (wide i p) own every among few (good i p (rw (e i p) at t))));
        old = λ i p. ap (λ v. bytes (shown every v)) (old_view every b d l h n (new_views base s a n) long i p);
        new = λ i p t.
            ap (λ v. bytes (shown every v)) (put_view every b d l h n (new_views base s a n) long i ∙ new_view base s a n room i p)
            ∙ ap bytes (reindexed_shown base (view_of s (a + i)) (wide i p) own every among few (good i p t));
        keeps = λ k. tt;
      }

  views_filled : (n l : ℕ) (b : ℕ → Bool) (d : List ℕ) → ViewFine every b d l → PutViews b d l n (λ i. false) (λ i. null) (d ++ replicate (n * 16) 0)
  views_filled n l b d h =
      let w = length-replicate {A = ℕ} (n * 16) 0 in
      record {
        ends = λ b' o e. views_fine every b d l h n (replicate (n * 16) 0) w b' o (λ i q t. absurd (rw (e i q) at t));
        old = λ i q. ap (λ v. bytes (shown every v)) (old_view every b d l h n (replicate (n * 16) 0) w i q);
        new = λ i q t. absurd t;
        keeps = λ k. tt;
      }

  pub view_law : Law (view_kind m (λ i. (xs i).body)) m xs
  view_law =
      record {
        copies = λ j a n l b d q y z h. both _ (views_copied j a n l b d q y z h);
        fills = λ n l b d k h. both _ (views_filled (suc n) l b d h);
        obeys = λ l b d h. record { hold = rw (zero-add, h.views_are) (omega arith); good = λ i q t. rw zero-add (h.good i q (rw zero-add at t)) };
      }
