-- The walk at a node without children: what it asks for, what it leaves, and that it may be cut. Assumes nothing.
use mathlib.Core.Path.{◌≡◌, refl, sym}
use mathlib.Core.Bool.{Bool, true, false, cond}
use mathlib.Core.List.{List}
use Prim.Native.Nat.{ℕ, ◌+◌, ◌*◌, ◌≤◌}
use native.Mathlib.Nat.{add_assoc, mul-le-mul_left, le_trans}
use native.Mathlib.Omega.{arith}
use lib.ListN.{length, replicate}
use lib.Dec.{leb, eqb}
use borrow.Author.Tests.{leb-true, le-leb}
use Rattle.bits.specs.Bits.{bits_at, zeros}
use Rattle.bits.proofs.Puts.{zeros_add}
use Rattle.bits.proofs.Steps.{zeros_none}
use Rattle.walk.specs.State.{Join, keeps_of, rows, nulls, bytes, top, grown, add_nulls, set_bytes, place, rows_in}
use Rattle.walk.specs.Log.{Entry, Out, mask, done, wrote, need}
use Rattle.walk.specs.Leaves.{copy_bits, copy_mask}
use Rattle.batch.proofs.Ends.{Leaves, leaves_done, leaves_wrote, leaves_need, leaves_next, need_was}
use Rattle.batch.proofs.Tally.{Counts, set_same}

-- more entries need more bytes
pub more_bytes : (at w p q : ℕ) → p ≤ q → at + w * p ≤ at + w * q
more_bytes at w p q h = let m : w * p ≤ w * q = mul-le-mul_left w h in omega arith

leb_less : (q p l : ℕ) → q ≤ p → leb p l ≡ true → leb q l ≡ true
leb_less q p l h e = let g = leb-true p l e in le-leb q l (omega arith)

module _ (x : Join) (k : ℕ) where
  -- ---- validity

  unfoldable pub mask_fits : ℕ → ℕ → Bool
  mask_fits slot n = cond (eqb (keeps_of x.plan k) 0) true (cond (eqb (place x k 0) 0) true (leb (8 * place x k 1 + slot + n) (8 * length x.body)))

  unfoldable pub mask_zeros : ℕ → ℕ → ℕ
  mask_zeros slot n = cond (eqb (keeps_of x.plan k) 0) 0 (cond (eqb (place x k 0) 0) 0 (zeros (bits_at (8 * place x k 1 + slot) n x.body)))

  nothing_more : (c : List ℕ) → Counts c → add_nulls k 0 c ≡ c
  unfolding grown
  nothing_more c f = set_same c (3 * k + 1) (grown (nulls c k) 0) (let s = f.small (3 * k + 1) in omega arith)

  pub mask_was : (slot n : ℕ) (c : List ℕ) → (copy_mask x k slot n c).ans ≡ 0 → mask_fits slot n ≡ true
  unfolding copy_mask copy_bits mask_fits
  mask_was slot n c = go (eqb (keeps_of x.plan k) 0) (eqb (place x k 0) 0)
    where
      go : (s t : Bool) → (cond s (done c) (cond t (wrote (mask k (rows c k) (replicate n 1)) c) (copy_bits x k slot n c))).ans ≡ 0
          → cond s true (cond t true (leb (8 * place x k 1 + slot + n) (8 * length x.body))) ≡ true
      go true t h = refl
      go false true h = refl
      go false false h = need_was _ 12 c _ (omega arith) h

  pub mask_goes : (slot n : ℕ) (c : List ℕ) → Counts c → mask_fits slot n ≡ true → Leaves (copy_mask x k slot n c) (add_nulls k (mask_zeros slot n) c)
  unfolding copy_mask copy_bits mask_fits mask_zeros
  mask_goes slot n c f = go (eqb (keeps_of x.plan k) 0) (eqb (place x k 0) 0)
    where
      go : (s t : Bool) → cond s true (cond t true (leb (8 * place x k 1 + slot + n) (8 * length x.body))) ≡ true
          → Leaves (cond s (done c) (cond t (wrote (mask k (rows c k) (replicate n 1)) c) (copy_bits x k slot n c)))
          (add_nulls k (cond s 0 (cond t 0 (zeros (bits_at (8 * place x k 1 + slot) n x.body)))) c)
      go true t h = rw (nothing_more c f) (leaves_done c)
      go false true h = rw (nothing_more c f) (leaves_wrote _ c)
      go false false h = leaves_need 12 c h (leaves_next _ (leaves_wrote _ c) (leaves_done _))

  pub mask_first : (slot m s : ℕ) → mask_fits slot (m + s) ≡ true → mask_fits slot m ≡ true
  unfolding mask_fits
  mask_first slot m s = go (eqb (keeps_of x.plan k) 0) (eqb (place x k 0) 0)
    where
      go : (t u : Bool) → cond t true (cond u true (leb (8 * place x k 1 + slot + (m + s)) (8 * length x.body))) ≡ true
          → cond t true (cond u true (leb (8 * place x k 1 + slot + m) (8 * length x.body))) ≡ true
      go true u h = refl
      go false true h = refl
      go false false h = leb_less (8 * place x k 1 + slot + m) (8 * place x k 1 + slot + (m + s)) (8 * length x.body) (omega arith) h

  pub mask_second : (slot m s : ℕ) → mask_fits slot (m + s) ≡ true → mask_fits (slot + m) s ≡ true
  unfolding mask_fits
  mask_second slot m s = go (eqb (keeps_of x.plan k) 0) (eqb (place x k 0) 0)
    where
      go : (t u : Bool) → cond t true (cond u true (leb (8 * place x k 1 + slot + (m + s)) (8 * length x.body))) ≡ true
          → cond t true (cond u true (leb (8 * place x k 1 + (slot + m) + s) (8 * length x.body))) ≡ true
      go true u h = refl
      go false true h = refl
      go false false h = leb_less (8 * place x k 1 + (slot + m) + s) (8 * place x k 1 + slot + (m + s)) (8 * length x.body) (omega arith) h

  pub mask_none : (slot m o : ℕ) → o ≤ slot + m → mask_fits slot m ≡ true → mask_fits o 0 ≡ true
  unfolding mask_fits
  mask_none slot m o q = go (eqb (keeps_of x.plan k) 0) (eqb (place x k 0) 0)
    where
      go : (t u : Bool) → cond t true (cond u true (leb (8 * place x k 1 + slot + m) (8 * length x.body))) ≡ true
          → cond t true (cond u true (leb (8 * place x k 1 + o + 0) (8 * length x.body))) ≡ true
      go true u h = refl
      go false true h = refl
      go false false h = leb_less (8 * place x k 1 + o + 0) (8 * place x k 1 + slot + m) (8 * length x.body) (omega arith) h

  pub zeros_cut : (slot m s : ℕ) → mask_zeros slot (m + s) ≡ mask_zeros slot m + mask_zeros (slot + m) s
  unfolding mask_zeros
  zeros_cut slot m s = go (eqb (keeps_of x.plan k) 0) (eqb (place x k 0) 0)
    where
      go : (t u : Bool) → cond t 0 (cond u 0 (zeros (bits_at (8 * place x k 1 + slot) (m + s) x.body)))
          ≡ cond t 0 (cond u 0 (zeros (bits_at (8 * place x k 1 + slot) m x.body))) + cond t 0 (cond u 0 (zeros (bits_at (8 * place x k 1 + (slot + m)) s x.body)))
      go true u = refl
      go false true = refl
      go false false =
          let e : 8 * place x k 1 + (slot + m) ≡ 8 * place x k 1 + slot + m = omega arith in
          rw e (zeros_add (8 * place x k 1 + slot) m s x.body)

  pub zeros_no : (o : ℕ) → mask_zeros o 0 ≡ 0
  unfolding mask_zeros
  zeros_no o = go (eqb (keeps_of x.plan k) 0) (eqb (place x k 0) 0)
    where
      go : (t u : Bool) → cond t 0 (cond u 0 (zeros (bits_at (8 * place x k 1 + o) 0 x.body))) ≡ 0
      go true u = refl
      go false true = refl
      go false false = sym (zeros_none (8 * place x k 1 + o) x.body)

  -- ---- data: what a walk of the slots asks for, from the bytes that the node has, and how many it adds

  -- st: what is asked of a range that is cut
  pub record DataCuts (st : ℕ → ℕ → Bool) (f : ℕ → ℕ → List ℕ → Out) : Type 1 where
    pub amount : ℕ → ℕ → ℕ
    pub passes : ℕ → ℕ → ℕ → Type 0
    pub was : (slot n : ℕ) (c : List ℕ) → (f slot n c).ans ≡ 0 → passes slot n (bytes c k)
    pub goes : (slot n : ℕ) (c : List ℕ) → passes slot n (bytes c k) → Leaves (f slot n c) (set_bytes k (bytes c k + amount slot n) c)
    pub fits : (slot n b : ℕ) → passes slot n b → b ≤ top → b + amount slot n ≤ top
    pub first : (slot m s b : ℕ) → st slot (m + s) ≡ true → passes slot (m + s) b → passes slot m b
    pub second : (slot m s b : ℕ) → st slot (m + s) ≡ true → passes slot (m + s) b → passes (slot + m) s (b + amount slot m)
    pub both : (slot m s b : ℕ) → st slot (m + s) ≡ true → passes slot (m + s) b → amount slot (m + s) ≡ amount slot m + amount (slot + m) s
    pub none : (slot m o b d : ℕ) → o ≤ slot + m → passes slot m b → passes o 0 d
    pub nothing : (o : ℕ) → amount o 0 ≡ 0

  -- by another name
  unfoldable pub data_as : (st : ℕ → ℕ → Bool) (f g : ℕ → ℕ → List ℕ → Out) → ((slot n : ℕ) (c : List ℕ) → f slot n c ≡ g slot n c) → DataCuts st g → DataCuts st f
  data_as st f g e h =
      record {
        amount = h.amount;
        passes = h.passes;
        was = λ slot n c p. h.was slot n c (rw (e slot n c) at p);
        goes = λ slot n c p. rw (e slot n c) (h.goes slot n c p);
        fits = h.fits;
        first = h.first;
        second = h.second;
        both = h.both;
        none = h.none;
        nothing = h.nothing;
      }

  pub no_bytes : (c : List ℕ) (v : ℕ) → v ≡ bytes c k → set_bytes k v c ≡ c
  no_bytes c v h = set_same c (3 * k + 2) v (sym h)

  -- entries of w bytes: numbers, keys, views
  unfoldable pub entries_cut : (st : ℕ → ℕ → Bool) (w : ℕ) (e : ℕ → ℕ → List ℕ → Entry) → DataCuts st (λ slot n c. need (rows_in x (place x k 3) w slot n) 12 c (wrote (e slot n c) c))
  unfolding rows_in
  entries_cut st w e =
      record {
        amount = λ slot n. 0;
        passes = λ slot n b. place x k 3 + w * (slot + n) ≤ length x.body;
        was = λ slot n c h. leb-true _ _ (need_was _ 12 c _ (omega arith) h);
        goes = λ slot n c h. rw (no_bytes c (bytes c k + 0) (omega arith)) (leaves_need 12 c (le-leb _ _ h) (leaves_wrote (e slot n c) c));
        fits = λ slot n b h l. omega arith;
        first = λ slot m s b t h. le_trans (more_bytes (place x k 3) w (slot + m) (slot + (m + s)) (omega arith)) h;
        second = λ slot m s b t h. rw (← add_assoc slot m s) at h;
        both = λ slot m s b t h. refl;
        none = λ slot m o b d q h. le_trans (more_bytes (place x k 3) w (o + 0) (slot + m) (omega arith)) h;
        nothing = λ o. refl;
      }
