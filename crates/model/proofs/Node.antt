-- A node over a lawful kind: its validity, length and counts, and what its rows read as. Assumes nothing.
use mathlib.Core.Path.{◌≡◌, refl, sym, ap, ap₂, ◌∙◌, subst}
use mathlib.Core.Bool.{Bool, true, false, not, cond}
use mathlib.Core.Option.{Option, none, some}
use mathlib.Core.List.{List, [], ◌∷◌, ◌++◌}
use Prim.Native.Nat.{ℕ, zero, suc, ◌+◌, ◌*◌, ◌≤◌, ◌<◌}
use native.Mathlib.Nat.{zero-add, add-zero, add_assoc}
use native.Mathlib.Omega.{arith}
use lib.ListN.{length, get_or, replicate, length-append, length-replicate, get_or-append}
use lib.Seq.{get_or-append-add}
use lib.Dec.{T}
use Rattle.columnar.specs.Row.{Row, null, seg}
use Rattle.columnar.specs.Array.{Array, ok, bit, sight, read_with, nulls_in, Mask, Obeys}
use Rattle.model.specs.Try.{Try, done, stop, then}
use Rattle.model.specs.Grounds.{Counts, ask_of, unless_none}
use Rattle.model.specs.Mutable.{Mutable, keeps_bits, zeros, grow, validity, pack, extend_node, nulls_node, freeze_node}
use Rattle.model.specs.Held.{held_node}
use Rattle.model.proofs.Agree.{Agrees, both, agrees_wrap}
use Rattle.model.proofs.Law.{Kind, Put, seen, Law, bit_at, BitsFor, CountFor, FineNode, KeepNode, Fine, row_at, Grew, node_null}
use Rattle.model.proofs.Bits.{length_seg, get_d_seg, zeros_seg, zeros_append, zeros_replicate, get_d_replicate, all_true, pack_bit, pack_length}
use Rattle.model.proofs.Names.{keeps_nulls, counted}

-- ---- validity

-- the finished validity says what the bits say
pub valid_bit_lem : (masks : Bool) (b : Option (List Bool)) (n i : ℕ) → BitsFor masks b n → i < n → ok (validity masks b) i ≡ bit_at masks b i
valid_bit_lem masks none n i h q = refl
valid_bit_lem false (some l) n i h q = refl
valid_bit_lem true (some l) n i h q = go (zeros l) refl
  where
    go : (z : ℕ) → zeros l ≡ z → ok (elim z [ zero ↦ none | suc c ↦ some (pack l) ]) i ≡ get_or l i false
    go zero e = sym (all_true l e i (omega arith))
    go (suc c) e = pack_bit l i (omega arith)

-- the finished validity has a bit for each row
finished_mask : (masks : Bool) (b : Option (List Bool)) (n : ℕ) → BitsFor masks b n → Mask masks (validity masks b) n
finished_mask masks none n h = tt
finished_mask false (some l) n h = tt
finished_mask true (some l) n h = go (zeros l)
  where
    go : (z : ℕ) → Mask true (elim z [ zero ↦ none | suc c ↦ some (pack l) ]) n
    go zero = tt
    go (suc c) = omega (arith, pack_length l)

pub grow_bits : (masks : Bool) (b : Option (List Bool)) (l n : ℕ) (vs : List Bool) → length vs ≡ n → BitsFor masks b l → BitsFor masks (grow masks vs b) (l + n)
grow_bits masks none l n vs e h = tt
grow_bits false (some x) l n vs e h = h
grow_bits true (some x) l n vs e h = rw length-append (omega arith)

pub grow_old : (masks : Bool) (b : Option (List Bool)) (l i : ℕ) (vs : List Bool) → BitsFor masks b l → i < l → bit_at masks (grow masks vs b) i ≡ bit_at masks b i
grow_old masks none l i vs h q = refl
grow_old false (some x) l i vs h q = refl
grow_old true (some x) l i vs h q = get_or-append x vs false i (omega arith)

pub grow_new : (b : Option (List Bool)) (x : List Bool) (l i : ℕ) (vs : List Bool) → b ≡ some x → BitsFor true b l → bit_at true (grow true vs b) (l + i) ≡ get_or vs i false
grow_new none x l i vs e h = absurd (let z : ◌≡◌ {A = ℕ} 0 1 = cc in omega arith)
grow_new (some y) x l i vs e h = subst (λ n. get_or (y ++ vs) (n + i) false ≡ get_or vs i false) h (get_or-append-add y vs i false)

pub grow_keeps : (masks : Bool) (vs : List Bool) (b : Option (List Bool)) → keeps_bits (grow masks vs b) ≡ keeps_bits b
grow_keeps masks vs none = refl
grow_keeps true vs (some l) = refl
grow_keeps false vs (some l) = refl

grow_none : (masks : Bool) (vs : List Bool) (b : Option (List Bool)) → grow masks vs b ≡ none → b ≡ none
grow_none masks vs none e = refl
grow_none true vs (some l) e = cc
grow_none false vs (some l) e = e

pub grow_count : (masks : Bool) (vs : List Bool) (b : Option (List Bool)) (c : ℕ) → CountFor masks b c → CountFor masks (grow masks vs b) (c + counted b (zeros vs))
grow_count masks vs none c h = omega arith
grow_count false vs (some l) c h = tt
grow_count true vs (some l) c h = rw zeros_append (omega arith)

-- a copied row's bit is its source's
pub copied_bit : (masks : Bool) (v : Option (List ℕ)) (b : Option (List Bool)) (l s n i z : ℕ) → Mask masks v z → BitsFor masks b l → (b ≡ none → ok v (s + i) ≡ true) → i < n
    → bit_at masks (grow masks (seg (ok v) s n) b) (l + i) ≡ ok v (s + i)
copied_bit masks v none l s n i z hm h e q = sym (e refl)
copied_bit false none (some x) l s n i z hm h e q = refl
copied_bit false (some y) (some x) l s n i z hm h e q = absurd hm
copied_bit true v (some x) l s n i z hm h e q = grow_new (some x) x l i (seg (ok v) s n) refl h ∙ get_d_seg (ok v) s n i false q

-- an ordered null's bit
null_bit : (masks : Bool) (b : Option (List Bool)) (l n i : ℕ) → BitsFor masks b l → keeps_bits b ≡ true → i < n
    → bit_at masks (grow masks (replicate n false) b) (l + i) ≡ not masks
null_bit masks none l n i h e q = absurd (let z : false ≡ true = e in let y : ◌≡◌ {A = ℕ} 0 1 = cc in omega arith)
null_bit false (some x) l n i h e q = refl
null_bit true (some x) l n i h e q = grow_new (some x) x l i (replicate n false) refl h ∙ get_d_replicate n i false false q

counted_zero : (b : Option (List Bool)) → counted b 0 ≡ 0
counted_zero none = refl
counted_zero (some l) = refl

sights : (b : Bool) (r s : Row) → (T b → r ≡ s) → sight b r ≡ sight b s
sights true r s h = h tt
sights false r s h = refl

module _ {P D : Type 0} (k : Kind P D) (m : ℕ) (xs : ℕ → Array P) where
  pub row_is : (d : Mutable D) → Fine k m xs d → (i : ℕ) → i < d.len → row_at k m xs d i ≡ sight (bit_at k.masks d.bits i) (seen k d.«data» i)
  row_is d h i q = rw (zero-add i, valid_bit_lem k.masks d.bits d.len i h.bits_are q)

  -- rows put behind a node, with their bits
  module _ (d : Mutable D) (n c : ℕ) (vs : List Bool) (vsAt : ℕ → Bool) (slots want : ℕ → Row) (d' : Mutable D) (h : Fine k m xs d)
      (len_is : d'.len ≡ d.len + n) (bits_is : d'.bits ≡ grow k.masks vs d.bits) (long : length vs ≡ n)
      (count_is : d'.null_count ≡ d.null_count + counted d.bits c) (zeros_are : (l : List Bool) → d.bits ≡ some l → k.masks ≡ true → zeros vs ≡ c)
      (new-bit : (i : ℕ) → i < n → bit_at k.masks (grow k.masks vs d.bits) (d.len + i) ≡ vsAt i)
      (p : Put (seen k) k.fine k.keep (ok (validity k.masks d.bits)) d.«data» d.len n vsAt slots d'.«data»)
      (reads : (i : ℕ) → i < n → sight (vsAt i) (slots i) ≡ want i) where
    put_count : (masks : Bool) (b : Option (List Bool)) (x : ℕ) → CountFor masks b x → ((l : List Bool) → b ≡ some l → masks ≡ true → zeros vs ≡ c)
        → CountFor masks (grow masks vs b) (x + counted b c)
    put_count masks none x q e = omega arith
    put_count false (some l) x q e = tt
    put_count true (some l) x q e = rw (← e l refl refl) (grow_count true vs (some l) x q)

    -- the finished validity, before and after
    more_bits : BitsFor k.masks (grow k.masks vs d.bits) (d.len + n)
    more_bits = grow_bits k.masks d.bits d.len n vs long h.bits_are

    old_valid : (i : ℕ) → i < d.len → ok (validity k.masks (grow k.masks vs d.bits)) i ≡ ok (validity k.masks d.bits) i
    old_valid i q =
        valid_bit_lem k.masks (grow k.masks vs d.bits) (d.len + n) i more_bits (omega arith)
        ∙ grow_old k.masks d.bits d.len i vs h.bits_are q
        ∙ sym (valid_bit_lem k.masks d.bits d.len i h.bits_are q)

    new_valid : (i : ℕ) → i < n → ok (validity k.masks (grow k.masks vs d.bits)) (d.len + i) ≡ vsAt i
    new_valid i q = valid_bit_lem k.masks (grow k.masks vs d.bits) (d.len + n) (d.len + i) more_bits (omega arith) ∙ new-bit i q

    put_fine : Fine k m xs d'
    put_fine =
        record {
          bits_are = rw (bits_is, len_is) more_bits;
          count_is = rw (bits_is, count_is) (put_count k.masks d.bits d.null_count h.count_is zeros_are);
          no_nulls = λ e. h.no_nulls (grow_none k.masks vs d.bits (sym bits_is ∙ e));
          data_fine = rw (bits_is, len_is) (p.ends (ok (validity k.masks (grow k.masks vs d.bits))) old_valid new_valid);
        }

    pub put_grew : Grew k m xs d n c want d'
    put_grew =
        record {
          fine' = put_fine;
          len_is = len_is;
          old = λ i q.
              row_is d' put_fine i (omega arith)
              ∙ rw (bits_is, grow_old k.masks d.bits d.len i vs h.bits_are q, p.old i q) (sym (row_is d h i q));
          new = λ i q.
              row_is d' put_fine (d.len + i) (omega arith)
              ∙ rw (bits_is, new-bit i q) (sights (vsAt i) _ _ (p.new i q) ∙ reads i q);
          keep_same = rw bits_is (grow_keeps k.masks vs d.bits);
          keep_data = p.keeps;
          count_more = count_is;
        }

module _ {P D : Type 0} (k : Kind P D) (m : ℕ) (xs : ℕ → Array P) (law : Law k m xs)
    (masked : (j : ℕ) → j < m → Mask k.masks (xs j).valid ((xs j).off + (xs j).len)) where
  -- A COPY AT A NODE: the rows of source j from a on
  pub node_copies : (j a n : ℕ) (d : Mutable D) → j < m → a + n ≤ (xs j).len → Fine k m xs d
      → Agrees (held_node k.held) (Grew k m xs d n (nulls_in (ok (xs j).valid) ((xs j).off + a) n) (λ i. read_with k.at (xs j) (a + i)))
      (extend_node k.masks k.ext xs j a n d) (ask_of k.ask (xs j) a n (held_node k.held d))
  node_copies j a n d hj ha h =
      let s = (xs j).off + a in
      let vs = seg (ok (xs j).valid) s n in
      agrees_wrap (λ b. record { len = d.len + n; null_count = d.null_count + counted d.bits (zeros vs); bits = grow k.masks vs d.bits; «data» = b })
      (λ b. refl)
      (λ b p.
      put_grew k m xs d n (nulls_in (ok (xs j).valid) s n) vs (λ i. ok (xs j).valid (s + i)) (λ i. k.at (xs j).body (s + i)) (λ i. read_with k.at (xs j) (a + i))
      (record { len = d.len + n; null_count = d.null_count + counted d.bits (zeros vs); bits = grow k.masks vs d.bits; «data» = b })
      h refl refl (length_seg (ok (xs j).valid) s n)
      (ap (λ c. d.null_count + counted d.bits c) (zeros_seg (ok (xs j).valid) s n))
      (λ l e f. zeros_seg (ok (xs j).valid) s n)
      (λ i q. copied_bit k.masks (xs j).valid d.bits d.len s n i ((xs j).off + (xs j).len) (masked j hj) h.bits_are
      (λ e. rw add_assoc (h.no_nulls e j hj (a + i) (omega arith))) q)
      p (λ i q. rw add_assoc))
      (law.copies j s n d.len (ok (validity k.masks d.bits)) d.«data» hj (omega arith) (omega arith) h.data_fine)

  -- NULLS AT A NODE
  pub node_fills : (n : ℕ) (d : Mutable D) → KeepNode k.keep d → Fine k m xs d
      → Agrees (held_node k.held) (Grew k m xs d n n (λ i. node_null k)) (nulls_node k.masks k.nul n d) (unless_none k.ask_n n (held_node k.held d))
  node_fills zero d hk h =
      both d
      (record {
        fine' = h;
        len_is = sym (add-zero d.len);
        old = λ i q. refl;
        new = λ i q. absurd (omega arith);
        keep_same = refl;
        keep_data = λ x. x;
        count_more = rw (counted_zero d.bits) (sym (add-zero d.null_count));
      })
  node_fills (suc n) d hk h =
      agrees_wrap (λ b. record { len = d.len + suc n; null_count = d.null_count + counted d.bits (suc n); bits = grow k.masks (replicate (suc n) false) d.bits; «data» = b })
      (λ b. refl)
      (λ b p.
      put_grew k m xs d (suc n) (suc n) (replicate (suc n) false) (λ i. not k.masks) (λ i. k.nrow) (λ i. node_null k)
      (record { len = d.len + suc n; null_count = d.null_count + counted d.bits (suc n); bits = grow k.masks (replicate (suc n) false) d.bits; «data» = b })
      h refl refl (length-replicate (suc n) false) refl
      (λ l e f. zeros_replicate (suc n))
      (λ i q. null_bit k.masks d.bits d.len (suc n) i h.bits_are hk.here q)
      p (λ i q. refl))
      (law.fills n d.len (ok (validity k.masks d.bits)) d.«data» hk.below h.data_fine)

  -- A FINISHED NODE obeys the rules of a source
  pub node_obeys : (d : Mutable D) → Fine k m xs d → Obeys k.masks k.rule (freeze_node k.masks k.frz d)
  node_obeys d h =
      record {
        mask = rw zero-add (finished_mask k.masks d.bits d.len h.bits_are);
        slots = law.obeys d.len (ok (validity k.masks d.bits)) d.«data» h.data_fine;
      }
