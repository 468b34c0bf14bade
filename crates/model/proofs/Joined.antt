-- The dictionaries of all sources joined: each one's entries stand in it, null or not, from the entries of earlier sources on. Assumes nothing.
use mathlib.Core.Path.{◌≡◌, refl, sym, ap, ap₂, ◌∙◌, subst}
use mathlib.Core.Bool.{Bool, true, false, cond}
use mathlib.Core.Option.{Option, none, some}
use mathlib.Core.List.{List, [], append-nil}
use Prim.Native.Nat.{ℕ, zero, suc, ◌+◌, ◌^◌, ◌≤◌, ◌<◌}
use native.Mathlib.Nat.{add-zero, zero-add, one-le-pow, zero-mul, one-mul}
use native.Mathlib.Decide.{dec_lt}
use native.Mathlib.Omega.{arith}
use lib.ListN.{length}
use Rattle.number.specs.Number.{encode}
use Rattle.number.proofs.Laws.{length_encode}
use Rattle.columnar.specs.Row.{bytes, seg}
use Rattle.columnar.specs.Types.{Plain, fixed, string}
use Rattle.columnar.specs.Array.{Array, ok, sight, read_with, Mask, Obeys}
use Rattle.columnar.specs.Plain.{Text, PlainBody, stored, StringRule, empty, full, PlainRule}
use Rattle.columnar.specs.Dictionary.{Dictionary, entry_at}
use Rattle.columnar.proofs.Items.{item_last}
use Rattle.model.specs.Try.{Try, done, stop, then}
use Rattle.model.specs.Opening.{keeps, entries_before}
use Rattle.model.specs.Mutable.{Mutable, zeros, validity, pack, grow, start_node, extend_node, freeze_node}
use Rattle.model.specs.Primitive.{plain_extend, plain_start}
use Rattle.model.specs.Transform.{joined_from}
use Rattle.model.proofs.Agree.{Agrees, both, neither}
use Rattle.model.proofs.Law.{bit_at, BitsFor}
use Rattle.model.proofs.Bits.{length_seg}
use Rattle.model.proofs.Node.{valid_bit_lem, grow_bits, grow_old, copied_bit}
use Rattle.model.proofs.Nodes.{TextFine, PlainFine}
use Rattle.model.proofs.PlainLaw.{plain_copies, plain_obeys}
use Rattle.model.proofs.Start.{no_null_in, none_has}
use Rattle.model.proofs.Names.{counted}

-- ---- answers

pub done_is : {A : Type 0} {x y : A} → done x ≡ done y → x ≡ y
done_is e = cc

pub then_done : {A B : Type 0} (t : Try A) (f : A → Try B) (y : B) → then t f ≡ done y → (x : A) × ((t ≡ done x) × (f x ≡ done y))
then_done (done x) f y e = (x, (refl, e))
then_done (stop g) f y e = absurd (let z : ◌≡◌ {A = ℕ} 0 1 = cc in omega arith)

agreed : {A C : Type 0} {see : A → C} {Q : A → Type 0} {t : Try A} {s : Try C} (y : A) → Agrees see Q t s → t ≡ done y → Q y
agreed {Q} y (both x q) e = subst Q (done_is e) q
agreed y (neither g) e = absurd (let z : ◌≡◌ {A = ℕ} 0 1 = cc in omega arith)

-- ---- validity of a finished node

pub mask_holds : (b : Option (List Bool)) (n : ℕ) → BitsFor true b n → Mask true (validity true b) n
unfolding pack
mask_holds none n h = tt
mask_holds (some l) n h = go (zeros l)
  where
    go : (z : ℕ) → Mask true (elim z [ zero ↦ none | suc c ↦ some (pack l) ]) n
    go zero = tt
    go (suc c) = rw length_seg (omega arith)

-- ---- the data of a joined dictionary

-- well formed; byte strings with offsets of no bytes have no rows
abbrev pub Sound : (p : Plain) → PlainBody p → ℕ → Type 0
Sound (fixed k) d l = PlainFine (fixed k) (λ i. true) d l
Sound (string zero) d l = (d.offsets ≡ []) × (l ≡ 0)
Sound (string (suc w)) d l = TextFine (suc w) d l

sound_start : (p : Plain) → Sound p (plain_start p) 0
unfolding encode
sound_start (fixed k) = sym (zero-mul _)
sound_start (string zero) = (refl, refl)
sound_start (string (suc w)) =
    let y : 1 ≤ 256 ^ w = one-le-pow w 256 (omega arith) in
    record {
      offsets_are = length_encode (suc w) 0 ∙ sym (one-mul (suc w));
      rises = λ i q. absurd (omega arith);
      last_is = item_last (suc w) [] 0 0 (sym (zero-mul (suc w))) (omega arith);
      fits = omega arith;
    }

sound_obeys : (p : Plain) (l : ℕ) (okay : ℕ → Bool) (d : PlainBody p) → Sound p d l → PlainRule p okay d 0 l
sound_obeys (fixed k) l okay d h = plain_obeys (fixed k) l (λ i. true) okay d h
sound_obeys (string zero) l okay d h = empty h.1 h.0
sound_obeys (string (suc w)) l okay d h = plain_obeys (string (suc w)) l (λ i. true) okay d h

-- all slots of a source put behind
record Appended (p : Plain) (s : PlainBody p) (off n : ℕ) (d : PlainBody p) (l : ℕ) (d' : PlainBody p) : Type 0 where
  sound : Sound p d' (l + n)
  old : (i : ℕ) → i < l → stored p d' i ≡ stored p d i
  new : (i : ℕ) → i < n → stored p d' (l + i) ≡ stored p s (off + i)

no_rows : (s : Text) (off len : ℕ) → StringRule 0 s off len → len ≡ 0
no_rows s off len (empty e f) = e
no_rows s off len (full h) = absurd (omega (arith, h.positive 0 (omega arith)))

none_appended : (s : Text) (off l : ℕ) (d d' : Text) → Sound (string 0) d l → plain_extend (string 0) s off 0 l d ≡ done d' → Appended (string 0) s off 0 d l d'
none_appended s off l d d' h e =
    record {
      sound = (ap (λ (x : Text). x.offsets) (sym (done_is e)) ∙ append-nil d.offsets ∙ h.0, add-zero l ∙ h.1);
      old = λ i q. absurd (omega (arith, h.1));
      new = λ i q. absurd (omega arith);
    }

appended : (p : Plain) (okay : ℕ → Bool) (s : PlainBody p) (off len l : ℕ) (d d' : PlainBody p) → PlainRule p okay s off len → Sound p d l
    → plain_extend p s off len l d ≡ done d' → Appended p s off len d l d'
appended (fixed k) okay s off len l d d' hs h e =
    let c = agreed d' (plain_copies (fixed k) okay s off len off len l (λ i. true) d hs (omega arith) (omega arith) h) e in
    record { sound = c.fine' (λ i. true); old = c.old; new = c.new }
appended (string zero) okay s off len l d d' hs h e =
    subst (λ n. plain_extend (string 0) s off n l d ≡ done d' → Appended (string 0) s off n d l d') (sym (no_rows s off len hs)) (none_appended s off l d d' h) e
appended (string (suc w)) okay s off len l d d' hs h e =
    let c = agreed d' (plain_copies (string (suc w)) okay s off len off len l (λ i. true) d hs (omega arith) (omega arith) h) e in
    record { sound = c.fine' (λ i. true); old = c.old; new = c.new }

-- ---- the join

module _ (p : Plain) (ds : ℕ → Dictionary (PlainBody p)) where
  -- a dictionary's entries end where the next one's begin or before
  pub entries_before_lem : (i j : ℕ) → i < j → entries_before ds i + (ds i).values.len ≤ entries_before ds j
  entries_before_lem i zero q = absurd (omega arith)
  entries_before_lem i (suc j) q = go (dec_lt i j) (entries_before_lem i j)
    where
      go : Dec (i < j) → (i < j → entries_before ds i + (ds i).values.len ≤ entries_before ds j) → entries_before ds i + (ds i).values.len ≤ entries_before ds (suc j)
      go (yes r) f = omega (arith, f r)
      go (no r) f = let e : i ≡ j = omega arith in rw e (omega arith)

  -- d is the first j dictionaries joined
  pub record Joined (j : ℕ) (d : Mutable (PlainBody p)) : Type 0 where
    pub bits_are : BitsFor true d.bits d.len
    pub len_is : d.len ≡ entries_before ds j
    pub sound : Sound p d.«data» d.len
    pub entries : (i : ℕ) → i < j → (e : ℕ) → e < (ds i).values.len
        → stored p d.«data» (entries_before ds i + e) ≡ stored p (ds i).values.body ((ds i).values.off + e)
    pub entry_bits : (i : ℕ) → i < j → (e : ℕ) → e < (ds i).values.len → bit_at true d.bits (entries_before ds i + e) ≡ ok (ds i).values.valid ((ds i).values.off + e)

  start_bits_lem : (b : Bool) → BitsFor true (cond b (some []) none) 0
  start_bits_lem true = refl
  start_bits_lem false = tt

  join_start : (b : Bool) → Joined 0 (start_node b (plain_start p))
  join_start b = record { bits_are = start_bits_lem b; len_is = refl; sound = sound_start p; entries = λ i q. absurd (omega arith); entry_bits = λ i q. absurd (omega arith) }

  -- the next one behind
  join_step : (j : ℕ) (d : Mutable (PlainBody p)) → Joined j d → (x : PlainBody p) → Appended p (ds j).values.body (ds j).values.off (ds j).values.len d.«data» d.len x
      → (c : ℕ) (vs : List Bool) → length vs ≡ (ds j).values.len
      → ((e : ℕ) → e < (ds j).values.len → bit_at true (grow true vs d.bits) (d.len + e) ≡ ok (ds j).values.valid ((ds j).values.off + e))
      → Joined (suc j) (record { len = d.len + (ds j).values.len; null_count = c; bits = grow true vs d.bits; «data» = x })
  join_step j d h x a c vs lv lb =
      record {
        bits_are = grow_bits true d.bits d.len (ds j).values.len vs lv h.bits_are;
        len_is = rw h.len_is;
        sound = a.sound;
        entries = λ i r e t. go i r e t (dec_lt i j);
        entry_bits = λ i r e t. bits_go i r e t (dec_lt i j);
      }
    where
      bits_go : (i : ℕ) → i < suc j → (e : ℕ) → e < (ds i).values.len → Dec (i < j)
          → bit_at true (grow true vs d.bits) (entries_before ds i + e) ≡ ok (ds i).values.valid ((ds i).values.off + e)
      bits_go i r e t (yes y) =
          grow_old true d.bits d.len (entries_before ds i + e) vs h.bits_are (omega (arith, h.len_is, entries_before_lem i j y)) ∙ h.entry_bits i y e t
      bits_go i r e t (no y) =
          let z : i ≡ j = omega arith in
          let t' : e < (ds j).values.len = rw z at t in
          rw (z, ← h.len_is) (lb e t')

      go : (i : ℕ) → i < suc j → (e : ℕ) → e < (ds i).values.len → Dec (i < j)
          → stored p x (entries_before ds i + e) ≡ stored p (ds i).values.body ((ds i).values.off + e)
      go i r e t (yes y) = a.old (entries_before ds i + e) (omega (arith, h.len_is, entries_before_lem i j y)) ∙ h.entries i y e t
      go i r e t (no y) =
          let z : i ≡ j = omega arith in
          let t' : e < (ds j).values.len = rw z at t in
          rw (z, ← h.len_is) (a.new e t')

  -- an entry of the finished dictionary reads as it did
  pub joined_reads : (j : ℕ) (d : Mutable (PlainBody p)) → Joined j d → (i : ℕ) → i < j → (e : ℕ) → e < (ds i).values.len
      → read_with (entry_at p) (freeze_node true (λ b. b) d) (entries_before ds i + e) ≡ read_with (entry_at p) (ds i).values e
  joined_reads j d h i q e t =
      rw zero-add
      (ap₂ sight (valid_bit_lem true d.bits d.len (entries_before ds i + e) h.bits_are (omega (arith, h.len_is, entries_before_lem i j q)) ∙ h.entry_bits i q e t) (ap bytes (h.entries i q e t)))

  -- the finished dictionary obeys the rules of a source
  pub joined_obeys : (j : ℕ) (d : Mutable (PlainBody p)) → Joined j d → Obeys true (PlainRule p) (freeze_node true (λ b. b) d)
  joined_obeys j d h =
      record {
        mask = rw zero-add (mask_holds d.bits d.len h.bits_are);
        slots = sound_obeys p d.len (ok (validity true d.bits)) d.«data» h.sound;
      }

-- joining the first j of m sources
module _ (p : Plain) (m : ℕ) (ds : ℕ → Dictionary (PlainBody p)) (g : (j : ℕ) → j < m → Obeys true (PlainRule p) (ds j).values)
    (keep : Bool) (none_null : keep ≡ false → (j : ℕ) → j < m → (e : ℕ) → e < (ds j).values.len → ok (ds j).values.valid ((ds j).values.off + e) ≡ true) where
  abbrev dicts : ℕ → Array (PlainBody p)
  dicts i = (ds i).values

  join_node : (j : ℕ) → j < m → (x : Mutable (PlainBody p)) → (x.bits ≡ none → keep ≡ false) → Joined p ds j x → (d : Mutable (PlainBody p))
      → extend_node true (λ ss i. plain_extend p (ss i)) dicts j 0 (ds j).values.len x ≡ done d → Joined p ds (suc j) d
  join_node j q x k h d e =
      let v = (ds j).values in
      let vs = seg (ok v.valid) (v.off + 0) v.len in
      let c = x.null_count + counted x.bits (zeros vs) in
      let s = then_done (plain_extend p v.body (v.off + 0) v.len x.len x.«data»)
      (λ b. done (record { len = x.len + v.len; null_count = c; bits = grow true vs x.bits; «data» = b })) d e in
      let y : plain_extend p v.body v.off v.len x.len x.«data» ≡ done s.0
      = ap (λ a. plain_extend p v.body a v.len x.len x.«data») (sym (add-zero v.off)) ∙ s.1.0 in
      subst (Joined p ds (suc j)) (done_is s.1.1)
      (join_step p ds j x h s.0 (appended p (ok v.valid) v.body v.off v.len x.len x.«data» s.0 (g j q).slots h.sound y) c vs (length_seg (ok v.valid) (v.off + 0) v.len)
      (λ i r. copied_bit true v.valid x.bits x.len (v.off + 0) v.len i (v.off + v.len) (g j q).mask h.bits_are (λ z. rw add-zero (none_null (k z) j q i r)) r ∙ rw add-zero))

  kept_start : (b : Bool) → ◌≡◌ {A = Option (List Bool)} (cond b (some []) none) none → b ≡ false
  kept_start true e = cc
  kept_start false e = refl

  kept_grown : (vs : List Bool) (b : Option (List Bool)) → grow true vs b ≡ none → b ≡ none
  kept_grown vs none e = refl
  kept_grown vs (some l) e = cc

  -- the bits are there where nulls are kept
  kept_node_lem : (j : ℕ) (x d : Mutable (PlainBody p)) → (x.bits ≡ none → keep ≡ false) → extend_node true (λ ss i. plain_extend p (ss i)) dicts j 0 (ds j).values.len x ≡ done d
      → d.bits ≡ none → keep ≡ false
  kept_node_lem j x d k e z =
      let v = (ds j).values in
      let vs = seg (ok v.valid) (v.off + 0) v.len in
      let s = then_done (plain_extend p v.body (v.off + 0) v.len x.len x.«data»)
      (λ b. done (record { len = x.len + v.len; null_count = x.null_count + counted x.bits (zeros vs); bits = grow true vs x.bits; «data» = b })) d e in
      k (kept_grown vs x.bits (ap (λ (y : Mutable (PlainBody p)). y.bits) (done_is s.1.1) ∙ z))

  record Both (j : ℕ) (d : Mutable (PlainBody p)) : Type 0 where
    is_joined : Joined p ds j d
    is_kept : d.bits ≡ none → keep ≡ false

  joined_both : (j : ℕ) → j ≤ m → (d : Mutable (PlainBody p)) → joined_from p dicts j (start_node keep (plain_start p)) ≡ done d → Both j d
  joined_both zero q d e = subst (Both 0) (done_is e) (record { is_joined = join_start p ds keep; is_kept = kept_start keep })
  joined_both (suc j) q d e =
      let r = then_done (joined_from p dicts j (start_node keep (plain_start p))) (λ x. extend_node true (λ ss i. plain_extend p (ss i)) dicts j 0 (ds j).values.len x) d e in
      let b = joined_both j (omega arith) r.0 r.1.0 in
      record { is_joined = join_node j q r.0 b.is_kept b.is_joined d r.1.1; is_kept = kept_node_lem j r.0 d b.is_kept r.1.1 }

-- the first j of m dictionaries joined, from where an opening starts
pub joined : (p : Plain) (m : ℕ) (ds : ℕ → Dictionary (PlainBody p)) → ((j : ℕ) → j < m → Obeys true (PlainRule p) (ds j).values) → (j : ℕ) → j ≤ m → (d : Mutable (PlainBody p))
    → joined_from p (λ i. (ds i).values) j (start_node (keeps false m (λ i. (ds i).values)) (plain_start p)) ≡ done d → Joined p ds j d
joined p m ds g j q d e =
    (joined_both p m ds g (keeps false m (λ i. (ds i).values))
    (λ z i l. no_null_in (ok (ds i).values.valid) (ds i).values.off (ds i).values.len (none_has m (λ i. (ds i).values) z i l)) j q d e).is_joined
