-- A COPY CUT IN TWO leaves the same bytes, where no run-end node stands outside list-views and dense unions. Assumes nothing.
use mathlib.Core.Path.{◌≡◌, refl, sym, ap, ap₂, ◌∙◌, subst}
use mathlib.Core.Bool.{Bool, true, false}
use mathlib.Core.Option.{Option, none, some}
use mathlib.Core.List.Memᴰ
use mathlib.Core.List.{List, [], ◌∷◌, ◌++◌, append_assoc, Memᴰ}
use Prim.Native.Nat.{ℕ, zero, suc, ◌+◌, ◌-◌, ◌*◌, ◌≤◌, ◌<◌}
use native.Mathlib.Nat.{add-zero, zero-add, add_assoc, add-mul}
use native.Mathlib.Omega.{arith}
use lib.ListN.{length, take, drop, length-append}
use lib.Seq.{take-add, drop-drop}
use Rattle.columnar.specs.Row.{seg}
use Rattle.columnar.specs.Types.{width, half, Plain, fixed, string, Ty, t_plain, t_view, t_list_view, t_list, t_sparse, t_dense, t_run_end, t_dictionary}
use Rattle.columnar.specs.Array.{item, ok}
use Rattle.columnar.specs.Plain.{Text, OffsetsRule, StringRule}
use Rattle.columnar.specs.List.{Listed}
use Rattle.columnar.specs.Reading.{Column, Source, masks}
use Rattle.model.specs.Try.{Try, done, after, steps_t}
use Rattle.model.specs.Mutable.{Mutable, zeros, grow}
use Rattle.model.specs.Primitive.{new_offsets, new_views}
use Rattle.model.specs.Unions.{Sparses, in_order}
use Rattle.model.specs.ListViews.{list_row}
use Rattle.model.specs.Lists.{Listings, lists_extend}
use Rattle.model.specs.Unions as unions
use Rattle.model.specs.Transform.{Grown, Destination, extend_data, extend}
use Rattle.model.proofs.Bits.{zeros_append}
use Rattle.model.proofs.Rows.{seg_append}
use Rattle.model.proofs.Law.{FineNode}
use Rattle.model.proofs.Nodes.{FineOf}
use Rattle.model.proofs.TextLaw.{rising_below}
use Rattle.model.proofs.CutTries.{done_is, then_done, then_is, steps_cut, IsDone}
use Rattle.model.proofs.CutLess.{Led}
use Rattle.model.proofs.Names.{new_keys, counted}
use Rattle.model.proofs.CutOffsets.{offsets_rising, offsets_within, text_bytes, offset_done, offset_is, offset_both, text_same}

-- ---- the same destination, but for the children of ids that are not declared

pub record SameNode {D : Type 0} (same : D → D → Type 0) (x y : Mutable D) : Type 0 where
  pub len_same : x.len ≡ y.len
  pub count_same : x.null_count ≡ y.null_count
  pub bits_same : x.bits ≡ y.bits
  pub data_same : same x.«data» y.«data»

abbrev pub SameGrown : (t : Ty) → Grown t → Grown t → Type 0
SameGrown (t_plain p) x y = x ≡ y
SameGrown t_view x y = x ≡ y
SameGrown (t_list_view w t) x y = x ≡ y
SameGrown (t_list w t) x y = (x.buffer1 ≡ y.buffer1) × SameNode (SameGrown t) x.child y.child
SameGrown (t_sparse ids nullable f) x y = (x.buffer1 ≡ y.buffer1) × ((e : ℕ) → Memᴰ e ids → SameNode (SameGrown (f e)) (x.children e) (y.children e))
SameGrown (t_dense ids nullable f) x y = x ≡ y
SameGrown (t_run_end w t) x y = x ≡ y
SameGrown (t_dictionary k p) x y = x ≡ y

-- run-end nodes stand below list-views and dense unions alone
abbrev pub Seamless : Ty → Type 0
Seamless (t_plain p) = Unit {0}
Seamless t_view = Unit {0}
Seamless (t_list_view w t) = Unit {0}
Seamless (t_list w t) = Seamless t
Seamless (t_sparse ids nullable f) = (e : ℕ) → Memᴰ e ids → Seamless (f e)
Seamless (t_dense ids nullable f) = Unit {0}
Seamless (t_run_end w t) = ⊥
Seamless (t_dictionary k p) = Unit {0}

node_self : {D : Type 0} (R : D → D → Type 0) (x : Mutable D) → R x.«data» x.«data» → SameNode R x x
node_self R x r = record { len_same = refl; count_same = refl; bits_same = refl; data_same = r }

grown_self : (t : Ty) (x : Grown t) → SameGrown t x x
grown_self (t_plain p) x = refl
grown_self t_view x = refl
grown_self (t_list_view w t) x = refl
grown_self (t_list w t) x = (refl, node_self (SameGrown t) x.child (grown_self t x.child.«data»))
grown_self (t_sparse ids nullable f) x = (refl, λ e m. node_self (SameGrown (f e)) (x.children e) (grown_self (f e) (x.children e).«data»))
grown_self (t_dense ids nullable f) x = refl
grown_self (t_run_end w t) x = refl
grown_self (t_dictionary k p) x = refl

-- what a copy of the n slots from a on and then of the k behind them makes is what a copy of all of them makes
abbrev pub Seam : (t : Ty) (m : ℕ) → (ℕ → Column t) → ℕ → Type 0
Seam t m ss j =
    (a n k l : ℕ) (b b₁ : ℕ → Bool) (d d₁ d₂ : Grown t) → (ss j).off ≤ a → a + (n + k) ≤ (ss j).off + (ss j).len → FineOf t m (λ i. (ss i).body) b d l → FineOf t m (λ i. (ss i).body) b₁ d₁ (l + n)
    → extend_data t m (λ i. (ss i).body) j a n l d ≡ done d₁ → extend_data t m (λ i. (ss i).body) j (a + n) k (l + n) d₁ ≡ done d₂
    → Led (λ v. SameGrown t v d₂) (extend_data t m (λ i. (ss i).body) j a (n + k) l d)

-- what is appended in two pieces
two_pieces : {A : Type 0} (d x y z d₁ d₂ : List A) → done (d ++ x) ≡ done d₁ → done (d₁ ++ y) ≡ done d₂ → z ≡ x ++ y → d ++ z ≡ d₂
two_pieces d x y z d₁ d₂ p q e = rw (e, ← append_assoc) (ap (◌++ y) (done_is p) ∙ done_is q)

-- neighbouring stretches
stretch : {A : Type 0} (a n k : ℕ) (s : List A) → take (n + k) (drop a s) ≡ take n (drop a s) ++ take k (drop (a + n) s)
stretch a n k s = take-add n k (drop a s) ∙ ap (λ x. take n (drop a s) ++ take k x) (drop-drop n a s)

-- ---- numbers, views and keys

wide_stretch : (w a n k : ℕ) (s : List ℕ) → take ((n + k) * w) (drop (a * w) s) ≡ take (n * w) (drop (a * w) s) ++ take (k * w) (drop ((a + n) * w) s)
wide_stretch w a n k s = rw (add-mul n k w, add-mul a n w) (stretch (a * w) (n * w) (k * w) s)

views_cut : (base : ℕ) (s : List ℕ) (a n k : ℕ) → new_views base s a (n + k) ≡ new_views base s a n ++ new_views base s (a + n) k
views_cut base s a zero k = rw (zero-add, add-zero)
views_cut base s a (suc n) k =
    let e : suc n + k ≡ suc (n + k) = omega arith in
    let g : a + suc n ≡ suc a + n = omega arith in
    rw (e, g, views_cut base s (suc a) n k, append_assoc)

keys_cut : (w base : ℕ) (s : List ℕ) (a n k : ℕ) → new_keys w base s a (n + k) ≡ new_keys w base s a n ++ new_keys w base s (a + n) k
keys_cut w base s a zero k = rw (zero-add, add-zero)
keys_cut w base s a (suc n) k =
    let e : suc n + k ≡ suc (n + k) = omega arith in
    let g : a + suc n ≡ suc a + n = omega arith in
    rw (e, g, keys_cut w base s (suc a) n k, append_assoc)

exactly : {A : Type 0} {v d : A} → v ≡ d → Led (λ x. x ≡ d) (done v)
exactly {v = v} e = record { value = v; is = refl; holds = e }

-- ---- row by row

steps_seam : {A : Type 0} (f : ℕ → A → Try A) (a n k : ℕ) (d d₁ d₂ : A) → steps_t f a n d ≡ done d₁ → steps_t f (a + n) k d₁ ≡ done d₂ → Led (λ v. v ≡ d₂) (steps_t f a (n + k) d)
steps_seam f a n k d d₁ d₂ p q = record { value = d₂; is = steps_cut f a n k d ∙ then_is (steps_t f a n d) (steps_t f (a + n) k) d₁ p ∙ q; holds = refl }

-- ---- a node

counted_grow : (m : Bool) (vs : List Bool) (b : Option (List Bool)) (n : ℕ) → counted (grow m vs b) n ≡ counted b n
counted_grow m vs none n = refl
counted_grow true vs (some l) n = refl
counted_grow false vs (some l) n = refl

counted_add : (b : Option (List Bool)) (n k : ℕ) → counted b (n + k) ≡ counted b n + counted b k
counted_add none n k = refl
counted_add (some l) n k = refl

grow_grow : (m : Bool) (us vs : List Bool) (b : Option (List Bool)) → grow m (us ++ vs) b ≡ grow m vs (grow m us b)
grow_grow m us vs none = refl
grow_grow true us vs (some l) = ap some (sym (append_assoc l us vs))
grow_grow false us vs (some l) = refl

pub node_seam : (t : Ty) (m : ℕ) (ss : ℕ → Column t) (j : ℕ) → Seam t m ss j → (a n k : ℕ) → a + (n + k) ≤ (ss j).len → (d d₁ d₂ : Destination t)
    → FineNode (masks t) (FineOf t m (λ i. (ss i).body)) m ss d → FineNode (masks t) (FineOf t m (λ i. (ss i).body)) m ss d₁
    → extend t m ss j a n d ≡ done d₁ → extend t m ss j (a + n) k d₁ ≡ done d₂ → Led (λ v. SameNode (SameGrown t) v d₂) (extend t m ss j a (n + k) d)
node_seam t m ss j s a n k h d d₁ d₂ f f₁ p q =
    let o = (ss j).off in
    let p' = then_done (extend_data t m (λ i. (ss i).body) j (o + a) n d.len d.«data») _ d₁ p in
    let q' = then_done (extend_data t m (λ i. (ss i).body) j (o + (a + n)) k d₁.len d₁.«data») _ d₂ q in
    let e = done_is p'.rest_done in
    let g = done_is q'.rest_done in
    let us = seg (ok (ss j).valid) (o + a) n in
    let vs = seg (ok (ss j).valid) (o + (a + n)) k in
    let near : o + (a + n) ≡ o + a + n = omega arith in
    let all : seg (ok (ss j).valid) (o + a) (n + k) ≡ us ++ vs = seg_append (ok (ss j).valid) (o + a) n k ∙ ap (λ i. us ++ seg (ok (ss j).valid) i k) (sym near) in
    let len₁ : d.len + n ≡ d₁.len = ap (λ (v : Destination t). v.len) e in
    let bits₁ : grow (masks t) us d.bits ≡ d₁.bits = ap (λ (v : Destination t). v.bits) e in
    let count₁ : d.null_count + counted d.bits (zeros us) ≡ d₁.null_count = ap (λ (v : Destination t). v.null_count) e in
    let data₁ : p'.first ≡ d₁.«data» = ap (λ (v : Destination t). v.«data») e in
    let l =
    s (o + a) n k d.len _ _ d.«data» d₁.«data» q'.first (omega arith) (omega arith) f.data_fine
    (subst (FineOf t m (λ i. (ss i).body) _ d₁.«data») (sym len₁) f₁.data_fine)
    (p'.first_done ∙ ap done data₁)
    (ap₂ (λ x y. extend_data t m (λ i. (ss i).body) j x k y d₁.«data») (sym near) len₁ ∙ q'.first_done) in
    let more : counted d₁.bits (zeros vs) ≡ counted d.bits (zeros vs) = ap (λ b. counted b (zeros vs)) (sym bits₁) ∙ counted_grow (masks t) us d.bits (zeros vs) in
    let both : counted d.bits (zeros (us ++ vs)) ≡ counted d.bits (zeros us) + counted d.bits (zeros vs) =
    ap (counted d.bits) (zeros_append us vs) ∙ counted_add d.bits (zeros us) (zeros vs) in
    record {
      value = _;
      is = then_is (extend_data t m (λ i. (ss i).body) j (o + a) (n + k) d.len d.«data») _ l.value l.is;
      holds =
          subst (SameNode (SameGrown t) _) g
          (record {
            len_same = omega (arith, len₁);
            count_same = rw all (omega (arith, count₁, more, both));
            bits_same = ap (λ z. grow (masks t) z d.bits) all ∙ grow_grow (masks t) us vs d.bits ∙ ap (grow (masks t) vs) bits₁;
            data_same = l.holds;
          });
    }

-- ---- byte strings

text_seam : (w m : ℕ) (ss : ℕ → Column (t_plain (string w))) (j : ℕ) → StringRule w (ss j).body (ss j).off (ss j).len → Seam (t_plain (string w)) m ss j
text_seam w m ss j r a n k l b b₁ d d₁ d₂ lo hi f f₁ p q =
    let s = (ss j).body in
    let x : ℕ → ℕ = item w s.offsets in
    let last = item w d.offsets l in
    let last₁ = item w d₁.offsets (l + n) in
    let all = offsets_rising w s.offsets (length s.chars) (ss j).off (ss j).len r a (n + k) lo hi in
    let ra = offsets_rising w s.offsets (length s.chars) (ss j).off (ss j).len r a n lo (omega arith) in
    let rb = offsets_rising w s.offsets (length s.chars) (ss j).off (ss j).len r (a + n) k (omega arith) (omega arith) in
    let p' = then_done (new_offsets w s.offsets a n last) _ d₁ p in
    let q' = then_done (new_offsets w s.offsets (a + n) k last₁) _ d₂ q in
    let e = done_is p'.rest_done in
    let g = done_is q'.rest_done in
    let chars₁ : d.chars ++ take (x (a + n) - x a) (drop (x a) s.chars) ≡ d₁.chars = ap (λ (v : Text). v.chars) e in
    let long : length d₁.chars ≡ length d.chars + (x (a + n) - x a) =
    ap length (sym chars₁) ∙ length-append d.chars _ ∙ ap (length d.chars +◌) (text_bytes w s (ss j).off (ss j).len r a n lo (omega arith)) in
    let low : last < half w = omega (arith, f.last_is, f.fits) in
    let low₁ : last₁ < half w = omega (arith, f₁.last_is, f₁.fits) in
    let next : last₁ ≡ last + (x (a + n) - x a) = omega (arith, f.last_is, f₁.last_is, long) in
    let o = offset_done w s.offsets a n last p'.first ra low p'.first_done in
    let o₁ = offset_done w s.offsets (a + n) k last₁ q'.first rb low₁ q'.first_done in
    let both = offset_both w s.offsets a n k last last₁ p'.first q'.first all next o o₁ in
    let from : x a ≤ x (a + n) = rw (add-zero a) at (rising_below x a (n + k) all 0 n (omega arith) (omega arith)) in
    let up : x (a + n) ≤ x (a + (n + k)) = rising_below x a (n + k) all n (n + k) (omega arith) (omega arith) in
    let z : x (a + n + k) ≡ x (a + (n + k)) = ap x (add_assoc a n k) in
    let part : x (a + (n + k)) - x a ≡ (x (a + n) - x a) + (x (a + n + k) - x (a + n)) = omega (arith, from, up, z) in
    let seam : x a + (x (a + n) - x a) ≡ x (a + n) = omega (arith, from) in
    let bytes : take (x (a + (n + k)) - x a) (drop (x a) s.chars) ≡ take (x (a + n) - x a) (drop (x a) s.chars) ++ take (x (a + n + k) - x (a + n)) (drop (x (a + n)) s.chars) =
    ap (λ i. take i (drop (x a) s.chars)) part
    ∙ stretch (x a) (x (a + n) - x a) (x (a + n + k) - x (a + n)) s.chars
    ∙ ap (λ i. take (x (a + n) - x a) (drop (x a) s.chars) ++ take (x (a + n + k) - x (a + n)) (drop i s.chars)) seam in
    record {
      value = _;
      is = then_is (new_offsets w s.offsets a (n + k) last) _ (p'.first ++ q'.first) (offset_is w s.offsets a (n + k) last _ all low both);
      holds =
          text_same _ _ _ _ (sym (append_assoc d.offsets p'.first q'.first) ∙ ap (◌++ q'.first) (ap (λ (v : Text). v.offsets) e))
          (ap (d.chars ++◌) bytes ∙ sym (append_assoc d.chars _ _) ∙ ap (◌++ take (x (a + n + k) - x (a + n)) (drop (x (a + n)) s.chars)) chars₁)
          ∙ g;
    }

plain_seam : (p : Plain) (m : ℕ) (ss : ℕ → Column (t_plain p)) (j : ℕ) → Source (t_plain p) (ss j) → Seam (t_plain p) m ss j
plain_seam (fixed w) m ss j g a n k l b b₁ d d₁ d₂ lo hi f f₁ p q =
    exactly (two_pieces d _ _ _ d₁ d₂ p q (wide_stretch (width w) a n k (ss j).body))
plain_seam (string w) m ss j g a n k l b b₁ d d₁ d₂ lo hi f f₁ p q = text_seam w m ss j g.slots a n k l b b₁ d d₁ d₂ lo hi f f₁ p q

-- ---- lists

-- a copy of some rows that is done
record Listing {P D : Type 0} (w : ℕ) (ext : ℕ → ℕ → Mutable D → Try (Mutable D)) (s : Listed P) (a n l : ℕ) (d e : Listings D) : Type 0 where
  os : List ℕ
  os_done : new_offsets w s.offsets a n (item w d.buffer1 l) ≡ done os
  kid_done : ext (item w s.offsets a) (item w s.offsets (a + n) - item w s.offsets a) d.child ≡ done e.child
  os_are : d.buffer1 ++ os ≡ e.buffer1

listing : {P D : Type 0} (w : ℕ) (ext : ℕ → ℕ → Mutable D → Try (Mutable D)) (s : Listed P) (a n l : ℕ) (d e : Listings D) → 0 < n → lists_extend w ext s a n l d ≡ done e → Listing w ext s a n l d e
listing w ext s a zero l d e z h = absurd (omega arith)
listing {P} {D} w ext s a (suc n) l d e z h =
    let p = then_done (new_offsets w s.offsets a (suc n) (item w d.buffer1 l)) _ e h in
    let q = then_done (ext (item w s.offsets a) (item w s.offsets (a + suc n) - item w s.offsets a) d.child) _ e p.rest_done in
    let g = done_is q.rest_done in
    record { os = p.first; os_done = p.first_done; kid_done = q.first_done ∙ ap (λ (v : Listings D). done v.child) g; os_are = ap (λ (v : Listings D). v.buffer1) g }

listing_is : {P D : Type 0} (w : ℕ) (ext : ℕ → ℕ → Mutable D → Try (Mutable D)) (s : Listed P) (a n l : ℕ) (d : Listings D) (os : List ℕ) (c : Mutable D) → 0 < n
    → new_offsets w s.offsets a n (item w d.buffer1 l) ≡ done os → ext (item w s.offsets a) (item w s.offsets (a + n) - item w s.offsets a) d.child ≡ done c
    → lists_extend w ext s a n l d ≡ done (record { buffer1 = d.buffer1 ++ os; child = c })
listing_is w ext s a zero l d os c z p q = absurd (omega arith)
listing_is w ext s a (suc n) l d os c z p q =
    then_is (new_offsets w s.offsets a (suc n) (item w d.buffer1 l)) _ os p
    ∙ then_is (ext (item w s.offsets a) (item w s.offsets (a + suc n) - item w s.offsets a) d.child) _ c q

-- n rows more
extended : (t : Ty) (m : ℕ) (ss : ℕ → Column t) (j a n : ℕ) (d e : Destination t) → extend t m ss j a n d ≡ done e → e.len ≡ d.len + n
extended t m ss j a n d e h =
    let p = then_done (extend_data t m (λ i. (ss i).body) j ((ss j).off + a) n d.len d.«data») _ e h in
    sym (ap (λ (v : Destination t). v.len) (done_is p.rest_done))

module _ (w : ℕ) (t : Ty) (m : ℕ) (ss : ℕ → Column (t_list w t)) (j : ℕ) (r : OffsetsRule w (ss j).body.offsets (ss j).body.child.len (ss j).off (ss j).len)
    (kid : Seam t m (λ i. (ss i).body.child) j) where
  abbrev ext : ℕ → ℕ → Destination t → Try (Destination t)
  ext = extend t m (λ i. (ss i).body.child) j

  -- two halves with rows
  some_seam : (a n k l : ℕ) (b b₁ : ℕ → Bool) (d d₁ d₂ : Grown (t_list w t)) → 0 < n → 0 < k → (ss j).off ≤ a → a + (n + k) ≤ (ss j).off + (ss j).len
      → FineOf (t_list w t) m (λ i. (ss i).body) b d l → FineOf (t_list w t) m (λ i. (ss i).body) b₁ d₁ (l + n)
      → lists_extend w ext (ss j).body a n l d ≡ done d₁ → lists_extend w ext (ss j).body (a + n) k (l + n) d₁ ≡ done d₂
      → Led (λ v. SameGrown (t_list w t) v d₂) (lists_extend w ext (ss j).body a (n + k) l d)
  some_seam a n k l b b₁ d d₁ d₂ sn sk lo hi f f₁ p q =
      let s = (ss j).body in
      let x : ℕ → ℕ = item w s.offsets in
      let last = item w d.buffer1 l in
      let last₁ = item w d₁.buffer1 (l + n) in
      let all = offsets_rising w s.offsets s.child.len (ss j).off (ss j).len r a (n + k) lo hi in
      let ra = offsets_rising w s.offsets s.child.len (ss j).off (ss j).len r a n lo (omega arith) in
      let rb = offsets_rising w s.offsets s.child.len (ss j).off (ss j).len r (a + n) k (omega arith) (omega arith) in
      let p' = listing w ext s a n l d d₁ sn p in
      let q' = listing w ext s (a + n) k (l + n) d₁ d₂ sk q in
      let long : d₁.child.len ≡ d.child.len + (x (a + n) - x a) = extended t m (λ i. (ss i).body.child) j (x a) (x (a + n) - x a) d.child d₁.child p'.kid_done in
      let low : last < half w = omega (arith, f.offsets_fine.last_is, f.offsets_fine.fits) in
      let low₁ : last₁ < half w = omega (arith, f₁.offsets_fine.last_is, f₁.offsets_fine.fits) in
      let next : last₁ ≡ last + (x (a + n) - x a) = omega (arith, f.offsets_fine.last_is, f₁.offsets_fine.last_is, long) in
      let o = offset_done w s.offsets a n last p'.os ra low p'.os_done in
      let o₁ = offset_done w s.offsets (a + n) k last₁ q'.os rb low₁ q'.os_done in
      let both = offset_both w s.offsets a n k last last₁ p'.os q'.os all next o o₁ in
      let from : x a ≤ x (a + n) = rw (add-zero a) at (rising_below x a (n + k) all 0 n (omega arith) (omega arith)) in
      let up : x (a + n) ≤ x (a + (n + k)) = rising_below x a (n + k) all n (n + k) (omega arith) (omega arith) in
      let z : x (a + n + k) ≡ x (a + (n + k)) = ap x (add_assoc a n k) in
      let part : x (a + (n + k)) - x a ≡ (x (a + n) - x a) + (x (a + n + k) - x (a + n)) = omega (arith, from, up, z) in
      let seam : x a + (x (a + n) - x a) ≡ x (a + n) = omega (arith, from) in
      let most : x (a + (n + k)) ≤ s.child.len = offsets_within w s.offsets s.child.len (ss j).off (ss j).len r a (n + k) (omega arith) lo hi in
      let c =
      node_seam t m (λ i. (ss i).body.child) j kid (x a) (x (a + n) - x a) (x (a + n + k) - x (a + n)) (omega (arith, from, up, z, most)) d.child d₁.child d₂.child f.child_fine f₁.child_fine
      p'.kid_done (ap (λ i. ext i (x (a + n + k) - x (a + n)) d₁.child) seam ∙ q'.kid_done) in
      record {
        value = _;
        is =
            listing_is w ext s a (n + k) l d (p'.os ++ q'.os) c.value (omega arith) (offset_is w s.offsets a (n + k) last _ all low both)
            (ap (λ i. ext (x a) i d.child) part ∙ c.is);
        holds = (sym (append_assoc d.buffer1 p'.os q'.os) ∙ ap (◌++ q'.os) p'.os_are ∙ q'.os_are, c.holds);
      }

  lists_seam : Seam (t_list w t) m ss j
  lists_seam a zero k l b b₁ d d₁ d₂ lo hi f f₁ p q =
      record {
        value = d₂;
        is =
            ap (λ i. lists_extend w ext (ss j).body a i l d) (zero-add k)
            ∙ ap (lists_extend w ext (ss j).body a k l) (done_is p)
            ∙ sym (ap₂ (λ x y. lists_extend w ext (ss j).body x k y d₁) (add-zero a) (add-zero l))
            ∙ q;
        holds = grown_self (t_list w t) d₂;
      }
  lists_seam a (suc n) zero l b b₁ d d₁ d₂ lo hi f f₁ p q =
      record { value = d₂; is = ap (λ i. lists_extend w ext (ss j).body a i l d) (add-zero (suc n)) ∙ p ∙ q; holds = grown_self (t_list w t) d₂ }
  lists_seam a (suc n) (suc k) l b b₁ d d₁ d₂ lo hi f f₁ p q = some_seam a (suc n) (suc k) l b b₁ d d₁ d₂ (omega arith) (omega arith) lo hi f f₁ p q

-- ---- sparse unions

record Ordered {D : ℕ → Type 0} {A : Type 0} (f : (c : ℕ) → Try (Mutable (D c))) (ids : List ℕ) (x d : A) : Type 0 where
  is_last : x ≡ d
  all_done : (c : ℕ) → Memᴰ c ids → IsDone (f c)

order_done : {D : ℕ → Type 0} {A : Type 0} (f : (c : ℕ) → Try (Mutable (D c))) (ids : List ℕ) (x d : A) → in_order f ids x ≡ done d → Ordered f ids x d
order_done f [] x d h = record { is_last = done_is h; all_done = λ c m. absurd (Memᴰ.not-nil m) }
order_done {D} f (c ∷ cs) x d h =
    let p = then_done (f c) (λ y. in_order f cs x) d h in
    let r = order_done f cs x d p.rest_done in
    record { is_last = r.is_last; all_done = go (record { value = p.first; is = p.first_done }) r.all_done }
  where
    go : IsDone (f c) → ((e : ℕ) → Memᴰ e cs → IsDone (f e)) → (e : ℕ) → Memᴰ e (c ∷ cs) → IsDone (f e)
    go p k e (Memᴰ.head z) = subst (λ e. IsDone (f e)) (sym z) p
    go p k e (Memᴰ.tail m) = k e m

order_is : {D : ℕ → Type 0} {A : Type 0} (f : (c : ℕ) → Try (Mutable (D c))) (ids : List ℕ) (x : A) → ((c : ℕ) → Memᴰ c ids → IsDone (f c)) → in_order f ids x ≡ done x
order_is f [] x k = refl
order_is f (c ∷ cs) x k =
    let p = k c (Memᴰ.head refl) in
    then_is (f c) (λ y. in_order f cs x) p.value p.is ∙ order_is f cs x (λ e m. k e (Memᴰ.tail m))

-- an answer that is done, by what stands after it
after_done : {A : Type 0} (t : Try A) (y : A) → IsDone t → t ≡ done (after t y)
after_done t y p = p.is ∙ ap (λ s. done (after s y)) (sym p.is)

sparse_seam : (ids : List ℕ) (nullable : ℕ → Bool) (f : ℕ → Ty) (m : ℕ) (ss : ℕ → Column (t_sparse ids nullable f)) (j : ℕ) → Source (t_sparse ids nullable f) (ss j)
    → ((c : ℕ) → Memᴰ c ids → Seam (f c) m (λ i. (ss i).body.children c) j) → Seam (t_sparse ids nullable f) m ss j
sparse_seam ids nullable f m ss j g kid a n k l b b₁ d d₁ d₂ lo hi h h₁ p q =
    let ext : (c : ℕ) → ℕ → ℕ → Destination (f c) → Try (Destination (f c)) = λ c. extend (f c) m (λ i. (ss i).body.children c) j in
    let p' = order_done (λ c. ext c a n (d.children c)) ids _ d₁ p in
    let q' = order_done (λ c. ext c (a + n) k (d₁.children c)) ids _ d₂ q in
    let one : (c : ℕ) → Memᴰ c ids → ext c a n (d.children c) ≡ done (d₁.children c) =
    λ c v. after_done _ (d.children c) (p'.all_done c v) ∙ ap (λ (z : Sparses (λ c. Grown (f c))). done (z.children c)) p'.is_last in
    let two : (c : ℕ) → Memᴰ c ids → ext c (a + n) k (d₁.children c) ≡ done (d₂.children c) =
    λ c v. after_done _ (d₁.children c) (q'.all_done c v) ∙ ap (λ (z : Sparses (λ c. Grown (f c))). done (z.children c)) q'.is_last in
    let go : (c : ℕ) → Memᴰ c ids → Led (λ v. SameNode (SameGrown (f c)) v (d₂.children c)) (ext c a (n + k) (d.children c)) =
    λ c v.
    node_seam (f c) m (λ i. (ss i).body.children c) j (kid c v) a n k (omega (arith, hi, g.slots.long c v)) (d.children c) (d₁.children c) (d₂.children c) (h.kids_fine c v) (h₁.kids_fine c v) (one c v) (two c v) in
    record {
      value = _;
      is = order_is (λ c. ext c a (n + k) (d.children c)) ids _ (λ c v. record { value = (go c v).value; is = (go c v).is });
      holds = (
        two_pieces d.buffer1 _ _ _ d₁.buffer1 d₂.buffer1 (ap (λ (z : Sparses (λ c. Grown (f c))). done z.buffer1) p'.is_last) (ap (λ (z : Sparses (λ c. Grown (f c))). done z.buffer1) q'.is_last) (stretch a n k (ss j).body.ids),
        λ c v. subst (λ z. SameNode (SameGrown (f c)) (after z (d.children c)) (d₂.children c)) (sym (go c v).is) (go c v).holds,
      );
    }

-- ---- every type

pub seams : (t : Ty) → Seamless t → (m : ℕ) (ss : ℕ → Column t) (j : ℕ) → Source t (ss j) → Seam t m ss j
seams (t_plain p) z m ss j g = plain_seam p m ss j g
seams t_view z m ss j g = λ a n k l b b₁ d d₁ d₂ lo hi f f₁ p q. exactly (two_pieces d _ _ _ d₁ d₂ p q (views_cut _ (ss j).body.views a n k))
seams (t_list_view w t) z m ss j g = λ a n k l b b₁ d d₁ d₂ lo hi f f₁ p q. steps_seam (list_row w (extend t m (λ i. (ss i).body.child) j) (ss j).body) a n k d d₁ d₂ p q
seams (t_list w t) z m ss j g = lists_seam w t m ss j g.slots.offsets_rule_lem (seams t z m (λ i. (ss i).body.child) j g.slots.child_rule)
seams (t_sparse ids nullable f) z m ss j g =
    sparse_seam ids nullable f m ss j g (λ c v. seams (f c) (z c v) m (λ i. (ss i).body.children c) j (g.slots.child_rule c v))
seams (t_dense ids nullable f) z m ss j g = λ a n k l b b₁ d d₁ d₂ lo hi h h₁ p q.
    steps_seam (unions.dense_row (λ c. extend (f c) m (λ i. (ss i).body.children c) j) (ss j).body) a n k d d₁ d₂ p q
seams (t_run_end w t) z m ss j g = absurd z
seams (t_dictionary w p) z m ss j g = λ a n k l b b₁ d d₁ d₂ lo hi f f₁ p' q. exactly (two_pieces d _ _ _ d₁ d₂ p' q (keys_cut (width w) _ (ss j).body.keys a n k))
