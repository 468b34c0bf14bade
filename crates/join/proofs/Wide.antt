-- `Wide` (specs/Wide.antt) is what columnar's `Wider` and `Again` say together, both ways. Assumes nothing.
use mathlib.Core.Path.{◌≡◌, refl, sym, subst, ◌∙◌}
use mathlib.Core.Logic.{◌↔◌}
use mathlib.Core.Bool.{Bool, true, false}
use mathlib.Core.List.{List, [], ◌∷◌, Memᴰ}
use Prim.Native.Nat.{ℕ, ◌+◌, ◌*◌, ◌≤◌, ◌<◌}
use native.Mathlib.Omega.{arith}
use lib.ListN.{length, get_or}
use lib.Dec.{T, ltb}
use borrow.Author.Tests.{eq-eqb, lt-ltb, ltb-true}
use Rattle.columnar.specs.Types.{Number, width, limit, Plain, fixed, string, Ty, t_plain, t_view, t_list_view, t_list, t_sparse, t_dense, t_run_end, t_dictionary}
use Rattle.columnar.specs.Array.{Array, item}
use Rattle.columnar.specs.Plain.{PlainBody, stored}
use Rattle.columnar.specs.View.{view_of}
use Rattle.columnar.specs.Dictionary.{Dictionary}
use Rattle.columnar.specs.Reading.{Column}
use Rattle.columnar.specs.Test.{member, same}
use Rattle.columnar.specs.Wider.{PlainWider, w_fixed, w_string, KeyWider, Declared, Wider, w_plain, w_view, w_list_view, w_list, w_sparse, w_dense, w_run_end, w_dictionary, Entries, Ids, FixedKept, OffsetsKept, entries, no_entry, TextKept, PlainKept, DictionaryKept, Kept, Same, Stored, Shares, SharedAlike, Again}
use Rattle.columnar.proofs.Test.{member_agrees}
use Rattle.model.specs.Opening.{ptr_eq}
use Rattle.model.proofs.SameBody.{same_off, same_len, same_starts}
use Rattle.join.specs.Wide.{Slots, Numbers, Offsets, offsets, no_offset, AllKept, Wide, wide_numbers, wide_strings, wide_views, wide_list_views, wide_lists, wide_sparse, wide_dense, wide_run_ends, wide_dictionaries}

-- ---- buffers

to_entries : {w w' : ℕ} {s s' : List ℕ} {off len : ℕ} → Numbers w w' s s' off len → Entries w w' s s' off len
to_entries e = record { hold = e.hold; kept = λ i l. e.kept i l tt }

from_entries : {w w' : ℕ} {s s' : List ℕ} {off len : ℕ} → Entries w w' s s' off len → Numbers w w' s s' off len
from_entries e = record { hold = e.hold; kept = λ i l a. e.kept i l }

to_offsets : {w w' : ℕ} {s s' : List ℕ} {most off len : ℕ} → Offsets w w' s s' most off len → OffsetsKept w w' s s' most off len
to_offsets (offsets h e) = entries h (to_entries e)
to_offsets (no_offset z e r) = no_entry z e r

from_offsets : {w w' : ℕ} {s s' : List ℕ} {most off len : ℕ} → OffsetsKept w w' s s' most off len → Offsets w w' s s' most off len
from_offsets (entries h e) = offsets h (from_entries e)
from_offsets (no_entry z e r) = no_offset z e r

abbrev IdSlots : List ℕ → List ℕ → ℕ → ℕ → Type 0
IdSlots = Slots 1 (λ s i. get_or s i 0) (λ s i. get_or s i 0) (λ i. true)

to_ids : {s s' : List ℕ} {off len : ℕ} → IdSlots s s' off len → Ids s s' off len
to_ids e = record { hold = omega (arith, e.hold); kept = λ i l. e.kept i l tt }

from_ids : {s s' : List ℕ} {off len : ℕ} → Ids s s' off len → IdSlots s s' off len
from_ids e = record { hold = omega (arith, e.hold); kept = λ i l a. e.kept i l }

from_keys : {k k' : Number} {P P' : Type 0} {kid : Array P → Array P' → Type 0} {ok : ℕ → Bool} {b : Dictionary P} {b' : Dictionary P'} {off len : ℕ} → DictionaryKept k k' kid ok b b' off len
    → Slots (width k') (item (width k)) (item (width k')) ok b.keys b'.keys off len
from_keys e = record { hold = e.hold; kept = e.kept }

-- ---- arrays

paired : {A B : Type 0} → A → B → A × B
paired a b = (a, b)

on_body : {B B' : Type 0} {f g : (ℕ → Bool) → B → B' → ℕ → ℕ → Type 0} {x : Array B} {x' : Array B'}
    → Kept f x x' → ((ok : ℕ → Bool) (off len : ℕ) → f ok x.body x'.body off len → g ok x.body x'.body off len) → Kept g x x'
on_body k h = record { same_len = k.same_len; same_off = k.same_off; same_valid = k.same_valid; same_body = h _ _ _ k.same_body }

-- ---- sharing

list_self : (xs : List ℕ) → same xs xs ≡ true
list_self [] = refl
list_self (x ∷ xs) = rw (list_self xs, eq-eqb x x refl)

shares_ptr : {P : Type 0} (d e : Dictionary P) → Shares d e → ptr_eq d e ≡ true
shares_ptr d e s = rw (eq-eqb _ _ s.same_off, eq-eqb _ _ s.same_len, s.same_starts) (list_self e.starts)

ptr_shares : {P : Type 0} (d e : Dictionary P) → ptr_eq d e ≡ true → Shares d e
ptr_shares d e h = record { same_starts = same_starts d e h; same_off = same_off d e h; same_len = same_len d e h }

true_both : (a b : Bool) → (a ≡ true → b ≡ true) → (b ≡ true → a ≡ true) → a ≡ b
true_both true b f g = sym (f refl)
true_both false true f g = g refl
true_both false false f g = refl

module _ {P P' : Type 0} (d e : Dictionary P) (d' e' : Dictionary P') where
  to_shares : ptr_eq d e ≡ ptr_eq d' e' → Shares d e ↔ Shares d' e'
  to_shares q = ((λ s. ptr_shares d' e' (sym q ∙ shares_ptr d e s)), λ s. ptr_shares d e (q ∙ shares_ptr d' e' s))

  from_shares : Shares d e ↔ Shares d' e' → ptr_eq d e ≡ ptr_eq d' e'
  from_shares s = true_both (ptr_eq d e) (ptr_eq d' e') (λ h. shares_ptr d' e' (s.0 (ptr_shares d e h))) (λ h. shares_ptr d e (s.1 (ptr_shares d' e' h)))

-- ---- keys

held : {b : Bool} → b ≡ true → T b
held e = subst T (sym e) tt

truth : (b : Bool) → T b → b ≡ true
truth true t = refl
truth false t = absurd t

to_keys : (k k' : Number) → 0 < limit k → limit k ≤ limit k' → KeyWider k k'
to_keys k k' p q = record { key = held (lt-ltb 0 (limit k) p); key' = held (lt-ltb 0 (limit k') (omega arith)); reach = q }

-- ---- FROM `Wide`

module _ {n : ℕ} where
  plain_of : {p p' : Plain} {ss : ℕ → Column (t_plain p)} {ss' : ℕ → Column (t_plain p')} → Wide n (t_plain p) (t_plain p') ss ss' → PlainWider p p'
  plain_of (wide_numbers k ss ss' e) = w_fixed k
  plain_of (wide_strings w w' ss ss' h e) = w_string w w' h

  pub to_wider : {t t' : Ty} {ss : ℕ → Column t} {ss' : ℕ → Column t'} → Wide n t t' ss ss' → Wider t t'
  to_wider (wide_numbers k ss ss' e) = w_plain (w_fixed k)
  to_wider (wide_strings w w' ss ss' h e) = w_plain (w_string w w' h)
  to_wider (wide_views ss ss' e) = w_view
  to_wider (wide_list_views w w' ss ss' h e d) = w_list_view w w' h (to_wider d)
  to_wider (wide_lists w w' ss ss' h e d) = w_list w w' h (to_wider d)
  to_wider (wide_sparse ids ss ss' e u d) = w_sparse ids (λ c m. u c ((member_agrees c ids).sound m)) (λ c m. to_wider (d c ((member_agrees c ids).sound m)))
  to_wider (wide_dense ids ss ss' e u d) = w_dense ids (λ c m. u c ((member_agrees c ids).sound m)) (λ c m. to_wider (d c ((member_agrees c ids).sound m)))
  to_wider (wide_run_ends w w' ss ss' h e d) = w_run_end w w' h (to_wider d)
  to_wider (wide_dictionaries k k' ss ss' p q e d s) = w_dictionary k k' (to_keys k k' p q) (plain_of d)

  plain_stored : {p p' : Plain} {ss : ℕ → Column (t_plain p)} {ss' : ℕ → Column (t_plain p')} (d : Wide n (t_plain p) (t_plain p') ss ss') (i : ℕ) → i < n → Kept (PlainKept (plain_of d)) (ss i) (ss' i)
  unfolding plain_of
  plain_stored (wide_numbers k ss ss' e) i l = on_body (e i l) (λ ok off len b. record { hold = b.hold; kept = λ j q. b.kept j q tt })
  plain_stored (wide_strings w w' ss ss' h e) i l = on_body (e i l) (λ ok off len b. record { same_offsets = to_offsets b.0; same_chars = b.1 })

  to_stored : {t t' : Ty} {ss : ℕ → Column t} {ss' : ℕ → Column t'} (d : Wide n t t' ss ss') (i : ℕ) → i < n → Stored (to_wider d) (ss i) (ss' i)
  unfolding to_wider plain_of
  to_stored (wide_numbers k ss ss' e) i l = plain_stored (wide_numbers k ss ss' e) i l
  to_stored (wide_strings w w' ss ss' h e) i l = plain_stored (wide_strings w w' ss ss' h e) i l
  to_stored (wide_views ss ss' e) i l = on_body (e i l) (λ ok off len b. record { hold = b.0.hold; kept = λ j q. b.0.kept j q tt; same_buffers = b.1 })
  to_stored (wide_list_views w w' ss ss' h e d) i l =
      on_body (e i l) (λ ok off len b. record { same_offsets = to_entries b.0; same_sizes = to_entries b.1; same_child_lem = to_stored d i l })
  to_stored (wide_lists w w' ss ss' h e d) i l = on_body (e i l) (λ ok off len b. record { same_offsets = to_offsets b; same_child_lem = to_stored d i l })
  to_stored (wide_sparse ids ss ss' e u d) i l =
      on_body (e i l) (λ ok off len b. record { same_ids_lem = to_ids b; same_children = λ c m. to_stored (d c ((member_agrees c ids).sound m)) i l })
  to_stored (wide_dense ids ss ss' e u d) i l =
      on_body (e i l) (λ ok off len b. record { same_ids_lem = to_ids b.0; same_positions = to_entries b.1; same_children = λ c m. to_stored (d c ((member_agrees c ids).sound m)) i l })
  to_stored (wide_run_ends w w' ss ss' h e d) i l =
      on_body (e i l) (λ ok off len b. record { same_ends = on_body b (λ ok off len c. to_entries c); same_values = to_stored d i l })
  to_stored (wide_dictionaries k k' ss ss' p q e d s) i l = on_body (e i l) (λ ok off len b. record { hold = b.hold; kept = b.kept; same_values = plain_stored d i l })

  to_shared : {t t' : Ty} {ss : ℕ → Column t} {ss' : ℕ → Column t'} (d : Wide n t t' ss ss') → SharedAlike (to_wider d) n ss ss'
  unfolding to_wider
  to_shared (wide_numbers k ss ss' e) = tt
  to_shared (wide_strings w w' ss ss' h e) = tt
  to_shared (wide_views ss ss' e) = tt
  to_shared (wide_list_views w w' ss ss' h e d) = to_shared d
  to_shared (wide_lists w w' ss ss' h e d) = to_shared d
  to_shared (wide_sparse ids ss ss' e u d) = λ c m. to_shared (d c ((member_agrees c ids).sound m))
  to_shared (wide_dense ids ss ss' e u d) = λ c m. to_shared (d c ((member_agrees c ids).sound m))
  to_shared (wide_run_ends w w' ss ss' h e d) = to_shared d
  to_shared (wide_dictionaries k k' ss ss' p q e d s) = λ i j a b. to_shares (ss i).body (ss j).body (ss' i).body (ss' j).body (s i j a b)

  pub to_again : {t t' : Ty} {ss : ℕ → Column t} {ss' : ℕ → Column t'} (d : Wide n t t' ss ss') → Again (to_wider d) n ss ss'
  to_again d = record { each = to_stored d; sharing = to_shared d }

-- ---- TO `Wide`

module _ (n : ℕ) where
  from_plain : {p p' : Plain} (d : PlainWider p p') (ss : ℕ → Column (t_plain p)) (ss' : ℕ → Column (t_plain p')) → ((i : ℕ) → i < n → Kept (PlainKept d) (ss i) (ss' i)) → Wide n (t_plain p) (t_plain p') ss ss'
  from_plain (w_fixed k) ss ss' e = wide_numbers k ss ss' (λ i l. on_body (e i l) (λ ok off len b. record { hold = b.hold; kept = λ j q a. b.kept j q }))
  from_plain (w_string w w' h) ss ss' e = wide_strings w w' ss ss' h (λ i l. on_body (e i l) (λ ok off len b. (from_offsets b.same_offsets, b.same_chars)))

  pub from_again : {t t' : Ty} (d : Wider t t') (ss : ℕ → Column t) (ss' : ℕ → Column t') → Again d n ss ss' → Wide n t t' ss ss'
  from_again (w_plain d) ss ss' a = from_plain d ss ss' a.each
  from_again w_view ss ss' a =
      wide_views ss ss' (λ i l. on_body (a.each i l) (λ ok off len b. (record { hold = b.hold; kept = λ j q z. b.kept j q }, b.same_buffers)))
  from_again (w_list_view w w' h d) ss ss' a =
      wide_list_views w w' ss ss' h (λ i l. on_body (a.each i l) (λ ok off len b. paired (from_entries b.same_offsets) (from_entries b.same_sizes)))
      (from_again d _ _ (record { each = λ i l. (a.each i l).same_body.same_child_lem; sharing = a.sharing }))
  from_again (w_list w w' h d) ss ss' a =
      wide_lists w w' ss ss' h (λ i l. on_body (a.each i l) (λ ok off len b. from_offsets b.same_offsets))
      (from_again d _ _ (record { each = λ i l. (a.each i l).same_body.same_child_lem; sharing = a.sharing }))
  from_again (w_sparse ids e d) ss ss' a =
      wide_sparse ids ss ss' (λ i l. on_body (a.each i l) (λ ok off len b. from_ids b.same_ids_lem))
      (λ c q. e c ((member_agrees c ids).complete q))
      (λ c q.
      let m = (member_agrees c ids).complete q in
      from_again (d c m) _ _ (record { each = λ i l. (a.each i l).same_body.same_children c m; sharing = a.sharing c m }))
  from_again (w_dense ids e d) ss ss' a =
      wide_dense ids ss ss' (λ i l. on_body (a.each i l) (λ ok off len b. paired (from_ids b.same_ids_lem) (from_entries b.same_positions)))
      (λ c q. e c ((member_agrees c ids).complete q))
      (λ c q.
      let m = (member_agrees c ids).complete q in
      from_again (d c m) _ _ (record { each = λ i l. (a.each i l).same_body.same_children c m; sharing = a.sharing c m }))
  from_again (w_run_end w w' h d) ss ss' a =
      wide_run_ends w w' ss ss' h (λ i l. on_body (a.each i l) (λ ok off len b. on_body b.same_ends (λ ok off len c. from_entries c)))
      (from_again d _ _ (record { each = λ i l. (a.each i l).same_body.same_values; sharing = a.sharing }))
  from_again (w_dictionary k k' h d) ss ss' a =
      wide_dictionaries k k' ss ss' (ltb-true 0 (limit k) (truth _ h.key)) h.reach
      (λ i l. on_body (a.each i l) (λ ok off len b. from_keys b))
      (from_plain d _ _ (λ i l. (a.each i l).same_body.same_values))
      (λ i j p q. from_shares (ss i).body (ss j).body (ss' i).body (ss' j).body (a.sharing i j p q))
