-- A column named where it stands reads as before and obeys the rules. Assumes nothing.
use mathlib.Core.Path.{◌≡◌, refl, ap, ◌∙◌}
use mathlib.Core.Bool.{Bool, true, false, cond}
use mathlib.Core.Option.{Option, none}
use mathlib.Core.List.{List}
use Prim.Native.Nat.{ℕ, suc, ◌+◌, ◌-◌, ◌<◌}
use native.Mathlib.Omega.{arith}
use lib.ListN.{get_or}
use lib.Dec.{T, eqb}
use Rattle.columnar.specs.Row.{list, union, rows}
use Rattle.columnar.specs.Types.{Plain, fixed, string, width, Ty, t_plain, t_view, t_list_view, t_list, t_sparse, t_dense, t_run_end, t_dictionary}
use Rattle.columnar.specs.Array.{item, ok, sight, null_count_of, Mask}
use Rattle.columnar.specs.Plain.{PlainBody, PlainRule}
use Rattle.columnar.specs.View.{Views}
use Rattle.columnar.specs.RunEnd.{end_of, first_above}
use Rattle.columnar.specs.Dictionary.{entry_at}
use Rattle.columnar.specs.Reading.{Body, Column, slot_at, read, masks, SlotRule, Source}
use Rattle.columnar.proofs.Kept.{seg_same}
use Rattle.columnar.proofs.FirstAbove.{first_below}
use Rattle.columnar.proofs.WiderKinds.{row_within}
use Rattle.model.specs.Sources.{EachView}
use Rattle.model.proofs.Present.{present_ok, present_read, present_obeys}
use Rattle.anew.specs.lists.Named.{named_body, named}
use Rattle.anew.proofs.lists.Laid.{sights}

mask_less : (c b : Bool) (o : Option (List ℕ)) (n : ℕ) → Mask c o n → Mask c (cond b none o) n
mask_less c true o n h = tt
mask_less c false o n h = h

plain_any : (p : Plain) (f g : ℕ → Bool) (b : PlainBody p) (off len : ℕ) → PlainRule p f b off len → PlainRule p g b off len
plain_any (fixed n) f g b off len h = h
plain_any (string w) f g b off len h = h

-- ---- rows

-- a slot that is valid holds what it held
abbrev Holds : (t : Ty) → Type 0
Holds t = (okay : ℕ → Bool) (b : Body t) (off len : ℕ) → SlotRule t okay b off len → (i : ℕ) → i < len → T (okay (off + i)) → slot_at t (named_body t b) (off + i) ≡ slot_at t b (off + i)

node_read : (t : Ty) → Holds t → (x : Column t) → Source t x → (i : ℕ) → i < x.len → read t (named t x) i ≡ read t x i
node_read t h x s i q =
    ap (λ b. sight b (slot_at t (named_body t x.body) (x.off + i))) (present_ok x i q) ∙ sights (ok x.valid (x.off + i)) _ _ (h (ok x.valid) x.body x.off x.len s.slots i q)

holds : (t : Ty) → Holds t
holds (t_plain p) okay b off len s i q v = refl
holds t_view okay b off len s i q v = refl
holds (t_list_view w t) okay b off len s i q v =
    ap (λ r. list (rows r))
    (seg_same (read t (named t b.child)) (read t b.child) (item w b.offsets (off + i)) (item w b.sizes (off + i))
    (λ j r. node_read t (holds t) b.child s.child_rule (item w b.offsets (off + i) + j) (omega (arith, (s.entries i q).within))))
holds (t_list w t) okay b off len s i q v =
    ap (λ r. list (rows r))
    (seg_same (read t (named t b.child)) (read t b.child) (item w b.offsets (off + i)) (item w b.offsets (suc (off + i)) - item w b.offsets (off + i))
    (λ j r. node_read t (holds t) b.child s.child_rule (item w b.offsets (off + i) + j) (omega (arith, row_within w b.offsets b.child.len off len s.offsets_rule_lem i q))))
holds (t_sparse ids nullable f) okay b off len s i q v =
    let c = get_or b.ids (off + i) 0 in
    let m = s.declared i q in
    ap (union c) (node_read (f c) (holds (f c)) (b.children c) (s.child_rule c m) (off + i) (omega (arith, s.long c m)))
holds (t_dense ids nullable f) okay b off len s i q v =
    let c = get_or b.ids (off + i) 0 in
    ap (union c) (node_read (f c) (holds (f c)) (b.children c) (s.child_rule c (s.declared i q)) (item 4 b.positions (off + i)) (s.within i q))
holds (t_run_end w t) okay b off len s i q v =
    let g = first_below (end_of w b.ends) (off + i) b.ends.len (omega (arith, s.covers)) in
    node_read t (holds t) b.values s.child_rule (first_above (end_of w b.ends) (off + i) 0 b.ends.len) (omega (arith, g, s.as_many))
holds (t_dictionary k p) okay b off len s i q v = present_read b.values (entry_at p) (item (width k) b.keys (off + i)) (s.within i q v)

-- EVERY ROW READS AS BEFORE
pub named_read : (t : Ty) (x : Column t) → Source t x → (i : ℕ) → i < x.len → read t (named t x) i ≡ read t x i
named_read t x s i q = node_read t (holds t) x s i q

-- ---- the rules

abbrev Obeyed : (t : Ty) → Type 0
Obeyed t = (okay okay' : ℕ → Bool) (b : Body t) (off len : ℕ) → ((i : ℕ) → i < len → okay' (off + i) ≡ okay (off + i)) → SlotRule t okay b off len
    → SlotRule t okay' (named_body t b) off len

node_source : (t : Ty) → Obeyed t → (x : Column t) → Source t x → Source t (named t x)
node_source t h x s =
    record {
      mask = mask_less (masks t) (eqb (null_count_of x) 0) x.valid (x.off + x.len) s.mask;
      slots = h (ok x.valid) (ok (named t x).valid) x.body x.off x.len (present_ok x) s.slots;
    }

obeyed : (t : Ty) → Obeyed t
obeyed (t_plain p) okay okay' b off len e s = plain_any p okay okay' b off len s
obeyed t_view okay okay' b off len e s = record { hold = s.hold; good = λ i q v. s.good i q (rw (e i q) at v) }
obeyed (t_list_view w t) okay okay' b off len e s =
    record {
      hold_offsets = s.hold_offsets;
      hold_sizes = s.hold_sizes;
      entries = λ i q. record { offset = (s.entries i q).offset; size = (s.entries i q).size; within = (s.entries i q).within };
      child_rule = node_source t (obeyed t) b.child s.child_rule;
    }
obeyed (t_list w t) okay okay' b off len e s = record { offsets_rule_lem = s.offsets_rule_lem; child_rule = node_source t (obeyed t) b.child s.child_rule }
obeyed (t_sparse ids nullable f) okay okay' b off len e s =
    record { hold = s.hold; declared = s.declared; long = s.long; child_rule = λ c m. node_source (f c) (obeyed (f c)) (b.children c) (s.child_rule c m) }
obeyed (t_dense ids nullable f) okay okay' b off len e s =
    record {
      hold_ids = s.hold_ids;
      hold_positions = s.hold_positions;
      declared = s.declared;
      positive = s.positive;
      within = s.within;
      child_rule = λ c m. node_source (f c) (obeyed (f c)) (b.children c) (s.child_rule c m);
    }
obeyed (t_run_end w t) okay okay' b off len e s =
    record {
      ends_mask = mask_less true (eqb (null_count_of b.ends) 0) b.ends.valid (b.ends.off + b.ends.len) s.ends_mask;
      hold = s.hold;
      no_nulls = λ k q. rw (present_ok b.ends k q) (s.no_nulls k q);
      positive = s.positive;
      rises = s.rises;
      covers = s.covers;
      as_many = s.as_many;
      child_rule = node_source t (obeyed t) b.values s.child_rule;
    }
obeyed (t_dictionary k p) okay okay' b off len e s =
    record {
      hold = s.hold;
      positive = λ i q v. s.positive i q (rw (e i q) at v);
      within = λ i q v. s.within i q (rw (e i q) at v);
      child_rule = present_obeys p b.values s.child_rule;
    }

-- IT OBEYS THE RULES
pub named_source : (t : Ty) (x : Column t) → Source t x → Source t (named t x)
named_source t x s = node_source t (obeyed t) x s

-- its views are the same
pub named_views : (Q : Views → Type 0) (t : Ty) (b : Body t) → EachView Q t b → EachView Q t (named_body t b)
named_views Q (t_plain p) b h = tt
named_views Q t_view b h = h
named_views Q (t_list_view w t) b h = named_views Q t b.child.body h
named_views Q (t_list w t) b h = named_views Q t b.child.body h
named_views Q (t_sparse ids nullable f) b h = λ c m. named_views Q (f c) (b.children c).body (h c m)
named_views Q (t_dense ids nullable f) b h = λ c m. named_views Q (f c) (b.children c).body (h c m)
named_views Q (t_run_end w t) b h = named_views Q t b.values.body h
named_views Q (t_dictionary k p) b h = tt
