-- The rules of a source hold of every stretch of its rows. Assumes nothing.
use mathlib.Core.Path.{◌≡◌}
use mathlib.Core.Bool.{Bool}
use mathlib.Core.List.{List}
use Prim.Native.Nat.{ℕ, ◌+◌, ◌-◌, ◌*◌, ◌≤◌}
use native.Mathlib.Nat.{add_assoc, mul-le-mul_right}
use native.Mathlib.Omega.{arith}
use lib.ListN.{length}
use Rattle.columnar.specs.Types.{width, Plain, fixed, string, Ty, t_plain, t_view, t_list_view, t_list, t_sparse, t_dense, t_run_end, t_dictionary}
use Rattle.columnar.specs.Plain.{PlainBody, OffsetsRule, empty, full, PlainRule}
use Rattle.columnar.specs.Reading.{Body, SlotRule}
use Rattle.columnar.proofs.WiderKinds.{offsets_most}

held : (w off len a n size : ℕ) → a + n ≤ len → (off + len) * w ≤ size → (off + a + n) * w ≤ size
held w off len a n size q h = let z : (off + a + n) * w ≤ (off + len) * w = mul-le-mul_right w (omega arith) in omega arith

cut_offsets : (w : ℕ) (os : List ℕ) (most off len a n : ℕ) → a + n ≤ len → OffsetsRule w os most off len → OffsetsRule w os most (off + a) n
cut_offsets w os most off len a n q (empty e f) = empty (omega arith) f
cut_offsets w os most off len a n q (full h) =
    full
    (record {
      hold = let z : (off + a + n + 1) * w ≤ (off + len + 1) * w = mul-le-mul_right w (omega arith) in omega (arith, h.hold);
      positive = λ i r. rw add_assoc (h.positive (a + i) (omega arith));
      rises = λ i r. let e : off + a + i ≡ off + (a + i) = omega arith in rw e (h.rises (a + i) (omega arith));
      within = let e : off + a + n ≡ off + (a + n) = omega arith in rw e (offsets_most w os most off len h (len - (a + n)) (a + n) (omega arith));
    })

pub cut_plain : (p : Plain) (okay : ℕ → Bool) (b : PlainBody p) (off len a n : ℕ) → a + n ≤ len → PlainRule p okay b off len → PlainRule p okay b (off + a) n
cut_plain (fixed k) okay b off len a n q s = held (width k) off len a n (length b) q s
cut_plain (string w) okay b off len a n q s = cut_offsets w b.offsets (length b.chars) off len a n q s

pub cut : (t : Ty) (okay : ℕ → Bool) (b : Body t) (off len a n : ℕ) → a + n ≤ len → SlotRule t okay b off len → SlotRule t okay b (off + a) n
cut (t_plain p) okay b off len a n q s = cut_plain p okay b off len a n q s
cut t_view okay b off len a n q s =
    record {
      hold = held 16 off len a n (length b.views) q s.hold;
      good = λ i r v. rw add_assoc (s.good (a + i) (omega arith) (rw add_assoc at v));
    }
cut (t_list_view w t) okay b off len a n q s =
    record {
      hold_offsets = held w off len a n (length b.offsets) q s.hold_offsets;
      hold_sizes = held w off len a n (length b.sizes) q s.hold_sizes;
      entries = λ i r. rw add_assoc (s.entries (a + i) (omega arith));
      child_rule = s.child_rule;
    }
cut (t_list w t) okay b off len a n q s =
    record { offsets_rule_lem = cut_offsets w b.offsets b.child.len off len a n q s.offsets_rule_lem; child_rule = s.child_rule }
cut (t_sparse ids nullable f) okay b off len a n q s =
    record {
      hold = omega (arith, s.hold);
      declared = λ i r. rw add_assoc (s.declared (a + i) (omega arith));
      long = λ c m. omega (arith, s.long c m);
      child_rule = s.child_rule;
    }
cut (t_dense ids nullable f) okay b off len a n q s =
    record {
      hold_ids = omega (arith, s.hold_ids);
      hold_positions = held 4 off len a n (length b.positions) q s.hold_positions;
      declared = λ i r. rw add_assoc (s.declared (a + i) (omega arith));
      positive = λ i r. rw add_assoc (s.positive (a + i) (omega arith));
      within = λ i r. rw add_assoc (s.within (a + i) (omega arith));
      child_rule = s.child_rule;
    }
cut (t_run_end w t) okay b off len a n q s =
    record {
      ends_mask = s.ends_mask;
      hold = s.hold;
      no_nulls = s.no_nulls;
      positive = s.positive;
      rises = s.rises;
      covers = omega (arith, s.covers);
      as_many = s.as_many;
      child_rule = s.child_rule;
    }
cut (t_dictionary k p) okay b off len a n q s =
    record {
      hold = held (width k) off len a n (length b.keys) q s.hold;
      positive = λ i r v. rw add_assoc (s.positive (a + i) (omega arith) (rw add_assoc at v));
      within = λ i r v. rw add_assoc (s.within (a + i) (omega arith) (rw add_assoc at v));
      child_rule = s.child_rule;
    }
