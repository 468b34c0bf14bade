-- Run-end columns in other widths, from their values in other widths. Assumes nothing.
use mathlib.Core.Path.{◌≡◌, refl, sym, ap, subst, ◌∙◌}
use mathlib.Core.Option.{none}
use mathlib.Core.List.{List}
use Prim.Native.Nat.{ℕ, zero, suc, ◌+◌, ◌-◌, ◌*◌, ◌≤◌, ◌<◌, min}
use native.Mathlib.Nat.{zero-add, zero-mul}
use native.Mathlib.Omega.{arith}
use Rattle.columnar.specs.Types.{half, Ty, t_run_end}
use Rattle.columnar.specs.Array.{Array, read_with}
use Rattle.columnar.specs.Entries.{encodes}
use Rattle.columnar.specs.RunEnd.{RunEnd, end_of, first_above, start_of}
use Rattle.columnar.specs.Reading.{slot_at, read}
use Rattle.columnar.proofs.Items.{length_encodes}
use Rattle.columnar.proofs.FirstAbove.{first_same, first_below}
use Rattle.model.proofs.Bits.{length_seg}
use Rattle.model.proofs.Ends.{Ends, First, Many, clip, in_order_lem, last_run, clip_ends, clip_find}
use Rattle.anew.proofs.lists.Viewed.{entry_is}
use Rattle.anew.specs.widths.Widths.{Widths, s_run_end}
use Rattle.anew.specs.widths.Converted.{first_of, many_of, ends_of, column_as}
use Rattle.anew.specs.widths.Fitting.{needs, AllFit, numbers_of, numbers_in}
use Rattle.anew.proofs.widths.Fits.{all_left, all_right, seg_fits}
use Rattle.anew.proofs.widths.Node.{Made, Node, node}

-- ---- the run ends of a stretch that has rows

module _ (w w' : ℕ) {P : Type 0} (b : RunEnd P) (s n : ℕ) (rises : (k : ℕ) → k < b.ends.len → start_of (end_of w b.ends) k < end_of w b.ends k)
    (covers : s + suc n ≤ start_of (end_of w b.ends) b.ends.len) (fit : AllFit (needs 7 (half w') (ends_of w b s (suc n)))) where
  abbrev pub old : ℕ → ℕ
  old = end_of w b.ends

  abbrev pub clipped : ℕ → ℕ
  clipped = clip old b.ends.len s (suc n)

  abbrev pub many : ℕ
  many = Many old b.ends.len s (suc n)

  abbrev pub new : Array (List ℕ)
  new = record { len = many_of w b s (suc n); off = 0; valid = none; body = encodes w' (ends_of w b s (suc n)) }

  pub end_fits_lem : (k : ℕ) → k < many → clipped k < half w'
  end_fits_lem k q = seg_fits 7 (half w') (λ k. min (old k) (s + suc n) - s) (First old b.ends.len s (suc n)) many fit k q

  pub end_is : (k : ℕ) → k < many → end_of w' new k ≡ clipped k
  end_is k q = rw zero-add (entry_is w' (λ k. min (old k) (s + suc n) - s) (First old b.ends.len s (suc n)) many k q (end_fits_lem k q))

  pub start_is : (k : ℕ) → k ≤ many → start_of (end_of w' new) k ≡ start_of clipped k
  start_is zero q = refl
  start_is (suc k) q = end_is k q

  pub ends_are : Ends clipped many (suc n)
  ends_are = clip_ends old b.ends.len s (suc n) rises (omega arith) covers

  -- its runs are runs of the old column
  pub runs_in_lem : First old b.ends.len s (suc n) + many ≤ b.ends.len
  runs_in_lem = omega (arith, in_order_lem old b.ends.len s (suc n) rises (omega arith) covers, last_run old b.ends.len s (suc n) rises (omega arith) covers)

  -- a row's run, counted from the first
  pub run_is : (i : ℕ) → i < suc n → first_above (end_of w' new) i 0 many ≡ first_above clipped i 0 many
  run_is i q = first_same (end_of w' new) clipped i 0 many (λ j r. subst (λ y. end_of w' new y ≡ clipped y) (sym (zero-add j)) (end_is j r))

  pub run_below : (i : ℕ) → i < suc n → first_above clipped i 0 many < many
  run_below i q = first_below clipped i many (omega (arith, ends_are.covers))

  pub run_from : (i : ℕ) → i < suc n → First old b.ends.len s (suc n) + first_above clipped i 0 many ≡ first_above old (s + i) 0 b.ends.len
  run_from i q = clip_find old b.ends.len s (suc n) rises (omega arith) covers i q

-- ---- the law

pub run_end_made : (w w' : ℕ) (t t' : Ty) (d : Widths t t') → Made t t' d → Made (t_run_end w t) (t_run_end w' t') (s_run_end w w' t t' d)
run_end_made w w' t t' d made okay okay' b s zero h e fit =
    record {
      holds = λ i q v. absurd (omega arith);
      rule =
          record {
            ends_mask = tt;
            hold = let z : 0 * w' ≤ 0 = rw zero-mul (omega arith) in z;
            no_nulls = λ k q. tt;
            positive = λ k q. absurd (omega arith);
            rises = λ k q. absurd (omega arith);
            covers = omega arith;
            as_many = refl;
            child_rule = (node t t' d made b.values h.child_rule 0 0 (omega arith) fit).obeys;
          };
    }
run_end_made w w' t t' d made okay okay' b s (suc n) h e fit =
    record {
      holds = λ i q v.
          ap (read_with (slot_at t') (column_as t t' d b.values (first_of w b s (suc n)) (many_of w b s (suc n)))) (run_is w w' b s n h.rises h.covers own i q)
          ∙ kid.row (first_above (clipped w w' b s n h.rises h.covers own) i 0 (many_of w b s (suc n))) (run_below w w' b s n h.rises h.covers own i q)
          ∙ ap (read t b.values) (run_from w w' b s n h.rises h.covers own i q);
      rule =
          record {
            ends_mask = tt;
            hold = rw (zero-add, length_encodes, length_seg) (omega arith);
            no_nulls = λ k q. tt;
            positive = λ k q. rw (end_is w w' b s n h.rises h.covers own k q) (end_fits_lem w w' b s n h.rises h.covers own k q);
            rises = λ k q.
                rw (start_is w w' b s n h.rises h.covers own k (omega arith), end_is w w' b s n h.rises h.covers own k q)
                ((ends_are w w' b s n h.rises h.covers own).rises k q);
            covers = rw (start_is w w' b s n h.rises h.covers own (many_of w b s (suc n)) (omega arith)) (omega (arith, (ends_are w w' b s n h.rises h.covers own).covers));
            as_many = refl;
            child_rule = kid.obeys;
          };
    }
  where
    own : AllFit (needs 7 (half w') (ends_of w b s (suc n)))
    own = all_left (needs 7 (half w') (ends_of w b s (suc n))) (numbers_of (numbers_in d) b.values (first_of w b s (suc n)) (many_of w b s (suc n))) fit

    kid : Node t t' d b.values (first_of w b s (suc n)) (many_of w b s (suc n))
    kid =
        node t t' d made b.values h.child_rule (first_of w b s (suc n)) (many_of w b s (suc n)) (omega (arith, h.as_many, runs_in_lem w w' b s n h.rises h.covers own))
        (all_right (needs 7 (half w') (ends_of w b s (suc n))) (numbers_of (numbers_in d) b.values (first_of w b s (suc n)) (many_of w b s (suc n))) fit)
