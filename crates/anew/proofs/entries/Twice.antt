-- Reclaiming twice gives what once gives. Assumes nothing.
use mathlib.Core.Path.{◌≡◌, refl, sym, ap, ap₂, ◌∙◌}
use mathlib.Core.Bool.{Bool, true, false, cond}
use mathlib.Core.Option.{some}
use mathlib.Core.List.{List, []}
use Prim.Native.Nat.{ℕ, ◌≤◌, ◌<◌}
use native.Mathlib.Nat.{zero-add}
use native.Mathlib.Omega.{arith}
use lib.ListN.{length}
use Rattle.columnar.specs.Row.{seg}
use Rattle.columnar.specs.Types.{Number, width, Plain, t_dictionary}
use Rattle.columnar.specs.Formed.{FormedPlain}
use Rattle.columnar.specs.Array.{Array}
use Rattle.columnar.specs.Entries.{encodes}
use Rattle.columnar.specs.Plain.{PlainBody}
use Rattle.columnar.specs.Reading.{Column, Source}
use Rattle.columnar.proofs.Kept.{seg_same}
use Rattle.model.specs.Mutable.{validity}
use Rattle.model.proofs.Bits.{length_seg}
use Rattle.anew.specs.runs.Runs.{ok_at, those}
use Rattle.anew.specs.entries.Used.{key_at, used, rank, kept}
use Rattle.anew.specs.entries.Reclaimed.{new_key, reclaimed}
use Rattle.anew.proofs.entries.Ranks.{named_used, all_those, kept_rank}
use Rattle.anew.proofs.entries.Copies.{chosen}
use Rattle.anew.proofs.entries.Chosen.{chosen_again}
use Rattle.anew.proofs.entries.Reclaim.{kept_inside, kept_holds, values_are, entries_are, key_below, new_ok, valid_key, reclaimed_source}

module _ (k : Number) (p : Plain) (x : Column (t_dictionary k p)) (g : FormedPlain p) (s : Source (t_dictionary k p) x) where
  abbrev once : Column (t_dictionary k p)
  once = reclaimed k p x

  abbrev count : ℕ
  count = length (kept k x)

  -- every entry is in use
  all_used : (e : ℕ) → e < count → used k once e ≡ true
  all_used e q =
      let z = (entries_are k p x g s).is_key e q in
      ap (used k once) (sym (valid_key k p x g s z.row z.below z.valid ∙ ap (rank k x) z.names_it ∙ kept_rank k x e q))
      ∙ named_used k once z.row z.below (new_ok k p x g s z.row z.below ∙ z.valid)

  all_below_lem : (n : ℕ) → n ≤ count → those (used k once) 0 n ≡ seg (λ i. i) 0 n
  all_below_lem n h = all_those (used k once) n 0 (λ j q. ap (used k once) (zero-add j) ∙ all_used j (omega arith))

  -- all are kept, at their places
  kept_again : kept k once ≡ seg (λ i. i) 0 count
  kept_again = ap (those (used k once) 0) (entries_are k p x g s).count ∙ all_below_lem count (omega arith)

  rank_again : (e : ℕ) → e < count → rank k once e ≡ e
  rank_again e q = ap length (all_below_lem e (omega arith)) ∙ length_seg (λ i. i) 0 e

  key_again : (i : ℕ) → i < x.len → new_key k p once i ≡ new_key k p x i
  key_again i q = ap (λ b. cond b (rank k once (key_at k once i)) 0) (new_ok k p x g s i q) ∙ go (ok_at x i) refl
    where
      go : (b : Bool) → ok_at x i ≡ b → cond b (rank k once (key_at k once i)) 0 ≡ cond b (rank k x (key_at k x i)) 0
      go true e = let v = valid_key k p x g s i q e in ap (rank k once) v ∙ rank_again (rank k x (key_at k x i)) (key_below k p x g s i q e)
      go false e = refl

  values_again : (reclaimed k p once).body.values ≡ once.body.values
  values_again =
      values_are k p once g (reclaimed_source k p x g s)
      ∙ ap₂ (chosen p) (values_are k p x g s) kept_again
      ∙ chosen_again p x.body.values (kept k x) (kept_inside k p x g s) (kept_holds k p x g s)
      ∙ sym (values_are k p x g s)

  -- a column of these bits, keys and entries
  abbrev made : List Bool → List ℕ → Array (PlainBody p) → Column (t_dictionary k p)
  made vs ks values =
      record { len = x.len; off = 0; valid = validity true (some vs); body = record { keys = encodes (width k) ks; values = values; starts = [] } }

  -- DOING IT TWICE GIVES WHAT ONCE GIVES
  pub twice : reclaimed k p (reclaimed k p x) ≡ reclaimed k p x
  twice =
      let vs : seg (ok_at once) 0 x.len ≡ seg (ok_at x) 0 x.len = seg_same (ok_at once) (ok_at x) 0 x.len (λ i q. rw (zero-add i) (new_ok k p x g s i q)) in
      let ks : seg (new_key k p once) 0 x.len ≡ seg (new_key k p x) 0 x.len = seg_same (new_key k p once) (new_key k p x) 0 x.len (λ i q. rw (zero-add i) (key_again i q)) in
      ap₂ (λ b c. made b c (reclaimed k p once).body.values) vs ks ∙ ap (made (seg (ok_at x) 0 x.len) (seg (new_key k p x) 0 x.len)) values_again
