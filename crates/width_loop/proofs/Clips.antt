-- The run ends of a run-end node as the code writes them. Assumes nothing.
use mathlib.Core.Path.{◌≡◌, refl, sym, ap, ap₂, subst, ◌∙◌}
use mathlib.Core.Bool.{Bool, true, false, not, cond}
use mathlib.Core.List.{List, [], ◌∷◌, ◌++◌}
use Prim.Native.Nat.{ℕ, zero, suc, ◌+◌, ◌*◌, ◌-◌, ◌<◌, ◌≤◌, min}
use native.Mathlib.Nat.{mul_comm, mul-add, add_assoc, mul-le-mul_right}
use native.Mathlib.Numerals.{add-one}
use native.Mathlib.Omega.{arith}
use lib.ListN.{length, get_or}
use lib.Dec.{ltb, eqb}
use borrow.Author.Tests.{eqb-true, eqb-false}
use Rattle.number.specs.Number.{encode, entry}
use Rattle.number.proofs.Laws.{splice_nil}
use Rattle.run_ends.specs.Lookup.{found_run, runs_of}
use Rattle.std.specs.Prelude.{Option, Some, None}
use Rattle.run_ends.specs.declared.RunRange.{RunRange}
use Rattle.columnar.specs.Row.{seg}
use Rattle.columnar.specs.Types.{half}
use Rattle.columnar.specs.Entries.{encodes}
use Rattle.columnar.specs.RunEnd.{end_of}
use Rattle.columnar.proofs.Items.{entry_end}
use Rattle.array_data.specs.Tables.{Tables, place, length_of, offset_of, first_buffer, array_with}
use Rattle.array_data.specs.NodeKinds.{run_end_node}
use Rattle.array_data.specs.Typed.{Tree}
use Rattle.model.proofs.Ends.{First, Many, in_order_lem, last_run, clip_ends}
use Rattle.walk.specs.State.{add_rows}
use Rattle.walk.specs.Log.{Did, put, apply, apply_if, enter, done}
use Rattle.walk.proofs.Laws.{done_did, wrote_did, need_no, need_ok, next_ok}
use Rattle.refinement.proofs.walk_is_model.Parts.{part_entry}
use Rattle.refinement.proofs.walk_is_model.RunLookups.{runs_are}
use Rattle.recode.specs.Recode.{lessened}
use Rattle.anew.specs.widths.Converted.{first_of, many_of, ends_of}
use Rattle.width_walks.specs.Convert.{end_fits}
use Rattle.width_walks.specs.Nodes.{range, own_as}
use Rattle.width_walks.proofs.Bytes.{ends_are}
use Rattle.width_loop.specs.Steps.{runs_in, RunsHere, runs_walk, runs_range}
use Rattle.width_loop.proofs.Laws.{as_part, off_true, off_false}

module _ (x : Tables) (i w s n : ℕ) (h : RunsHere x i w s n) (some : 1 ≤ n) where
  abbrev old : ℕ → ℕ
  old = end_of w (array_with x (first_buffer x (suc i)) (suc i))

  abbrev len : ℕ
  len = length_of x (suc i)

  abbrev off : ℕ
  off = offset_of x (suc i)

  abbrev from : ℕ
  from = place x (suc i) 3 + w * offset_of x (suc i)

  end_is : (k : ℕ) → k < len → entry w x.body from k ≡ old k
  end_is k l =
      let z : (off + k) * w + w ≤ (off + len) * w = entry_end w {i = off + k} {n = off + len} (omega arith) in
      part_entry (as_part x.body (place x (suc i) 3) (place x (suc i) 4) h.inside) w off k (omega (arith, h.hold))

  found : runs_of (found_run w x.body from len (s + n)) s (s + n) ≡ Some (record { first = record { 0 = First old len s n }; count = Many old len s n })
  found = runs_are w x.body from len old s n end_is h.rises some h.covers

  first_is : first_of w (runs_in x i) s n ≡ First old len s n
  first_is = go n some
    where
      go : (m : ℕ) → 1 ≤ m → first_of w (runs_in x i) s m ≡ First old len s m
      go zero l = absurd (omega arith)
      go (suc m) l = refl

  many_is : many_of w (runs_in x i) s n ≡ Many old len s n
  many_is = go n some
    where
      go : (m : ℕ) → 1 ≤ m → many_of w (runs_in x i) s m ≡ Many old len s m
      go zero l = absurd (omega arith)
      go (suc m) l = refl

  pub some_runs : 1 ≤ Many old len s n
  some_runs = omega (arith, in_order_lem old len s n h.rises some h.covers)

  pub few_runs : First old len s n + Many old len s n ≤ len
  few_runs = omega (arith, in_order_lem old len s n h.rises some h.covers, last_run old len s n h.rises some h.covers)

  -- what the search answers
  same_range : {a b : ℕ} {r : RunRange} → Some r ≡ Some (record { first = record { 0 = a }; count = b }) → (r.first.0 ≡ a) × (r.count ≡ b)
  same_range {a} {b} {r} e = let z : r ≡ record { first = record { 0 = a }; count = b } = cc in (ap (λ (y : RunRange). y.first.0) z, ap (λ (y : RunRange). y.count) z)

  pub runs_found : {e l : ℕ} {r : Option RunRange} {a : RunRange} → e ≡ from → l ≡ len → r ≡ runs_of (found_run w x.body e l (s + n)) s (s + n) → r ≡ Some a → (a.first.0 ≡ First old len s n) × (a.count ≡ Many old len s n)
  runs_found {e} {l} p q f g = same_range (sym g ∙ f ∙ ap₂ (λ y z. runs_of (found_run w x.body y z (s + n)) s (s + n)) p q ∙ found)

  none_range : {a : RunRange} → None ≡ Some a → ⊥
  none_range e = let z : ◌≡◌ {A = ℕ} 0 1 = cc in omega arith

  pub runs_none : {e l : ℕ} {r : Option RunRange} → e ≡ from → l ≡ len → r ≡ runs_of (found_run w x.body e l (s + n)) s (s + n) → r ≡ None → ⊥
  runs_none {e} {l} p q f g = none_range (sym g ∙ f ∙ ap₂ (λ y z. runs_of (found_run w x.body y z (s + n)) s (s + n)) p q ∙ found)

  -- where they stand
  pub ends_in_lem : {e l : ℕ} → e ≡ from → l ≡ len → e + w * l ≤ length x.body
  ends_in_lem {e} {l} p q =
      let z : w * off + w * len ≡ (off + len) * w = sym (mul-add w off len) ∙ mul_comm w (off + len) in
      omega (arith, ap (λ y. w * y) q, h.inside, h.hold)

  pub range_in_lem : {e a m : ℕ} → e ≡ from → a ≡ First old len s n → m ≡ Many old len s n → e + w * (a + m) ≤ length x.body
  range_in_lem {e} {a} {m} p f g =
      let z : (a + m) * w ≤ len * w = mul-le-mul_right w (omega (arith, few_runs)) in
      omega (arith, ends_in_lem p refl, mul_comm w (a + m), mul_comm w len)

  module _ (small : (j : ℕ) → get_or x.body j 0 < 256) (low : w ≤ 8) (w2 : ℕ) where
    bytes_are : {e a m : ℕ} → e ≡ from → a ≡ First old len s n → m ≡ Many old len s n → lessened w w2 x.body (e + w * a) s (m - 1) ++ encode w2 n ≡ encodes w2 (ends_of w (runs_in x i) s n)
    bytes_are {e} {a} {m} p f g =
        let k : suc (m - 1) ≡ Many old len s n = omega (arith, some_runs) in
        let y : e + w * a ≡ place x (suc i) 3 + w * (off + a) = ap (λ z. z + w * a) p ∙ add_assoc (place x (suc i) 3) (w * off) (w * a) ∙ ap (λ z. place x (suc i) 3 + z) (sym (mul-add w off a)) in
        let u : (off + a + (m - 1)) * w ≤ (off + len) * w = mul-le-mul_right w (omega (arith, few_runs)) in
        ap (λ z. lessened w w2 x.body z s (m - 1) ++ encode w2 n) y
        ∙ ends_are (as_part x.body (place x (suc i) 3) (place x (suc i) 4) h.inside) small w w2 off a (m - 1) s n low (omega (arith, h.hold))
        (subst (λ z. Rattle.model.proofs.Ends.Ends (λ k. min (old (z + k)) (s + n) - s) (suc (m - 1)) n) (sym f) (subst (λ z. Rattle.model.proofs.Ends.Ends (λ k. min (old (First old len s n + k)) (s + n) - s) z n) (sym k) (clip_ends old len s n h.rises some h.covers)))
        ∙ ap₂ (λ y z. encodes w2 (seg (λ k. min (old k) (s + n) - s) y z)) (f ∙ sym first_is) (k ∙ sym many_is)

    pub runs_did : (plan parts : List ℕ) (write : Bool) (room c : List ℕ) {e a m : ℕ} {room2 c2 : List ℕ} → e ≡ from → a ≡ First old len s n → m ≡ Many old len s n
        → room2 ≡ apply_if plan parts write (put (suc i) 1 0 (lessened w w2 x.body (e + w * a) s (m - 1) ++ encode w2 n) ∷ []) room → c2 ≡ add_rows (suc i) m c
        → Did plan parts write (runs_walk x w w2 i s n c) room 0 c2 room2
    runs_did plan parts write room c {e} {a} {m} {room2} {c2} p f g q k =
        let v : c2 ≡ add_rows (suc i) (many_of w (runs_in x i) s n) c = k ∙ ap (λ z. add_rows (suc i) z c) (g ∙ sym many_is) in
        next_ok (λ c1. done (add_rows (suc i) (many_of w (runs_in x i) s n) c1))
        (wrote_did write (put (suc i) 1 0 (encodes w2 (ends_of w (runs_in x i) s n))) c room room2 (q ∙ ap (λ z. apply_if plan parts write (put (suc i) 1 0 z ∷ []) room) (bytes_are p f g))) refl
        (subst (λ y. Did plan parts write (done (add_rows (suc i) (many_of w (runs_in x i) s n) c)) room2 0 y room2) (sym v) (done_did write (add_rows (suc i) (many_of w (runs_in x i) s n) c) room2))

  pub range_is : (rs : List ℕ) {a m : ℕ} {out : List ℕ} → a ≡ First old len s n → m ≡ Many old len s n → out ≡ range (suc (suc i)) a m rs → out ≡ runs_range x w i s n rs
  range_is rs f g q = q ∙ ap₂ (λ y z. range (suc (suc i)) y z rs) (f ∙ sym first_is) (g ∙ sym many_is)

-- the values of a stretch are among them, no rows included
pub runs_within : (x : Tables) (i w s n : ℕ) → RunsHere x i w s n → first_of w (runs_in x i) s n + many_of w (runs_in x i) s n ≤ length_of x (suc i)
runs_within x i w s zero h = omega arith
runs_within x i w s (suc n) h = few_runs x i w s (suc n) h (omega arith)

-- ---- what the code looks up

pub add_two : (i : ℕ) → i + 2 ≡ suc (suc i)
add_two i = omega arith

pub above_zero : {n : ℕ} → (n ≡ 0 → ⊥) → 1 ≤ n
above_zero {n} h = go n h
  where
    go : (n : ℕ) → (n ≡ 0 → ⊥) → 1 ≤ n
    go zero h = absurd (h refl)
    go (suc n) h = omega arith

pub narrow : (w : ℕ) → ((w ≡ 2 → ⊥) → (w ≡ 4 → ⊥) → w ≡ 8) → w ≤ 8
narrow w h = go (eqb w 2) refl (eqb w 4) refl
  where
    go : (a : Bool) → eqb w 2 ≡ a → (b : Bool) → eqb w 4 ≡ b → w ≤ 8
    go true e b f = let z = eqb-true w 2 e in omega arith
    go false e true f = let z = eqb-true w 4 f in omega arith
    go false e false f = let z = h (eqb-false w 2 e) (eqb-false w 4 f) in omega arith

pub ends_as : (x : Tables) (i w : ℕ) {at o : ℕ} → at ≡ place x (i + 1) 3 → o ≡ offset_of x (i + 1) → at + w * o ≡ place x (suc i) 3 + w * offset_of x (suc i)
ends_as x i w e f = ap₂ (λ y z. y + w * z) (e ∙ ap (λ k. place x k 3) (add-one i)) (f ∙ ap (offset_of x) (add-one i))

pub len_as : (x : Tables) (i : ℕ) {l : ℕ} → l ≡ length_of x (i + 1) → l ≡ length_of x (suc i)
len_as x i e = e ∙ ap (length_of x) (add-one i)

-- ---- the node

-- a write of nothing
nothing : (plan parts : List ℕ) (write : Bool) (i b : ℕ) (room : List ℕ) → room ≡ apply_if plan parts write (put i b 0 [] ∷ []) room
unfolding apply_if apply enter
nothing plan parts true i b room = go (Rattle.walk.specs.Log.in_room (Rattle.walk.specs.Log.start_of plan parts i b) 0 0 (length room))
  where
    go : (t : Bool) → room ≡ cond t (Rattle.number.specs.Number.splice (Rattle.walk.specs.Log.start_of plan parts i b + 0) [] room) room
    go true = sym (splice_nil (Rattle.walk.specs.Log.start_of plan parts i b + 0) room)
    go false = refl
nothing plan parts false i b room = refl

module _ (plan parts : List ℕ) (write : Bool) (room : List ℕ) (x : Tables) (i w w2 s : ℕ) (c : List ℕ) (t t2 : Tree) (okay : ℕ → Bool) where
  pub no_runs : {n : ℕ} {c2 : List ℕ} → n ≡ 0 → c2 ≡ add_rows (i + 1) 0 c → Did plan parts write (own_as t t2 x plan (run_end_node w) (run_end_node w2) i okay s n c) room 0 c2 room
  no_runs {n} {c2} e k =
      let v : c2 ≡ add_rows (suc i) 0 c = k ∙ ap (λ z. add_rows z 0 c) (add-one i) in
      subst (λ z. Did plan parts write (own_as t t2 x plan (run_end_node w) (run_end_node w2) i okay s z c) room 0 c2 room) (sym e)
      (need_ok 7 c refl
      (next_ok (λ c1. done (add_rows (suc i) 0 c1)) (wrote_did write (put (suc i) 1 0 []) c room room (nothing plan parts write (suc i) 1 room)) refl
      (subst (λ y. Did plan parts write (done (add_rows (suc i) 0 c)) room 0 y room) (sym v) (done_did write (add_rows (suc i) 0 c) room))))

  fits_is : (n : ℕ) → (n ≡ 0 → ⊥) → end_fits (half w2) n ≡ ltb n (half w2)
  fits_is zero h = absurd (h refl)
  fits_is (suc n) h = refl

  told : {n : ℕ} {b : Bool} → (n ≡ 0 → ⊥) → b ≡ ltb (0 + n) (half w2) → b ≡ end_fits (half w2) n
  told {n} h f = f ∙ ap (λ z. ltb z (half w2)) (let e : 0 + n ≡ n = omega arith in e) ∙ sym (fits_is n h)

  pub runs_over_lem : {n : ℕ} {b : Bool} → (n ≡ 0 → ⊥) → b ≡ ltb (0 + n) (half w2) → not b ≡ true → Did plan parts write (own_as t t2 x plan (run_end_node w) (run_end_node w2) i okay s n c) room 7 c room
  runs_over_lem h f g = need_no _ (sym (told h f) ∙ off_true g)

  pub runs_yes : {n : ℕ} {b : Bool} {c2 room2 : List ℕ} → (n ≡ 0 → ⊥) → b ≡ ltb (0 + n) (half w2) → not b ≡ false → Did plan parts write (runs_walk x w w2 i s n c) room 0 c2 room2
      → Did plan parts write (own_as t t2 x plan (run_end_node w) (run_end_node w2) i okay s n c) room 0 c2 room2
  runs_yes h f g d = need_ok 7 c (sym (told h f) ∙ off_false g) d

pub no_range : (x : Tables) (i w s : ℕ) (rs : List ℕ) {n : ℕ} {out : List ℕ} → n ≡ 0 → out ≡ range (i + 2) 0 0 rs → out ≡ runs_range x w i s n rs
no_range x i w s rs {n} e g = g ∙ ap (λ k. range k 0 0 rs) (let z : i + 2 ≡ suc (suc i) = omega arith in z) ∙ ap (λ z. runs_range x w i s z rs) (sym e)
