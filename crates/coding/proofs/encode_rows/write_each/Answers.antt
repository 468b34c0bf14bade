-- `run_coding::encode::write_each` meets its contract: the runs that end before row r are written. Assumes nothing.
use mathlib.Core.Path.{◌≡◌, refl, sym, ap, subst, ◌∙◌}
use mathlib.Core.Logic.{⊎_elim}
use mathlib.Core.Bool.{Bool, true, false}
use mathlib.Core.List.{List, [], ◌∷◌, ◌++◌}
use Prim.Native.Nat.{ℕ, ◌+◌, ◌-◌, ◌<◌}
use native.Mathlib.Nat.{zero-add}
use native.Mathlib.Numerals.{add-one}
use native.Mathlib.Omega.{arith}
use lib.ListN.{length}
use Rattle.anew.specs.runs.Runs.{those}
use Rattle.coding.specs.run_coding.Rows.{number_in, valid_in, change_in, last_rows}
use Rattle.coding.specs.run_coding.Writes.{Fits, run_written, runs_written}
use Rattle.coding.proofs.run_coding.Laws.{row_held, bit_held, change_is, count_more, count_same, those_more, those_grow, last_rows_lem, last_count, fewer_fit, runs_none, runs_more}
use Rattle.coding.proofs.encode_rows.write_each.Goals as goal

module _ (body : List ℕ) (w : ℕ) (masked : Bool) (start mask bit : ℕ) where
  abbrev before : ℕ → List ℕ
  before r = those (change_in body w masked start mask bit) 0 r

  -- a run more is one of those that fit
  one_fits : (e ends values goal size m k r : ℕ) → r < m → k ≡ length (before r) → Fits w masked e ends values goal size (length (last_rows body w masked start mask bit m))
      → Fits w masked e ends values goal size (k + 1)
  one_fits e ends values goal size m k r l ek f =
      let g = those_grow (change_in body w masked start mask bit) r (m - 1) (omega arith) in
      let d = last_count body w masked start mask bit m (omega arith) in
      fewer_fit w masked e ends values goal size (length (last_rows body w masked start mask bit m)) k f (omega (arith, g, d, ek))

  -- with the last run they are all
  all_counted : (k r m : ℕ) → r + 1 ≡ m → k ≡ length (before r) → k + 1 ≡ length (last_rows body w masked start mask bit m)
  all_counted k r m em ek =
      let f : m - 1 ≡ r = omega arith in
      let d = last_count body w masked start mask bit m (omega arith) in
      let g : length (before (m - 1)) ≡ length (before r) = ap (λ n. length (before n)) f in
      omega (arith, d, g, ek)

  module _ (e ends values goal : ℕ) (room : List ℕ) where
    abbrev written : List ℕ → List ℕ
    written rs = runs_written body w masked start mask bit e ends values goal 0 rs room

    abbrev put : ℕ → ℕ → Bool → ℕ → List ℕ → List ℕ
    put k r a x = run_written w masked e ends values goal k r a x

    -- the run that ends behind row r
    wrote : (k r : ℕ) {a : Bool} {x : ℕ} {room1 room2 : List ℕ} → k ≡ length (before r) → a ≡ valid_in body masked mask bit r → x ≡ number_in body w start r → room1 ≡ written (before r)
        → room2 ≡ put k r a x room1 → room2 ≡ written (before r ++ (r ∷ []))
    wrote k r ek ea ex er h =
        h ∙ rw (ea, ex, er, ek) (sym (runs_more body w masked start mask bit e ends values goal 0 (before r) r room ∙ ap (λ z. put z r (valid_in body masked mask bit r) (number_in body w start r) (written (before r))) (zero-add (length (before r)))))

    step_yes : (k r : ℕ) {a : Bool} {x : ℕ} {room1 room2 : List ℕ} → change_in body w masked start mask bit r ≡ true → k ≡ length (before r) → a ≡ valid_in body masked mask bit r → x ≡ number_in body w start r
        → room1 ≡ written (before r) → room2 ≡ put k r a x room1 → (k + 1 ≡ length (before (r + 1))) × (room2 ≡ written (before (r + 1)))
    step_yes k r d ek ea ex er h = (
      ap (λ z. z + 1) ek ∙ sym (count_more (change_in body w masked start mask bit) r d) ∙ ap (λ n. length (before n)) (sym (add-one r)),
      wrote k r ek ea ex er h ∙ ap written (sym (those_more (change_in body w masked start mask bit) r true d)) ∙ ap (λ n. written (before n)) (sym (add-one r)),
    )

    step_no : (k r : ℕ) {room1 : List ℕ} → change_in body w masked start mask bit r ≡ false → k ≡ length (before r) → room1 ≡ written (before r)
        → (k ≡ length (before (r + 1))) × (room1 ≡ written (before (r + 1)))
    step_no k r d ek er = (
      ek ∙ ap length (sym (count_same (change_in body w masked start mask bit) r d)) ∙ ap (λ n. length (before n)) (sym (add-one r)),
      er ∙ ap written (sym (count_same (change_in body w masked start mask bit) r d)) ∙ ap (λ n. written (before n)) (sym (add-one r)),
    )

    ended : (k r m : ℕ) {a : Bool} {x : ℕ} {room1 room2 : List ℕ} → r + 1 ≡ m → k ≡ length (before r) → a ≡ valid_in body masked mask bit r → x ≡ number_in body w start r → room1 ≡ written (before r)
        → room2 ≡ put k r a x room1 → room2 ≡ written (last_rows body w masked start mask bit m)
    ended k r m em ek ea ex er h = wrote k r ek ea ex er h ∙ ap written (sym (last_rows_lem body w masked start mask bit r)) ∙ ap (λ n. written (last_rows body w masked start mask bit n)) (sym (add-one r) ∙ em)

pub is_valid-a-requires : goal.is_valid-a-requires
is_valid-a-requires g c = let z = c.args in bit_held z.body.now g.N.Unsigned.SIZE z.masked z.s.start z.s.mask z.s.bit z.m c.requires.le_m.3 0 c.requires.le_m.0

pub number_at-x-requires : goal.number_at-x-requires
number_at-x-requires g c =
    let z = c.args in
    row_held z.body.now g.N.Unsigned.SIZE z.masked z.s.start z.s.mask z.s.bit z.m c.requires.le_m.3 0 c.requires.le_m.0

pub loop-r-init : goal.loop-r-init
loop-r-init g c =
    let z = c.args in
    (omega arith, c.is_valid-a.ensures, c.number_at-x.ensures, refl, sym (runs_none z.body.now g.N.Unsigned.SIZE z.masked z.s.start z.s.mask z.s.bit z.e z.t.ends z.t.values z.t.mask z.room.now))

pub is_valid-b-requires : goal.is_valid-b-requires
is_valid-b-requires g c =
    let z = c.args in
    bit_held z.body.now g.N.Unsigned.SIZE z.masked z.s.start z.s.mask z.s.bit z.m c.requires.le_m.3 (c.loop-r.r + 1) (omega arith)

pub number_at-y-requires : goal.number_at-y-requires
number_at-y-requires g c =
    let z = c.args in
    row_held z.body.now g.N.Unsigned.SIZE z.masked z.s.start z.s.mask z.s.bit z.m c.requires.le_m.3 (c.loop-r.r + 1) (omega arith)

pub write_run-requires : goal.write_run-requires
write_run-requires g c =
    let z = c.args in
    let l = c.loop-r in
    let f = one_fits z.body.now g.N.Unsigned.SIZE z.masked z.s.start z.s.mask z.s.bit z.e z.t.ends z.t.values z.t.mask (length z.room.now) z.m l.k l.r (omega arith) l.invariant.3 c.requires.fits in
    (c.requires.le_m.2, rw c.loop-r.auto.room f, omega arith)

pub loop-r-preserved : goal.loop-r-preserved
loop-r-preserved g c =
    let z = c.args in
    let l = c.loop-r in
    let d = change_is z.body.now g.N.Unsigned.SIZE z.masked z.s.start z.s.mask z.s.bit l.r l.invariant.1 (c.is_valid-b.ensures ∙ ap (valid_in z.body.now z.masked z.s.mask z.s.bit) (add-one l.r)) l.invariant.2 (c.number_at-y.ensures ∙ ap (number_in z.body.now g.N.Unsigned.SIZE z.s.start) (add-one l.r)) c.is_change.ensures in
    ⊎_elim
    (λ q.
    let f = step_yes z.body.now g.N.Unsigned.SIZE z.masked z.s.start z.s.mask z.s.bit z.e z.t.ends z.t.values z.t.mask z.room.now l.k l.r (d ∙ q.if-is_change.true) l.invariant.3 l.invariant.1 l.invariant.2 l.invariant.4 q.write_run.ensures in
    (omega (arith, q.k-is, l.invariant.0), c.is_valid-b.ensures, c.number_at-y.ensures, q.k-is ∙ f.0, q.room-is ∙ f.1))
    (λ q.
    let f = step_no z.body.now g.N.Unsigned.SIZE z.masked z.s.start z.s.mask z.s.bit z.e z.t.ends z.t.values z.t.mask z.room.now l.k l.r (d ∙ q.if-is_change.false) l.invariant.3 l.invariant.4 in
    (omega (arith, q.k-is, l.invariant.0), c.is_valid-b.ensures, c.number_at-y.ensures, q.k-is ∙ f.0, q.room-is ∙ f.1))
    c.if-is_change.branch-raw

pub write_run-requires-2 : goal.write_run-requires-2
write_run-requires-2 g c =
    let z = c.args in
    let l = c.loop-r in
    let f = one_fits z.body.now g.N.Unsigned.SIZE z.masked z.s.start z.s.mask z.s.bit z.e z.t.ends z.t.values z.t.mask (length z.room.now) z.m l.k l.r (omega arith) l.invariant.3 c.requires.fits in
    (c.requires.le_m.2, rw c.loop-r.auto.room f, omega arith)

pub overflow_add-result : goal.overflow_add-result
overflow_add-result g c = let l = c.loop-r in omega arith

pub returns : goal.returns
returns g c =
    let z = c.args in
    let l = c.loop-r in
    let e : z.m - 1 ≡ l.r = omega arith in
    let q : l.r + 1 ≡ z.m = omega arith in
    let h = subst (λ r. c.write_run-2.new.room ≡ run_written g.N.Unsigned.SIZE z.masked z.e z.t.ends z.t.values z.t.mask l.k r l.a l.x l.room) e c.write_run-2.ensures in record {
      room_value = ended z.body.now g.N.Unsigned.SIZE z.masked z.s.start z.s.mask z.s.bit z.e z.t.ends z.t.values z.t.mask z.room.now l.k l.r z.m q l.invariant.3 l.invariant.1 l.invariant.2 l.invariant.4 h;
      value = all_counted z.body.now g.N.Unsigned.SIZE z.masked z.s.start z.s.mask z.s.bit l.k l.r z.m q l.invariant.3;
    }
