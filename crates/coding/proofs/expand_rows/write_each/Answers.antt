-- `run_coding::expand::write_each` meets its contract: the rows before row r are written, and row r is one of run q. Assumes nothing.
use mathlib.Core.Path.{◌≡◌, refl, sym, ap, subst, ◌∙◌}
use mathlib.Core.Bool.{Bool, true, false}
use mathlib.Core.List.{List}
use Prim.Native.Nat.{ℕ, zero, suc, ◌+◌, ◌*◌, ◌-◌, ◌≤◌, ◌<◌, min}
use native.Mathlib.Numerals.{add-one}
use native.Mathlib.Omega.{arith}
use lib.ListN.{length}
use lib.Dec.{ltb}
use borrow.Author.Tests.{lt-ltb, le-ltb, ltb-true, ltb-false}
use Rattle.columnar.proofs.Items.{entry_end}
use Rattle.coding.specs.run_coding.Rows.{number_in, valid_in}
use Rattle.coding.specs.run_coding.Writes.{Ends, end_in, left, rows_written, rows_from}
use Rattle.coding.proofs.run_coding.Laws.{row_held, bit_held, fewer_hold}
use Rattle.coding.proofs.expand_rows.write_each.Invariants.{At}
use Rattle.coding.proofs.expand_rows.write_each.Goals as goal

module _ (body : List ℕ) (e ends run x m count : ℕ) (h : Ends body e ends run x m count) where
  -- the end of a run that is there
  end_held : (q : ℕ) → q < count → ends + q * e + e ≤ length body
  end_held q l = let z : q * e + e ≤ count * e = entry_end e l in omega (arith, h.holds)

  first_at : At body e ends x m count 0 run
  first_at = record { some_run = h.some_run; above = λ k. omega (arith, h.above k) }

  -- behind the rows of run q stand those of the next
  next_at_lem : (r q n : ℕ) → r < m → At body e ends x m count r q → n ≡ min (end_in body e ends q - (x + r)) (m - r) → At body e ends x m count (r + n) (q + 1)
  next_at_lem r q n l a en = record { some_run = more; above = rise }
    where
      n_is : r + n < m → n ≡ end_in body e ends q - (x + r)
      n_is k = omega (arith, en)

      more : r + n < m → q + 1 < count
      more k = go (ltb (q + 1) count) refl
        where
          go : (b : Bool) → ltb (q + 1) count ≡ b → q + 1 < count
          go true z = ltb-true (q + 1) count z
          go false z =
              let o = ltb-false (q + 1) count z in
              let p : suc q ≡ count = omega (arith, o, a.some_run l) in
              let g = h.covers q p in
              absurd (omega (arith, g, n_is k, a.above l))

      rise : r + n < m → x + (r + n) < end_in body e ends (q + 1)
      rise k =
          let s = h.rises q (omega (arith, more k)) in
          let z : end_in body e ends (q + 1) ≡ end_in body e ends (suc q) = ap (end_in body e ends) (add-one q) in
          omega (arith, z, s, n_is k, a.above l)

module _ (body : List ℕ) (w : ℕ) (masked : Bool) (start mask bit e ends x m values goal : ℕ) where
  abbrev from : ℕ → ℕ → ℕ → List ℕ → List ℕ
  from = rows_from body w masked start mask bit e ends x m values goal

  none_left : (f r q : ℕ) (room : List ℕ) → m ≤ r → from f r q room ≡ room
  unfolding rows_from
  none_left zero r q room h = refl
  none_left (suc f) r q room h = rw (le-ltb r m h) refl

  -- a run more
  step : (f g r q n : ℕ) (room : List ℕ) {valid : Bool} {v : ℕ} {room1 : List ℕ} → 0 < f → f - 1 ≡ g → r < m → n ≡ left body w masked start mask bit e ends x m values goal r q → valid ≡ valid_in body masked mask bit q → v ≡ number_in body w start q
      → room1 ≡ rows_written w masked values goal r n valid v room → from f r q room ≡ from g (r + n) (q + 1) room1
  unfolding rows_from
  step zero g r q n room o eg l en ea ev er = absurd (omega arith)
  step (suc f) g r q n room o eg l en ea ev er =
      let z : g ≡ f = omega (arith, eg) in
      rw (lt-ltb r m l) (sym (rw (er, ea, ev, en, z, add-one q) refl))

  -- .. up to row u
  step_to : (f g r q n u : ℕ) (room : List ℕ) {valid : Bool} {v : ℕ} {room1 : List ℕ} → r + n ≡ u → 0 < f → f - 1 ≡ g → r < m → n ≡ left body w masked start mask bit e ends x m values goal r q → valid ≡ valid_in body masked mask bit q → v ≡ number_in body w start q
      → room1 ≡ rows_written w masked values goal r n valid v room → from f r q room ≡ from g u (q + 1) room1
  step_to f g r q n u room {valid} {v} {room1} z o eg l en ea ev er = step f g r q n room o eg l en ea ev er ∙ ap (λ y. from g y (q + 1) room1) z

few_runs : (q run r n m x y : ℕ) → r < m → x + r < y → q ≤ run + r → n ≡ min (y - (x + r)) (m - r) → q + 1 ≤ run + (r + n)
few_runs q run r n m x y h a l e = omega arith

some_fuel : (m q run r : ℕ) → r < m → q ≤ run + r → 0 < m - (q - run)
some_fuel m q run r h l = omega arith

one_less : (m q run : ℕ) → run ≤ q → (m - (q - run)) - 1 ≡ m - (q + 1 - run)
one_less m q run h = omega arith

-- the rows up to the end of a run, less those before it
rest_of : (x m r y k : ℕ) → r < m → x + r < y → k ≡ min (y - x) m → (k - r ≡ min (y - (x + r)) (m - r)) × (r < k) × (k ≤ m)
rest_of x m r y k l a e = (omega arith, omega arith, omega arith)

pub loop-r-init : goal.loop-r-init
loop-r-init g c =
    let z = c.args in
    let k : z.m ≡ z.m - (z.run - z.run) = omega arith in
    (omega arith, omega arith, omega arith, refl, first_at z.body.now z.e z.ends z.run z.x z.m z.count c.requires.ends.0, ap (λ f. from z.body.now g.N.Unsigned.SIZE z.masked z.s.start z.s.mask z.s.bit z.e z.ends z.x z.m z.t.values z.t.mask f 0 z.run z.room.now) k)

pub overflow_mul-q : goal.overflow_mul-q
overflow_mul-q g c = let k = (let fact : c.loop-r.r < c.args.m → c.args.ends + c.loop-r.q * c.args.e + c.args.e ≤ length c.args.body.now = λ l₁. let z = c.args in end_held z.body.now z.e z.ends z.run z.x z.m z.count c.requires.ends.0 c.loop-r.q (c.loop-r.invariant.4.some_run l₁) in fact) c.loop-r-test.true in omega (arith, k)

pub overflow_add-ends : goal.overflow_add-ends
overflow_add-ends g c = let k = (let fact : c.loop-r.r < c.args.m → c.args.ends + c.loop-r.q * c.args.e + c.args.e ≤ length c.args.body.now = λ l₁. let z = c.args in end_held z.body.now z.e z.ends z.run z.x z.m z.count c.requires.ends.0 c.loop-r.q (c.loop-r.invariant.4.some_run l₁) in fact) c.loop-r-test.true in omega (arith, k)

pub read_pattern-end-requires : goal.read_pattern-end-requires
read_pattern-end-requires g c = (c.requires.ends.0.sized, (let fact : c.loop-r.r < c.args.m → c.args.ends + c.loop-r.q * c.args.e + c.args.e ≤ length c.args.body.now = λ l₁. let z = c.args in end_held z.body.now z.e z.ends z.run z.x z.m z.count c.requires.ends.0 c.loop-r.q (c.loop-r.invariant.4.some_run l₁) in fact) c.loop-r-test.true)

pub overflow_sub-end : goal.overflow_sub-end
overflow_sub-end g c = omega (arith, c.loop-r.invariant.4.above c.loop-r-test.true, c.read_pattern-end.ensures)

pub overflow_sub-n : goal.overflow_sub-n
overflow_sub-n g c = omega (arith, ((let fact : (c.min-next.result - c.loop-r.r ≡ min (end_in c.args.body.now c.args.e c.args.ends c.loop-r.q - (c.args.x + c.loop-r.r)) (c.args.m - c.loop-r.r)) × (c.loop-r.r < c.min-next.result) × (c.min-next.result ≤ c.args.m) = rest_of c.args.x c.args.m c.loop-r.r (end_in c.args.body.now c.args.e c.args.ends c.loop-r.q) c.min-next.result c.loop-r-test.true (c.loop-r.invariant.4.above c.loop-r-test.true) (c.min-next.ensures ∙ ap (λ k. min (k - c.args.x) c.args.m) c.read_pattern-end.ensures) in fact)).1)

pub is_valid-valid-requires : goal.is_valid-valid-requires
is_valid-valid-requires g c = bit_held c.args.body.now g.N.Unsigned.SIZE c.args.masked c.args.s.start c.args.s.mask c.args.s.bit c.args.count c.requires.ends.1 c.loop-r.q (c.loop-r.invariant.4.some_run c.loop-r-test.true)

pub number_at-v-requires : goal.number_at-v-requires
number_at-v-requires g c = (row_held c.args.body.now g.N.Unsigned.SIZE c.args.masked c.args.s.start c.args.s.mask c.args.s.bit c.args.count c.requires.ends.1 c.loop-r.q (c.loop-r.invariant.4.some_run c.loop-r-test.true))

pub write_run-requires : goal.write_run-requires
write_run-requires g c =
    let n = (let fact : (c.min-next.result - c.loop-r.r ≡ min (end_in c.args.body.now c.args.e c.args.ends c.loop-r.q - (c.args.x + c.loop-r.r)) (c.args.m - c.loop-r.r)) × (c.loop-r.r < c.min-next.result) × (c.min-next.result ≤ c.args.m) = rest_of c.args.x c.args.m c.loop-r.r (end_in c.args.body.now c.args.e c.args.ends c.loop-r.q) c.min-next.result c.loop-r-test.true (c.loop-r.invariant.4.above c.loop-r-test.true) (c.min-next.ensures ∙ ap (λ k. min (k - c.args.x) c.args.m) c.read_pattern-end.ensures) in fact) in
    let k : c.loop-r.r + (c.min-next.result - c.loop-r.r) ≤ c.args.m = omega (arith, n.1, n.2) in
    (rw c.loop-r.invariant.3 (fewer_hold g.N.Unsigned.SIZE c.args.masked c.args.t.values c.args.t.mask (length c.args.room.now) c.args.m (c.loop-r.r + (c.min-next.result - c.loop-r.r)) c.requires.holds k))

pub overflow_add-q : goal.overflow_add-q
overflow_add-q g c = omega (arith, c.loop-r.invariant.4.some_run c.loop-r-test.true)

pub loop-r-smaller : goal.loop-r-smaller
loop-r-smaller g c = let n = (let fact : (c.min-next.result - c.loop-r.r ≡ min (end_in c.args.body.now c.args.e c.args.ends c.loop-r.q - (c.args.x + c.loop-r.r)) (c.args.m - c.loop-r.r)) × (c.loop-r.r < c.min-next.result) × (c.min-next.result ≤ c.args.m) = rest_of c.args.x c.args.m c.loop-r.r (end_in c.args.body.now c.args.e c.args.ends c.loop-r.q) c.min-next.result c.loop-r-test.true (c.loop-r.invariant.4.above c.loop-r-test.true) (c.min-next.ensures ∙ ap (λ k. min (k - c.args.x) c.args.m) c.read_pattern-end.ensures) in fact) in omega (arith, n.1, n.2)

pub loop-r-preserved : goal.loop-r-preserved
loop-r-preserved g c =
    let z = c.args in
    let l = c.loop-r in
    let k = c.loop-r-test.true in
    let u = c.min-next.result in
    let n = (let fact : (c.min-next.result - c.loop-r.r ≡ min (end_in c.args.body.now c.args.e c.args.ends c.loop-r.q - (c.args.x + c.loop-r.r)) (c.args.m - c.loop-r.r)) × (c.loop-r.r < c.min-next.result) × (c.min-next.result ≤ c.args.m) = rest_of c.args.x c.args.m c.loop-r.r (end_in c.args.body.now c.args.e c.args.ends c.loop-r.q) c.min-next.result c.loop-r-test.true (c.loop-r.invariant.4.above c.loop-r-test.true) (c.min-next.ensures ∙ ap (λ k. min (k - c.args.x) c.args.m) c.read_pattern-end.ensures) in fact) in
    let a = l.invariant.4.above k in
    let f = one_less z.m l.q z.run l.invariant.1 in
    let v : l.r + (u - l.r) ≡ u = omega (arith, n.1) in (
      n.2,
      omega (arith, l.invariant.1),
      omega (arith, few_runs l.q z.run l.r (u - l.r) z.m z.x _ k a l.invariant.2 n.0, v),
      omega (arith, l.invariant.3),
      subst (λ y. At z.body.now z.e z.ends z.x z.m z.count y (l.q + 1)) v (next_at_lem z.body.now z.e z.ends z.run z.x z.m z.count c.requires.ends.0 l.r l.q (u - l.r) k l.invariant.4 n.0),
      l.invariant.5
          ∙ step_to z.body.now g.N.Unsigned.SIZE z.masked z.s.start z.s.mask z.s.bit z.e z.ends z.x z.m z.t.values z.t.mask (z.m - (l.q - z.run)) (z.m - (l.q + 1 - z.run)) l.r l.q (u - l.r) u l.room v (some_fuel z.m l.q z.run l.r k l.invariant.2) f k n.0 c.is_valid-valid.ensures c.number_at-v.ensures c.write_run.ensures,
    )

pub shape_of-room : goal.shape_of-room
shape_of-room g c = omega (arith, c.loop-r.invariant.3)

pub returns : goal.returns
returns g c =
    let z = c.args in
    let l = c.loop-r in
    sym (l.invariant.5 ∙ none_left z.body.now g.N.Unsigned.SIZE z.masked z.s.start z.s.mask z.s.bit z.e z.ends z.x z.m z.t.values z.t.mask (z.m - (l.q - z.run)) l.r l.q l.room (omega (arith, c.loop-r-test.false)))
