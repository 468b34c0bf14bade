-- `run_coding::encode::count_changes` meets its contract: k rows before row r - 1 read otherwise than the next. Assumes nothing.
use mathlib.Core.Path.{◌≡◌, refl, sym, ap, ◌∙◌}
use mathlib.Core.Logic.{⊎_elim}
use mathlib.Core.Bool.{Bool, true, false, not}
use mathlib.Core.List.{List}
use Prim.Native.Nat.{ℕ, zero, suc, ◌+◌, ◌-◌, ◌≤◌}
use native.Mathlib.Omega.{arith}
use lib.ListN.{length}
use lib.Dec.{eqb}
use Rattle.anew.specs.runs.Runs.{alike, those}
use Rattle.coding.specs.run_coding.Rows.{number_in, valid_in, change_in}
use Rattle.coding.proofs.run_coding.Laws.{row_held, bit_held, change_is, count_more, count_same}
use Rattle.coding.proofs.encode_rows.count_changes.Goals as goal

module _ (body : List ℕ) (w : ℕ) (masked : Bool) (start mask bit : ℕ) where
  abbrev count : ℕ → ℕ
  count n = length (those (change_in body w masked start mask bit) 0 n)

  -- one row further
  further : (r k : ℕ) {a b t : Bool} {x y : ℕ} → 1 ≤ r → a ≡ valid_in body masked mask bit (r - 1) → b ≡ valid_in body masked mask bit r → x ≡ number_in body w start (r - 1) → y ≡ number_in body w start r
      → t ≡ not (alike a b (eqb x y)) → k ≡ count (r - 1) → (t ≡ true → k + 1 ≡ count (r + 1 - 1)) × (t ≡ false → k ≡ count (r + 1 - 1))
  further zero k h ea eb ex ey et ek = absurd (omega arith)
  further (suc q) k h ea eb ex ey et ek =
      let g : suc q - 1 ≡ q = omega arith in
      let f : suc q + 1 - 1 ≡ suc q = omega arith in
      let d = change_is body w masked start mask bit q (ea ∙ ap (valid_in body masked mask bit) g) eb (ex ∙ ap (number_in body w start) g) ey et in (
        λ e. ap (λ z. z + 1) (ek ∙ ap count g) ∙ sym (count_more (change_in body w masked start mask bit) q (d ∙ e)) ∙ ap count (sym f),
        λ e. ek ∙ ap count g ∙ ap length (sym (count_same (change_in body w masked start mask bit) q (d ∙ e))) ∙ ap count (sym f),
      )

  valid_next : (r : ℕ) {b : Bool} → b ≡ valid_in body masked mask bit r → b ≡ valid_in body masked mask bit (r + 1 - 1)
  valid_next r e = e ∙ ap (valid_in body masked mask bit) (let z : r ≡ r + 1 - 1 = omega arith in z)

pub is_valid-a-requires : goal.is_valid-a-requires
is_valid-a-requires g c = let z = c.args in bit_held z.body.now g.N.Unsigned.SIZE z.masked z.s.start z.s.mask z.s.bit z.m c.requires.1 0 c.requires.0

pub loop-r-init : goal.loop-r-init
loop-r-init g c = (omega arith, c.is_valid-a.ensures, refl)

pub is_valid-b-requires : goal.is_valid-b-requires
is_valid-b-requires g c =
    let z = c.args in
    bit_held z.body.now g.N.Unsigned.SIZE z.masked z.s.start z.s.mask z.s.bit z.m c.requires.1 c.loop-r.r c.loop-r-test.true

pub number_at-x-requires : goal.number_at-x-requires
number_at-x-requires g c =
    let z = c.args in
    row_held z.body.now g.N.Unsigned.SIZE z.masked z.s.start z.s.mask z.s.bit z.m c.requires.1 (c.loop-r.r - 1) (omega (arith, c.loop-r-test.true))

pub number_at-y-requires : goal.number_at-y-requires
number_at-y-requires g c =
    let z = c.args in
    row_held z.body.now g.N.Unsigned.SIZE z.masked z.s.start z.s.mask z.s.bit z.m c.requires.1 c.loop-r.r c.loop-r-test.true

pub overflow_add-k : goal.overflow_add-k
overflow_add-k g c = omega (arith, c.loop-r.invariant.0)

pub loop-r-preserved : goal.loop-r-preserved
loop-r-preserved g c =
    let l = c.loop-r in
    let z = c.args in
    let f = further z.body.now g.N.Unsigned.SIZE z.masked z.s.start z.s.mask z.s.bit l.r l.k (omega arith) l.invariant.1 c.is_valid-b.ensures c.number_at-x.ensures c.number_at-y.ensures c.is_change.ensures l.invariant.2 in
    let v = valid_next z.body.now g.N.Unsigned.SIZE z.masked z.s.start z.s.mask z.s.bit l.r c.is_valid-b.ensures in
    ⊎_elim
    (λ q. (omega (arith, q.k-is, l.invariant.0), v, q.k-is ∙ f.0 q.if-is_change.true))
    (λ q. (omega (arith, q.k-is, l.invariant.0), v, q.k-is ∙ f.1 q.if-is_change.false))
    c.if-is_change.branch-raw

pub returns : goal.returns
returns g c =
    let l = c.loop-r in
    let z = c.args in
    let e : l.r ≡ z.m = omega (arith, c.requires.0) in
    l.invariant.2 ∙ ap (λ n. count z.body.now g.N.Unsigned.SIZE z.masked z.s.start z.s.mask z.s.bit (n - 1)) e
