-- `sharing::all_share` meets its contract. The invariant: the sources up to s share. Assumes nothing.
use Prim.Native.Nat.{ℕ, suc, ◌+◌, ◌-◌}
use mathlib.Core.Path.{◌≡◌, sym, subst}
use mathlib.Core.Bool.{true}
use Rattle.model.specs.Opening.{shared}
use native.Mathlib.Omega.{arith}
use Rattle.array_data.specs.lent_tables.Lent.{tables}
use Rattle.array_data.proofs.lent_tables.Laws.{no, yes}
use Rattle.plan.specs.dictionaries.Sources.{dict_at}
use Rattle.plan.proofs.dictionaries.Laws.{pair_at, share_more, share_not, share_all}
use Rattle.plan.proofs.dictionaries.all_share.Goals as goal

pub returns-then-not-ptr_eq : goal.returns-then-not-ptr_eq
returns-then-not-ptr_eq c =
    let a = c.args in
    let s = c.loop-s.s in
    sym (share_not (dict_at (tables a.lengths.now a.places.now a.body.now) a.sources.now a.string a.i) (s - 1) a.m (omega arith) (no (pair_at (tables a.lengths.now a.places.now a.body.now) a.sources.now a.i a.string (s - 1) c.ptr_eq.ensures (omega arith) c.node_of-a.ensures.value c.node_of-b.ensures.value) c.if-not-ptr_eq.true-raw))

pub loop-s-preserved : goal.loop-s-preserved
loop-s-preserved c =
    let a = c.args in
    let s = c.loop-s.s in
    let D = dict_at (tables a.lengths.now a.places.now a.body.now) a.sources.now a.string a.i in
    let before : s ≡ suc (s - 1) = omega arith in
    let next : suc (suc (s - 1)) ≡ s + 1 = omega arith in
    subst (λ (k : ℕ). shared k D ≡ true) next (share_more D (s - 1) (subst (λ (k : ℕ). shared k D ≡ true) before c.loop-s.invariant) (yes (pair_at (tables a.lengths.now a.places.now a.body.now) a.sources.now a.i a.string (s - 1) c.ptr_eq.ensures before c.node_of-a.ensures.value c.node_of-b.ensures.value) c.if-not-ptr_eq.false-raw))

pub returns : goal.returns
returns c =
    let a = c.args in
    sym (share_all (dict_at (tables a.lengths.now a.places.now a.body.now) a.sources.now a.string a.i) c.loop-s.s a.m (λ h. omega arith) (omega arith) c.loop-s.invariant)
