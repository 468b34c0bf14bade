-- `reclaim_walk::plain::is_plain` meets its contract. Assumes nothing.
use mathlib.Core.Path.{◌≡◌, sym, ◌∙◌}
use mathlib.Core.Bool.{Bool, true, false, not, false≢true}
use Prim.Native.Nat.{ℕ, ◌+◌, ◌<◌}
use native.Mathlib.Omega.{arith}
use mathlib.Core.List.{[]}
use borrow.Author.Tests.{leb-true}
use Rattle.schema.specs.formats.Code.{is_fixed}
use Rattle.array_data.proofs.lent_tables.Laws.{yes}
use Rattle.walk.specs.State.{Join, code_of, dictionary_of, keeps_of, bytes_of, place, offset_of, far, grown, rows_in}
use Rattle.leaf_walk.specs.Join.{join}
use Rattle.reclaim.specs.reclaim_walk.Plain.{Plain}
use Rattle.reclaim.proofs.reclaim_walk.Laws.{below_far, width_small}
use Rattle.reclaim.proofs.plain.is_plain.Goals as goal

below : (o b n g : ℕ) → g ≡ grown o (b + n) → g < far → o + b + n < far
unfolding grown
below o b n g e h = omega arith

plain_told : (x : Join) (base count : ℕ) {code dict keeps off g w at : ℕ} {t r : Bool} → code ≡ code_of x.plan 1 → t ≡ is_fixed code → not t ≡ false → dict ≡ dictionary_of x.plan 1 → dict ≡ 0
    → keeps ≡ keeps_of x.plan 1 → keeps ≡ 0 → off ≡ offset_of x 1 → g ≡ grown off (base + count) → g < far → w ≡ bytes_of x.plan 1 → at ≡ place x 1 3 → r ≡ rows_in x at w (off + base) count
    → r ≡ true → Plain x base count
unfolding rows_in
plain_told x base count {off = off} {g = g} ec et ht ed hd ek hk eo eg hg ew ea er hr =
    record {
      number = rw ec at (yes et ht);
      no_keys = sym ed ∙ hd;
      no_nulls = sym ek ∙ hk;
      slots = rw eo at (below off base count g eg hg);
      inside = leb-true _ _ (rw (ea, ew, eo) at (sym er ∙ hr));
    }

pub returns-then-not-is_fixed : goal.returns-then-not-is_fixed
returns-then-not-is_fixed c = λ z. absurd (false≢true z)

pub returns-then-dictionary_of-ne0 : goal.returns-then-dictionary_of-ne0
returns-then-dictionary_of-ne0 c = λ z. absurd (false≢true z)

pub returns-then-keeps_of-ne0 : goal.returns-then-keeps_of-ne0
returns-then-keeps_of-ne0 c = λ z. absurd (false≢true z)

pub returns-then-grow-ge-FAR : goal.returns-then-grow-ge-FAR
returns-then-grow-ge-FAR c = λ z. absurd (false≢true z)

pub overflow_add-off : goal.overflow_add-off
overflow_add-off c = omega (arith, below_far c.offset_of-off.result (c.args.base + c.args.count) c.grow.ensures c.if-grow-ge-FAR.false)

pub rows_in-requires : goal.rows_in-requires
rows_in-requires c = (width_small c.code_of.result c.code_of.ensures c.is_fixed.ensures c.if-not-is_fixed.false-raw c.width_at-w.ensures, omega (arith, below_far c.offset_of-off.result (c.args.base + c.args.count) c.grow.ensures c.if-grow-ge-FAR.false))

pub returns : goal.returns
returns c = λ z. plain_told (join c.args.plan.now [] c.args.lengths.now c.args.places.now c.args.body.now c.args.first 0) c.args.base c.args.count c.code_of.ensures c.is_fixed.ensures c.if-not-is_fixed.false-raw c.dictionary_of.ensures c.if-dictionary_of-ne0.false c.keeps_of.ensures c.if-keeps_of-ne0.false c.offset_of-off.ensures c.grow.ensures c.if-grow-ge-FAR.false c.width_at-w.ensures c.place.ensures (c.rows_in.ensures c.args.plan.now [] c.args.lengths.now c.args.places.now c.args.first 0) z
