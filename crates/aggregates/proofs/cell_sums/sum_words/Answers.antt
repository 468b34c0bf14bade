-- `cell_sums::sum_words` meets its contract. Assumes nothing.
use Rattle.std.proofs.Common.{◌+◌, ◌*◌, arith}
use Rattle.aggregates.proofs.tally.Sums.{none_yet}
use Rattle.aggregates.proofs.cell_sums.Plain.{join_room, join_word, part_ready, word_stop, word_low, first_in, all_words}
use Rattle.aggregates.proofs.cell_sums.sum_words.Goals as goal

pub loop-k-init : goal.loop-k-init
loop-k-init c =
    let e = c.nothing-t.ensures in
    none_yet _ c.args.start _ e.0 e.1 e.2 e.3

pub overflow_mul-k : goal.overflow_mul-k
overflow_mul-k c =
    record { fits = (word_low c.args.start _ c.args.words c.loop-k-test.true c.requires.words_bound.0).0 }

pub overflow_add-start : goal.overflow_add-start
overflow_add-start c =
    record { fits = (word_low c.args.start _ c.args.words c.loop-k-test.true c.requires.words_bound.0).1 }

pub sum_word-requires : goal.sum_word-requires
sum_word-requires c =
    let l = c.loop-k in
    let end = c.args.start + 64 * c.args.words in
    let row = c.args.start + 64 * l.k in
    let w = word_stop c.args.start l.k c.args.words c.loop-k-test.true in record {
      runs_value = (c.requires.words_bound.1, c.requires.words_bound.2);
      all_ready = (
        part_ready c.args.body.now c.args.a c.args.start end row (row + 64) c.requires.all_ready.0 (first_in _ l.k) w,
        part_ready c.args.body.now c.args.b c.args.start end row (row + 64) c.requires.all_ready.1 (first_in _ l.k) w,
      );
    }

pub joined-t-requires : goal.joined-t-requires
joined-t-requires c =
    let l = c.loop-k in
    join_room l.invariant c.sum_word.ensures (word_low c.args.start l.k c.args.words c.loop-k-test.true c.requires.words_bound.0).2

pub loop-k-preserved : goal.loop-k-preserved
loop-k-preserved c =
    let l = c.loop-k in
    join_word _ c.args.start l.k _ _ _ l.invariant c.sum_word.ensures c.joined-t.ensures

pub returns : goal.returns
returns c =
    let l = c.loop-k in
    all_words _ c.args.start l.k c.args.words _ (omega arith) (omega arith) l.invariant
