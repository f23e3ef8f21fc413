use Rattle.std.proofs.Common.{length, arith}
use Rattle.ccsl_words.specs.Word.{word_len}
use Rattle.ccsl_periodic.proofs.Counts.{ones-monotone, period_ones-le}
use Rattle.ccsl_periodic.proofs.letters.period_ones.Goals as goal

pub overflow_sub-result : goal.overflow_sub-result
overflow_sub-result c =
    rw (c.ones.ensures.ones, c.ones-2.ensures.ones, c.len.ensures.letters, c.prefix_len.ensures.prefix)
    (ones-monotone c.args.word.now (length c.args.word.now.prefix) (word_len c.args.word.now) (omega arith))

pub returns-clause-few : goal.returns-clause-few
returns-clause-few c = rw (c.ones.ensures.ones, c.ones-2.ensures.ones, c.len.ensures.letters, c.prefix_len.ensures.prefix) (period_ones-le c.args.word.now)
