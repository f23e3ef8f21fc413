use Rattle.std.proofs.Common.{arith}
use Rattle.ccsl_words.proofs.Letters.{past_finite, finite_len}
use Rattle.ccsl_words.proofs.laws.finite_word_ends.Goals as goal

pub returns : goal.returns
returns c = λ w k fin l. past_finite w k fin (omega (arith, l, finite_len w fin))
