use Rattle.std.proofs.Common.{rules}
use Rattle.ccsl_words.proofs.word.Word.letter.Goals as goal

pub returns-else-is_finite : goal.returns-else-is_finite
returns-else-is_finite c = search rules
