use Rattle.ccsl_periodic.proofs.Alone.{canonical_is_one}
use Rattle.ccsl_periodic.proofs.laws.canonical_words_are_one.Goals as goal

pub returns : goal.returns
returns c = canonical_is_one
