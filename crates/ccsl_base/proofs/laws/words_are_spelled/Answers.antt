use Rattle.ccsl_base.proofs.ReservedWords.{reserved_spells}
use Rattle.ccsl_base.proofs.laws.words_are_spelled.Goals as goal

pub returns : goal.returns
returns c = reserved_spells
