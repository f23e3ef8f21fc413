use Rattle.ccsl_periodic.proofs.Existing.{has_canonical}
use Rattle.ccsl_periodic.proofs.laws.canonical_words_exist.Goals as goal

pub returns : goal.returns
returns c w infinite = has_canonical w infinite
