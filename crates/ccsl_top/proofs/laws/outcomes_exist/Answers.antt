use Rattle.ccsl_top.proofs.Existing.{outcomes-exist}
use Rattle.ccsl_top.proofs.laws.outcomes_exist.Goals as goal

pub returns : goal.returns
returns c =
    outcomes-exist c.specifications_exist.ensures c.systems_are_accepted.ensures c.canonical_words_exist.ensures c.relations_are_decided.ensures
    c.words_on_words_exist.ensures c.word_is_computed.ensures c.simulation_is_one.ensures c.deadlocks_have_certificates.ensures
    c.formulas_read_named.ensures c.explanations_exist.ensures
