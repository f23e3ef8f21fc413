use Rattle.ccsl_top.proofs.One.{outcomes-are-one}
use Rattle.ccsl_top.proofs.laws.outcomes_are_one.Goals as goal

pub returns : goal.returns
returns c =
    outcomes-are-one c.specifications_are_one.ensures.system c.specifications_are_one.ensures.refusal c.specifications_are_one.ensures.not_both
    c.canonical_words_are_one.ensures c.plain_lengths_are_one.ensures c.cores_are_one.ensures c.least_sets_are_one.ensures
