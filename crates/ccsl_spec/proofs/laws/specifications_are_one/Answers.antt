use Rattle.ccsl_spec.proofs.One.{one_system, one_refusal, not_both_ways}
use Rattle.ccsl_spec.proofs.laws.specifications_are_one.Goals as goal

pub returns-clause-system : goal.returns-clause-system
returns-clause-system c = one_system c.one_verdict.ensures

pub returns-clause-refusal : goal.returns-clause-refusal
returns-clause-refusal c = one_refusal c.one_verdict.ensures

pub returns-clause-not_both : goal.returns-clause-not_both
returns-clause-not_both c = λ text line K a b. not_both_ways c.one_verdict.ensures text line K a b
