use Rattle.ccsl_periodic.proofs.Existing.{holds_or_fails}
use Rattle.ccsl_periodic.proofs.laws.relations_are_decided.Goals as goal

pub returns : goal.returns
returns c relation u v inf_u inf_v few_u few_v = holds_or_fails u v inf_u inf_v few_u few_v relation
