use Rattle.ccsl_periodic.proofs.Filtering.{related_until, related_always}
use Rattle.ccsl_periodic.proofs.laws.filters_are_related.Goals as goal

pub returns-clause-until : goal.returns-clause-until
returns-clause-until c = related_until

pub returns-clause-always : goal.returns-clause-always
returns-clause-always c = related_always
