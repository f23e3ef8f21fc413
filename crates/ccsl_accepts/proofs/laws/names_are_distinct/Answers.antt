use Rattle.ccsl_accepts.proofs.NamesDistinct.{names-distinct, names-new}
use Rattle.ccsl_accepts.proofs.laws.names_are_distinct.Goals as goal

pub returns-clause-distinct : goal.returns-clause-distinct
returns-clause-distinct c = names-distinct

pub returns-clause-new : goal.returns-clause-new
returns-clause-new c = names-new
