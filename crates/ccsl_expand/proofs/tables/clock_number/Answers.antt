use Rattle.std.proofs.Common.{sym, ◌∙◌}
use Rattle.ccsl_expand.proofs.Lookups.{number-missing}
use Rattle.ccsl_expand.proofs.tables.clock_number.Goals as goal

pub returns-in-None : goal.returns-in-None
returns-in-None c = c.len.ensures ∙ number-missing c.args.names.now c.args.whole.now (sym c.find.ensures.place ∙ c.in-None.is)
