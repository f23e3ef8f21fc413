use Rattle.std.proofs.Common.{rules}
use Rattle.ccsl_scopes.proofs.select.place.Goals as goal

pub returns-then-i-right-clause-value : goal.returns-then-i-right-clause-value
returns-then-i-right-clause-value c = search rules

pub returns-then-i-left-clause-value : goal.returns-then-i-left-clause-value
returns-then-i-left-clause-value c = search rules

pub returns-then-i-left-clause-small : goal.returns-then-i-left-clause-small
returns-then-i-left-clause-small c = search rules

pub returns-else-right-i-clause-value : goal.returns-else-right-i-clause-value
returns-else-right-i-clause-value c = search rules
