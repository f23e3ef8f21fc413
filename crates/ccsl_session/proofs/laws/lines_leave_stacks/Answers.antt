use Rattle.ccsl_session.proofs.Stacks.{line-leaves}
use Rattle.ccsl_session.proofs.laws.lines_leave_stacks.Goals as goal

pub returns : goal.returns
returns c = λ K ok policy seed R stack line. line-leaves K ok (c.unforbidden_sets_are_admissible.ensures K ok) policy seed R stack line
