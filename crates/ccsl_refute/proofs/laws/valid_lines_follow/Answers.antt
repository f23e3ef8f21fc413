use Rattle.ccsl_refute.proofs.Sound.{valid-clauses}
use Rattle.ccsl_refute.proofs.laws.valid_lines_follow.Goals as goal

pub returns : goal.returns
returns c scope formulas lines v valid solves = valid-clauses scope formulas lines v solves valid
