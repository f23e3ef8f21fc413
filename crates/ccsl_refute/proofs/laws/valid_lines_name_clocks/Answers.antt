use Rattle.std.proofs.Common.{[]}
use Rattle.ccsl_refute.proofs.Bounds.{lines-below}
use Rattle.ccsl_refute.proofs.laws.valid_lines_name_clocks.Goals as goal

pub returns : goal.returns
returns c scope formulas lines valid = lines-below scope formulas [] lines valid
