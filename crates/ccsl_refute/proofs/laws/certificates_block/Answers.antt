use Rattle.ccsl_formula.specs.Formula.{in_set}
use Rattle.ccsl_refute.proofs.FirstBad.{certificate-none}
use Rattle.ccsl_refute.proofs.Sound.{sound}
use Rattle.ccsl_refute.proofs.laws.certificates_block.Goals as goal

pub returns : goal.returns
returns c scope formulas lines certificate set solves = sound scope formulas lines (in_set set) (certificate-none scope formulas lines certificate) solves
