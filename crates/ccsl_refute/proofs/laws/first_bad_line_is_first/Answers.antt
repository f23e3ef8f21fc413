use Rattle.std.proofs.Common.{[], refl}
use Rattle.ccsl_refute.proofs.FirstBad.{bad-first, none-certificate, certificate-none}
use Rattle.ccsl_refute.proofs.laws.first_bad_line_is_first.Goals as goal

pub returns-clause-bad : goal.returns-clause-bad
returns-clause-bad c scope formulas lines j e = bad-first scope formulas [] lines j refl e

pub returns-clause-none : goal.returns-clause-none
returns-clause-none c = none-certificate

pub returns-clause-certificate : goal.returns-clause-certificate
returns-clause-certificate c = certificate-none
