use Rattle.ccsl_refute.proofs.Existence.{has-certificate}
use Rattle.ccsl_refute.proofs.laws.unsolved_have_certificates.Goals as goal

pub returns : goal.returns
returns c = has-certificate
