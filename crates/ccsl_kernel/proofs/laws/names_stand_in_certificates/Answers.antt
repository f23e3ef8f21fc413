use Rattle.ccsl_kernel.proofs.NamesInCertificates.{names_certified}
use Rattle.ccsl_kernel.proofs.laws.names_stand_in_certificates.Goals as goal

pub returns : goal.returns
returns c = names_certified
