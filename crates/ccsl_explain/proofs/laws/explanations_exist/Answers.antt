use Rattle.ccsl_explain.proofs.Existing.{has-explanation}
use Rattle.ccsl_explain.proofs.laws.explanations_exist.Goals as goal

pub returns : goal.returns
returns c scope formulas low below = has-explanation c.unsolved_have_certificates.ensures scope low formulas below
