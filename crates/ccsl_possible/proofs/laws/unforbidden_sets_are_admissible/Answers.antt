use Rattle.ccsl_possible.proofs.Failing.{unforbidden-admissible, admissible-unforbidden}
use Rattle.ccsl_possible.proofs.laws.unforbidden_sets_are_admissible.Goals as goal

pub returns : goal.returns
returns c = λ K ok T r s some d. (unforbidden-admissible K ok T r s some d, admissible-unforbidden K ok T r s some d)
