use Rattle.ccsl_spec.proofs.Existing.{accepted-of}
use Rattle.ccsl_spec.proofs.laws.systems_are_accepted.Goals as goal

pub returns : goal.returns
returns c = accepted-of c.files_expand.ensures c.library_is_accepted.ensures c.file_keeps.ensures c.least_depth.ensures
