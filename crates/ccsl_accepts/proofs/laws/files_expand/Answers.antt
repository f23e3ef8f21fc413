use Rattle.ccsl_accepts.proofs.Accepts.{files-expand}
use Rattle.ccsl_accepts.proofs.laws.files_expand.Goals as goal

pub returns : goal.returns
returns c = files-expand
