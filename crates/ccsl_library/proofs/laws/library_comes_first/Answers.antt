use Rattle.ccsl_library.proofs.Accepted.{comes-first}
use Rattle.ccsl_library.proofs.laws.library_comes_first.Goals as goal

pub returns : goal.returns
returns c = comes-first
