use Rattle.ccsl_spaces.specs.Callees.{seen_callee}
use Rattle.ccsl_spaces.proofs.Looking.{found-seen}
use Rattle.ccsl_spaces.proofs.calls.find_call.Goals as goal

pub returns : goal.returns
returns c = found-seen seen_callee c.args.name.now c.args.calls.now c.find.result c.find.ensures
