use Rattle.ccsl_ast.proofs.Levels.{depth_is_greatest}
use Rattle.ccsl_ast.proofs.laws.depth_is_greatest.Goals as goal

pub returns : goal.returns
returns c = depth_is_greatest
