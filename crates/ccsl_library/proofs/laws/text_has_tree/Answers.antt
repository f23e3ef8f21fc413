use Rattle.ccsl_library.proofs.Text.{has-tree}
use Rattle.ccsl_library.proofs.laws.text_has_tree.Goals as goal

pub returns : goal.returns
returns c = has-tree
