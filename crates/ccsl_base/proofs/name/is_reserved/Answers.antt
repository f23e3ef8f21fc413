use Rattle.std.proofs.Common.{◌∙◌}
use Rattle.ccsl_base.proofs.ReservedWords.{some_reserved}
use Rattle.ccsl_base.proofs.name.is_reserved.Goals as goal

pub returns : goal.returns
returns c = c.is_some.ensures ∙ some_reserved c.args.text.now c.spelled.result c.spelled.ensures
