use Rattle.std.proofs.Common.{rules}
use Rattle.ccsl_bind.proofs.binder.may_bind.Goals as goal

pub returns-after-is_text-3 : goal.returns-after-is_text-3
returns-after-is_text-3 c = search rules
