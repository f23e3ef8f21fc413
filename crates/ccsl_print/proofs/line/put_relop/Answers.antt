use Rattle.std.proofs.Common.{rules}
use Rattle.ccsl_print.proofs.line.put_relop.Goals as goal

pub returns-in_ok-word-in-PrecedesWeakly : goal.returns-in_ok-word-in-PrecedesWeakly
returns-in_ok-word-in-PrecedesWeakly c = search rules
