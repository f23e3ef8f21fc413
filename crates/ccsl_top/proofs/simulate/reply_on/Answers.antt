use Rattle.std.proofs.Common.{rules}
use Rattle.ccsl_top.proofs.simulate.reply_on.Goals as goal

pub returns-in_ok-deadlocked-in-Deadlock : goal.returns-in_ok-deadlocked-in-Deadlock
returns-in_ok-deadlocked-in-Deadlock c = search rules
