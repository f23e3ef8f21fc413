use Rattle.ccsl_certify.proofs.Deadlocks.{deadlocked}
use Rattle.ccsl_certify.proofs.laws.yes_is_deadlock.Goals as goal

pub returns : goal.returns
returns c = λ K ok told limits old new steps certified.
    deadlocked K certified.bound certified.rows steps ok certified.lines certified.sets certified.answers.0 certified.answers.1
