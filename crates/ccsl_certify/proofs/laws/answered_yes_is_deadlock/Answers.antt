use Rattle.ccsl_bind.specs.Collected.{wanted_of}
use Rattle.ccsl_vcd.specs.Rows.{recorded}
use Rattle.ccsl_certify.proofs.Deadlocks.{deadlocked}
use Rattle.ccsl_certify.proofs.Sets.{recorded-sets}
use Rattle.ccsl_certify.proofs.laws.answered_yes_is_deadlock.Goals as goal

pub returns : goal.returns
returns c = λ K ok limits trace bound lines steps a.
    deadlocked K bound (recorded (wanted_of K) limits trace) steps ok lines (recorded-sets (wanted_of K) limits trace) a.0 a.1
