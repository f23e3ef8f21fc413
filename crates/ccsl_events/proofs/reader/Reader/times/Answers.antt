use Rattle.std.proofs.Common.{subst}
use Rattle.ccsl_events.specs.Standing.{Stands}
use Rattle.ccsl_events.proofs.Feeding.{same-body, no-body}
use Rattle.ccsl_events.proofs.reader.Reader.times.Goals as goal

pub returns-in-Some : goal.returns-in-Some
returns-in-Some c plan p body has s =
    c.times.ensures plan p (subst (Stands plan p) (same-body body c.in-Some.body c.args.self.now has c.in-Some.is) s)

pub returns-in-None : goal.returns-in-None
returns-in-None c plan p body has s = absurd (no-body body c.args.self.now has c.in-None.is)
