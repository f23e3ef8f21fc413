use Rattle.std.proofs.Common.{refl}
use Rattle.ccsl_events.proofs.Opening.{at-start}
use Rattle.ccsl_events.proofs.reader.Reader.open.Goals as goal

pub returns : goal.returns
returns c = at-start c.args.limits _ _ refl c.new.ensures refl refl c.in_ok-carry.ensures.items refl
