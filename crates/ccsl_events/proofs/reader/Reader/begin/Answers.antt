use Rattle.std.proofs.Common.{refl}
use Rattle.ccsl_events.proofs.Feeding.{begins}
use Rattle.ccsl_events.proofs.reader.Reader.begin.Goals as goal

pub returns : goal.returns
returns c plan start m s = begins plan start c.args.self.now _ c.args.body refl s m refl refl refl
