use Rattle.ccsl_events.proofs.Run.{runs-none}
use Rattle.ccsl_events.proofs.body.Body.frequent.Goals as goal

pub returns-then-ne-clause-takes : goal.returns-then-ne-clause-takes
returns-then-ne-clause-takes c plan p s = runs-none plan p c.args.at c.args.self.now c.args.out.now.items s

pub returns-in_default-clause-takes : goal.returns-in_default-clause-takes
returns-in_default-clause-takes c plan p s = runs-none plan p c.args.at c.args.self.now c.args.out.now.items s

pub returns-in_default-2-clause-takes : goal.returns-in_default-2-clause-takes
returns-in_default-2-clause-takes c plan p s = runs-none plan p c.args.at c.args.self.now c.args.out.now.items s
