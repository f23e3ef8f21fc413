use Rattle.std.proofs.Common.{◌+◌, length, ap}
use Rattle.ccsl_relate.specs.Watching.{Watching}
use Rattle.ccsl_relate.proofs.Resting.{rests}
use Rattle.ccsl_relate.proofs.Undeclared.{some-of}
use Rattle.ccsl_relate.proofs.monitor.Monitor.rest.Goals as goal

pub returns : goal.returns
returns c =
    let x = some-of c.args.self.now.first c.requires.violated in
    rests x.1 c.rows_are_sets.ensures (ap (λ (v : Watching). record v { steps = v.steps + length c.args.rows.now }) c.self.view_is)
