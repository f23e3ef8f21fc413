use Rattle.std.proofs.Common.{◌+◌, [], ◌∷◌, sym, subst}
use Rattle.ccsl_relate.specs.Watching.{Watching}
use Rattle.ccsl_relate.specs.Taking.{Takes}
use Rattle.ccsl_relate.proofs.monitor.Monitor.check_row.Goals as goal

pub returns : goal.returns
returns c =
    subst (λ (v : Watching). Takes c.args.self.now (record v { steps = v.steps + 1; first = c.first_with-found.result }) (c.args.row.now ∷ []))
    (sym c.self.view_is) c.first_with-found.ensures.takes
