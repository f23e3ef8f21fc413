use Rattle.std.proofs.Common.{Ok, ap, ◌∙◌, subst}
use Rattle.ccsl_command.specs.Infinite.{HasInfiniteWords}
use Rattle.ccsl_command.specs.Opened.{files_of}
use Rattle.ccsl_top.proofs.Ranges.{trial-ranges}
use Rattle.ccsl_top.proofs.Commands.{command-oks, starved-errs, trial-outcome, periodic-outcome}
use Rattle.ccsl_top.proofs.program.obey.Goals as goal

pub trial-tried-requires-clause-least : goal.trial-tried-requires-clause-least
trial-tried-requires-clause-least g c =
    λ κs b. (trial-ranges c.in-Trial.clocks c.in-Trial.steps c.in-Trial.seed c.in-Trial.workers c.requires.meant.0
    (c.requires.meant.1 ∙ ap Ok c.in-Trial.is)).least

pub trial-tried-requires-clause-most : goal.trial-tried-requires-clause-most
trial-tried-requires-clause-most g c =
    λ κs b. (trial-ranges c.in-Trial.clocks c.in-Trial.steps c.in-Trial.seed c.in-Trial.workers c.requires.meant.0
    (c.requires.meant.1 ∙ ap Ok c.in-Trial.is)).most

pub trial-tried-requires-clause-few : goal.trial-tried-requires-clause-few
trial-tried-requires-clause-few g c =
    λ κs b. (trial-ranges c.in-Trial.clocks c.in-Trial.steps c.in-Trial.seed c.in-Trial.workers c.requires.meant.0
    (c.requires.meant.1 ∙ ap Ok c.in-Trial.is)).few

pub periodic-requires-clause-left : goal.periodic-requires-clause-left
periodic-requires-clause-left g c = (subst HasInfiniteWords c.in-Periodic.is c.requires.infinite).0

pub periodic-requires-clause-right : goal.periodic-requires-clause-right
periodic-requires-clause-right g c = (subst HasInfiniteWords c.in-Periodic.is c.requires.infinite).1

pub returns-in-Trial : goal.returns-in-Trial
returns-in-Trial g c = λ words means.
    let old = g.W.World.state c.args.world.now in
    let r = c.trial-tried.result in
    c.report.ensures words old
    (command-oks g.W.World.told old c.args.command.now words means (ap files_of c.in-Trial.is) r
    (trial-outcome c.args.command.now c.in-Trial.clocks c.in-Trial.steps c.in-Trial.seed c.in-Trial.workers c.in-Trial.is r c.trial-tried.ensures.reply))
    (starved-errs g.W.World.told old r c.trial-tried.ensures.stop words)

pub returns-in-Periodic : goal.returns-in-Periodic
returns-in-Periodic g c = λ words means.
    let old = g.W.World.state c.args.world.now in
    let r = c.periodic.result in
    c.report-in-Periodic.ensures words old
    (command-oks g.W.World.told old c.args.command.now words means (ap files_of c.in-Periodic.is) r
    (periodic-outcome c.args.command.now c.in-Periodic.left c.in-Periodic.right c.in-Periodic.relation c.in-Periodic.is r c.periodic.ensures.reply))
    (starved-errs g.W.World.told old r c.periodic.ensures.stop words)
