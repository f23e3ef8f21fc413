use Rattle.ccsl_command.specs.Opened.{files_opened}
use Rattle.ccsl_show_top.proofs.Allowed.{all-allowed}
use Rattle.ccsl_show_top.proofs.Following.{when-ok}
use Rattle.ccsl_show_top.proofs.program.run.Goals as goal

pub run-status-requires-after_bounds : goal.run-status-requires-after_bounds
run-status-requires-after_bounds g c = λ κs lives. all-allowed g.W.World.allows c.requires.allowed (files_opened c.args.words.now)

pub returns : goal.returns
returns g c = record {
  mid = g.W.World.state c.run-status.new.world.world;
  answers = c.run-status.ensures;
  follows = c.shown_behind-shown.ensures.follows;
  ends = c.shown_behind-shown.ensures.ends;
  calm = when-ok _ _ c.shown_behind-shown.ensures.calm;
}
