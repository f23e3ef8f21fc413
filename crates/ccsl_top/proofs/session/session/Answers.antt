use Rattle.ccsl_top.proofs.Conversing.{session-quit, session-done, session-cut}
use Rattle.ccsl_top.proofs.session.session.Goals as goal

pub returns-in-Ok-Quit : goal.returns-in-Ok-Quit
returns-in-Ok-Quit g c = λ words start b.
    session-quit g.W.World.told words c.args.system.now c.args.policy c.args.seed start (g.W.World.state c.args.world.now) b
    (g.W.World.state c.session.new.world)
    (rw c.in-Ok-Quit.field-0-is at c.in-Ok-Quit.ensures.ended)

pub returns-in-Ok-EndOfInput : goal.returns-in-Ok-EndOfInput
returns-in-Ok-EndOfInput g c = λ words start b.
    session-done g.W.World.told words c.args.system.now c.args.policy c.args.seed start (g.W.World.state c.args.world.now) b
    (g.W.World.state c.session.new.world)
    (rw c.in-Ok-EndOfInput.field-0-is at c.in-Ok-EndOfInput.ensures.ended)

pub returns-in-Ok-TooLong : goal.returns-in-Ok-TooLong
returns-in-Ok-TooLong g c = λ words start b.
    c.report_too_long.ensures words c.args.system.now c.args.policy c.args.seed start (g.W.World.state c.args.world.now) b
    (rw c.in-Ok-TooLong.field-0-is at c.in-Ok-TooLong.ensures.ended)

pub returns-in-Err : goal.returns-in-Err
returns-in-Err g c = λ words start b.
    rw c.stop_code.ensures
    (session-cut g.W.World.told words c.args.system.now c.args.policy c.args.seed start (g.W.World.state c.args.world.now) b
    (g.W.World.state c.session.new.world) c.in-Err.stop c.in-Err.ensures.cut)
