use Rattle.std.proofs.Common.{arith}
use Rattle.ccsl_vcd_read.proofs.Run.{runs-still, dark-but-last}
use Rattle.ccsl_vcd_read.proofs.ShortTimes.{front-heard}
use Rattle.ccsl_vcd_read.proofs.body.Body.time_and_space.Goals as goal

pub returns-then-time-eq0-clause-runs : goal.returns-then-time-eq0-clause-runs
returns-then-time-eq0-clause-runs c =
    let still = c.short_time-time.ensures.heard.1 c.if-time-eq0.true in
    runs-still c.args.self.now c.short_time-time.new.self c.args.at c.args.out.now.rows c.short_time-time.new.out.rows still.0 still.1

pub returns-clause-runs : goal.returns-clause-runs
returns-clause-runs c =
    front-heard c.args.self.now c.short_time-time.new.self c.args.at c.short_time-time.result c.args.bytes.now c.args.out.now.rows
    c.short_time-time.new.out.rows c.short_time-time.ensures.heard
    (omega (arith, c.if-time-eq0.false))

pub returns-clause-one : goal.returns-clause-one
returns-clause-one c =
    let s = c.short_time-time.ensures.heard.0 (omega (arith, c.if-time-eq0.false)) in
    dark-but-last c.short_time-time.result c.args.bytes.now s.run
