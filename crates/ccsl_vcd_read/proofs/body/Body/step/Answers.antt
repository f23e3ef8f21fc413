use Rattle.std.proofs.Common.{◌+◌, ◌<◌, length, take, arith, rules}
use Rattle.std.proofs.lemmas.Grind.{common_steps}
use Rattle.ccsl_vcd_read.proofs.Run.{runs-on}
use Rattle.ccsl_vcd_read.proofs.ShortTimes.{after-same}
use Rattle.ccsl_vcd_read.proofs.body.Body.step.Goals as goal
use Rattle.ccsl_base.proofs.Cases.{rest-is}

pub returns-then-taken-gt0-clause-runs : goal.returns-then-taken-gt0-clause-runs
returns-then-taken-gt0-clause-runs c =
    let time = c.time_and_space-time in
    runs-on c.args.self.now time.new.self c.changes.new.self c.args.at time.result c.changes.result c.args.bytes.now _ c.args.out.now.rows time.new.out.rows
    time.new.out.rows
    time.ensures.within (rest-is time.result c.args.bytes.now) time.ensures.runs (c.changes.ensures.runs (c.args.at + time.result) time.new.out.rows)

pub returns-clause-runs : goal.returns-clause-runs
returns-clause-runs c =
    let time = c.time_and_space-time in
    let still = time.ensures.none (omega (arith, c.if-taken-gt0.false)) in
    let same = c.changes.ensures.none (omega (arith, c.if-taken-gt0.false)) in
    after-same c.args.self.now time.new.self c.changes.new.self c.token.new.self c.args.at (take c.token.result c.args.bytes.now) c.args.out.now.rows
    time.new.out.rows _ still same c.token.ensures.runs

pub returns-then-taken-gt0-clause-full : goal.returns-then-taken-gt0-clause-full
returns-then-taken-gt0-clause-full c = λ full.
    let room : length c.time_and_space-time.new.out.rows < c.time_and_space-time.new.out.room =
    grind (arith, common_steps, c.is_full.ensures, c.if-is_full.false) in
    absurd (omega (arith, room, full))

pub returns-then-is_full-clause-runs : goal.returns-then-is_full-clause-runs
returns-then-is_full-clause-runs c = search rules

pub returns-then-is_full-clause-full : goal.returns-then-is_full-clause-full
returns-then-is_full-clause-full c = search rules
