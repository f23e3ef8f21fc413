use Rattle.std.proofs.Common.{arith}
use Rattle.ccsl_vcd_write.proofs.Traces.{has-names, trace-read, trace-bound, trace-rows}
use Rattle.ccsl_vcd_write.proofs.laws.read_back.Goals as goal

pub returns-clause-read : goal.returns-clause-read
returns-clause-read c =
    trace-read c.args.system.now c.args.limits
    (has-names c.args.system.now c.names.result.now c.names.ensures.accepted c.names.ensures.names c.are_distinct.ensures) (omega arith)

pub returns-clause-bound : goal.returns-clause-bound
returns-clause-bound c =
    trace-bound c.args.system.now c.args.limits
    (has-names c.args.system.now c.names.result.now c.names.ensures.accepted c.names.ensures.names c.are_distinct.ensures) (omega arith)

pub returns-clause-rows : goal.returns-clause-rows
returns-clause-rows c =
    trace-rows c.args.system.now c.args.limits
    (has-names c.args.system.now c.names.result.now c.names.ensures.accepted c.names.ensures.names c.are_distinct.ensures) (omega arith)
