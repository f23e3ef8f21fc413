use Rattle.std.proofs.Common.{◌-◌, get_or, arith}
use Rattle.ccsl_formula.specs.Plain.{plain}
use Rattle.ccsl_guide.proofs.Reading.{named-formula}
use Rattle.ccsl_guide.proofs.readers.Readers.open.Goals as goal

pub enter-requires : goal.enter-requires
enter-requires c =
    let q = c.args.problem.now in
    let item = c.loop-item.item - 1 in
    let formula = c.index-problem-item.result in
    rw c.loop-item.invariant.clocks (named-formula q.scope.named (plain (get_or q.formulas.now item formula)) (q.reads item formula (omega arith)))
