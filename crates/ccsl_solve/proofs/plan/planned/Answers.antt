use Rattle.ccsl_solve.proofs.Guided.{valid-named}
use Rattle.ccsl_solve.proofs.plan.planned.Goals as goal

pub next-requires-clause-lines : goal.next-requires-clause-lines
next-requires-clause-lines c = valid-named c.args.problem.now c.args.lines.now c.requires.valid

pub decided-requires-else-forces-clause-settled : goal.decided-requires-else-forces-clause-settled
decided-requires-else-forces-clause-settled c = rw c.if-forces.ensures.same c.requires.settled

pub returns-else-refutes-clause-plan : goal.returns-else-refutes-clause-plan
returns-else-refutes-clause-plan c = c.decided.ensures c.args.lines.now

pub returns-else-forces-clause-plan : goal.returns-else-forces-clause-plan
returns-else-forces-clause-plan c = rw c.if-forces.ensures.same at (c.decided-else-forces.ensures c.args.lines.now)

pub returns-in-Decide-clause-plan : goal.returns-in-Decide-clause-plan
returns-in-Decide-clause-plan c = c.decided-in-Decide.ensures c.args.lines.now
