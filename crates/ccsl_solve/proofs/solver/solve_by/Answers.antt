use Rattle.std.proofs.Common.{◌∙◌}
use Rattle.ccsl_solve.proofs.Guided.{each-reads}
use Rattle.ccsl_solve.proofs.solver.solve_by.Goals as goal

pub invariant_of-problem-clause-reads : goal.invariant_of-problem-clause-reads
invariant_of-problem-clause-reads c = each-reads c.args.scope.now.named c.args.formulas.now c.requires.reads

pub answered-requires-clause-posed : goal.answered-requires-clause-posed
answered-requires-clause-posed c = record {
  declared = c.requires.declared;
  named = c.requires.named;
  reads = c.requires.reads;
  few = c.requires.few;
  nonempty = c.deref.ensures.value ∙ c.in_ok-nonempty.ensures;
  wishes = c.requires.wishes;
}
