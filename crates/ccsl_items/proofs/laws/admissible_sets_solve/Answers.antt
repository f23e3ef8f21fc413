use Rattle.std.proofs.Common.{subst}
use Rattle.ccsl_kernel.specs.Runs.{IsAdmissible}
use Rattle.ccsl_items.proofs.Solutions.{admissible_solution, solution_admissible}
use Rattle.ccsl_items.proofs.laws.admissible_sets_solve.Goals as goal

pub returns : goal.returns
returns c = λ K ok T run s. (admissible_solution K ok T run s, λ q. subst (IsAdmissible K T) q.2 (solution_admissible K ok T run q.0 q.1))
