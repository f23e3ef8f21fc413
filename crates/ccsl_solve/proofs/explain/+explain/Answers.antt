use Rattle.ccsl_formula.specs.Known.{known}
use Rattle.ccsl_solve.proofs.Parts.{under-take}
use Rattle.ccsl_solve.proofs.explain.+explain.Goals as goal

pub returns-in-Var : goal.returns-in-Var
returns-in-Var t c = under-take (known c.args.why.now) (known c.take.new.self) (known c.args.part.now) c.in-Var.x c.requires c.take.ensures
