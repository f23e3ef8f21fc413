use Rattle.std.proofs.Common.{arith}
use Rattle.std.proofs.lemmas.Grind.{common_steps}
use Rattle.ccsl_relate.proofs.Following.{with-one, with-two}
use Rattle.ccsl_relate.proofs.states.add_clocks.Goals as goal

pub returns-in-Definition : goal.returns-in-Definition
returns-in-Definition c = λ x. with-one x c.in-Definition.clock c.args.clocks.now c.insert.new.self c.args.watched.now c.insert.ensures c.in-Definition.is

pub returns-in-Relation : goal.returns-in-Relation
returns-in-Relation c = grind (arith, common_steps, with-two)
