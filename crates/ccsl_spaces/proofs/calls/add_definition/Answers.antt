use Rattle.std.proofs.Common.{rules, arith}
use Rattle.std.proofs.lemmas.Grind.{common_steps}
use Rattle.ccsl_spaces.proofs.calls.add_definition.Goals as goal

pub returns-in_ok-add_members-in-Group-clause-next : goal.returns-in_ok-add_members-in-Group-clause-next
returns-in_ok-add_members-in-Group-clause-next c = search rules

pub returns-in_ok-add-in-Relation-clause-added : goal.returns-in_ok-add-in-Relation-clause-added
returns-in_ok-add-in-Relation-clause-added c = grind (arith, common_steps)
