use Rattle.std.proofs.Common.{rules, arith}
use Rattle.std.proofs.lemmas.Grind.{common_steps}
use Rattle.ccsl_items.proofs.formulas.put_formulas.Goals as goal

pub returns-clause-formulas : goal.returns-clause-formulas
returns-clause-formulas c = search rules

pub returns-clause-count : goal.returns-clause-count
returns-clause-count c = search rules

pub loop-item-preserved : goal.loop-item-preserved
loop-item-preserved c = grind (arith, common_steps)
