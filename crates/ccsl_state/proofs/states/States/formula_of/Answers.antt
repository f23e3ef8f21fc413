-- The formula is that of the item, and reads named clocks alone.
use Rattle.std.proofs.Common.{arith}
use Rattle.std.proofs.lemmas.Grind.{common_steps}
use Rattle.ccsl_state.specs.Held.{calls_of}
use Rattle.ccsl_state.specs.Laid.{held}
use Rattle.ccsl_state.proofs.StandLaws.{trees_len, stands_formula, formula_below}
use Rattle.ccsl_state.proofs.states.States.formula_of.Goals as goal

pub returns-clause-formula : goal.returns-clause-formula
returns-clause-formula c = grind (arith, common_steps, stands_formula)

pub returns-clause-below : goal.returns-clause-below
returns-clause-below c =
    let h = held c.self.inside in
    rw (← c.self.view_is, c.in_ok-item_formula.ensures, c.as_slice-2.ensures.value)
    (formula_below h c.self.invariant.accepted c.self.invariant.below (trees_len h.system (calls_of h.system) h.system.definitions h.row) c.args.item)
