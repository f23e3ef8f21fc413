use Rattle.std.proofs.Common.{◌≡◌, [], true, sym, ◌∙◌, arith, rules}
use Rattle.ccsl_base.specs.Clocks.{are_below}
use Rattle.ccsl_follow.proofs.Declared.{stands-declared}
use Rattle.ccsl_follow.proofs.states.states_of.Goals as goal

pub returns-then-are_declared-clause-stands : goal.returns-then-are_declared-clause-stands
returns-then-are_declared-clause-stands c =
    let declared : are_below c.args.system.now.declared c.args.clocks.now ≡ true = sym c.are_declared.ensures ∙ c.if-are_declared.true in
    stands-declared c.args.system.now c.args.clocks.now declared [] (omega arith)

pub returns-clause-has : goal.returns-clause-has
returns-clause-has c = search rules
