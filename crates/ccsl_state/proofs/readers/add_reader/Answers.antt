-- One clock more.
use Rattle.std.proofs.Common.{arith, rules}
use Rattle.std.proofs.lemmas.Grind.{common_steps}
use Rattle.ccsl_state.proofs.Visiting.{adding_more, adding_within}
use Rattle.ccsl_state.proofs.readers.add_reader.Goals as goal

pub bounds-sets-clock : goal.bounds-sets-clock
bounds-sets-clock c = adding_within c.args.i c.in-Some.clock c.args.clocks.now c.loop-clock.clock-iterator c.next.new.self c.args.sets.now c.loop-clock.sets
    c.in-Some.ensures.steps c.loop-clock.invariant

pub loop-clock-preserved : goal.loop-clock-preserved
loop-clock-preserved c = grind (arith, common_steps, adding_more)

pub loop-clock-init : goal.loop-clock-init
loop-clock-init c = search rules
