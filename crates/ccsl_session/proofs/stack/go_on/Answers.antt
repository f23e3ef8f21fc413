use Rattle.std.proofs.Common.{◌∙◌}
use Rattle.ccsl_session.proofs.StackStates.{goes-on}
use Rattle.ccsl_session.proofs.stack.go_on.Goals as goal

pub loop-set-preserved : goal.loop-set-preserved
loop-set-preserved c = record {
  system = c.advance.ensures.system ∙ c.loop-set.invariant.system;
  stands = λ T stands few.
      let K = c.args.states.now.system in
      goes-on K T c.args.sets.now c.loop-set.set-index _ c.loop-set.states c.advance.new.self c.loop-set-test.true c.set-item.is c.loop-set.invariant.system
      (c.loop-set.invariant.stands T stands few) c.advance.ensures.stands few;
}
