use Rattle.std.proofs.Common.{length, sym, ap, subst, zero-mul}
use Rattle.ccsl_state.specs.Held as states
use Rattle.ccsl_policy.specs.Generator as generator
use Rattle.ccsl_simulate.proofs.Runs.{run-zero}
use Rattle.ccsl_simulate.proofs.simulator.Simulator.open.Goals as goal

pub returns-clause-stands : goal.returns-clause-stands
returns-clause-stands c =
    let none = run-zero c.args.system.now c.args.policy c.args.seed in
    record {
      system = c.in_ok-states.ensures.system;
      accepted = c.is_accepted.ensures;
      steps = ap length none;
      states = subst (states.StandsFor c.in_ok-states.states) (sym none) c.in_ok-states.ensures.stands;
      draw = subst (λ k. generator.StandsFor c.new.result c.args.seed k) (sym (zero-mul c.args.system.now.declared)) c.new.ensures;
    }
