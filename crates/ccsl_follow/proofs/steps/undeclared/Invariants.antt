use Rattle.ccsl_relate.proofs.Undeclared.{IsRange}
use Rattle.ccsl_follow.proofs.steps.undeclared.Given as goal

abbrev pub invariant-loop-clock : goal.invariant-loop-clock
invariant-loop-clock l = IsRange l.system.declared l.clock l.clocks
