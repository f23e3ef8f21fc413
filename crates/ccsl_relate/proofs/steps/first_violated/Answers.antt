use Rattle.std.proofs.Common.{refl}
use Rattle.ccsl_relate.proofs.steps.first_violated.Goals as goal

pub returns-in-Some : goal.returns-in-Some
returns-in-Some c = rw c.in-Some.is (record { step = c.next_step.new.step; completed = c.next_step.ensures.completed; items = c.first_read.ensures })

pub returns-in-None : goal.returns-in-None
returns-in-None c = rw c.in-None.is (record {
  step = c.args.ticks.now;
  completed = λ K T after few. record { step_is = refl; known = λ x. refl; after = tt };
  items = c.first_read-in-None.ensures;
})
