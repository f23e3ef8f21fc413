-- Definition by definition, each under the ticks found so far.
use Rattle.ccsl_kernel.proofs.Completion.{completion_obeys, declared-completed, completion_named}
use Rattle.ccsl_kernel.proofs.AcceptedParts.{accepted_guarded, accepted_scoped}
use Rattle.ccsl_kernel.proofs.laws.completion_exists.Goals as goal

pub returns : goal.returns
returns c = λ K ok R h. record {
  obeys = completion_obeys K (accepted_guarded K ok) (accepted_scoped K ok) R h;
  declared = declared-completed K R h;
  named =
      completion_named K R h;
}
