use Rattle.ccsl_possible.proofs.Choosing.{allowed-ticks, ticks-allowed}
use Rattle.ccsl_possible.proofs.laws.allowed_clocks_may_tick.Goals as goal

pub returns : goal.returns
returns c = λ K ok T r x. (allowed-ticks K T x, λ w. ticks-allowed K T x w.0 w.1 w.2)
