use Rattle.std.proofs.Common.{arith}
use Rattle.ccsl_kernel.proofs.AcceptedParts.{accepted_guarded}
use Rattle.ccsl_state.proofs.TreeFollows.{tree_theorem}
use Rattle.ccsl_state.proofs.laws.trees_mean.Goals as goal

pub returns : goal.returns
returns c = λ K ok T gone e ρ b n few. tree_theorem K (accepted_guarded K ok).bodies T gone e ρ b n (omega (arith, few))
