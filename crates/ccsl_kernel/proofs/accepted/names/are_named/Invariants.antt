use Rattle.std.proofs.Common.{ℕ, ◌<◌, List, get_or, nat_lt, cond}
use Rattle.std.specs.Prelude.{IsTrue}
use Rattle.ccsl_base.specs.Name.{is_name}
use Rattle.ccsl_kernel.specs.Accepted.{is_hidden}
use Rattle.ccsl_kernel.proofs.accepted.names.are_named.Given as goal

abbrev pub invariant-loop-i : goal.invariant-loop-i
invariant-loop-i l = (k : ℕ) (d : List ℕ) → k < l.i → IsTrue (cond (nat_lt k l.written) (is_name (get_or l.names k d)) (is_hidden (get_or l.names k d)))
