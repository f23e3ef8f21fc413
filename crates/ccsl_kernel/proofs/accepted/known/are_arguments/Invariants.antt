use Rattle.std.proofs.Common.{ℕ, ◌<◌, get_or, map}
use Rattle.ccsl_kernel.specs.declared.expr.Value.{Value}
use Rattle.ccsl_kernel.specs.declared.group.ParamKind.{ParamKind}
use Rattle.ccsl_kernel.specs.Plain.{plain_group}
use Rattle.ccsl_kernel.specs.Accepted.{IsArgument}
use Rattle.ccsl_kernel.proofs.accepted.known.are_arguments.Given as goal

abbrev pub invariant-loop-i : goal.invariant-loop-i
invariant-loop-i l = (j : ℕ) (k : ParamKind) (v : Value) → j < l.i →
    IsArgument (map plain_group l.here.groups.now) l.here.words.now l.here.clocks l.here.params.now (get_or l.params j k) (get_or l.arguments j v)
