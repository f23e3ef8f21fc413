use Rattle.std.proofs.Common.{◌≡◌, ◌+◌, drop}
use Rattle.std.specs.List.{prefix_len}
use Rattle.ccsl_base.specs.Letters.{is_inner}
use Rattle.ccsl_kernel.proofs.accepted.names.inner_front.Given as goal

abbrev pub invariant-loop-i : goal.invariant-loop-i
invariant-loop-i l = l.i + prefix_len is_inner (drop l.i l.text) ≡ prefix_len is_inner l.text
