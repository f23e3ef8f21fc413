-- The sum so far, and the rest, is the whole.
use Rattle.std.proofs.Common.{◌≡◌, drop}
use Rattle.ccsl_rules.specs.Settings.{prim_number, sum_from}
use Rattle.ccsl_expand.proofs.argument.sum.Given as goal

abbrev pub invariant-loop-part : goal.invariant-loop-part
invariant-loop-part l = sum_from l.setting l.total (drop l.part-index l.part-items) ≡ sum_from l.setting (prim_number l.setting l.term.first) l.term.rest
