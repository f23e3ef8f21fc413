use Rattle.std.proofs.Common.{◌≡◌, ◌≤◌, length}
use Rattle.ccsl_base.specs.Decimal.{number_up_to}
use Rattle.ccsl_base.proofs.Digits.{number_behind}
use Rattle.ccsl_base.proofs.numeral.decimal.Given as goal

abbrev pub invariant-digits : goal.invariant-digits
invariant-digits l = record {
  fits : l.value ≤ l.most;
  same : number_behind l.most l.value l.rest ≡ number_up_to l.most l.fn.text;
}

abbrev pub decreases-digits : goal.decreases-digits
decreases-digits l = length l.rest
