use Rattle.std.proofs.Common.{◌≡◌, true, get_or, sym, ◌∙◌, rules}
use Rattle.ccsl_base.specs.Letters.{is_digit}
use Rattle.ccsl_base.proofs.Digits.{number-over}
use Rattle.ccsl_base.proofs.numeral.decimal.Goals as goal

pub returns-in_err-value : goal.returns-in_err-value
returns-in_err-value c =
    let digit : is_digit (get_or c.digits.rest.now 0 0) ≡ true = search rules in
    c.from_residual.ensures
    ∙ sym (number-over c.args.most c.digits.value c.digits.rest.now c.in-len1-up.len_at_least digit c.in_err-value.ensures)
    ∙ c.digits.invariant.same
