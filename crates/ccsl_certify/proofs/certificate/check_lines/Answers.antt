use Rattle.std.proofs.Common.{◌≡◌, map, sym, ap, ◌∙◌, rules}
use Rattle.ccsl_formula.specs.Plain.{plain}
use Rattle.ccsl_refute.specs.Validity.{first_bad_line}
use Rattle.ccsl_refute.proofs.FirstBad.{none-certificate}
use Rattle.ccsl_kernel.specs.Verdict.{completed_rows}
use Rattle.ccsl_items.specs.Formulas.{item_formulas, scope_of}
use Rattle.ccsl_certify.proofs.certificate.check_lines.Goals as goal

pub returns-in-Ok-check-clause-answers : goal.returns-in-Ok-check-clause-answers
returns-in-Ok-check-clause-answers c = λ bound rows h.
    let K = c.args.system.now in
    let lines = c.args.lines.now in
    let items = item_formulas K (completed_rows K rows) in
    let same : map plain c.deref.result.now ≡ items = ap (map plain) c.deref.ensures.value ∙ c.in-Ok.ensures.formulas (completed_rows K rows) h.1.stands in (
      h.0,
      none-certificate (scope_of K) items lines
          (sym (ap (λ s. first_bad_line s items lines) c.scope.ensures.scope) ∙ sym (ap (λ fs. first_bad_line c.scope.result fs lines) same)
          ∙ c.in-Ok-check.ensures.answers),
    )

pub returns-in-Ok-check-clause-memory : goal.returns-in-Ok-check-clause-memory
returns-in-Ok-check-clause-memory c = search rules

pub returns-in-Err-BadLine-clause-answers : goal.returns-in-Err-BadLine-clause-answers
returns-in-Err-BadLine-clause-answers c = search rules
