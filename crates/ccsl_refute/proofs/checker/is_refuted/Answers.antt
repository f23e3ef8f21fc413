use Rattle.std.proofs.Common.{Some, sym, ap, ◌∙◌}
use Rattle.std.proofs.lemmas.Option.{slice_get-map, slice_get-get_or}
use Rattle.std.specs.Option.{option_map}
use Rattle.ccsl_formula.specs.Known.{known}
use Rattle.ccsl_formula.specs.Plain.{plain}
use Rattle.ccsl_refute.specs.Literals.{is_no}
use Rattle.ccsl_refute.specs.Validity.{is_refuted}
use Rattle.ccsl_refute.proofs.checker.is_refuted.Goals as goal

pub returns-in-Some : goal.returns-in-Some
returns-in-Some c =
    let at = c.in-Some.ensures.lookup in
    let found = slice_get-get_or c.args.formulas.now c.args.item c.in-Some.formula.now at.3.0 ∙ ap Some (sym at.1) in
    c.is_no.ensures
    ∙ ap is_no c.kleene.ensures
    ∙ sym (ap (is_refuted (known c.args.part.now)) (slice_get-map plain c.args.formulas.now c.args.item ∙ ap (option_map plain) found))
