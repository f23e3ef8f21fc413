use Rattle.std.proofs.Common.{◌∙◌, Some, map, slice_set, sym, ap}
use Rattle.std.proofs.lemmas.List.{map-set}
use Rattle.std.proofs.lemmas.Option.{slice_get-get_or}
use Rattle.ccsl_formula.specs.Plain.{plain}
use Rattle.ccsl_formula.specs.declared.formula.Formula.{Formula as Boxed}
use Rattle.ccsl_formula.specs.declared.formula.Formula.TheVariants.{True}
use Rattle.ccsl_explain.proofs.masked.take_out.Goals as goal

pub returns-clause-out : goal.returns-clause-out
returns-clause-out c =
    let fs = c.args.formulas.now in
    ap (λ (f : Boxed). map plain (slice_set fs c.args.item f)) c.replace.ensures.after ∙ map-set plain fs c.args.item True

pub returns-clause-formula : goal.returns-clause-formula
returns-clause-formula c =
    slice_get-get_or c.args.formulas.now c.args.item c.index-formulas-item.result c.requires ∙ ap (λ (f : Boxed). Some f) (sym c.replace.ensures.value)
