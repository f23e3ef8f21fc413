use Rattle.std.proofs.Common.{◌≡◌, ◌<◌, ◌-◌, suc, List, length, sym, ap, ◌∙◌, arith, nat_eq}
use Rattle.ccsl_refute.specs.declared.line.Lit.{Lit}
use Rattle.ccsl_refute.specs.Validity.{clause}
use Rattle.ccsl_refute.proofs.Checking.{ends-last, empty-length}
use Rattle.ccsl_refute.proofs.checker.ends_empty.Goals as goal

pub returns-in-Some : goal.returns-in-Some
returns-in-Some c =
    let d = c.args.scope.now.declared in
    let n = length c.args.lines.now - 1 in
    let full : 0 < length c.args.lines.now = c.in-Some.ensures.item.3.0 in
    let size : suc n ≡ length c.args.lines.now = omega arith in
    c.is_empty.ensures
    ∙ ap (λ (ls : List Lit). nat_eq (length ls) 0) (c.clause_of.ensures d c.requires)
    ∙ empty-length (clause d c.in-Some.line.now)
    ∙ sym (ends-last d c.args.lines.now n c.in-Some.line.now size (sym c.in-Some.ensures.value))
