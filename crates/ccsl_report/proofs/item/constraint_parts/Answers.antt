use Rattle.std.proofs.Common.{ap, sym, ◌∙◌, ◌++◌, List, ℕ}
use Rattle.std.specs.Prelude.{codes, decimal}
use Rattle.std.specs.List.{concat}
use Rattle.ccsl_report.specs.Texts.{of_label}
use Rattle.ccsl_report.proofs.Lengths.{label_at}
use Rattle.ccsl_report.proofs.item.constraint_parts.Goals as goal

pub returns : goal.returns
returns c =
    let label = label_at c.args.system.now.constraints c.args.number _ c.constraint.ensures.constraint in
    ap (λ (rest : List ℕ). codes "constraint " ++ (decimal c.args.number ++ rest))
    (c.of_word.ensures ∙ ap (λ l. concat (of_label l)) (c.bytes-label.ensures ∙ sym label))
