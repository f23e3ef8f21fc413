-- One, the parameters and the body, each as far as it is counted.
use Rattle.std.proofs.Common.{◌≡◌, List, length, map, ap, ◌∙◌, arith}
use Rattle.ccsl_kernel.specs.declared.group.Body.{Body as BoxedBody}
use Rattle.ccsl_kernel.specs.Plain.{plain_body, plain_group}
use Rattle.ccsl_kernel.specs.Cells.{saturated, greatest, cells_in}
use Rattle.ccsl_kernel.proofs.accepted.cells.group_cells.Goals as goal

pub returns : goal.returns
returns c =
    let members = plain_group c.args.group.now in
    let params : c.most_params.result ≡ saturated (greatest (map (λ b. length b.params) members)) =
    c.most_params.ensures ∙ ap (λ (bs : List BoxedBody). saturated (greatest (map (λ b. length b.params) (map plain_body bs)))) c.members-members.ensures in
    let cells : c.most_cells.result ≡ saturated (greatest (map (λ b. cells_in c.args.earlier.now b.root) members)) =
    c.most_cells.ensures ∙ ap (λ (bs : List BoxedBody). saturated (greatest (map (λ b. cells_in c.args.earlier.now b.root) (map plain_body bs))))
    c.members-members.ensures in
    omega (arith, c.saturated.ensures, params, cells)
