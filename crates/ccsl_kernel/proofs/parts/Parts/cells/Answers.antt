use Rattle.std.proofs.Common.{◌≡◌, ℕ, [], List, length, map, sum, ap, ap₂, ◌∙◌, arith}
use Rattle.ccsl_kernel.specs.declared.constraint.Constraint.{Constraint}
use Rattle.ccsl_kernel.specs.declared.expr.Expr.{Expr}
use Rattle.ccsl_kernel.specs.declared.group.Group.{Group}
use Rattle.ccsl_kernel.specs.Plain.{plain_expr, plain_group}
use Rattle.ccsl_kernel.specs.Cells.{saturated, cells_in, groups_cells}
use Rattle.ccsl_kernel.proofs.CellCounts.{capped_all}
use Rattle.ccsl_kernel.proofs.parts.Parts.cells.Goals as goal

pub returns : goal.returns
returns c =
    let parts = c.args.self.now in
    let groups = groups_cells [] (map plain_group parts.groups) in
    let expressions = map plain_expr parts.definitions in
    let earlier : c.as_slice.result.now ≡ map saturated groups =
    c.as_slice.ensures.value ∙ c.in_ok-earlier.ensures ∙ ap (λ (gs : List Group). map saturated (groups_cells [] (map plain_group gs))) c.members.ensures in
    let definitions : c.definitions_cells-definitions.result ≡ saturated (sum (map (cells_in groups) expressions)) =
    c.definitions_cells-definitions.ensures
    ∙ ap₂ (λ (ns : List ℕ) (ds : List Expr). saturated (sum (map (cells_in ns) (map plain_expr ds)))) earlier c.members-2.ensures
    ∙ capped_all groups expressions in
    let constraints : c.saturated-constraints.result ≡ saturated (length parts.constraints) =
    c.saturated-constraints.ensures ∙ ap (λ (cs : List Constraint). saturated (length cs)) c.members-3.ensures in
    omega (arith, definitions, constraints)
