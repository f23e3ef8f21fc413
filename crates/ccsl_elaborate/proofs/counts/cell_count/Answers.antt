use Rattle.std.proofs.Common.{◌≡◌, ℕ, List, IfOk, subst, sym, ap, ap₂, ◌∙◌, []}
use Rattle.ccsl_ast.specs.Files.{plain_file}
use Rattle.ccsl_rules.specs.Spaces.{Known, Callee}
use Rattle.ccsl_rules.specs.Counts.{count_behind}
use Rattle.ccsl_elaborate.specs.TreeCells.{tree_cells, groups_before}
use Rattle.ccsl_elaborate.proofs.CellTotal.{file_groups, cells-agree}
use Rattle.ccsl_elaborate.proofs.counts.cell_count.Goals as goal

pub returns : goal.returns
returns c =
    let library = plain_file c.args.library.now in
    let file = plain_file c.args.file.now in
    let groups : c.deref.result.now ≡ file_groups library file =
    c.deref.ensures.value ∙ c.in_ok-groups.ensures
    ∙ ap (λ (K : List (Known Callee)). groups_before K (groups_before K [] library.definitions) file.definitions) c.in_ok-calls.ensures in
    subst (λ x. IfOk c.file_weight.result (λ n. n ≡ x))
    (ap₂ (λ (K : List (Known Callee)) (G : List ℕ). count_behind (record { definition = tree_cells K G; constraint = 2 }) K library file) c.in_ok-calls.ensures
    groups ∙ sym (cells-agree library file))
    c.file_weight.ensures
