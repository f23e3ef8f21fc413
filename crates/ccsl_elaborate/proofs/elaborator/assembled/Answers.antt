use Rattle.std.proofs.Common.{ℕ, ◌≤◌, subst, sym, ap, ◌∙◌}
use Rattle.ccsl_base.specs.declared.limits.TheConstants.{MAX_CELLS}
use Rattle.ccsl_ast.specs.Files.{plain_file}
use Rattle.ccsl_kernel.specs.Accepted.{IsAccepted}
use Rattle.ccsl_kernel.specs.Cells.{cells}
use Rattle.ccsl_accepts.specs.Acceptance.{IsFile, IsLibrary}
use Rattle.ccsl_elaborate.proofs.Judged.{not-refused}
use Rattle.ccsl_elaborate.proofs.elaborator.assembled.Goals as goal

pub expand-requires-clause-new : goal.expand-requires-clause-new
expand-requires-clause-new c =
    let library = plain_file c.args.library.now in
    let file = plain_file c.args.file.now in
    let kept : IsFile library = record { kept = c.every_file_is_kept.ensures.kept; depth = c.every_file_is_kept.ensures.depth } in
    let kept-2 : IsFile file = record { kept = c.every_file_is_kept-2.ensures.kept; depth = c.every_file_is_kept-2.ensures.depth } in
    let known : IsLibrary library = record { file = kept; accepted = c.requires.library } in
    c.names_are_distinct.ensures.new library file known kept-2 c.requires.faultless

pub expand-requires-clause-few : goal.expand-requires-clause-few
expand-requires-clause-few c = c.requires.faultless.few_clocks

pub assemble-requires-clause-accepted : goal.assemble-requires-clause-accepted
assemble-requires-clause-accepted c =
    let library = plain_file c.args.library.now in
    let file = plain_file c.args.file.now in
    let kept : IsFile library = record { kept = c.every_file_is_kept.ensures.kept; depth = c.every_file_is_kept.ensures.depth } in
    let kept-2 : IsFile file = record { kept = c.every_file_is_kept-2.ensures.kept; depth = c.every_file_is_kept-2.ensures.depth } in
    let known : IsLibrary library = record { file = kept; accepted = c.requires.library } in
    let few = subst (λ (n : ℕ). n ≤ MAX_CELLS) c.requires.cells c.requires.few in
    subst IsAccepted (sym c.in_ok-parts.ensures) (c.files_expand.ensures library file known kept-2 (not-refused library file c.requires.faultless few))

pub assemble-requires-clause-cells : goal.assemble-requires-clause-cells
assemble-requires-clause-cells c = c.requires.cells ∙ ap cells (sym c.in_ok-parts.ensures)

pub returns : goal.returns
returns c =
    let few = subst (λ (n : ℕ). n ≤ MAX_CELLS) c.requires.cells c.requires.few in
    (not-refused (plain_file c.args.library.now) (plain_file c.args.file.now) c.requires.faultless few, c.assemble.ensures ∙ c.in_ok-parts.ensures)
