use Rattle.std.proofs.Common.{◌+◌, map, flat_map, length, ap, ◌∙◌}
use Rattle.ccsl_ast.specs.Plain.{plain_sline}
use Rattle.ccsl_ast.specs.Files.{plain_file}
use Rattle.ccsl_rules.specs.Expansion.{declared_names, expand}
use Rattle.ccsl_rules.specs.Counts.{cut, clock_weights, count_behind, file_count}
use Rattle.ccsl_elaborate.proofs.Cuts.{cut-sum}
use Rattle.ccsl_elaborate.proofs.counts.clock_count.Goals as goal

pub returns : goal.returns
returns c =
    let library = plain_file c.args.library.now in
    let file = plain_file c.args.file.now in
    let declared = c.declared_count.ensures ∙ ap (λ ls. cut (length (flat_map declared_names (map plain_sline ls)))) c.members.ensures in
    let defined = c.in_ok-defined.ensures ∙ ap (λ K. count_behind clock_weights K library file) c.in_ok-calls.ensures in
    c.saturating_add.ensures
    ∙ (ap (λ x. cut (c.declared_count.result + x)) defined
    ∙ cut-sum c.declared_count.result (file_count clock_weights library file) (length (flat_map declared_names file.lines))
    (cut (length (expand library file).names)) declared
    (c.counts_are_lengths.ensures library file).1)
