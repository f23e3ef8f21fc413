use Rattle.std.proofs.Common.{◌≡◌, IfOk, subst, sym, ap, ◌∙◌}
use Rattle.ccsl_ast.specs.Files.{plain_file}
use Rattle.ccsl_rules.specs.Counts.{constraint_weights, count_behind}
use Rattle.ccsl_elaborate.proofs.counts.constraint_count.Goals as goal

pub returns : goal.returns
returns c =
    let library = plain_file c.args.library.now in
    let file = plain_file c.args.file.now in
    subst (λ x. IfOk c.file_weight.result (λ n. n ≡ x))
    (ap (λ K. count_behind constraint_weights K library file) c.in_ok-calls.ensures ∙ sym (c.counts_are_lengths.ensures library file).0)
    c.file_weight.ensures
