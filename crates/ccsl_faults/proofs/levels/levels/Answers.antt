use Rattle.std.proofs.Common.{map, ap, sym, ◌∙◌}
use Rattle.ccsl_ast.specs.Plain.{plain_definition}
use Rattle.ccsl_rules.specs.Levels as rules
use Rattle.ccsl_spaces.specs.Callees.{seen_call}
use Rattle.ccsl_faults.specs.Levels.{seen_sort}
use Rattle.ccsl_faults.proofs.Heights.{levels-append}
use Rattle.ccsl_faults.proofs.levels.levels.Goals as goal

pub returns-clause-levels : goal.returns-clause-levels
returns-clause-levels c =
    c.in_ok-add_levels-2.ensures.levels
    ∙ ap (λ l. rules.levels (seen_sort c.args.sort) (map seen_call c.args.calls.now) l (map plain_definition c.args.file.now))
    (c.in_ok-add_levels.ensures.levels
    ∙ ap (λ l. rules.levels (seen_sort c.args.sort) (map seen_call c.args.calls.now) l (map plain_definition c.args.library.now)) c.new-levels.ensures.items)
    ∙ sym (levels-append (seen_sort c.args.sort) (map seen_call c.args.calls.now) _ (map plain_definition c.args.library.now)
    (map plain_definition c.args.file.now))
