-- Its parts are those of the chain.
use Rattle.std.proofs.Common.{map, refl, ap, ◌∙◌}
use Rattle.ccsl_kernel.specs.Plain.{plain_expr, plain_group}
use Rattle.ccsl_chain.proofs.Whole.{whole}
use Rattle.ccsl_chain.proofs.build.parts.Goals as goal

pub returns : goal.returns
returns c =
    whole c.args.clocks c.in_ok-names.field-0 c.args.clocks c.args.clocks (map plain_group c.in_ok-groups.field-0) c.new-4.result (map plain_expr c.new.result)
    c.new-2.result
    c.in_ok-names.ensures refl refl c.in_ok-groups.ensures (c.new-4.ensures ∙ c.new-3.ensures.items)
    (ap (map plain_expr) c.new.ensures ∙ c.in_ok-definitions.ensures) (c.new-2.ensures ∙ c.in_ok-constraints.ensures)
