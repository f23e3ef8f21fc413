use Rattle.std.proofs.Common.{Some, None, ap, ◌∙◌}
use Rattle.ccsl_rules.specs.Spaces.{look}
use Rattle.ccsl_spaces.specs.Knowns.{known}
use Rattle.ccsl_expand.proofs.Callees.{callee-found}
use Rattle.ccsl_expand.proofs.callee.callee.Goals as goal

pub returns-in-Some : goal.returns-in-Some
returns-in-Some c =
    callee-found c.args.name.now.name c.args.calls.now (Some (known c.in-Some.declaration.now))
    (c.in-Some.ensures ∙ ap (λ n. look n c.args.calls.now) c.bytes.ensures)

pub returns-in-None : goal.returns-in-None
returns-in-None c =
    callee-found c.args.name.now.name c.args.calls.now None (c.in-None.ensures ∙ ap (λ n. look n c.args.calls.now) c.bytes.ensures)
