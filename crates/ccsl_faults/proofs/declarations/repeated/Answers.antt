-- The next declaration.
use Rattle.std.proofs.Common.{take, drop, ap, sym, ◌∙◌}
use Rattle.ccsl_rules.specs.Faults.{least, where_so, Duplicate}
use Rattle.ccsl_rules.specs.Spaces.{repeated, spots}
use Rattle.ccsl_spaces.specs.Knowns.{names}
use Rattle.ccsl_faults.proofs.Repeats.{repeated-step}
use Rattle.ccsl_faults.proofs.declarations.repeated.Goals as goal

pub loop-place-preserved : goal.loop-place-preserved
loop-place-preserved g c =
    let found =
    c.where_so-found.ensures ∙ ap (λ d. least (where_so c.is_repeated.result Duplicate d.name.now.at)) (sym c.index-declared-place.is)
    ∙ ap (λ b. least (where_so b Duplicate c.index-declared-place.result.name.now.at)) c.is_repeated.ensures in
    repeated-step c.declared-declared.result.now c.args.space.now c.loop-place.worst
    {all = least (repeated (take c.args.from (names c.args.space.now)) (drop c.args.from (spots c.args.space.now)))} c.declared-declared.ensures
    c.loop-place-test.true c.index-declared-place.is
    c.earlier-worst.ensures found c.loop-place.invariant
