-- The next definition.
use Rattle.std.proofs.Common.{◌≤◌, ◌+◌, map, length, length-append, ap, ◌∙◌, arith}
use Rattle.ccsl_ast.specs.Plain.{plain_definition}
use Rattle.ccsl_rules.specs.Levels.{level, counted}
use Rattle.ccsl_spaces.specs.Callees.{seen_call}
use Rattle.ccsl_faults.specs.Levels.{seen_sort}
use Rattle.ccsl_faults.proofs.Heights.{levels-step, greatest-step}
use Rattle.ccsl_faults.proofs.levels.add_levels.Goals as goal

pub loop-definition-preserved : goal.loop-definition-preserved
loop-definition-preserved c =
    let seen = c.loop-definition.levels.items in
    let calls = map seen_call c.args.calls.now in
    let items = c.in_ok-push.ensures.items in
    let few : c.level-next.result ≤ length seen + 1 = omega (arith, c.level-next.ensures.few, ap length c.deref.ensures.value) in (
      levels-step (seen_sort c.args.sort) calls plain_definition c.args.definitions.now seen c.loop-definition-test.true c.definition-item.is items
          (c.level-next.ensures.level ∙ ap (λ l. level calls l (counted (seen_sort c.args.sort) (plain_definition c.definition-item.result)))
          c.deref.ensures.value)
          c.loop-definition.invariant.0,
      rw items (greatest-step seen c.level-next.result c.loop-definition.invariant.1 few),
      rw items (omega (arith, length-append seen, c.loop-definition.invariant.2)),
    )
