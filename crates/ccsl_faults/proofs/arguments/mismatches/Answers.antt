-- The next parameter and its argument, and the end.
use Rattle.std.proofs.Common.{inl, inr}
use Rattle.ccsl_rules.specs.Uses.{mismatch}
use Rattle.ccsl_faults.specs.Scenes.{seen_scene}
use Rattle.ccsl_faults.proofs.Walks.{zip-step, zip-end}
use Rattle.ccsl_faults.proofs.arguments.mismatches.Goals as goal

pub loop-param-preserved : goal.loop-param-preserved
loop-param-preserved c =
    zip-step (λ a. mismatch (seen_scene c.args.scene.now) a.0 a.1) c.loop-param.worst c.in-Some.ensures.steps.0 c.in-Some.ensures.steps.1
    c.earlier-worst.ensures
    c.mismatch.ensures c.loop-param.invariant

pub returns : goal.returns
returns c =
    zip-end (λ a. mismatch (seen_scene c.args.scene.now) a.0 a.1) c.loop-param.worst c.loop-param.param-iterator.a.rest.now
    c.loop-param.param-iterator.b.rest.now
    (elim c.in-None.ensures.steps [ inl h ↦ inl h.1.0 | inr h ↦ inr h.1.0 ]) c.loop-param.invariant
