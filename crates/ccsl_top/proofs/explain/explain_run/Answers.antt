use Rattle.std.proofs.Common.{map, ap, ◌∙◌}
use Rattle.ccsl_formula.specs.Plain.{plain}
use Rattle.ccsl_state.specs.Held.{StandsFor}
use Rattle.ccsl_top.proofs.Running.{run-answered}
use Rattle.ccsl_top.proofs.explain.explain_run.Goals as goal

pub returns-clause-answers : goal.returns-clause-answers
returns-clause-answers g c =
    run-answered g.W.World.told c.args.system.now c.args.cert.now c.args.steps (g.W.World.state c.args.world.now)
    (map plain c.deref.result.now) (StandsFor c.args.states.now)
    (λ T t. ap (map plain) c.deref.ensures.value ∙ c.in_ok-put_formulas.ensures.formulas T t) (g.W.World.state c.explain_formulas.new.world)
    c.explain_formulas.result c.explain_formulas.ensures.answers
