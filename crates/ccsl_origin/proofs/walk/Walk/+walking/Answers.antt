use Rattle.std.proofs.Common.{◌++◌, ◌∷◌, ap, ◌∙◌}
use Rattle.ccsl_origin.specs.Offsets.{origin_of}
use Rattle.ccsl_origin.proofs.walk.Walk.+walking.Goals as goal

pub is_in-returns-then-branch-clause-found : goal.is_in-returns-then-branch-clause-found
is_in-returns-then-branch-clause-found t c = λ _.
    let led = c.in_ok-is_from.ensures.found c.if-branch.true in
    (c.line-item.result, led.0, led.1 ∙ ap (λ trail. trail ++ origin_of c.args.home c.line-item.result ∷ led.0) c.loop-line.invariant)
