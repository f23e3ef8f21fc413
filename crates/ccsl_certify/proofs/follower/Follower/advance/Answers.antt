use Rattle.std.proofs.Common.{ap, filter, nat_lt, ◌∙◌}
use Rattle.ccsl_formula.specs.declared.scope.Scope.{Scope}
use Rattle.ccsl_certify.proofs.Following.{after-more}
use Rattle.ccsl_certify.proofs.follower.Follower.advance.Goals as goal

pub returns-clause-after : goal.returns-clause-after
returns-clause-after c = λ rows a few.
    let K = c.args.self.now.system.now in
    after-more K rows c.args.row.now c.args.self.now.states c.advance.new.self c.below-declared.result a
    (c.below-declared.ensures.members ∙ ap (λ (s : Scope). filter (λ x. nat_lt x s.declared) c.args.row.now.ticks) c.scope.ensures.scope)
    c.advance.ensures.system c.advance.ensures.stands few
