use Rattle.std.proofs.Common.{◌+◌, ap, ap₂, ◌∙◌}
use Rattle.ccsl_report.specs.Texts.{periodic_holds_text, periodic_fails_text}
use Rattle.ccsl_top.specs.Outcome.{outcome}
use Rattle.ccsl_top.specs.Periodic.{holds, fails}
use Rattle.ccsl_top.proofs.periodic.related.Goals as goal

pub returns-in-None : goal.returns-in-None
returns-in-None c =
    holds c.in-None.ensures.holds c.in_ok-first.first.items c.in_ok-second.second.items c.in_ok-first.ensures c.in_ok-second.ensures
    (ap (outcome 0)
    (c.in_ok-periodic_holds-in-None.ensures ∙ ap₂ (λ x y. periodic_holds_text x y c.args.relation) c.deref.ensures.value c.deref-in-None.ensures.value))

pub returns : goal.returns
returns c =
    fails c.in-Some.k c.in-Some.ensures.fails c.in_ok-first.first.items c.in_ok-second.second.items c.in_ok-first.ensures c.in_ok-second.ensures
    (ap (outcome 1)
    (c.in_ok-periodic_fails-in-Some.ensures
    ∙ ap₂ (λ x y. periodic_fails_text x y c.args.relation (c.in-Some.k + 1)) c.deref-in-Some.ensures.value c.deref-in-Some-2.ensures.value))
