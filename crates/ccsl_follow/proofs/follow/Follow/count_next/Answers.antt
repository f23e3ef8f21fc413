use Rattle.std.proofs.Common.{slice_index_or, ap, ◌∙◌, arith}
use Rattle.ccsl_base.specs.Clocks.{ticks_in}
use Rattle.ccsl_causes.specs.Counted.{counted}
use Rattle.ccsl_kernel.specs.Verdict.{completed_rows}
use Rattle.ccsl_relate.proofs.History.{X-length}
use Rattle.ccsl_follow.proofs.Counted.{counted-more}
use Rattle.ccsl_follow.proofs.follow.Follow.count_next.Goals as goal

pub returns-clause-counted : goal.returns-clause-counted
returns-clause-counted c = λ rows has few.
    let old = c.args.self.now in
    let K = old.steps.part.system in
    let T = completed_rows K rows in
    let step = c.step-step.ensures ∙ c.go_on.ensures.step T has.stands in
    counted-more old.steps.part c.go_on.new.self.part old.counts c.count_step.new.counts rows c.args.row.now
    c.go_on.ensures.system c.go_on.ensures.followed has
    (c.go_on.ensures.stands T has.stands (omega (arith, X-length K rows, few))) c.count_step.ensures.clocks
    (λ x within. c.count_step.ensures.counts x within ∙ ap (λ s. counted (ticks_in x s) (slice_index_or old.counts x 0)) step)
