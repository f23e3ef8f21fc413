use Rattle.std.proofs.Common.{◌++◌, ◌∷◌, [], length, slice_index_or, sym, ap, ap₂, ◌∙◌, subst, arith}
use Rattle.ccsl_base.specs.Clocks.{ticks_in}
use Rattle.ccsl_causes.specs.Counted.{counted}
use Rattle.ccsl_kernel.specs.Verdict.{completed_rows}
use Rattle.ccsl_relate.proofs.History.{X-length}
use Rattle.ccsl_follow.specs.Counting.{HasCounted}
use Rattle.ccsl_follow.proofs.Counted.{counted-more}
use Rattle.ccsl_follow.proofs.follow.Follow.take.Goals as goal

pub returns-clause-counted : goal.returns-clause-counted
returns-clause-counted c = λ goes rows has few.
    let old = c.args.self.now in
    let row = c.args.row.now in
    let now = c.count.new.self.counts in
    let T = completed_rows old.steps.part.system rows in
    let same = ap length c.keep.ensures.counts in
    let step = ap (λ v. v.step) c.keep.ensures.steps ∙ c.go_on.ensures.step T has.stands in
    subst (λ v. HasCounted v.part now (rows ++ row ∷ [])) (sym (c.count.ensures.steps ∙ c.keep.ensures.steps))
    (counted-more old.steps.part c.go_on.new.self.part old.counts now rows row c.go_on.ensures.system c.go_on.ensures.followed has
    (c.go_on.ensures.stands T has.stands (omega (arith, X-length old.steps.part.system rows, few))) (c.count.ensures.clocks ∙ same)
    (λ x within.
    c.count.ensures.counts x (omega (arith, within, same))
    ∙ ap₂ (λ s n. counted (ticks_in x s) n) step (ap (λ counts. slice_index_or counts x 0) c.keep.ensures.counts)))
