use Rattle.std.proofs.Common.{◌≡◌, ◌<◌, ◌+◌, ◌-◌, ◌^◌, true, min, get_or, length, sym, ap, ◌∙◌, subst, arith, rules}
use Rattle.std.specs.Prelude.{slice_set}
use Rattle.std.proofs.lemmas.List.{get_or_default}
use Rattle.ccsl_causes.specs.Counted.{counted}
use Rattle.ccsl_causes.proofs.Visiting.{IsVisiting, visiting-one}
use Rattle.ccsl_causes.proofs.counts.Counts.count_members.Goals as goal

pub loop-clock-preserved-then-at-len : goal.loop-clock-preserved-then-at-len
loop-clock-preserved-then-at-len c =
    let step = c.args.step.now in
    let old = c.args.self.now in
    let now = c.loop-clock.self-inside.ticks.items in
    let clock = c.in-Some.clock in
    let rest = c.next.new.self in
    let is = subst (λ r. IsVisiting (λ _ n. counted true n) 0 step old r now) c.in-Some.ensures.steps c.loop-clock.invariant in
    let inside : clock < length now = omega arith in
    let next : c.saturating_add.result ≡ min (get_or now clock 0 + 1) (2 ^ 64 - 1) =
    c.saturating_add.ensures ∙ ap (λ n. min (n + 1) (2 ^ 64 - 1)) (c.index.ensures ∙ get_or_default now clock c.index.result.now 0 inside) in
    subst (λ n. IsVisiting (λ _ m. counted true m) 0 step old rest (slice_set now clock n)) (sym next)
    (visiting-one (λ _ n. counted true n) 0 step rest old now clock is inside)

pub loop-clock-preserved : goal.loop-clock-preserved
loop-clock-preserved c = search rules
