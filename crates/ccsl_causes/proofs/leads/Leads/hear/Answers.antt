use Rattle.std.proofs.Common.{◌≡◌, ◌<◌, true, [], get_or, length, map, sym, ap, ◌∙◌, subst, arith}
use Rattle.std.specs.Prelude.{slice_set}
use Rattle.std.proofs.lemmas.List.{get_or_default}
use Rattle.ccsl_causes.specs.Leading.{begun, led}
use Rattle.ccsl_causes.proofs.Visiting.{IsVisiting, visiting-one}
use Rattle.ccsl_causes.proofs.leads.Leads.hear.Goals as goal

pub loop-clock-preserved-then-at-len : goal.loop-clock-preserved-then-at-len
loop-clock-preserved-then-at-len c =
    let before = c.args.before.now in
    let time = c.args.time in
    let step = c.args.step.now in
    let old = c.args.self.now in
    let now = c.loop-clock.self-inside.sides.items in
    let clock = c.in-Some.clock in
    let rest = c.next.new.self in
    let is = subst (λ r. IsVisiting (λ x leads. led before time true x leads) [] step old r now) c.in-Some.ensures.steps c.loop-clock.invariant in
    let inside : clock < length now = omega arith in
    let next : c.begin.new.self ≡ map (begun before clock time) (get_or now clock []) =
    c.begin.ensures ∙ ap (map (begun before clock time)) (c.index_mut.ensures.value ∙ get_or_default now clock c.index_mut.result.now [] inside) in
    subst (λ a. IsVisiting (λ x leads. led before time true x leads) [] step old rest (slice_set now clock a)) (sym next)
    (visiting-one (λ x leads. led before time true x leads) [] step rest old now clock is inside)
