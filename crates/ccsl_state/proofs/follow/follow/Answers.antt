-- Each visit leaves what is done done and what waits untouched, and at the end nothing waits.
use Rattle.std.proofs.lemmas.Grind.{common_steps}
use Rattle.std.proofs.Common.{◌≡◌, ◌+◌, length, ap, subst, arith}
use Rattle.std.proofs.lemmas.Option.{slice_get-get_or}
use Rattle.ccsl_formula.specs.declared.scope.Scope.{Scope}
use Rattle.ccsl_state.specs.Regions.{trees_from}
use Rattle.ccsl_state.specs.Passing.{IsFollowed}
use Rattle.ccsl_state.specs.Visits.{IsEntered}
use Rattle.ccsl_state.proofs.Each.{places_len}
use Rattle.ccsl_state.proofs.WholeLaws.{whole_regions}
use Rattle.ccsl_state.proofs.StandLaws.{trees_len}
use Rattle.ccsl_state.proofs.Visiting.{begins, ends, one_more, later, reader, visit_is, lowest_below, lowest_above, lowest_most, unsettled_wait, readers_wait}
use Rattle.ccsl_state.proofs.Visiting.{followed_wait}
use Rattle.ccsl_state.proofs.follow.follow.Goals as goal

pub visits-init : goal.visits-init
visits-init c =
    let K = c.args.lay.now.system.now in
    let F = c.args.readers.now.followed in
    let sets = c.args.readers.now.sets.items in
    let p = c.args.passage.now in
    begins K c.requires.accepted F sets c.requires.readers c.args.step.now p.gone (trees_from c.args.lay.now 0 c.args.row.now) c.requires.kept.within
    p.unsettled p.waiting (trees_len K c.args.lay.now.earlier.now K.definitions c.args.row.now) c.requires.low c.requires.ascends c.requires.kept
    (unsettled_wait sets p.unsettled c.args.step.now p.waiting c.requires.waiting)
    (readers_wait sets p.unsettled c.args.step.now p.waiting c.requires.waiting)
    (followed_wait sets p.unsettled c.args.step.now p.waiting c.requires.waiting (IsFollowed K F) c.requires.kept.few
    (λ q y h. (reader K c.requires.accepted F sets c.requires.readers q y h).0))

pub bounds-places-i : goal.bounds-places-i
bounds-places-i c = grind (arith, common_steps, places_len)

pub bounds-flats-i : goal.bounds-flats-i
bounds-flats-i c = grind (arith, common_steps)

pub visit-visited-requires : goal.visit-visited-requires
visit-visited-requires c = grind (arith, common_steps, places_len, whole_regions, slice_get-get_or)

pub visits-preserved : goal.visits-preserved
visits-preserved c =
    let K = c.args.lay.now.system.now in
    let i = c.in-Some.i in
    let clock : c.scope.result.declared + i ≡ K.declared + i = ap (λ (s : Scope). s.declared + i) c.scope.ensures.scope in
    let v = visit_is c.args.lay.now i _ c.args.readers.now.sets.items c.visits.row c.visit-visited.new.row c.visit-visited.result c.visits.step c.enter.new.step
    c.visits.passage c.visit-visited.new.passage c.enter.new.passage clock c.visit-visited.ensures.visited c.visit-visited.ensures.same
    (subst (λ sets. IsEntered sets i (c.scope.result.declared + i) c.visit-visited.result c.visits.step c.enter.new.step c.visit-visited.new.passage
    c.enter.new.passage) c.as_slice.ensures.value c.enter.ensures) in
    one_more K c.requires.accepted c.args.readers.now.followed c.args.readers.now.sets.items c.requires.readers c.args.step.now c.args.passage.now.gone
    (trees_from c.args.lay.now 0 c.args.row.now) c.requires.kept.within
    _ _ _ _ _ _ _ _ _ _ i _ _ _ _ c.visits.invariant v c.in-Some.ensures.member c.in-Some.ensures.least

pub visits-smaller : goal.visits-smaller
visits-smaller c =
    let K = c.args.lay.now.system.now in
    let n = length K.definitions in
    let i = c.in-Some.i in
    let clock : c.scope.result.declared + i ≡ K.declared + i = ap (λ (s : Scope). s.declared + i) c.scope.ensures.scope in
    let v = visit_is c.args.lay.now i _ c.args.readers.now.sets.items c.visits.row c.visit-visited.new.row c.visit-visited.result c.visits.step c.enter.new.step
    c.visits.passage c.visit-visited.new.passage c.enter.new.passage clock c.visit-visited.ensures.visited c.visit-visited.ensures.same
    (subst (λ sets. IsEntered sets i (c.scope.result.declared + i) c.visit-visited.result c.visits.step c.enter.new.step c.visit-visited.new.passage
    c.enter.new.passage) c.as_slice.ensures.value c.enter.ensures) in
    let within = (c.visits.invariant.followed i c.in-Some.ensures.member).0 in
    let before = lowest_below n c.visits.passage.waiting i c.in-Some.ensures.member in
    let most = lowest_most n c.enter.new.passage.waiting in
    let after = lowest_above n i c.enter.new.passage.waiting within
    (later K c.requires.accepted c.args.readers.now.followed c.args.readers.now.sets.items c.requires.readers c.args.step.now c.args.passage.now.gone
    (trees_from c.args.lay.now 0 c.args.row.now) c.requires.kept.within
    _ _ _ _ _ _ _ _ _ _ i _ _ _ _ c.visits.invariant v c.in-Some.ensures.member c.in-Some.ensures.least) in
    omega (arith, before, most, after)

pub returns-clause-kept : goal.returns-clause-kept
returns-clause-kept c =
    let p = c.args.passage.now in
    let q = c.visits.passage in
    ends c.args.lay.now.system.now c.requires.accepted c.args.readers.now.followed c.args.readers.now.sets.items c.requires.readers c.args.step.now p.gone
    (trees_from c.args.lay.now 0 c.args.row.now) c.requires.kept.within
    (trees_from c.args.lay.now 0 c.visits.row) c.visits.step q.gone q.waiting q.unsettled c.visits.invariant c.in_default.ensures.none
