-- The states go on by some rows, and what the items find of these is what the monitor finds.
use Rattle.std.proofs.Common.{◌≡◌, ◌≤◌, length, take, refl, sym, ap, ◌∙◌, arith, length-take-le}
use Rattle.std.proofs.lemmas.List.{with_items_is}
use Rattle.ccsl_relate.specs.Watching.{Watching}
use Rattle.ccsl_relate.proofs.Passing.{items-have-room, same-undeclared, steps-counted, items-counted}
use Rattle.ccsl_relate.proofs.Ranges.{fit-on}
use Rattle.ccsl_relate.proofs.Through.{rows-taken}
use Rattle.ccsl_relate.proofs.monitor.Monitor.check_part.Goals as goal
use Rattle.ccsl_relate.proofs.monitor.Monitor.check_part.Goals.{After-as_slice}

-- there is room for the steps
room : (c : After-as_slice) → length c.args.rows.now ≤ length c.as_slice.result.now
room c = omega (arith, c.as_slice.ensures.len, c.self.invariant.2, c.requires.part)

pub first_violation-first-requires-clause-room : goal.first_violation-first-requires-clause-room
first_violation-first-requires-clause-room c =
    let n = length c.args.rows.now in
    let at = goal.at.first_violation-first-requires-clause-room c in
    items-have-room _ n (omega (arith, length-take-le n c.as_slice.result.now (room at.After-as_slice))) c.as_mut_slice-kept.ensures.value
    c.self.view_is (ap (λ (u : Watching). u.first) c.self.view_is ∙ c.requires.none) c.requires.few

pub returns-clause-takes : goal.returns-clause-takes
returns-clause-takes c =
    let rows = c.args.rows.now in
    let i = c.self.inside in
    let n = length rows in
    let new = c.complete.new.completed in
    let back : c.as_slice.result.now ≡ new =
    c.as_slice.ensures.value ∙ with_items_is i.completed new (omega (arith, c.complete.ensures.room, c.as_mut_slice-completed.ensures.len)) in
    rows-taken i.kept rows (take n c.as_slice.result.now) n refl c.as_mut_slice-kept.ensures.value c.self.view_is
    (ap (λ (u : Watching). u.first) c.self.view_is ∙ c.requires.none) c.rows_are_sets.ensures refl
    (λ T after few. rw (c.in-Some.is, back) (c.complete.ensures.completed i.system.now T (rw c.in-Some.is at after) few)) c.first_violation-first.ensures

pub invariant_of-self : goal.invariant_of-self
invariant_of-self c = (
  c.self.invariant.0,
  fit-on c.self.inside.kept c.self.inside.readers c.first_violation-first.new.kept c.as_mut_slice-kept.ensures.value c.first_violation-first.ensures.clocks
      c.self.invariant.1,
  c.self.invariant.2,
)

pub complete-requires-clause-undeclared : goal.complete-requires-clause-undeclared
complete-requires-clause-undeclared c =
    let first = ap (λ (u : Watching). u.first) c.self.view_is ∙ c.requires.none in
    same-undeclared c.self.inside.undeclared _ c.self.view_is first c.in-Some.is c.requires.few c.self.invariant.0

pub complete-requires-clause-room : goal.complete-requires-clause-room
complete-requires-clause-room c = omega (arith, c.as_mut_slice-completed.ensures.len, c.self.invariant.2, c.requires.part)

pub slice_bounds-steps-end : goal.slice_bounds-steps-end
slice_bounds-steps-end c = sym (length-take-le (length c.args.rows.now) c.as_slice.result.now (room c))

pub first_violation-first-requires-clause-same : goal.first_violation-first-requires-clause-same
first_violation-first-requires-clause-same c =
    sym (length-take-le (length c.args.rows.now) c.as_slice.result.now (room (goal.at.first_violation-first-requires-clause-same c).After-as_slice))

pub first_violation-first-requires-clause-few : goal.first_violation-first-requires-clause-few
first_violation-first-requires-clause-few c =
    let n = length c.args.rows.now in
    rw (length-take-le n c.as_slice.result.now (room (goal.at.first_violation-first-requires-clause-few c).After-as_slice))
    (steps-counted n n (omega arith) c.self.view_is c.requires.few)

pub first_violation-first-requires-clause-items : goal.first_violation-first-requires-clause-items
first_violation-first-requires-clause-items c = rw c.as_mut_slice-kept.ensures.value (items-counted _ c.self.view_is c.requires.few)

pub overflow_add-self : goal.overflow_add-self
overflow_add-self c = let n = length c.args.rows.now in omega (arith, steps-counted n n (omega arith) c.self.view_is c.requires.few)
