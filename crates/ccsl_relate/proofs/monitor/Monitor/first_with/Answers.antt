use Rattle.std.proofs.Common.{◌≡◌, ◌+◌, Some, None, refl, sym, ap, ◌∙◌, arith}
use Rattle.ccsl_base.proofs.Cases.{none-of}
use Rattle.ccsl_relate.specs.Watching.{Watching}
use Rattle.ccsl_relate.proofs.History.{one-set}
use Rattle.ccsl_relate.proofs.Passing.{row-taken, items-have-room, same-undeclared, items-counted}
use Rattle.ccsl_relate.proofs.Ranges.{fit-on}
use Rattle.ccsl_relate.proofs.Resting.{rests}
use Rattle.ccsl_relate.proofs.Undeclared.{some-of}
use Rattle.ccsl_relate.proofs.monitor.Monitor.first_with.Goals as goal
use Rattle.ccsl_relate.proofs.monitor.Monitor.first_with.Goals.{Else-is_some}

-- nothing was violated before
none : (c : Else-is_some) → c.self.inside.first ≡ None
none c = none-of c.self.inside.first (sym c.is_some.ensures ∙ c.if-is_some.false)

pub first_violated-requires-clause-room : goal.first_violated-requires-clause-room
first_violated-requires-clause-room c =
    items-have-room 1 1 (omega arith) c.as_mut_slice-kept.ensures.value c.self.view_is (none (goal.at.first_violated-requires-clause-room c).Else-is_some)
    c.requires

pub returns-then-is_some-clause-takes : goal.returns-then-is_some-clause-takes
returns-then-is_some-clause-takes c =
    let x = some-of c.self.inside.first (sym c.is_some.ensures ∙ c.if-is_some.true) in
    let v = c.args.self.now in
    let same = ap (λ (u : Watching). u.first) c.self.view_is in
    rests (sym same ∙ x.1) (one-set c.args.row.now c.ascends.ensures.ascending) (ap (λ o. record v { steps = v.steps + 1; first = o }) same)

pub returns-clause-takes : goal.returns-clause-takes
returns-clause-takes c =
    row-taken c.self.inside.kept (Some c.in_ok-place.place) refl c.as_mut_slice-kept.ensures.value c.self.view_is
    (none (goal.at.returns-clause-takes c).Else-is_some) c.ascends.ensures.ascending c.in_ok-place.ensures

pub returns-in_err-place-clause-takes : goal.returns-in_err-place-clause-takes
returns-in_err-place-clause-takes c =
    rw c.from_residual.ensures
    (row-taken c.self.inside.kept None refl c.as_mut_slice-kept.ensures.value c.self.view_is
    (none (goal.at.returns-in_err-place-clause-takes c).Else-is_some) c.ascends.ensures.ascending c.in_err-place.ensures)

pub invariant_of-self : goal.invariant_of-self
invariant_of-self c = (
  c.self.invariant.0,
  fit-on c.self.inside.kept c.self.inside.readers c.first_violated.new.kept c.as_mut_slice-kept.ensures.value c.first_violated.ensures.items.clocks
      c.self.invariant.1,
  c.self.invariant.2,
)

pub invariant_of-self-2 : goal.invariant_of-self-2
invariant_of-self-2 c = (
  c.self.invariant.0,
  fit-on c.self.inside.kept c.self.inside.readers c.first_violated.new.kept c.as_mut_slice-kept.ensures.value c.first_violated.ensures.items.clocks
      c.self.invariant.1,
  c.self.invariant.2,
)

pub first_violated-requires-clause-undeclared : goal.first_violated-requires-clause-undeclared
first_violated-requires-clause-undeclared c = λ p e.
    let first = none (goal.at.first_violated-requires-clause-undeclared c).Else-is_some in
    same-undeclared c.self.inside.undeclared 1 c.self.view_is first e c.requires c.self.invariant.0

pub first_violated-requires-clause-few : goal.first_violated-requires-clause-few
first_violated-requires-clause-few c = rw c.as_mut_slice-kept.ensures.value (omega (arith, items-counted 1 c.self.view_is c.requires))
