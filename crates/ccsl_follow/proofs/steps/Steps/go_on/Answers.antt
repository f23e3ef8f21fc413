use Rattle.std.proofs.Common.{◌≡◌, ◌+◌, ◌<◌, ◌^◌, ℕ, List, ◌++◌, ◌∷◌, [], true, length, ap, ◌∙◌, sym, subst}
use Rattle.ccsl_base.specs.Clocks.{are_below}
use Rattle.ccsl_kernel.specs.Lives.{Step}
use Rattle.ccsl_kernel.specs.Runs.{full_step, declared_part}
use Rattle.ccsl_kernel.proofs.Sets.{below-below}
use Rattle.ccsl_state.specs.Part.{HeldPart, part_of, PartStandsFor}
use Rattle.ccsl_follow.specs.Following.{Following}
use Rattle.ccsl_follow.proofs.steps.Steps.go_on.Goals as goal

-- the full step that a row with these ticks completes
abbrev completed_step : HeldPart → List Step → List ℕ → Step
completed_step p T ticks = full_step p.system T (declared_part p.system ticks)

-- the two clauses, of the value as contracts see it
abbrev StepIs : Step → List ℕ → Following → Type 0
StepIs step ticks v = (T : List Step) → PartStandsFor v.part T → step ≡ part_of v.part (completed_step v.part T ticks)

abbrev StandsBehind : HeldPart → List ℕ → Following → Type 0
StandsBehind now ticks v = (T : List Step) → PartStandsFor v.part T → length T + 1 < 2 ^ 64 → PartStandsFor now (T ++ completed_step v.part T ticks ∷ [])

pub go_on-requires : goal.go_on-requires
go_on-requires c =
    let own = c.self.inside.part.system in
    let is = c.put_declared.ensures own c.self.invariant in
    subst (λ s. are_below own.declared s ≡ true) (sym is) (below-below own.declared c.args.ticks.now)

pub returns-clause-step : goal.returns-clause-step
returns-clause-step c =
    let part = c.self.inside.part in
    let is = c.put_declared.ensures part.system c.self.invariant in
    subst (StepIs c.go_on.new.step c.args.ticks.now) c.self.view_is
    (λ T stands. c.go_on.ensures.step T stands ∙ ap (λ s. part_of part (full_step part.system T s)) is)

pub returns-clause-stands : goal.returns-clause-stands
returns-clause-stands c =
    let part = c.self.inside.part in
    let is = c.put_declared.ensures part.system c.self.invariant in
    subst (StandsBehind c.go_on.new.self c.args.ticks.now) c.self.view_is
    (λ T stands few. subst (λ s. PartStandsFor c.go_on.new.self (T ++ full_step part.system T s ∷ [])) is (c.go_on.ensures.stands T stands few))
