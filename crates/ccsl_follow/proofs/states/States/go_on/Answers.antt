use Rattle.std.proofs.Common.{◌≡◌, ◌+◌, ◌<◌, ◌^◌, List, ◌++◌, ◌∷◌, [], true, None, Option, length, length-append, sym, ap, ◌∙◌, subst, arith}
use Rattle.ccsl_base.specs.Clocks.{are_below}
use Rattle.ccsl_kernel.specs.Lives.{Step}
use Rattle.ccsl_kernel.specs.Runs.{full_step}
use Rattle.ccsl_state.specs.Part.{HeldPart, part_of, PartStandsFor}
use Rattle.ccsl_follow.specs.Following.{held_part, Follows}
use Rattle.ccsl_follow.proofs.Declared.{followed-declared, stands-declared}
use Rattle.ccsl_follow.proofs.states.States.go_on.Goals as goal
use Rattle.ccsl_follow.proofs.states.States.go_on.Goals.{in-Some, in-None}

-- the two clauses, of the states before
abbrev StepIs : Step → Step → HeldPart → Type 0
StepIs step declared p = (T : List Step) → PartStandsFor p T → step ≡ part_of p (full_step p.system T declared)

abbrev StandsBehind : HeldPart → Step → HeldPart → Type 0
StandsBehind now declared p = (T : List Step) → PartStandsFor p T → length T + 1 < 2 ^ 64 → PartStandsFor now (T ++ full_step p.system T declared ∷ [])

pub returns-clause-step : goal.returns-clause-step
returns-clause-step c = λ T stands.
    let K = c.self.inside.system.now in
    let clocks = c.self.inside.clocks in
    let declared = c.args.step.now in
    elim c.match-self.branch [
      | in-Some w ↦
          let is : w.in-Some.part ≡ c.args.self.now = ap (held_part K clocks) (sym w.in-Some.is) ∙ c.self.view_is in
          w.step-is ∙ subst (StepIs w.go_on.new.step declared) is w.go_on.ensures.step T stands
      | in-None w ↦
          let is : held_part K clocks None ≡ c.args.self.now = ap (held_part K clocks) (sym w.in-None.is) ∙ c.self.view_is in
          let all : are_below K.declared clocks ≡ true = subst (Follows K clocks) w.in-None.is c.self.invariant in
          let below : are_below K.declared declared ≡ true = subst (λ (p : HeldPart). are_below p.system.declared declared ≡ true) (sym is) c.requires in
          w.step-is
          ∙ subst (λ (p : HeldPart). declared ≡ part_of p (full_step p.system T declared)) is (followed-declared K clocks all T declared below)
    ]

pub returns-clause-stands : goal.returns-clause-stands
returns-clause-stands c = λ T stands few.
    let K = c.self.inside.system.now in
    let clocks = c.self.inside.clocks in
    let declared = c.args.step.now in
    let step : Step = full_step c.args.self.now.system T declared in
    let fits : length (T ++ step ∷ []) < 2 ^ 64 = omega (arith, length-append T (step ∷ []), few) in
    elim c.match-self.branch [
      | in-Some w ↦
          let is : w.in-Some.part ≡ c.args.self.now = ap (held_part K clocks) (sym w.in-Some.is) ∙ c.self.view_is in
          rw w.self-inside-is (subst (StandsBehind w.go_on.new.self declared) is w.go_on.ensures.stands T stands few)
      | in-None w ↦
          let all : are_below K.declared clocks ≡ true = subst (Follows K clocks) w.in-None.is c.self.invariant in
          rw w.self-inside-is
          (subst (λ (o : Option HeldPart). PartStandsFor (held_part K clocks o) (T ++ step ∷ [])) (sym w.in-None.is)
          (stands-declared K clocks all (T ++ step ∷ []) fits))
    ]
