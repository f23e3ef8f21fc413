use Rattle.std.proofs.Common.{Some, None, length, sym, ap, ◌∙◌, arith, lt-ltb, le-ltb}
use Rattle.std.proofs.lemmas.Option.{slice_get_within}
use Rattle.ccsl_formula.specs.declared.scope.Scope.{Scope}
use Rattle.ccsl_session.proofs.NamedSets.{declared-found}
use Rattle.ccsl_session.proofs.asked.declared_clock.Goals as goal

pub returns-in_err-clock-clause-place : goal.returns-in_err-clock-clause-place
returns-in_err-clock-clause-place c =
    c.from_residual.ensures ∙ sym (declared-found c.args.system.now c.args.name.now None (rw c.names.ensures.names at c.in_err-clock.ensures.place))

pub returns-then-clock-scope-clause-place : goal.returns-then-clock-scope-clause-place
returns-then-clock-scope-clause-place c =
    let low = ap (λ (s : Scope). s.declared) c.scope.ensures.scope in
    rw (
      declared-found c.args.system.now c.args.name.now (Some c.in_ok-clock.clock) (rw c.names.ensures.names at c.in_ok-clock.ensures.place),
      lt-ltb c.in_ok-clock.clock c.args.system.now.declared (omega (arith, low)),
    )

pub returns-then-clock-scope-clause-below : goal.returns-then-clock-scope-clause-below
returns-then-clock-scope-clause-below c =
    let within = slice_get_within c.names.result.now c.in_ok-clock.clock c.args.name.now c.in_ok-clock.ensures.there in
    let names = ap (λ ns. length ns) c.names.ensures.names in
    let few = c.names.ensures.accepted.few_clocks in
    omega arith

pub returns-else-clock-scope-clause-place : goal.returns-else-clock-scope-clause-place
returns-else-clock-scope-clause-place c =
    let low = ap (λ (s : Scope). s.declared) c.scope.ensures.scope in
    rw (
      declared-found c.args.system.now c.args.name.now (Some c.in_ok-clock.clock) (rw c.names.ensures.names at c.in_ok-clock.ensures.place),
      le-ltb c.in_ok-clock.clock c.args.system.now.declared (omega (arith, low)),
    )
