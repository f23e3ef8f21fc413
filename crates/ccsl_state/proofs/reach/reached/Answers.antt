-- One definition more: its clock is a member, and then so are those that it names, or is none.
use Rattle.std.proofs.lemmas.Grind.{common_steps}
use Rattle.std.proofs.Common.{◌≡◌, ◌+◌, ◌-◌, true, sym, ap, subst, ◌∙◌, arith}
use Rattle.ccsl_base.specs.Clocks.{ticks_in}
use Rattle.ccsl_formula.specs.declared.scope.Scope.{Scope}
use Rattle.ccsl_kernel.specs.Plain.{plain_expr}
use Rattle.ccsl_state.proofs.ReachLaws.{names_few, ReachedSo, reached_past, reached_more}
use Rattle.ccsl_state.proofs.reach.reached.Goals as goal
use Rattle.ccsl_kernel.proofs.Completion.{past_declared}

pub add_named-requires : goal.add_named-requires
add_named-requires c = names_few c.args.system.now c.definition.ensures.accepted (c.loop-i.i - 1) (plain_expr c.definition.result.now)
    c.definition.ensures.definition

pub loop-i-preserved-then-has : goal.loop-i-preserved-then-has
loop-i-preserved-then-has c =
    let K = c.args.system.now in
    let i = c.loop-i.i - 1 in
    let up : c.loop-i.i ≡ i + 1 = omega arith in
    let clock : c.scope-declared.result.declared + i ≡ K.declared + i = ap (λ (s : Scope). s.declared + i) c.scope-declared.ensures.scope in
    let is_in : ticks_in (K.declared + i) c.loop-i.set ≡ true = ap (λ x. ticks_in x c.loop-i.set) (sym clock) ∙ sym c.has.ensures.member ∙ c.if-has.true in
    reached_more K c.scope-declared.ensures.accepted c.args.clocks.now c.loop-i.set i (plain_expr c.definition.result.now) c.add_named.new.set
    c.definition.ensures.definition
    (subst (ReachedSo K c.args.clocks.now c.loop-i.set) up c.loop-i.invariant) is_in c.add_named.ensures

pub loop-i-preserved : goal.loop-i-preserved
loop-i-preserved c = grind (arith, common_steps, reached_past)

pub returns-clause-closed : goal.returns-clause-closed
returns-clause-closed c = λ x y e is h named low.
    let past = past_declared c.args.system.now x e is in
    c.loop-i.invariant.closed x y e (omega arith) is h named low
