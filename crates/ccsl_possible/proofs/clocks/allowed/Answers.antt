use Rattle.std.proofs.Common.{◌∙◌, List, map, ap, sym, subst}
use Rattle.std.proofs.lemmas.Result.{IfOk-at_ok}
use Rattle.ccsl_formula.specs.declared.formula.Formula.{Formula as Boxed}
use Rattle.ccsl_formula.specs.declared.scope.Scope.{Scope}
use Rattle.ccsl_formula.specs.Formula.{Formula}
use Rattle.ccsl_formula.specs.Plain.{plain}
use Rattle.ccsl_items.specs.Formulas.{item_formulas, scope_of}
use Rattle.ccsl_base.proofs.Cases.{if_ok_each}
use Rattle.ccsl_possible.specs.Ticking.{CanBeAsked, AreThoseBelow}
use Rattle.ccsl_possible.proofs.Choosing.{asked, those-allowed}
use Rattle.ccsl_possible.proofs.clocks.allowed.Goals as goal

pub may_tick-requires : goal.may_tick-requires
may_tick-requires c =
    let K = c.args.system.now in
    let put = c.in_ok-put_formulas.ensures in
    subst (λ (s : Scope). CanBeAsked s c.deref.result.now) (sym c.scope.ensures.scope)
    (subst (λ (fs : List Boxed). CanBeAsked (scope_of K) fs) (sym c.deref.ensures.value)
    (asked K c.scope.ensures.accepted c.put_formulas.new.formulas.items put.below put.count))

pub returns : goal.returns
returns c =
    if_ok_each c.may_tick.result _
    (λ clocks is T stands run.
    let K = c.args.system.now in
    let those = IfOk-at_ok _ is c.may_tick.ensures.those in
    let listed = ap (map plain) c.deref.ensures.value ∙ c.in_ok-put_formulas.ensures.formulas T stands in
    let here =
    subst (λ (s : Scope). AreThoseBelow s (item_formulas K T) s.declared clocks) c.scope.ensures.scope
    (subst (λ (fs : List Formula). AreThoseBelow c.scope.result fs c.scope.result.declared clocks) listed those)
    in
    those-allowed K c.scope.ensures.accepted T run clocks (IfOk-at_ok _ is c.may_tick.ensures.ascending) here)
