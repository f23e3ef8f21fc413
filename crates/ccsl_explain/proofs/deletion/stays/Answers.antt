use Rattle.std.proofs.Common.{◌≡◌, ◌∙◌, List, Bool, false, true, Some, map, slice_get, sym, ap, subst, arith, rules}
use Rattle.std.proofs.lemmas.Option.{MatchOption-at_none, MatchOption-at_some, slice_get-get_or}
use Rattle.ccsl_formula.specs.Formula.{Formula}
use Rattle.ccsl_formula.specs.declared.formula.Formula.TheVariants.{True}
use Rattle.ccsl_formula.specs.declared.formula.Formula.{Formula as Boxed}
use Rattle.ccsl_formula.specs.Plain.{plain}
use Rattle.ccsl_refute.specs.declared.line.Line.{Line}
use Rattle.ccsl_refute.specs.Validity.{is_certificate}
use Rattle.ccsl_explain.specs.Asked.{IsAsked, HasStep}
use Rattle.ccsl_explain.specs.Core.{Block}
use Rattle.ccsl_explain.specs.Used.{IsUsed}
use Rattle.ccsl_explain.proofs.Deletions.{put-back, unused-block}
use Rattle.ccsl_explain.proofs.Masks.{asked-without}
use Rattle.ccsl_explain.proofs.deletion.stays.Goals as goal
use Rattle.ccsl_explain.proofs.deletion.stays.Goals.{After-put_back}

pub returns-then-not-index-clause-used : goal.returns-then-not-index-clause-used
returns-then-not-index-clause-used c =
    let us = c.args.used.now.items in
    let is_unused : slice_get us c.args.item ≡ Some false =
    slice_get-get_or us c.args.item c.index.result.now (omega (arith, c.requires.item, c.requires.marks))
    ∙ ap (λ (b : Bool). Some b) (sym c.index.ensures ∙ c.if-not-index.true) in
    subst (λ (fs : List Formula). Block c.args.scope.now fs (IsUsed us)) (sym c.take_out-formula.ensures.out)
    (unused-block c.args.scope.now (map plain c.args.formulas.now) us c.args.item is_unused c.requires.used)

pub refutation-requires : goal.refutation-requires
refutation-requires c =
    subst (λ (fs : List Formula). IsAsked c.args.scope.now fs) (sym c.take_out-formula.ensures.out)
    (asked-without c.args.scope.now (map plain c.args.formulas.now) c.args.item c.requires.asked)

-- the item is back
back : (c : After-put_back) → c.put_back.new.formulas ≡ c.args.formulas.now
back c =
    put-back c.args.formulas.now c.take_out-formula.new.formulas c.put_back.new.formulas c.args.item True c.take_out-formula.result
    c.take_out-formula.ensures.list c.take_out-formula.ensures.formula c.put_back.ensures

pub returns-in-None-clause-used : goal.returns-in-None-clause-used
returns-in-None-clause-used c =
    subst (λ (fs : List Boxed). Block c.args.scope.now (map plain fs) (IsUsed c.args.used.now.items))
    (sym (back (goal.at.returns-in-None-clause-used c).After-put_back)) c.requires.used

pub returns-in-None-clause-stays : goal.returns-in-None-clause-stays
returns-in-None-clause-stays c =
    let scope = c.args.scope.now in
    let fs = map plain c.take_out-formula.new.formulas in
    let step : HasStep scope fs =
    MatchOption-at_none (HasStep scope fs) (λ (lines : List Line). is_certificate scope fs lines ≡ true) c.in-None.is c.in_ok-refutation.ensures in (
      ap (map plain) (back (goal.at.returns-in-None-clause-stays c).After-put_back),
      subst (λ (fs : List Formula). HasStep c.args.scope.now fs) c.take_out-formula.ensures.out step,
    )

pub returns-in_ok-used-in-Some-clause-used : goal.returns-in_ok-used-in-Some-clause-used
returns-in_ok-used-in-Some-clause-used c =
    let scope = c.args.scope.now in
    let fs = map plain c.take_out-formula.new.formulas in
    let found : is_certificate scope fs c.in-Some.lines ≡ true =
    MatchOption-at_some (HasStep scope fs) (λ (lines : List Line). is_certificate scope fs lines ≡ true) c.in-Some.lines c.in-Some.is
    c.in_ok-refutation.ensures in
    c.in_ok-used-in-Some.ensures.block scope fs (ap (λ (lines : List Line). is_certificate scope fs lines) c.members.ensures ∙ found)

pub returns-then-not-index-clause-stays : goal.returns-then-not-index-clause-stays
returns-then-not-index-clause-stays c = search rules
