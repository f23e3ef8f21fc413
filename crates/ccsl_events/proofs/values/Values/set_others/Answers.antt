use Rattle.std.proofs.Common.{◌+◌, ◌-◌, sym, ap, ap₂, ◌∙◌, arith}
use Rattle.std.proofs.lemmas.List.{length-map}
use Rattle.ccsl_triggers.specs.Held.{held}
use Rattle.ccsl_events.specs.Keeping.{kept, set_chain}
use Rattle.ccsl_events.proofs.Chains.{set_chain-none, set_chain-past, set_chain-one}
use Rattle.ccsl_events.proofs.Kept.{tables-both}
use Rattle.ccsl_events.proofs.values.Values.set_others.Goals as goal

pub returns-in_default-clause-kept : goal.returns-in_default-clause-kept
returns-in_default-clause-kept c =
    let left = c.len-count-end.result - c.variables._count in
    let k = kept c.variables.self in
    sym (set_chain-none left c.args.letters.now c.args.is_dumped k)
    ∙ ap (λ o. set_chain left o c.args.letters.now c.args.is_dumped k) (sym c.in_default.is)
    ∙ c.variables.invariant.goes

pub returns-then-number-len-clause-kept : goal.returns-then-number-len-clause-kept
returns-then-number-len-clause-kept c =
    let left = c.len-count-end.result - c.variables._count in
    let k = kept c.variables.self in
    sym (set_chain-past left c.in-Some.number c.args.letters.now c.args.is_dumped k
    (omega (arith, c.if-number-len.true, c.len.ensures, length-map c.variables.self.signals.items held)))
    ∙ ap (λ o. set_chain left o c.args.letters.now c.args.is_dumped k) (sym c.in-Some.is)
    ∙ c.variables.invariant.goes

pub variables-preserved : goal.variables-preserved
variables-preserved c =
    let left = c.len-count-end.result - c.variables._count in
    let most = c.len-count-end.result - (c.variables._count + 1) in
    let k = kept c.variables.self in
    record {
      goes =
          ap₂ (λ o n. set_chain most o c.args.letters.now c.args.is_dumped n) c.in_ok-next.ensures.next c.in_ok-next.ensures.kept
          ∙ sym (set_chain-one left most c.in-Some.number c.args.letters.now c.args.is_dumped k (omega (arith, c.variables-test.true))
          (omega (arith, c.if-number-len.false, c.len.ensures, length-map c.variables.self.signals.items held)))
          ∙ ap (λ o. set_chain left o c.args.letters.now c.args.is_dumped k) (sym c.in-Some.is)
          ∙ c.variables.invariant.goes;
      same = tables-both c.args.self.now c.variables.self c.set_one.new.self c.variables.invariant.same c.in_ok-next.ensures.same;
      names = c.in_ok-next.ensures.names ∙ c.variables.invariant.names;
    }
