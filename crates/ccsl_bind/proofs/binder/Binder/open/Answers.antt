use Rattle.std.proofs.Common.{◌≡◌, ◌≤◌, [], sym, ap, ◌∙◌, subst, arith, length, take, ◌+◌}
use Rattle.std.proofs.lemmas.Grind.{common_steps}
use Rattle.std.specs.List.{slice_get}
use Rattle.ccsl_base.specs.Names.{are_distinct}
use Rattle.ccsl_base.specs.declared.limits.TheConstants.{MAX_CLOCKS}
use Rattle.ccsl_bind.specs.Codes.{codes_of}
use Rattle.ccsl_bind.specs.Candidates.{AllSumUp}
use Rattle.ccsl_bind.proofs.Declaring.{Named, named-more}
use Rattle.ccsl_bind.proofs.binder.Binder.open.Goals as goal

pub loop-clock-preserved : goal.loop-clock-preserved
loop-clock-preserved c =
    subst (λ os. Named c.add.new.self c.args.system.now.names os (c.loop-clock.clock + 1)) (sym c.in_ok-push.ensures.items)
    (named-more c.loop-clock.names c.add.new.self c.args.system.now.names c.loop-clock.found.items c.loop-clock.clock c.get.result.now c.in_ok-add.field-0
    (ap are_distinct (sym c.names.ensures.names) ∙ c.get.ensures.distinct)
    (ap (λ ns. slice_get ns c.loop-clock.clock) (sym c.names.ensures.names) ∙ c.get.ensures.name) c.loop-clock.invariant c.in_ok-add.ensures.added)

pub returns : goal.returns
unfolding codes_of
returns c =
    let n = let k : c.loop-clock.clock ≡ c.written-clock-end.result = omega arith in k ∙ c.written-clock-end.ensures.written in
    let names = c.loop-clock.invariant.names_are ∙ ap (λ i. take i c.args.system.now.names) n in
    record {
      wanted = ap (λ ns. record { names = ns; declared = c.scope.result.declared }) names
          ∙ ap (λ d. record { names = take c.args.system.now.written c.args.system.now.names; declared = d }) (ap (λ s. s.declared) c.scope.ensures.scope);
      codes = c.with_hasher.ensures;
      found = subst (λ t. AllSumUp t [] c.loop-clock.names c.loop-clock.found.items) (sym c.with_hasher.ensures) c.loop-clock.invariant.found;
      few =
          let e : length c.loop-clock.names ≡ length (take c.loop-clock.clock c.args.system.now.names) = ap length c.loop-clock.invariant.names_are in
          let f : length c.args.system.now.names ≤ MAX_CLOCKS = c.written-clock-end.ensures.accepted.few_clocks in
          grind (arith, common_steps, e, f);
    }
