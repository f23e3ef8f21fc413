use Rattle.std.proofs.Common.{◌≡◌, ◌+◌, ◌/◌, ◌<◌, ◌≤◌, sym, ap₂, ◌∙◌, subst, arith, ⊎_elim, rules}
use Rattle.std.proofs.lemmas.Bool.{cases_lt}
use Rattle.ccsl_judge.specs.Weights.{weight_before, aim}
use Rattle.ccsl_judge.proofs.Weighing.{weight-more}
use Rattle.ccsl_judge.proofs.weights.next_cut.Goals as goal
use Rattle.ccsl_judge.proofs.weights.next_cut.Goals.{else-left-gt1-via-then-left-gt1+else-weight-aim, else-left-gt1-via-else-left-gt1}

pub loop-item-preserved : goal.loop-item-preserved
loop-item-preserved c =
    let K = c.args.system.now in
    let bound = c.args.bound.now in
    let i = c.loop-item.item in
    let cut = c.args.cut in
    let left = c.args.left in
    let goes = aim cut.weight left c.args.all in
    let weight = c.loop-item.weight + c.weight_of-weight.result in
    let weighed : weight ≡ weight_before K bound (i + 1) =
    ap₂ (λ a b. a + b) c.loop-item.invariant.weighed c.weight_of-weight.ensures.weight ∙ sym (weight-more K bound i) in
    let short : 2 ≤ left → weight < goes = λ two. elim c.else-left-gt1.branch [
      | else-left-gt1-via-then-left-gt1+else-weight-aim w ↦ subst (λ r. weight < cut.weight + r / left) c.saturating_sub.ensures
          (omega (arith, w.if-weight-aim.false))
      | else-left-gt1-via-else-left-gt1 w ↦ omega (arith, w.if-left-gt1.false, two)
    ] in
    record {
      weight = omega (arith, c.loop-item.invariant.weight, c.weight_of-weight.ensures.most);
      weighed = weighed;
      below = λ n two more up.
          ⊎_elim (λ (m : n < i + 1). c.loop-item.invariant.below n two more (omega (arith, m)))
          (λ (m : i + 1 ≤ n). let last : i + 1 ≡ n = omega (arith, m, up) in
          subst (λ k. weight_before K bound k < goes) last (subst (λ w. w < goes) weighed (short two)))
          (cases_lt n (i + 1));
    }

pub returns-clause-behind : goal.returns-clause-behind
returns-clause-behind c = search rules

pub returns-clause-last : goal.returns-clause-last
returns-clause-last c = search rules

pub returns-clause-reaches : goal.returns-clause-reaches
returns-clause-reaches c = search rules
