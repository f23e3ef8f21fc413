use Rattle.std.proofs.Common.{◌++◌, List, ℕ, length, nat_lt, slice_get, sym, ap, ◌∙◌}
use Rattle.std.proofs.lemmas.Bool.{and_parts}
use Rattle.ccsl_base.specs.Clocks.{are_below}
use Rattle.ccsl_session.specs.Answers.{blank_names}
use Rattle.ccsl_session.proofs.Texts.{names-more}
use Rattle.ccsl_session.proofs.text.put_names.Goals as goal

pub loop-clock-preserved : goal.loop-clock-preserved
loop-clock-preserved c =
    let K = c.args.system.now in
    let x = c.in-Some.clock in
    let rest = c.next.new.self in
    let out : List ℕ = c.loop-clock.out.items in
    let next = c.in-Some.ensures.steps in
    record {
      text =
          ap (λ bs. bs ++ blank_names K rest) (c.in_ok-extend_from_slice.ensures.items ∙ ap (λ bs. bs ++ c.get.result.now) c.in_ok-push.ensures.items)
          ∙ names-more K x rest out c.get.result.now (sym (ap (λ names. slice_get names x) c.names.ensures.names) ∙ c.get.ensures.name)
          ∙ sym (ap (λ s. out ++ blank_names K s) next)
          ∙ c.loop-clock.invariant.text;
      below = (and_parts (nat_lt x (length K.names)) (are_below (length K.names) rest)
          (sym (ap (are_below (length K.names)) next) ∙ c.loop-clock.invariant.below)).1;
    }
