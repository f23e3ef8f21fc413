use Rattle.std.proofs.Common.{◌+◌, ◌++◌, ◌∷◌, drop, length, sym, ap, ◌∙◌, arith}
use Rattle.ccsl_rules.specs.Texts.{argument_texts}
use Rattle.ccsl_rules.specs.Settings.{argument_atoms}
use Rattle.ccsl_rules.specs.Unfolded.{arguments}
use Rattle.ccsl_expand.specs.Seen.{seen_atom}
use Rattle.ccsl_expand.proofs.Walks.{drop-at, count-at, arguments-step, nothing-more, drop-past}
use Rattle.ccsl_expand.proofs.frame.bind_arguments.Goals as goal

pub loop-i-preserved : goal.loop-i-preserved
loop-i-preserved c =
    let args = c.args.args.now in
    let i = c.loop-i.i in
    let a = c.index-args-i.result in
    let params = c.args.params.now in
    let words = c.args.words.now in
    let outer = c.args.outer.now in
    let e = drop-at args i a c.loop-i-test.true c.index-args-i.is in
    let n = count-at argument_texts args i a c.loop-i-test.true c.index-args-i.is in
    record {
      setting =
          ap (λ k. c.in_ok-setting.setting ++ arguments (drop (i + 1) params) (argument_atoms words outer k (drop (i + 1) args))) c.in_ok-atom.ensures.next
          ∙ arguments-step params i (seen_atom c.in_ok-atom.atom) (argument_atoms words outer (c.loop-i.next + length (argument_texts a)) (drop (i + 1) args))
          c.loop-i.setting c.in_ok-setting.setting _
          c.in_ok-setting.ensures
          (ap (λ x. c.loop-i.setting ++ arguments (drop i params)
          (x ∷ argument_atoms words outer (c.loop-i.next + length (argument_texts a)) (drop (i + 1) args))) c.in_ok-atom.ensures.value
          ∙ (ap (λ xs. c.loop-i.setting ++ arguments (drop i params) (argument_atoms words outer c.loop-i.next xs)) (sym e) ∙ c.loop-i.invariant.setting));
      next = omega (arith, c.in_ok-atom.ensures.next);
    }

pub returns-clause-setting : goal.returns-clause-setting
returns-clause-setting c =
    nothing-more (drop c.loop-i.i c.args.params.now) c.loop-i.setting _
    (ap (λ xs. c.loop-i.setting ++ arguments (drop c.loop-i.i c.args.params.now) (argument_atoms c.args.words.now c.args.outer.now c.loop-i.next xs))
    (sym (drop-past c.args.args.now c.loop-i.i c.loop-i-test.false)) ∙ c.loop-i.invariant.setting)
