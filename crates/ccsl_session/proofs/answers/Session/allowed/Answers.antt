use Rattle.std.proofs.Common.{◌≡◌, ◌∙◌, ◌++◌, List, ℕ, length, sym, ap, subst, refl, true}
use Rattle.std.proofs.lemmas.Result.{on_ok_weaker}
use Rattle.ccsl_base.specs.Clocks.{are_below}
use Rattle.ccsl_kernel.specs.Lives.{Step}
use Rattle.ccsl_kernel.specs.Runs.{completed}
use Rattle.ccsl_possible.specs.Possible.{allowed_clocks}
use Rattle.ccsl_session.specs.Answers.{allowed_text}
use Rattle.ccsl_session.proofs.Stacks.{stack-runs}
use Rattle.ccsl_session.proofs.Choices.{allowed-named}
use Rattle.ccsl_session.proofs.answers.Session.allowed.Goals as goal
use Rattle.ccsl_session.proofs.answers.Session.allowed.Goals.{In_ok-set}

set_is : (c : In_ok-set)
    → c.in_ok-set.set ≡ allowed_clocks c.args.self.now.stack.system.now (completed c.args.self.now.stack.system.now c.args.self.now.stack.sets.items)
set_is c =
    let stands = c.requires.stands in
    let K = c.args.self.now.stack.system.now in
    let R = c.args.self.now.stack.sets.items in
    c.in_ok-set.ensures (completed K R) stands.states.stands (stack-runs K stands.accepted R c.requires.stack)

pub put_allowed-requires : goal.put_allowed-requires
put_allowed-requires c =
    let K = c.args.self.now.stack.system.now in
    let R = c.args.self.now.stack.sets.items in
    subst (λ (s : Step). are_below (length K.names) s ≡ true) (sym (set_is (goal.at.put_allowed-requires c).In_ok-set))
    (allowed-named K c.requires.stands.accepted (completed K R))

pub returns-clause-answers : goal.returns-clause-answers
returns-clause-answers c =
    let K = c.args.self.now.stack.system.now in
    on_ok_weaker c.put_allowed.result
    (λ (written : c.put_allowed.new.out.items ≡ c.clear.new.self.items ++ allowed_text K c.in_ok-set.set). record {
      text = written ∙ ap (λ (bs : List ℕ). bs ++ allowed_text K c.in_ok-set.set) c.clear.ensures.items
          ∙ ap (allowed_text K) (set_is (goal.at.returns-clause-answers c).In_ok-set);
      sets = refl;
      stands = c.requires.stands;
    })
    c.put_allowed.ensures
