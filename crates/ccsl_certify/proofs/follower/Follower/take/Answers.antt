use Rattle.std.proofs.Common.{◌++◌, length, sym, ap, ◌∙◌, subst}
use Rattle.ccsl_kernel.specs.Syntax.{System}
use Rattle.ccsl_relate.specs.Watching.{Watching, StandsFor}
use Rattle.ccsl_certify.specs.Replaying.{AreAfter}
use Rattle.ccsl_certify.proofs.follower.Follower.take.Goals as goal

pub returns : goal.returns
returns c = λ K bound rows f few.
    let e = c.advance_all.ensures.monitor in
    let all = rows ++ c.args.block.now.rows in
    record {
      own = ap (λ s. s.now) c.advance_all.ensures.system ∙ f.own;
      system = ap (λ (m : Watching). m.system) e ∙ c.check_block.ensures.system ∙ f.system;
      start = ap (λ (m : Watching). m.start) e ∙ c.check_block.ensures.start ∙ f.start;
      count = ap (λ (m : Watching). length m.kept) e ∙ c.check_block.ensures.count ∙ f.count;
      stands = subst (λ (m : Watching). StandsFor bound m all) (sym e) (c.check_block.ensures.stands bound rows f.stands few);
      after =
          subst (λ (X : System). AreAfter X all c.advance_all.new.self.states) f.own
          (c.advance_all.ensures.after rows (subst (λ (X : System). AreAfter X rows c.args.self.now.states) (sym f.own) f.after) few);
    }
