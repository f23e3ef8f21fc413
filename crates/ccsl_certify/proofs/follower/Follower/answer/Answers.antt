use Rattle.std.proofs.Common.{length, sym, ap, ◌∙◌, subst}
use Rattle.ccsl_kernel.specs.Syntax.{item_count}
use Rattle.ccsl_kernel.specs.Verdict.{Run}
use Rattle.ccsl_relate.specs.Violations.{Finds}
use Rattle.ccsl_relate.proofs.Verdicts.{obeyed-run, first-violated, finds-all}
use Rattle.ccsl_certify.proofs.follower.Follower.answer.Goals as goal

pub returns-in-Some : goal.returns-in-Some
returns-in-Some c = λ K bound rows f count.
    let m = c.args.self.monitor in
    let all = finds-all K m.system bound rows m.start (length m.kept) c.first.result f.system f.start f.count (c.first.ensures.first bound rows f.stands) in
    first-violated K bound rows c.in-Some.violation (subst (λ o. Finds K bound rows 0 (item_count K) o) c.in-Some.is all)

pub returns : goal.returns
returns c = λ K bound rows f count.
    let m = c.args.self.monitor in
    let all = finds-all K m.system bound rows m.start (length m.kept) c.first.result f.system f.start f.count (c.first.ensures.first bound rows f.stands) in
    (obeyed-run K bound rows (subst (λ o. Finds K bound rows 0 (item_count K) o) c.in-None.is all) ∙ ap Run (sym count), f.after)
