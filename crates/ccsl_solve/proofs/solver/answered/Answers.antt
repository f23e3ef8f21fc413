use Rattle.std.proofs.Common.{ap, rules}
use Rattle.ccsl_formula.specs.Known.{known}
use Rattle.ccsl_solve.proofs.Parts.{inside-under}
use Rattle.ccsl_solve.proofs.Answering.{model-step}
use Rattle.ccsl_solve.proofs.solver.answered.Goals as goal

pub returns-in-None : goal.returns-in-None
returns-in-None c =
    let found = rw (c.in-None.is, ap known c.copy-part.ensures) at c.in_ok-searched.ensures.finds in
    model-step c.args.problem.now (known c.args.fixed.now) (known c.searched.new.part) c.ticking.result found
    c.ticking.ensures.below c.ticking.ensures.above c.requires.posed.declared

pub refutation-requires-clause-inside : goal.refutation-requires-clause-inside
refutation-requires-clause-inside c =
    let found = rw (c.in-Some.is, ap known c.copy-part.ensures) at c.in_ok-searched.ensures.finds in
    inside-under c.args.problem.now.scope.named (known c.in-Some.conflict.part.value) (known c.args.fixed.now) found.1.within c.requires.fixed

pub refutation-requires-clause-conflict : goal.refutation-requires-clause-conflict
refutation-requires-clause-conflict c =
    let found = rw (c.in-Some.is, ap known c.copy-part.ensures) at c.in_ok-searched.ensures.finds in
    (known c.args.fixed.now, found.1)

pub returns-in_ok-lines-in-Some : goal.returns-in_ok-lines-in-Some
returns-in_ok-lines-in-Some c =
    let found = rw (c.in-Some.is, ap known c.copy-part.ensures) at c.in_ok-searched.ensures.finds in
    c.in_ok-lines-in-Some.ensures (known c.args.fixed.now) found.1.within

pub searched-requires-clause-sound : goal.searched-requires-clause-sound
searched-requires-clause-sound c = search rules
