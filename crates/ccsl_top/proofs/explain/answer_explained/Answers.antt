use Rattle.std.proofs.Common.{ap, refl}
use Rattle.ccsl_items.specs.Formulas.{scope_of}
use Rattle.ccsl_top.specs.Outcome.{outcome}
use Rattle.ccsl_top.specs.Explaining.{possible}
use Rattle.ccsl_top.proofs.Members.{few-members, are-members, valid-lines}
use Rattle.ccsl_top.proofs.Running.{run-blocked, run-breaks}
use Rattle.ccsl_top.proofs.explain.answer_explained.Goals as goal

pub returns-in_ok-explain_open-in-Open-clause-answers : goal.returns-in_ok-explain_open-in-Open-clause-answers
returns-in_ok-explain_open-in-Open-clause-answers g c =
    λ fs why.
    possible c.in-Open._set (rw c.in-Open.is at why) (ap (outcome 1) c.in_ok-explain_open-in-Open.ensures) refl

pub blocked_report-requires-clause-few : goal.blocked_report-requires-clause-few
blocked_report-requires-clause-few g c =
    let K = c.args.system.now in
    let why = rw c.in-Blocked.is at c.requires.explained.2 in
    rw c.members.ensures
    (few-members K c.requires.accepted (scope_of K) c.requires.explained.0 c.in-Blocked.core why.is_core c.requires.explained.1)

pub blocked_report-requires-clause-members : goal.blocked_report-requires-clause-members
blocked_report-requires-clause-members g c =
    let K = c.args.system.now in
    let why = rw c.in-Blocked.is at c.requires.explained.2 in
    rw (c.members.ensures, c.members-in-Blocked.ensures)
    (are-members K c.requires.accepted (scope_of K) c.requires.explained.0 c.in-Blocked.core why.is_core c.requires.explained.1 c.in-Blocked.without refl
    why.least)

pub answer_blocked-requires-clause-below : goal.answer_blocked-requires-clause-below
answer_blocked-requires-clause-below g c =
    let K = c.args.system.now in
    let why = rw c.in-Blocked.is at c.requires.explained.2 in
    rw c.members-in-Blocked-2.ensures
    (c.valid_lines_name_clocks.ensures (scope_of K) c.requires.explained.0 c.in-Blocked.lines
    (valid-lines (scope_of K) c.requires.explained.0 c.in-Blocked.lines why.certificate))

pub returns-in_ok-report-in-Blocked-clause-answers : goal.returns-in_ok-report-in-Blocked-clause-answers
returns-in_ok-report-in-Blocked-clause-answers g c =
    run-blocked g.W.World.told c.args.system.now c.args.cert.now c.args.steps (g.W.World.state c.args.world.now) c.members.ensures
    c.members-in-Blocked-2.ensures c.members-in-Blocked.ensures c.in-Blocked.is (g.W.World.state c.answer_blocked.new.world)
    c.in_ok-report-in-Blocked.ensures c.answer_blocked.result c.answer_blocked.ensures.answers

pub returns-in_ok-report-in-Blocked-clause-stop : goal.returns-in_ok-report-in-Blocked-clause-stop
returns-in_ok-report-in-Blocked-clause-stop g c =
    run-breaks g.W.World.told c.args.system.now c.args.cert.now c.args.steps (g.W.World.state c.args.world.now) c.members.ensures
    c.members-in-Blocked-2.ensures c.members-in-Blocked.ensures c.in-Blocked.is (g.W.World.state c.answer_blocked.new.world)
    c.answer_blocked.result c.answer_blocked.ensures.stop
