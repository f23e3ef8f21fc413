use Rattle.std.proofs.Common.{◌≡◌, map, true, sym, subst, ◌∙◌}
use Rattle.ccsl_triggers.specs.Held.{held}
use Rattle.ccsl_events.specs.Keeping.{is_known, Knows}
use Rattle.ccsl_events.proofs.Kept.{declared}
use Rattle.ccsl_events.proofs.values.Values.change.Goals as goal

pub returns-then-branch-clause-kept : goal.returns-then-branch-clause-kept
returns-then-branch-clause-kept c plan views k =
    let hs = map held c.args.self.now.signals.items in
    let code = c.args.code.now in
    let knows = subst (Knows plan hs code) (sym c.find-known.ensures) (k.codes code) in
    let is : is_known c.find-known.result ≡ true = sym c.in_ok-change_known.ensures.declared ∙ c.if-branch.true in
    (declared plan hs code c.find-known.result knows ∙ is, c.in_ok-change_known.ensures.keeps plan views code k knows is)
