use Rattle.std.proofs.Common.{Some, None, sym}
use Rattle.ccsl_session.proofs.NamedSets.{asked-with}
use Rattle.ccsl_session.proofs.asked.asked_with.Goals as goal

pub returns-in-Some : goal.returns-in-Some
returns-in-Some c = asked-with c.args.system.now c.args.word.now c.args.first.now c.args.others.now (Some c.in-Some.set) (sym c.if-not-is_text.ensures)
    c.in-Some.ensures

pub returns-in-None : goal.returns-in-None
returns-in-None c = asked-with c.args.system.now c.args.word.now c.args.first.now c.args.others.now None (sym c.if-not-is_text.ensures) c.in-None.ensures
