use Rattle.std.proofs.Common.{[], sym, subst, arith}
use Rattle.std.proofs.lemmas.Result.{IfOk-at_ok, IfErr-at_err}
use Rattle.ccsl_edge.specs.declared.slot.Slot.TheVariants.{Trace}
use Rattle.ccsl_edge.proofs.Reading.{Reads-none}
use Rattle.ccsl_certify.specs.Replaying.{Goes}
use Rattle.ccsl_certify.proofs.trace.Replaying.begin.Goals as goal

pub returns-in-Err-clause-unread : goal.returns-in-Err-clause-unread
returns-in-Err-clause-unread g c = record { bytes = []; reads = Reads-none g.W.World.told Trace _; near = λ n ends. omega arith }

pub follow_header-follower-requires : goal.follow_header-follower-requires
follow_header-follower-requires g c = record {
  unbound = c.in-Ok.ensures.unbound;
  feeds = (c.args.limits.now, c.in-Ok.ensures.feeds g.W.World.told (g.W.World.state c.args.world.now));
}

pub returns-in-Ok-both-clause-goes : goal.returns-in-Ok-both-clause-goes
returns-in-Ok-both-clause-goes g c =
    let start = g.W.World.state c.args.world.now in
    let now = g.W.World.state c.follow_header-follower.new.world in
    subst (λ feed. Goes g.W.World.told c.args.system.now c.args.limits.now start now feed c.in-Ok-both.follower) (sym c.in-Ok-both.ensures.pair.0)
    (IfOk-at_ok _ c.in-Ok-both.ensures.pair.1 c.follow_header-follower.ensures.goes c.args.limits.now (c.in-Ok.ensures.feeds g.W.World.told start))

pub returns-in-Err-both-clause-unread : goal.returns-in-Err-both-clause-unread
returns-in-Err-both-clause-unread g c =
    IfErr-at_err _ c.in-Err-both.ensures.fault c.follow_header-follower.ensures.unread c.args.limits.now
    (c.in-Ok.ensures.feeds g.W.World.told (g.W.World.state c.args.world.now))
