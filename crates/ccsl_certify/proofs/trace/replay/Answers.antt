use Rattle.std.proofs.Common.{length, sym, ap, ◌∙◌}
use Rattle.ccsl_certify.proofs.trace.replay.Goals as goal

pub returns-in-Ok-take_all-clause-replayed : goal.returns-in-Ok-take_all-clause-replayed
returns-in-Ok-take_all-clause-replayed g c =
    let K = c.args.system.now in
    let e = c.in-Ok-take_all.ensures.ended K c.args.limits.now (g.W.World.state c.args.world.now) c.in-Ok.ensures.goes in
    record {
      bound = e.bound;
      rows = e.rows;
      trace = record { row_count = c.in-Ok-take_all.rows; byte_count = e.byte_count; is_read = e.is_read };
      sets = e.follows.stands.sets;
      answers = c.answer.ensures K e.bound e.rows e.follows (e.is_read.ends.counts.rows_are ∙ sym (ap length e.is_read.ends.rows_are));
    }
