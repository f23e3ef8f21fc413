use Rattle.std.proofs.Common.{◌+◌, ◌-◌, ◌^◌, ◌<◌, length, take}
use Rattle.ccsl_events.specs.Dump.{Plan, Place}
use Rattle.ccsl_events.specs.Standing.{Stands}
use Rattle.ccsl_events.specs.Run.{Runs}
use Rattle.ccsl_events.proofs.Run.{IsRest}
use Rattle.ccsl_events.proofs.body.Body.run.Given as goal

abbrev pub invariant-tokens : goal.invariant-tokens
invariant-tokens l = record {
  rest : IsRest l.piece l.rest;
  runs : (plan : Plan) (p : Place) → Stands plan p l.fn.self → l.at + length l.piece < 2 ^ 64 →
      Runs plan p l.at (take (length l.piece - length l.rest) l.piece) l.self l.fn.out.items l.out.items;
}

abbrev pub decreases-tokens : goal.decreases-tokens
decreases-tokens l = length l.rest
