use Rattle.std.proofs.Common.{ℕ, []}
use Rattle.ccsl_lines.specs.Held.{calls_left}
use Rattle.ccsl_session.specs.Laws.{IsStack}
use Rattle.ccsl_session.specs.Stack.{Stands}
use Rattle.ccsl_session.specs.Answering.{system_of, sets_of, SameTask}
use Rattle.ccsl_session.specs.Going.{Goes}
use Rattle.ccsl_session.proofs.world.run.Given as goal

-- the lines so far are answered
abbrev pub invariant-lines : goal.invariant-lines
invariant-lines g l =
    let first = l.fn.session in
    let state = g.W.World.state in
    record {
      task : SameTask first l.session;
      stands : Stands l.session.stack;
      stack : IsStack (system_of l.session) (sets_of l.session);
      goes : (limit : ℕ) → Goes g.W.World.told (system_of first) first.policy first.seed limit (state l.fn.world) (state l.fn.world) l.fn.lines (sets_of first)
          [] →
          Goes g.W.World.told (system_of first) first.policy first.seed limit (state l.fn.world) (state l.world) l.lines (sets_of l.session) [];
    }

abbrev pub decreases-lines : goal.decreases-lines
decreases-lines g l = calls_left l.lines
