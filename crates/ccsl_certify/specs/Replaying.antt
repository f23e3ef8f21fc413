-- WHAT REPLAYING A TRACE ANSWERS: the verdict on its rows, and at a run the states after it.
use Rattle.std.specs.Prelude.{◌≡◌, ℕ, List, true, Option, Some, None, length}
use Rattle.ccsl_base.specs.declared.rows.Row.{Row}
use Rattle.ccsl_edge.specs.World.{State, Told}
use Rattle.ccsl_kernel.specs.Syntax.{System, item_count}
use Rattle.ccsl_kernel.specs.Verdict.{completed_rows, verdict}
use Rattle.ccsl_kernel.specs.Verdict as verdicts
use Rattle.ccsl_state.specs.Held as states
use Rattle.ccsl_bind.specs.Collected.{wanted_of}
use Rattle.ccsl_vcd.specs.declared.limits.Limits.{Limits}
use Rattle.ccsl_relate.specs.Watching as monitors
use Rattle.ccsl_trace.specs.Feeding.{Feeding, bound_of, Feeds}
use Rattle.ccsl_trace.specs.Traces.{IsReadBy}
use Rattle.ccsl_certify.specs.declared.answer.Replayed.{Replayed}
use Rattle.ccsl_certify.specs.declared.answer.Replayed.TheVariants.{Run, NotRun}
use Rattle.ccsl_certify.specs.declared.follower.Follower.{Follower}

-- states of the system after the rows, completed
pub record AreAfter (K : System) (rows : List Row) (h : states.Held) : Type 0 where
  pub system : h.system ≡ K
  pub stands : states.StandsFor h (completed_rows K rows)

-- the answer on a trace with these bound clocks and these rows
abbrev pub Answers : System → List ℕ → List Row → Replayed → Type 0
Answers K bound rows (Run steps h) = (verdict K bound rows ≡ verdicts.Run steps) × AreAfter K rows h
Answers K bound rows (NotRun v) = verdict K bound rows ≡ verdicts.Violated v.step v.time v.item

module _ (told : Told) (K : System) (limits : Limits) (old new : State) where
  -- the trace was read to its end, which has these bound clocks and these rows
  pub record IsTrace (bound : List ℕ) (rows : List Row) : Type 0 where
    pub row_count : ℕ
    pub byte_count : ℕ
    pub is_read : IsReadBy told (wanted_of K) limits old new bound rows row_count byte_count

  pub record IsReplayed (replayed : Replayed) : Type 0 where
    pub bound : List ℕ
    pub rows : List Row
    pub trace : IsTrace bound rows
    pub sets : monitors.are_sets rows ≡ true
    pub answers : Answers K bound rows replayed

-- the monitor of all items and the states have taken these rows
pub record Follows (K : System) (bound : List ℕ) (rows : List Row) (f : Follower) : Type 0 where
  pub own : f.system.now ≡ K
  pub system : f.monitor.system ≡ K
  pub start : f.monitor.start ≡ 0
  pub count : length f.monitor.kept ≡ item_count K
  pub stands : monitors.StandsFor bound f.monitor rows
  pub after : AreAfter K rows f.states

module _ (told : Told) (K : System) (limits : Limits) (start now : State) where
  -- the follower has taken the rows that the feed has handed out since the start
  pub record Goes (feed : Feeding) (f : Follower) : Type 0 where
    pub bound : List ℕ
    pub rows : List Row
    pub shows : bound_of feed ≡ Some bound
    pub feeds : Feeds told (wanted_of K) limits start now feed rows
    pub follows : Follows K bound rows f

  -- the trace was read to its end, and the follower has taken all its rows
  pub record HasEnded (row_count : ℕ) (f : Follower) : Type 0 where
    pub bound : List ℕ
    pub rows : List Row
    pub byte_count : ℕ
    pub is_read : IsReadBy told (wanted_of K) limits start now bound rows row_count byte_count
    pub follows : Follows K bound rows f

  -- it has ended with so many rows, or it goes on
  abbrev pub Stands : Option ℕ → Feeding → Follower → Type 0
  Stands None feed f = Goes feed f
  Stands (Some row_count) feed f = HasEnded row_count f
