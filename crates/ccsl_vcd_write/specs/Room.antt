-- How many bytes the text of a step may have.
use Rattle.std.specs.Prelude.{ℕ, ◌+◌, ◌*◌, List, length}
use Rattle.ccsl_vcd_write.specs.declared.writer.TheConstants.{MOST_TIME_BYTES, MOST_TICK_BYTES}

-- a line for the time, and one for each clock that ticks
abbrev pub step_room : List ℕ → ℕ
step_room step = MOST_TIME_BYTES + MOST_TICK_BYTES * length step
