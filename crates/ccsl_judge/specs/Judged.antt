-- WHAT JUDGING A TRACE ANSWERS: the verdict on the rows of the whole trace, whose header says which clocks are recorded.
use Rattle.std.specs.Prelude.{◌≡◌, ◌<◌, List, None, ℕ, IsTrue}
use Rattle.ccsl_edge.specs.declared.slot.Slot.TheVariants.{Trace}
use Rattle.ccsl_edge.specs.World.{State, Told}
use Rattle.ccsl_edge.specs.Calls.{Reads}
use Rattle.ccsl_kernel.specs.Syntax.{System, item_count}
use Rattle.ccsl_kernel.specs.Verdict as kernel
use Rattle.ccsl_bind.specs.Collected.{wanted_of}
use Rattle.ccsl_vcd.specs.declared.limits.Limits.{Limits}
use Rattle.ccsl_vcd.specs.Reading.{reading}
use Rattle.ccsl_vcd.specs.Rows.{recorded}
use Rattle.ccsl_trace.specs.Traces.{clocks_of}
use Rattle.ccsl_judge.specs.declared.verdict.Verdict.{Verdict}
use Rattle.ccsl_judge.specs.declared.verdict.Verdict.TheVariants.{Run, Violated}

-- the verdict of the kernel that a verdict is
abbrev pub plain : Verdict → kernel.Verdict
plain (Run rows) = kernel.Run rows
plain (Violated v) = kernel.Violated v.step v.time v.item

-- the verdict on the rows of a whole trace
abbrev pub verdict_on : System → Limits → List ℕ → kernel.Verdict
verdict_on K limits bytes = kernel.verdict K (clocks_of (wanted_of K) limits bytes) (recorded (wanted_of K) limits bytes)

-- The trace was read to its end, also behind a violation. It has no fault, and the verdict is that on its rows.
pub record IsJudged (told : Told) (K : System) (limits : Limits) (old new : State) (v : Verdict) : Type 0 where
  pub bytes : List ℕ
  pub reads : Reads told Trace bytes old new
  pub whole : IsTrue told.left → (old.slot_of Trace).left ≡ bytes
  pub fine : (reading (wanted_of K) limits bytes).fault ≡ None
  pub judged : plain v ≡ verdict_on K limits bytes

-- the item of a verdict is one of the system's
abbrev pub HasItem : System → Verdict → Type 0
HasItem K (Run rows) = Unit {0}
HasItem K (Violated v) = v.item < item_count K
