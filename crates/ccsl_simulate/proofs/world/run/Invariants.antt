use Rattle.std.proofs.Common.{ℕ, IsTrue}
use Rattle.ccsl_edge.specs.declared.slot.Slot.TheVariants.{TraceOut, CertOut}
use Rattle.ccsl_edge.specs.Calls.{Adds}
use Rattle.ccsl_vcd_write.specs.Text.{vcd_text}
use Rattle.ccsl_simulate.specs.Going.{run_of, Stands, SameTask}
use Rattle.ccsl_simulate.proofs.world.run.Given as goal

-- the trace of the first steps is written, and the simulator stands for them
abbrev pub invariant-loop-n : goal.invariant-loop-n
invariant-loop-n g l =
    let state = g.W.World.state in
    record {
      task : SameTask l.fn.sim l.sim;
      trace : IsTrue ((state l.world).slot_of TraceOut).is_open;
      cert : IsTrue ((state l.world).slot_of CertOut).is_open;
      stands : (seed : ℕ) → Stands seed 0 l.fn.sim → Stands seed l.n l.sim;
      adds : (seed : ℕ) → Stands seed 0 l.fn.sim →
          Adds g.W.World.told TraceOut (vcd_text l.fn.sim.system.now (run_of l.fn.sim seed l.n)) (state l.fn.world) (state l.world);
    }
