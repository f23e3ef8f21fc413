-- One turn of a simulation: what the simulator stands for before and after it, and what it writes.
use Rattle.std.specs.Prelude.{◌≡◌, ◌⊎◌, ℕ, suc, ◌+◌, ◌*◌, List, [], ◌∷◌, ◌++◌, length, true}
use Rattle.ccsl_edge.specs.declared.slot.Slot.{Slot}
use Rattle.ccsl_edge.specs.declared.slot.Slot.TheVariants.{TraceOut, CertOut}
use Rattle.ccsl_edge.specs.World.{State, Told}
use Rattle.ccsl_edge.specs.Calls.{Adds, AddsFront}
use Rattle.ccsl_refute.specs.declared.line.Line.{Line}
use Rattle.ccsl_refute.specs.Validity.{is_certificate}
use Rattle.ccsl_refute.specs.Writing.{lines_text}
use Rattle.ccsl_kernel.specs.Syntax.{System}
use Rattle.ccsl_kernel.specs.Lives.{Step}
use Rattle.ccsl_kernel.specs.Accepted.{IsAccepted}
use Rattle.ccsl_state.specs.Held as states
use Rattle.ccsl_vcd_write.specs.Text.{step_text}
use Rattle.ccsl_items.specs.Formulas.{item_formulas, scope_of}
use Rattle.ccsl_policy.specs.declared.policies.Policy.{Policy}
use Rattle.ccsl_policy.specs.Generator as generator
use Rattle.ccsl_edge.specs.declared.stop.Stop.{Stop}
use Rattle.ccsl_edge.specs.declared.stop.Stop.TheVariants.{Fault, Memory}
use Rattle.ccsl_simulate.specs.declared.simulator.Turn.{Turn}
use Rattle.ccsl_simulate.specs.declared.simulator.Turn.TheVariants.{Goes, Ends}
use Rattle.ccsl_simulate.specs.declared.simulator.Simulator.{Simulator}
use Rattle.ccsl_simulate.specs.Simulation.{simulation}

-- the first n steps of the run of the simulator's system, by its policy
abbrev pub run_of : Simulator → ℕ → ℕ → List Step
run_of sim seed n = simulation sim.system.now sim.policy seed n

-- the simulator stands for these steps, of which there are n
pub record Stands (seed n : ℕ) (sim : Simulator) : Type 0 where
  pub system : sim.states.system ≡ sim.system.now
  pub accepted : IsAccepted sim.system.now
  pub steps : length (run_of sim seed n) ≡ n
  pub states : states.StandsFor sim.states (run_of sim seed n)
  pub draw : generator.StandsFor sim.draw seed (n * sim.system.now.declared)

-- it simulates the same system by the same policy
pub record SameTask (old new : Simulator) : Type 0 where
  pub system : new.system ≡ old.system
  pub policy : new.policy ≡ old.policy

-- some bytes were not written: a write failed behind a front of them, or before it memory was wanted
abbrev pub WriteFails : Told → Slot → List ℕ → State → State → Stop → Type 0
WriteFails told slot bytes old new Fault = AddsFront told slot bytes old new
WriteFails told slot bytes old new Memory = new ≡ old

module _ (told : Told) (K : System) (policy : Policy) (seed n : ℕ) where
  -- this is step number n of the run
  abbrev pub IsNext : Step → Type 0
  IsNext s = simulation K policy seed (suc n) ≡ simulation K policy seed n ++ s ∷ []

  -- the run has no step number n, as the lines show
  pub record IsStopped (lines : List Line) : Type 0 where
    pub ends : (k : ℕ) → simulation K policy seed (n + k) ≡ simulation K policy seed n
    pub certificate : is_certificate (scope_of K) (item_formulas K (simulation K policy seed n)) lines ≡ true

  module _ (old new : State) where
    -- the next step was written, or a write of it failed
    pub record WritesStep : Type 0 where
      pub step : Step
      pub next : IsNext step
      pub adds : Adds told TraceOut (step_text n K step) old new

    pub record FailsAtStep : Type 0 where
      pub step : Step
      pub next : IsNext step
      pub adds : AddsFront told TraceOut (step_text n K step) old new

    -- lines that show that there is none were written, or a write of them failed
    pub record WritesLines : Type 0 where
      pub lines : List Line
      pub stopped : IsStopped lines
      pub adds : Adds told CertOut (lines_text K.names lines) old new

    pub record FailsAtLines : Type 0 where
      pub lines : List Line
      pub stopped : IsStopped lines
      pub adds : AddsFront told CertOut (lines_text K.names lines) old new

    abbrev pub TurnDoes : Turn → Type 0
    TurnDoes Goes = WritesStep
    TurnDoes Ends = WritesLines

    abbrev pub TurnFails : Stop → Type 0
    TurnFails Fault = FailsAtStep ⊎ FailsAtLines
    TurnFails Memory = new ≡ old
