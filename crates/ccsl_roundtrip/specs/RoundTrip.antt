-- WHAT A SIMULATED TRACE IS WORTH: it reads back, and it is judged to be a run.
use Rattle.std.specs.Prelude.{◌≡◌, ℕ, ◌≤◌, List, length}
use Rattle.ccsl_base.specs.declared.limits.TheConstants.{MAX_STEPS}
use Rattle.ccsl_kernel.specs.Syntax.{System}
use Rattle.ccsl_kernel.specs.Verdict.{Run, completed_rows}
use Rattle.ccsl_policy.specs.declared.policies.Policy.{Policy}
use Rattle.ccsl_vcd.specs.declared.limits.TheConstants.{LIMITS}
use Rattle.ccsl_vcd.specs.Rows.{IsRead, recorded}
use Rattle.ccsl_bind.specs.Collected.{wanted_of}
use Rattle.ccsl_vcd_write.specs.Text.{vcd_text}
use Rattle.ccsl_simulate.specs.Simulation.{simulation}
use Rattle.ccsl_judge.specs.Judged.{verdict_on}

module _ (K : System) (policy : Policy) (seed steps : ℕ) where
  abbrev pub written : List ℕ
  written = vcd_text K (simulation K policy seed steps)

  -- the trace of a simulation reads, it is judged to be a run of all its steps, and its rows, completed, are these steps again
  pub record IsJudgedRun : Type 0 where
    pub read : IsRead (wanted_of K) LIMITS written
    pub judged : verdict_on K LIMITS written ≡ Run (length (simulation K policy seed steps))
    pub steps_again : completed_rows K (recorded (wanted_of K) LIMITS written) ≡ simulation K policy seed steps

-- EVERY SIMULATED TRACE IS JUDGED A RUN, of a system that is accepted and as many steps as a simulation may have
abbrev pub SimulatedTracesAreRuns : System → Type 0
SimulatedTracesAreRuns K = (policy : Policy) (seed steps : ℕ) → steps ≤ MAX_STEPS → IsJudgedRun K policy seed steps
