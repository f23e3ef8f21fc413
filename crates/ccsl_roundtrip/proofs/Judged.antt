-- The trace of a simulation is judged to be a run.
use Rattle.std.proofs.Common.{ap, ◌≡◌, ℕ, ◌≤◌, List, All, length, map, IsTrue, refl, ap₂, ◌∙◌, arith}
use Rattle.std.specs.List.{range_with_len}
use Rattle.ccsl_base.specs.declared.limits.TheConstants.{MAX_FILE_BYTES, MAX_STEPS}
use Rattle.ccsl_base.specs.Clocks.{is_ascending}
use Rattle.ccsl_kernel.specs.Syntax.{System}
use Rattle.ccsl_kernel.specs.Lives.{Step}
use Rattle.ccsl_kernel.specs.Accepted.{IsAccepted}
use Rattle.ccsl_kernel.specs.Laws.{VerdictIsFirst, RunsComplete}
use Rattle.ccsl_kernel.specs.Verdict.{verdict, completed_rows}
use Rattle.ccsl_items.specs.Laws.{AdmissibleSetsSolve, SolutionsAreFull}
use Rattle.ccsl_policy.specs.declared.policies.Policy.{Policy}
use Rattle.ccsl_simulate.specs.Simulation.{simulation}
use Rattle.ccsl_simulate.specs.Laws.{SimulationIsOne, SimulationsRun, FewerStepsAreAFront}
use Rattle.ccsl_vcd.specs.Reading.{reading}
use Rattle.ccsl_vcd.specs.Rows.{IsRead, bound_at, recorded}
use Rattle.ccsl_bind.specs.Collected.{wanted_of}
use Rattle.ccsl_vcd_write.specs.Text.{vcd_text}
use Rattle.ccsl_vcd_write.specs.ReadsBack.{IsReadable, rows_of_steps}
use Rattle.ccsl_vcd.specs.declared.limits.TheConstants.{LIMITS}
use Rattle.ccsl_roundtrip.specs.RoundTrip.{IsJudgedRun, SimulatedTracesAreRuns}
use Rattle.ccsl_roundtrip.proofs.Rows.{verdict-run, completed-steps}
use Rattle.ccsl_roundtrip.proofs.Steps.{shows, ascends}

module _ (K : System) (ok : IsAccepted K)
    (read : (steps : List (List ℕ)) → IsReadable K LIMITS steps → IsRead (wanted_of K) LIMITS (vcd_text K steps))
    (bound : (steps : List (List ℕ)) → IsReadable K LIMITS steps →
    map (λ b. b.clock) (bound_at (reading (wanted_of K) LIMITS (vcd_text K steps)).place) ≡ range_with_len 0 K.written)
    (rows : (steps : List (List ℕ)) → IsReadable K LIMITS steps → recorded (wanted_of K) LIMITS (vcd_text K steps) ≡ rows_of_steps K steps)
    (fits : (steps : List (List ℕ)) → All (λ step. IsTrue (is_ascending step)) steps → length steps ≤ MAX_STEPS → length (vcd_text K steps) ≤ MAX_FILE_BYTES)
    (complete : RunsComplete K) (first : VerdictIsFirst K) (solve : AdmissibleSetsSolve K) (full : SolutionsAreFull K)
    (one : (p : Policy) → SimulationIsOne K p) (runs : (p : Policy) → SimulationsRun K p) (front : (p : Policy) → FewerStepsAreAFront K p) where
  module _ (p : Policy) (seed steps : ℕ) (few : steps ≤ MAX_STEPS) where
    T : List Step
    T = simulation K p seed steps

    short : length T ≤ MAX_STEPS
    unfolding T
    short = let l = ((one p seed steps (simulation K p seed steps)).1 refl).few in omega (arith, l, few)

    readable : IsReadable K LIMITS T
    unfolding T
    readable = record {
      shows = shows K ok.declared p solve full (one p) (runs p) (front p) seed steps;
      bytes = fits (simulation K p seed steps) (ascends K ok.declared p solve full (one p) (runs p) (front p) seed steps) short;
      vars = let a = ok.written in let b = ok.few_clocks in omega (arith, a, b);
      scopes = omega arith;
    }

    pub judged-run : IsJudgedRun K p seed steps
    unfolding T
    judged-run = record {
      read = read T readable;
      judged = ap₂ (λ b rs. verdict K b rs) (bound T readable) (rows T readable)
          ∙ verdict-run K ok.declared first T (complete T (runs p seed steps).run (runs p seed steps).named) (runs p seed steps).run;
      steps_again = ap (completed_rows K) (rows T readable)
          ∙ completed-steps K ok.declared first T (complete T (runs p seed steps).run (runs p seed steps).named) (runs p seed steps).run;
    }

  pub simulated-runs : SimulatedTracesAreRuns K
  simulated-runs p seed steps few = judged-run p seed steps few
