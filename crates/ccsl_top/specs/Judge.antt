-- WHAT `judge` ANSWERS on an accepted specification and the bytes of a trace. The number of workers is no part of it.
use Rattle.std.specs.Prelude.{ℕ, List, map, Option, Some, None, codes}
use Rattle.ccsl_kernel.specs.Syntax.{System}
use Rattle.ccsl_kernel.specs.Verdict.{Verdict, Run, Violated, verdict}
use Rattle.ccsl_vcd.specs.declared.limits.TheConstants.{LIMITS}
use Rattle.ccsl_vcd.specs.declared.fault.VcdFault.{VcdFault}
use Rattle.ccsl_vcd.specs.Reading.{reading}
use Rattle.ccsl_vcd.specs.Rows.{bound_at, recorded}
use Rattle.ccsl_bind.specs.Collected.{wanted_of}
use Rattle.ccsl_report.specs.Texts.{run_yes_text, broken_text, trace_text}
use Rattle.ccsl_top.specs.Outcome.{Outcome, outcome}

-- the clocks that a trace records
abbrev pub clocks_in : System → List ℕ → List ℕ
clocks_in K trace = map (λ b. b.clock) (bound_at (reading (wanted_of K) LIMITS trace).place)

-- the verdict on all rows of a trace
abbrev pub judged : System → List ℕ → Verdict
judged K trace = verdict K (clocks_in K trace) (recorded (wanted_of K) LIMITS trace)

abbrev pub verdict_outcome : System → Verdict → Outcome
verdict_outcome K (Run steps) = outcome 0 (run_yes_text steps)
verdict_outcome K (Violated step time item) = outcome 1 (broken_text (codes "run: ") step time item K)

-- the fault of a trace comes before what else is answered, wherever it stands
abbrev pub behind_fault : System → Option VcdFault → Outcome → Outcome
behind_fault K (Some fault) answer = outcome 4 (trace_text fault K)
behind_fault K None answer = answer

abbrev pub judge_outcome : System → List ℕ → Outcome
judge_outcome K trace = behind_fault K (reading (wanted_of K) LIMITS trace).fault (verdict_outcome K (judged K trace))
