-- The world of a trial, and what its trace is judged to be.
use Rattle.std.proofs.Common.{◌≡◌, ◌≢◌, ℕ, ◌≤◌, List, [], length, Option, unwrap_or, codes, refl, sym, ap, ◌∙◌}
use Rattle.ccsl_edge.specs.declared.slot.Slot.TheVariants.{Trace}
use Rattle.ccsl_edge.specs.World.{State, file_at}
use Rattle.ccsl_edge.specs.Calls.{OpensIn}
use Rattle.ccsl_edge.specs.Memory.{MemoryState, shown, tells_all}
use Rattle.ccsl_base.specs.declared.limits.TheConstants.{MAX_STEPS}
use Rattle.ccsl_policy.specs.declared.policies.Policy.TheVariants.{Seeded}
use Rattle.ccsl_kernel.specs.Syntax.{System}
use Rattle.ccsl_kernel.specs.Verdict as kernel
use Rattle.ccsl_simulate.specs.declared.answer.Done.{Done}
use Rattle.ccsl_judge.specs.declared.verdict.Verdict.{Verdict}
use Rattle.ccsl_relate.specs.declared.violation.Violation.{Violation}
use Rattle.ccsl_judge.specs.declared.verdict.Verdict.TheVariants.{Run, Violated}
use Rattle.ccsl_judge.specs.Judged.{IsJudged, plain, verdict_on}
use Rattle.ccsl_roundtrip.specs.RoundTrip.{SimulatedTracesAreRuns}
use Rattle.ccsl_vcd.specs.declared.limits.TheConstants.{LIMITS}
use Rattle.ccsl_top.specs.Simulating.{WritesBoth}
use Rattle.ccsl_top.specs.Trying.{drawn_run, HoldsTrace}

-- the two names differ
names-apart : codes "trace" ≢ codes "certificate"
names-apart e = absurd (cc)

-- a world in which the simulation was written, and its trace was opened
pub holds-trace : (K : System) (seed steps : ℕ) (before after now : MemoryState) (done : Done) →
    WritesBoth tells_all K Seeded seed steps (codes "trace") (codes "certificate") (shown before) (shown after) done →
    OpensIn tells_all Trace (codes "trace") (shown after) (shown now) → HoldsTrace K seed steps now
holds-trace K seed steps before after now done both opens =
    let file = both.trace_holds names-apart refl refl in record {
      file = ap (λ fs. file_at fs (codes "trace")) opens.only.files ∙ file;
      left = opens.bytes refl refl ∙ ap (λ (f : Option (List ℕ)). unwrap_or f []) file;
    }

module _ (K : System) (law : SimulatedTracesAreRuns K) (seed steps : ℕ) (few : steps ≤ MAX_STEPS) (before : MemoryState)
    (holds : HoldsTrace K seed steps before)
    (now : State) where
  -- what it is judged to be
  judged : (v : Verdict) → IsJudged tells_all K LIMITS (shown before) now v → plain v ≡ kernel.Run (length (drawn_run K seed steps))
  judged v is = is.judged ∙ ap (verdict_on K LIMITS) (sym (is.whole refl) ∙ holds.left) ∙ (law Seeded seed steps few).judged

  pub judged-run : (made : ℕ) → IsJudged tells_all K LIMITS (shown before) now (Run made) → made ≡ length (drawn_run K seed steps)
  judged-run made is = run-same made (length (drawn_run K seed steps)) (judged (Run made) is)
    where
      run-same : (a b : ℕ) → kernel.Run a ≡ kernel.Run b → a ≡ b
      run-same a b e = cc

  pub never-violated : (v : Violation) → IsJudged tells_all K LIMITS (shown before) now (Violated v) → ⊥
  never-violated v is = apart v.step v.time v.item (length (drawn_run K seed steps)) (judged (Violated v) is)
    where
      apart : (s t i n : ℕ) → kernel.Violated s t i ≡ kernel.Run n → ⊥
      apart s t i n e = absurd (cc)
