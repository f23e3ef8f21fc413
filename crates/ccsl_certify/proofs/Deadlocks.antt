-- A yes on a trace: it is a run, and no set is admissible after it.
use Rattle.std.proofs.Common.{◌≡◌, ℕ, ◌+◌, ◌<◌, List, [], ◌∷◌, length, map, Bool, true, false, not, ◌&&◌, ◌||◌, Option, Some, None, refl, ◌∙◌, arith}
use Rattle.std.specs.Prelude.{is_some}
use Rattle.std.specs.List.{list_all}
use Rattle.std.proofs.lemmas.Bool.{and_parts, and_from}
use Rattle.ccsl_base.specs.Clocks.{is_ascending, are_below}
use Rattle.ccsl_base.specs.declared.rows.Row.{Row}
use Rattle.ccsl_formula.specs.Formula.{in_set}
use Rattle.ccsl_refute.specs.declared.line.Line.{Line}
use Rattle.ccsl_refute.specs.Validity.{is_certificate}
use Rattle.ccsl_refute.proofs.FirstBad.{certificate-none}
use Rattle.ccsl_refute.proofs.Sound.{sound}
use Rattle.ccsl_kernel.specs.Syntax.{System, item_count}
use Rattle.ccsl_kernel.specs.Accepted.{IsAccepted}
use Rattle.ccsl_kernel.specs.Runs.{holds_at, IsRun, declared_part, is_declared}
use Rattle.ccsl_kernel.specs.Verdict.{Run, completed_rows, is_recorded, is_as_recorded, is_violated, first_item, first_step, verdict_at, verdict}
use Rattle.ccsl_kernel.proofs.Steps.{find-none}
use Rattle.ccsl_kernel.proofs.Sets.{below-ascending, below-below}
use Rattle.ccsl_kernel.proofs.Completion.{completion_named}
use Rattle.ccsl_items.specs.Formulas.{item_formulas, scope_of}
use Rattle.ccsl_items.specs.Laws.{IsNamedRun}
use Rattle.ccsl_items.proofs.Solutions.{blocked_ends}
use Rattle.ccsl_relate.proofs.History.{X-length}
use Rattle.ccsl_certify.specs.Laws.{IsDeadlocked}

-- the declared clocks of each row are a set
declared-sets : (K : System) (rows : List Row) → list_all (λ (row : Row). is_ascending row.ticks) rows ≡ true
    → list_all (is_declared K) (map (λ (row : Row). declared_part K row.ticks) rows) ≡ true
declared-sets K [] h = refl
declared-sets K (row ∷ rows) h =
    let w = and_parts (is_ascending row.ticks) (list_all (λ (r : Row). is_ascending r.ticks) rows) h in
    and_from (is_declared K (declared_part K row.ticks)) (list_all (is_declared K) (map (λ (r : Row). declared_part K r.ticks) rows))
    (and_from (is_ascending (declared_part K row.ticks)) (are_below K.declared (declared_part K row.ticks)) (below-ascending K.declared row.ticks w.0)
    (below-below K.declared row.ticks))
    (declared-sets K rows w.1)

none-of : (o : Option ℕ) → is_some o ≡ false → o ≡ None
none-of None e = refl
none-of (Some x) e = absurd (cc)

holds-of : (a b : Bool) → (not a || b) ≡ false → a ≡ true
holds-of true b e = refl
holds-of false b e = absurd (cc)

module _ (K : System) (bound : List ℕ) (rows : List Row) (count : ℕ) where
  -- nothing is violated where the verdict is a run
  no-step : (o : Option ℕ) → verdict_at K bound rows o ≡ Run count → (o ≡ None) × (length rows ≡ count)
  no-step None e = (refl, cc)
  no-step (Some n) e = absurd (cc)

  run-holds : verdict K bound rows ≡ Run count → IsRun K (completed_rows K rows)
  run-holds e n i l j =
      let none = (no-step (first_step K bound rows) e).0 in
      let within : n < length rows = omega (arith, l, X-length K rows) in
      let item = none-of (first_item K bound rows n) (find-none (λ k. is_some (first_item K bound rows k)) 0 (length rows) none n (omega arith) within) in
      let obeyed = find-none (is_violated K bound rows n) 0 (item_count K) item i (omega arith) j in
      holds-of (holds_at K (completed_rows K rows) n i) (is_recorded K bound i && not (is_as_recorded rows (completed_rows K rows) n (K.declared + i))) obeyed

  pub deadlocked : IsAccepted K → (lines : List Line) → list_all (λ (row : Row). is_ascending row.ticks) rows ≡ true → verdict K bound rows ≡ Run count
      → is_certificate (scope_of K) (item_formulas K (completed_rows K rows)) lines ≡ true → IsDeadlocked K rows count
  deadlocked ok lines sets e certificate =
      let run : IsNamedRun K (completed_rows K rows) =
      record { run = run-holds e; named = completion_named K (map (λ (row : Row). declared_part K row.ticks) rows) (declared-sets K rows sets) } in
      record {
        run = run;
        count = X-length K rows ∙ (no-step (first_step K bound rows) e).1;
        ends = blocked_ends K ok (completed_rows K rows) run
            (λ set solves. sound (scope_of K) (item_formulas K (completed_rows K rows)) lines (in_set set)
            (certificate-none (scope_of K) (item_formulas K (completed_rows K rows)) lines certificate) solves);
      }
