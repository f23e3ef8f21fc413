-- A certificate that explains is one that `certify` accepts.
use Rattle.std.proofs.Common.{◌≡◌, ℕ, zero, suc, ◌+◌, ◌<◌, ◌≤◌, ◌^◌, List, [], ◌∷◌, ◌++◌, length, Bool, true, false, Option, Some, None, Ok, All, slice_get}
use Rattle.std.proofs.Common.{cond, refl, sym, ap, ◌∙◌, subst, arith, length-append}
use Rattle.std.specs.List.{AllByRecursion}
use Rattle.std.proofs.lemmas.Bool.{and_parts, le-leb, both_ways}
use Rattle.std.proofs.lemmas.List.{length-map}
use Rattle.std.proofs.lemmas.Option.{slice_get_within}
use Rattle.std.proofs.lemmas.List.Elements.{All-from_recursion}
use Rattle.ccsl_base.specs.declared.limits.TheConstants.{MAX_FILE_BYTES}
use Rattle.ccsl_base.specs.declared.rows.Row.{Row}
use Rattle.ccsl_base.specs.Names.{are_distinct}
use Rattle.ccsl_base.specs.Name.{are_cert_names}
use Rattle.ccsl_formula.specs.declared.scope.Scope.{Scope}
use Rattle.ccsl_formula.specs.Formula.{Formula}
use Rattle.ccsl_formula.specs.Truth.{with_value, Part}
use Rattle.ccsl_kernel.specs.Syntax.{System, item_count}
use Rattle.ccsl_kernel.specs.Lives.{Step, steps}
use Rattle.ccsl_kernel.specs.Items.{item_formula}
use Rattle.ccsl_kernel.specs.Verdict.{Verdict, Run, Violated, completed_rows}
use Rattle.ccsl_kernel.specs.Accepted.{IsAccepted}
use Rattle.ccsl_items.specs.Formulas.{item_formulas, scope_of}
use Rattle.ccsl_refute.specs.declared.line.Lit.{Lit}
use Rattle.ccsl_refute.specs.declared.line.Line.{Line}
use Rattle.ccsl_refute.specs.declared.line.Line.TheVariants.{Nonempty, Item, Derived}
use Rattle.ccsl_refute.specs.Literals.{falsified, are_proper}
use Rattle.ccsl_refute.specs.Below.{AreBelow}
use Rattle.ccsl_refute.specs.NumbersFit.{AllBelow, NumbersFit}
use Rattle.ccsl_refute.specs.Validity.{line_at, fails_line, unit_line, fails_at, unit_at, closes, is_refuted, refutes_item, is_valid, valid_from, are_valid}
use Rattle.ccsl_refute.specs.Validity.{ends_empty, is_certificate}
use Rattle.ccsl_refute.specs.Writing.{line_text, lines_text}
use Rattle.ccsl_refute.specs.LineLiterals.{literals}
use Rattle.ccsl_refute.specs.Reading as certificates
use Rattle.ccsl_certify.specs.declared.answer.CertVerdict.TheVariants.{Yes}
use Rattle.ccsl_vcd.specs.declared.fault.VcdFault.{VcdFault}
use Rattle.ccsl_vcd.specs.Reading.{reading}
use Rattle.ccsl_vcd.specs.Rows.{recorded}
use Rattle.ccsl_bind.specs.Collected.{wanted_of}
use Rattle.ccsl_report.specs.Texts.{cert_valid_text}
use Rattle.ccsl_top.specs.Outcome.{Output, Outcome, outcome}
use Rattle.ccsl_vcd.specs.declared.limits.TheConstants.{LIMITS}
use Rattle.ccsl_top.specs.Judge.{judged}
use Rattle.ccsl_top.specs.Certify.{certify_outcome}
use Rattle.ccsl_top.specs.Explain.{cert_output, IsRunExplained, possible, blocked, IsVerdictExplained, IsReadExplained}
use Rattle.ccsl_top.specs.Laws.{ExplanationsCertify}
use Rattle.ccsl_top.proofs.Members.{few-items}
use Rattle.ccsl_top.proofs.Certifying.{NoBadLine, verdict-outcome}

-- THE NUMBERS of a certificate are those of its items and of its lines

at-below : (lines : List Line) (j : ℕ) (line : Line) → line_at lines j ≡ Some line → j ≤ length lines
at-below lines zero line e = omega arith
at-below lines (suc i) line e = let within : i < length lines = slice_get_within lines i line e in omega (arith, within)

module _ (declared : ℕ) (lines : List Line) where
  fails-below : (p : Part) (j : ℕ) → fails_at declared lines p j ≡ true → j ≤ length lines
  fails-below p j e = of-line (line_at lines j) refl e
    where
      of-line : (found : Option Line) → line_at lines j ≡ found → fails_line declared p found ≡ true → j ≤ length lines
      of-line None is e = absurd (both_ways false refl e)
      of-line (Some line) is e = at-below lines j line is

  unit-below : (p : Part) (j : ℕ) (l : Lit) → unit_at declared lines p j ≡ Some l → j ≤ length lines
  unit-below p j l e = of-line (line_at lines j) refl e
    where
      of-line : (found : Option Line) → line_at lines j ≡ found → unit_line declared p found ≡ Some l → j ≤ length lines
      of-line None is e = absurd (cc)
      of-line (Some line) is e = at-below lines j line is

  hints-below : (n : ℕ) → length lines < n → (p : Part) (hints : List ℕ) → closes declared lines p hints ≡ true → AllBelow n hints
  hints-below n few p [] e = tt
  hints-below n few p (j ∷ []) e = let l = fails-below p j e in (omega (arith, l, few), tt)
  hints-below n few p (j ∷ k ∷ js) e = of-unit (unit_at declared lines p j) refl e (λ q h. hints-below n few q (k ∷ js) h)
    where
      of-unit : (found : Option Lit) → unit_at declared lines p j ≡ found →
          (elim found as (λ o. Bool) [ None ↦ false | Some l ↦ closes declared lines (with_value p l.clock l.positive) (k ∷ js) ]) ≡ true →
          ((q : Part) → closes declared lines q (k ∷ js) ≡ true → AllBelow n (k ∷ js)) → AllBelow n (j ∷ k ∷ js)
      of-unit None is e rest = absurd (both_ways false refl e)
      of-unit (Some l) is e rest = let b = unit-below p j l is in (omega (arith, b, few), rest (with_value p l.clock l.positive) e)

item-below : (formulas : List Formula) (item : ℕ) (lits : List Lit) → refutes_item formulas item lits ≡ true → item < length formulas
item-below formulas item lits e = of-formula (slice_get formulas item) refl e
  where
    of-formula : (found : Option Formula) → slice_get formulas item ≡ found → is_refuted (falsified lits) found ≡ true → item < length formulas
    of-formula None is e = absurd (both_ways false refl e)
    of-formula (Some f) is e = slice_get_within formulas item f is

module _ (scope : Scope) (formulas : List Formula) (few : length formulas < 2 ^ 32) where
  line-fits : (earlier : List Line) → length earlier < 2 ^ 64 → (line : Line) → is_valid scope formulas earlier line ≡ true → NumbersFit line
  line-fits earlier short Nonempty e = tt
  line-fits earlier short (Item item lits) e =
      let l = item-below formulas item lits (and_parts (are_proper scope.named lits) (refutes_item formulas item lits) e).1 in omega (arith, l, few)
  line-fits earlier short (Derived lits hints) e =
      hints-below scope.declared earlier (2 ^ 64) short (falsified lits) hints
      (and_parts (are_proper scope.named lits) (closes scope.declared earlier (falsified lits) hints) e).1

  lines-fit : (earlier lines : List Line) → length earlier + length lines < 2 ^ 64 → valid_from scope formulas earlier lines ≡ true
      → AllByRecursion NumbersFit lines
  lines-fit earlier [] short e = tt
  lines-fit earlier (line ∷ lines) short e =
      let p = and_parts (is_valid scope formulas earlier line) (valid_from scope formulas (earlier ++ line ∷ []) lines) e in
      let more : length (earlier ++ line ∷ []) + length lines < 2 ^ 64 = omega (arith, short, length-append earlier (line ∷ [])) in
      (line-fits earlier (omega (arith, short)) line p.0, lines-fit (earlier ++ line ∷ []) lines more p.1)

-- each line has a byte at least
lines-short : (names : List (List ℕ)) (lines : List Line) → length lines ≤ length (lines_text names lines)
lines-short names [] = omega arith
lines-short names (line ∷ lines) =
    let rest = lines-short names lines in
    omega (arith, rest, length-append (line_text names line ++ 10 ∷ []) (lines_text names lines), length-append (line_text names line) (10 ∷ []))

-- there is a formula for each item
steps-length : (n : ℕ) → length (steps 0 n) ≡ n
steps-length zero = refl
steps-length (suc n) =
    let next : steps 0 (suc n) ≡ steps 0 n ++ n ∷ [] = ap (λ b. cond b (steps 0 n ++ n ∷ []) []) (le-leb 0 n (omega arith)) in
    let before = steps-length n in
    let whole = ap length next in
    omega (arith, whole, before, length-append (steps 0 n) (n ∷ []))

pub formulas-count : (K : System) (T : List Step) → length (item_formulas K T) ≡ item_count K
formulas-count K T = length-map (steps 0 (item_count K)) (item_formula K T (length T)) ∙ steps-length (item_count K)

-- WHAT IS WRITTEN IS VALID
module _ (none-bad : NoBadLine)
    (named : (scope : Scope) (formulas : List Formula) (lines : List Line) → are_valid scope formulas lines ≡ true
    → All (λ line. AreBelow scope.named (literals line)) lines)
    (back : (names : List (List ℕ)) (lines : List Line) → are_distinct names ≡ true → are_cert_names names ≡ true →
    All (λ line. AreBelow (length names) (literals line)) lines → All NumbersFit lines → certificates.reading names (lines_text names lines) ≡ Ok lines)
    (K : System) (ok : IsAccepted K) (distinct : are_distinct K.names ≡ true) (spelled : are_cert_names K.names ≡ true) where
  module _ (formulas : List Formula) (count : length formulas ≡ item_count K) (lines : List Line) (valid : is_certificate (scope_of K) formulas lines ≡ true)
      (short : length (lines_text K.names lines) ≤ MAX_FILE_BYTES) where
    lines-valid : are_valid (scope_of K) formulas lines ≡ true
    lines-valid = (and_parts (are_valid (scope_of K) formulas lines) (ends_empty K.declared lines) valid).0

    pub reads-back : certificates.reading K.names (lines_text K.names lines) ≡ Ok lines
    reads-back =
        let n = lines-short K.names lines in
        let few : length formulas < 2 ^ 32 = rw count (few-items K ok) in
        back K.names lines distinct spelled (named (scope_of K) formulas lines lines-valid)
        (All-from_recursion NumbersFit lines (lines-fit (scope_of K) formulas few [] lines (omega (arith, n, short)) lines-valid))

  nothing-written : (file : Output) (o : Outcome) (status : ℕ) (text : List ℕ) → o ≡ outcome status text → o.outputs ≡ file ∷ [] → ⊥
  nothing-written file o status text is e = let none : (let L : List Output = [] in L) ≡ file ∷ [] = sym (ap (λ x. x.outputs) is) ∙ e in absurd (cc)

  module _ (name trace : List ℕ) (o : Outcome) (file : Output) (out : o.outputs ≡ file ∷ []) (short : length file.content ≤ MAX_FILE_BYTES)
      (fine : (reading (wanted_of K) LIMITS trace).fault ≡ None) where
    abbrev rows : List Row
    rows = recorded (wanted_of K) LIMITS trace

    run-certifies : (steps : ℕ) → judged K trace ≡ Run steps → IsRunExplained K name steps (item_formulas K (completed_rows K rows)) o →
        certify_outcome K trace file.content ≡ outcome 0 (cert_valid_text steps)
    run-certifies steps v (possible step one is) = absurd (nothing-written file o 1 _ is out)
    run-certifies steps v (blocked core lines without why is) =
        let files : cert_output K name lines ∷ [] ≡ file ∷ [] = sym (ap (λ x. x.outputs) is) ∙ out in
        let text : lines_text K.names lines ≡ file.content = same-content (cert_output K name lines) file files in
        subst (λ bytes. certify_outcome K trace bytes ≡ outcome 0 (cert_valid_text steps)) text
        (sym (verdict-outcome none-bad K trace (lines_text K.names lines) fine (rw text short) lines
        (reads-back (item_formulas K (completed_rows K rows)) (formulas-count K (completed_rows K rows)) lines why.certificate (rw text short))
        (Yes steps) (v, why.certificate)))
      where
        same-content : (a b : Output) → (let L : List Output = a ∷ [] in L) ≡ b ∷ [] → a.content ≡ b.content
        same-content a b e = let same : a ≡ b = cc in ap (λ x. x.content) same

    verdict-certifies : (v : Verdict) → judged K trace ≡ v → IsVerdictExplained K name rows v o →
        (steps : ℕ) × (certify_outcome K trace file.content ≡ outcome 0 (cert_valid_text steps))
    verdict-certifies (Violated step time item) v is = absurd (nothing-written file o 1 _ is out)
    verdict-certifies (Run steps) v is = (steps, run-certifies steps v is)

  pub explanations-certify : ExplanationsCertify K
  explanations-certify name trace o file is out short = of-fault (reading (wanted_of K) LIMITS trace).fault refl is
    where
      of-fault : (fault : Option VcdFault) → (reading (wanted_of K) LIMITS trace).fault ≡ fault → IsReadExplained K name trace fault o →
          (steps : ℕ) × (certify_outcome K trace file.content ≡ outcome 0 (cert_valid_text steps))
      of-fault (Some fault) at is = absurd (nothing-written file o 4 _ is out)
      of-fault None at is = verdict-certifies name trace o file out short at (judged K trace) refl is
