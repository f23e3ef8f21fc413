-- Lines, and more lines after them.
use Rattle.std.proofs.Common.{◌≡◌, ℕ, zero, suc, ◌<◌, ◌≤◌, List, [], ◌∷◌, ◌++◌, length, true, false, ◌&&◌, Some, None, slice_get}
use Rattle.std.proofs.Common.{refl, sym, ap, ◌∙◌, append_assoc, append-nil, length-append, add-one, arith}
use Rattle.std.proofs.lemmas.Bool.{and_parts}
use Rattle.std.proofs.lemmas.Option.{slice_get_within}
use Rattle.ccsl_formula.specs.declared.scope.Scope.{Scope}
use Rattle.ccsl_formula.specs.Truth.{Part, with_value}
use Rattle.ccsl_formula.specs.Formula.{Formula}
use Rattle.ccsl_refute.specs.declared.line.Lit.{Lit}
use Rattle.ccsl_refute.specs.declared.line.Line.{Line}
use Rattle.ccsl_refute.specs.Validity.{line_at, fails_line, unit_line, fails_at, unit_at, closes, is_valid, valid_from, are_valid}
use Rattle.ccsl_guide.specs.declared.problem.Problem.{Problem}
use Rattle.ccsl_solve.specs.Posed.{AreValid, asked}
use Rattle.ccsl_solve.specs.Conflict.{Extends, AddsLines}
use Rattle.ccsl_base.proofs.Cases.{get-last}

get-more : {A : Type 0} (xs ys : List A) (i : ℕ) (x : A) → slice_get xs i ≡ Some x → slice_get (xs ++ ys) i ≡ Some x
get-more [] ys i x e = absurd (cc)
get-more (z ∷ xs) ys zero x e = e
get-more (z ∷ xs) ys (suc i) x e = get-more xs ys i x e

pub line-more : (lines more : List Line) (j : ℕ) (e : Line) → line_at lines j ≡ Some e → line_at (lines ++ more) j ≡ Some e
line-more lines more zero e h = absurd (cc)
line-more lines more (suc i) e h = get-more lines more i e h

pub line-within : (lines : List Line) (j : ℕ) (e : Line) → line_at lines j ≡ Some e → j ≤ length lines
line-within lines zero e h = absurd (cc)
line-within lines (suc i) e h = let within : i < length lines = slice_get_within lines i e h in omega arith

pub line-last : (lines : List Line) (e : Line) {new : List Line} {n : ℕ} → n ≡ length new → new ≡ lines ++ e ∷ [] → line_at new n ≡ Some e
line-last lines e {n} s is =
    let number : n ≡ suc (length lines) = s ∙ ap length is ∙ length-append lines (e ∷ []) ∙ add-one (length lines) in
    ap (λ ls. line_at ls n) is ∙ ap (line_at (lines ++ e ∷ [])) number ∙ get-last lines e

fails-more : (d : ℕ) (lines more : List Line) (p : Part) (j : ℕ) → fails_at d lines p j ≡ true → fails_at d (lines ++ more) p j ≡ true
fails-more d lines more p j h =
    (elim (line_at lines j) as (λ o. line_at lines j ≡ o → fails_line d p o ≡ true → fails_at d (lines ++ more) p j ≡ true)
    [ None ↦ λ q f. absurd (cc) | Some e ↦ λ q f. ap (fails_line d p) (line-more lines more j e q) ∙ f ]) refl h

unit-more : (d : ℕ) (lines more : List Line) (p : Part) (j : ℕ) (l : Lit) → unit_at d lines p j ≡ Some l → unit_at d (lines ++ more) p j ≡ Some l
unit-more d lines more p j l h =
    (elim (line_at lines j) as (λ o. line_at lines j ≡ o → unit_line d p o ≡ Some l → unit_at d (lines ++ more) p j ≡ Some l)
    [ None ↦ λ q f. absurd (cc) | Some e ↦ λ q f. ap (unit_line d p) (line-more lines more j e q) ∙ f ]) refl h

-- what closes, closes with more lines
pub closes-more : (d : ℕ) (lines more : List Line) (p : Part) (hints : List ℕ) → closes d lines p hints ≡ true → closes d (lines ++ more) p hints ≡ true
closes-more d lines more p [] h = h
closes-more d lines more p (j ∷ []) h = fails-more d lines more p j h
closes-more d lines more p (j ∷ k ∷ js) h =
    (elim (unit_at d lines p j) as (λ o. unit_at d lines p j ≡ o →
    elim o [ None ↦ false | Some l ↦ closes d lines (with_value p l.clock l.positive) (k ∷ js) ] ≡ true → closes d (lines ++ more) p (j ∷ k ∷ js) ≡ true) [
      | None ↦ λ q f. absurd (cc)
      | Some l ↦ λ q f.
          ap (λ o. elim o [ None ↦ false | Some m ↦ closes d (lines ++ more) (with_value p m.clock m.positive) (k ∷ js) ]) (unit-more d lines more p j l q)
          ∙ closes-more d lines more (with_value p l.clock l.positive) (k ∷ js) f
    ]) refl h

pub fails-extended : (d : ℕ) (lines new : List Line) (p : Part) (j : ℕ) → Extends lines new → fails_at d lines p j ≡ true → fails_at d new p j ≡ true
fails-extended d lines new p j x h = ap (λ ls. fails_at d ls p j) x.is ∙ fails-more d lines x.added p j h

valid_from-snoc : (scope : Scope) (fs : List Formula) (earlier lines : List Line) (e : Line) → valid_from scope fs earlier lines ≡ true →
    is_valid scope fs (earlier ++ lines) e ≡ true → valid_from scope fs earlier (lines ++ e ∷ []) ≡ true
valid_from-snoc scope fs earlier [] e h v = ap (λ b. b && true) (ap (λ ls. is_valid scope fs ls e) (sym (append-nil earlier)) ∙ v)
valid_from-snoc scope fs earlier (x ∷ lines) e h v =
    ap (λ b. b && valid_from scope fs (earlier ++ x ∷ []) (lines ++ e ∷ [])) (and_parts _ _ h).0
    ∙ valid_from-snoc scope fs (earlier ++ x ∷ []) lines e (and_parts (is_valid scope fs earlier x) _ h).1
    (ap (λ ls. is_valid scope fs ls e) (append_assoc earlier (x ∷ []) lines) ∙ v)

-- one more valid line
pub adds-line : (q : Problem) (e : Line) {lines new : List Line} → new ≡ lines ++ e ∷ [] → AreValid q lines →
    is_valid q.scope (asked q) lines e ≡ true → AddsLines q lines new
adds-line q e {lines} n h v = record {
  extends = record { added = e ∷ []; is = n };
  valid = ap (are_valid q.scope (asked q)) n ∙ valid_from-snoc q.scope (asked q) [] lines e h v;
}
