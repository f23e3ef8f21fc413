-- The first bad line, from the first line on.
use Rattle.std.proofs.Common.{◌≡◌, ℕ, zero, suc, ◌≤◌, List, [], ◌∷◌, ◌++◌, length, drop, true, false, cond, Some, None, nat_eq, refl, sym, ap, ◌∙◌, arith}
use Rattle.std.proofs.Common.{slice_get, take, ap₂}
use Rattle.std.proofs.lemmas.List.{take_all, drop_all}
use Rattle.std.proofs.lemmas.Bool.{ne_eqb}
use Rattle.ccsl_refute.specs.declared.line.Lit.{Lit}
use Rattle.ccsl_refute.specs.declared.line.Line.{Line}
use Rattle.ccsl_refute.specs.Validity.{clause, ends_empty, is_valid, bad_from, first_bad_line}
use Rattle.ccsl_base.specs.Empty.{is_empty}
use Rattle.ccsl_formula.specs.declared.scope.Scope.{Scope}
use Rattle.ccsl_formula.specs.Formula.{Formula}

pub ends-last : (d : ℕ) (es : List Line) (i : ℕ) (e : Line) → suc i ≡ length es → slice_get es i ≡ Some e → ends_empty d es ≡ is_empty (clause d e)
ends-last d [] i e l g = absurd (omega arith)
ends-last d (x ∷ []) zero e l g = let q : x ≡ e = cc in ap (λ (z : Line). is_empty (clause d z)) q
ends-last d (x ∷ []) (suc i) e l g = absurd (cc)
ends-last d (x ∷ y ∷ es) zero e l g = absurd (omega arith)
ends-last d (x ∷ y ∷ es) (suc i) e l g = ends-last d (y ∷ es) i e (omega arith) g

pub empty-length : (ls : List Lit) → nat_eq (length ls) 0 ≡ is_empty ls
empty-length [] = refl
empty-length (l ∷ ls) = ne_eqb (length (l ∷ ls)) 0 (λ e. omega arith)

pub bad-step : (scope : Scope) (fs : List Formula) (earlier es : List Line) (e : Line) → is_valid scope fs earlier e ≡ true →
    bad_from scope fs earlier (e ∷ es) ≡ bad_from scope fs (earlier ++ e ∷ []) es
bad-step scope fs earlier es e v = ap (λ b. elim b [ true ↦ bad_from scope fs (earlier ++ e ∷ []) es | false ↦ Some (suc (length earlier)) ]) v

pub bad-end : (scope : Scope) (fs : List Formula) (lines : List Line) (i : ℕ) → length lines ≤ i →
    bad_from scope fs (take i lines) (drop i lines) ≡ first_bad_line scope fs lines →
    ends_empty scope.declared lines ≡ true → first_bad_line scope fs lines ≡ None
bad-end scope fs lines i l e h =
    sym e
    ∙ ap₂ (λ xs ys. bad_from scope fs xs ys) (take_all i lines l) (drop_all i lines l)
    ∙ ap (λ b. cond b None (Some (suc (length lines)))) h
