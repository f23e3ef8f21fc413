-- The checker's first bad line is the first one.
use Rattle.std.proofs.Common.{◌≡◌, ℕ, suc, ◌-◌, List, [], ◌∷◌, ◌++◌, length, take, true, false, not, ◌&&◌, cond, Some, None, refl, sym, ap, ◌∙◌, subst, arith}
use Rattle.std.proofs.Common.{slice_get, append_assoc, append-nil, length-append}
use Rattle.std.proofs.lemmas.List.{take_at}
use Rattle.std.proofs.lemmas.Bool.{and_parts}
use Rattle.ccsl_formula.specs.declared.scope.Scope.{Scope}
use Rattle.ccsl_formula.specs.Formula.{Formula}
use Rattle.ccsl_refute.specs.declared.line.Line.{Line}
use Rattle.ccsl_refute.specs.Bad.{is_bad, IsFirstBad}
use Rattle.ccsl_refute.specs.Validity.{line_at, is_valid, ends_empty, valid_from, are_valid, is_certificate, bad_from, first_bad_line}
use Rattle.ccsl_refute.proofs.Sound.{good-lines}

-- one more valid line
valid-snoc : (scope : Scope) (fs : List Formula) (earlier lines : List Line) (x : Line) → valid_from scope fs earlier lines ≡ true
    → is_valid scope fs (earlier ++ lines) x ≡ true →
    valid_from scope fs earlier (lines ++ x ∷ []) ≡ true
valid-snoc scope fs earlier [] x v h = ap (λ b. b && true) (ap (λ ls. is_valid scope fs ls x) (sym (append-nil earlier)) ∙ h)
valid-snoc scope fs earlier (y ∷ lines) x v h =
    ap (λ b. b && valid_from scope fs (earlier ++ y ∷ []) (lines ++ x ∷ []))
    ((and_parts (is_valid scope fs earlier y) (valid_from scope fs (earlier ++ y ∷ []) lines) v).0)
    ∙ valid-snoc scope fs (earlier ++ y ∷ []) lines x ((and_parts (is_valid scope fs earlier y) (valid_from scope fs (earlier ++ y ∷ []) lines) v).1)
    (ap (λ ls. is_valid scope fs ls x) (append_assoc earlier (y ∷ []) lines) ∙ h)

line-behind : (earlier lines : List Line) → slice_get (earlier ++ lines) (length earlier) ≡ slice_get lines 0
line-behind [] lines = refl
line-behind (x ∷ earlier) lines = line-behind earlier lines

take-earlier : (earlier lines : List Line) (j : ℕ) → suc (length earlier) ≡ j → take (j - 1) (earlier ++ lines) ≡ earlier
take-earlier earlier lines j e = take_at earlier lines (j - 1) (omega arith)

bad-at : (scope : Scope) (fs : List Formula) (earlier lines : List Line) (j : ℕ) → are_valid scope fs earlier ≡ true →
    is_bad scope fs earlier (slice_get lines 0) ≡ true → suc (length earlier) ≡ j → IsFirstBad scope fs (earlier ++ lines) j
bad-at scope fs earlier lines j v b e =
    let before : take (j - 1) (earlier ++ lines) ≡ earlier = take-earlier earlier lines j e in
    record {
      number = omega arith;
      within = omega (arith, length-append earlier lines);
      before = ap (are_valid scope fs) before ∙ v;
      here =
          ap (λ ls. is_bad scope fs ls (line_at (earlier ++ lines) j)) before
          ∙ ap (λ k. is_bad scope fs earlier (line_at (earlier ++ lines) k)) (sym e)
          ∙ ap (is_bad scope fs earlier) (line-behind earlier lines)
          ∙ b;
    }

pub bad-first : (scope : Scope) (fs : List Formula) (earlier lines : List Line) (j : ℕ) → are_valid scope fs earlier ≡ true →
    bad_from scope fs earlier lines ≡ Some j → IsFirstBad scope fs (earlier ++ lines) j
bad-first scope fs earlier [] j v e =
    (elim (ends_empty scope.declared earlier) as (λ b. ends_empty scope.declared earlier ≡ b → cond b None (Some (suc (length earlier))) ≡ Some j
    → IsFirstBad scope fs (earlier ++ []) j)
    [ true ↦ λ h q. absurd (cc) | false ↦ λ h q. bad-at scope fs earlier [] j v (ap not h) (cc) ]) refl e
bad-first scope fs earlier (x ∷ lines) j v e =
    (elim (is_valid scope fs earlier x) as (λ b. is_valid scope fs earlier x ≡ b →
    elim b [ true ↦ bad_from scope fs (earlier ++ x ∷ []) lines | false ↦ Some (suc (length earlier)) ] ≡ Some j
    → IsFirstBad scope fs (earlier ++ x ∷ lines) j) [
      | true ↦ λ h q. subst (λ (ls : List Line). IsFirstBad scope fs ls j) (append_assoc earlier (x ∷ []) lines)
          (bad-first scope fs (earlier ++ x ∷ []) lines j (valid-snoc scope fs [] earlier x v h) q)
      | false ↦ λ h q. bad-at scope fs earlier (x ∷ lines) j v (ap not h) (cc)
    ]) refl e

pub none-certificate : (scope : Scope) (fs : List Formula) (lines : List Line) → first_bad_line scope fs lines ≡ None → is_certificate scope fs lines ≡ true
none-certificate scope fs lines e =
    let good = good-lines scope fs [] lines e in
    ap (λ b. b && ends_empty scope.declared lines) good.0 ∙ good.1

certificate-from : (scope : Scope) (fs : List Formula) (earlier lines : List Line) → valid_from scope fs earlier lines ≡ true
    → ends_empty scope.declared (earlier ++ lines) ≡ true →
    bad_from scope fs earlier lines ≡ None
certificate-from scope fs earlier [] v e = ap (λ b. cond b None (Some (suc (length earlier)))) (ap (ends_empty scope.declared) (sym (append-nil earlier)) ∙ e)
certificate-from scope fs earlier (x ∷ lines) v e =
    ap (λ b. elim b [ true ↦ bad_from scope fs (earlier ++ x ∷ []) lines | false ↦ Some (suc (length earlier)) ])
    ((and_parts (is_valid scope fs earlier x) (valid_from scope fs (earlier ++ x ∷ []) lines) v).0)
    ∙ certificate-from scope fs (earlier ++ x ∷ []) lines ((and_parts (is_valid scope fs earlier x) (valid_from scope fs (earlier ++ x ∷ []) lines) v).1)
    (ap (ends_empty scope.declared) (append_assoc earlier (x ∷ []) lines) ∙ e)

pub certificate-none : (scope : Scope) (fs : List Formula) (lines : List Line) → is_certificate scope fs lines ≡ true → first_bad_line scope fs lines ≡ None
certificate-none scope fs lines e =
    certificate-from scope fs [] lines ((and_parts (are_valid scope fs lines) (ends_empty scope.declared lines) e).0)
    ((and_parts (are_valid scope fs lines) (ends_empty scope.declared lines) e).1)
