-- The first bad line of a certificate, said of the whole list of lines.
use Rattle.std.specs.Prelude.{ℕ, ◌+◌, ◌-◌, ◌<◌, ◌≤◌, ◌≡◌, List, Bool, true, not, Option, Some, None, length, take}
use Rattle.ccsl_formula.specs.declared.scope.Scope.{Scope}
use Rattle.ccsl_formula.specs.Formula.{Formula}
use Rattle.ccsl_refute.specs.declared.line.Line.{Line}
use Rattle.ccsl_refute.specs.Validity.{line_at, is_valid, ends_empty, are_valid}

-- whether a line is not valid after the earlier ones, or there is no further line and their last clause is not empty
abbrev pub is_bad : Scope → List Formula → List Line → Option Line → Bool
is_bad scope formulas earlier (Some line) = not (is_valid scope formulas earlier line)
is_bad scope formulas earlier None = not (ends_empty scope.declared earlier)

-- the lines before number j are valid, and j is bad: there is no line after the last one, so that one more than there are lines may be bad
pub record IsFirstBad (scope : Scope) (formulas : List Formula) (lines : List Line) (j : ℕ) : Type 0 where
  pub number : 0 < j
  pub within : j ≤ length lines + 1
  pub before : are_valid scope formulas (take (j - 1) lines) ≡ true
  pub here : is_bad scope formulas (take (j - 1) lines) (line_at lines j) ≡ true
