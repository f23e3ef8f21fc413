-- Where there is a certificate.
use Rattle.std.specs.Prelude.{◌≡◌, ℕ, ◌≤◌, List, true, All}
use Rattle.ccsl_base.specs.Clocks.{is_ascending, are_below}
use Rattle.ccsl_formula.specs.declared.scope.Scope.{Scope}
use Rattle.ccsl_formula.specs.Formula.{Formula, in_set}
use Rattle.ccsl_formula.specs.Variables.{ReadsBelow}
use Rattle.ccsl_refute.specs.declared.line.Line.{Line}
use Rattle.ccsl_refute.specs.Meaning.{Solves}
use Rattle.ccsl_refute.specs.Validity.{is_certificate}

module _ (scope : Scope) (formulas : List Formula) where
  -- there is a certificate
  pub record HasCertificate : Type 0 where
    pub lines : List Line
    pub valid : is_certificate scope formulas lines ≡ true

  -- no set of named clocks with a declared member satisfies all formulas
  abbrev pub IsUnsolved : Type 0
  IsUnsolved = (set : List ℕ) → is_ascending set ≡ true → are_below scope.named set ≡ true → Solves scope formulas (in_set set) → ⊥

-- WHAT NO SET SATISFIES HAS A CERTIFICATE, of formulas over the named clocks
abbrev pub UnsolvedHaveCertificates : Type 0
UnsolvedHaveCertificates = (scope : Scope) (formulas : List Formula) → scope.declared ≤ scope.named → All (ReadsBelow scope.named) formulas →
    IsUnsolved scope formulas → HasCertificate scope formulas
