-- A simulation that ends early has a certificate.
use Rattle.std.proofs.Common.{◌≡◌, ◌+◌, ◌≤◌, List, length, true, ap, ◌∙◌, arith}
use Rattle.std.proofs.lemmas.Bool.{and_from}
use Rattle.ccsl_base.specs.Clocks.{is_ascending, are_below}
use Rattle.ccsl_refute.specs.Existence.{HasCertificate, IsUnsolved, UnsolvedHaveCertificates}
use Rattle.ccsl_kernel.specs.Syntax.{System}
use Rattle.ccsl_kernel.specs.Accepted.{IsAccepted}
use Rattle.ccsl_kernel.specs.Lives.{Step}
use Rattle.ccsl_kernel.specs.Runs.{IsAdmissible, declared_part}
use Rattle.ccsl_items.specs.Formulas.{item_formulas, scope_of}
use Rattle.ccsl_items.specs.Laws.{IsNamedRun, FormulasReadNamed}
use Rattle.ccsl_items.proofs.Solutions.{solution_admissible}

module _ (certify : UnsolvedHaveCertificates) (K : System) (ok : IsAccepted K) (named : FormulasReadNamed K) (T : List Step) (run : IsNamedRun K T)
    (ends : (s : Step) → IsAdmissible K T s → ⊥) where
  unsolved : IsUnsolved (scope_of K) (item_formulas K T)
  unsolved set ascends below solves =
      let is-below : are_below (K.declared + length K.definitions) set ≡ true = ap (λ n. are_below n set) ok.defined ∙ below in
      ends (declared_part K set)
      (solution_admissible K ok T run set (record {
        named =
            and_from (is_ascending set) (are_below (K.declared + length K.definitions) set) ascends is-below;
        solves = solves;
      }))

  pub end-certified : HasCertificate (scope_of K) (item_formulas K T)
  end-certified = certify (scope_of K) (item_formulas K T) (let l : K.declared ≤ length K.names = omega (arith, ok.defined) in l) (named T) unsolved
