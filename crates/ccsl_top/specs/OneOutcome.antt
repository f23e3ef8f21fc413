-- That there is one outcome, but for the lines of a certificate.
use Rattle.std.specs.Prelude.{◌≡◌, ℕ, List, filter, not}
use Rattle.ccsl_edge.specs.declared.slot.Slot.TheVariants.{CertOut}
use Rattle.ccsl_top.specs.Opening.{is_slot}
use Rattle.ccsl_top.specs.Outcome.{Output, Outcome}
use Rattle.ccsl_top.specs.Program.{IsOutcome}

-- an outcome but for the certificate that it writes
abbrev pub but_certificate : Outcome → Outcome
but_certificate o = record { status = o.status; report = o.report; outputs = filter (λ (f : Output). not (is_slot f.slot CertOut)) o.outputs }

-- THE OUTCOME IS ONE, but for the lines of a certificate
abbrev pub OutcomesAreOne : Type 0
OutcomesAreOne = (words : List (List ℕ)) (content : List ℕ → List ℕ) (input : List ℕ) (o p : Outcome) →
    IsOutcome words content input o → IsOutcome words content input p → but_certificate o ≡ but_certificate p
