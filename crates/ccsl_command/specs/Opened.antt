-- The files that a command opens: each name with the slot under which it is opened.
use Rattle.std.specs.Prelude.{ℕ, List, [], ◌∷◌, Result, Ok, Err}
use Rattle.ccsl_edge.specs.declared.slot.Slot.{Slot}
use Rattle.ccsl_edge.specs.declared.slot.Slot.TheVariants as slot
use Rattle.ccsl_command.specs.declared.command.Command.{Command}
use Rattle.ccsl_command.specs.declared.command.Command.TheVariants as meant
use Rattle.ccsl_command.specs.declared.usage.Usage.{Usage}
use Rattle.ccsl_command.specs.Meaning.{meaning}

-- a file that is opened
pub record Opened : Type 0 where
  pub slot : Slot
  pub name : List ℕ

abbrev pub under : Slot → List ℕ → Opened
under slot name = record { slot = slot; name = name }

abbrev pub files_of : Command → List Opened
files_of (meant.Check spec) = under slot.Spec spec ∷ []
files_of (meant.Simulate spec policy seed steps trace cert) =
    under slot.Spec spec ∷ under slot.TraceOut trace ∷ under slot.CertOut cert ∷ []
files_of (meant.Judge spec trace workers) = under slot.Spec spec ∷ under slot.Trace trace ∷ []
files_of (meant.Certify spec trace cert) = under slot.Spec spec ∷ under slot.Trace trace ∷ under slot.Cert cert ∷ []
files_of (meant.Explain spec trace cert) = under slot.Spec spec ∷ under slot.Trace trace ∷ under slot.CertOut cert ∷ []
files_of (meant.Session spec policy seed) = under slot.Spec spec ∷ []
files_of _ = []

abbrev pub files_meant : Result Command Usage → List Opened
files_meant (Ok command) = files_of command
files_meant (Err fault) = []

-- the files that a list of words opens; refused words open none
abbrev pub files_opened : List (List ℕ) → List Opened
files_opened words = files_meant (meaning words)
