-- The files that words name, and the slots under which they are opened or which are read.
use Rattle.std.specs.Prelude.{ℕ, List, [], ◌∷◌, Bool, true, false, not, ◌&&◌, ◌||◌, nat_eq, if◌then◌else◌, Result, Ok}
use Rattle.std.specs.List.{list_any}
use Rattle.std.specs.Str.{bytes_eq}
use Rattle.ccsl_edge.specs.declared.slot.Slot.{Slot}
use Rattle.ccsl_edge.specs.declared.slot.Slot.TheVariants.{Spec, Input, TraceOut, CertOut}
use Rattle.ccsl_edge.specs.Order.{index_of}
use Rattle.ccsl_command.specs.declared.command.Command.{Command}
use Rattle.ccsl_command.specs.declared.command.Command.TheVariants as command
use Rattle.ccsl_command.specs.declared.usage.Usage.{Usage}
use Rattle.ccsl_command.specs.Meaning.{meaning}
use Rattle.ccsl_command.specs.Opened.{Opened, files_opened}

-- a world allows each file under its slot
abbrev pub AreAllowed : (Slot → List ℕ → Type 0) → List Opened → Type 0
AreAllowed allows [] = Unit {0}
AreAllowed allows (f ∷ fs) = allows f.slot f.name × AreAllowed allows fs

-- one slot is the other
abbrev pub is_slot : Slot → Slot → Bool
is_slot a b = nat_eq (index_of a) (index_of b)

-- whether a file is opened under a slot
abbrev pub opens : List Opened → Slot → Bool
opens files slot = list_any (λ file. is_slot file.slot slot) files

abbrev pub is_output : Slot → Bool
is_output slot = is_slot slot TraceOut || is_slot slot CertOut

-- whether a file of this name is opened for writing
abbrev pub writes : List Opened → List ℕ → Bool
writes files name = list_any (λ file. is_output file.slot && bytes_eq file.name name) files

-- whether a command reads standard input
abbrev pub is_session : Result Command Usage → Bool
is_session (Ok (command.Session spec policy seed)) = true
is_session other = false

-- whether the words read or write through a slot, the report aside
abbrev pub uses : List (List ℕ) → Slot → Bool
uses words slot = opens (files_opened words) slot || (is_session (meaning words) && is_slot slot Input)

-- how far a run goes that ends with a status: a refused specification is all that was read, and no file is written where the answer is
-- no, or a file is refused
abbrev pub reaches : ℕ → Slot → Bool
reaches status slot = if nat_eq status 3 then is_slot Spec slot else not ((nat_eq status 1 || nat_eq status 4) && is_output slot)

-- the slots that may have changed behind a run with that status, the report's aside
abbrev pub may_change : List (List ℕ) → ℕ → Slot → Bool
may_change words status slot = uses words slot && reaches status slot
