-- What a binder keeps of the declarations that may bind a clock.
use Rattle.std.specs.Prelude.{◌≡◌, ℕ, List, [], ◌∷◌, Bool, true, Option, Some, None, nat_lt, ◌==◌, ◌&&◌, if◌then◌else◌, bytes_eq, ◌||◌, not, codes}
use Rattle.std.specs.List.{list_all}
use Rattle.ccsl_vcd.specs.Binding.{Declaration, is_event, candidates}
use Rattle.ccsl_bind.specs.declared.candidate.Candidates.{Candidates}
use Rattle.ccsl_bind.specs.Codes.{number_of}

-- one more declaration that qualifies
abbrev pub with_one : Candidates → ℕ → ℕ → Bool → Candidates
with_one c depth code event =
    if nat_lt c.depth depth then c
    else (if nat_lt depth c.depth then record { depth = depth; code = code; event = event; same = true }
    else record { depth = c.depth; code = c.code; event = c.event; same = c.same && (code == c.code) })

abbrev pub noted : Option Candidates → ℕ → ℕ → Bool → Candidates
noted (Some c) depth code event = with_one c depth code event
noted None depth code event = record { depth = depth; code = code; event = event; same = true }

-- what is kept of candidates whose codes have these numbers
pub record Sums (table : List (List ℕ)) (d : Declaration) (ds : List Declaration) (c : Candidates) : Type 0 where
  pub depth : c.depth ≡ d.depth
  pub code : number_of d.code table ≡ Some c.code
  pub event : c.event ≡ is_event d
  pub same : c.same ≡ list_all (λ e. bytes_eq e.code d.code) ds

abbrev pub SumsUp : List (List ℕ) → List Declaration → Option Candidates → Type 0
SumsUp table [] None = Unit {0}
SumsUp table [] (Some c) = ⊥
SumsUp table (d ∷ ds) None = ⊥
SumsUp table (d ∷ ds) (Some c) = Sums table d ds c

-- for each name
abbrev pub AllSumUp : List (List ℕ) → List Declaration → List (List ℕ) → List (Option Candidates) → Type 0
AllSumUp table ds [] [] = Unit {0}
AllSumUp table ds [] (o ∷ os) = ⊥
AllSumUp table ds (name ∷ names) [] = ⊥
AllSumUp table ds (name ∷ names) (o ∷ os) = SumsUp table (candidates name ds) o × AllSumUp table ds names os

-- whether a declaration of a type and size may bind the clock of its name
abbrev pub may_bind : List ℕ → ℕ → Bool
may_bind kind size =
    bytes_eq kind (codes "event") || (size == 1 && not (bytes_eq kind (codes "real") || (bytes_eq kind (codes "realtime") || bytes_eq kind (codes "string"))))
