-- What a binder binds the clocks to.
use Rattle.std.specs.Prelude.{ℕ, ◌+◌, List, [], ◌∷◌, ◌++◌, Bool, true, Option, Some, None, Result, Ok, Err, nat_lt, ◌==◌, ◌&&◌, if◌then◌else◌, slice_get}
use Rattle.std.specs.Prelude.{unwrap_or}
use Rattle.ccsl_vcd.specs.Binding.{Bound}
use Rattle.ccsl_bind.specs.declared.candidate.Candidates.{Candidates}
use Rattle.ccsl_bind.specs.declared.fault.BindFault.{BindFault}
use Rattle.ccsl_bind.specs.declared.fault.BindFault.TheVariants.{Unbound, Ambiguous}
use Rattle.ccsl_bind.specs.Codes.{number_of}

-- the code of a number
abbrev pub text_at : List (List ℕ) → ℕ → List ℕ
text_at codes n = unwrap_or (slice_get codes n) []

-- the bound clocks from a number on, by what is known of each
abbrev pub bound_from : ℕ → List (List ℕ) → List (Option Candidates) → List Bound
bound_from clock codes [] = []
bound_from clock codes (None ∷ os) = bound_from (clock + 1) codes os
bound_from clock codes (Some c ∷ os) =
    record { clock = clock; code = text_at codes c.code; event = c.event } ∷ bound_from (clock + 1) codes os

-- a code has the number
abbrev pub is_numbered : List (List ℕ) → Option Candidates → Bool
is_numbered codes None = true
is_numbered codes (Some c) = unwrap_or (number_of (text_at codes c.code) codes) (c.code + 1) == c.code

abbrev pub are_numbered : List (List ℕ) → List (Option Candidates) → Bool
are_numbered codes [] = true
are_numbered codes (o ∷ os) = is_numbered codes o && are_numbered codes os

abbrev pub behind : List ℕ → Result (List ℕ) BindFault → Result (List ℕ) BindFault
behind clocks (Ok more) = Ok (clocks ++ more)
behind clocks (Err e) = Err e

-- the clocks that are bound, from a number on, or the fault of the first that has one
abbrev pub clocks_from : ℕ → ℕ → List (Option Candidates) → Result (List ℕ) BindFault
clocks_from clock declared [] = Ok []
clocks_from clock declared (None ∷ os) =
    if nat_lt clock declared then Err (Unbound clock) else clocks_from (clock + 1) declared os
clocks_from clock declared (Some c ∷ os) =
    if c.same then behind (clock ∷ []) (clocks_from (clock + 1) declared os) else Err (Ambiguous clock)

abbrev pub slot_of : Option (Option Candidates) → Option Candidates
slot_of None = None
slot_of (Some o) = o
