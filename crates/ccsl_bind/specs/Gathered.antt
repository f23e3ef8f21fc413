-- What a binder stands for.
use Rattle.std.specs.Prelude.{◌≡◌, ℕ, ◌≤◌, List, Option, Err, Result, length}
use Rattle.ccsl_base.specs.declared.limits.TheConstants.{MAX_CLOCKS}
use Rattle.ccsl_vcd.specs.declared.fault.VcdFault.{VcdFault}
use Rattle.ccsl_vcd.specs.declared.fault.VcdFault.TheVariants as faults
use Rattle.ccsl_vcd.specs.Binding.{Declaration, Wanted, Bound}
use Rattle.ccsl_bind.specs.declared.fault.BindFault.{BindFault}
use Rattle.ccsl_bind.specs.declared.fault.BindFault.TheVariants.{Unbound, Ambiguous, Memory}
use Rattle.ccsl_bind.specs.declared.candidate.Candidates.{Candidates}
use Rattle.ccsl_bind.specs.Codes.{codes_of}
use Rattle.ccsl_bind.specs.Candidates.{AllSumUp}

-- a binder as contracts see it
pub record Collected : Type 0 where
  pub wanted : Wanted
  -- the declared codes by number
  pub codes : List (List ℕ)
  -- what is known of each wanted name
  pub found : List (Option Candidates)

-- the declarations that a binder has taken, in order
pub record StandsFor (w : Wanted) (v : Collected) (ds : List Declaration) : Type 0 where
  pub wanted : v.wanted ≡ w
  pub codes : v.codes ≡ codes_of ds
  pub found : AllSumUp v.codes ds v.wanted.names v.found
  pub few : length v.wanted.names ≤ MAX_CLOCKS

-- the refusal is that of the binding, which takes no memory
abbrev pub Refuses : BindFault → Result (List Bound) VcdFault → Type 0
Refuses (Unbound clock) bound = bound ≡ Err (faults.Unbound clock)
Refuses (Ambiguous clock) bound = bound ≡ Err (faults.Ambiguous clock)
Refuses Memory bound = ⊥
