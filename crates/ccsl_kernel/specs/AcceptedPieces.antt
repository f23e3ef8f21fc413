-- The sentences of IsAccepted in two parts: those on numbers alone, and those on names, members, definitions and constraints one by one.
use Rattle.std.specs.Prelude.{◌≡◌, ◌+◌, ◌≤◌, All, IsTrue, length, nat_lt, if◌then◌else◌}
use Rattle.ccsl_base.specs.declared.limits.TheConstants.{MAX_CLOCKS, MAX_CONSTRAINTS}
use Rattle.ccsl_base.specs.Name.{is_name}
use Rattle.ccsl_kernel.specs.Syntax.{System}
use Rattle.ccsl_kernel.specs.Accepted.{Each, IsBody, IsDefinition, IsConstraint, is_hidden}

-- how many clocks, definitions and constraints there are
pub record IsCounted (K : System) : Type 0 where
  pub declared : K.declared ≤ K.written
  pub written : K.written ≤ length K.names
  pub few_clocks : length K.names ≤ MAX_CLOCKS
  pub defined : K.declared + length K.definitions ≡ length K.names
  pub few_constraints : length K.constraints ≤ MAX_CONSTRAINTS

-- all but the levels of groups and the count of cells
pub record IsWellFormed (K : System) : Type 0 where
  pub counted : IsCounted K
  pub names : Each (λ i name. IsTrue (if nat_lt i K.written then is_name name else is_hidden name)) 0 K.names
  pub bodies : Each (λ g members. All (IsBody K g) members) 0 K.groups
  pub definitions : Each (IsDefinition K) K.declared K.definitions
  pub constraints : All (IsConstraint (length K.names)) K.constraints
