-- How states lie in memory: the tables that they keep are those of their system, and the dead clocks are those that the trees tell.
use Rattle.std.specs.Prelude.{◌≡◌, length}
use Rattle.ccsl_kernel.specs.Cells.{cells}
use Rattle.ccsl_kernel.specs.Accepted.{IsAccepted}
use Rattle.ccsl_state.specs.declared.states.States.TheInside.{Inside}
use Rattle.ccsl_state.specs.States.{places_from}
use Rattle.ccsl_state.specs.Below.{TreesBelow}
use Rattle.ccsl_state.specs.Held.{Held, calls_of, trees_of, deaths_of}

abbrev pub held : Inside → Held
held s = record { system = s.system.now; row = s.row.items }

pub record IsLaid (s : Inside) : Type 0 where
  pub accepted : IsAccepted s.system.now
  pub calls : s.calls.items ≡ calls_of s.system.now
  pub places : s.places.items ≡ places_from (calls_of s.system.now) 0 s.system.now.definitions
  pub row : length s.row.items ≡ cells s.system.now
  pub gone : s.gone ≡ deaths_of (held s)
  pub below : TreesBelow s.system.now.declared (trees_of (held s))
