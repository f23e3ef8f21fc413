-- How the code reads a line: what it has found, as contracts see it, and the names of clocks one by one.
use Rattle.std.specs.Prelude.{ℕ, List, [], ◌∷◌, Option, Some, None, if◌then◌else◌}
use Rattle.ccsl_base.specs.Clocks.{ticks_in, with_clock}
use Rattle.ccsl_base.specs.Names.{find_name}
use Rattle.ccsl_kernel.specs.Syntax.{System}
use Rattle.ccsl_kernel.specs.Lives.{Step}
use Rattle.ccsl_session.specs.declared.asked.Asked.{Asked as Found}
use Rattle.ccsl_session.specs.declared.asked.Asked.TheVariants as found
use Rattle.ccsl_session.specs.Asked.{Asked, Nothing, Fire, Next, Back, Allowed, Trace, Quit, Long, Unknown, declared_names}

abbrev pub plain : Found → Asked
plain found.Nothing = Nothing
plain (found.Fire set) = Fire set
plain found.Next = Next
plain found.Back = Back
plain found.Allowed = Allowed
plain found.Trace = Trace
plain found.Quit = Quit
plain found.Long = Long
plain found.Unknown = Unknown

-- the set s with the clocks of some names, where each name is that of a declared clock that was no member
abbrev pub read_clocks : System → Step → List (List ℕ) → Option Step
read_clocks K s [] = Some s
read_clocks K s (name ∷ names) = elim (find_name name (declared_names K)) [
  | None ↦ None
  | Some x ↦ if ticks_in x s then None else read_clocks K (with_clock x s) names
]
