-- Strong Kleene logic: a truth value that may be open (S. C. Kleene, Introduction to Metamathematics, 1952, section 64).
use Rattle.std.specs.Prelude.{ℕ, Bool, true, false, nat_eq, if◌then◌else◌}
use Rattle.ccsl_formula.specs.declared.truth3.Truth3.{Truth3}
use Rattle.ccsl_formula.specs.declared.truth3.Truth3.TheVariants.{Yes, No, Open}

-- a known truth value
abbrev pub known_as : Bool → Truth3
known_as true = Yes
known_as false = No

abbrev pub not3 : Truth3 → Truth3
not3 Yes = No
not3 No = Yes
not3 Open = Open

abbrev pub and3 : Truth3 → Truth3 → Truth3
and3 Yes b = b
and3 No b = No
and3 Open Yes = Open
and3 Open No = No
and3 Open Open = Open

abbrev pub or3 : Truth3 → Truth3 → Truth3
or3 Yes b = Yes
or3 No b = b
or3 Open Yes = Yes
or3 Open No = Open
or3 Open Open = Open

abbrev pub iff3 : Truth3 → Truth3 → Truth3
iff3 Yes b = b
iff3 No b = not3 b
iff3 Open b = Open

-- the truth values of some clocks: open where nothing is known
abbrev pub Part : Type 0
Part = ℕ → Truth3

-- the truth values of all clocks
abbrev pub Assignment : Type 0
Assignment = ℕ → Bool

-- p, and b at y
abbrev pub with_value : Part → ℕ → Bool → Part
with_value p y b x = if nat_eq x y then known_as b else p x
