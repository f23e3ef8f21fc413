-- How the lines are passed on the way to a wanted item, which is told by how many of its kind come before it.
use Rattle.std.specs.Prelude.{◌==◌, ◌-◌, Bool, true, false}
use Rattle.ccsl_origin.specs.declared.origin.Wanted.{Wanted}
use Rattle.ccsl_origin.specs.declared.origin.Wanted.TheVariants.{Written, Hidden, Constraint}

-- a definition is the wanted item: one in a relation's body is hidden, one of the system is written
abbrev pub is_definition : Bool → Wanted → Bool
is_definition false (Written n) = n == 0
is_definition true (Written n) = false
is_definition false (Hidden n) = false
is_definition true (Hidden n) = n == 0
is_definition hidden (Constraint n) = false

-- what is wanted behind a definition
abbrev pub past_definition : Bool → Wanted → Wanted
past_definition false (Written n) = Written (n - 1)
past_definition true (Written n) = Written n
past_definition false (Hidden n) = Hidden n
past_definition true (Hidden n) = Hidden (n - 1)
past_definition hidden (Constraint n) = Constraint n

abbrev pub is_constraint : Wanted → Bool
is_constraint (Written n) = false
is_constraint (Hidden n) = false
is_constraint (Constraint n) = n == 0

abbrev pub past_constraint : Wanted → Wanted
past_constraint (Written n) = Written n
past_constraint (Hidden n) = Hidden n
past_constraint (Constraint n) = Constraint (n - 1)
