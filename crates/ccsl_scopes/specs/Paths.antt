-- What a path means in a header. Its parts, and a variable's scopes and name, stand with a blank between two: no name has one.
use Rattle.std.specs.Prelude.{ℕ, ◌-◌, List, [], ◌∷◌, length, take, drop, Bool, true, false, Option, Some, None, nat_lt, bytes_eq, get_or, ◌==◌, ◌&&◌, ◌||◌}
use Rattle.std.specs.Prelude.{if◌then◌else◌}
use Rattle.ccsl_scopes.specs.declared.select.Select.{Select}
use Rattle.ccsl_scopes.specs.declared.select.Select.TheVariants.{Whole}
use Rattle.ccsl_scopes.specs.declared.select.Bits.{Bits}
use Rattle.ccsl_scopes.specs.declared.variable.Variable.{Variable}
use Rattle.ccsl_scopes.specs.declared.variable.Kind.{Kind}
use Rattle.ccsl_scopes.specs.declared.variable.Kind.TheVariants as kinds
use Rattle.ccsl_scopes.specs.declared.lookup.Target.{Target}
use Rattle.ccsl_scopes.specs.declared.lookup.Agreed.{Agreed}
use Rattle.ccsl_scopes.specs.declared.lookup.Agreed.TheVariants.{Nothing, One, Several}
use Rattle.ccsl_scopes.specs.declared.lookup.Resolution.{Resolution}
use Rattle.ccsl_scopes.specs.declared.lookup.Resolution.TheVariants.{Found, Unknown, Ambiguous}
use Rattle.ccsl_scopes.specs.Selects.{bits_of}

-- whether names are these parts, or end with them
abbrev pub ends_in : List ℕ → List ℕ → Bool
ends_in text parts =
    bytes_eq text parts
    || (nat_lt (length parts) (length text)
    && (get_or text (length text - length parts - 1) 0 == 32 && bytes_eq (drop (length text - length parts) text) parts))

abbrev pub is_or_ends_in : Bool → List ℕ → List ℕ → Bool
is_or_ends_in true text parts = bytes_eq text parts
is_or_ends_in false text parts = ends_in text parts

-- whether values are letters of bits, or records of an event
abbrev pub has_letters : Kind → Bool
has_letters kinds.Bits = true
has_letters kinds.Event = true
has_letters kinds.Other = false

abbrev pub with_bits : Variable → Option Bits → Option Target
with_bits v None = None
with_bits v (Some b) = Some (record { code = v.code; size = v.size; kind = v.kind; bits = b })

-- What a path means of one variable, whose names are these parts, or end with them. It is meant by its bare name, or by the
-- whole of its reference.
abbrev pub target_of : Bool → List ℕ → Select → Variable → Option Target
target_of exact parts select v =
    if has_letters v.kind
    then (if is_or_ends_in exact (take v.bare v.path.items) parts then with_bits v (bits_of v.range v.size select)
    else (if is_or_ends_in exact v.path.items parts then with_bits v (bits_of Whole v.size select) else None))
    else None

abbrev pub same_bits : Bits → Bits → Bool
same_bits b c = b.low == c.low && b.width == c.width

-- the same bits of one code
abbrev pub is_same : Target → Target → Bool
is_same t u = t.code == u.code && (t.size == u.size && same_bits t.bits u.bits)

abbrev pub joined : Agreed → Option Target → Agreed
joined found None = found
joined Nothing (Some t) = One t
joined (One u) (Some t) = if is_same u t then One u else Several
joined Several (Some t) = Several

-- what all variables that a path means have in common, behind what was found before
abbrev pub only_from : Agreed → Bool → List ℕ → Select → List Variable → Agreed
only_from found exact parts select [] = found
only_from found exact parts select (v ∷ vs) = only_from (joined found (target_of exact parts select v)) exact parts select vs

abbrev pub only : Bool → List ℕ → Select → List Variable → Agreed
only exact parts select vs = only_from Nothing exact parts select vs

-- Where names that end with the parts mean several things, one whose names are the parts wins.
abbrev pub chosen : Agreed → Agreed → Resolution
chosen Nothing exact = Unknown
chosen (One t) exact = Found t
chosen Several (One t) = Found t
chosen Several Nothing = Ambiguous
chosen Several Several = Ambiguous

unfoldable pub resolved : List ℕ → Select → List Variable → Resolution
resolved parts select vs = chosen (only false parts select vs) (only true parts select vs)
