-- The codes of the variables of a header.
use Rattle.std.specs.Prelude.{◌≡◌, ℕ, List, Bool, true, nat_lt}
use Rattle.std.specs.List.{list_all}
use Rattle.ccsl_scopes.specs.declared.variable.Variable.{Variable}
use Rattle.ccsl_scopes.specs.declared.lookup.Resolution.{Resolution}
use Rattle.ccsl_scopes.specs.declared.lookup.Resolution.TheVariants.{Found, Unknown, Ambiguous}

-- whether each variable has the number of one of so many codes
abbrev pub are_declared : ℕ → List Variable → Bool
are_declared codes vs = list_all (λ v. nat_lt v.code codes) vs

-- what was found has
abbrev pub IsDeclared : ℕ → Resolution → Type 0
IsDeclared codes (Found t) = nat_lt t.code codes ≡ true
IsDeclared codes Unknown = Unit {0}
IsDeclared codes Ambiguous = Unit {0}
