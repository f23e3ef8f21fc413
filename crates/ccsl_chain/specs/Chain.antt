-- THE CHAIN OF ALTERNATIONS: of n clocks c0, c1, .. each alternates with the next one. It is the system of the text
--     ccsl 1; system { clock c0, c1, c2; alternates(c0, c1); alternates(c1, c2); }
-- behind the library, here for three clocks. This project's own.
use Rattle.std.specs.Prelude.{ℕ, ◌+◌, ◌-◌, List, [], ◌∷◌, ◌++◌, map, flat_map, codes, decimal}
use Rattle.std.specs.List.{range_with_len}
use Rattle.ccsl_kernel.specs.declared.expr.Place.TheVariants.{Clock}
use Rattle.ccsl_kernel.specs.declared.expr.NumPrim.TheVariants.{Num}
use Rattle.ccsl_kernel.specs.declared.constraint.Constraint.{Constraint}
use Rattle.ccsl_kernel.specs.declared.constraint.RelationKind.TheVariants.{Precedes}
use Rattle.ccsl_kernel.specs.Syntax.{Body, System, Expression, EName, EDelay}
use Rattle.ccsl_rules.specs.Expansion.{expand}
use Rattle.ccsl_library.specs.Library.{the_library}

-- the name of clock i
abbrev pub clock_name : ℕ → List ℕ
clock_name i = codes "c" ++ decimal i

-- the path of the call that makes clock i and clock i + 1 alternate: it stands at place i + 1, behind the line of clocks
abbrev pub call_path : ℕ → List ℕ
call_path i = codes "alternates@" ++ decimal (i + 1)

-- the clock that the call hides: it ticks with clock i, but for the first tick
abbrev pub hidden_name : ℕ → List ℕ
hidden_name i = call_path i ++ codes ".next"

abbrev pub all_but_first : ℕ → Expression
all_but_first i = EDelay (EName (Clock i)) (record { first = Num 1; rest = [] })

-- clock a precedes clock b, as call i says
abbrev pub precedes : ℕ → ℕ → ℕ → Constraint
precedes i a b = record { kind = Precedes; left = a; right = b; label = call_path i }

-- clock i precedes clock i + 1, which precedes the hidden clock; the first hidden one is number n
abbrev pub alternation : ℕ → ℕ → List Constraint
alternation n i = precedes i i (i + 1) ∷ precedes i (i + 1) (n + i) ∷ []

-- the groups of the library, which every system has
abbrev pub own_groups : List (List Body)
own_groups = (expand the_library (record { version = 1; definitions = []; lines = [] })).groups

unfoldable pub chain : ℕ → System
chain n = let clocks = range_with_len 0 n in let calls = range_with_len 0 (n - 1) in record {
  names = map clock_name clocks ++ map hidden_name calls;
  declared = n;
  written = n;
  groups = own_groups;
  words = [];
  definitions = map all_but_first calls;
  constraints = flat_map (alternation n) calls;
}
