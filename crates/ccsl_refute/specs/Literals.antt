-- Literals and clauses under a partial assignment. A clause is a list of literals, of which at least one is true.
use Rattle.std.specs.Prelude.{ℕ, zero, suc, List, [], ◌∷◌, ◌++◌, Bool, true, false, not, ◌&&◌, Option, Some, None, if◌then◌else◌, nat_eq, nat_lt}
use Rattle.std.specs.List.{list_all, list_any}
use Rattle.ccsl_formula.specs.declared.truth3.Truth3.{Truth3}
use Rattle.ccsl_formula.specs.declared.truth3.Truth3.TheVariants.{Yes, No, Open}
use Rattle.ccsl_formula.specs.Truth.{known_as, not3, Part}
use Rattle.ccsl_refute.specs.declared.line.Lit.{Lit}

-- each literal false, and nothing else known
abbrev pub falsified : List Lit → Part
falsified [] x = Open
falsified (l ∷ ls) x = if nat_eq x l.clock then known_as (not l.positive) else falsified ls x

abbrev pub lit_value : Part → Lit → Truth3
lit_value p l = if l.positive then p l.clock else not3 (p l.clock)

abbrev pub is_no : Truth3 → Bool
is_no No = true
is_no _ = false

-- whether each literal is false
abbrev pub all_false : Part → List Lit → Bool
all_false p ls = list_all (λ l. is_no (lit_value p l)) ls

-- the literal that is not known, where there is just one and all others are false
abbrev pub unit : Part → List Lit → Option Lit
unit p [] = None
unit p (l ∷ ls) = elim (lit_value p l) [ Yes ↦ None | No ↦ unit p ls | Open ↦ if all_false p ls then Some l else None ]

-- whether some literal names a clock
abbrev pub names : ℕ → List Lit → Bool
names x ls = list_any (λ l. nat_eq x l.clock) ls

-- no clock is named twice, and each is below n
abbrev pub are_proper : ℕ → List Lit → Bool
are_proper n [] = true
are_proper n (l ∷ ls) = nat_lt l.clock n && (not (names l.clock ls) && are_proper n ls)

-- the clocks below n, positive
abbrev pub positives : ℕ → List Lit
positives zero = []
positives (suc n) = positives n ++ record { clock = n; positive = true } ∷ []
