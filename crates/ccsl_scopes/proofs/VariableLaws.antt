-- Variables that were declared, as codes and declarations are added.
use Rattle.std.proofs.Common.{◌≡◌, ℕ, suc, List, [], ◌∷◌, ◌++◌, length, refl, ap}
use Rattle.ccsl_scopes.specs.declared.variable.Variable.{Variable}
use Rattle.ccsl_scopes.specs.Headings.{Declared, with_code}
use Rattle.ccsl_scopes.specs.Standing.{IsVariable, AreVariables}
use Rattle.ccsl_scopes.proofs.CodeLaws.{find-kept}

pub none-declared : (known : List (List ℕ)) (vs : List Variable) → vs ≡ [] → AreVariables known [] vs
none-declared known [] e = tt
none-declared known (v ∷ vs) e = absurd (cc)

pub same-length : (known : List (List ℕ)) (ds : List Declared) (vs : List Variable) → AreVariables known ds vs → length vs ≡ length ds
same-length known [] [] a = refl
same-length known [] (v ∷ vs) a = absurd a
same-length known (d ∷ ds) [] a = absurd a
same-length known (d ∷ ds) (v ∷ vs) a = ap (λ n. suc n) (same-length known ds vs a.1)

is-kept : (known : List (List ℕ)) (y : List ℕ) (d : Declared) (v : Variable) → IsVariable known d v → IsVariable (with_code known y) d v
is-kept known y d v s = record { kind = s.kind; size = s.size; code = find-kept d.code y known v.code s.code; path = s.path; bare = s.bare; range = s.range }

pub all-kept : (known : List (List ℕ)) (y : List ℕ) (ds : List Declared) (vs : List Variable) → AreVariables known ds vs →
    AreVariables (with_code known y) ds vs
all-kept known y [] [] a = tt
all-kept known y [] (v ∷ vs) a = absurd a
all-kept known y (d ∷ ds) [] a = absurd a
all-kept known y (d ∷ ds) (v ∷ vs) a = (is-kept known y d v a.0, all-kept known y ds vs a.1)

pub all-more : (known : List (List ℕ)) (d : Declared) (v : Variable) → IsVariable known d v → (ds : List Declared) (vs : List Variable) →
    AreVariables known ds vs →
    AreVariables known (ds ++ d ∷ []) (vs ++ v ∷ [])
all-more known d v s [] [] a = (s, tt)
all-more known d v s [] (w ∷ ws) a = absurd a
all-more known d v s (e ∷ es) [] a = absurd a
all-more known d v s (e ∷ es) (w ∷ ws) a = (a.0, all-more known d v s es ws a.1)
