-- The codes that a header declares, and their numbers.
use Rattle.std.specs.Prelude.{ℕ, List, [], ◌∷◌, ◌++◌, Option, if◌then◌else◌, fold}
use Rattle.ccsl_base.specs.Names.{is_among, find_name}
use Rattle.ccsl_vcd.specs.Binding.{Declaration}

abbrev pub put_code : List (List ℕ) → List ℕ → List (List ℕ)
put_code codes code = if is_among code codes then codes else codes ++ code ∷ []

-- the codes of declarations, each once, in the order of first declarations
unfoldable pub codes_of : List Declaration → List (List ℕ)
codes_of ds = fold (λ codes d. put_code codes d.code) [] ds

-- the number of a code, from 0
abbrev pub number_of : List ℕ → List (List ℕ) → Option ℕ
number_of code codes = find_name code codes
