-- The text of the lines of a certificate: one blank between tokens, and a line feed after each line.
use Rattle.std.specs.Prelude.{ℕ, List, [], ◌∷◌, ◌++◌, map, codes, decimal, if◌then◌else◌, unwrap_or, slice_get}
use Rattle.std.specs.List.{flat_map}
use Rattle.ccsl_refute.specs.declared.line.Lit.{Lit}
use Rattle.ccsl_refute.specs.declared.line.Line.{Line}
use Rattle.ccsl_refute.specs.declared.line.Line.TheVariants.{Nonempty, Item, Derived}

-- texts with a blank before each
abbrev pub spaced : List (List ℕ) → List ℕ
spaced ws = flat_map (λ w. 32 ∷ w) ws

abbrev pub name_of : List (List ℕ) → ℕ → List ℕ
name_of names x = unwrap_or (slice_get names x) []

abbrev pub literal_text : List (List ℕ) → Lit → List ℕ
literal_text names l = if l.positive then name_of names l.clock else 45 ∷ name_of names l.clock

abbrev pub line_text : List (List ℕ) → Line → List ℕ
line_text names Nonempty = codes "n"
line_text names (Item item lits) = codes "i" ++ spaced (decimal item ∷ map (literal_text names) lits)
line_text names (Derived lits hints) = codes "r" ++ spaced (map (literal_text names) lits ++ codes "from" ∷ map decimal hints)

abbrev pub lines_text : List (List ℕ) → List Line → List ℕ
lines_text names lines = flat_map (λ line. line_text names line ++ 10 ∷ []) lines
