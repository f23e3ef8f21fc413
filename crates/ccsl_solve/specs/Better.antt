-- Which of two sets is the better one by a list of wishes. This project's own.
use Rattle.std.specs.Prelude.{List, [], ◌∷◌, Bool, true, false}
use Rattle.ccsl_formula.specs.Truth.{Assignment}
use Rattle.ccsl_formula.specs.Formula.{same}
use Rattle.ccsl_refute.specs.declared.line.Lit.{Lit}

-- whether s has what is wished at the first wish for a clock at which s and t differ
abbrev pub is_better : List Lit → Assignment → Assignment → Bool
is_better [] s t = false
is_better (l ∷ ls) s t = elim (same (s l.clock) (t l.clock)) [ true ↦ is_better ls s t | false ↦ same (s l.clock) l.positive ]
