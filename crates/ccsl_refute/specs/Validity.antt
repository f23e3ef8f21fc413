-- When the lines of a certificate are valid, against a list of formulas. Lines are numbered from 1. Nothing here knows of a solver.
use Rattle.std.specs.Prelude.{ℕ, zero, suc, List, [], ◌∷◌, ◌++◌, Bool, true, false, ◌&&◌, Option, Some, None, if◌then◌else◌, length, slice_get}
use Rattle.ccsl_base.specs.Empty.{is_empty}
use Rattle.ccsl_formula.specs.declared.scope.Scope.{Scope}
use Rattle.ccsl_formula.specs.Truth.{Part, with_value}
use Rattle.ccsl_formula.specs.Formula.{Formula, kleene}
use Rattle.ccsl_refute.specs.declared.line.Lit.{Lit}
use Rattle.ccsl_refute.specs.declared.line.Line.{Line}
use Rattle.ccsl_refute.specs.declared.line.Line.TheVariants.{Nonempty, Item, Derived}
use Rattle.ccsl_refute.specs.Literals.{falsified, is_no, all_false, unit, are_proper, positives}

-- the clause of a line
abbrev pub clause : ℕ → Line → List Lit
clause declared Nonempty = positives declared
clause declared (Item item lits) = lits
clause declared (Derived lits hints) = lits

-- line number j
abbrev pub line_at : List Line → ℕ → Option Line
line_at lines zero = None
line_at lines (suc i) = slice_get lines i

abbrev pub fails_line : ℕ → Part → Option Line → Bool
fails_line declared p None = false
fails_line declared p (Some line) = all_false p (clause declared line)

abbrev pub unit_line : ℕ → Part → Option Line → Option Lit
unit_line declared p None = None
unit_line declared p (Some line) = unit p (clause declared line)

-- whether the clause of line number j has each literal false
abbrev pub fails_at : ℕ → List Line → Part → ℕ → Bool
fails_at declared lines p j = fails_line declared p (line_at lines j)

-- the one literal that the clause of line number j leaves open
abbrev pub unit_at : ℕ → List Line → Part → ℕ → Option Lit
unit_at declared lines p j = unit_line declared p (line_at lines j)

-- the clauses of these lines close: each but the last one gives a literal, which becomes true, and the last one fails
abbrev pub closes : ℕ → List Line → Part → List ℕ → Bool
closes declared lines p [] = false
closes declared lines p (j ∷ []) = fails_at declared lines p j
closes declared lines p (j ∷ k ∷ js) =
    elim (unit_at declared lines p j) [ None ↦ false | Some l ↦ closes declared lines (with_value p l.clock l.positive) (k ∷ js) ]

abbrev pub is_refuted : Part → Option Formula → Bool
is_refuted p None = false
is_refuted p (Some f) = is_no (kleene f p)

-- whether the formula of an item has the Kleene value No where each literal is false and nothing else is known
abbrev pub refutes_item : List Formula → ℕ → List Lit → Bool
refutes_item formulas item lits = is_refuted (falsified lits) (slice_get formulas item)

-- whether a line is valid after the earlier ones
abbrev pub is_valid : Scope → List Formula → List Line → Line → Bool
is_valid scope formulas earlier Nonempty = true
is_valid scope formulas earlier (Item item lits) = are_proper scope.named lits && refutes_item formulas item lits
is_valid scope formulas earlier (Derived lits hints) = are_proper scope.named lits && closes scope.declared earlier (falsified lits) hints

-- whether there is a last line, and its clause is empty
abbrev pub ends_empty : ℕ → List Line → Bool
ends_empty declared [] = false
ends_empty declared (line ∷ []) = is_empty (clause declared line)
ends_empty declared (line ∷ next ∷ lines) = ends_empty declared (next ∷ lines)

-- whether these lines are valid after the earlier ones
abbrev pub valid_from : Scope → List Formula → List Line → List Line → Bool
valid_from scope formulas earlier [] = true
valid_from scope formulas earlier (line ∷ lines) = is_valid scope formulas earlier line && valid_from scope formulas (earlier ++ line ∷ []) lines

-- whether all lines are valid
abbrev pub are_valid : Scope → List Formula → List Line → Bool
are_valid scope formulas lines = valid_from scope formulas [] lines

-- a certificate: all lines are valid, and the last clause is empty
abbrev pub is_certificate : Scope → List Formula → List Line → Bool
is_certificate scope formulas lines = are_valid scope formulas lines && ends_empty scope.declared lines

abbrev pub bad_from : Scope → List Formula → List Line → List Line → Option ℕ
bad_from scope formulas earlier [] = if ends_empty scope.declared earlier then None else Some (suc (length earlier))
bad_from scope formulas earlier (line ∷ lines) =
    elim (is_valid scope formulas earlier line) [ true ↦ bad_from scope formulas (earlier ++ line ∷ []) lines | false ↦ Some (suc (length earlier)) ]

-- the first line that is not valid, or the number after the last line where the last clause is not empty or there is none
abbrev pub first_bad_line : Scope → List Formula → List Line → Option ℕ
first_bad_line scope formulas lines = bad_from scope formulas [] lines
