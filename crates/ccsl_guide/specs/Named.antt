-- Formulas and lines of named clocks, and the lists of a literal.
use Rattle.std.specs.Prelude.{ℕ, ◌+◌, ◌*◌, ◌<◌, ◌≤◌, List, All, length, slice_index_or, if◌then◌else◌}
use Rattle.std.specs.declared.vec.Vec.{Vec}
use Rattle.std.specs.declared.alloc.Global.{Global}
use Rattle.ccsl_formula.specs.Formula.{Formula, FTrue, FFalse, FVar, FNot, FAnd, FOr, FIff}
use Rattle.ccsl_refute.specs.declared.line.Lit.{Lit}
use Rattle.ccsl_refute.specs.declared.line.Line.{Line}
use Rattle.ccsl_refute.specs.Below.{AreBelow}
use Rattle.ccsl_refute.specs.LineLiterals.{literals}

-- each clock that the formula reads is below n, by cases
abbrev pub IsNamed : ℕ → Formula → Type 0
IsNamed n FTrue = Unit {0}
IsNamed n FFalse = Unit {0}
IsNamed n (FVar x) = x < n
IsNamed n (FNot f) = IsNamed n f
IsNamed n (FAnd f g) = IsNamed n f × IsNamed n g
IsNamed n (FOr f g) = IsNamed n f × IsNamed n g
IsNamed n (FIff f g) = IsNamed n f × IsNamed n g

-- each clock of each line's literals is below n
abbrev pub AreNamed : ℕ → List Line → Type 0
AreNamed n lines = All (λ line. AreBelow n (literals line)) lines

-- the number of a literal: for each clock its negative one comes first
abbrev pub number : Lit → ℕ
number l = 2 * l.clock + (if l.positive then 1 else 0)

-- the list at place k has n elements or more
abbrev pub HasAt : List (Vec ℕ Global) → ℕ → ℕ → Type 0
HasAt lists k n = (d : Vec ℕ Global) → n ≤ length (slice_index_or lists k d).items
