-- WHAT AN EXPLANATION SAYS: that some step is possible; or which items block every step, lines that show it, and for each of these
-- items the least step that would be possible without it. This project's own.
use Rattle.std.specs.Prelude.{ℕ, ◌<◌, ◌≡◌, List, [], ◌∷◌, true, All, Contains}
use Rattle.ccsl_base.specs.Clocks.{ticks_in}
use Rattle.ccsl_formula.specs.declared.scope.Scope.{Scope}
use Rattle.ccsl_formula.specs.Formula.{Formula, in_set}
use Rattle.ccsl_refute.specs.declared.line.Line.{Line}
use Rattle.ccsl_refute.specs.declared.line.Line.TheVariants.{Item}
use Rattle.ccsl_refute.specs.Meaning.{Solves, Blocks}
use Rattle.ccsl_refute.specs.Validity.{is_certificate}
use Rattle.ccsl_explain.specs.Core.{IsCore}
use Rattle.ccsl_explain.specs.Least.{IsLeastWithout}

-- a line about an item is about one of these
abbrev pub CitesOnly : List ℕ → Line → Type 0
CitesOnly core (Item i lits) = Contains core i
CitesOnly core _ = Unit {0}

module _ (scope : Scope) (formulas : List Formula) where
  -- s has a declared member and named ones only, and satisfies all formulas
  pub record IsPossible (s : List ℕ) : Type 0 where
    pub solves : Solves scope formulas (in_set s)
    pub named : (x : ℕ) → ticks_in x s ≡ true → x < scope.named

  -- one set for each of these members of the core, in order
  abbrev pub AreLeast : List ℕ → List ℕ → List (List ℕ) → Type 0
  AreLeast core [] [] = Unit {0}
  AreLeast core (i ∷ is) (s ∷ sets) = IsLeastWithout scope formulas core i s × AreLeast core is sets
  AreLeast core _ _ = ⊥

  -- all items together block; these are the core, as lines show that cite no other item, and the least steps without each of them
  pub record IsExplained (core : List ℕ) (lines : List Line) (without : List (List ℕ)) : Type 0 where
    pub blocks : Blocks scope formulas
    pub is_core : IsCore scope formulas core
    pub certificate : is_certificate scope formulas lines ≡ true
    pub cites : All (CitesOnly core) lines
    pub least : AreLeast core core without
