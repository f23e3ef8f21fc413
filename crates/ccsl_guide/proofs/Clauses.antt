-- Clauses of named clocks.
use Rattle.std.proofs.Common.{ℕ, zero, suc, ◌<◌, ◌≤◌, List, [], ◌∷◌, All, arith}
use Rattle.ccsl_formula.specs.declared.scope.Scope.{Scope}
use Rattle.ccsl_refute.specs.declared.line.Lit.{Lit}
use Rattle.ccsl_refute.specs.declared.line.Line.{Line}
use Rattle.ccsl_refute.specs.declared.line.Line.TheVariants.{Nonempty, Item, Derived}
use Rattle.ccsl_refute.specs.Below.{AreBelow}
use Rattle.ccsl_refute.specs.LineLiterals.{literals}
use Rattle.ccsl_refute.specs.Validity.{clause}
use Rattle.ccsl_refute.proofs.Bounds.{positives-below}

each-below : (n : ℕ) (ls : List Lit) → AreBelow n ls → All (λ l. l.clock < n) ls
each-below n [] h k d l = absurd (omega arith)
each-below n (x ∷ ls) h zero d l = h.0
each-below n (x ∷ ls) h (suc k) d l = each-below n ls h.1 k d (omega arith)

below : (scope : Scope) (line : Line) → scope.declared ≤ scope.named → AreBelow scope.named (literals line) → AreBelow scope.named (clause scope.declared line)
below scope Nonempty l h = positives-below scope.declared scope.named l
below scope (Item k lits) l h = h
below scope (Derived lits hints) l h = h

pub clause-below : (scope : Scope) (line : Line) → scope.declared ≤ scope.named → AreBelow scope.named (literals line)
    → All (λ l. l.clock < scope.named) (clause scope.declared line)
clause-below scope line l h = each-below scope.named (clause scope.declared line) (below scope line l h)
