-- Counts that are cut.
use Rattle.std.proofs.Common.{◌≡◌, ℕ, ◌+◌, List, [], ◌∷◌, refl, arith}
use Rattle.ccsl_ast.specs.Trees.{SLine}
use Rattle.ccsl_rules.specs.Spaces.{Known, Callee}
use Rattle.ccsl_rules.specs.Counts.{cut, Weights, entry_count, body_count}

cut-twice : (n : ℕ) → cut (0 + cut n) ≡ cut n
cut-twice n = omega arith

-- the count of a body is cut
pub body_count-cut : (w : Weights) (calls : List (Known Callee)) (C : List ℕ) (es : List SLine) → cut (0 + body_count w calls C es) ≡ body_count w calls C es
body_count-cut w calls C [] = refl
body_count-cut w calls C (e ∷ es) = cut-twice (entry_count w calls C e + body_count w calls C es)

pub cut-sum : (a b d n : ℕ) → a ≡ cut d → n ≡ cut (d + b) → cut (a + b) ≡ n
cut-sum a b d n e f = omega (arith, e, f)
