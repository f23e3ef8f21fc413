-- The levels of the expressions in a text, one by one.
use Rattle.std.specs.Prelude.{◌≡◌, ℕ, suc, List, [], ◌∷◌, ◌++◌, if◌then◌else◌}
use Rattle.ccsl_ast.specs.Trees.{Expression, EName, ECall, ENever, EBinary, EDelay, EAwait, EFilter, EDelayed, EIf}
use Rattle.ccsl_ast.specs.Depth.{stands_in_parens, depth, greatest}

-- those of an operand, which has levels ls in parentheses
abbrev pub operand_levels : Expression → List ℕ → List ℕ
operand_levels a ls = if stands_in_parens a then ls else []

-- the level of an expression that stands at level n, and those of the expressions in its parentheses and its branches
abbrev pub levels : ℕ → Expression → List ℕ
levels n (EName x) = n ∷ []
levels n (ECall x args) = n ∷ []
levels n ENever = n ∷ []
levels n (EBinary op a d) = n ∷ (operand_levels a (levels (suc n) a) ++ operand_levels d (levels (suc n) d))
levels n (EDelay a m) = n ∷ operand_levels a (levels (suc n) a)
levels n (EAwait a m) = n ∷ operand_levels a (levels (suc n) a)
levels n (EFilter a w) = n ∷ operand_levels a (levels (suc n) a)
levels n (EDelayed a at m d) = n ∷ (operand_levels a (levels (suc n) a) ++ operand_levels d (levels (suc n) d))
levels n (EIf q a d) = n ∷ (levels (suc n) a ++ levels (suc n) d)

-- THE LAW: the depth of an expression is the greatest level in it, where the whole has level 1
abbrev pub DepthIsGreatest : Type 0
DepthIsGreatest = (e : Expression) → depth e ≡ greatest (levels 1 e)
