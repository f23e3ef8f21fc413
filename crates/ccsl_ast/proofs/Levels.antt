-- The depth of an expression is the greatest level in it.
use Rattle.std.proofs.Common.{◌≡◌, ℕ, suc, ◌+◌, max, Bool, true, false, List, [], ◌∷◌, ◌++◌, arith, cond}
use Rattle.ccsl_ast.specs.Trees.{Expression, EName, ECall, ENever, EBinary, EDelay, EAwait, EFilter, EDelayed, EIf}
use Rattle.ccsl_ast.specs.Depth.{stands_in_parens, depth, operand_depth, greatest}
use Rattle.ccsl_ast.specs.Levels.{operand_levels, levels, DepthIsGreatest}

pub greatest-append : (xs ys : List ℕ) → greatest (xs ++ ys) ≡ max (greatest xs) (greatest ys)
greatest-append [] ys = omega arith
greatest-append (x ∷ xs) ys = let h = greatest-append xs ys in omega arith

-- an operand in parentheses reaches as many levels more as it is deep
operand_reaches : (n : ℕ) (a : Expression) → greatest (levels (suc n) a) ≡ n + depth a
    → max n (greatest (operand_levels a (levels (suc n) a))) ≡ n + operand_depth a (depth a)
operand_reaches n a h = by_parens (stands_in_parens a)
  where
    by_parens : (t : Bool) → max n (greatest (cond t (levels (suc n) a) [])) ≡ n + cond t (depth a) 0
    by_parens true = omega (arith, h)
    by_parens false = omega arith

-- an expression of depth k at level n + 1 has greatest level n + k
reaches : (n : ℕ) (e : Expression) → greatest (levels (suc n) e) ≡ n + depth e
reaches n (EName x) = omega arith
reaches n (ECall x args) = omega arith
reaches n ENever = omega arith
reaches n (EBinary op a d) =
    let h = operand_reaches (suc n) a (reaches (suc n) a) in
    let i = operand_reaches (suc n) d (reaches (suc n) d) in
    omega (arith, greatest-append (operand_levels a (levels (suc (suc n)) a)) (operand_levels d (levels (suc (suc n)) d)))
reaches n (EDelay a m) = let h = operand_reaches (suc n) a (reaches (suc n) a) in omega arith
reaches n (EAwait a m) = let h = operand_reaches (suc n) a (reaches (suc n) a) in omega arith
reaches n (EFilter a w) = let h = operand_reaches (suc n) a (reaches (suc n) a) in omega arith
reaches n (EDelayed a at m d) =
    let h = operand_reaches (suc n) a (reaches (suc n) a) in
    let i = operand_reaches (suc n) d (reaches (suc n) d) in
    omega (arith, greatest-append (operand_levels a (levels (suc (suc n)) a)) (operand_levels d (levels (suc (suc n)) d)))
reaches n (EIf q a d) =
    let h = reaches (suc n) a in
    let i = reaches (suc n) d in
    omega (arith, greatest-append (levels (suc (suc n)) a) (levels (suc (suc n)) d))

pub depth_is_greatest : DepthIsGreatest
depth_is_greatest e = let h = reaches 0 e in omega arith
