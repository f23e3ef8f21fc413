-- How high a tree is: its operands are less high.
use Rattle.std.proofs.Common.{ℕ, ◌+◌}
use Rattle.ccsl_ast.specs.Trees.{Expression, EName, ECall, ENever, EBinary, EDelay, EAwait, EFilter, EDelayed, EIf}

abbrev pub height : Expression → ℕ
height (EName x) = 1
height (ECall x args) = 1
height ENever = 1
height (EBinary op a d) = 1 + (height a + height d)
height (EDelay a m) = 1 + height a
height (EAwait a m) = 1 + height a
height (EFilter a w) = 1 + height a
height (EDelayed a at m d) = 1 + (height a + height d)
height (EIf q a d) = 1 + (height a + height d)
